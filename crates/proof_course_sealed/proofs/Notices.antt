-- A notice that is read names a node, 1 to 232.
use Rattle.std.proofs.Common.{◌≡◌, ℕ, ◌&&◌, Bool, true, false, cond, eqb, List, refl, ap, subst}
use Rattle.std.specs.Prelude.{Some, None, Ok, Err, nat_le, if◌then◌else◌}
use Rattle.std.proofs.lemmas.Bool.{and_parts, leb-true}
use Rattle.std.proofs.lemmas.Option.{none-some as none_is}
use Rattle.chip_functions.specs.declared.fault.BodyFault.TheVariants.{UnknownFunction, BadField}
use Rattle.chip_functions.specs.declared.function.TheConstants.{APPLICATION_COMMAND_HANDLER, SEND_DATA, ADD_NODE, APPLICATION_UPDATE}
use Rattle.chip_functions.specs.declared.notice.TheConstants.{UPDATE_RECEIVED, UPDATE_FAILED}
use Rattle.chip_functions.specs.declared.notice.Notice.{Notice}
use Rattle.chip_functions.specs.declared.notice.Notice.TheVariants.{ApplicationCommandHandler, ApplicationUpdate}
use Rattle.chip_functions.specs.Place.{Place, start_of, byte_from, found_at}
use Rattle.chip_functions.specs.Field.{Field, node, byte, counted, ◌then◌, read_as}
use Rattle.chip_functions.specs.Classes.{classes as class_list}
use Rattle.chip_functions.specs.Notice.{IsUpdate, handler, received, request_failed, callback, update, handler_at, callback_at, add_notice_at, update_at, received_at, request_failed_at, notice_at, notice_of}
use Rattle.chip_functions.specs.AddNode.{add_notice}
use Rattle.chip_functions.proofs.FieldLaws.{bind_ok, found_ok, ok_is, as_takes}
use Rattle.chip_functions.proofs.RowLaws.{row_cases, no_row}
use Rattle.host_keep.specs.Rows.{IsNode}

-- the node that a notice names is one
abbrev pub NamesNode : Notice → Type 0
NamesNode (ApplicationCommandHandler status source payload) = IsNode source
NamesNode (ApplicationUpdate update) = IsUpdate update
NamesNode notice = Unit {0}

-- a byte that is read as a node is 1 to 232
within : (b : Bool) (n found : ℕ) → (b ≡ true → IsNode n) → (if b then Some n else None) ≡ Some found → IsNode found
within true n found is same = let e : n ≡ found = cc in subst (λ (k : ℕ). IsNode k) e (is refl)
within false n found is same = absurd (none_is found same)

-- what is read of a field fits
abbrev Fits : {A : Type 0} → Field A → (A → Type 0) → Type 0
Fits {A} field F = (p : Place) (x : A) (q : Place) → field.read p ≡ Ok (x, q) → F x

any_fits : {A : Type 0} (field : Field A) → Fits field (λ x. Unit {0})
any_fits field p x q is = tt

node_fits : Fits node IsNode
node_fits p n q is =
    let (b, read, found) = bind_ok (byte_from p.before p.rest) (λ b. found_at p.before (if nat_le 1 b.0 && nat_le b.0 232 then Some b.0 else None) b.1) (n, q) is in
    within (nat_le 1 b.0 && nat_le b.0 232) b.0 n
    (λ e. let both = and_parts (nat_le 1 b.0) (nat_le b.0 232) e in (leb-true 1 b.0 both.0, leb-true b.0 232 both.1))
    (found_ok p.before (if nat_le 1 b.0 && nat_le b.0 232 then Some b.0 else None) b.1 n q found).0

then_fits : {A B : Type 0} (first : Field A) (second : Field B) (F : A → Type 0) (G : B → Type 0) → Fits first F → Fits second G → Fits (first then second) (λ x. F x.0 × G x.1)
then_fits {A} {B} first second F G fits also p x q is =
    let (a, read, more) = bind_ok (first.read p) _ (x, q) is in
    let (b, read_more, same) = bind_ok (second.read a.1) _ (x, q) more in
    let e : (a.0, b.0) ≡ x = ap (λ z. z.0) (ok_is ((a.0, b.0), b.1) (x, q) same) in
    subst (λ (z : A × B). F z.0 × G z.1) e (fits p a.0 a.1 read, also a.1 b.0 b.1 read_more)

row_fits : {A V : Type 0} (field : Field A) (F : A → Type 0) → Fits field F → (make : A → V) (P : V → Type 0) → ((x : A) → F x → P (make x)) → (p q : Place) (v : V) → read_as make (field.read p) ≡ Ok (v, q) → P v
row_fits field F fits make P gives p q v is = let a = as_takes make (field.read p) v q is in subst P a.2 (gives a.0 (fits p a.0 q a.1))

handler_fits : Fits handler (λ x. Unit {0} × (IsNode x.1.0 × Unit {0}))
handler_fits = then_fits byte (node then counted 1) _ _ (any_fits byte) (then_fits node (counted 1) _ _ node_fits (any_fits (counted 1)))

received_fits : Fits received (λ x. IsNode x.0 × Unit {0})
received_fits = then_fits node class_list _ _ node_fits (any_fits class_list)

update_fits : Fits update IsUpdate
unfolding received_at request_failed_at
update_fits p u q is =
    let a = bind_ok (byte_from p.before p.rest) (λ status. cond (eqb status.0 UPDATE_RECEIVED) (received_at status.1) (cond (eqb status.0 UPDATE_FAILED) (request_failed_at status.1) (Err (BadField p.before)))) (u, q) is in
    row_cases a.0.0 UPDATE_RECEIVED _ _ _ a.2 (λ f h. row_fits received _ received_fits _ IsUpdate (λ x fits. fits.0) a.0.1 q u h) (λ e.
    row_cases a.0.0 UPDATE_FAILED _ _ _ e (λ f h. row_fits request_failed _ (any_fits request_failed) _ IsUpdate (λ x fits. tt) a.0.1 q u h) (λ e.
    absurd (no_row (BadField p.before) u q e)))

at_fits : (function : ℕ) (p q : Place) (v : Notice) → notice_at function p ≡ Ok (v, q) → NamesNode v
unfolding notice_at handler_at callback_at add_notice_at update_at
at_fits function p q v e =
    row_cases function APPLICATION_COMMAND_HANDLER _ _ _ e (λ f h. row_fits handler _ handler_fits _ NamesNode (λ x fits. fits.1.0) p q v h) (λ e.
    row_cases function SEND_DATA _ _ _ e (λ f h. row_fits callback _ (any_fits callback) _ NamesNode (λ x fits. tt) p q v h) (λ e.
    row_cases function ADD_NODE _ _ _ e (λ f h. row_fits add_notice _ (any_fits add_notice) _ NamesNode (λ x fits. tt) p q v h) (λ e.
    row_cases function APPLICATION_UPDATE _ _ _ e (λ f h. row_fits update _ update_fits _ NamesNode (λ x fits. fits) p q v h) (λ e.
    absurd (no_row (UnknownFunction function) v q e)))))

pub notice_names : (function : ℕ) (body : List ℕ) (v : Notice) → notice_of function body ≡ Ok v → NamesNode v
unfolding notice_of
notice_names function body v is =
    let a = bind_ok (notice_at function (start_of body)) (λ x. Ok x.0) v is in
    subst NamesNode (ok_is a.0.0 v a.2) (at_fits function (start_of body) a.0.1 a.0.0 a.1)
