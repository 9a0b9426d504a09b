-- A payload that the chip brings is from a node.
use Rattle.std.proofs.Common.{◌≡◌, ℕ, ◌&&◌, Bool, true, false, if◌then◌else◌, List, nat_le, refl, ap, subst, ◌∙◌}
use Rattle.std.specs.Prelude.{Some, None, Result, Ok, Err}
use Rattle.std.proofs.lemmas.Bool.{leb-true}
use Rattle.chip_functions.specs.declared.fault.BodyFault.{BodyFault}
use Rattle.chip_functions.specs.declared.function.TheConstants.{ADD_NODE, APPLICATION_COMMAND_HANDLER, APPLICATION_UPDATE, SEND_DATA}
use Rattle.chip_functions.specs.declared.notice.Notice.{Notice}
use Rattle.chip_functions.specs.declared.notice.Notice.TheVariants.{ApplicationCommandHandler}
use Rattle.chip_functions.specs.Field.{IsNode, byte, counted, node, read_as, ◌then◌}
use Rattle.chip_functions.specs.AddNode.{add_notice}
use Rattle.chip_functions.specs.Notice.{add_notice_at, callback, callback_at, handler, handler_at, notice_at, notice_of, update, update_at}
use Rattle.chip_functions.specs.Place.{Place, Reading, ◌>>=◌, byte_from, found_at, start_of}
use Rattle.chip_functions.proofs.FieldLaws.{bind_ok}
use Rattle.chip_functions.proofs.RowLaws.{row_cases}
use Rattle.proof_air.proofs.Judging.{both_true}

-- what an ApplicationCommandHandler that is read has
abbrev IsFromNode : Notice → Type 0
IsFromNode (ApplicationCommandHandler status source payload) = IsNode source
IsFromNode notice = Unit {0}

found_is : (low : Bool) (before n : ℕ) (rest : Place) (x : ℕ × Place) → nat_le 1 n && nat_le n 232 ≡ low → found_at before (if low then Some n else None) rest ≡ Ok x → IsNode x.0
found_is true before n rest x is e =
    let parts = both_true (nat_le 1 n) (nat_le n 232) is in
    let here : IsNode n = (leb-true 1 n parts.0, leb-true n 232 parts.1) in
    let same : n ≡ x.0 = ap (λ (r : ℕ × Place). r.0) (ok_pair (n, rest) x e) in
    subst IsNode same here
  where
    ok_pair : (a b : ℕ × Place) → ◌≡◌ {A = Result (ℕ × Place) BodyFault} (Ok a) (Ok b) → a ≡ b
    ok_pair a b e = cc
found_is false before n rest x is e = absurd cc

node_is : (p : Place) (x : ℕ × Place) → node.read p ≡ Ok x → IsNode x.0
node_is p x e =
    let one = bind_ok (byte_from p.before p.rest) (λ b. found_at p.before (if nat_le 1 b.0 && nat_le b.0 232 then Some b.0 else None) b.1) x e in
    found_is (nat_le 1 one.0.0 && nat_le one.0.0 232) p.before one.0.0 one.0.1 x refl one.2

handler_is : (p : Place) (x : (ℕ × (ℕ × List ℕ)) × Place) → handler.read p ≡ Ok x → IsNode x.0.1.0
handler_is p x e =
    let one = bind_ok (byte.read p) (λ a. (node then counted 1).read a.1 >>= λ y. Ok ((a.0, y.0), y.1)) x e in
    let two = bind_ok ((node then counted 1).read one.0.1) (λ y. Ok ((one.0.0, y.0), y.1)) x one.2 in
    let three = bind_ok (node.read one.0.1) (λ a. (counted 1).read a.1 >>= λ y. Ok ((a.0, y.0), y.1)) two.0 two.1 in
    let four = bind_ok ((counted 1).read three.0.1) (λ y. Ok ((three.0.0, y.0), y.1)) two.0 three.2 in
    let inner : ((three.0.0, four.0.0), four.0.1) ≡ two.0 = ok_inner ((three.0.0, four.0.0), four.0.1) two.0 four.2 in
    let outer : ((one.0.0, two.0.0), two.0.1) ≡ x = ok_outer ((one.0.0, two.0.0), two.0.1) x two.2 in
    let source : three.0.0 ≡ x.0.1.0 = ap (λ (r : (ℕ × List ℕ) × Place). r.0.0) inner ∙ ap (λ (r : (ℕ × (ℕ × List ℕ)) × Place). r.0.1.0) outer in
    subst IsNode source (node_is one.0.1 three.0 three.1)
  where
    ok_inner : (a b : (ℕ × List ℕ) × Place) → ◌≡◌ {A = Result ((ℕ × List ℕ) × Place) BodyFault} (Ok a) (Ok b) → a ≡ b
    ok_inner a b e = cc

    ok_outer : (a b : (ℕ × (ℕ × List ℕ)) × Place) → ◌≡◌ {A = Result ((ℕ × (ℕ × List ℕ)) × Place) BodyFault} (Ok a) (Ok b) → a ≡ b
    ok_outer a b e = cc

-- a row that makes no such notice
made_free : {A : Type 0} (make : A → Notice) (r : Reading A) (x : Notice × Place) → ((a : A) → IsFromNode (make a)) → read_as make r ≡ Ok x → IsFromNode x.0
made_free make (Ok a) x free e = subst (λ (y : Notice × Place). IsFromNode y.0) (ok_notice (make a.0, a.1) x e) (free a.0)
  where
    ok_notice : (a b : Notice × Place) → ◌≡◌ {A = Result (Notice × Place) BodyFault} (Ok a) (Ok b) → a ≡ b
    ok_notice a b e = cc
made_free make (Err fault) x free e = absurd cc

handler_row : (p : Place) (x : Notice × Place) → handler_at p ≡ Ok x → IsFromNode x.0
unfolding handler_at
handler_row p x e =
    let one = bind_ok (handler.read p) (λ a. Ok (ApplicationCommandHandler a.0.0 a.0.1.0 a.0.1.1, a.1)) x e in
    subst (λ (y : Notice × Place). IsFromNode y.0) (ok_notice (ApplicationCommandHandler one.0.0.0 one.0.0.1.0 one.0.0.1.1, one.0.1) x one.2) (handler_is p one.0 one.1)
  where
    ok_notice : (a b : Notice × Place) → ◌≡◌ {A = Result (Notice × Place) BodyFault} (Ok a) (Ok b) → a ≡ b
    ok_notice a b e = cc

notice_row : (func : ℕ) (p : Place) (x : Notice × Place) → notice_at func p ≡ Ok x → IsFromNode x.0
unfolding notice_at callback_at add_notice_at update_at
notice_row func p x e =
    row_cases func APPLICATION_COMMAND_HANDLER _ _ _ e (λ f h. handler_row p x h) (λ e.
    row_cases func SEND_DATA _ _ _ e (λ f h. made_free _ (callback.read p) x (λ a. tt) h) (λ e.
    row_cases func ADD_NODE _ _ _ e (λ f h. made_free _ (add_notice.read p) x (λ a. tt) h) (λ e.
    row_cases func APPLICATION_UPDATE _ _ _ e (λ f h. made_free _ (update.read p) x (λ a. tt) h) (λ e. absurd cc))))

pub brought_from : (func : ℕ) (body : List ℕ) (status source : ℕ) (payload : List ℕ) → notice_of func body ≡ Ok (ApplicationCommandHandler status source payload) → IsNode source
unfolding notice_of
brought_from func body status source payload e =
    let one = bind_ok (notice_at func (start_of body)) (λ x. Ok x.0) (ApplicationCommandHandler status source payload) e in
    subst IsFromNode (ok_one one.0.0 (ApplicationCommandHandler status source payload) one.2) (notice_row func (start_of body) one.0 one.1)
  where
    ok_one : (a b : Notice) → ◌≡◌ {A = Result Notice BodyFault} (Ok a) (Ok b) → a ≡ b
    ok_one a b e = cc
