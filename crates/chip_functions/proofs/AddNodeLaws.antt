-- What is read of the adding of a node is spelled so, and what is spelled so is read.
use Rattle.std.proofs.Common.{◌≡◌, ℕ, ◌+◌, ◌≤◌, false, cond, eqb, ltb, List, [], ◌∷◌, ◌++◌, length, Some, Ok, Err, refl, sym, subst, arith}
use Rattle.std.proofs.lemmas.Bool.{eqb-true, eqb-false, ltb-false, le-ltb, ne_eqb}
use Rattle.std.proofs.lemmas.Option.{none-some as none_is, same_Some as some_is}
use Rattle.chip_functions.specs.declared.fault.BodyFault.{BodyFault}
use Rattle.chip_functions.specs.declared.fault.BodyFault.TheVariants.{BadField}
use Rattle.chip_functions.specs.declared.notice.TheConstants.{DEVICE_CLASSES}
use Rattle.chip_functions.specs.declared.add_node.AddMode.{AddMode}
use Rattle.chip_functions.specs.declared.add_node.AddMode.TheVariants.{Any, Stop}
use Rattle.chip_functions.specs.declared.add_node.AddStatus.{AddStatus}
use Rattle.chip_functions.specs.declared.add_node.AddStatus.TheVariants.{LearnReady, NodeFound, AddingSlave, AddingController, ProtocolDone, Done, Failed}
use Rattle.chip_functions.specs.declared.add_node.AddedNode.{AddedNode}
use Rattle.chip_functions.specs.declared.add_node.AddedNode.TheVariants.{Unnamed, Named, Described}
use Rattle.chip_functions.specs.Mask.{IsBytes}
use Rattle.chip_functions.specs.Place.{Place, IsFaultFrom, byte_from}
use Rattle.chip_functions.specs.Field.{IsNode, read_as}
use Rattle.chip_functions.specs.Classes.{Classes, classes, classes_after}
use Rattle.chip_functions.specs.AddNode.{mode_code, mode_of, add_request, status_code, status_of, unnamed_at, named_at, added_spelling, added, add_notice, IsAdded}
use Rattle.chip_functions.proofs.FieldLaws.{Takes, Takes-then, Reads, Lawful, bind_ok, bind_err, guard_ok, guard_err, no_fault, fault_back, bad_here, ok_is, as_takes, as_faults, byte_takes, byte_again, byte_faults, byte_step, byte_lawful, then_lawful, mark_lawful, within_lawful, coded_lawful}
use Rattle.chip_functions.proofs.ClassesLaws.{after_takes, after_again, after_faults, with_length}
use Rattle.chip_functions.proofs.RowLaws.{if_cases, row_cases, row_takes, row_again}

-- ---- modes and statuses

mode_back : (x : AddMode) → Unit {0} → mode_of (mode_code x) ≡ Some x
mode_back Any h = refl
mode_back Stop h = refl

mode_there : (b : ℕ) (x : AddMode) → mode_of b ≡ Some x → (mode_code x ≡ b) × Unit {0}
mode_there b x e =
    let here : (y : AddMode) → b ≡ mode_code y → Some y ≡ Some x → (mode_code x ≡ b) × Unit {0} = λ (y : AddMode) (f : b ≡ mode_code y) (h : Some y ≡ Some x). (subst (λ (z : AddMode). mode_code z ≡ b) (some_is y x h) (sym f), tt) in
    row_cases b 1 _ _ _ e (λ f h. here Any f h) (λ e.
    row_cases b 5 _ _ _ e (λ f h. here Stop f h) (λ e.
    absurd (none_is x e)))

pub add_request_lawful : Lawful add_request (λ x. Unit {0} × ((1 ≤ x.1) × (x.1 ≤ 255)))
add_request_lawful = then_lawful (coded_lawful mode_code mode_of (λ _. Unit {0}) mode_back mode_there) (within_lawful 1 255)

status_back : (x : AddStatus) → Unit {0} → status_of (status_code x) ≡ Some x
status_back LearnReady h = refl
status_back NodeFound h = refl
status_back AddingSlave h = refl
status_back AddingController h = refl
status_back ProtocolDone h = refl
status_back Done h = refl
status_back Failed h = refl

status_there : (b : ℕ) (x : AddStatus) → status_of b ≡ Some x → (status_code x ≡ b) × Unit {0}
status_there b x e =
    let here : (y : AddStatus) → b ≡ status_code y → Some y ≡ Some x → (status_code x ≡ b) × Unit {0} = λ (y : AddStatus) (f : b ≡ status_code y) (h : Some y ≡ Some x). (subst (λ (z : AddStatus). status_code z ≡ b) (some_is y x h) (sym f), tt) in
    row_cases b 1 _ _ _ e (λ f h. here LearnReady f h) (λ e.
    row_cases b 2 _ _ _ e (λ f h. here NodeFound f h) (λ e.
    row_cases b 3 _ _ _ e (λ f h. here AddingSlave f h) (λ e.
    row_cases b 4 _ _ _ e (λ f h. here AddingController f h) (λ e.
    row_cases b 5 _ _ _ e (λ f h. here ProtocolDone f h) (λ e.
    row_cases b 6 _ _ _ e (λ f h. here Done f h) (λ e.
    row_cases b 7 _ _ _ e (λ f h. here Failed f h) (λ e.
    absurd (none_is x e))))))))

-- ---- what is said of the node

-- a byte is 0, or a number from 1 on
zero_cases : {A R : Type 0} (n : ℕ) (x y z : A) → cond (eqb n 0) x y ≡ z → (n ≡ 0 → x ≡ z → R) → (1 ≤ n → y ≡ z → R) → R
zero_cases n x y z e hit miss = if_cases (eqb n 0) x y z e (λ t. hit (eqb-true n 0 t)) (λ f. let some : n ≡ 0 → ⊥ = eqb-false n 0 f in miss (omega arith))

-- the first byte, and then the rest
pub prefix_takes : (p q r : Place) (n code : ℕ) (text : List ℕ) → n ≡ code → Takes p q (n ∷ []) → Takes q r text → Takes p r (code ∷ text)
prefix_takes p q r n code text same first rest = subst (λ (k : ℕ). Takes p r (k ∷ text)) same (Takes-then p q r (n ∷ []) text first rest)

-- what was read after a node that is neither 0 nor above 232
named_takes : (p q r : Place) (n : ℕ) (said : AddedNode) → IsNode n → Takes p q (n ∷ []) → named_at n q ≡ Ok (said, r) → Takes p r (added_spelling said) × IsAdded said
unfolding named_at
named_takes p q r n said node first e =
    let a = bind_ok (byte_from q.before q.rest) (λ len. cond (eqb len.0 0) (Ok (Named n, len.1)) (read_as (λ x. Described n x.0 x.1.0 x.1.1.0 x.1.1.1) (classes_after q.before len.0 len.1))) (said, r) e in
    let t = byte_takes q.before q.rest a.0.0 a.0.1 first.fits a.1 in
    let len = byte_step q a.0.1 a.0.0 t in
    row_cases a.0.0 0 _ _ _ a.2 (λ f h.
    subst (λ (y : AddedNode × Place). Takes p y.1 (added_spelling y.0) × IsAdded y.0) (ok_is (Named n, a.0.1) (said, r) h)
    (Takes-then p q a.0.1 (n ∷ []) (0 ∷ []) first (subst (λ (k : ℕ). Takes q a.0.1 (k ∷ [])) f len), node)) (λ h.
    let c = as_takes (λ (x : Classes). Described n x.0 x.1.0 x.1.1.0 x.1.1.1) (classes_after q.before a.0.0 a.0.1) said r h in
    let following = with_length q a.0.1 r a.0.0 c.0 len (after_takes q.before a.0.0 a.0.1 r c.0 t.1 c.1) in
    subst (λ (y : AddedNode). Takes p r (added_spelling y) × IsAdded y) c.2 (Takes-then p q r (n ∷ []) (classes.spell c.0) first following, node))

added_takes : (p : Place) (said : AddedNode) (q : Place) → IsBytes p.rest → added.read p ≡ Ok (said, q) → Takes p q (added.spell said) × IsAdded said
unfolding unnamed_at
added_takes p said q fits e =
    let a = bind_ok (byte_from p.before p.rest) (λ n. cond (eqb n.0 0) (unnamed_at n.1) (cond (ltb 232 n.0) (Err (BadField p.before)) (named_at n.0 n.1))) (said, q) e in
    let t = byte_takes p.before p.rest a.0.0 a.0.1 fits a.1 in
    let first = byte_step p a.0.1 a.0.0 t in
    zero_cases a.0.0 _ _ _ a.2 (λ f h. row_takes (mark_lawful 0) _ a.0.1 q said (λ v. Takes p q (added.spell v) × IsAdded v) t.1 (λ x tx g. (prefix_takes p a.0.1 q a.0.0 0 (0 ∷ []) f first tx, tt)) h) (λ above h.
    let g = guard_ok (ltb 232 a.0.0) (BadField p.before) (named_at a.0.0 a.0.1) (said, q) h in
    named_takes p a.0.1 q a.0.0 said (above, ltb-false _ _ g.0) first g.1)

-- a node is not 0, and not above 232
is_node_eqb : (n : ℕ) → IsNode n → (eqb n 0 ≡ false) × (ltb 232 n ≡ false)
is_node_eqb n row = (ne_eqb n 0 (λ same. omega arith), le-ltb 232 n row.1)

named_again : (n : ℕ) (p : Place) (rest : List ℕ) → IsNode n → p.rest ≡ n ∷ 0 ∷ rest → Reads added (Named n) p rest
unfolding named_at
named_again n p rest row e =
    let k = is_node_eqb n row in
    let len : Place = record { before = p.before + 1; rest = 0 ∷ rest } in
    record { place = record { before = p.before + 1 + 1; rest = rest }; is = rw (byte_again p n (0 ∷ rest) e, k.0, k.1) refl; after = refl }

described_again : (n : ℕ) (x : Classes) (p : Place) (rest : List ℕ) → IsNode n → p.rest ≡ (n ∷ classes.spell x) ++ rest → Reads added (Described n x.0 x.1.0 x.1.1.0 x.1.1.1) p rest
unfolding named_at
described_again n x p rest row e =
    let k = is_node_eqb n row in
    let text = x.0 ∷ x.1.0 ∷ x.1.1.0 ∷ x.1.1.1 in
    let len = length x.1.1.1 + DEVICE_CLASSES in
    let after : Place = record { before = p.before + 1 + 1; rest = text ++ rest } in
    let r = after_again (p.before + 1) x after rest refl in
    let some : eqb len 0 ≡ false = ne_eqb len 0 (λ same. omega arith) in
    record { place = r.0; is = rw (byte_again p n (len ∷ (text ++ rest)) e, k.0, k.1, some, r.1) refl; after = r.2 }

added_again : (said : AddedNode) (p : Place) (rest : List ℕ) → IsAdded said → p.rest ≡ added.spell said ++ rest → Reads added said p rest
unfolding unnamed_at
added_again Unnamed p rest row e =
    let after : Place = record { before = p.before + 1; rest = 0 ∷ rest } in
    let r = row_again (mark_lawful 0) (λ _. Unnamed) tt after rest tt refl in
    record { place = r.place; is = rw (byte_again p 0 (0 ∷ rest) e) r.is; after = r.after }
added_again (Named n) p rest row e = named_again n p rest row e
added_again (Described n b g s list) p rest row e = described_again n (b, (g, (s, list))) p rest row e

named_faults : (n : ℕ) (q : Place) (fault : BodyFault) → IsBytes q.rest → named_at n q ≡ Err fault → IsFaultFrom q fault
unfolding named_at
named_faults n q fault fits e =
    bind_err (byte_from q.before q.rest) (λ len. cond (eqb len.0 0) (Ok (Named n, len.1)) (read_as (λ x. Described n x.0 x.1.0 x.1.1.0 x.1.1.1) (classes_after q.before len.0 len.1))) fault e (λ h. byte_faults q.before q.rest fault h) (λ len h f.
    let s = byte_step q len.1 len.0 (byte_takes q.before q.rest len.0 len.1 fits h) in
    row_cases len.0 0 _ _ _ f (λ _ k. no_fault {A = AddedNode × Place} (Named n, len.1) fault k) (λ k.
    after_faults q len.0 len.1 fault s (as_faults (λ (x : Classes). Described n x.0 x.1.0 x.1.1.0 x.1.1.1) (classes_after q.before len.0 len.1) fault k)))

added_faults : (p : Place) (fault : BodyFault) → IsBytes p.rest → added.read p ≡ Err fault → IsFaultFrom p fault
unfolding unnamed_at
added_faults p fault fits e =
    bind_err (byte_from p.before p.rest) (λ n. cond (eqb n.0 0) (unnamed_at n.1) (cond (ltb 232 n.0) (Err (BadField p.before)) (named_at n.0 n.1))) fault e (λ h. byte_faults p.before p.rest fault h) (λ n h f.
    let t = byte_takes p.before p.rest n.0 n.1 fits h in
    let s = byte_step p n.1 n.0 t in
    row_cases n.0 0 _ _ _ f (λ _ k. fault_back p n.1 fault s.moves s.sum ((mark_lawful 0).faults n.1 fault t.1 (as_faults _ _ fault k))) (λ f.
    guard_err (ltb 232 n.0) (BadField p.before) (named_at n.0 n.1) fault f (λ same. bad_here p n.0 n.1.rest fault t.0 same) (λ _ k. fault_back p n.1 fault s.moves s.sum (named_faults n.0 n.1 fault t.1 k))))

added_lawful : Lawful added IsAdded
added_lawful = record { takes = added_takes; again = added_again; faults = added_faults }

pub add_notice_lawful : Lawful add_notice (λ x. Unit {0} × (Unit {0} × IsAdded x.1.1))
add_notice_lawful = then_lawful byte_lawful (then_lawful (coded_lawful status_code status_of (λ _. Unit {0}) status_back status_there) added_lawful)
