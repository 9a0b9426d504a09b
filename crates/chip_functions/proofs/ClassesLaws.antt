-- The information of a node is read as it is spelled.
use Rattle.std.proofs.Common.{◌≡◌, ℕ, ◌+◌, ◌-◌, false, ltb, List, [], ◌∷◌, ◌++◌, length, Ok, Err, refl, subst, arith}
use Rattle.std.proofs.lemmas.Bool.{ltb-false, le-ltb}
use Rattle.chip_functions.specs.declared.fault.BodyFault.{BodyFault}
use Rattle.chip_functions.specs.declared.fault.BodyFault.TheVariants.{BadField}
use Rattle.chip_functions.specs.declared.notice.TheConstants.{DEVICE_CLASSES}
use Rattle.chip_functions.specs.Mask.{IsBytes}
use Rattle.chip_functions.specs.Place.{Place, IsFaultFrom, byte_from}
use Rattle.chip_functions.specs.Classes.{Classes, classes_of, classes_after, classes}
use Rattle.chip_functions.proofs.FieldLaws.{Takes, Takes-then, Reads, Lawful, bind_ok, bind_err, guard_ok, guard_err, fault_back, bad_here, byte_takes, byte_again, byte_faults, byte_step, byte_lawful, piece_lawful, then_lawful}

classes_of_lawful : (len : ℕ) → Lawful (classes_of len) (λ x. Unit {0} × (Unit {0} × (Unit {0} × (length x.1.1.1 ≡ len - DEVICE_CLASSES))))
classes_of_lawful len = then_lawful byte_lawful (then_lawful byte_lawful (then_lawful byte_lawful (piece_lawful (len - DEVICE_CLASSES))))

-- the length that stands before what was read
pub record IsAfter (len : ℕ) (p q : Place) (x : Classes) : Type 0 where
  pub len_is : len ≡ length x.1.1.1 + DEVICE_CLASSES
  pub takes : Takes p q (x.0 ∷ x.1.0 ∷ x.1.1.0 ∷ x.1.1.1)

pub after_takes : (before len : ℕ) (p q : Place) (x : Classes) → IsBytes p.rest → classes_after before len p ≡ Ok (x, q) → IsAfter len p q x
after_takes before len p q x fits e =
    let g = guard_ok (ltb len DEVICE_CLASSES) (BadField before) ((classes_of len).read p) (x, q) e in
    let u = (classes_of_lawful len).takes p x q fits g.1 in
    record { len_is = omega (arith, u.1.1.1.1, ltb-false _ _ g.0); takes = u.0 }

pub after_again : (before : ℕ) (x : Classes) (p : Place) (rest : List ℕ) → p.rest ≡ (x.0 ∷ x.1.0 ∷ x.1.1.0 ∷ x.1.1.1) ++ rest → (q : Place) × (classes_after before (length x.1.1.1 + DEVICE_CLASSES) p ≡ Ok (x, q)) × (q.rest ≡ rest)
after_again before x p rest e =
    let len = length x.1.1.1 + DEVICE_CLASSES in
    let enough : ltb len DEVICE_CLASSES ≡ false = le-ltb len DEVICE_CLASSES (omega arith) in
    let r = (classes_of_lawful len).again x p rest (tt, (tt, (tt, omega arith))) e in
    (r.place, rw enough r.is, r.after)

-- a fault after a length that stands in the body
pub after_faults : (before : Place) (len : ℕ) (p : Place) (fault : BodyFault) → Takes before p (len ∷ []) → classes_after before.before len p ≡ Err fault → IsFaultFrom before fault
after_faults before len p fault t e =
    guard_err (ltb len DEVICE_CLASSES) (BadField before.before) ((classes_of len).read p) fault e (λ same. bad_here before len p.rest fault t.parts same) (λ _ k. fault_back before p fault t.moves t.sum ((classes_of_lawful len).faults p fault t.fits k))

-- the length and what stands after it
pub with_length : (p q r : Place) (len : ℕ) (x : Classes) → Takes p q (len ∷ []) → IsAfter len q r x → Takes p r (classes.spell x)
with_length p q r len x first a =
    let text = x.0 ∷ x.1.0 ∷ x.1.1.0 ∷ x.1.1.1 in
    subst (λ (k : ℕ). Takes p r (k ∷ text)) a.len_is (Takes-then p q r (len ∷ []) text first a.takes)

classes_takes : (p : Place) (x : Classes) (q : Place) → IsBytes p.rest → classes.read p ≡ Ok (x, q) → Takes p q (classes.spell x) × Unit {0}
classes_takes p x q fits e =
    let n = bind_ok (byte_from p.before p.rest) (λ n. classes_after p.before n.0 n.1) (x, q) e in
    let t = byte_takes p.before p.rest n.0.0 n.0.1 fits n.1 in
    (with_length p n.0.1 q n.0.0 x (byte_step p n.0.1 n.0.0 t) (after_takes p.before n.0.0 n.0.1 q x t.1 n.2), tt)

classes_again : (x : Classes) (p : Place) (rest : List ℕ) → Unit {0} → p.rest ≡ classes.spell x ++ rest → Reads classes x p rest
classes_again x p rest fits e =
    let len = length x.1.1.1 + DEVICE_CLASSES in
    let text = x.0 ∷ x.1.0 ∷ x.1.1.0 ∷ x.1.1.1 in
    let after : Place = record { before = p.before + 1; rest = text ++ rest } in
    let r = after_again p.before x after rest refl in
    record { place = r.0; is = rw (byte_again p len (text ++ rest) e) r.1; after = r.2 }

classes_faults : (p : Place) (fault : BodyFault) → IsBytes p.rest → classes.read p ≡ Err fault → IsFaultFrom p fault
classes_faults p fault fits e =
    bind_err (byte_from p.before p.rest) (λ n. classes_after p.before n.0 n.1) fault e (λ h. byte_faults p.before p.rest fault h) (λ n h f.
    after_faults p n.0 n.1 fault (byte_step p n.1 n.0 (byte_takes p.before p.rest n.0 n.1 fits h)) f)

pub classes_lawful : Lawful classes (λ _. Unit {0})
classes_lawful = record { takes = classes_takes; again = classes_again; faults = classes_faults }
