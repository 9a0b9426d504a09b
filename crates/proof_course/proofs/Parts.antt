-- What rising numbers pick, and which sessions ended in success.
use Rattle.std.proofs.Common.{◌≡◌, ℕ, zero, suc, ◌+◌, ◌<◌, ◌≤◌, inl, inr, Bool, true, false, if◌then◌else◌, List, [], ◌∷◌, ◌++◌, Some, refl, ap, sym, subst, arith}
use Rattle.std.specs.Prelude.{◌==◌, slice_get}
use Rattle.std.specs.List.{AllByRecursion}
use Rattle.zw_base.proofs.Each.{all-weaker}
use Rattle.supervision.specs.Host.{command_at}
use Rattle.supervision.specs.declared.session.TheConstants.{SUCCESS}
use Rattle.proof_course.specs.Parts.{IsPart, Has, Rises, numbered, picked, successes}

-- ---- what is picked

-- the numbers, each less one
lowered : List ℕ → List ℕ
lowered [] = []
lowered (zero ∷ numbers) = zero ∷ lowered numbers
lowered (suc number ∷ numbers) = number ∷ lowered numbers

part_later : {A : Type 0} (part whole : List A) (first : A) → IsPart part whole → IsPart part (first ∷ whole)
part_later [] whole first is = tt
part_later (x ∷ part) whole first is = inr is

-- numbers above 1 pick of the rest
picked_rest : {A : Type 0} (item : A) (items : List A) (numbers : List ℕ) → AllByRecursion (λ n. 1 < n) numbers → picked (item ∷ items) numbers ≡ picked items (lowered numbers)
unfolding lowered
picked_rest item items [] above = refl
picked_rest item items (zero ∷ numbers) above = absurd (omega (arith, above.0))
picked_rest item items (suc zero ∷ numbers) above = absurd (omega (arith, above.0))
picked_rest item items (suc (suc n) ∷ numbers) above = ap (λ l. numbered items (suc n) ++ l) (picked_rest item items numbers above.1)

lowered_above : (n : ℕ) (numbers : List ℕ) → AllByRecursion (λ later. suc n < later) numbers → AllByRecursion (λ later. n < later) (lowered numbers)
unfolding lowered
lowered_above n [] above = tt
lowered_above n (zero ∷ numbers) above = absurd (omega (arith, above.0))
lowered_above n (suc m ∷ numbers) above = (omega (arith, above.0), lowered_above n numbers above.1)

lowered_rises : (numbers : List ℕ) → AllByRecursion (λ n. 0 < n) numbers → Rises numbers → Rises (lowered numbers)
unfolding lowered
lowered_rises [] positive rises = tt
lowered_rises (zero ∷ numbers) positive rises = absurd (omega (arith, positive.0))
lowered_rises (suc n ∷ numbers) positive rises = (lowered_above n numbers rises.0, lowered_rises numbers positive.1 rises.1)

picked_none : {A : Type 0} (numbers : List ℕ) → picked {A = A} [] numbers ≡ []
picked_none [] = refl
picked_none (zero ∷ numbers) = picked_none numbers
picked_none (suc n ∷ numbers) = picked_none numbers

above_zero : (n : ℕ) (numbers : List ℕ) → AllByRecursion (λ later. n < later) numbers → AllByRecursion (λ later. 0 < later) numbers
above_zero n numbers above = all-weaker (λ later. n < later) (λ later. 0 < later) (λ later more. omega (arith, more)) numbers above

-- positive numbers that rise pick a part
pub picked_part : {A : Type 0} (items : List A) (numbers : List ℕ) → AllByRecursion (λ n. 0 < n) numbers → Rises numbers → IsPart (picked items numbers) items
unfolding lowered
picked_part {A = A} [] numbers positive rises = subst (λ (l : List A). IsPart l []) (sym (picked_none {A = A} numbers)) tt
picked_part (item ∷ items) [] positive rises = tt
picked_part (item ∷ items) (zero ∷ numbers) positive rises = absurd (omega (arith, positive.0))
picked_part {A = A} (item ∷ items) (suc zero ∷ numbers) positive rises =
    inl (
      refl,
      subst (λ (l : List A). IsPart l items) (sym (picked_rest item items numbers rises.0))
          (picked_part items (lowered numbers) (lowered_above 0 numbers rises.0) (lowered_rises numbers (above_zero 1 numbers rises.0) rises.1)),
    )
picked_part {A = A} (item ∷ items) (suc (suc n) ∷ numbers) positive rises =
    let high : AllByRecursion (λ later. 1 < later) (suc (suc n) ∷ numbers) =
    (omega arith, all-weaker (λ later. suc (suc n) < later) (λ later. 1 < later) (λ later more. omega (arith, more)) numbers rises.0) in
    part_later (picked (item ∷ items) (suc (suc n) ∷ numbers)) items item
    (subst (λ (l : List A). IsPart l items) (sym (picked_rest item items (suc (suc n) ∷ numbers) high))
    (picked_part items (suc n ∷ lowered numbers) (omega arith, above_zero (suc n) (lowered numbers) (lowered_above (suc n) numbers rises.0)) (lowered_rises (suc (suc n) ∷ numbers) positive rises)))

-- ---- successes

-- they are numbers from the first on
pub from_or : (b : Bool) (at : ℕ) (later : List ℕ) → AllByRecursion (λ n. at + 1 ≤ n) later → AllByRecursion (λ n. at ≤ n) (if b then at ∷ later else later)
from_or true at later all = (omega arith, all-weaker (λ n. at + 1 ≤ n) (λ n. at ≤ n) (λ n more. omega (arith, more)) later all)
from_or false at later all = all-weaker (λ n. at + 1 ≤ n) (λ n. at ≤ n) (λ n more. omega (arith, more)) later all

pub successes_from : (at : ℕ) (ends : List ℕ) → AllByRecursion (λ n. at ≤ n) (successes at ends)
successes_from at [] = tt
successes_from at (status ∷ more) = from_or (status == SUCCESS) at (successes (at + 1) more) (successes_from (at + 1) more)

rise_or : (b : Bool) (at : ℕ) (later : List ℕ) → AllByRecursion (λ n. at + 1 ≤ n) later → Rises later → Rises (if b then at ∷ later else later)
rise_or true at later all rises = (all-weaker (λ n. at + 1 ≤ n) (λ n. at < n) (λ n more. omega (arith, more)) later all, rises)
rise_or false at later all rises = rises

successes_rise : (at : ℕ) (ends : List ℕ) → Rises (successes at ends)
successes_rise at [] = tt
successes_rise at (status ∷ more) = rise_or (status == SUCCESS) at (successes (at + 1) more) (successes_from (at + 1) more) (successes_rise (at + 1) more)

-- so the commands of sessions that ended in success are a part of all
pub successes_part : (commands ends : List ℕ) → IsPart (picked commands (successes 1 ends)) commands
successes_part commands ends = picked_part commands (successes 1 ends) (successes_from 1 ends) (successes_rise 1 ends)

-- a session with that status is one of them
has_or : (b : Bool) (at session : ℕ) (later : List ℕ) → Has later session → Has (if b then at ∷ later else later) session
has_or true at session later has = inr has
has_or false at session later has = has

has_first : (b : Bool) (at : ℕ) (later : List ℕ) → b ≡ true → Has (if b then at ∷ later else later) at
has_first true at later e = inl refl
has_first false at later e = absurd (grind arith)

is_success : (status : ℕ) → status ≡ SUCCESS → (status == SUCCESS) ≡ true
is_success status e = rw e refl

has_at : (at : ℕ) (ends : List ℕ) (before : ℕ) → slice_get ends before ≡ Some SUCCESS → Has (successes at ends) (at + before)
has_at at [] before e = absurd (grind arith)
has_at at (status ∷ more) zero e =
    let same : status ≡ SUCCESS = cc in
    subst (λ (n : ℕ). Has (successes at (status ∷ more)) n) (omega arith) (has_first (status == SUCCESS) at (successes (at + 1) more) (is_success status same))
has_at at (status ∷ more) (suc before) e =
    subst (λ (n : ℕ). Has (successes at (status ∷ more)) n) (omega arith) (has_or (status == SUCCESS) at (at + 1 + before) (successes (at + 1) more) (has_at (at + 1) more before e))

within_prefix : (prefix rest : List ℕ) (at status : ℕ) → slice_get prefix at ≡ Some status → slice_get (prefix ++ rest) at ≡ Some status
within_prefix [] rest at status e = absurd (grind arith)
within_prefix (x ∷ prefix) rest zero status e = e
within_prefix (x ∷ prefix) rest (suc at) status e = within_prefix prefix rest at status e

pub told_success : (ends told rest : List ℕ) (session : ℕ) → ends ≡ told ++ rest → command_at told session ≡ Some SUCCESS → Has (successes 1 ends) session
told_success ends told rest zero e is = absurd (grind arith)
told_success ends told rest (suc before) e is =
    subst (λ (n : ℕ). Has (successes 1 ends) n) (omega arith)
    (has_at 1 ends before (subst (λ (l : List ℕ). slice_get l before ≡ Some SUCCESS) (sym e) (within_prefix told rest before SUCCESS is)))
