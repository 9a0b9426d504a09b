-- A journal in order has each session at most once.
use Rattle.std.proofs.Common.{◌≡◌, ℕ, ◌<◌, ◌≤◌, List, [], ◌∷◌, ◌++◌, refl, ap, ◌∙◌, subst, arith}
use Rattle.std.specs.List.{AllByRecursion}
use Rattle.zw_base.specs.declared.property.By.{By}
use Rattle.zw_base.specs.declared.property.By.TheVariants.{Session, Plain, Local}
use Rattle.law_transcript.specs.device_kinds.declared.change.Change.{Change}
use Rattle.law_transcript.specs.device_sim.State.{State}
use Rattle.law_transcript.specs.device_sim.Laws.{numbers, with_number, Rises as RisesTo, done, IsInOrder}
use Rattle.law_transcript.specs.zw_text.Transcript.{by_session}
use Rattle.law_transcript.specs.Lists.{Rises}
use Rattle.law_transcript.specs.Once.{sessions_by}
use Rattle.proof_device.specs.GoingOn.{TakesOnce, AreInOrder, TakeOnce}

pub number_is : (by : By) (more : List ℕ) → with_number by more ≡ by_session by ++ more
number_is (Session number) more = refl
number_is Plain more = refl
number_is Local more = refl

pub numbers_are : (journal : List Change) → numbers journal ≡ sessions_by journal
numbers_are [] = refl
numbers_are (change ∷ journal) = number_is change.by (numbers journal) ∙ ap (λ (l : List ℕ). by_session change.by ++ l) (numbers_are journal)

reaches : (low : ℕ) (ns : List ℕ) (high : ℕ) → RisesTo low ns high → low ≤ high
reaches low [] high rises = rises
reaches low (n ∷ ns) high rises = let up = reaches n ns high rises.1 in let first = rises.0 in omega arith

above : (low : ℕ) (ns : List ℕ) (high lower : ℕ) → lower ≤ low → RisesTo low ns high → AllByRecursion (λ later. lower < later) ns
above low [] high lower under rises = tt
above low (n ∷ ns) high lower under rises =
    let first = rises.0 in
    let next : lower < n = omega arith in
    (next, above n ns high lower (omega arith) rises.1)

rise : (low : ℕ) (ns : List ℕ) (high : ℕ) → RisesTo low ns high → Rises ns
rise low [] high rises = tt
rise low (n ∷ ns) high rises = (above n ns high n (omega arith) rises.1, rise n ns high rises.1)

within : (low : ℕ) (ns : List ℕ) (high : ℕ) → RisesTo low ns high → AllByRecursion (λ n. (1 ≤ n) × (n ≤ high)) ns
within low [] high rises = tt
within low (n ∷ ns) high rises =
    let first = rises.0 in
    let one : 1 ≤ n = omega arith in
    ((one, reaches n ns high rises.1), within n ns high rises.1)

takes_once : (device : State) → IsInOrder device → TakesOnce device
takes_once device is =
    let rising = subst (λ (l : List ℕ). RisesTo 0 l (done device)) (numbers_are device.journal) is.rising in
    record {
      rising = rise 0 (sessions_by device.journal) (done device) rising;
      begun = within 0 (sessions_by device.journal) (done device) rising;
    }

pub take_once : (devices : List State) → AreInOrder devices → TakeOnce devices
take_once [] are = tt
take_once (d ∷ devices) are = (takes_once d are.0, take_once devices are.1)
