use Rattle.std.proofs.Common.{ℕ, List, [], ◌++◌, true, refl, ap, sym, ◌∙◌, lit≤}
use Rattle.std.specs.Prelude.{map, replicate, Bool}
use Rattle.serial_link.specs.Rules.{SideObeys}
use Rattle.chip_sim.specs.State.{ChipState, fresh_chip}
use Rattle.chip_sim.specs.Did.{after_all}
use Rattle.chip_sim.specs.Rules.{listed, over, kept, begun_at, taken, called, done, WaitsWell}
use Rattle.chip_sim.specs.declared.out.Sending.{Sending}
use Rattle.chip_sim.proofs.Steps.{well_event, order_event, drop_event}
use Rattle.chip_sim.proofs.Calls.{sending_of, mark_of, callbacks_event, calls_event}
use Rattle.chip_sim.proofs.Histories.{well_all, conveyed, map_over, obeys_all, units_all}
use Rattle.chip_sim.proofs.laws.rules_of_histories.Goals as goal

well_at_first : WaitsWell fresh_chip.port
well_at_first = record { busy = refl; few = lit≤ tt }

obeys_at_first : SideObeys [] fresh_chip.port.side
obeys_at_first = record { answers = tt; collisions = refl; turns = record { past = []; now = []; parts = refl; are_past = tt; stands = tt } }

pub returns-clause-waits : goal.returns-clause-waits
returns-clause-waits c = λ events may. well_all fresh_chip events well_at_first

pub returns-clause-drops : goal.returns-clause-drops
returns-clause-drops c = λ events may e. drop_event (after_all fresh_chip events) e (well_all fresh_chip events well_at_first)

pub returns-clause-served : goal.returns-clause-served
returns-clause-served c = λ events may. conveyed (λ s. s.port.waiting) kept begun_at (λ s e well _. order_event s e well) fresh_chip events well_at_first may

pub returns-clause-callbacks : goal.returns-clause-callbacks
returns-clause-callbacks c = λ events may.
    conveyed (λ s. listed s.sending) taken (λ s e. map sending_of (called s e)) (λ s e _ _. callbacks_event s e) fresh_chip events well_at_first may
    ∙ ap (λ (t : List Sending). t ++ listed (after_all fresh_chip events).sending) (sym (map_over sending_of called fresh_chip events))

pub returns-clause-calls : goal.returns-clause-calls
returns-clause-calls c = λ events may.
    map_over mark_of called fresh_chip events
    ∙ conveyed (λ s. replicate s.aborted true) (λ s e. map mark_of (called s e)) done (λ s e _ m. calls_event s e m) fresh_chip events well_at_first may

pub returns-clause-link : goal.returns-clause-link
returns-clause-link c = λ events may. obeys_all fresh_chip events [] obeys_at_first

pub returns-clause-units : goal.returns-clause-units
returns-clause-units c = λ events may. units_all fresh_chip events
