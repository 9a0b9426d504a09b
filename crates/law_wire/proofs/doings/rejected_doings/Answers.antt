use Rattle.std.proofs.Common.{◌≡◌, ℕ, true, false, List, length, sym, ap, ◌∙◌, arith}
use Rattle.std.specs.List.{flat_map}
use Rattle.law_transcript.specs.device_kinds.declared.change.Change.{Change}
use Rattle.law_transcript.specs.device_sim.Event.{DeviceEvent}
use Rattle.law_transcript.specs.Devices.{after_events, made_by, replies_joined}
use Rattle.law_transcript.specs.Worked.{the_switch}
use Rattle.law_wire.specs.WorkedDoings.{told_early, told_late}
use Rattle.std.specs.Prelude.{take}
use Rattle.law_transcript.proofs.Comings.{nothing_came, only_set}
use Rattle.law_wire.proofs.Computing.{reckoning}
use Rattle.law_wire.proofs.doings.rejected_doings.Goals as goal

false_true : false ≡ true → ⊥
false_true e = cc

one_zero : ◌≡◌ {A = ℕ} 1 0 → ⊥
one_zero e = omega (arith, e)

-- no setting is shown, and one was made
none_and_one : (made : ℕ) → 0 ≡ made → 1 ≡ made → ⊥
none_and_one made none one = omega (arith, none, one)

-- before the line that turns it on nothing came to the switch, and it has told something
pub returns-clause-early : goal.returns-clause-early
unfolding reckoning
returns-clause-early c = λ law.
    one_zero (ap length law.1.0.answered
    ∙ ap (λ (events : List DeviceEvent). length (replies_joined 2 (take 1 told_early) the_switch events))
    (nothing_came law.1.0.events law.1.0.came law.1.0.lived))

-- after it the switch has changed, and that is not shown
pub returns-clause-changed_late : goal.returns-clause-changed_late
unfolding reckoning
returns-clause-changed_late c = λ law.
    none_and_one (length (flat_map made_by law.1.0.shows.changes)) (ap length law.1.0.shows.entered)
    (ap (λ (events : List DeviceEvent). length (flat_map made_by (after_events the_switch events).journal))
    (sym (only_set law.1.0.events 1 law.1.0.came law.1.0.lived))
    ∙ ap (λ (changes : List Change). length (flat_map made_by changes)) law.1.0.shows.changed)

-- and it has told that, which is on no air
pub returns-clause-told_late : goal.returns-clause-told_late
unfolding reckoning
returns-clause-told_late c = λ law.
    one_zero (sym (ap length law.1.1.0.answered
    ∙ ap (λ (events : List DeviceEvent). length (replies_joined 2 (take 2 told_late) the_switch events))
    (only_set law.1.1.0.events 1 law.1.1.0.came law.1.1.0.lived)))

pub returns-clause-changed_by_none : goal.returns-clause-changed_by_none
unfolding reckoning
returns-clause-changed_by_none c = λ law. false_true law.1.0.0

pub returns-clause-told_by_none : goal.returns-clause-told_by_none
unfolding reckoning
returns-clause-told_by_none c = λ law. false_true law.1.0.0
