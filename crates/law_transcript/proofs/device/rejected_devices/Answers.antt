use Rattle.std.proofs.Common.{◌≡◌, ℕ, true, false, List, [], ◌∷◌, length, sym, ap, ◌∙◌, arith}
use Rattle.std.specs.List.{flat_map}
use Rattle.zw_base.specs.declared.property.Setting.{Setting}
use Rattle.device_sim.specs.device_kinds.declared.change.Change.{Change}
use Rattle.device_sim.specs.Event.{DeviceEvent}
use Rattle.device_sim.specs.State.{State}
use Rattle.law_transcript.specs.Devices.{after_events, made_by, replies_joined}
use Rattle.law_transcript.specs.Worked.{the_switch, the_sensor}
use Rattle.law_transcript.specs.WorkedDevices.{kept_silent, one_tick, sleeping_sensor, switch_at_work, woken_silent}
use Rattle.law_transcript.proofs.Computing.{computing_devices}
use Rattle.law_transcript.proofs.Comings.{nothing_came, only_set, only_heard, only_ticked, woken_first, woken_twice}
use Rattle.law_transcript.proofs.device.rejected_devices.Goals as goal

true_false : true ≡ false → ⊥
true_false e = cc

one_zero : ◌≡◌ {A = ℕ} 1 0 → ⊥
one_zero e = omega (arith, e)

-- no setting is shown, and one was made
none_and_one : (shown made : ℕ) → 0 ≡ made → 1 ≡ made → ⊥
none_and_one shown made none one = omega (arith, none, one)

off_on : ◌≡◌ {A = ℕ} 255 0 → ⊥
off_on e = omega (arith, e)

-- the value of the first change
abbrev first_setting : List Setting → ℕ
first_setting [] = 0
first_setting (setting ∷ settings) = setting.value

abbrev first_value : List Change → ℕ
first_value [] = 0
first_value (change ∷ changes) = first_setting change.settings

pub returns-clause-asleep : goal.returns-clause-asleep
unfolding computing_devices
returns-clause-asleep c = λ law.
    true_false (sym (ap (λ (events : List DeviceEvent). (after_events the_switch events).awake) (only_set law.events 1 law.comes.came law.comes.ticked))
    ∙ sym (ap (λ (device : State). device.awake) law.runs))

pub returns-clause-unasked : goal.returns-clause-unasked
unfolding computing_devices
returns-clause-unasked c = λ law.
    one_zero (ap (λ (device : State). length device.journal) law.runs
    ∙ ap (λ (events : List DeviceEvent). length (after_events the_switch events).journal) (nothing_came law.events law.comes.came law.comes.ticked))

pub returns-clause-unticked : goal.returns-clause-unticked
unfolding computing_devices
returns-clause-unticked c = λ law.
    one_zero (sym (ap (λ (device : State). device.clock) law.runs
    ∙ ap (λ (events : List DeviceEvent). (after_events the_switch events).clock) (only_ticked law.events law.comes.came law.comes.ticked).1))

pub returns-clause-unshown : goal.returns-clause-unshown
unfolding computing_devices
returns-clause-unshown c = λ law.
    none_and_one 0 (length (flat_map made_by law.shows.changes)) (ap length law.shows.entered)
    (ap (λ (changes : List Change). length (flat_map made_by changes)) law.shows.changed)

pub returns-clause-silent : goal.returns-clause-silent
unfolding computing_devices
returns-clause-silent c = λ law.
    one_zero (sym (ap length law.answered
    ∙ ap (λ (events : List DeviceEvent). length (replies_joined 2 kept_silent the_switch events)) (only_set law.events 1 law.comes.came law.comes.ticked)))

pub returns-clause-silent_since : goal.returns-clause-silent_since
unfolding computing_devices
returns-clause-silent_since c = λ law.
    one_zero (sym (ap length law.answered
    ∙ ap (λ (events : List DeviceEvent). length (replies_joined 5 woken_silent the_sensor events)) (woken_twice law.events law.comes.came law.comes.ticked)))

pub returns-clause-silent_at_work : goal.returns-clause-silent_at_work
unfolding computing_devices
returns-clause-silent_at_work c = λ law.
    one_zero (sym (ap length law.answered
    ∙ ap (λ (events : List DeviceEvent). length (replies_joined 2 one_tick switch_at_work events)) (only_ticked law.events law.comes.came law.comes.ticked).1))

pub returns-clause-elsewhere : goal.returns-clause-elsewhere
unfolding computing_devices
returns-clause-elsewhere c = λ law.
    one_zero (ap (λ (device : State). length device.journal) law.runs
    ∙ ap (λ (events : List DeviceEvent). length (after_events the_switch events).journal) (nothing_came law.events law.comes.came law.comes.ticked))

pub returns-clause-unheard : goal.returns-clause-unheard
unfolding computing_devices
returns-clause-unheard c = λ law.
    one_zero (ap (λ (device : State). length device.journal) law.runs
    ∙ ap (λ (events : List DeviceEvent). length (after_events the_switch events).journal) (nothing_came law.events law.comes.came law.comes.ticked))

pub returns-clause-heard_elsewhere : goal.returns-clause-heard_elsewhere
unfolding computing_devices
returns-clause-heard_elsewhere c = λ law.
    one_zero (ap (λ (device : State). length device.journal) law.runs
    ∙ ap (λ (events : List DeviceEvent). length (after_events the_switch events).journal) (nothing_came law.events law.comes.came law.comes.ticked))

pub returns-clause-unwoken : goal.returns-clause-unwoken
unfolding computing_devices
returns-clause-unwoken c = λ law.
    true_false (ap (λ (device : State). device.awake) law.runs
    ∙ ap (λ (events : List DeviceEvent). (after_events sleeping_sensor events).awake) (nothing_came law.events law.comes.came law.comes.ticked))

pub returns-clause-late : goal.returns-clause-late
unfolding computing_devices
returns-clause-late c = λ law.
    one_zero (ap (λ (device : State). device.active_at) law.runs
    ∙ ap (λ (events : List DeviceEvent). (after_events the_sensor events).active_at) (woken_first law.events law.comes.came law.comes.ticked).1)

pub returns-clause-set_otherwise : goal.returns-clause-set_otherwise
unfolding computing_devices
returns-clause-set_otherwise c = λ law.
    off_on (ap (λ (device : State). first_value device.journal) law.runs
    ∙ ap (λ (events : List DeviceEvent). first_value (after_events the_switch events).journal) (only_set law.events 0 law.comes.came law.comes.ticked))

pub returns-clause-heard_otherwise : goal.returns-clause-heard_otherwise
unfolding computing_devices
returns-clause-heard_otherwise c = λ law.
    off_on (ap (λ (device : State). first_value device.journal) law.runs
    ∙ ap (λ (events : List DeviceEvent). first_value (after_events the_switch events).journal) (only_heard law.events _ law.comes.came law.comes.ticked).1)

pub returns-clause-woken_elsewhere : goal.returns-clause-woken_elsewhere
unfolding computing_devices
returns-clause-woken_elsewhere c = λ law.
    true_false (ap (λ (device : State). device.awake) law.runs
    ∙ ap (λ (events : List DeviceEvent). (after_events sleeping_sensor events).awake) (nothing_came law.events law.comes.came law.comes.ticked))
