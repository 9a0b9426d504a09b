use Rattle.std.proofs.Common.{◌≡◌, ℕ, suc, true, false, List, [], ◌∷◌, length, sym, ap, subst, ◌∙◌, inl, inr, arith}
use Rattle.std.specs.Prelude.{◌≤◌}
use Rattle.std.specs.List.{flat_map}
use Rattle.zw_base.specs.declared.property.Setting.{Setting}
use Rattle.law_transcript.specs.device_kinds.declared.change.Change.{Change}
use Rattle.law_transcript.specs.device_sim.State.{State}
use Rattle.law_transcript.specs.device_sim.Event.{DeviceEvent, device_after}
use Rattle.law_transcript.specs.device_sim.Event.DeviceEvent.{Hears, Ticks, Sets}
use Rattle.law_transcript.specs.Devices.{after_events, comings, made_by, replies_joined}
use Rattle.law_transcript.specs.Worked.{the_sensor, the_switch}
use Rattle.law_transcript.proofs.Comings.{first_tag, nothing_came, only_set, only_ticked}
use Rattle.law_wire.specs.WorkedHalted.{sleeper, stirred, grown_old, quiet_line, set_before, ticked_before, woken_before, set_otherwise, woken_otherwise, two_messages}
use Rattle.law_wire.specs.Halted.{before_line}
use Rattle.law_wire.proofs.Computing.{reckoning}
use Rattle.law_wire.proofs.Halting.{Late, hears_once, late_by, one_at_most, only_woken, payload_first, set_first, woken_first}
use Rattle.law_wire.proofs.halted.rejected_halted.Goals as goal

-- numbers that are not the same
one_none : ◌≡◌ {A = ℕ} 1 0 → ⊥
one_none e = omega (arith, e)

none_one : ◌≡◌ {A = ℕ} 0 1 → ⊥
none_one e = omega (arith, e)

none_two : ◌≡◌ {A = ℕ} 0 2 → ⊥
none_two e = omega (arith, e)

two_none : ◌≡◌ {A = ℕ} 2 0 → ⊥
two_none e = omega (arith, e)

two_one : ◌≡◌ {A = ℕ} 2 1 → ⊥
two_one e = omega (arith, e)

seven_eight : ◌≡◌ {A = ℕ} 7 8 → ⊥
seven_eight e = omega (arith, e)

none_some : (n : ℕ) → 0 ≡ suc n → ⊥
none_some n e = omega (arith, e)

true_false : true ≡ false → ⊥
true_false e = cc

two_low : 2 ≤ 1 → ⊥
two_low low = omega (arith, low)

-- how many changes a device has, the first value of them, and the second byte of what it says first
abbrev changes_of : State → ℕ
changes_of device = length device.journal

abbrev first_set : List Setting → ℕ
first_set [] = 0
first_set (setting ∷ settings) = setting.value

abbrev first_change : List Change → ℕ
first_change [] = 0
first_change (change ∷ changes) = first_set change.settings

abbrev second_byte : List ℕ → ℕ
second_byte (one ∷ two ∷ bytes) = two
second_byte _ = 0

abbrev first_said : List (List ℕ) → ℕ
first_said [] = 0
first_said (payload ∷ payloads) = second_byte payload

pub returns-clause-stirred : goal.returns-clause-stirred
unfolding reckoning
returns-clause-stirred c = λ law.
    let late = late_by 5 quiet_line sleeper stirred law [] (nothing_came law.earlier law.before.comes.came law.before.comes.ticked) in
    one_at_most (λ (events : List DeviceEvent). 1 ≡ (after_events sleeper events).active_at → ⊥) one_none (λ payload drawn. one_none) one_none (λ value. one_none)
    [] law.late late.ticked late.few (ap (λ (device : State). device.active_at) late.runs)

pub returns-clause-unset : goal.returns-clause-unset
unfolding reckoning
returns-clause-unset c = λ law.
    let late = late_by 5 set_before sleeper sleeper law (Sets 1 ∷ []) (only_set law.earlier 1 law.before.comes.came law.before.comes.ticked) in
    one_at_most (λ (events : List DeviceEvent). 0 ≡ changes_of (after_events sleeper (Sets 1 ∷ events)) → ⊥) none_one (λ payload drawn. none_one) none_one (λ value. none_two)
    (Sets 1 ∷ []) law.late (omega (arith, late.ticked)) (omega (arith, late.few)) (ap changes_of late.runs)

pub returns-clause-unticked : goal.returns-clause-unticked
unfolding reckoning
returns-clause-unticked c = λ law.
    let first = only_ticked law.earlier law.before.comes.came law.before.comes.ticked in
    let late = late_by 5 ticked_before sleeper sleeper law (Ticks first.0 ∷ []) first.1 in
    one_at_most (λ (events : List DeviceEvent). 0 ≡ (after_events sleeper (Ticks first.0 ∷ events)).clock → ⊥) none_one (λ payload drawn. none_one) none_one (λ value. none_one)
    (Ticks first.0 ∷ []) law.late (omega (arith, late.ticked)) (omega (arith, late.few)) (ap (λ (device : State). device.clock) late.runs)

pub returns-clause-silent : goal.returns-clause-silent
unfolding reckoning
returns-clause-silent c = λ law.
    none_one (ap length law.before.answered
    ∙ ap (λ (events : List DeviceEvent). length (replies_joined 5 (before_line woken_before) sleeper events))
    (only_woken law.earlier law.before.comes.came law.before.comes.ticked))

pub returns-clause-older : goal.returns-clause-older
unfolding reckoning
returns-clause-older c = λ law.
    let late = late_by 5 quiet_line sleeper grown_old law [] (nothing_came law.earlier law.before.comes.came law.before.comes.ticked) in
    one_at_most (λ (events : List DeviceEvent). 1 ≡ (after_events sleeper events).clock → ⊥) one_none (λ payload drawn. one_none) one_none (λ value. one_none)
    [] law.late late.ticked late.few (ap (λ (device : State). device.clock) late.runs)

pub returns-clause-unasked : goal.returns-clause-unasked
unfolding reckoning
returns-clause-unasked c = λ law.
    let late = late_by 5 quiet_line sleeper the_sensor law [] (nothing_came law.earlier law.before.comes.came law.before.comes.ticked) in
    one_at_most (λ (events : List DeviceEvent). first_tag (comings events) ≤ 1 → true ≡ (after_events sleeper events).awake → ⊥)
    (λ low. true_false) (λ payload drawn low. true_false) (λ low same. two_low low) (λ value low. true_false)
    [] law.late late.ticked late.few (payload_first 5 quiet_line law.more law.lacks.unsaid (comings law.late) late.prefix)
    (ap (λ (device : State). device.awake) late.runs)

pub returns-clause-otherwise : goal.returns-clause-otherwise
unfolding reckoning
returns-clause-otherwise c = λ law.
    let late = late_by 5 set_otherwise sleeper (after_events sleeper (Sets 2 ∷ [])) law [] (nothing_came law.earlier law.before.comes.came law.before.comes.ticked) in
    elim (set_first 1 law.late late.prefix.0 (sym (ap first_tag late.prefix.1)) late.ticked) [
      | inl none ↦ one_none (ap changes_of late.runs ∙ ap (λ (events : List DeviceEvent). changes_of (after_events sleeper events)) none)
      | inr first ↦
          let set = subst (λ (events : List DeviceEvent). Late 5 set_otherwise law.more sleeper (after_events sleeper (Sets 2 ∷ [])) [] events) first.1 late in
          one_at_most (λ (events : List DeviceEvent). 2 ≡ first_change (after_events sleeper (Sets 1 ∷ events)).journal → ⊥) two_one (λ payload drawn. two_one) two_one (λ value. two_one)
          (Sets 1 ∷ []) first.0 (omega (arith, set.ticked)) (omega (arith, set.few)) (ap (λ (device : State). first_change device.journal) set.runs)
    ]

pub returns-clause-words : goal.returns-clause-words
unfolding reckoning
returns-clause-words c = λ law.
    let late = late_by 5 woken_otherwise sleeper the_sensor law [] (nothing_came law.earlier law.before.comes.came law.before.comes.ticked) in
    let said = late.answered in
    elim (woken_first law.late late.prefix.0 (sym (ap first_tag late.prefix.1)) late.ticked) [
      | inl none ↦ none_some _ (ap (λ (events : List DeviceEvent). length (replies_joined 5 woken_otherwise sleeper events)) (sym none) ∙ ap length said.1)
      | inr first ↦ seven_eight (ap (λ (events : List DeviceEvent). first_said (replies_joined 5 woken_otherwise sleeper events)) (sym first.1) ∙ ap first_said said.1)
    ]

two_heard : (payload drawn : List ℕ) → 2 ≡ changes_of (device_after the_switch (Hears payload drawn)) → ⊥
two_heard payload drawn same = omega (arith, same, hears_once the_switch payload drawn)

pub returns-clause-two : goal.returns-clause-two
unfolding reckoning
returns-clause-two c = λ law.
    let late = late_by 2 quiet_line the_switch (after_events the_switch two_messages) law [] (nothing_came law.earlier law.before.comes.came law.before.comes.ticked) in
    one_at_most (λ (events : List DeviceEvent). 2 ≡ changes_of (after_events the_switch events) → ⊥) two_none two_heard two_none (λ value. two_one)
    [] law.late late.ticked late.few (ap changes_of late.runs)

-- a setting is shown at least, and none was made
one_and_none : (shown made : ℕ) → suc shown ≡ made → 0 ≡ made → ⊥
one_and_none shown made one none = omega (arith, one, none)

pub returns-clause-unmade : goal.returns-clause-unmade
unfolding reckoning
returns-clause-unmade c = λ law.
    one_and_none _ (length (flat_map made_by law.changes.changes)) (ap length law.changes.entered)
    (ap (λ (changes : List Change). length (flat_map made_by changes)) law.changes.changed)
