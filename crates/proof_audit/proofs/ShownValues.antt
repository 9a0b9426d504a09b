-- The values that the table tells of a device are the last ones that its node showed.
use Rattle.std.proofs.Common.{◌≡◌, ℕ, cond, Bool, true, false, List, [], ◌∷◌, ◌++◌, map, Option, Some, None, unwrap_or, refl, sym, ap, ◌∙◌}
use Rattle.std.specs.List.{AllByRecursion, cons_option, filter_map, flat_map, range_with_len}
use Rattle.std.specs.Prelude.{◌||◌, ◌==◌, not}
use Rattle.zw_base.specs.PropertyOrder.{same_property}
use Rattle.zw_base.specs.declared.property.Property.{Property}
use Rattle.zw_base.specs.declared.property.Setting.{Setting}
use Rattle.zw_base.specs.declared.property.By.{By}
use Rattle.device_kinds.specs.Kind.{main_property_of, property_at, property_count}
use Rattle.device_kinds.specs.Values.{value_after, value_by}
use Rattle.device_kinds.specs.declared.change.Change.{Change}
use Rattle.device_stack.specs.Showing.{shown_at, shown_of}
use Rattle.device_stack.specs.State.{State, value_of}
use Rattle.zw_text.specs.declared.entry.Entry.{Entry}
use Rattle.zw_text.specs.Transcript.{Made, made}
use Rattle.law_transcript.specs.Devices.{made_by}
use Rattle.law_transcript.specs.Stores.{last_value}
use Rattle.audit_table.specs.TableRule.{settings_made, value_shown}
use Rattle.proof_transcript.proofs.TicksBegun.{last_append as last-append}

-- ---- the last value

last-by : (before : Option ℕ) (settings : List Setting) (property : Property) → unwrap_or (last_value before settings property) 0 ≡ value_by settings property (unwrap_or before 0)
last-by before [] property = refl
last-by before (one ∷ settings) property =
    last-by (cond (same_property one.property property) (Some one.value) before) settings property
    ∙ ap (value_by settings property) (by (same_property one.property property))
  where
    by : (b : Bool) → unwrap_or (cond b (Some one.value) before) 0 ≡ cond b one.value (unwrap_or before 0)
    by true = refl
    by false = refl

made-of-change : (by : By) (settings : List Setting) (more : List Made) → settings_made (map (λ (setting : Setting). record { by = by; setting = setting }) settings ++ more) ≡ settings ++ settings_made more
made-of-change by [] more = refl
made-of-change by (one ∷ settings) more = ap (λ (l : List Setting). one ∷ l) (made-of-change by settings more)

-- the value after changes is the last one that these show
last-after : (before : Option ℕ) (changes : List Change) (property : Property)
    → unwrap_or (last_value before (settings_made (flat_map made_by changes)) property) 0 ≡ value_after changes property (unwrap_or before 0)
last-after before [] property = refl
last-after before (change ∷ changes) property =
    ap (λ (l : List Setting). unwrap_or (last_value before l property) 0) (made-of-change change.by change.settings (flat_map made_by changes))
    ∙ (ap (λ (o : Option ℕ). unwrap_or o 0) (last-append before change.settings (settings_made (flat_map made_by changes)) property)
    ∙ (last-after (last_value before change.settings property) changes property
    ∙ ap (value_after changes property) (last-by before change.settings property)))

-- ---- what a device shows

abbrev IsItsValue : State → Setting → Type 0
IsItsValue device setting = setting.value ≡ value_of device setting.property

given-value : (device : State) (places : List ℕ) → AllByRecursion (IsItsValue device) (filter_map (λ at. shown_at device (property_at device.kind at)) places)
given-value device [] = tt
given-value device (at ∷ places) =
    let property = property_at device.kind at in
    by property (same_property property (main_property_of device.kind) || not (value_of device property == 0)) (given-value device places)
  where
    by : (property : Property) (b : Bool) → AllByRecursion (IsItsValue device) (filter_map (λ at. shown_at device (property_at device.kind at)) places)
        → AllByRecursion (IsItsValue device) (cons_option (cond b (Some (record { property = property; value = value_of device property })) None) (filter_map (λ at. shown_at device (property_at device.kind at)) places))
    by property true rest = (refl, rest)
    by property false rest = rest

its-values : (device : State) → AllByRecursion (IsItsValue device) (shown_of device)
unfolding shown_of
its-values device = given-value device (range_with_len 0 (property_count device.kind))

-- a setting has the value that the node showed last
abbrev pub IsLastShown : List Entry → ℕ → Setting → Type 0
IsLastShown transcript node setting = value_shown transcript node setting.property ≡ setting.value

last-shown : (transcript : List Entry) (node : ℕ) (device : State) → made node transcript ≡ flat_map made_by device.journal → (settings : List Setting)
    → AllByRecursion (IsItsValue device) settings → AllByRecursion (IsLastShown transcript node) settings
last-shown transcript node device shown [] all = tt
last-shown transcript node device shown (setting ∷ settings) all = (
  ap (λ (l : List Made). unwrap_or (last_value None (settings_made l) setting.property) 0) shown ∙ (last-after None device.journal setting.property ∙ sym all.0),
  last-shown transcript node device shown settings all.1,
)

pub all-last-shown : (transcript : List Entry) (node : ℕ) (device : State) → made node transcript ≡ flat_map made_by device.journal
    → AllByRecursion (IsLastShown transcript node) (shown_of device)
all-last-shown transcript node device shown = last-shown transcript node device shown (shown_of device) (its-values device)
