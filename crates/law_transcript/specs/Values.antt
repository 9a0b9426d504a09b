-- Which value of a property is confirmed and which was heard, and that the confirmed one is the device's (this project's
-- own rule).
use Rattle.std.specs.Prelude.{◌≡◌, ℕ, Bool, true, false, if◌then◌else◌, List, [], ◌∷◌, Option, Some, None}
use Rattle.std.specs.List.{list_any, flat_map, AllByRecursion}
use Rattle.zw_base.specs.PropertyOrder.{same_property}
use Rattle.zw_base.specs.declared.property.Property.{Property}
use Rattle.zw_base.specs.declared.property.By.{By}
use Rattle.device_sim.specs.device_kinds.declared.change.Change.{Change}
use Rattle.device_sim.specs.device_stack.State.{State, value_of}
use Rattle.host_orders.specs.Settings.{properties_of}
use Rattle.host_keep.specs.Kept.{value_among, or_else}
use Rattle.zw_text.specs.declared.entry.Entry.{Entry}
use Rattle.zw_text.specs.declared.entry.Outcome.{Outcome}
use Rattle.zw_text.specs.declared.entry.Outcome.TheVariants.{Success}
use Rattle.zw_text.specs.Transcript.{sessions, outcome, by_session}
use Rattle.law_transcript.specs.Lists.{listed}
use Rattle.law_transcript.specs.Commands.{settings_for}
use Rattle.law_transcript.specs.Once.{carried_by}

-- whether the outcome is success
abbrev pub is_success : Outcome → Bool
is_success Success = true
is_success _ = false

-- the value that a command of a node confirms for a property: the one that it asks for, where it succeeded
abbrev pub confirmed_by : (List Entry → ℕ → List ℕ) → List Entry → ℕ → Property → ℕ → Option ℕ
confirmed_by listing transcript node property number =
    if is_success (outcome number transcript) then value_among (settings_for listing transcript node number) property else None

-- what the last of these commands that gives something gives
abbrev pub last_given : (ℕ → Option ℕ) → List ℕ → Option ℕ
last_given given [] = None
last_given given (number ∷ numbers) = or_else (last_given given numbers) (given number)

-- the confirmed value of a property of a node: that of the last session of it that succeeded and sets the property
abbrev pub confirmed : (List Entry → ℕ → List ℕ) → List Entry → ℕ → Property → Option ℕ
confirmed listing transcript node property = last_given (confirmed_by listing transcript node property) (sessions node transcript)

-- whether a change gives a property a value
abbrev pub sets : Change → Property → Bool
sets change property = list_any (λ setting. same_property setting.property property) change.settings

-- what made the last change of a property in a journal, where there is one, else what made the one before
abbrev pub last_setter : Option By → List Change → Property → Option By
last_setter before [] property = before
last_setter before (change ∷ changes) property =
    last_setter (if sets change property then Some change.by else before) changes property

-- the command by whose session a property was last changed, where it was changed so
abbrev pub last_command : List ℕ → List Change → Property → List ℕ
last_command begun journal property = carried_by begun (flat_map by_session (listed (last_setter None journal property)))

-- where the last change of a property comes from a command reported successful, the confirmed value is the device's
abbrev pub IsConfirmed : (List Entry → ℕ → List ℕ) → ℕ → List Entry → State → Property → Type 0
IsConfirmed listing node transcript device property =
    AllByRecursion (λ number. outcome number transcript ≡ Success →
    confirmed listing transcript node property ≡ Some (value_of device property))
    (last_command (sessions node transcript) device.journal property)

-- the properties that a journal changes
abbrev pub properties_changed : List Change → List Property
properties_changed journal = flat_map (λ change. properties_of change.settings) journal

-- so it is of each property that the device has changed
abbrev pub ConfirmsLast : (List Entry → ℕ → List ℕ) → ℕ → List Entry → State → Type 0
ConfirmsLast listing node transcript device =
    AllByRecursion (IsConfirmed listing node transcript device) (properties_changed device.journal)
