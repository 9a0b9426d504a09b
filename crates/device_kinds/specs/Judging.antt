-- How a device judges the commands of a session (this project's own kinds; the commands are those of the Z-Wave
-- Application and Management Command Class Specifications).
use Rattle.std.specs.Prelude.{ℕ, suc, ◌+◌, Bool, false, ◌==◌, ◌&&◌, ◌||◌, not, nat_le, nat_lt, if◌then◌else◌, List, [], ◌∷◌, length, count_by, Result, Ok, Err}
use Rattle.zw_base.specs.declared.property.Name.{Name}
use Rattle.zw_base.specs.declared.property.Name.TheVariants as names
use Rattle.zw_base.specs.declared.property.Property.{Property}
use Rattle.zw_base.specs.declared.property.Setting.{Setting}
use Rattle.supervision.specs.declared.session.TheConstants.{NO_SUPPORT, WORKING, FAIL, SUCCESS}
use Rattle.class_core.specs.Ranges.{Scaled, value_of as number_of}
use Rattle.class_core.specs.Fields.{switch_byte, lock_byte}
use Rattle.class_core.specs.declared.number.Number.{Number}
use Rattle.class_core.specs.declared.number.Number.TheVariants.{One, Two, Four}
use Rattle.class_core.specs.declared.fault.ClassFault.{ClassFault}
use Rattle.class_core.specs.declared.message.CoreMessage.{CoreMessage}
use Rattle.class_core.specs.declared.message.CoreMessage.TheVariants.{SwitchBinarySet, SwitchMultilevelSet, ThermostatModeSet, ThermostatSetpointSet, DoorLockOperationSet, ConfigurationSet, ConfigurationBulkSet, AssociationSet, AssociationRemove, WakeUpIntervalSet}
use Rattle.class_info.specs.declared.message.InfoMessage.{InfoMessage}
use Rattle.class_info.specs.declared.message.InfoMessage.TheVariants.{Core}
use Rattle.class_info.specs.InfoReading.{info_at}
use Rattle.device_kinds.specs.declared.kind.Kind.{Kind}
use Rattle.device_kinds.specs.declared.verdict.Verdict.{Verdict}
use Rattle.device_kinds.specs.declared.verdict.Verdict.TheVariants.{NoSupport, Fails, Makes, Works}
use Rattle.device_kinds.specs.Kind.{lists, has_end, all_nodes}
use Rattle.device_kinds.specs.Values.{value_by}
use Rattle.device_kinds.specs.Settings.{merged}

-- one setting
abbrev pub setting_of : ℕ → Name → ℕ → Setting
setting_of end name value = record { property = record { end = end; name = name }; value = value }

-- a command of a class that is not listed is not supported
abbrev pub where_listed : Kind → ℕ → Verdict → Verdict
where_listed kind class verdict = if lists kind class then verdict else NoSupport

-- a command whose values are outside fails
abbrev pub where_inside : Bool → List Setting → Verdict
where_inside inside settings = if inside then Makes settings else Fails

-- the level that is meant: 255 is the last one above 0
abbrev pub level_meant : ℕ → ℕ → ℕ
level_meant last level = if level == 255 then last else level

-- 5.0 to 35.0 degrees Celsius, in tenths and two bytes
abbrev pub in_tenths : Number → Bool
in_tenths (Two tenths) = nat_le 50 tenths && nat_le tenths 350
in_tenths (One tenths) = false
in_tenths (Four tenths) = false

abbrev pub is_setpoint : ℕ → Scaled → Bool
is_setpoint type value = ((type == 1) || (type == 2)) && (value.precision == 1) && (value.scale == 0) && in_tenths value.number

-- the parameters from one on, in order
abbrev pub configured : ℕ → ℕ → List ℕ → List Setting
configured end parameter [] = []
configured end parameter (value ∷ values) = setting_of end (names.Config parameter) value ∷ configured end (suc parameter) values

-- the members of group 1 that these nodes become (1) or are no longer (0)
abbrev pub memberships : ℕ → ℕ → List ℕ → List Setting
memberships end value [] = []
memberships end value (node ∷ nodes) = setting_of end (names.Member 1 node) value ∷ memberships end value nodes

-- whether a node is a member of group 1 by these values and settings
abbrev pub is_member : (Property → ℕ) → List Setting → ℕ → ℕ → Bool
is_member values settings end node =
    not (value_by settings (record { end = end; name = names.Member 1 node }) (values (record { end = end; name = names.Member 1 node })) == 0)

-- how many members group 1 has by these values and settings
unfoldable pub member_count : (Property → ℕ) → List Setting → ℕ → ℕ
member_count values settings end = count_by (is_member values settings end) all_nodes

-- group 1 alone, at least one node, and at most five members after the command
unfoldable pub judged_members : (Property → ℕ) → ℕ → ℕ → ℕ → List ℕ → Verdict
judged_members values end value group nodes =
    let settings = memberships end value nodes in
    where_inside ((group == 1) && nat_lt 0 (length nodes) && nat_le (member_count values settings end) 5) settings

-- a command that sets, by the values of the device at that end point and its last level above 0
abbrev pub judged_set : Kind → (Property → ℕ) → ℕ → ℕ → CoreMessage → Verdict
judged_set kind values last end (SwitchBinarySet value) =
    where_listed kind 0x25 (Makes (setting_of end names.Switch (switch_byte value) ∷ []))
judged_set kind values last end (SwitchMultilevelSet level) =
    where_listed kind 0x26 (Works (setting_of end names.Level (level_meant last level) ∷ []))
judged_set kind values last end (ThermostatModeSet mode) =
    where_listed kind 0x40 (where_inside (nat_le mode 2) (setting_of end names.Mode mode ∷ []))
judged_set kind values last end (ThermostatSetpointSet type value) =
    where_listed kind 0x43 (where_inside (is_setpoint type value) (setting_of end (names.Setpoint type) (number_of value.number) ∷ []))
judged_set kind values last end (DoorLockOperationSet mode) =
    where_listed kind 0x62 (Makes (setting_of end names.Lock (lock_byte mode) ∷ []))
judged_set kind values last end (ConfigurationSet parameter default value) =
    where_listed kind 0x70 (where_inside (not default) (setting_of end (names.Config parameter) (number_of value) ∷ []))
judged_set kind values last end (ConfigurationBulkSet offset default numbers) =
    where_listed kind 0x70 (where_inside (not default && nat_le (offset + length numbers.items) 256) (configured end offset numbers.items))
judged_set kind values last end (AssociationSet group nodes) = where_listed kind 0x85 (judged_members values end 1 group nodes)
judged_set kind values last end (AssociationRemove group nodes) = where_listed kind 0x85 (judged_members values end 0 group nodes)
judged_set kind values last end (WakeUpIntervalSet seconds target) =
    where_listed kind 0x84 (where_inside (target == 1) (setting_of end names.Interval seconds ∷ []))
judged_set kind values last end _ = NoSupport

-- a command as it was read: what is no Set is not supported
abbrev pub judged : Kind → (Property → ℕ) → ℕ → ℕ → Result InfoMessage ClassFault → Verdict
judged kind values last end (Ok (Core message)) = judged_set kind values last end message
judged kind values last end (Ok _) = NoSupport
judged kind values last end (Err fault) = NoSupport

-- what the commands come to together, each judged as if those before it were made. The first that would not be carried
-- out decides, and what takes time stands alone
abbrev pub judged_all : Kind → (Property → ℕ) → ℕ → ℕ → List Setting → List (List ℕ) → Verdict
judged_all kind values last end made [] = Makes made
judged_all kind values last end made (command ∷ commands) =
    by (judged kind (λ property. value_by made property (values property)) last end (info_at command))
    (λ settings. judged_all kind values last end (merged made settings) commands)
  where
    by : Verdict → (List Setting → Verdict) → Verdict
    by (Makes settings) go_on = go_on settings
    by (Works settings) go_on = Works settings
    by Fails go_on = Fails
    by NoSupport go_on = NoSupport

-- the commands of a message to an end point: that must be there, and a batch must be one that the kind takes
unfoldable pub judged_message : Kind → (Property → ℕ) → ℕ → ℕ → Bool → List (List ℕ) → Verdict
judged_message kind values last end batch commands =
    if not (has_end kind end) then NoSupport
    else if batch && (not (lists kind 0x8F) || (length commands == 0)) then NoSupport
    else judged_all kind values last end [] commands

-- the status that the device keeps of a session (Supervision Report)
abbrev pub status_of : Verdict → ℕ
status_of NoSupport = NO_SUPPORT
status_of Fails = FAIL
status_of (Makes settings) = SUCCESS
status_of (Works settings) = WORKING
