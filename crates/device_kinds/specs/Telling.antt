-- What a device tells of its values (Z-Wave Application and Management Command Class Specifications; which kind tells what
-- is this project's own rule).
use Rattle.std.specs.Prelude.{ℕ, ◌%◌, Bool, ◌==◌, ◌&&◌, not, if◌then◌else◌, min, ◌≤◌, List, length, take, filter, Option, Some, None}
use Rattle.std.specs.Option.{option_and_then}
use Rattle.zw_base.specs.declared.property.Name.{Name}
use Rattle.zw_base.specs.declared.property.Name.TheVariants as names
use Rattle.zw_base.specs.declared.property.Property.{Property}
use Rattle.class_core.specs.declared.number.Number.TheVariants.{Two, Four}
use Rattle.class_core.specs.declared.switch.Switch.TheVariants.{On, Off}
use Rattle.class_core.specs.declared.message.CoreMessage.{CoreMessage}
use Rattle.class_core.specs.declared.message.CoreMessage.TheVariants.{SwitchBinaryGet, SwitchBinaryReport, SwitchMultilevelGet, SwitchMultilevelReport, ThermostatModeGet, ThermostatModeReport, ThermostatSetpointGet, ThermostatSetpointReport, ConfigurationGet, ConfigurationReport}
use Rattle.class_info.specs.declared.message.InfoMessage.{InfoMessage}
use Rattle.class_info.specs.declared.message.InfoMessage.TheVariants.{Core, SensorMultilevelGet, SensorMultilevelReport, BatteryGet, BatteryReport, WakeUpIntervalGet, WakeUpIntervalReport, AssociationGet, AssociationReport, SupervisionReport}
use Rattle.device_kinds.specs.declared.kind.Kind.{Kind}
use Rattle.device_kinds.specs.Kind.{lists, tells, has_end, all_nodes, host_node}

-- the report of a value, in the fields of its report: what these cannot say is cut off, and never comes
abbrev pub report_of : Name → ℕ → Option InfoMessage
report_of names.Switch value = Some (Core (SwitchBinaryReport (if value == 0 then Off else On)))
report_of names.Level value = Some (Core (SwitchMultilevelReport (min value 99)))
report_of names.Lock value = None
report_of names.Mode value = Some (Core (ThermostatModeReport (value % 32)))
report_of (names.Setpoint type) value =
    Some (Core (ThermostatSetpointReport (type % 16) (record { precision = 1; scale = 0; number = Two (value % 65536) })))
report_of (names.Config parameter) value = Some (Core (ConfigurationReport parameter (Four value)))
report_of (names.Member group node) value = None
report_of names.Interval value = Some (WakeUpIntervalReport (value % 16777216) host_node)
report_of names.Sensor value = Some (SensorMultilevelReport 1 (record { precision = 1; scale = 0; number = Two (value % 65536) }))
report_of names.Battery value = Some (BatteryReport 100)

-- the value that a Get asks for
abbrev pub asked_name_core : CoreMessage → Option Name
asked_name_core SwitchBinaryGet = Some names.Switch
asked_name_core SwitchMultilevelGet = Some names.Level
asked_name_core ThermostatModeGet = Some names.Mode
asked_name_core (ThermostatSetpointGet type) = Some (names.Setpoint type)
asked_name_core (ConfigurationGet parameter) = Some (names.Config parameter)
asked_name_core _ = None

abbrev pub asked_name : InfoMessage → Option Name
asked_name (Core message) = asked_name_core message
asked_name SensorMultilevelGet = Some names.Sensor
asked_name BatteryGet = Some names.Battery
asked_name WakeUpIntervalGet = Some names.Interval
asked_name _ = None

-- whether a node is a member of a group by these values
abbrev pub is_member_of : (Property → ℕ) → ℕ → ℕ → ℕ → Bool
is_member_of values end group node = not (values (record { end = end; name = names.Member group node }) == 0)

-- the members of a group, in order
unfoldable pub members_of : (Property → ℕ) → ℕ → ℕ → List ℕ
members_of values end group = filter (is_member_of values end group) all_nodes

-- the report of a value of that end point, where the kind tells it
abbrev pub value_told : Kind → (Property → ℕ) → ℕ → Name → Option InfoMessage
value_told kind values end name =
    if tells kind name then report_of name (values (record { end = end; name = name })) else None

-- the report that a Get at an end point is answered with
unfoldable pub told : Kind → (Property → ℕ) → ℕ → InfoMessage → Option InfoMessage
told kind values end (AssociationGet group) =
    if has_end kind end && lists kind 0x85 then Some (AssociationReport group 5 0 (take 5 (members_of values end group))) else None
told kind values end message =
    if has_end kind end then option_and_then (value_told kind values end) (asked_name message) else None

-- a message with which a device answers: the report of a value, or that of a session
abbrev pub IsAnswerOfCore : CoreMessage → Type 0
IsAnswerOfCore (SwitchBinaryReport value) = Unit {0}
IsAnswerOfCore (SwitchMultilevelReport level) = Unit {0}
IsAnswerOfCore (ThermostatModeReport mode) = Unit {0}
IsAnswerOfCore (ThermostatSetpointReport type value) = Unit {0}
IsAnswerOfCore (ConfigurationReport parameter value) = Unit {0}
IsAnswerOfCore _ = ⊥

abbrev pub IsAnswer : InfoMessage → Type 0
IsAnswer (Core message) = IsAnswerOfCore message
IsAnswer (SensorMultilevelReport type value) = Unit {0}
IsAnswer (BatteryReport level) = Unit {0}
IsAnswer (WakeUpIntervalReport seconds target) = Unit {0}
IsAnswer (AssociationReport group most following members) = length members ≤ 5
IsAnswer (SupervisionReport more wake_request session status duration) = Unit {0}
IsAnswer _ = ⊥
