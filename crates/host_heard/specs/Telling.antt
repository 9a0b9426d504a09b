-- What the payloads of a node tell a host (Z-Wave Application, Management and Transport-Encapsulation Command Class
-- Specifications; which reports give which property a value is this project's own rule).
use Rattle.std.specs.Prelude.{ℕ, List, [], ◌∷◌, map, Option, Some, None, Result, Ok, Err, option_map, if◌then◌else◌}
use Rattle.zw_base.specs.declared.property.Setting.{Setting}
use Rattle.zw_base.specs.declared.property.Name.{Name}
use Rattle.zw_base.specs.declared.property.Name.TheVariants.{Switch, Level, Lock, Mode, Setpoint, Config, Member, Interval, Sensor, Battery}
use Rattle.class_core.specs.Ranges.{value_of}
use Rattle.class_core.specs.Fields.{switch_byte, lock_byte}
use Rattle.class_core.specs.declared.message.CoreMessage.{CoreMessage}
use Rattle.class_core.specs.declared.message.CoreMessage.TheVariants.{SwitchBinaryReport, SwitchMultilevelReport, ThermostatModeReport, ThermostatSetpointReport, DoorLockOperationReport, ConfigurationReport}
use Rattle.class_info.specs.declared.message.InfoMessage.{InfoMessage}
use Rattle.class_info.specs.declared.message.InfoMessage.TheVariants.{Core, SensorMultilevelReport, BatteryReport, WakeUpIntervalReport, AssociationReport, SupervisionReport, NonceGet as asks_nonce, NonceReport as gives_nonce, WakeUpNotification, TransportRequest}
use Rattle.class_core.specs.declared.fault.ClassFault.{ClassFault}
use Rattle.class_info.specs.InfoReading.{info_at}
use Rattle.encap.specs.declared.plan.Ends.{Ends}
use Rattle.encap.specs.Opening.{Message, begins_with, opened_at}
use Rattle.host_heard.specs.declared.payload.Heard.{Heard}
use Rattle.host_heard.specs.declared.payload.Heard.TheVariants.{Messages, Sealed, Unread}
use Rattle.host_heard.specs.declared.told.Told.{Told}
use Rattle.host_heard.specs.declared.told.Told.TheVariants.{Report, NonceGet, NonceReport, Notification, SegmentRequest, Values}

-- a value of a property of an end point
abbrev pub value_at : ℕ → Name → ℕ → Setting
value_at end name value = record { property = record { end = end; name = name }; value = value }

-- the value that an actuator reports
abbrev pub core_values : ℕ → CoreMessage → List Setting
core_values end (SwitchBinaryReport value) = value_at end Switch (switch_byte value) ∷ []
core_values end (SwitchMultilevelReport level) = value_at end Level level ∷ []
core_values end (ThermostatModeReport mode) = value_at end Mode mode ∷ []
core_values end (ThermostatSetpointReport kind value) = value_at end (Setpoint kind) (value_of value.number) ∷ []
core_values end (DoorLockOperationReport mode levers condition minutes seconds) = value_at end Lock (lock_byte mode) ∷ []
core_values end (ConfigurationReport parameter value) = value_at end (Config parameter) (value_of value) ∷ []
core_values end _ = []

-- the values that a message reports
abbrev pub values_of : ℕ → InfoMessage → List Setting
values_of end (Core message) = core_values end message
values_of end (SensorMultilevelReport kind value) = value_at end Sensor (value_of value.number) ∷ []
values_of end (BatteryReport level) = value_at end Battery level ∷ []
values_of end (WakeUpIntervalReport seconds target) = value_at end Interval seconds ∷ []
values_of end (AssociationReport group most following members) = map (λ node. value_at end (Member group node) 1) members
values_of end _ = []

-- what a message tells
abbrev pub told_by : ℕ → InfoMessage → Told
told_by end (SupervisionReport more wake_request session status duration) = Report session status wake_request
told_by end asks_nonce = NonceGet
told_by end (gives_nonce nonce) = NonceReport nonce
told_by end WakeUpNotification = Notification
told_by end (TransportRequest session offset) = SegmentRequest session offset
told_by end message = Values (values_of end message)

-- what messages from that end point tell, in their order; none where one of them cannot be read
abbrev pub told_all : ℕ → List (List ℕ) → Option (List Told)
told_all end [] = Some []
told_all end (command ∷ commands) = told_first end (info_at command) (told_all end commands)
  where
    told_first : ℕ → Result InfoMessage ClassFault → Option (List Told) → Option (List Told)
    told_first end (Ok message) later = option_map (λ rest. told_by end message ∷ rest) later
    told_first end (Err fault) later = None

-- the end point that a message comes from: the root without Multi Channel
abbrev pub end_of : Option Ends → ℕ
end_of None = 0
end_of (Some ends) = ends.source

-- all messages of a payload, or none of them
abbrev pub heard_by : Option (List Told) → Heard
heard_by None = Unread
heard_by (Some messages) = Messages messages

-- what a message in its wraps tells
abbrev pub told_in : Option Message → Option (List Told)
told_in None = None
told_in (Some message) = told_all (end_of message.plan.channel) message.commands

-- what a payload is
unfoldable pub heard_at : List ℕ → Heard
heard_at payload = if begins_with payload 152 129 then Sealed else heard_by (told_in (opened_at payload))
