-- Reading a message from the left: its class, its command, then its fields in their order, each at its offset.
use Rattle.std.specs.Prelude.{ℕ, List, [], ◌∷◌, Result, Ok, Err, ◌==◌, if◌then◌else◌}
use Rattle.class_core.specs.declared.fault.ClassFault.{ClassFault}
use Rattle.class_core.specs.declared.fault.ClassFault.TheVariants.{Empty, UnknownClass, UnknownCommand}
use Rattle.class_core.specs.declared.message.CoreMessage.{CoreMessage}
use Rattle.class_core.specs.declared.message.CoreMessage.TheVariants.{BasicSet, BasicGet, BasicReport, SwitchBinarySet, SwitchBinaryGet, SwitchBinaryReport, SwitchMultilevelSet, SwitchMultilevelGet, SwitchMultilevelReport, ThermostatModeSet, ThermostatModeGet, ThermostatModeReport, ThermostatSetpointSet, ThermostatSetpointGet, ThermostatSetpointReport, DoorLockOperationSet, DoorLockOperationGet, DoorLockOperationReport, ConfigurationSet, ConfigurationGet, ConfigurationReport, ConfigurationBulkSet, AssociationSet, AssociationRemove, WakeUpIntervalSet}
use Rattle.class_core.specs.Ranges.{is_level, is_node, Scaled}
use Rattle.class_core.specs.Reading.{◌>>=◌, byte_at, limited_at, bits_at, switch_at, lock_at, word_at, three_at, number_at, numbers_at, size_at, size_byte_at, flag_at, scaled_at, nodes_at, in_class}

-- Basic, by its command
abbrev pub basic_by : List ℕ → ℕ → Result CoreMessage ClassFault
basic_by bytes command =
    if command == 1 then (byte_at 2 bytes >>= λ value. Ok (BasicSet value))
    else if command == 2 then Ok BasicGet
    else if command == 3 then (byte_at 2 bytes >>= λ value. Ok (BasicReport value))
    else Err (UnknownCommand 0x20 command)

-- Switch Binary, by its command
abbrev pub switch_binary_by : List ℕ → ℕ → Result CoreMessage ClassFault
switch_binary_by bytes command =
    if command == 1 then (switch_at 2 bytes >>= λ value. Ok (SwitchBinarySet value))
    else if command == 2 then Ok SwitchBinaryGet
    else if command == 3 then (switch_at 2 bytes >>= λ value. Ok (SwitchBinaryReport value))
    else Err (UnknownCommand 0x25 command)

-- Switch Multilevel, by its command
abbrev pub switch_multilevel_by : List ℕ → ℕ → Result CoreMessage ClassFault
switch_multilevel_by bytes command =
    if command == 1 then (limited_at is_level 2 bytes >>= λ level. Ok (SwitchMultilevelSet level))
    else if command == 2 then Ok SwitchMultilevelGet
    else if command == 3 then (limited_at is_level 2 bytes >>= λ level. Ok (SwitchMultilevelReport level))
    else Err (UnknownCommand 0x26 command)

-- Thermostat Mode, by its command
abbrev pub thermostat_mode_by : List ℕ → ℕ → Result CoreMessage ClassFault
thermostat_mode_by bytes command =
    if command == 1 then (bits_at 0 5 2 bytes >>= λ mode. Ok (ThermostatModeSet mode))
    else if command == 2 then Ok ThermostatModeGet
    else if command == 3 then (bits_at 0 5 2 bytes >>= λ mode. Ok (ThermostatModeReport mode))
    else Err (UnknownCommand 0x40 command)

-- the fields of a setpoint: its kind, then its value
unfoldable pub setpoint_at : (ℕ → Scaled → CoreMessage) → List ℕ → Result CoreMessage ClassFault
setpoint_at make bytes = do
  kind ← bits_at 0 4 2 bytes
  value ← scaled_at 3 bytes
  Ok (make kind value)

-- Thermostat Setpoint, by its command
abbrev pub thermostat_setpoint_by : List ℕ → ℕ → Result CoreMessage ClassFault
thermostat_setpoint_by bytes command =
    if command == 1 then setpoint_at ThermostatSetpointSet bytes
    else if command == 2 then (bits_at 0 4 2 bytes >>= λ kind. Ok (ThermostatSetpointGet kind))
    else if command == 3 then setpoint_at ThermostatSetpointReport bytes
    else Err (UnknownCommand 0x43 command)

-- the fields of a lock's report
unfoldable pub lock_report_at : List ℕ → Result CoreMessage ClassFault
lock_report_at bytes = do
  mode ← lock_at 2 bytes
  levers ← byte_at 3 bytes
  condition ← byte_at 4 bytes
  minutes ← byte_at 5 bytes
  seconds ← byte_at 6 bytes
  Ok (DoorLockOperationReport mode levers condition minutes seconds)

-- Door Lock, by its command
abbrev pub door_lock_by : List ℕ → ℕ → Result CoreMessage ClassFault
door_lock_by bytes command =
    if command == 1 then (lock_at 2 bytes >>= λ mode. Ok (DoorLockOperationSet mode))
    else if command == 2 then Ok DoorLockOperationGet
    else if command == 3 then lock_report_at bytes
    else Err (UnknownCommand 0x62 command)

-- the fields of one parameter that is set
unfoldable pub configuration_set_at : List ℕ → Result CoreMessage ClassFault
configuration_set_at bytes = do
  parameter ← byte_at 2 bytes
  default ← flag_at 7 3 bytes
  size ← size_at 3 bytes
  value ← number_at size 4 bytes
  Ok (ConfigurationSet parameter default value)

-- the fields of one parameter that is reported
unfoldable pub configuration_report_at : List ℕ → Result CoreMessage ClassFault
configuration_report_at bytes = do
  parameter ← byte_at 2 bytes
  size ← size_byte_at 3 bytes
  value ← number_at size 4 bytes
  Ok (ConfigurationReport parameter value)

-- the fields of parameters that are set together
unfoldable pub configuration_bulk_at : List ℕ → Result CoreMessage ClassFault
configuration_bulk_at bytes = do
  offset ← word_at 2 bytes
  count ← byte_at 4 bytes
  default ← flag_at 7 5 bytes
  size ← size_at 5 bytes
  values ← numbers_at size count 6 bytes
  Ok (ConfigurationBulkSet offset default values)

-- Configuration, by its command
abbrev pub configuration_by : List ℕ → ℕ → Result CoreMessage ClassFault
configuration_by bytes command =
    if command == 4 then configuration_set_at bytes
    else if command == 5 then (byte_at 2 bytes >>= λ parameter. Ok (ConfigurationGet parameter))
    else if command == 6 then configuration_report_at bytes
    else if command == 7 then configuration_bulk_at bytes
    else Err (UnknownCommand 0x70 command)

-- the fields of an association: a group, then nodes
unfoldable pub association_at : (ℕ → List ℕ → CoreMessage) → List ℕ → Result CoreMessage ClassFault
association_at make bytes = do
  group ← byte_at 2 bytes
  members ← nodes_at 3 bytes
  Ok (make group members)

-- Association, by its command
abbrev pub association_by : List ℕ → ℕ → Result CoreMessage ClassFault
association_by bytes command =
    if command == 1 then association_at AssociationSet bytes
    else if command == 4 then association_at AssociationRemove bytes
    else Err (UnknownCommand 0x85 command)

-- the fields of an interval that is set
unfoldable pub interval_set_at : List ℕ → Result CoreMessage ClassFault
interval_set_at bytes = do
  seconds ← three_at 2 bytes
  target ← limited_at is_node 5 bytes
  Ok (WakeUpIntervalSet seconds target)

-- Wake Up, by its command
abbrev pub wake_up_by : List ℕ → ℕ → Result CoreMessage ClassFault
wake_up_by bytes command =
    if command == 4 then interval_set_at bytes
    else Err (UnknownCommand 0x84 command)

-- a message by its class
abbrev pub message_by : List ℕ → ℕ → Result CoreMessage ClassFault
message_by bytes class =
    if class == 0x20 then in_class basic_by bytes
    else if class == 0x25 then in_class switch_binary_by bytes
    else if class == 0x26 then in_class switch_multilevel_by bytes
    else if class == 0x40 then in_class thermostat_mode_by bytes
    else if class == 0x43 then in_class thermostat_setpoint_by bytes
    else if class == 0x62 then in_class door_lock_by bytes
    else if class == 0x70 then in_class configuration_by bytes
    else if class == 0x84 then in_class wake_up_by bytes
    else if class == 0x85 then in_class association_by bytes
    else Err (UnknownClass class)

-- the message that the bytes spell, or the first fault
unfoldable pub message_at : List ℕ → Result CoreMessage ClassFault
message_at [] = Err Empty
message_at (class ∷ rest) = message_by (class ∷ rest) class
