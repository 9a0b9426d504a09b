-- Reading a message of both tables from the left: its class, its command, then its fields in their order, each at
-- its offset.
use Rattle.std.specs.Prelude.{ℕ, ◌+◌, ◌*◌, List, take, drop, Result, Ok, Err, ◌==◌, if◌then◌else◌}
use Rattle.class_core.specs.declared.fault.ClassFault.{ClassFault}
use Rattle.class_core.specs.declared.fault.ClassFault.TheVariants.{Empty, UnknownClass, UnknownCommand, Short, BadValue, NoMemory}
use Rattle.class_core.specs.Ranges.{is_node}
use Rattle.class_core.specs.Reading.{◌>>=◌, whole, byte_at, limited_at, bits_at, switch_at, word_at, three_at, flag_at, scaled_at, nodes_at, in_class}
use Rattle.class_core.specs.declared.message.CoreMessage.{CoreMessage}
use Rattle.class_core.specs.MessageReading.{message_at}
use Rattle.class_info.specs.declared.message.InfoMessage.{InfoMessage}
use Rattle.class_info.specs.declared.message.InfoMessage.TheVariants.{Core, SensorBinaryGet, SensorBinaryReport, SensorMultilevelGet, SensorMultilevelReport, NotificationReport, ManufacturerSpecificGet, ManufacturerSpecificReport, BatteryGet, BatteryReport, WakeUpIntervalGet, WakeUpIntervalReport, WakeUpNotification, WakeUpNoMoreInformation, AssociationGet, AssociationReport, AssociationGroupingsGet, AssociationGroupingsReport, VersionGet, VersionReport, VersionClassGet, VersionClassReport, SupervisionReport, NonceGet, NonceReport, TransportRequest, TransportComplete, TransportWait}
use Rattle.class_info.specs.declared.report_status.ReportStatus.{ReportStatus}
use Rattle.class_info.specs.declared.report_status.ReportStatus.TheVariants.{NoSupport, Working, Fail, Success}
use Rattle.class_info.specs.Values.{is_battery}

-- the status that a byte stands for
abbrev pub status_of : ℕ → ℕ → Result ReportStatus ClassFault
status_of at byte = if byte == 0 then Ok NoSupport else if byte == 1 then Ok Working else if byte == 2 then Ok Fail else if byte == 255 then Ok Success else Err (BadValue at)

-- the status at an offset
unfoldable pub status_at : ℕ → List ℕ → Result ReportStatus ClassFault
status_at at bytes = byte_at at bytes >>= status_of at

-- the eight bytes at an offset
unfoldable pub nonce_at : ℕ → List ℕ → Result (List ℕ) ClassFault
nonce_at at bytes = whole (at + 8) bytes (take 8 (drop at bytes))

-- Sensor Binary, by its command
abbrev pub sensor_binary_by : List ℕ → ℕ → Result InfoMessage ClassFault
sensor_binary_by bytes command =
    if command == 2 then Ok SensorBinaryGet
    else if command == 3 then (switch_at 2 bytes >>= λ value. Ok (SensorBinaryReport value))
    else Err (UnknownCommand 0x30 command)

-- the fields of a sensor's report
unfoldable pub sensor_report_at : List ℕ → Result InfoMessage ClassFault
sensor_report_at bytes = do
  kind ← byte_at 2 bytes
  value ← scaled_at 3 bytes
  Ok (SensorMultilevelReport kind value)

-- Sensor Multilevel, by its command
abbrev pub sensor_multilevel_by : List ℕ → ℕ → Result InfoMessage ClassFault
sensor_multilevel_by bytes command =
    if command == 4 then Ok SensorMultilevelGet
    else if command == 5 then sensor_report_at bytes
    else Err (UnknownCommand 0x31 command)

-- the fields of a notification
unfoldable pub notification_at : List ℕ → Result InfoMessage ClassFault
notification_at bytes = do
  kind ← byte_at 2 bytes
  level ← byte_at 3 bytes
  Ok (NotificationReport kind level)

-- Notification, by its command
abbrev pub notification_by : List ℕ → ℕ → Result InfoMessage ClassFault
notification_by bytes command =
    if command == 5 then notification_at bytes
    else Err (UnknownCommand 0x71 command)

-- the fields of a manufacturer's report
unfoldable pub manufacturer_at : List ℕ → Result InfoMessage ClassFault
manufacturer_at bytes = do
  manufacturer ← word_at 2 bytes
  kind ← word_at 4 bytes
  product ← word_at 6 bytes
  Ok (ManufacturerSpecificReport manufacturer kind product)

-- Manufacturer Specific, by its command
abbrev pub manufacturer_by : List ℕ → ℕ → Result InfoMessage ClassFault
manufacturer_by bytes command =
    if command == 4 then Ok ManufacturerSpecificGet
    else if command == 5 then manufacturer_at bytes
    else Err (UnknownCommand 0x72 command)

-- Battery, by its command
abbrev pub battery_by : List ℕ → ℕ → Result InfoMessage ClassFault
battery_by bytes command =
    if command == 2 then Ok BatteryGet
    else if command == 3 then (limited_at is_battery 2 bytes >>= λ level. Ok (BatteryReport level))
    else Err (UnknownCommand 0x80 command)

-- the fields of an interval that is reported
unfoldable pub interval_report_at : List ℕ → Result InfoMessage ClassFault
interval_report_at bytes = do
  seconds ← three_at 2 bytes
  target ← limited_at is_node 5 bytes
  Ok (WakeUpIntervalReport seconds target)

-- the commands of Wake Up that ask and tell
abbrev pub wake_up_by : List ℕ → ℕ → Result InfoMessage ClassFault
wake_up_by bytes command =
    if command == 5 then Ok WakeUpIntervalGet
    else if command == 6 then interval_report_at bytes
    else if command == 7 then Ok WakeUpNotification
    else if command == 8 then Ok WakeUpNoMoreInformation
    else Err (UnknownCommand 0x84 command)

-- the fields of a group that is reported
unfoldable pub association_report_at : List ℕ → Result InfoMessage ClassFault
association_report_at bytes = do
  group ← byte_at 2 bytes
  most ← byte_at 3 bytes
  following ← byte_at 4 bytes
  members ← nodes_at 5 bytes
  Ok (AssociationReport group most following members)

-- the commands of Association that ask and tell
abbrev pub association_by : List ℕ → ℕ → Result InfoMessage ClassFault
association_by bytes command =
    if command == 2 then (byte_at 2 bytes >>= λ group. Ok (AssociationGet group))
    else if command == 3 then association_report_at bytes
    else if command == 5 then Ok AssociationGroupingsGet
    else if command == 6 then (byte_at 2 bytes >>= λ groups. Ok (AssociationGroupingsReport groups))
    else Err (UnknownCommand 0x85 command)

-- the fields of the versions of a node
unfoldable pub version_report_at : List ℕ → Result InfoMessage ClassFault
version_report_at bytes = do
  library ← byte_at 2 bytes
  protocol ← byte_at 3 bytes
  protocol_sub ← byte_at 4 bytes
  application ← byte_at 5 bytes
  application_sub ← byte_at 6 bytes
  Ok (VersionReport library protocol protocol_sub application application_sub)

-- the fields of the version of a class
unfoldable pub version_class_at : List ℕ → Result InfoMessage ClassFault
version_class_at bytes = do
  class ← byte_at 2 bytes
  version ← byte_at 3 bytes
  Ok (VersionClassReport class version)

-- Version, by its command
abbrev pub version_by : List ℕ → ℕ → Result InfoMessage ClassFault
version_by bytes command =
    if command == 0x11 then Ok VersionGet
    else if command == 0x12 then version_report_at bytes
    else if command == 0x13 then (byte_at 2 bytes >>= λ class. Ok (VersionClassGet class))
    else if command == 0x14 then version_class_at bytes
    else Err (UnknownCommand 0x86 command)

-- the fields of the report of a supervised command
unfoldable pub supervision_report_at : List ℕ → Result InfoMessage ClassFault
supervision_report_at bytes = do
  more ← flag_at 7 2 bytes
  wake_request ← flag_at 6 2 bytes
  session ← bits_at 0 6 2 bytes
  status ← status_at 3 bytes
  duration ← byte_at 4 bytes
  Ok (SupervisionReport more wake_request session status duration)

-- Supervision, by its command
abbrev pub supervision_by : List ℕ → ℕ → Result InfoMessage ClassFault
supervision_by bytes command =
    if command == 2 then supervision_report_at bytes
    else Err (UnknownCommand 0x6C command)

-- Security 0, by its command
abbrev pub security_by : List ℕ → ℕ → Result InfoMessage ClassFault
security_by bytes command =
    if command == 0x40 then Ok NonceGet
    else if command == 0x80 then (nonce_at 2 bytes >>= λ nonce. Ok (NonceReport nonce))
    else Err (UnknownCommand 0x98 command)

-- the fields of the request of a segment
unfoldable pub transport_request_at : List ℕ → Result InfoMessage ClassFault
transport_request_at bytes = do
  session ← bits_at 4 4 2 bytes
  high ← bits_at 0 3 2 bytes
  low ← byte_at 3 bytes
  Ok (TransportRequest session (high * 256 + low))

-- Transport Service, by its command
abbrev pub transport_by : List ℕ → ℕ → Result InfoMessage ClassFault
transport_by bytes command =
    if command == 0xC8 then transport_request_at bytes
    else if command == 0xE8 then (bits_at 4 4 2 bytes >>= λ session. Ok (TransportComplete session))
    else if command == 0xF0 then (byte_at 2 bytes >>= λ pending. Ok (TransportWait pending))
    else Err (UnknownCommand 0x55 command)

-- a message of a class that no actuator has
abbrev pub own_by : List ℕ → ℕ → Result InfoMessage ClassFault
own_by bytes class =
    if class == 0x30 then in_class sensor_binary_by bytes
    else if class == 0x31 then in_class sensor_multilevel_by bytes
    else if class == 0x71 then in_class notification_by bytes
    else if class == 0x72 then in_class manufacturer_by bytes
    else if class == 0x80 then in_class battery_by bytes
    else if class == 0x86 then in_class version_by bytes
    else if class == 0x6C then in_class supervision_by bytes
    else if class == 0x98 then in_class security_by bytes
    else if class == 0x55 then in_class transport_by bytes
    else Err (UnknownClass class)

-- the same, by the class at the prefix
unfoldable pub own_at : List ℕ → Result InfoMessage ClassFault
own_at bytes = byte_at 0 bytes >>= own_by bytes

-- a command that asks or tells, of a class that has actuators' commands too
abbrev pub shared_by : List ℕ → ℕ → Result InfoMessage ClassFault
shared_by bytes class =
    if class == 0x84 then in_class wake_up_by bytes
    else if class == 0x85 then in_class association_by bytes
    else (byte_at 1 bytes >>= λ command. Err (UnknownCommand class command))

-- the same, by the class at the prefix
unfoldable pub shared_at : List ℕ → Result InfoMessage ClassFault
shared_at bytes = byte_at 0 bytes >>= shared_by bytes

-- the actuators' message, or one of the rows that they do not have
abbrev pub beside : List ℕ → Result CoreMessage ClassFault → Result InfoMessage ClassFault
beside bytes (Ok message) = Ok (Core message)
beside bytes (Err (UnknownClass class)) = own_at bytes
beside bytes (Err (UnknownCommand class command)) = shared_at bytes
beside bytes (Err Empty) = Err Empty
beside bytes (Err (Short need)) = Err (Short need)
beside bytes (Err (BadValue at)) = Err (BadValue at)
beside bytes (Err NoMemory) = Err NoMemory

-- the message that the bytes spell, or the first fault
unfoldable pub info_at : List ℕ → Result InfoMessage ClassFault
info_at bytes = beside bytes (message_at bytes)
