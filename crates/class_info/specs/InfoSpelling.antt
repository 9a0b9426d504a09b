-- Which cells each message of both tables is made of, and so which bytes spell it (Z-Wave Application, Management
-- and Transport-Encapsulation Command Class Specifications, in this project's profile of values).
use Rattle.std.specs.Prelude.{◌≡◌, ℕ, ◌/◌, ◌%◌, ◌<◌, List, [], ◌∷◌, ◌++◌, length, IsTrue}
use Rattle.class_core.specs.Ranges.{is_node, IsScaled, AreNodes}
use Rattle.class_core.specs.Cell.{Cell, Whole, Limited, Divided, Stand, written}
use Rattle.class_core.specs.Fields.{switch_byte, part, flag, word, three, scaled, node, nodes}
use Rattle.class_core.specs.Spelling.{cells as core_cells, IsInRange as IsCoreInRange}
use Rattle.class_info.specs.declared.message.InfoMessage.{InfoMessage}
use Rattle.class_info.specs.declared.message.InfoMessage.TheVariants.{Core, SensorBinaryGet, SensorBinaryReport, SensorMultilevelGet, SensorMultilevelReport, NotificationReport, ManufacturerSpecificGet, ManufacturerSpecificReport, BatteryGet, BatteryReport, WakeUpIntervalGet, WakeUpIntervalReport, WakeUpNotification, WakeUpNoMoreInformation, AssociationGet, AssociationReport, AssociationGroupingsGet, AssociationGroupingsReport, VersionGet, VersionReport, VersionClassGet, VersionClassReport, SupervisionReport, NonceGet, NonceReport, TransportRequest, TransportComplete, TransportWait}
use Rattle.class_info.specs.Values.{is_battery, status_byte, wholes}

-- class, command and fields of each message
abbrev pub cells : InfoMessage → List Cell
cells (Core message) = core_cells message
cells SensorBinaryGet = Whole 0x30 ∷ Whole 2 ∷ []
cells (SensorBinaryReport value) = Whole 0x30 ∷ Whole 3 ∷ Whole (switch_byte value) ∷ []
cells SensorMultilevelGet = Whole 0x31 ∷ Whole 4 ∷ []
cells (SensorMultilevelReport kind value) = Whole 0x31 ∷ Whole 5 ∷ Whole kind ∷ scaled value
cells (NotificationReport kind level) = Whole 0x71 ∷ Whole 5 ∷ Whole kind ∷ Whole level ∷ []
cells ManufacturerSpecificGet = Whole 0x72 ∷ Whole 4 ∷ []
cells (ManufacturerSpecificReport manufacturer kind product) = Whole 0x72 ∷ Whole 5 ∷ (word manufacturer ++ word kind ++ word product)
cells BatteryGet = Whole 0x80 ∷ Whole 2 ∷ []
cells (BatteryReport level) = Whole 0x80 ∷ Whole 3 ∷ Limited is_battery level ∷ []
cells WakeUpIntervalGet = Whole 0x84 ∷ Whole 5 ∷ []
cells (WakeUpIntervalReport seconds target) = Whole 0x84 ∷ Whole 6 ∷ (three seconds ++ node target ∷ [])
cells WakeUpNotification = Whole 0x84 ∷ Whole 7 ∷ []
cells WakeUpNoMoreInformation = Whole 0x84 ∷ Whole 8 ∷ []
cells (AssociationGet group) = Whole 0x85 ∷ Whole 2 ∷ Whole group ∷ []
cells (AssociationReport group most following members) = Whole 0x85 ∷ Whole 3 ∷ Whole group ∷ Whole most ∷ Whole following ∷ nodes members
cells AssociationGroupingsGet = Whole 0x85 ∷ Whole 5 ∷ []
cells (AssociationGroupingsReport groups) = Whole 0x85 ∷ Whole 6 ∷ Whole groups ∷ []
cells VersionGet = Whole 0x86 ∷ Whole 0x11 ∷ []
cells (VersionReport library protocol protocol_sub application application_sub) = Whole 0x86 ∷ Whole 0x12 ∷ Whole library ∷ Whole protocol ∷ Whole protocol_sub ∷ Whole application ∷ Whole application_sub ∷ []
cells (VersionClassGet class) = Whole 0x86 ∷ Whole 0x13 ∷ Whole class ∷ []
cells (VersionClassReport class version) = Whole 0x86 ∷ Whole 0x14 ∷ Whole class ∷ Whole version ∷ []
cells (SupervisionReport more wake_request session status duration) = Whole 0x6C ∷ Whole 2 ∷ Divided (part 7 1 (flag more) ∷ part 6 1 (flag wake_request) ∷ part 0 6 session ∷ []) ∷ Whole (status_byte status) ∷ Whole duration ∷ []
cells NonceGet = Whole 0x98 ∷ Whole 0x40 ∷ []
cells (NonceReport nonce) = Whole 0x98 ∷ Whole 0x80 ∷ wholes nonce
cells (TransportRequest session offset) = Whole 0x55 ∷ Whole 0xC8 ∷ Divided (part 4 4 session ∷ part 0 3 (offset / 256) ∷ []) ∷ Whole (offset % 256) ∷ []
cells (TransportComplete session) = Whole 0x55 ∷ Whole 0xE8 ∷ Divided (part 4 4 session ∷ []) ∷ []
cells (TransportWait pending) = Whole 0x55 ∷ Whole 0xF0 ∷ Whole pending ∷ []

-- a nonce has eight bytes (Security 0 Command Class)
abbrev pub HasLength : InfoMessage → Type 0
HasLength (NonceReport nonce) = length nonce ≡ 8
HasLength _ = Unit {0}

-- the bytes spell the message
abbrev pub Spells : InfoMessage → List ℕ → Type 0
Spells message bytes = HasLength message × Stand (cells message) 0 bytes

-- the written form of the message
abbrev pub form : InfoMessage → List ℕ
form message = written (cells message)

-- what the types of its fields keep: levels and nodes are of their row, and numbers of few bits fit them
abbrev pub IsInRange : InfoMessage → Type 0
IsInRange (Core message) = IsCoreInRange message
IsInRange (SensorMultilevelReport kind value) = IsScaled value
IsInRange (BatteryReport level) = IsTrue (is_battery level)
IsInRange (WakeUpIntervalReport seconds target) = IsTrue (is_node target)
IsInRange (AssociationReport group most following members) = AreNodes members
IsInRange (SupervisionReport more wake_request session status duration) = session < 64
IsInRange (NonceReport nonce) = length nonce ≡ 8
IsInRange (TransportRequest session offset) = (session < 16) × (offset < 2048)
IsInRange (TransportComplete session) = session < 16
IsInRange _ = Unit {0}
