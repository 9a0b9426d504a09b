-- Which cells each message of the actuator classes is made of, and so which bytes spell it (Z-Wave Application
-- and Management Command Class Specifications, in this project's profile of values).
use Rattle.std.specs.Prelude.{ℕ, ◌<◌, List, [], ◌∷◌, ◌++◌, length, IsTrue}
use Rattle.class_core.specs.declared.message.CoreMessage.{CoreMessage}
use Rattle.class_core.specs.declared.message.CoreMessage.TheVariants.{BasicSet, BasicGet, BasicReport, SwitchBinarySet, SwitchBinaryGet, SwitchBinaryReport, SwitchMultilevelSet, SwitchMultilevelGet, SwitchMultilevelReport, ThermostatModeSet, ThermostatModeGet, ThermostatModeReport, ThermostatSetpointSet, ThermostatSetpointGet, ThermostatSetpointReport, DoorLockOperationSet, DoorLockOperationGet, DoorLockOperationReport, ConfigurationSet, ConfigurationGet, ConfigurationReport, ConfigurationBulkSet, AssociationSet, AssociationRemove, WakeUpIntervalSet}
use Rattle.class_core.specs.Ranges.{is_level, is_node, bytes_in, size_of, value_of, IsScaled, AreNodes}
use Rattle.class_core.specs.Cell.{Cell, Whole, Limited, Divided, Stand, written}
use Rattle.class_core.specs.Fields.{switch_byte, lock_byte, part, flag, word, three, number, numbers, scaled, node, nodes}

-- class, command and fields of each message
abbrev pub cells : CoreMessage → List Cell
cells (BasicSet value) = Whole 0x20 ∷ Whole 1 ∷ Whole value ∷ []
cells BasicGet = Whole 0x20 ∷ Whole 2 ∷ []
cells (BasicReport value) = Whole 0x20 ∷ Whole 3 ∷ Whole value ∷ []
cells (SwitchBinarySet value) = Whole 0x25 ∷ Whole 1 ∷ Whole (switch_byte value) ∷ []
cells SwitchBinaryGet = Whole 0x25 ∷ Whole 2 ∷ []
cells (SwitchBinaryReport value) = Whole 0x25 ∷ Whole 3 ∷ Whole (switch_byte value) ∷ []
cells (SwitchMultilevelSet level) = Whole 0x26 ∷ Whole 1 ∷ Limited is_level level ∷ []
cells SwitchMultilevelGet = Whole 0x26 ∷ Whole 2 ∷ []
cells (SwitchMultilevelReport level) = Whole 0x26 ∷ Whole 3 ∷ Limited is_level level ∷ []
cells (ThermostatModeSet mode) = Whole 0x40 ∷ Whole 1 ∷ Divided (part 0 5 mode ∷ []) ∷ []
cells ThermostatModeGet = Whole 0x40 ∷ Whole 2 ∷ []
cells (ThermostatModeReport mode) = Whole 0x40 ∷ Whole 3 ∷ Divided (part 0 5 mode ∷ []) ∷ []
cells (ThermostatSetpointSet kind value) = Whole 0x43 ∷ Whole 1 ∷ Divided (part 0 4 kind ∷ []) ∷ scaled value
cells (ThermostatSetpointGet kind) = Whole 0x43 ∷ Whole 2 ∷ Divided (part 0 4 kind ∷ []) ∷ []
cells (ThermostatSetpointReport kind value) = Whole 0x43 ∷ Whole 3 ∷ Divided (part 0 4 kind ∷ []) ∷ scaled value
cells (DoorLockOperationSet mode) = Whole 0x62 ∷ Whole 1 ∷ Whole (lock_byte mode) ∷ []
cells DoorLockOperationGet = Whole 0x62 ∷ Whole 2 ∷ []
cells (DoorLockOperationReport mode levers condition minutes seconds) = Whole 0x62 ∷ Whole 3 ∷ Whole (lock_byte mode) ∷ Whole levers ∷ Whole condition ∷ Whole minutes ∷ Whole seconds ∷ []
cells (ConfigurationSet parameter default value) = Whole 0x70 ∷ Whole 4 ∷ Whole parameter ∷ Divided (part 7 1 (flag default) ∷ part 0 3 (bytes_in (size_of value)) ∷ []) ∷ number (size_of value) (value_of value)
cells (ConfigurationGet parameter) = Whole 0x70 ∷ Whole 5 ∷ Whole parameter ∷ []
cells (ConfigurationReport parameter value) = Whole 0x70 ∷ Whole 6 ∷ Whole parameter ∷ Whole (bytes_in (size_of value)) ∷ number (size_of value) (value_of value)
cells (ConfigurationBulkSet offset default values) = Whole 0x70 ∷ Whole 7 ∷ word offset ++ Whole (length values.items) ∷ Divided (part 7 1 (flag default) ∷ part 0 3 (bytes_in values.size) ∷ []) ∷ numbers values.size values.items
cells (AssociationSet group members) = Whole 0x85 ∷ Whole 1 ∷ Whole group ∷ nodes members
cells (AssociationRemove group members) = Whole 0x85 ∷ Whole 4 ∷ Whole group ∷ nodes members
cells (WakeUpIntervalSet seconds target) = Whole 0x84 ∷ Whole 4 ∷ three seconds ++ node target ∷ []

-- the bytes spell the message
abbrev pub Spells : CoreMessage → List ℕ → Type 0
Spells message bytes = Stand (cells message) 0 bytes

-- the written form of the message
abbrev pub form : CoreMessage → List ℕ
form message = written (cells message)

-- what the types of its fields keep: a level and nodes are of their row, and numbers of few bits fit them
abbrev pub IsInRange : CoreMessage → Type 0
IsInRange (SwitchMultilevelSet level) = IsTrue (is_level level)
IsInRange (SwitchMultilevelReport level) = IsTrue (is_level level)
IsInRange (ThermostatModeSet mode) = mode < 32
IsInRange (ThermostatModeReport mode) = mode < 32
IsInRange (ThermostatSetpointSet kind value) = (kind < 16) × IsScaled value
IsInRange (ThermostatSetpointGet kind) = kind < 16
IsInRange (ThermostatSetpointReport kind value) = (kind < 16) × IsScaled value
IsInRange (AssociationSet group members) = AreNodes members
IsInRange (AssociationRemove group members) = AreNodes members
IsInRange (WakeUpIntervalSet seconds target) = IsTrue (is_node target)
IsInRange _ = Unit {0}
