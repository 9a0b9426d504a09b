-- The messages that an order is sent as (Z-Wave Application and Management Command Class Specifications; which messages
-- stand for which order is this project's own rule).
use Rattle.std.specs.Prelude.{ℕ, ◌≤◌, nat_lt, if◌then◌else◌, Bool, true, false, List, [], ◌∷◌, ◌++◌, map, length}
use Rattle.zw_base.specs.declared.order.Word.{Word}
use Rattle.zw_base.specs.declared.order.Word.TheVariants.{On, Off, Level}
use Rattle.zw_base.specs.declared.order.What.{What}
use Rattle.zw_base.specs.declared.order.What.TheVariants as what
use Rattle.class_core.specs.declared.switch.Switch.{Switch}
use Rattle.class_core.specs.declared.switch.Switch.TheVariants as switches
use Rattle.class_core.specs.declared.switch.LockMode.{LockMode}
use Rattle.class_core.specs.declared.switch.LockMode.TheVariants as locks
use Rattle.class_core.specs.declared.number.Number.TheVariants as numbers
use Rattle.class_core.specs.declared.number.Size.TheVariants as sizes
use Rattle.class_core.specs.declared.message.CoreMessage.{CoreMessage}
use Rattle.class_core.specs.declared.message.CoreMessage.TheVariants.{SwitchBinarySet, SwitchMultilevelSet, DoorLockOperationSet, ThermostatModeSet, ThermostatSetpointSet, ConfigurationSet, ConfigurationBulkSet, AssociationSet, AssociationRemove, WakeUpIntervalSet}
use Rattle.class_core.specs.Spelling.{form}
use Rattle.host_orders.specs.Classes.{class_of}
use Rattle.host_orders.specs.declared.actuator.Actuator.{Actuator}
use Rattle.host_orders.specs.declared.actuator.Actuator.TheVariants.{Binary, Multilevel, Lock}

-- a switch that is to be on or off; a level is no order for it
abbrev pub switch_of : Word → Switch
switch_of On = switches.On
switch_of Off = switches.Off
switch_of (Level level) = switches.Off

-- a lock that is to be on, which is secured, or off
abbrev pub lock_of : Word → LockMode
lock_of On = locks.Secured
lock_of Off = locks.Unsecured
lock_of (Level level) = locks.Unsecured

-- the level of a dimmer: all the way on is 99
abbrev pub level_of : Word → ℕ
level_of On = 99
level_of Off = 0
level_of (Level level) = level

-- the message that sets a value
abbrev pub value_message : Actuator → Word → CoreMessage
value_message Binary word = SwitchBinarySet (switch_of word)
value_message Multilevel word = SwitchMultilevelSet (level_of word)
value_message Lock word = DoorLockOperationSet (lock_of word)

-- the message that sets a setpoint: tenths of a degree Celsius, in two bytes
abbrev pub setpoint_message : ℕ → ℕ → CoreMessage
setpoint_message kind tenths =
    ThermostatSetpointSet kind (record { precision = 1; scale = 0; number = numbers.Two tenths })

-- the messages of an order, in the order in which they are sent
abbrev pub messages : Actuator → What → List CoreMessage
messages actuator (what.Value word) = value_message actuator word ∷ []
messages actuator (what.Mode mode) = ThermostatModeSet mode ∷ []
messages actuator (what.Setpoint kind tenths) = setpoint_message kind tenths ∷ []
messages actuator (what.Config parameter value) = ConfigurationSet parameter false (numbers.Four value) ∷ []
messages actuator (what.Bulk offset values) = ConfigurationBulkSet offset false (record { size = sizes.One; items = values }) ∷ []
messages actuator (what.Associate group member) = AssociationSet group (member ∷ []) ∷ []
messages actuator (what.Dissociate group member) = AssociationRemove group (member ∷ []) ∷ []
messages actuator (what.Interval seconds) = WakeUpIntervalSet seconds 1 ∷ []
messages actuator (what.Comfort mode kind tenths) = ThermostatModeSet mode ∷ setpoint_message kind tenths ∷ []

-- the messages as they are written
abbrev pub commands_of : Actuator → What → List (List ℕ)
commands_of actuator what = map form (messages actuator what)

-- whether they are sent in one Multi Command Encapsulation
abbrev pub is_batch : What → Bool
is_batch (what.Comfort mode kind tenths) = true
is_batch (what.Value word) = false
is_batch (what.Mode mode) = false
is_batch (what.Setpoint kind tenths) = false
is_batch (what.Config parameter value) = false
is_batch (what.Bulk offset values) = false
is_batch (what.Associate group member) = false
is_batch (what.Dissociate group member) = false
is_batch (what.Interval seconds) = false

-- the classes of the messages, in their order, then Multi Command where they are a batch
abbrev pub classes_in : Actuator → What → List ℕ
classes_in actuator (what.Value word) = class_of actuator ∷ []
classes_in actuator (what.Mode mode) = 0x40 ∷ []
classes_in actuator (what.Setpoint kind tenths) = 0x43 ∷ []
classes_in actuator (what.Config parameter value) = 0x70 ∷ []
classes_in actuator (what.Bulk offset values) = 0x70 ∷ []
classes_in actuator (what.Associate group member) = 0x85 ∷ []
classes_in actuator (what.Dissociate group member) = 0x85 ∷ []
classes_in actuator (what.Interval seconds) = 0x84 ∷ []
classes_in actuator (what.Comfort mode kind tenths) = 0x40 ∷ 0x43 ∷ 0x8F ∷ []

-- Multi Channel, for an end point above 0
abbrev pub channel_class : ℕ → List ℕ
channel_class end = if nat_lt 0 end then 0x60 ∷ [] else []

-- the classes that a node has to list for these messages to that end point
abbrev pub classes_needed : Actuator → What → ℕ → List ℕ
classes_needed actuator what end = classes_in actuator what ++ channel_class end

-- whether one of the messages is of Switch Multilevel, whose change takes time
abbrev pub takes_time : Actuator → What → Bool
takes_time Multilevel (what.Value word) = true
takes_time actuator _ = false

-- the first of the messages, as it is written
abbrev pub first_command_of : Actuator → What → List ℕ
first_command_of actuator (what.Value word) = form (value_message actuator word)
first_command_of actuator (what.Mode mode) = form (ThermostatModeSet mode)
first_command_of actuator (what.Setpoint kind tenths) = form (setpoint_message kind tenths)
first_command_of actuator (what.Config parameter value) = form (ConfigurationSet parameter false (numbers.Four value))
first_command_of actuator (what.Bulk offset values) = form (ConfigurationBulkSet offset false (record { size = sizes.One; items = values }))
first_command_of actuator (what.Associate group member) = form (AssociationSet group (member ∷ []))
first_command_of actuator (what.Dissociate group member) = form (AssociationRemove group (member ∷ []))
first_command_of actuator (what.Interval seconds) = form (WakeUpIntervalSet seconds 1)
first_command_of actuator (what.Comfort mode kind tenths) = form (ThermostatModeSet mode)

-- no more parameters in a row than this
abbrev pub BulkHasAtMost : ℕ → What → Type 0
BulkHasAtMost most (what.Bulk offset values) = length values ≤ most
BulkHasAtMost most _ = Unit {0}
