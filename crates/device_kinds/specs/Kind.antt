-- What is known of each kind of device (this project's own choice of kinds; the classes are those of the Z-Wave
-- Application, Management and Transport-Encapsulation Command Class Specifications).
use Rattle.std.specs.Prelude.{ℕ, ◌+◌, ◌-◌, List, [], ◌∷◌, Bool, true, false, ◌==◌, ◌||◌, nat_le, nat_lt, if◌then◌else◌}
use Rattle.std.specs.List.{list_any, range_with_len}
use Rattle.zw_base.specs.declared.property.Name.{Name}
use Rattle.zw_base.specs.declared.property.Name.TheVariants as names
use Rattle.zw_base.specs.declared.property.Property.{Property}
use Rattle.device_kinds.specs.declared.kind.Kind.{Kind}
use Rattle.device_kinds.specs.declared.kind.Kind.TheVariants.{Relay, Switch, Dimmer, Lock, Sensor, Thermostat, Strip, Configurable}

-- whether it hears at all times
abbrev pub listens : Kind → Bool
listens Relay = true
listens Switch = true
listens Dimmer = true
listens Lock = true
listens Sensor = false
listens Thermostat = true
listens Strip = true
listens Configurable = true

-- the command classes that it lists, in their order
abbrev pub classes_of : Kind → List ℕ
classes_of Relay = 0x25 ∷ 0x56 ∷ []
classes_of Switch = 0x25 ∷ 0x85 ∷ 0x6C ∷ []
classes_of Dimmer = 0x26 ∷ 0x85 ∷ 0x6C ∷ []
classes_of Lock = 0x62 ∷ 0x98 ∷ 0x6C ∷ []
classes_of Sensor = 0x31 ∷ 0x80 ∷ 0x84 ∷ 0x6C ∷ []
classes_of Thermostat = 0x40 ∷ 0x43 ∷ 0x8F ∷ 0x85 ∷ 0x6C ∷ []
classes_of Strip = 0x25 ∷ 0x60 ∷ 0x6C ∷ []
classes_of Configurable = 0x70 ∷ 0x55 ∷ 0x6C ∷ []

-- whether it lists a class
abbrev pub lists : Kind → ℕ → Bool
lists kind class = list_any (λ listed. listed == class) (classes_of kind)

-- its greatest end point
abbrev pub last_end_of : Kind → ℕ
last_end_of Strip = 4
last_end_of _ = 0

-- whether that end point is there
abbrev pub has_end : Kind → ℕ → Bool
has_end kind end = nat_le end (last_end_of kind)

-- what it is for
abbrev pub main_name_of : Kind → Name
main_name_of Relay = names.Switch
main_name_of Switch = names.Switch
main_name_of Dimmer = names.Level
main_name_of Lock = names.Lock
main_name_of Sensor = names.Sensor
main_name_of Thermostat = names.Mode
main_name_of Strip = names.Switch
main_name_of Configurable = names.Config 0

-- the property of that name, of the device itself
abbrev pub root_property : Name → Property
root_property name = record { end = 0; name = name }

-- the property that it is for
abbrev pub main_property_of : Kind → Property
main_property_of kind = root_property (main_name_of kind)

-- the values that it tells in a report, beside the members of its group
abbrev pub tells : Kind → Name → Bool
tells Relay names.Switch = true
tells Switch names.Switch = true
tells Dimmer names.Level = true
tells Sensor names.Sensor = true
tells Sensor names.Interval = true
tells Sensor names.Battery = true
tells Thermostat names.Mode = true
tells Thermostat (names.Setpoint type) = (type == 1) || (type == 2)
tells Strip names.Switch = true
tells Configurable (names.Config parameter) = true
tells _ _ = false

-- a member of group 1
abbrev pub member_of : ℕ → Property
member_of node = root_property (names.Member 1 node)

-- the node of the host, which alone speaks to the devices
abbrev pub host_node : ℕ
host_node = 1

-- the nodes after one, in order
unfoldable pub nodes_from : ℕ → List ℕ
nodes_from before = range_with_len (before + 1) (232 - before)

-- the nodes that may be members, in order
abbrev pub all_nodes : List ℕ
all_nodes = nodes_from 0

-- how many properties may be shown of it
abbrev pub property_count : Kind → ℕ
property_count Relay = 1
property_count Switch = 233
property_count Dimmer = 233
property_count Lock = 1
property_count Sensor = 2
property_count Thermostat = 235
property_count Strip = 5
property_count Configurable = 256

-- these, in the order of properties, counted from 0
abbrev pub property_at : Kind → ℕ → Property
property_at Relay at = root_property names.Switch
property_at Switch at = if at == 0 then root_property names.Switch else member_of at
property_at Dimmer at = if at == 0 then root_property names.Level else member_of at
property_at Lock at = root_property names.Lock
property_at Sensor at = if at == 0 then root_property names.Interval else root_property names.Sensor
property_at Thermostat at =
    if at == 0 then root_property names.Mode
    else if nat_lt at 3 then root_property (names.Setpoint at)
    else member_of (at - 2)
property_at Strip at = record { end = at; name = names.Switch }
property_at Configurable at = root_property (names.Config at)
