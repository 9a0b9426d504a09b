-- Which kind the device of a node has, and which settings an order asks of it (this project's own rule).
use Rattle.std.specs.Prelude.{◌≡◌, ℕ, ◌%◌, ◌==◌, ◌&&◌, nat_lt, Bool, true, false, if◌then◌else◌, List, [], ◌∷◌, Option, Some, None}
use Rattle.zw_base.specs.PropertyOrder.{same_property}
use Rattle.zw_base.specs.declared.property.Name.{Name}
use Rattle.zw_base.specs.declared.property.Name.TheVariants.{Config}
use Rattle.zw_base.specs.declared.property.Setting.{Setting}
use Rattle.zw_base.specs.declared.order.Order.{Order}
use Rattle.host_orders.specs.Classes.{actuator_of}
use Rattle.host_orders.specs.Settings.{settings}
use Rattle.host_orders.specs.declared.actuator.Actuator.{Actuator}
use Rattle.device_kinds.specs.Kind.{classes_of}
use Rattle.device_kinds.specs.declared.kind.Kind.{Kind}
use Rattle.device_kinds.specs.declared.kind.Kind.TheVariants.{Relay, Switch, Dimmer, Lock, Sensor, Thermostat, Strip, Configurable}

-- the kind by what the node leaves modulo 8
abbrev pub kind_by : ℕ → Kind
kind_by left =
    if left == 0 then Configurable
    else if left == 1 then Relay
    else if left == 2 then Switch
    else if left == 3 then Dimmer
    else if left == 4 then Lock
    else if left == 5 then Sensor
    else if left == 6 then Thermostat
    else Strip

-- the kind of a node's device
abbrev pub kind_at : ℕ → Kind
kind_at node = kind_by (node % 8)

-- what a value is for a kind, by the classes that it lists
abbrev pub actuator_by : Kind → Actuator
actuator_by kind = actuator_of (classes_of kind)

-- the settings that an order asks for, in the order of properties
abbrev pub settings_asked : Order → List Setting
settings_asked order = settings (actuator_by (kind_at order.node)) order

-- whether two settings are the same
abbrev pub same_setting : Setting → Setting → Bool
same_setting first second = same_property first.property second.property && (first.value == second.value)

-- whether two lists have the same settings, one by one
abbrev pub same_settings : List Setting → List Setting → Bool
same_settings [] [] = true
same_settings [] (second ∷ seconds) = false
same_settings (first ∷ firsts) [] = false
same_settings (first ∷ firsts) (second ∷ seconds) = same_setting first second && same_settings firsts seconds

-- whether the setting is the one at that place, where there is one
abbrev pub is_there : Option Setting → Setting → Bool
is_there None setting = false
is_there (Some made) setting = same_setting made setting

-- whether there is such a property: parameters have numbers of one byte
abbrev pub is_named : Name → Bool
is_named (Config parameter) = nat_lt parameter 256
is_named _ = true

-- whether a device may have the setting
abbrev pub is_setting : Setting → Bool
is_setting setting = is_named setting.property.name

-- no setting that a device may have is there
abbrev pub IsNoneThere : Option Setting → Type 0
IsNoneThere None = Unit {0}
IsNoneThere (Some setting) = is_setting setting ≡ false
