-- How a property is written, in transcripts, scenarios and JSON (this project's own rule): `0/switch`, `2/setpoint:1`.
use Rattle.std.specs.Prelude.{ℕ, List, ◌++◌, codes, decimal}
use Rattle.zw_base.specs.declared.property.Name.{Name}
use Rattle.zw_base.specs.declared.property.Name.TheVariants.{Switch, Level, Lock, Mode, Setpoint, Config, Member, Interval, Sensor, Battery}
use Rattle.zw_base.specs.declared.property.Property.{Property}

-- a name, with a colon before each of its numbers
abbrev pub name_word : Name → List ℕ
name_word Switch = codes "switch"
name_word Level = codes "level"
name_word Lock = codes "lock"
name_word Mode = codes "mode"
name_word (Setpoint kind) = codes "setpoint:" ++ decimal kind
name_word (Config parameter) = codes "config:" ++ decimal parameter
name_word (Member group node) = codes "member:" ++ (decimal group ++ (codes ":" ++ decimal node))
name_word Interval = codes "interval"
name_word Sensor = codes "sensor"
name_word Battery = codes "battery"

-- the end point, a slash and the name
abbrev pub property_word : Property → List ℕ
property_word property = decimal property.end ++ (codes "/" ++ name_word property.name)
