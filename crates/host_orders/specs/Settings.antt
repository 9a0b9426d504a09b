-- The settings that an order makes where it succeeds (this project's own rule).
use Rattle.std.specs.Prelude.{ℕ, suc, List, [], ◌∷◌, map}
use Rattle.zw_base.specs.declared.property.Name.{Name}
use Rattle.zw_base.specs.declared.property.Name.TheVariants as names
use Rattle.zw_base.specs.declared.property.Property.{Property}
use Rattle.zw_base.specs.declared.property.Setting.{Setting}
use Rattle.zw_base.specs.declared.order.Word.{Word}
use Rattle.zw_base.specs.declared.order.Word.TheVariants.{On, Off, Level}
use Rattle.zw_base.specs.declared.order.What.{What}
use Rattle.zw_base.specs.declared.order.What.TheVariants as what
use Rattle.zw_base.specs.declared.order.Order.{Order}
use Rattle.host_orders.specs.Messages.{level_of}
use Rattle.host_orders.specs.declared.actuator.Actuator.{Actuator}
use Rattle.host_orders.specs.declared.actuator.Actuator.TheVariants.{Binary, Multilevel, Lock}

-- a property of an end point, with its value
abbrev pub setting : ℕ → Name → ℕ → Setting
setting end name value = record { property = record { end = end; name = name }; value = value }

-- what is all the way on is 255, and what is off 0
abbrev pub full_of : Word → ℕ
full_of On = 255
full_of Off = 0
full_of (Level level) = 0

-- the setting of a value
abbrev pub value_setting : Actuator → ℕ → Word → Setting
value_setting Binary end word = setting end names.Switch (full_of word)
value_setting Multilevel end word = setting end names.Level (level_of word)
value_setting Lock end word = setting end names.Lock (full_of word)

-- those of parameters in a row, from `offset` on
abbrev pub config_settings : ℕ → ℕ → List ℕ → List Setting
config_settings end offset [] = []
config_settings end offset (value ∷ more) = setting end (names.Config offset) value ∷ config_settings end (suc offset) more

-- the settings to an end point
abbrev pub settings_by : Actuator → ℕ → What → List Setting
settings_by actuator end (what.Value word) = value_setting actuator end word ∷ []
settings_by actuator end (what.Mode mode) = setting end names.Mode mode ∷ []
settings_by actuator end (what.Setpoint kind tenths) = setting end (names.Setpoint kind) tenths ∷ []
settings_by actuator end (what.Config parameter value) = setting end (names.Config parameter) value ∷ []
settings_by actuator end (what.Bulk offset values) = config_settings end offset values
settings_by actuator end (what.Associate group member) = setting end (names.Member group member) 1 ∷ []
settings_by actuator end (what.Dissociate group member) = setting end (names.Member group member) 0 ∷ []
settings_by actuator end (what.Interval seconds) = setting end names.Interval seconds ∷ []
settings_by actuator end (what.Comfort mode kind tenths) =
    setting end names.Mode mode ∷ setting end (names.Setpoint kind) tenths ∷ []

-- the settings of an order, in the order of properties
abbrev pub settings : Actuator → Order → List Setting
settings actuator order = settings_by actuator order.end order.what

-- the properties that they set
abbrev pub properties_of : List Setting → List Property
properties_of made = map (λ one. one.property) made
