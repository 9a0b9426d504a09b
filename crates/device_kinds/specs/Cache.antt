-- What a journal keeps beside its changes: the value of each property that was set, and the last level above 0.
use Rattle.std.specs.Prelude.{◌≡◌, ℕ, List, [], ◌∷◌, if◌then◌else◌}
use Rattle.zw_base.specs.PropertyOrder.{same_property}
use Rattle.zw_base.specs.declared.property.Property.{Property}
use Rattle.zw_base.specs.declared.property.Setting.{Setting}
use Rattle.device_kinds.specs.declared.change.Change.{Change}
use Rattle.device_kinds.specs.Values.{value_after, level_after}

-- the value of the first setting of a property, or 0
abbrev pub first_value : List Setting → Property → ℕ
first_value [] property = 0
first_value (setting ∷ settings) property = if same_property setting.property property then setting.value else first_value settings property

-- they are those of the changes
pub record IsCache (changes : List Change) (values : List Setting) (last_level : ℕ) : Type 0 where
  pub values_are : (property : Property) → first_value values property ≡ value_after changes property 0
  pub last_is : last_level ≡ level_after changes 99
