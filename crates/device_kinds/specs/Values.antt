-- The values of properties after changes (this project's own rule): a value is what the last change with a setting of it
-- gave, and 0 before one.
use Rattle.std.specs.Prelude.{ℕ, List, [], ◌∷◌, nat_lt, ◌&&◌, if◌then◌else◌}
use Rattle.zw_base.specs.PropertyOrder.{same_property}
use Rattle.zw_base.specs.declared.property.Name.TheVariants as names
use Rattle.zw_base.specs.declared.property.Property.{Property}
use Rattle.zw_base.specs.declared.property.Setting.{Setting}
use Rattle.device_kinds.specs.declared.change.Change.{Change}

-- the value that settings give a property, or the one before
abbrev pub value_by : List Setting → Property → ℕ → ℕ
value_by [] property before = before
value_by (setting ∷ settings) property before =
    value_by settings property (if same_property setting.property property then setting.value else before)

-- the value of a property after changes: what the last setting of it gave
abbrev pub value_after : List Change → Property → ℕ → ℕ
value_after [] property before = before
value_after (change ∷ changes) property before = value_after changes property (value_by change.settings property before)

-- the level of a dimmer
abbrev pub level_property : Property
level_property = record { end = 0; name = names.Level }

-- the last level above 0 that settings give, or the one before
abbrev pub level_by : List Setting → ℕ → ℕ
level_by [] before = before
level_by (setting ∷ settings) before =
    level_by settings (if same_property setting.property level_property && nat_lt 0 setting.value then setting.value else before)

-- the last level above 0 after changes
abbrev pub level_after : List Change → ℕ → ℕ
level_after [] before = before
level_after (change ∷ changes) before = level_after changes (level_by change.settings before)
