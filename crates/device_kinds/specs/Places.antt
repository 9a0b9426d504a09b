-- Where a setting belongs among others (this project's own rule).
use Rattle.std.specs.Prelude.{◌≡◌, ◌≢◌, ℕ, ◌<◌, List, slice_get, Some}
use Rattle.std.specs.declared.cmp.Ordering.TheVariants.{Greater}
use Rattle.zw_base.specs.declared.property.Property.{Property}
use Rattle.zw_base.specs.declared.property.Setting.{Setting}
use Rattle.device_kinds.specs.Settings.{property_cmp}

-- the property comes after that of the setting at a place
abbrev pub IsAfter : List Setting → Property → ℕ → Type 0
IsAfter settings property at = (setting : Setting) → slice_get settings at ≡ Some setting → property_cmp property setting.property ≡ Greater

-- the property does not
abbrev pub IsNotAfter : List Setting → Property → ℕ → Type 0
IsNotAfter settings property at = (setting : Setting) → slice_get settings at ≡ Some setting → property_cmp property setting.property ≢ Greater

-- what comes after the setting at a place comes after all before it
abbrev pub IsLed : List Setting → ℕ → Type 0
IsLed settings at = (property : Property) → IsAfter settings property at → (k : ℕ) → k < at → IsAfter settings property k
