-- The settings of an order set no property twice.
use Rattle.std.proofs.Common.{◌≡◌, ℕ, suc, ◌<◌, Bool, true, false, if◌then◌else◌, List, [], ◌∷◌, Some, None, refl, ap, ◌∙◌, arith}
use Rattle.zw_base.specs.PropertyOrder.{same_property}
use Rattle.zw_base.specs.declared.property.Name.{Name}
use Rattle.zw_base.specs.declared.property.Name.TheVariants as names
use Rattle.zw_base.specs.declared.property.Property.{Property}
use Rattle.zw_base.specs.declared.property.Setting.{Setting}
use Rattle.zw_base.specs.declared.order.Order.{Order}
use Rattle.zw_base.specs.declared.order.What.{What}
use Rattle.zw_base.specs.declared.order.What.TheVariants as what
use Rattle.host_keep.specs.Kept.{value_among}
use Rattle.host_orders.specs.Settings.{setting, config_settings, settings_by, settings}
use Rattle.host_orders.specs.declared.actuator.Actuator.{Actuator}
use Rattle.host_model.proofs.Values.{Once, one_property}

abbrev property : ℕ → Name → Property
property end name = record { end = end; name = name }

-- names that differ are of properties that do
differs : (end : ℕ) (a b : Name) → (a ≡ b → ⊥) → same_property (property end a) (property end b) ≡ false
differs end a b other = by (same_property (property end a) (property end b)) refl
  where
    by : (t : Bool) → same_property (property end a) (property end b) ≡ t → t ≡ false
    by true e = absurd (other (ap (λ (p : Property). p.name) (one_property (property end a) (property end b) e)))
    by false e = refl

skip : (one : Setting) (more : List Setting) (p : Property) → same_property one.property p ≡ false → value_among more p ≡ None → value_among (one ∷ more) p ≡ None
skip one more p other none = ap (λ (b : Bool). if b then Some one.value else value_among more p) other ∙ none

above : (j k : ℕ) → j < k → names.Config k ≡ names.Config j → ⊥
above j k below e = let same : k ≡ j = cc in omega arith

later : (end offset : ℕ) (values : List ℕ) (j : ℕ) → j < offset → value_among (config_settings end offset values) (property end (names.Config j)) ≡ None
later end offset [] j below = refl
later end offset (value ∷ more) j below =
    skip (setting end (names.Config offset) value) (config_settings end (suc offset) more) (property end (names.Config j))
    (differs end (names.Config offset) (names.Config j) (above j offset below)) (later end (suc offset) more j (omega arith))

config_once : (end offset : ℕ) (values : List ℕ) → Once (config_settings end offset values)
config_once end offset [] = tt
config_once end offset (value ∷ more) = (later end (suc offset) more offset (omega arith), config_once end (suc offset) more)

mode_or_setpoint : (kind : ℕ) → names.Setpoint kind ≡ names.Mode → ⊥
mode_or_setpoint kind e = cc

once_by : (actuator : Actuator) (end : ℕ) (order : What) → Once (settings_by actuator end order)
once_by actuator end (what.Value word) = (refl, tt)
once_by actuator end (what.Mode mode) = (refl, tt)
once_by actuator end (what.Setpoint kind tenths) = (refl, tt)
once_by actuator end (what.Config parameter value) = (refl, tt)
once_by actuator end (what.Bulk offset values) = config_once end offset values
once_by actuator end (what.Associate group member) = (refl, tt)
once_by actuator end (what.Dissociate group member) = (refl, tt)
once_by actuator end (what.Interval seconds) = (refl, tt)
once_by actuator end (what.Comfort mode kind tenths) =
    (skip (setting end (names.Setpoint kind) tenths) [] (property end names.Mode) (differs end (names.Setpoint kind) names.Mode (mode_or_setpoint kind)) refl, (refl, tt))

pub settings_once : (actuator : Actuator) (order : Order) → Once (settings actuator order)
settings_once actuator order = once_by actuator order.end order.what
