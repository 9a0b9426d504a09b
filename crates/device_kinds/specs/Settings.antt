-- Settings in the order of properties, one for each (this project's own rule).
use Rattle.std.specs.Prelude.{List, [], ◌∷◌}
use Rattle.std.specs.Ordering.{nat_cmp}
use Rattle.std.specs.Cmp.Lexicographic.{slice_cmp}
use Rattle.std.specs.declared.cmp.Ordering.{Ordering}
use Rattle.std.specs.declared.cmp.Ordering.TheVariants.{Less, Equal, Greater}
use Rattle.zw_base.specs.PropertyOrder.{rank_of}
use Rattle.zw_base.specs.declared.property.Property.{Property}
use Rattle.zw_base.specs.declared.property.Setting.{Setting}

-- how two properties are ordered
abbrev pub property_cmp : Property → Property → Ordering
property_cmp first second = slice_cmp nat_cmp (rank_of first) (rank_of second)

-- one of three, by an order
abbrev pub by_order : {A : Type 0} → Ordering → A → A → A → A
by_order Less less equal greater = less
by_order Equal less equal greater = equal
by_order Greater less equal greater = greater

-- the settings with one more at its place, or in place of that of the same property
abbrev pub with_setting : List Setting → Setting → List Setting
with_setting [] setting = setting ∷ []
with_setting (first ∷ settings) setting =
    by_order (property_cmp setting.property first.property)
    (setting ∷ first ∷ settings) (setting ∷ settings) (first ∷ with_setting settings setting)

-- the settings with these put in one after another
abbrev pub merged : List Setting → List Setting → List Setting
merged settings [] = settings
merged settings (setting ∷ more) = merged (with_setting settings setting) more
