-- What a journal keeps beside its changes stays theirs.
use Rattle.std.proofs.Common.{◌≡◌, ℕ, List, [], ◌∷◌, ◌++◌, Bool, true, false, refl, sym, ◌∙◌, ap}
use Rattle.std.specs.Prelude.{if◌then◌else◌}
use Rattle.std.specs.Cmp.{IsEquivalence}
use Rattle.std.specs.Ordering.{is_eq}
use Rattle.std.specs.declared.cmp.Ordering.{Ordering}
use Rattle.std.specs.declared.cmp.Ordering.TheVariants.{Less, Equal, Greater}
use Rattle.std.proofs.lemmas.Cmp.{nat_list_cmp_total, on_total, eq_by_cmp_equiv}
use Rattle.zw_base.specs.PropertyOrder.{same_property, rank_of}
use Rattle.zw_base.specs.declared.property.Property.{Property}
use Rattle.zw_base.specs.declared.property.Setting.{Setting}
use Rattle.device_kinds.specs.declared.change.Change.{Change}
use Rattle.device_kinds.specs.Values.{value_by, value_after, level_by, level_after}
use Rattle.device_kinds.specs.Settings.{property_cmp, by_order, with_setting, merged}
use Rattle.device_kinds.specs.Cache.{first_value, IsCache}

pub same_laws : IsEquivalence same_property
same_laws = eq_by_cmp_equiv (on_total rank_of nat_list_cmp_total)

abbrev either : Bool → ℕ → ℕ → ℕ
either b x y = if b then x else y

-- a setting put in place of one of the same property hides it
hidden : (a b : Bool) (x y z : ℕ) → a ≡ b → either a x y ≡ either a x (either b z y)
hidden true b x y z e = refl
hidden false true x y z e = let bad : false ≡ true = e in absurd (cc)
hidden false false x y z e = refl

-- two settings of different properties do not hide each other
apart : (a b : Bool) (x y z : ℕ) → (a ≡ true → b ≡ true → ⊥) → either b z (either a x y) ≡ either a x (either b z y)
apart true true x y z h = absurd (h refl refl)
apart true false x y z h = refl
apart false true x y z h = refl
apart false false x y z h = refl

pub first_value-with_setting : (settings : List Setting) (setting : Setting) (property : Property)
    → first_value (with_setting settings setting) property
    ≡ (if same_property setting.property property then setting.value else first_value settings property)
first_value-with_setting [] setting property = refl
first_value-with_setting (first ∷ settings) setting property =
    by (property_cmp setting.property first.property) (first_value-with_setting settings setting property) refl
  where
    by : (o : Ordering)
        → first_value (with_setting settings setting) property ≡ (if same_property setting.property property then setting.value else first_value settings property)
        → property_cmp setting.property first.property ≡ o
        → first_value (by_order o (setting ∷ first ∷ settings) (setting ∷ settings) (first ∷ with_setting settings setting)) property
        ≡ (if same_property setting.property property then setting.value else first_value (first ∷ settings) property)
    by Less more e = refl
    by Equal more e =
        hidden (same_property setting.property property) (same_property first.property property) setting.value (first_value settings property) first.value
        (same_laws.congr setting.property first.property property (ap is_eq e))
    by Greater more e =
        ap (λ (n : ℕ). either (same_property first.property property) first.value n) more
        ∙ apart (same_property setting.property property) (same_property first.property property) setting.value (first_value settings property) first.value
        (λ p q.
        let back : same_property property first.property ≡ true = same_laws.symm property first.property ∙ q in
        let forth : same_property property setting.property ≡ true = same_laws.symm property setting.property ∙ p in
        let same : same_property setting.property first.property ≡ true = sym (same_laws.congr property setting.property first.property forth) ∙ back in
        let not_same : same_property setting.property first.property ≡ false = ap is_eq e in
        absurd (cc))

pub first_value-merged : (settings more : List Setting) (property : Property)
    → first_value (merged settings more) property ≡ value_by more property (first_value settings property)
first_value-merged settings [] property = refl
first_value-merged settings (setting ∷ more) property =
    first_value-merged (with_setting settings setting) more property
    ∙ ap (value_by more property) (first_value-with_setting settings setting property)

pub value_after-append : (changes more : List Change) (property : Property) (before : ℕ)
    → value_after (changes ++ more) property before ≡ value_after more property (value_after changes property before)
value_after-append [] more property before = refl
value_after-append (change ∷ changes) more property before = value_after-append changes more property (value_by change.settings property before)

pub level_after-append : (changes more : List Change) (before : ℕ) → level_after (changes ++ more) before ≡ level_after more (level_after changes before)
level_after-append [] more before = refl
level_after-append (change ∷ changes) more before = level_after-append changes more (level_by change.settings before)

-- one change more
pub cache_more : (changes now : List Change) (values values' : List Setting) (last last' : ℕ) (change : Change) → IsCache changes values last
    → values' ≡ merged values change.settings → last' ≡ level_by change.settings last → now ≡ changes ++ change ∷ [] → IsCache now values' last'
cache_more changes now values values' last last' change is v l n = record {
  values_are = λ property.
      ap (λ (x : List Setting). first_value x property) v
      ∙ first_value-merged values change.settings property
      ∙ ap (value_by change.settings property) (is.values_are property)
      ∙ sym (value_after-append changes (change ∷ []) property 0)
      ∙ ap (λ (x : List Change). value_after x property 0) (sym n);
  last_is =
      l ∙ ap (level_by change.settings) is.last_is ∙ sym (level_after-append changes (change ∷ []) 99)
      ∙ ap (λ (x : List Change). level_after x 99) (sym n);
}
