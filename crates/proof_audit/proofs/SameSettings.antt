-- Settings are the same as themselves.
use Rattle.std.proofs.Common.{◌≡◌, eqb, true, List, [], ◌∷◌, refl}
use Rattle.std.proofs.lemmas.Bool.{and_from, eq-eqb}
use Rattle.zw_base.specs.PropertyOrder.{same_property}
use Rattle.zw_base.specs.declared.property.Setting.{Setting}
use Rattle.value_store.proofs.Keys.{same_property_laws}
use Rattle.audit_books.specs.Asking.{same_setting, same_settings}

pub setting-itself : (one : Setting) → same_setting one one ≡ true
setting-itself one = and_from (same_property one.property one.property) (eqb one.value one.value) (same_property_laws.refl one.property) (eq-eqb one.value one.value refl)

pub settings-themselves : (made : List Setting) → same_settings made made ≡ true
settings-themselves [] = refl
settings-themselves (one ∷ made) = and_from (same_setting one one) (same_settings made made) (setting-itself one) (settings-themselves made)
