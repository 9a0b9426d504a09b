-- The JSON of a node has no float.
use Rattle.std.proofs.Common.{◌≡◌, ℕ, false, List, [], ◌∷◌, ◌||◌, Option, Some, None, map, refl, ap, ◌∙◌}
use Rattle.serde_json.specs.View.{items_of}
use Rattle.serde_json.specs.Written.{has_float, items_have_float}
use Rattle.value_store.specs.declared.stored.Held.{Held}
use Rattle.value_store.specs.ValueText.{held_data, node_data, value_data}

value_plain : (value : Option ℕ) → has_float (value_data value) ≡ false
value_plain None = refl
value_plain (Some value) = refl

held_plain : (held : Held) → has_float (held_data held) ≡ false
held_plain held = rw (value_plain held.stored.confirmed, value_plain held.stored.heard) refl

items_plain : (held : List Held) → items_have_float (items_of (map held_data held)) ≡ false
items_plain [] = refl
items_plain (one ∷ held) = ap (λ b. b || items_have_float (items_of (map held_data held))) (held_plain one) ∙ items_plain held

pub no_float : (node : ℕ) (held : List Held) → has_float (node_data node held) ≡ false
no_float node held = ap (λ b. b || false) (items_plain held)
