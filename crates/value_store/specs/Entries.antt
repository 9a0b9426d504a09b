-- The values as the store keeps them: entries whose keys rise.
use Rattle.std.specs.Prelude.{◌≡◌, ℕ, ◌<◌, ◌≤◌, List, [], ◌∷◌, length, is_some, IsTrue, if◌then◌else◌, slice_index_or}
use Rattle.std.specs.List.{filter_map}
use Rattle.std.specs.declared.cmp.Ordering.TheVariants.{Less, Equal, Greater}
use Rattle.std.specs.FinMap.{find, put, is_sorted}
use Rattle.zw_base.specs.declared.property.Property.{Property}
use Rattle.value_store.specs.declared.stored.Stored.{Stored}
use Rattle.value_store.specs.Values.{Key, key_cmp, no_value, property_at}

-- entries in the order of their keys
abbrev pub Entries : Type 0
Entries = List (Key × Stored)

-- no key stands after one that is not below it
abbrev pub IsInOrder : Entries → Type 0
IsInOrder entries = IsTrue (is_sorted key_cmp entries)

-- the properties of the node
abbrev pub properties_among : Entries → ℕ → List Property
properties_among entries node = filter_map (property_at node) entries

-- no node has more than 512 properties
abbrev pub IsWithinLimit : Entries → Type 0
IsWithinLimit entries = (node : ℕ) → length (properties_among entries node) ≤ 512

-- the entry at this place has the key
pub record IsPlaceOf (entries : Entries) (key : Key) (at : ℕ) : Type 0 where
  pub within : at < length entries
  pub same : (d : Key × Stored) → key_cmp (slice_index_or entries at d).0 key ≡ Equal

-- the key would go to this place: lower keys stand before it, greater ones from it on
pub record IsGapFor (entries : Entries) (key : Key) (at : ℕ) : Type 0 where
  pub within : at ≤ length entries
  pub lower : (j : ℕ) (d : Key × Stored) → j < at → key_cmp (slice_index_or entries j d).0 key ≡ Less
  pub greater : (j : ℕ) (d : Key × Stored) → at ≤ j → j < length entries → key_cmp (slice_index_or entries j d).0 key ≡ Greater

-- the entries with the key kept
abbrev pub keeping : Entries → Key → Entries
keeping entries key = if is_some (find key_cmp key entries) then entries else put key_cmp key no_value entries

-- the entries with these properties of the node kept
abbrev pub keeping_all : Entries → ℕ → List Property → Entries
keeping_all entries node [] = entries
keeping_all entries node (property ∷ more) = keeping_all (keeping entries (node, property)) node more
