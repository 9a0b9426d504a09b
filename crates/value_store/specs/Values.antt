-- What is known of the properties of nodes: the value that a final report confirmed, and the value last heard (all of
-- it this project's own rule).
use Rattle.std.specs.Prelude.{◌≡◌, ℕ, Bool, ◌||◌, ◌&&◌, ◌==◌, not, if◌then◌else◌, List, [], ◌∷◌, ◌++◌, Option, Some, None, IsTrue, is_some, unwrap_or, slice_get, refl}
use Rattle.std.proofs.Common.{ap}
use Rattle.std.specs.List.{filter_map, list_any}
use Rattle.std.specs.declared.cmp.Ordering.{Ordering}
use Rattle.std.specs.Ordering.{nat_cmp}
use Rattle.std.specs.Cmp.Lexicographic.{slice_cmp}
use Rattle.std.specs.Coded.{Coded, code_by, coded×, coded_ℕ, coded_list, coded_option}
use Rattle.std.specs.Set.{distinct_count}
use Rattle.std.specs.FinMap as map
use Rattle.zw_base.specs.PropertyOrder.{name_rank_of, rank_of, same_property}
use Rattle.zw_base.specs.declared.property.Name.{Name}
use Rattle.zw_base.specs.declared.property.Name.TheVariants.{Switch, Level, Lock, Mode, Setpoint, Config, Member, Interval, Sensor, Battery}
use Rattle.zw_base.specs.declared.property.Property.{Property}
use Rattle.value_store.specs.declared.stored.Stored.{Stored}
use Rattle.value_store.specs.declared.stored.Held.{Held}

-- a node and one of its properties
abbrev pub Key : Type 0
Key = ℕ × Property

-- what decides between two keys: the first number that differs, of the node, then of the property
abbrev pub key_rank : Key → List ℕ
key_rank key = key.0 ∷ rank_of key.1

-- the order of the keys
unfoldable pub key_cmp : Key → Key → Ordering
key_cmp first second = slice_cmp nat_cmp (key_rank first) (key_rank second)

-- what is kept: for each node and property that is kept, its values
abbrev pub Values : Type 0
Values = map.FinMap key_cmp Stored

-- a property that is kept with no value yet
abbrev pub no_value : Stored
no_value = record { confirmed = None; heard = None }

-- whether there is a value, confirmed or heard
abbrev pub has_value : Stored → Bool
has_value stored = is_some stored.confirmed || is_some stored.heard

-- whether the property of the node is kept, with a value or none
abbrev pub IsReserved : Values → ℕ → Property → Type 0
IsReserved values node property = IsTrue (is_some (map.get values (node, property)))

-- what is kept of the property, and nothing where it is not kept
abbrev pub stored_of : Values → ℕ → Property → Stored
stored_of values node property = unwrap_or (map.get values (node, property)) no_value

-- only what has a value
abbrev pub if_valued : Option Stored → Option Stored
if_valued None = None
if_valued (Some stored) = if has_value stored then Some stored else None

-- what is known of the property, where it has a value
abbrev pub known_of : Values → ℕ → Property → Option Stored
known_of values node property = if_valued (map.get values (node, property))

-- whether the property is one of these
abbrev pub is_among : List Property → Property → Bool
is_among properties property = list_any (same_property property) properties

-- the property of the entry, where it is of this node
abbrev pub property_at : ℕ → Key × Stored → Option Property
property_at node entry = if node == entry.0.0 then Some entry.0.1 else None

-- the properties of the node that are kept, in their order
abbrev pub properties_of : Values → ℕ → List Property
properties_of values node = filter_map (property_at node) (map.entries values)

-- how many properties of the node would be kept, these with those that are kept already
abbrev pub count_with : Values → ℕ → List Property → ℕ
count_with values node properties = distinct_count same_property (properties ++ properties_of values node)

-- from old to new these properties of the node are kept besides; what was kept before is as it was
abbrev pub Reserves : Values → Values → ℕ → List Property → Type 0
Reserves old new node properties =
    (n : ℕ) (p : Property) → map.get new (n, p)
    ≡ (if (n == node) && is_among properties p then Some (stored_of old n p) else map.get old (n, p))

-- the values with these properties of the node kept, each as it was, or with no value yet
abbrev pub reserving : Values → ℕ → List Property → Values
reserving values node [] = values
reserving values node (property ∷ more) = reserving (map.insert values (node, property) (stored_of values node property)) node more

-- a key that is not one of these properties of the node
abbrev pub is_other : ℕ → List Property → Key → Bool
is_other node properties key = not ((key.0 == node) && is_among properties key.1)

-- the values with these properties of the node kept no more
abbrev pub releasing : Values → ℕ → List Property → Values
releasing values node properties = map.retain_keys values (is_other node properties)

-- those of these properties that are not kept, each once
abbrev pub missing_by : (Property → Bool) → List Property → List Property
missing_by is_kept [] = []
missing_by is_kept (property ∷ more) =
    if is_among more property || is_kept property then missing_by is_kept more else property ∷ missing_by is_kept more

abbrev pub missing_of : Values → ℕ → List Property → List Property
missing_of values node properties = missing_by (λ property. is_some (map.get values (node, property))) properties

-- the property with its values, where it is of this node and has a value
abbrev pub held_at : ℕ → Key × Stored → Option Held
held_at node entry =
    if (node == entry.0.0) && has_value entry.1 then Some (record { property = entry.0.1; stored = entry.1 }) else None

-- the properties of the node that have a value, in their order
abbrev pub held_of : Values → ℕ → List Held
held_of values node = filter_map (held_at node) (map.entries values)

-- what these say of the property, and None where they do not name it
abbrev pub listed_of : List Held → Property → Option Stored
listed_of [] property = None
listed_of (held ∷ more) property = if same_property property held.property then Some held.stored else listed_of more property

-- the order of properties
abbrev pub property_cmp : Property → Property → Ordering
property_cmp first second = slice_cmp nat_cmp (rank_of first) (rank_of second)

-- a number of a list, by its place
abbrev pub number_at : List ℕ → ℕ → ℕ
number_at numbers at = unwrap_or (slice_get numbers at) 0

-- the name that has this rank
abbrev pub name_from : List ℕ → Name
name_from [] = Switch
name_from (place ∷ numbers) =
    if place == 0 then Switch
    else if place == 1 then Level
    else if place == 2 then Lock
    else if place == 3 then Mode
    else if place == 4 then Setpoint (number_at numbers 0)
    else if place == 5 then Config (number_at numbers 0)
    else if place == 6 then Member (number_at numbers 0) (number_at numbers 1)
    else if place == 7 then Interval
    else if place == 8 then Sensor
    else Battery

-- it is the only one
pub name_from-rank : (name : Name) → name_from (name_rank_of name) ≡ name
name_from-rank Switch = refl
name_from-rank Level = refl
name_from-rank Lock = refl
name_from-rank Mode = refl
name_from-rank (Setpoint kind) = refl
name_from-rank (Config parameter) = refl
name_from-rank (Member group member) = refl
name_from-rank Interval = refl
name_from-rank Sensor = refl
name_from-rank Battery = refl

-- a property as the pair of its end point and its name's rank
abbrev pub property_code : Coded Property
property_code =
    code_by (ℕ × List ℕ) (coded× coded_ℕ (coded_list coded_ℕ))
    (λ p. (p.end, name_rank_of p.name)) (λ c. record { end = c.0; name = name_from c.1 })
    (λ p. ap (λ (name : Name). record { end = p.end; name = name }) (name_from-rank p.name))

-- the two values as a pair
abbrev pub stored_code : Coded Stored
stored_code =
    code_by (Option ℕ × Option ℕ) (coded× (coded_option coded_ℕ) (coded_option coded_ℕ))
    (λ s. (s.confirmed, s.heard)) (λ c. record { confirmed = c.0; heard = c.1 }) (λ _. refl)

abbrev pub values_code : Coded Values
values_code = map.code (coded× coded_ℕ property_code) stored_code
