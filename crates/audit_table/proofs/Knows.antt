-- What is known of properties.
use Rattle.std.proofs.Common.{◌≡◌, ℕ, cond, Bool, true, false, List, [], ◌∷◌, ◌++◌, drop, Option, Some, None, ap, refl, sym, ◌∙◌}
use Rattle.std.specs.Prelude.{unwrap_or, if◌then◌else◌, ◌==◌}
use Rattle.std.specs.List.{flat_map}
use Rattle.std.specs.declared.cmp.Ordering.{Ordering}
use Rattle.std.specs.declared.cmp.Ordering.TheVariants.{Less, Equal, Greater}
use Rattle.std.specs.Cmp.{IsTotalOrder}
use Rattle.std.specs.Ordering.{is_eq, ordering_reverse}
use Rattle.std.specs.FinMap.{nat_cmp-IsAntisymmetric, slice_cmp-IsAntisymmetric}
use Rattle.std.specs.Map.{keys_of, lookup}
use Rattle.std.specs.BTreeMap.{insert_entry, is_at}
use Rattle.std.proofs.lemmas.List.{map-append}
use Rattle.std.proofs.lemmas.Cmp.{nat_list_cmp_total, on_total}
use Rattle.zw_base.specs.PropertyOrder.{name_rank_of, rank_of, same_property}
use Rattle.zw_base.specs.declared.property.Name.{Name}
use Rattle.zw_base.specs.declared.property.Name.TheVariants.{Switch, Level, Lock, Mode, Setpoint, Config, Member, Interval, Sensor, Battery}
use Rattle.zw_base.specs.declared.property.Property.{Property}
use Rattle.zw_base.specs.declared.property.Setting.{Setting}
use Rattle.host_keep.specs.Kept.{or_else, value_among}
use Rattle.host_orders.specs.Settings.{properties_of}
use Rattle.law_transcript.specs.Stores.{last_value}
use Rattle.law_transcript.specs.Table.{compare_properties, in_order, put_in_order}
use Rattle.law_transcript.specs.Values.{last_given}
use Rattle.audit_table.specs.declared.values.Known.{Known}
use Rattle.audit_table.specs.Knowing.{Knowns, known_at, nothing_known, with_commands, with_last, with_settings}
use Rattle.audit_table.specs.Keeping.{AreLast}
use Rattle.audit_table.proofs.Ordered.{in-order-more, keys-insert, lookup-insert, putting, putting-append, putting-swap}

-- ---- the order of properties

abbrev number_at : List ℕ → ℕ
number_at [] = 0
number_at (n ∷ ns) = n

abbrev name_from : List ℕ → Name
name_from [] = Switch
name_from (place ∷ numbers) =
    if place == 0 then Switch
    else if place == 1 then Level
    else if place == 2 then Lock
    else if place == 3 then Mode
    else if place == 4 then Setpoint (number_at numbers)
    else if place == 5 then Config (number_at numbers)
    else if place == 6 then Member (number_at numbers) (number_at (drop 1 numbers))
    else if place == 7 then Interval
    else if place == 8 then Sensor
    else Battery

name-from : (name : Name) → name_from (name_rank_of name) ≡ name
name-from Switch = refl
name-from Level = refl
name-from Lock = refl
name-from Mode = refl
name-from (Setpoint kind) = refl
name-from (Config parameter) = refl
name-from (Member group member) = refl
name-from Interval = refl
name-from Sensor = refl
name-from Battery = refl

property_from : List ℕ → Property
property_from numbers = record { end = number_at numbers; name = name_from (drop 1 numbers) }

property-from : (property : Property) → property_from (rank_of property) ≡ property
unfolding property_from
property-from property = ap (λ (name : Name). record { end = property.end; name = name }) (name-from property.name)

pub total : IsTotalOrder compare_properties
total = on_total rank_of nat_list_cmp_total

pub exact : (first second : Property) → compare_properties first second ≡ Equal → first ≡ second
exact first second tie =
    sym (property-from first)
    ∙ ap property_from (slice_cmp-IsAntisymmetric nat_cmp-IsAntisymmetric (rank_of first) (rank_of second) tie)
    ∙ property-from second

eq-back : (o : Ordering) → is_eq (ordering_reverse o) ≡ is_eq o
eq-back Less = refl
eq-back Equal = refl
eq-back Greater = refl

pub same-back : (first second : Property) → same_property first second ≡ is_eq (compare_properties second first)
same-back first second = ap is_eq (total.antisymm first second) ∙ eq-back (compare_properties second first)

-- ---- one value more

known-insert : (es : Knowns) (k q : Property) (v : Known) → known_at (insert_entry compare_properties es k v) q ≡ cond (is_eq (compare_properties q k)) v (known_at es q)
known-insert es k q v =
    ap (λ found. unwrap_or found nothing_known) (lookup-insert total exact es k q v) ∙ by (is_eq (compare_properties q k))
  where
    by : (b : Bool) → unwrap_or (cond b (Some v) (lookup (is_at (compare_properties q)) es)) nothing_known ≡ cond b v (known_at es q)
    by true = refl
    by false = refl

-- a part that the new value keeps
part-kept : {A : Type 0} (part : Known → A) (es : Knowns) (k q : Property) (v : Known) → part v ≡ part (known_at es k) →
    part (known_at (insert_entry compare_properties es k v) q) ≡ part (known_at es q)
part-kept part es k q v same = ap part (known-insert es k q v) ∙ by (compare_properties q k) refl
  where
    by : (o : Ordering) → compare_properties q k ≡ o → part (cond (is_eq (compare_properties q k)) v (known_at es q)) ≡ part (known_at es q)
    by Equal e = ap (λ r. part (cond (is_eq r) v (known_at es q))) e ∙ same ∙ ap (λ p. part (known_at es p)) (sym (exact q k e))
    by Less e = ap (λ r. part (cond (is_eq r) v (known_at es q))) e
    by Greater e = ap (λ r. part (cond (is_eq r) v (known_at es q))) e

-- a part that it gives
part-new : {A : Type 0} (part : Known → A) (es : Knowns) (k q : Property) (v : Known) →
    part (known_at (insert_entry compare_properties es k v) q) ≡ cond (same_property k q) (part v) (part (known_at es q))
part-new part es k q v =
    ap part (known-insert es k q v) ∙ by (is_eq (compare_properties q k)) ∙ ap (λ b. cond b (part v) (part (known_at es q))) (sym (same-back k q))
  where
    by : (b : Bool) → part (cond b v (known_at es q)) ≡ cond b (part v) (part (known_at es q))
    by true = refl
    by false = refl

value-more : (before : Option ℕ) (settings : List Setting) (one : Setting) (property : Property) →
    last_value before (settings ++ (one ∷ [])) property ≡ cond (same_property one.property property) (Some one.value) (last_value before settings property)
value-more before [] one property = refl
value-more before (first ∷ settings) one property =
    value-more (cond (same_property first.property property) (Some first.value) before) settings one property

pub none-last : AreLast [] []
none-last = record { keys = refl; last = λ property. refl; confirmed = λ property. refl }

pub last-more : (es : Knowns) (settings : List Setting) (one : Setting) → AreLast es settings → AreLast (with_last es one) (settings ++ (one ∷ []))
last-more es settings one are = record {
  keys =
      keys-insert total exact es one.property _
      ∙ ap (put_in_order compare_properties one.property) are.keys
      ∙ sym (in-order-more total exact (properties_of settings) one.property)
      ∙ ap (in_order compare_properties) (sym (map-append (λ (s : Setting). s.property) settings (one ∷ [])));
  last = λ property.
      part-new (λ (k : Known). k.last) es one.property property _
      ∙ ap (cond (same_property one.property property) (Some one.value)) (are.last property)
      ∙ sym (value-more None settings one property);
  confirmed = λ property. part-kept (λ (k : Known). k.confirmed) es one.property property _ refl ∙ are.confirmed property;
}

-- ---- what commands confirm

settings-last : (es : Knowns) (settings : List Setting) (property : Property) → (known_at (with_settings es settings) property).last ≡ (known_at es property).last
settings-last es [] property = refl
settings-last es (one ∷ settings) property =
    part-kept (λ (k : Known). k.last) (with_settings es settings) one.property property _ refl ∙ settings-last es settings property

pub commands-last : (es : Knowns) (f : ℕ → List Setting) (commands : List ℕ) (property : Property) → (known_at (with_commands es f commands) property).last ≡ (known_at es property).last
commands-last es f [] property = refl
commands-last es f (command ∷ commands) property =
    commands-last (with_settings es (f command)) f commands property ∙ settings-last es (f command) property

among-cond : (b : Bool) (n : ℕ) (found other : Option ℕ) → cond b (Some n) (or_else found other) ≡ or_else (cond b (Some n) found) other
among-cond true n found other = refl
among-cond false n found other = refl

settings-confirmed : (es : Knowns) (settings : List Setting) (property : Property) →
    (known_at (with_settings es settings) property).confirmed ≡ or_else (value_among settings property) (known_at es property).confirmed
settings-confirmed es [] property = refl
settings-confirmed es (one ∷ settings) property =
    part-new (λ (k : Known). k.confirmed) (with_settings es settings) one.property property _
    ∙ ap (cond (same_property one.property property) (Some one.value)) (settings-confirmed es settings property)
    ∙ among-cond (same_property one.property property) one.value (value_among settings property) (known_at es property).confirmed

or-else-assoc : (a b c : Option ℕ) → or_else a (or_else b c) ≡ or_else (or_else a b) c
or-else-assoc (Some n) b c = refl
or-else-assoc None b c = refl

commands-confirmed-from : (es : Knowns) (f : ℕ → List Setting) (commands : List ℕ) (property : Property) →
    (known_at (with_commands es f commands) property).confirmed ≡ or_else (last_given (λ command. value_among (f command) property) commands) (known_at es property).confirmed
commands-confirmed-from es f [] property = refl
commands-confirmed-from es f (command ∷ commands) property =
    commands-confirmed-from (with_settings es (f command)) f commands property
    ∙ ap (or_else (last_given (λ command. value_among (f command) property) commands)) (settings-confirmed es (f command) property)
    ∙ or-else-assoc (last_given (λ command. value_among (f command) property) commands) (value_among (f command) property) (known_at es property).confirmed

or-none : (a : Option ℕ) → or_else a None ≡ a
or-none (Some n) = refl
or-none None = refl

pub commands-confirmed : (es : Knowns) (f : ℕ → List Setting) (commands : List ℕ) (property : Property) → (known_at es property).confirmed ≡ None →
    (known_at (with_commands es f commands) property).confirmed ≡ last_given (λ command. value_among (f command) property) commands
commands-confirmed es f commands property none =
    commands-confirmed-from es f commands property
    ∙ ap (or_else (last_given (λ command. value_among (f command) property) commands)) none
    ∙ or-none (last_given (λ command. value_among (f command) property) commands)

settings-keys : (es : Knowns) (settings : List Setting) → keys_of (with_settings es settings) ≡ putting compare_properties (properties_of settings) (keys_of es)
settings-keys es [] = refl
settings-keys es (one ∷ settings) =
    keys-insert total exact (with_settings es settings) one.property _ ∙ ap (put_in_order compare_properties one.property) (settings-keys es settings)

pub commands-keys : (es : Knowns) (f : ℕ → List Setting) (commands : List ℕ) →
    keys_of (with_commands es f commands) ≡ putting compare_properties (flat_map (λ command. properties_of (f command)) commands) (keys_of es)
commands-keys es f [] = refl
commands-keys es f (command ∷ commands) =
    commands-keys (with_settings es (f command)) f commands
    ∙ ap (putting compare_properties (flat_map (λ command. properties_of (f command)) commands)) (settings-keys es (f command))
    ∙ putting-swap total exact (flat_map (λ command. properties_of (f command)) commands) (properties_of (f command)) (keys_of es)
    ∙ sym (putting-append total exact (properties_of (f command)) (flat_map (λ command. properties_of (f command)) commands) (keys_of es))
