-- Maps of properties by their order, and the maps of all nodes.
use Rattle.std.proofs.Common.{◌≡◌, ℕ, zero, suc, ◌<◌, List, [], ◌∷◌, length, map, get_or, set, arith, ap, ap₂, refl, sym, ◌∙◌}
use Rattle.std.proofs.lemmas.List.{map-set}
use Rattle.std.specs.declared.cmp.Ordering.{Ordering}
use Rattle.std.specs.Map.{lookup}
use Rattle.std.specs.BTreeMap.{insert_entry, is_at}
use Rattle.zw_base.specs.declared.property.Property.{Property}
use Rattle.zw_base.specs.declared.property.Setting.{Setting}
use Rattle.law_transcript.specs.Table.{compare_properties}
use Rattle.audit_table.specs.declared.values.Known.{Known}
use Rattle.audit_table.specs.Knowing.{Knowns, values_of, values_with, with_last}

-- the same order
abbrev SameOrder : (Property → Property → Ordering) → Type 0
SameOrder compare = (first second : Property) → compare first second ≡ compare_properties first second

pub lookup-by : (compare : Property → Property → Ordering) (es : Knowns) (key : Property) → SameOrder compare → lookup (is_at (compare key)) es ≡ lookup (is_at (compare_properties key)) es
lookup-by compare [] key same = refl
lookup-by compare (e ∷ es) key same = rw (same key e.0, lookup-by compare es key same) refl

pub insert-by : (compare : Property → Property → Ordering) (es : Knowns) (key : Property) (v : Known) → SameOrder compare →
    insert_entry compare es key v ≡ insert_entry compare_properties es key v
insert-by compare [] key v same = refl
insert-by compare (e ∷ es) key v same = rw (same key e.0, insert-by compare es key v same) refl

-- ---- the maps of nodes

module _ {B : Type 0} (f : B → Knowns) where
  map-at : (nodes : List B) (at : ℕ) (x : B) → at < length nodes → x ≡ get_or nodes at x → get_or (map f nodes) at [] ≡ f x
  map-at [] at x within is = absurd (omega (arith, within))
  map-at (y ∷ nodes) zero x within is = ap f (sym is)
  map-at (y ∷ nodes) (suc at) x within is = map-at nodes at x (omega (arith, within)) is

  -- a node has one value more
  pub values-set : (nodes : List B) (values : List Knowns) (at node : ℕ) (old new : B) (setting : Setting) → map f nodes ≡ values → at ≡ node → at < length nodes → old ≡ get_or nodes at old →
      f new ≡ with_last (f old) setting → map f (set nodes at new) ≡ values_with values node setting
  values-set nodes values at node old new setting view place within is made =
      map-set f nodes at new
      ∙ ap₂ (λ (vs : List Knowns) (k : Knowns). set vs at k) view (made ∙ ap (λ k. with_last k setting) (sym (map-at nodes at old within is) ∙ ap (λ vs. get_or vs at []) view))
      ∙ ap (λ n. set values n (with_last (values_of values n) setting)) place

  -- a node has no values any more
  pub values-reset : (nodes : List B) (values : List Knowns) (at node : ℕ) (new : B) → map f nodes ≡ values → at ≡ node → f new ≡ [] → map f (set nodes at new) ≡ set values node []
  values-reset nodes values at node new view place none = map-set f nodes at new ∙ ap₂ (λ (vs : List Knowns) (k : Knowns). set vs at k) view none ∙ ap (λ n. set values n []) place
