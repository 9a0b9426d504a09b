-- What is found at a place or in a gap among entries in order, and what an edit there makes.
use Rattle.std.proofs.Common.{◌≡◌, ℕ, get_or, set, insert, is_some, Some, None, if◌then◌else◌, inl, inr, sym, ap, ◌∙◌, arith}
use Rattle.std.specs.Ordering.{is_eq, ordering_reverse}
use Rattle.std.specs.FinMap.{find, put}
use Rattle.value_store.specs.declared.stored.Stored.{Stored}
use Rattle.value_store.specs.Values.{Key, key_cmp, no_value}
use Rattle.value_store.specs.Entries.{Entries, IsGapFor, IsInOrder, IsPlaceOf, keeping}
use Rattle.value_store.proofs.Keys.{key_total}
use Rattle.value_store.proofs.Sorted.{find_absent, find_present, put_present, put_absent}
use Rattle.std.proofs.lemmas.Bool.{cases_lt}

module _ (entries : Entries) (order : IsInOrder entries) (key : Key) where
  pub find_at : (at : ℕ) → IsPlaceOf entries key at → (d : Key × Stored) → find key_cmp key entries ≡ Some (get_or entries at d).1
  find_at at place d = find_present key_total key d.1 entries at order place.within place.same d

  pub put_at : (at : ℕ) → IsPlaceOf entries key at → (d : Key × Stored) (v : Stored) → set entries at ((get_or entries at d).0, v) ≡ put key_cmp key v entries
  put_at at place d v = put_present key_total key v entries at order place.within place.same d

  pub find_gap : (at : ℕ) → IsGapFor entries key at → find key_cmp key entries ≡ None
  find_gap at gap = find_absent key_total key entries (λ j d within.
      let back = key_total.antisymm key (get_or entries j d).0 in
      elim (cases_lt j at) [
        | inl under ↦ ap is_eq (back ∙ ap ordering_reverse (gap.lower j d under))
        | inr from ↦ ap is_eq (back ∙ ap ordering_reverse (gap.greater j d from within))
      ])

  pub put_gap : (at : ℕ) → IsGapFor entries key at → (v : Stored) → insert entries at (key, v) ≡ put key_cmp key v entries
  put_gap at gap v = put_absent key_total key v entries at gap.within gap.lower (λ d within. gap.greater at d (omega arith) within)

  -- a key that has no place is put
  pub keeping_gap : (at : ℕ) → IsGapFor entries key at → insert entries at (key, no_value) ≡ keeping entries key
  keeping_gap at gap = put_gap at gap no_value ∙ sym (ap (λ o. if is_some o then entries else put key_cmp key no_value entries) (find_gap at gap))

  -- one that has a place stays
  pub keeping_at : (at : ℕ) → IsPlaceOf entries key at → (d : Key × Stored) → entries ≡ keeping entries key
  keeping_at at place d = sym (ap (λ o. if is_some o then entries else put key_cmp key no_value entries) (find_at at place d))
