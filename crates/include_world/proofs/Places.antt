-- Steps of the loops over places: the locks, and the table.
use Rattle.std.proofs.Common.{◌≡◌, ℕ, zero, suc, ◌+◌, ◌-◌, ◌≤◌, List, [], ◌∷◌, ◌++◌, map, ap, sym, ◌∙◌, append_assoc, arith}
use Rattle.std.proofs.lemmas.List.{append-nil}
use Rattle.std.specs.List.{range_with_len, flat_map}
use Rattle.std.proofs.lemmas.Grind.{flat_map-append}
use Rattle.std.proofs.lemmas.List.FromFn.{map-range_with_len_more}
use Rattle.inclusion.specs.Joining.{Joining}
use Rattle.include_text.specs.declared.entry.IncludeEntry.{IncludeEntry}
use Rattle.include_world.specs.World.{WorldState, first_joiner, node_entries, table_of}

-- one more lock
pub joiners_more : (n : ℕ) (before after : List Joining) (joiner : Joining) → before ≡ map first_joiner (range_with_len 0 n) → joiner ≡ first_joiner n
    → after ≡ before ++ joiner ∷ [] → after ≡ map first_joiner (range_with_len 0 (n + 1))
joiners_more n before after joiner so_far is added =
    added ∙ (ap (λ l. l ++ joiner ∷ []) so_far ∙ (ap (λ (j : Joining). map first_joiner (range_with_len 0 n) ++ j ∷ []) is
    ∙ sym (map-range_with_len_more first_joiner 0 n n (omega arith))))

range_more : (a n : ℕ) → range_with_len a (suc n) ≡ range_with_len a n ++ (a + n) ∷ []
range_more a zero = ap (λ k. k ∷ []) (let same : a ≡ a + 0 = omega arith in same)
range_more a (suc n) = ap (λ l. a ∷ l) (range_more (a + 1) n ∙ ap (λ k. range_with_len (a + 1) n ++ k ∷ []) (let same : a + 1 + n ≡ a + suc n = omega arith in same))

-- one more node
pub entered_more : (w : WorldState) (number : ℕ) (start before after : List IncludeEntry) → 1 ≤ number
    → before ≡ start ++ flat_map (node_entries w) (range_with_len 1 (number - 1)) → after ≡ before ++ node_entries w number
    → after ≡ start ++ flat_map (node_entries w) (range_with_len 1 (number + 1 - 1))
entered_more w number start before after some so_far added =
    let count : number + 1 - 1 ≡ suc (number - 1) = omega arith in
    let at : 1 + (number - 1) ≡ number = omega arith in
    let one : flat_map (node_entries w) (number ∷ []) ≡ node_entries w number = append-nil (node_entries w number) in
    let whole : flat_map (node_entries w) (range_with_len 1 (suc (number - 1))) ≡ flat_map (node_entries w) (range_with_len 1 (number - 1)) ++ node_entries w number
    = ap (flat_map (node_entries w)) (range_more 1 (number - 1) ∙ ap (λ k. range_with_len 1 (number - 1) ++ k ∷ []) at)
    ∙ (flat_map-append (node_entries w) (range_with_len 1 (number - 1)) (number ∷ []) ∙ ap (λ l. flat_map (node_entries w) (range_with_len 1 (number - 1)) ++ l) one) in
    added ∙ (ap (λ l. l ++ node_entries w number) so_far
    ∙ (append_assoc start (flat_map (node_entries w) (range_with_len 1 (number - 1))) (node_entries w number)
    ∙ (ap (λ l. start ++ l) (sym whole) ∙ ap (λ k. start ++ flat_map (node_entries w) (range_with_len 1 k)) (sym count))))

-- all nodes
pub entered_all : (w : WorldState) (k : ℕ) (start all : List IncludeEntry) → all ≡ start ++ flat_map (node_entries w) (range_with_len 1 k) → k ≡ 232 → all ≡ start ++ table_of w
unfolding table_of
entered_all w k start all so_far enough = so_far ∙ ap (λ n. start ++ flat_map (node_entries w) (range_with_len 1 n)) enough
