-- Steps of the loops over devices, repeaters and changes: over plain lists.
use Rattle.std.proofs.Common.{◌≡◌, ◌≢◌, ℕ, zero, suc, ◌+◌, ◌<◌, ◌≤◌, ◌==◌, ◌⊎◌, inl, inr, if◌then◌else◌, Bool, true, false, Option, Some, None, List, [], ◌∷◌, ◌++◌, length, take, map, get_or, set, slice_get, option_map, refl, ap, sym, subst, ◌∙◌, append_assoc, arith}
use Rattle.std.proofs.lemmas.Option.{slice_get-map, slice_get_read}
use Rattle.std.proofs.lemmas.Bool.{eq-eqb}
use Rattle.std.proofs.lemmas.Bool.Decides.{eqb_tells}
use Rattle.device_sim.specs.State.{State}
use Rattle.mesh_sim.specs.declared.event.AirEvent.{AirEvent}
use Rattle.mesh_sim.specs.declared.event.AirEvent.TheVariants.{Changed}
use Rattle.mesh_sim.specs.Fates.{place_of}
use Rattle.mesh_sim.specs.Steps.{changed}

-- the value at a place of a list is seen at that place
pub seen_at : {A B : Type 0} (seen : A → B) (xs : List A) (i : ℕ) (x : A) → i < length xs → x ≡ get_or xs i x → slice_get (map seen xs) i ≡ Some (seen x)
seen_at seen xs i x within at = slice_get-map seen xs i ∙ ap (option_map seen) (slice_get_read xs (length xs) i x refl within at)

-- a place in the rest of a list of devices is one more in the list
none_in_rest : (b : Bool) (found : Option ℕ) → (if b then Some 0 else option_map suc found) ≡ None → (b ≡ false) × (found ≡ None)
none_in_rest true found e = absurd cc
none_in_rest false None e = (refl, refl)
none_in_rest false (Some k) e = absurd cc

-- no device before the place is of the node, and that at the place is
pub place_found : (node : ℕ) (devices : List State) (i : ℕ) (device : State) → place_of node (take i devices) ≡ None → slice_get devices i ≡ Some device → device.node ≡ node → place_of node devices ≡ Some i
place_found node [] i device before at same = absurd cc
place_found node (first ∷ devices) zero device before at same =
    let is : first ≡ device = cc in
    let test : (first.node == node) ≡ true = eq-eqb first.node node (ap (λ (d : State). d.node) is ∙ same) in rw test refl
place_found node (first ∷ devices) (suc i) device before at same =
    let rest = none_in_rest (first.node == node) (place_of node (take i devices)) before in
    rw rest.0 (ap (λ o. option_map suc o) (place_found node devices i device rest.1 at same))

-- or is not
pub place_passed : (node : ℕ) (devices : List State) (i : ℕ) (device : State) → place_of node (take i devices) ≡ None → slice_get devices i ≡ Some device → device.node ≢ node → place_of node (take (i + 1) devices) ≡ None
place_passed node devices i device before at other = subst (λ n. place_of node (take n devices) ≡ None) (let e : suc i ≡ i + 1 = omega arith in e) (go devices i before at)
  where
    go : (devices : List State) (i : ℕ) → place_of node (take i devices) ≡ None → slice_get devices i ≡ Some device → place_of node (take (suc i) devices) ≡ None
    go [] i before at = absurd cc
    go (first ∷ devices) zero before at = by (eqb_tells first.node node)
      where
        by : (((first.node == node) ≡ true) × (first.node ≡ node)) ⊎ (((first.node == node) ≡ false) × (first.node ≢ node)) → place_of node (first ∷ []) ≡ None
        by (inl (e, same)) = let is : first ≡ device = cc in absurd (other (sym (ap (λ (d : State). d.node) is) ∙ same))
        by (inr (e, apart)) = rw e refl
    go (first ∷ devices) (suc i) before at =
        let rest = none_in_rest (first.node == node) (place_of node (take i devices)) before in
        rw rest.0 (ap (λ o. option_map suc o) (go devices i rest.1 at))

-- none is of the node
pub place_none : {A : Type 0} (seen : A → State) (node : ℕ) (xs : List A) (i : ℕ) → length xs ≤ i → place_of node (take i (map seen xs)) ≡ None → place_of node (map seen xs) ≡ None
place_none {A = A} seen node xs i past none = subst (λ ds. place_of node ds ≡ None) (whole xs i past) none
  where
    whole : (xs : List A) (i : ℕ) → length xs ≤ i → take i (map seen xs) ≡ map seen xs
    whole [] zero past = refl
    whole [] (suc i) past = refl
    whole (x ∷ xs) zero past = absurd (omega arith)
    whole (x ∷ xs) (suc i) past = ap (λ l. seen x ∷ l) (whole xs i (omega arith))

-- one change more is told
pub change_more : (out more whole : List AirEvent) (node at at' next k k' : ℕ) → k ≡ suc k' → at ≡ at' → next ≡ at + 1 → more ≡ out ++ Changed node at' ∷ [] → out ++ changed node at k ≡ whole → more ++ changed node next k' ≡ whole
change_more out more whole node at at' next k k' left here further added told =
    ap (λ l. l ++ changed node next k') added
    ∙ (append_assoc out (Changed node at' ∷ []) (changed node next k')
    ∙ (ap (λ n. out ++ Changed node at' ∷ changed node n k') further
    ∙ (ap (λ n. out ++ Changed node n ∷ changed node (at + 1) k') (sym here)
    ∙ (sym (ap (λ n. out ++ changed node at n) left) ∙ told))))

-- a value that is put at a place of a list is seen there
pub seen_set : {A B : Type 0} (seen : A → B) (xs : List A) (i : ℕ) (y : A) → map seen (set xs i y) ≡ set (map seen xs) i (seen y)
seen_set seen [] i y = refl
seen_set seen (x ∷ xs) zero y = refl
seen_set seen (x ∷ xs) (suc i) y = ap (λ l. seen x ∷ l) (seen_set seen xs i y)
