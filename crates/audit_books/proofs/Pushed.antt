-- A list of lists, of which one has grown by an item.
use Rattle.std.proofs.Common.{◌≡◌, ℕ, zero, suc, ◌<◌, List, [], ◌∷◌, ◌++◌, length, get_or, map, arith, ap, refl, sym, ◌∙◌}
use Rattle.std.proofs.Math.ListN.{set}
use Rattle.std.proofs.lemmas.List.{map-set}

at-map : {A : Type 0} (f : A → List ℕ) (l : List A) (i : ℕ) (d : A) → i < length l → get_or (map f l) i [] ≡ f (get_or l i d)
at-map f [] i d within = absurd (omega (arith, within))
at-map f (x ∷ l) zero d within = refl
at-map f (x ∷ l) (suc i) d within = at-map f l i d (omega (arith, within))

pub pushed : {A : Type 0} (f : A → List ℕ) (l : List A) (i : ℕ) (old new : A) (x : ℕ) → i < length l → old ≡ get_or l i old → f new ≡ f old ++ (x ∷ []) → map f (set l i new) ≡ set (map f l) i (get_or (map f l) i [] ++ (x ∷ []))
pushed f l i old new x within was now =
    map-set f l i new ∙ ap (λ w. set (map f l) i w) (now ∙ ap (λ z. z ++ (x ∷ [])) (ap f was ∙ sym (at-map f l i old within)))
