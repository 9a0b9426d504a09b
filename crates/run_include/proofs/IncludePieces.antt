-- Pieces of a line.
use Rattle.std.proofs.Common.{◌≡◌, ℕ, List, [], ◌∷◌, ◌++◌, map, take, drop, refl, sym, ap, ◌∙◌, append_assoc, take-append-drop}
use Rattle.std.proofs.lemmas.List.{map-append}

-- what is there so far is a prefix of all
pub prefix_of_all : {A B : Type 0} (f : A → B) (old new : List B) (xs : List A) (i : ℕ) → new ≡ old ++ map f (take i xs)
    → (rest : List B) × (old ++ map f xs ≡ new ++ rest)
prefix_of_all f old new xs i is = (
  map f (drop i xs),
  ap (λ ys. old ++ map f ys) (sym (take-append-drop i xs)) ∙ ap (λ ys. old ++ ys) (map-append f (take i xs) (drop i xs))
      ∙ sym (append_assoc old (map f (take i xs)) (map f (drop i xs))) ∙ ap (λ ys. ys ++ map f (drop i xs)) (sym is),
)
