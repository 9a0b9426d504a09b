-- Pieces of a line of events.
use Rattle.std.proofs.Common.{◌≡◌, ℕ, List, [], ◌∷◌, ◌++◌, map, take, drop, sym, ap, ◌∙◌, append_assoc, take-append-drop}
use Rattle.std.proofs.lemmas.List.{map-append}

-- what is there so far is a prefix of all
pub prefix_of_all : {A B : Type 0} (f : A → B) (old new : List B) (xs : List A) (i : ℕ) → new ≡ old ++ map f (take i xs)
    → (rest : List B) × (old ++ map f xs ≡ new ++ rest)
prefix_of_all f old new xs i is = (
  map f (drop i xs),
  ap (λ ys. old ++ map f ys) (sym (take-append-drop i xs)) ∙ ap (λ ys. old ++ ys) (map-append f (take i xs) (drop i xs))
      ∙ sym (append_assoc old (map f (take i xs)) (map f (drop i xs))) ∙ ap (λ ys. ys ++ map f (drop i xs)) (sym is),
)

-- nothing is there yet
pub all_left : {B : Type 0} (items all : List B) → items ≡ [] → (rest : List B) × (all ≡ items ++ rest)
all_left items all none = (all, ap (λ ys. ys ++ all) (sym none))

-- the first is there
pub first_there : {B : Type 0} (old items more : List B) (x : B) → old ≡ [] → items ≡ old ++ x ∷ [] → (rest : List B) × (x ∷ more ≡ items ++ rest)
first_there old items more x none is = (more, ap (λ ys. ys ++ more) (sym (is ∙ ap (λ ys. ys ++ x ∷ []) none)))

-- a prefix after the first
pub leading_following : {B : Type 0} (old mid items more : List B) (x : B) → old ≡ [] → mid ≡ old ++ x ∷ [] → (rest : List B) × (mid ++ more ≡ items ++ rest)
    → (rest : List B) × (x ∷ more ≡ items ++ rest)
leading_following old mid items more x none is prefix = (prefix.0, ap (λ ys. ys ++ more) (sym (is ∙ ap (λ ys. ys ++ x ∷ []) none)) ∙ prefix.1)
