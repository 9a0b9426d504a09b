-- Pieces that grow, entry by entry.
use Rattle.std.proofs.Common.{◌≡◌, ℕ, List, [], ◌++◌, take, drop, Result, Ok, Err, OnOk, OnErr, sym, ap, ◌∙◌, append_assoc, append-nil, take-append-drop}
use Rattle.std.specs.List.{flat_map}
use Rattle.std.proofs.lemmas.Grind.{flat_map-append}

-- what is there so far is a prefix of all
pub prefix_of_flat : {A B : Type 0} (f : A → List B) (old new : List B) (xs : List A) (i : ℕ) → new ≡ old ++ flat_map f (take i xs)
    → (rest : List B) × (old ++ flat_map f xs ≡ new ++ rest)
prefix_of_flat f old new xs i is = (
  flat_map f (drop i xs),
  ap (λ ys. old ++ flat_map f ys) (sym (take-append-drop i xs)) ∙ ap (λ ys. old ++ ys) (flat_map-append f (take i xs) (drop i xs))
      ∙ sym (append_assoc old (flat_map f (take i xs)) (flat_map f (drop i xs))) ∙ ap (λ ys. ys ++ flat_map f (drop i xs)) (sym is),
)

-- all of it was added, or a prefix of it
pub prefix_any : {T E B : Type 0} (r : Result T E) (old more new : List B) → OnOk r (new ≡ old ++ more) → OnErr r ((rest : List B) × (old ++ more ≡ new ++ rest))
    → (rest : List B) × (old ++ more ≡ new ++ rest)
prefix_any (Ok x) old more new all prefix = ([], sym all ∙ sym (append-nil new))
prefix_any (Err e) old more new all prefix = prefix

-- what follows at an answer
pub on_ok : {T E : Type 0} (r : Result T E) (P Q : Type 0) → (P → Q) → OnOk r P → OnOk r Q
on_ok (Ok x) P Q f p = f p
on_ok (Err e) P Q f p = tt
