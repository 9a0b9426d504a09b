-- Lists beside lists, and what becomes of what is on its way (this project's own words).
use Rattle.std.specs.Prelude.{◌≡◌, ◌⊎◌, List, [], ◌∷◌}
use Rattle.proof_course.specs.Sessions.{Course, Step, after_all, MayAll}

-- two lists are of one length, and stand to each other one by one
abbrev pub Beside : {A B : Type 0} → (A → B → Type 0) → List A → List B → Type 0
Beside R [] [] = Unit {0}
Beside R [] (y ∷ ys) = ⊥
Beside R (x ∷ xs) [] = ⊥
Beside R (x ∷ xs) (y ∷ ys) = R x y × Beside R xs ys

-- the second list is the first, of which some items were left out, and some stand there several times in a row
abbrev pub Thinned : {X : Type 0} → List X → List X → Type 0
Thinned old [] = Unit {0}
Thinned [] (y ∷ new) = ⊥
Thinned (x ∷ old) (y ∷ new) = ((y ≡ x) × Thinned (x ∷ old) new) ⊎ Thinned old (y ∷ new)

-- steps that may be made lead from one course to another
pub record Goes (old new : Course) : Type 0 where
  pub steps : List Step
  pub may : MayAll old steps
  pub is : new ≡ after_all old steps
