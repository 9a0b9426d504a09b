-- Words for lists in order, and for those in which each item is judged by the ones before it. All of it is this
-- project's own.
use Rattle.std.specs.Prelude.{◌≡◌, ◌⊎◌, ℕ, ◌<◌, List, [], ◌∷◌, ◌++◌, Option, Some, None, ⊤}
use Rattle.std.specs.List.{AllByRecursion}

-- every item may stand after the items before it
abbrev pub EachAfter : {A : Type 0} → (List A → A → Type 0) → List A → List A → Type 0
EachAfter Allowed past [] = ⊤
EachAfter Allowed past (item ∷ rest) = Allowed past item × EachAfter Allowed (past ++ item ∷ []) rest

-- what the items show, in order, each judged by the ones before it
abbrev pub shown_after : {A B : Type 0} → (List A → A → List B) → List A → List A → List B
shown_after shows past [] = []
shown_after shows past (item ∷ rest) = shows past item ++ shown_after shows (past ++ item ∷ []) rest

-- the list has the item
abbrev pub Has : {A : Type 0} → List A → A → Type 0
Has [] item = ⊥
Has (first ∷ rest) item = (first ≡ item) ⊎ Has rest item

-- each number is below all that follow it
abbrev pub Rises : List ℕ → Type 0
Rises [] = ⊤
Rises (number ∷ rest) = AllByRecursion (λ later. number < later) rest × Rises rest

-- one list is the prefix of another
abbrev pub IsPrefixOf : {A : Type 0} → List A → List A → Type 0
IsPrefixOf {A} prefix whole = (rest : List A) × (whole ≡ prefix ++ rest)

-- the last of the items, else the one before them
abbrev pub last_or : {A : Type 0} → A → List A → A
last_or before [] = before
last_or before (item ∷ items) = last_or item items

-- what is there, as a list
abbrev pub listed : {A : Type 0} → Option A → List A
listed None = []
listed (Some item) = item ∷ []
