-- Parts of lists, and what rising numbers pick (this project's own words).
use Rattle.std.specs.Prelude.{◌≡◌, ◌⊎◌, ℕ, zero, suc, ◌<◌, ◌+◌, ◌==◌, if◌then◌else◌, List, [], ◌∷◌}
use Rattle.std.specs.List.{AllByRecursion, flat_map}
use Rattle.supervision.specs.declared.session.TheConstants.{SUCCESS}

-- the items of one list stand in the other in the same order, perhaps with others between
abbrev pub IsPart : {A : Type 0} → List A → List A → Type 0
IsPart [] whole = Unit {0}
IsPart (item ∷ part) [] = ⊥
IsPart (item ∷ part) (first ∷ whole) = ((item ≡ first) × IsPart part whole) ⊎ IsPart (item ∷ part) whole

-- the list has the item
abbrev pub Has : {A : Type 0} → List A → A → Type 0
Has [] item = ⊥
Has (first ∷ more) item = (first ≡ item) ⊎ Has more item

-- each number is below all that follow it
abbrev pub Rises : List ℕ → Type 0
Rises [] = Unit {0}
Rises (number ∷ more) = AllByRecursion (λ later. number < later) more × Rises more

-- the item of a number, where the first has number 1
abbrev pub numbered : {A : Type 0} → List A → ℕ → List A
numbered items zero = []
numbered [] (suc before) = []
numbered (item ∷ items) (suc zero) = item ∷ []
numbered (item ∷ items) (suc (suc before)) = numbered items (suc before)

-- the items of these numbers, in the order of the numbers
abbrev pub picked : {A : Type 0} → List A → List ℕ → List A
picked items numbers = flat_map (λ number. numbered items number) numbers

-- the numbers of those statuses that are success, counted on from this one
abbrev pub successes : ℕ → List ℕ → List ℕ
successes at [] = []
successes at (status ∷ more) = if status == SUCCESS then at ∷ successes (at + 1) more else successes (at + 1) more
