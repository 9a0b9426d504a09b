-- Lists in which each item is judged by the ones before it, and lists of numbers that rise.
use Rattle.std.proofs.Common.{◌≡◌, ℕ, ◌<◌, ◌==◌, Bool, true, false, if◌then◌else◌, List, [], ◌∷◌, ◌++◌, sym, subst, append_assoc, append-nil, arith, refl}
use Rattle.std.specs.List.{AllByRecursion}
use Rattle.std.proofs.lemmas.Bool.{eqb-true, eqb-false}
use Rattle.zw_base.proofs.Each.{all-append, all-both, all-left, all-right}
use Rattle.host_model.specs.host_node.Steps.{without}
use Rattle.law_transcript.specs.Lists.{EachAfter, Rises}

-- ---- each judged by those before it

pub each-append : {A : Type 0} (Allowed : List A → A → Type 0) (past xs ys : List A) → EachAfter Allowed past xs → EachAfter Allowed (past ++ xs) ys → EachAfter Allowed past (xs ++ ys)
each-append Allowed past [] ys first later = subst (λ (p : List _). EachAfter Allowed p ys) (append-nil past) later
each-append Allowed past (x ∷ xs) ys first later =
    (first.0, each-append Allowed (past ++ x ∷ []) xs ys first.1 (subst (λ (p : List _). EachAfter Allowed p ys) (sym (append_assoc past (x ∷ []) xs)) later))

pub each-weaker : {A : Type 0} (P Q : List A → A → Type 0) → ((past : List A) (x : A) → P past x → Q past x) → (past xs : List A) → EachAfter P past xs → EachAfter Q past xs
each-weaker P Q weaker past [] all = tt
each-weaker P Q weaker past (x ∷ xs) all = (weaker past x all.0, each-weaker P Q weaker (past ++ x ∷ []) xs all.1)

-- items that may stand anywhere
pub each-anywhere : {A : Type 0} (Allowed : List A → A → Type 0) (IsFree : A → Type 0) → ((past : List A) (x : A) → IsFree x → Allowed past x) → (past xs : List A) → AllByRecursion IsFree xs
    → EachAfter Allowed past xs
each-anywhere Allowed IsFree free past [] all = tt
each-anywhere Allowed IsFree free past (x ∷ xs) all = (free past x all.0, each-anywhere Allowed IsFree free (past ++ x ∷ []) xs all.1)

-- ---- all of them

-- two facts of each, and what follows from both

-- ---- numbers that rise

pub rises-left : (xs ys : List ℕ) → Rises (xs ++ ys) → Rises xs
rises-left [] ys rise = tt
rises-left (x ∷ xs) ys rise = (all-left (λ later. x < later) xs ys rise.0, rises-left xs ys rise.1)

pub rises-right : (xs ys : List ℕ) → Rises (xs ++ ys) → Rises ys
rises-right [] ys rise = rise
rises-right (x ∷ xs) ys rise = rises-right xs ys rise.1

-- what stands before a number is below it
pub below_later : (xs : List ℕ) (y : ℕ) (ys : List ℕ) → Rises (xs ++ y ∷ ys) → AllByRecursion (λ x. x < y) xs
below_later [] y ys rise = tt
below_later (x ∷ xs) y ys rise = ((all-right (λ later. x < later) xs (y ∷ ys) rise.0).0, below_later xs y ys rise.1)

-- one more that is above all
pub rises-push : (xs : List ℕ) (y : ℕ) → Rises xs → AllByRecursion (λ x. x < y) xs → Rises (xs ++ y ∷ [])
rises-push [] y rise below = (tt, tt)
rises-push (x ∷ xs) y rise below = (all-append (λ later. x < later) xs (y ∷ []) rise.0 (below.0, tt), rises-push xs y rise.1 below.1)

-- without one of them
taken_or : (P : List ℕ → Type 0) (b : Bool) (xs ys : List ℕ) → P xs → P ys → P (if b then xs else ys)
taken_or P true xs ys p q = p
taken_or P false xs ys p q = q

all-without : (P : ℕ → Type 0) (ys : List ℕ) (c : ℕ) → AllByRecursion P ys → AllByRecursion P (without ys c)
all-without P [] c all = tt
all-without P (y ∷ ys) c all = taken_or (λ l. AllByRecursion P l) (y == c) ys (y ∷ without ys c) all.1 (all.0, all-without P ys c all.1)

pub rises-without : (xs ys : List ℕ) (c : ℕ) → Rises (xs ++ ys) → Rises (xs ++ without ys c)
rises-without [] [] c rise = tt
rises-without [] (y ∷ ys) c rise =
    taken_or (λ l. Rises l) (y == c) ys (y ∷ without ys c) rise.1 (all-without (λ later. y < later) ys c rise.0, rises-without [] ys c rise.1)
rises-without (x ∷ xs) ys c rise = (
  all-append (λ later. x < later) xs (without ys c) (all-left (λ later. x < later) xs ys rise.0)
      (all-without (λ later. x < later) ys c (all-right (λ later. x < later) xs ys rise.0)),
  rises-without xs ys c rise.1,
)

-- of numbers that rise, those left are others
found_or : (P : ℕ → Type 0) (b : Bool) (y : ℕ) (ys rest : List ℕ) (c : ℕ) → (y == c) ≡ b → AllByRecursion (λ k. y < k) ys → P y → AllByRecursion P ys
    → AllByRecursion (λ k. P k × (k ≡ c → ⊥)) rest → AllByRecursion (λ k. P k × (k ≡ c → ⊥)) (if b then ys else y ∷ rest)
found_or P true y ys rest c e above here later others =
    let same : y ≡ c = eqb-true y c e in
    all-both P (λ k. y < k) (λ k. P k × (k ≡ c → ⊥)) (λ k p more. (p, λ (is : k ≡ c). omega arith)) ys later above
found_or P false y ys rest c e above here later others = ((here, eqb-false y c e), others)

pub others_left : (P : ℕ → Type 0) (ys : List ℕ) (c : ℕ) → Rises ys → AllByRecursion P ys → AllByRecursion (λ y. P y × (y ≡ c → ⊥)) (without ys c)
others_left P [] c rise all = tt
others_left P (y ∷ ys) c rise all = found_or P (y == c) y ys (without ys c) c refl rise.0 all.0 all.1 (others_left P ys c rise.1 all.1)
