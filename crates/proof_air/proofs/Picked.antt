-- Items that are picked of a list, in order.
use Rattle.std.proofs.Common.{inl, inr, List, [], ◌∷◌, ◌++◌, refl, ◌∙◌}
use Rattle.law_wire.specs.law_transcript.Carrying.{ArePicked}

pub picked_skip : {A : Type 0} (xs : List A) (y : A) (ys : List A) → ArePicked xs ys → ArePicked xs (y ∷ ys)
picked_skip [] y ys are = tt
picked_skip (x ∷ xs) y ys are = inr are

pub picked_same : {A : Type 0} (xs : List A) → ArePicked xs xs
picked_same [] = tt
picked_same (x ∷ xs) = inl (refl, picked_same xs)

pub picked_both : {A : Type 0} (xs more ys later : List A) → ArePicked xs ys → ArePicked more later → ArePicked (xs ++ more) (ys ++ later)
picked_both [] more [] later one two = two
picked_both [] more (y ∷ ys) later one two = picked_skip more y (ys ++ later) (picked_both [] more ys later tt two)
picked_both (x ∷ xs) more [] later one two = absurd one
picked_both (x ∷ xs) more (y ∷ ys) later (inl here) two = inl (here.0, picked_both xs more ys later here.1 two)
picked_both (x ∷ xs) more (y ∷ ys) later (inr there) two = inr (picked_both (x ∷ xs) more ys later there two)

pub picked_prefix : {A : Type 0} (xs more ys : List A) → ArePicked (xs ++ more) ys → ArePicked xs ys
picked_prefix [] more ys are = tt
picked_prefix (x ∷ xs) more [] are = absurd are
picked_prefix (x ∷ xs) more (y ∷ ys) (inl here) = inl (here.0, picked_prefix xs more ys here.1)
picked_prefix (x ∷ xs) more (y ∷ ys) (inr there) = inr (picked_prefix (x ∷ xs) more ys there)

pub picked_of : {A : Type 0} (xs ys zs : List A) → ArePicked xs ys → ArePicked ys zs → ArePicked xs zs
picked_of [] ys zs one two = tt
picked_of (x ∷ xs) [] zs one two = absurd one
picked_of (x ∷ xs) (y ∷ ys) [] one two = absurd two
picked_of (x ∷ xs) (y ∷ ys) (z ∷ zs) (inl one) (inl two) = inl (one.0 ∙ two.0, picked_of xs ys zs one.1 two.1)
picked_of (x ∷ xs) (y ∷ ys) (z ∷ zs) (inr one) (inl two) = inr (picked_of (x ∷ xs) ys zs one two.1)
picked_of (x ∷ xs) (y ∷ ys) (z ∷ zs) one (inr two) = inr (picked_of (x ∷ xs) (y ∷ ys) zs one two)

-- with more items to pick from
pub picked_more : {A : Type 0} (xs ys more : List A) → ArePicked xs ys → ArePicked xs (ys ++ more)
picked_more [] ys more are = tt
picked_more (x ∷ xs) [] more are = absurd are
picked_more (x ∷ xs) (y ∷ ys) more (inl here) = inl (here.0, picked_more xs ys more here.1)
picked_more (x ∷ xs) (y ∷ ys) more (inr there) = inr (picked_more (x ∷ xs) ys more there)
