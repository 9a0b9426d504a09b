-- A text is cut at its first line feed in one way, and begins with the line of one entry.
use Rattle.std.proofs.Common.{◌≡◌, ℕ, ◌+◌, cond, eqb, List, [], ◌∷◌, ◌++◌, arith, ap, ap₂, refl, sym, subst, ◌∙◌}
use Rattle.std.proofs.lemmas.List.Sums.{sum_by-cons}
use Rattle.zw_text.specs.declared.entry.Entry.{Entry}
use Rattle.zw_text.specs.Fits.{feeds}
use Rattle.audit_books.specs.Lines.{IsNext}

abbrev head_or : ℕ → List ℕ → ℕ
head_or d [] = d
head_or d (x ∷ xs) = x

abbrev tail_of : List ℕ → List ℕ
tail_of [] = []
tail_of (x ∷ xs) = xs

-- a text that begins with a line feed has one
has_feed : (x : ℕ) (xs : List ℕ) → 10 ≡ x → feeds (x ∷ xs) ≡ 0 → ⊥
has_feed x xs is none =
    let one : feeds (10 ∷ xs) ≡ 1 + feeds xs = sum_by-cons (λ y. cond (eqb y 10) 1 0) 10 xs in
    let F : ℕ → Type 0 = λ y. feeds (y ∷ xs) ≡ 0 in
    let none_here : feeds (10 ∷ xs) ≡ 0 = subst F (sym is) none in
    omega (arith, one, none_here)

-- and one without feeds leaves a rest without
rest_lacks : (x : ℕ) (xs : List ℕ) → feeds (x ∷ xs) ≡ 0 → feeds xs ≡ 0
rest_lacks x xs none = omega (arith, sum_by-cons (λ y. cond (eqb y 10) 1 0) x xs, none)

pub cut-once : (l m r s : List ℕ) → feeds l ≡ 0 → feeds m ≡ 0 → l ++ (10 ∷ r) ≡ m ++ (10 ∷ s) → l ≡ m
cut-once [] [] r s a b e = refl
cut-once [] (y ∷ m) r s a b e = absurd (has_feed y m (ap (head_or 0) e) b)
cut-once (x ∷ l) [] r s a b e = absurd (has_feed x l (sym (ap (head_or 0) e)) a)
cut-once (x ∷ l) (y ∷ m) r s a b e = ap₂ ◌∷◌ (ap (head_or 0) e) (cut-once l m r s (rest_lacks x l a) (rest_lacks y m b) (ap tail_of e))

pub rest-once : (l m r s : List ℕ) → feeds l ≡ 0 → feeds m ≡ 0 → l ++ (10 ∷ r) ≡ m ++ (10 ∷ s) → r ≡ s
rest-once [] [] r s a b e = ap tail_of e
rest-once [] (y ∷ m) r s a b e = absurd (has_feed y m (ap (head_or 0) e) b)
rest-once (x ∷ l) [] r s a b e = absurd (has_feed x l (sym (ap (head_or 0) e)) a)
rest-once (x ∷ l) (y ∷ m) r s a b e = rest-once l m r s (rest_lacks x l a) (rest_lacks y m b) (ap tail_of e)

-- the entry of the first line, and what is after it
pub next-entry : (text : List ℕ) (a b : Entry) (r s : List ℕ) → IsNext text a r → IsNext text b s → a ≡ b
next-entry text a b r s x y = x.only b y.is (cut-once _ _ r s x.feeds_none y.feeds_none (sym x.line ∙ y.line))

pub next-rest : (text : List ℕ) (a b : Entry) (r s : List ℕ) → IsNext text a r → IsNext text b s → r ≡ s
next-rest text a b r s x y = rest-once _ _ r s x.feeds_none y.feeds_none (sym x.line ∙ y.line)
