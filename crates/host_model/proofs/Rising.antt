-- Numbers that rise: one more at the end, some fewer, and that none of them stands twice.
use Rattle.std.proofs.Common.{◌≡◌, ℕ, ◌<◌, ◌==◌, ◌||◌, Bool, true, false, cond, List, [], ◌∷◌, ◌++◌, All, refl, ap, ◌∙◌, subst, arith}
use Rattle.std.specs.Prelude.{filter}
use Rattle.std.proofs.lemmas.Bool.{eqb-true}
use Rattle.std.proofs.lemmas.List.Elements.{All-nil, All-cons, All-head, All-tail, All-push, All-append, All-filter}
use Rattle.host_keep.specs.Kept.{is_among, without}
use Rattle.host_model.specs.Holding.{Rise}

pub all-left : (P : ℕ → Type 0) (a b : List ℕ) → All P (a ++ b) → All P a
all-left P [] b all = All-nil P
all-left P (first ∷ rest) b all = All-cons P first rest (All-head P first (rest ++ b) all) (all-left P rest b (All-tail P first (rest ++ b) all))

pub all-right : (P : ℕ → Type 0) (a b : List ℕ) → All P (a ++ b) → All P b
all-right P [] b all = all
all-right P (first ∷ rest) b all = all-right P rest b (All-tail P first (rest ++ b) all)

pub rise-push : (numbers : List ℕ) (last : ℕ) → All (λ other. other < last) numbers → Rise numbers → Rise (numbers ++ last ∷ [])
rise-push [] last all r = (All-nil (λ other. last < other), tt)
rise-push (first ∷ rest) last all r = (
  All-push (λ other. first < other) rest last r.0 (All-head (λ other. other < last) first rest all),
  rise-push rest last (All-tail (λ other. other < last) first rest all) r.1,
)

pub rise-left : (a b : List ℕ) → Rise (a ++ b) → Rise a
rise-left [] b r = tt
rise-left (first ∷ rest) b r = (all-left (λ other. first < other) rest b r.0, rise-left rest b r.1)

pub rise-right : (a b : List ℕ) → Rise (a ++ b) → Rise b
rise-right [] b r = r
rise-right (first ∷ rest) b r = rise-right rest b r.1

either : (b : Bool) (x y : List ℕ) → Rise x → Rise y → Rise (cond b x y)
either true x y p q = p
either false x y p q = q

rise-filter : (test : ℕ → Bool) (b : List ℕ) → Rise b → Rise (filter test b)
rise-filter test [] r = tt
rise-filter test (first ∷ rest) r =
    either (test first) (first ∷ filter test rest) (filter test rest) (All-filter test (λ other. first < other) rest r.0, rise-filter test rest r.1) (rise-filter test rest r.1)

pub rise-without : (a b : List ℕ) (number : ℕ) → Rise (a ++ b) → Rise (a ++ without b number)
rise-without [] b number r = rise-filter _ b r
rise-without (first ∷ rest) b number r = (
  All-append (λ other. first < other) rest (without b number) (all-left (λ other. first < other) rest b r.0)
      (All-filter _ (λ other. first < other) b (all-right (λ other. first < other) rest b r.0)),
  rise-without rest b number r.1,
)

-- ---- what stands among them

other_number : (a b : ℕ) → b < a → (a == b) ≡ false
other_number a b below = by (a == b) refl
  where
    by : (t : Bool) → (a == b) ≡ t → t ≡ false
    by true e = let same = eqb-true a b e in absurd (omega arith)
    by false e = refl

pub not_below : (number : ℕ) (b : List ℕ) → All (λ other. number < other) b → is_among b number ≡ false
not_below number [] all = refl
not_below number (first ∷ rest) all =
    ap (λ (t : Bool). t || is_among rest number) (other_number first number (All-head (λ other. number < other) first rest all))
    ∙ not_below number rest (All-tail (λ other. number < other) first rest all)

-- none of the first ones is among the later ones
pub not_later : (a b : List ℕ) (number : ℕ) → Rise (a ++ b) → is_among a number ≡ true → is_among b number ≡ false
not_later [] b number r e = cc
not_later (first ∷ rest) b number r e = by (first == number) refl e (not_later rest b number r.1)
  where
    above : first ≡ number → All (λ other. number < other) (rest ++ b)
    above same = subst (λ (n : ℕ). All (λ other. n < other) (rest ++ b)) same r.0

    by : (t : Bool) → (first == number) ≡ t → (t || is_among rest number) ≡ true → (is_among rest number ≡ true → is_among b number ≡ false) → is_among b number ≡ false
    by true same f later = not_below number b (all-right (λ other. number < other) rest b (above (eqb-true first number same)))
    by false same f later = later f

pub not_sooner : (a b : List ℕ) (number : ℕ) → Rise (a ++ b) → is_among b number ≡ true → is_among a number ≡ false
not_sooner a b number r e = by (is_among a number) refl
  where
    by : (t : Bool) → is_among a number ≡ t → t ≡ false
    by true there = let f = not_later a b number r there in cc
    by false there = refl
