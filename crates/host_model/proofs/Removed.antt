-- A number that is taken out of numbers that rise.
use Rattle.std.proofs.Common.{◌≡◌, ℕ, ◌<◌, ◌==◌, ◌||◌, Bool, true, false, not, cond, if◌then◌else◌, List, [], ◌∷◌, All, refl, sym, ap, ◌∙◌, subst, arith}
use Rattle.std.proofs.lemmas.Bool.{eqb-true}
use Rattle.std.proofs.lemmas.List.Elements.{All-head, All-tail}
use Rattle.host_keep.specs.Kept.{is_among, without}
use Rattle.host_node.specs.Steps.{without as without_first}
use Rattle.host_model.specs.Holding.{Rise}
use Rattle.host_model.proofs.Outcomes.{apart_is}

keeps : (test : Bool) (first : ℕ) (rest : List ℕ) → test ≡ false → cond (not test) (first ∷ rest) rest ≡ first ∷ rest
keeps true first rest e = cc
keeps false first rest e = refl

all_stay : (number : ℕ) (b : List ℕ) → All (λ other. number < other) b → without b number ≡ b
all_stay number [] all = refl
all_stay number (first ∷ rest) all =
    let below : number < first = All-head (λ other. number < other) first rest all in
    keeps (first == number) first (without rest number) (apart_is first number (λ e. omega arith))
    ∙ ap (λ (l : List ℕ). first ∷ l) (all_stay number rest (All-tail (λ other. number < other) first rest all))

-- to take out the first place of a number is to take out each
pub first_is_each : (b : List ℕ) (number : ℕ) → Rise b → without_first b number ≡ without b number
first_is_each [] number r = refl
first_is_each (first ∷ rest) number r = by (first == number) refl (first_is_each rest number r.1)
  where
    above : first ≡ number → All (λ other. number < other) rest
    above same = subst (λ (n : ℕ). All (λ other. n < other) rest) same r.0

    by : (t : Bool) → (first == number) ≡ t → without_first rest number ≡ without rest number
        → (if t then rest else first ∷ without_first rest number) ≡ cond (not t) (first ∷ without rest number) (without rest number)
    by true e later = sym (all_stay number rest (above (eqb-true first number e)))
    by false e later = ap (λ (l : List ℕ). first ∷ l) later

pub not_without : (b : List ℕ) (number : ℕ) → is_among (without b number) number ≡ false
not_without [] number = refl
not_without (first ∷ rest) number = by (first == number) refl (not_without rest number)
  where
    by : (t : Bool) → (first == number) ≡ t → is_among (without rest number) number ≡ false → is_among (cond (not t) (first ∷ without rest number) (without rest number)) number ≡ false
    by true e later = later
    by false e later = ap (λ (t : Bool). t || is_among (without rest number) number) e ∙ later

pub among_without : (b : List ℕ) (number other : ℕ) → (other ≡ number → ⊥) → is_among (without b number) other ≡ is_among b other
among_without [] number other apart = refl
among_without (first ∷ rest) number other apart = by (first == number) refl (among_without rest number other apart)
  where
    by : (t : Bool) → (first == number) ≡ t → is_among (without rest number) other ≡ is_among rest other
        → is_among (cond (not t) (first ∷ without rest number) (without rest number)) other ≡ ((first == other) || is_among rest other)
    by true e later = later ∙ sym (ap (λ (t : Bool). t || is_among rest other) (ap (λ (n : ℕ). n == other) (eqb-true first number e) ∙ apart_is number other apart))
    by false e later = ap (λ (t : Bool). (first == other) || t) later
