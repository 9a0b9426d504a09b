-- Texts without wraps, and how bytes begin.
use Rattle.std.proofs.Common.{◌≡◌, ◌≢◌, ℕ, ◌≤◌, inl, inr, Bool, true, false, ◌&&◌, Some, None, List, [], ◌∷◌, refl, arith}
use Rattle.encap.specs.Begins.{IsMisplaced}
use Rattle.encap.specs.Wraps.{IsCommand}
use Rattle.encap.specs.Opening.{opened_at}
use Rattle.encap.specs.declared.plan.Plan.{Plan}
use Rattle.encap.specs.declared.plan.Outer.TheVariants.{None as no_outer}
use Rattle.encap.proofs.OpenedLemmas.{opened_there}

-- ---- a bare text

abbrev pub bare : Plan
bare = record { batch = false; session = None; channel = None; outer = no_outer }

pub bare_opens : (text : List ℕ) → IsCommand false text → opened_at text ≡ Some (record { plan = bare; commands = text ∷ [] })
bare_opens text is =
    opened_there bare (text ∷ []) text (record { batched = text; supervised = text; addressed = text; plain = (is, tt); batches = refl; supervises = refl; addresses = refl; checks = refl })

pub bare_command : (class : ℕ) (rest : List ℕ) → class ≢ 143 → class ≢ 108 → class ≢ 96 → class ≢ 86 → IsCommand false (class ∷ rest)
bare_command class rest a b c d = record { some = omega arith; placed = placed }
  where
    placed : IsMisplaced false (class ∷ rest) → ⊥
    placed (inl (inl is)) = a is.class_is
    placed (inl (inr (inl is))) = b is.class_is
    placed (inl (inr (inr (inl is)))) = c is.class_is
    placed (inl (inr (inr (inr is)))) = d is.class_is
    placed (inr (inside, is)) = let bad : false ≡ true = inside in cc

-- a text of a class above 143 or from 109 to 142, or below 86
pub high_command : (class : ℕ) (rest : List ℕ) → 144 ≤ class → IsCommand false (class ∷ rest)
high_command class rest high =
    bare_command class rest (λ e. absurd (omega (arith, e, high))) (λ e. absurd (omega (arith, e, high))) (λ e. absurd (omega (arith, e, high))) (λ e. absurd (omega (arith, e, high)))

pub middle_command : (class : ℕ) (rest : List ℕ) → 109 ≤ class → class ≤ 142 → IsCommand false (class ∷ rest)
middle_command class rest low high =
    bare_command class rest (λ e. absurd (omega (arith, e, high))) (λ e. absurd (omega (arith, e, low))) (λ e. absurd (omega (arith, e, low))) (λ e. absurd (omega (arith, e, low)))

pub low_command : (class : ℕ) (rest : List ℕ) → class ≤ 85 → IsCommand false (class ∷ rest)
low_command class rest low =
    bare_command class rest (λ e. absurd (omega (arith, e, low))) (λ e. absurd (omega (arith, e, low))) (λ e. absurd (omega (arith, e, low))) (λ e. absurd (omega (arith, e, low)))

pub never_begins : (a b : Bool) → (a && false) && b ≡ false
never_begins true b = refl
never_begins false b = refl
