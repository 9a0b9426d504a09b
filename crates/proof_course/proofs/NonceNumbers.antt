-- What eight bits tell of the number of a nonce.
use Rattle.std.proofs.Common.{◌≡◌, ℕ, ◌+◌, ◌≤◌, ◌⊎◌, Bool, true, false, Some, None, refl, sym, ◌∙◌, inl, inr, arith}
use Rattle.std.specs.Prelude.{◌&&◌, ◌%◌, if◌then◌else◌, ◌==◌, nat_lt}
use Rattle.std.proofs.lemmas.Bool.{eqb-true}
use Rattle.s0_session.specs.Sending.{seen_after}
use Rattle.proof_course.specs.NodeNonces.{taken_as}

-- of 256 nonces in a row no two have one first byte
pub same_of_256 : (a b : ℕ) → a % 256 ≡ b % 256 → a ≤ b → b ≤ a + 255 → a ≡ b
same_of_256 a b e below near = omega arith

pub first_byte_of : (live same : Bool) → (live && same) ≡ true → same ≡ true
first_byte_of true same e = e
first_byte_of false same e = absurd (grind arith)

pub where_waits : (waits : Bool) (seen number found : ℕ) → taken_as waits seen number ≡ Some found → seen_after seen (number % 256) ≡ Some found
where_waits true seen number found e = e
where_waits false seen number found e = absurd (grind arith)

and_second : (a b : Bool) → (a && b) ≡ true → b ≡ true
and_second true b e = e
and_second false b e = absurd (grind arith)

-- it is taken for the last one that was seen, or for the next
by_which : (again next : Bool) (seen found : ℕ) → (if again then Some seen else (if next then Some (seen + 1) else None)) ≡ Some found
    → ((again ≡ true) × (found ≡ seen)) ⊎ ((next ≡ true) × (found ≡ seen + 1))
by_which true next seen found e = inl (refl, grind arith)
by_which false true seen found e = inr (refl, grind arith)
by_which false false seen found e = absurd (grind arith)

last_seen : (number seen : ℕ) → number % 256 ≡ seen % 256 → number ≤ seen + 1 → seen ≤ number + 120 → number ≡ seen
last_seen number seen e below near = omega arith

next_seen : (number seen : ℕ) → number % 256 ≡ (seen + 1) % 256 → number ≤ seen + 1 → seen ≤ number + 120 → number ≡ seen + 1
next_seen number seen e below near = omega arith

-- what the host takes a nonce for is that nonce, and the last one that it saw or the next
pub record IsTakenFor (seen number found : ℕ) : Type 0 where
  pub itself : found ≡ number
  pub last_or_next : (number ≡ seen) ⊎ (number ≡ seen + 1)

pub is_taken_for : (seen number found : ℕ) → number ≤ seen + 1 → seen ≤ number + 120 → seen_after seen (number % 256) ≡ Some found → IsTakenFor seen number found
is_taken_for seen number found below near e =
    elim (by_which (nat_lt 0 seen && (number % 256 == seen % 256)) (number % 256 == (seen + 1) % 256) seen found e) [
      | inl last ↦
          let same : number ≡ seen = last_seen number seen (eqb-true (number % 256) (seen % 256) (and_second (nat_lt 0 seen) (number % 256 == seen % 256) last.0)) below near in
          record { itself = last.1 ∙ sym same; last_or_next = inl same }
      | inr next ↦
          let same : number ≡ seen + 1 = next_seen number seen (eqb-true (number % 256) ((seen + 1) % 256) next.0) below near in
          record { itself = next.1 ∙ sym same; last_or_next = inr same }
    ]

pub seen_grows : (seen number : ℕ) → (number ≡ seen) ⊎ (number ≡ seen + 1) → seen ≤ number
seen_grows seen number (inl same) = omega arith
seen_grows seen number (inr next) = omega arith
