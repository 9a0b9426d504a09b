-- Two payloads may be brought in the order in which they were heard, and in no other; a later copy of a frame brings nothing more.
use Rattle.std.proofs.Common.{◌≡◌, ℕ, List, [], ◌∷◌, ap, refl, inl, inr, arith}
use Rattle.law_transcript.specs.Units.{Carried}
use Rattle.law_transcript.proofs.Computing.{computing}
use Rattle.proof_chip.proofs.worked.worked_bringing.Goals as goal

-- the last byte of a payload
abbrev last_byte : ℕ → List ℕ → ℕ
last_byte before [] = before
last_byte before (byte ∷ bytes) = last_byte byte bytes

on_off : ◌≡◌ {A = ℕ} 255 0 → ⊥
on_off e = omega (arith, e)

off_on : ◌≡◌ {A = ℕ} 0 255 → ⊥
off_on e = omega (arith, e)

pub returns-clause-in_order : goal.returns-clause-in_order
unfolding computing
returns-clause-in_order c = (tt, (tt, (tt, (tt, (tt, (inl (refl, tt), (inl (refl, inl (refl, tt)), tt)))))))

pub returns-clause-copied : goal.returns-clause-copied
unfolding computing
returns-clause-copied c = (tt, (tt, (tt, (tt, (tt, (inl (refl, tt), (tt, tt)))))))

pub returns-clause-backwards : goal.returns-clause-backwards
unfolding computing
returns-clause-backwards c = λ law. elim (law.1.1.1.1.1.1.0) [
  | inl first ↦ on_off (ap (λ (carried : Carried). last_byte 0 carried.payload) first.0)
  | inr (inl second) ↦ second.1
  | inr (inr never) ↦ never
]

pub returns-clause-twice : goal.returns-clause-twice
unfolding computing
returns-clause-twice c = λ law. elim (law.1.1.1.1.1.1.0) [
  | inl first ↦ elim (first.1) [
    | inl second ↦ off_on (ap (λ (carried : Carried). last_byte 0 carried.payload) second.0)
    | inr never ↦ never
  ]
  | inr (inl second) ↦ off_on (ap (λ (carried : Carried). last_byte 0 carried.payload) second.0)
  | inr (inr never) ↦ never
]
