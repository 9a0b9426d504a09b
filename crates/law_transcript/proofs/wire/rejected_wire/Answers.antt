use Rattle.std.proofs.Common.{◌≡◌, ℕ, List, [], ◌∷◌, ap, inl, inr, arith}
use Rattle.law_transcript.specs.Units.{Carried}
use Rattle.law_transcript.proofs.Computing.{computing}
use Rattle.law_transcript.proofs.wire.rejected_wire.Goals as goal

-- the last byte of a payload
abbrev last_byte : ℕ → List ℕ → ℕ
last_byte before [] = before
last_byte before (byte ∷ bytes) = last_byte byte bytes

on_off : ◌≡◌ {A = ℕ} 255 0 → ⊥
on_off e = omega (arith, e)

off_on : ◌≡◌ {A = ℕ} 0 255 → ⊥
off_on e = omega (arith, e)

two_one : ◌≡◌ {A = ℕ} 2 1 → ⊥
two_one e = omega (arith, e)

pub returns-clause-aired : goal.returns-clause-aired
unfolding computing
returns-clause-aired c = λ law. elim law.1.1.1.1.1.1.0 [ inl picked ↦ off_on (ap (λ (carried : Carried). last_byte 0 carried.payload) picked.0) | inr never ↦ never ]

pub returns-clause-twice : goal.returns-clause-twice
unfolding computing
returns-clause-twice c = λ law. elim law.1.1.1.1.1.1.1.0 [ inl picked ↦ picked.1 | inr never ↦ never ]

pub returns-clause-brought : goal.returns-clause-brought
unfolding computing
returns-clause-brought c = λ law. law.1.1.1.1.1.1.1.1.1.1.1.1.1.0.0

pub returns-clause-silently : goal.returns-clause-silently
unfolding computing
returns-clause-silently c = λ law. law.1.1.1.0

three_two : ◌≡◌ {A = ℕ} 3 2 → ⊥
three_two e = omega (arith, e)

pub returns-clause-elsewhere : goal.returns-clause-elsewhere
unfolding computing
returns-clause-elsewhere c = λ law. three_two law.1.1.1.0

-- the frame of the second unit is none of the first
pub returns-clause-backwards : goal.returns-clause-backwards
unfolding computing
returns-clause-backwards c = λ law. elim (law.1.1.1.0) [
  | inl first ↦ two_one (ap (λ (carried : Carried). last_byte 0 carried.payload) first.0)
  | inr (inl second) ↦ second.1
  | inr (inr never) ↦ never
]

pub returns-clause-aired_elsewhere : goal.returns-clause-aired_elsewhere
unfolding computing
returns-clause-aired_elsewhere c = λ law. elim law.1.0 [ inl picked ↦ three_two (ap (λ (carried : Carried). carried.node) picked.0) | inr never ↦ never ]

pub returns-clause-lost : goal.returns-clause-lost
unfolding computing
returns-clause-lost c = λ law. law.1.1.0

pub returns-clause-written : goal.returns-clause-written
unfolding computing
returns-clause-written c = λ law. elim law.1.1.0 [ inl picked ↦ on_off (ap (λ (carried : Carried). last_byte 0 carried.payload) picked.0) | inr never ↦ never ]

pub returns-clause-garbled : goal.returns-clause-garbled
unfolding computing
returns-clause-garbled c = λ law. law.1.1.0

pub returns-clause-brought_otherwise : goal.returns-clause-brought_otherwise
unfolding computing
returns-clause-brought_otherwise c = λ law. elim law.1.1.1.0.0 [ inl picked ↦ off_on (ap (λ (carried : Carried). last_byte 0 carried.payload) picked.0) | inr never ↦ never ]

pub returns-clause-brought_of_another : goal.returns-clause-brought_of_another
unfolding computing
returns-clause-brought_of_another c = λ law. elim law.1.1.1.0.0 [ inl picked ↦ three_two (ap (λ (carried : Carried). carried.node) picked.0) | inr never ↦ never ]

pub returns-clause-brought_back : goal.returns-clause-brought_back
unfolding computing
returns-clause-brought_back c = λ law. law.1.1.1.0.0

pub returns-clause-emptily : goal.returns-clause-emptily
unfolding computing
returns-clause-emptily c = λ law. law.1.1.1.0
