use Rattle.std.proofs.Common.{◌≡◌, ℕ, List, [], refl, sym, ap, ◌∙◌, inl, inr, arith}
use Rattle.std.specs.Prelude.{slice_index}
use Rattle.law_wire.specs.Asked.{Sending}
use Rattle.law_wire.proofs.Computing.{reckoning}
use Rattle.law_wire.proofs.Walks.{direct, cannot_tell}
use Rattle.law_wire.proofs.chip.rejected_chip.Goals as goal

-- the byte at a place
abbrev byte_at : ℕ → List ℕ → ℕ
byte_at place bytes = slice_index bytes place

zero_one : ◌≡◌ {A = ℕ} 0 1 → ⊥
zero_one e = omega (arith, e)

zero_four : ◌≡◌ {A = ℕ} 0 4 → ⊥
zero_four e = omega (arith, e)

two_one : ◌≡◌ {A = ℕ} 2 1 → ⊥
two_one e = omega (arith, e)

on_off : ◌≡◌ {A = ℕ} 255 0 → ⊥
on_off e = omega (arith, e)

six_thirteen : ◌≡◌ {A = ℕ} 6 13 → ⊥
six_thirteen e = omega (arith, e)

thirteen_six : ◌≡◌ {A = ℕ} 13 6 → ⊥
thirteen_six e = omega (arith, e)

pub returns-clause-back : goal.returns-clause-back
unfolding reckoning
returns-clause-back c = λ law. law.1.1.1.1.1.1.0.0 [] (direct _ _ 2 refl).walk

pub returns-clause-otherwise : goal.returns-clause-otherwise
unfolding reckoning
returns-clause-otherwise c = λ law. elim law.1.1.1.1.1.1.0.taken [
  | inl same ↦ on_off (ap (λ (sending : Sending). byte_at 6 sending.payload) same ∙ ap (byte_at 6) law.1.1.1.1.1.1.0.with_payload)
  | inr never ↦ never
]

pub returns-clause-again : goal.returns-clause-again
unfolding reckoning
returns-clause-again c = λ law. law.1.1.1.1.1.1.1.0.taken

pub returns-clause-refused : goal.returns-clause-refused
unfolding reckoning
returns-clause-refused c = λ law. zero_one (ap (byte_at 4) law.1.1.1.1.1.0.0)

pub returns-clause-called : goal.returns-clause-called
unfolding reckoning
returns-clause-called c = λ law. zero_one (sym (ap (byte_at 5) law.1.1.1.1.1.1.1.1.1.1.1.1.1.0.1.0))

pub returns-clause-early : goal.returns-clause-early
unfolding reckoning
returns-clause-early c = λ law. law.1.1.1.1.1.1.1.1.1.1.0.1

pub returns-clause-brought : goal.returns-clause-brought
unfolding reckoning
returns-clause-brought c = λ law. two_one (ap (byte_at 9) law.1.1.1.1.1.1.1.1.1.1.1.1.1.1.1.1.1.0.1.1.0)

pub returns-clause-nowhere : goal.returns-clause-nowhere
unfolding reckoning
returns-clause-nowhere c = λ law. zero_four (ap (byte_at 5) law.1.1.1.1.1.1.1.1.1.1.1.1.1.1.1.0.1.1.0)

pub returns-clause-afar : goal.returns-clause-afar
unfolding reckoning
returns-clause-afar c = λ law. elim law.1.1.1.1.1.1.1.1.1.1.1.1.0.1.1.0 [
  | inl told ↦ cannot_tell _ told.0.way told.0.route
  | inr failed ↦ thirteen_six (ap (byte_at 1) failed.1)
]

pub returns-clause-full : goal.returns-clause-full
unfolding reckoning
returns-clause-full c = λ law. omega (arith, law.1.1.1.1.1.1.1.1.1.1.1.1.1.0)

pub returns-clause-untold : goal.returns-clause-untold
unfolding reckoning
returns-clause-untold c = λ law. elim law.1.1.1.1.1.1.1.1.1.1.1.1.1.1.1.1.1.1.1.0.1.1.1.0 [
  | inl told ↦ six_thirteen (ap (byte_at 1) told.1)
  | inr failed ↦ failed.0 (record { joined = refl; way = []; route = (direct _ _ 5 refl).walk; awake = refl })
]

pub returns-clause-busy : goal.returns-clause-busy
unfolding reckoning
returns-clause-busy c = λ law. zero_one (sym (ap (byte_at 4) law.1.1.1.1.1.1.1.1.1.1.1.0.1.0))

pub returns-clause-twice : goal.returns-clause-twice
unfolding reckoning
returns-clause-twice c = λ law. law.1.1.1.1.1.1.1.1.1.1.1.1.1.1.1.1.1.0.1.1

three_two : ◌≡◌ {A = ℕ} 3 2 → ⊥
three_two e = omega (arith, e)

pub returns-clause-neighbour : goal.returns-clause-neighbour
unfolding reckoning
returns-clause-neighbour c = λ law. three_two (ap (byte_at 4) law.1.1.1.1.1.1.1.1.1.1.0.1.0)

pub returns-clause-healthy : goal.returns-clause-healthy
unfolding reckoning
returns-clause-healthy c = λ law. zero_one (sym (ap (byte_at 4) law.1.1.1.1.1.1.1.1.1.1.1.1.1.1.1.1.0.1.1.0))

five_eleven : ◌≡◌ {A = ℕ} 5 11 → ⊥
five_eleven e = omega (arith, e)

pub returns-clause-anew : goal.returns-clause-anew
unfolding reckoning
returns-clause-anew c = λ law. five_eleven (ap (byte_at 1) law.1.1.1.1.1.1.1.1.1.1.1.1.1.1.1.1.1.1.1.1.0.1.1.0)

two_three : ◌≡◌ {A = ℕ} 2 3 → ⊥
two_three e = omega (arith, e)

pub returns-clause-to_another : goal.returns-clause-to_another
unfolding reckoning
returns-clause-to_another c = λ law. elim law.1.1.1.1.1.1.0.taken [
  | inl same ↦ two_three (ap (λ (sending : Sending). sending.node) same ∙ law.1.1.1.1.1.1.0.to_node)
  | inr never ↦ never
]

pub returns-clause-left_out : goal.returns-clause-left_out
unfolding reckoning
returns-clause-left_out c = λ law. five_eleven (sym (ap (byte_at 1) law.1.1.1.1.1.1.1.1.1.1.1.1.1.1.1.0.1.0))
