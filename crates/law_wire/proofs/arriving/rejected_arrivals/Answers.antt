use Rattle.std.proofs.Common.{◌≡◌, ℕ, true, false, List, [], ◌∷◌, refl, ap, arith}
use Rattle.zw_words.specs.declared.side.Side.TheVariants.{Chip}
use Rattle.zw_text.specs.declared.entry.Entry.{Entry}
use Rattle.zw_text.specs.declared.entry.Entry.TheVariants.{Said, Written, Forget, Heard}
use Rattle.zw_text.specs.Transcript.{Fate}
use Rattle.zw_text.specs.Transcript.Fate.{WasHeard, WasLost, WasUnheard}
use Rattle.law_wire.proofs.Computing.{reckoning}
use Rattle.law_wire.proofs.arriving.rejected_arrivals.Goals as goal

heard_lost : ◌≡◌ {A = List Fate} (WasHeard ∷ []) (WasLost ∷ []) → ⊥
heard_lost e = cc

heard_unheard : ◌≡◌ {A = List Fate} (WasHeard ∷ []) (WasUnheard ∷ []) → ⊥
heard_unheard e = cc

unheard_heard : ◌≡◌ {A = List Fate} (WasUnheard ∷ []) (WasHeard ∷ []) → ⊥
unheard_heard e = cc

lost_heard : ◌≡◌ {A = List Fate} (WasLost ∷ []) (WasHeard ∷ []) → ⊥
lost_heard e = cc

pub_kept : (unit : List ℕ) (a b : ℕ) → Written Chip unit ≡ Forget a b → ⊥
pub_kept unit a b e = cc

said_heard : (words : List ℕ) (frame : ℕ) → Said words ≡ Heard frame → ⊥
said_heard words frame e = cc

-- the second node of a forgotten hop
abbrev second_of : Entry → ℕ
second_of (Forget a b) = b
second_of _ = 0

ten_two : ◌≡◌ {A = ℕ} 2 10 → ⊥
ten_two e = omega (arith, e)

hops_differ : Forget 1 2 ≡ Forget 2 10 → ⊥
hops_differ e = ten_two (ap second_of e)

pub returns-clause-lost : goal.returns-clause-lost
unfolding reckoning
returns-clause-lost c = λ law. heard_lost law.1.1.1.1.1.1.1.1.1.1.0

pub returns-clause-unheard : goal.returns-clause-unheard
unfolding reckoning
returns-clause-unheard c = λ law. heard_unheard law.1.1.1.1.1.1.1.1.1.1.0

pub returns-clause-home : goal.returns-clause-home
unfolding reckoning
returns-clause-home c = λ law. heard_unheard law.1.1.1.1.1.1.1.1.1.1.1.1.1.1.1.1.0

pub returns-clause-over : goal.returns-clause-over
unfolding reckoning
returns-clause-over c = λ law. unheard_heard law.1.1.1.1.1.1.1.1.1.1.1.1.1.1.1.1.1.1.1.1.1.1.1.1.1.1.1.1.1.1.0

pub returns-clause-kept : goal.returns-clause-kept
unfolding reckoning
returns-clause-kept c = λ law. pub_kept _ 2 10 law.1.1.1.1.1.1.1.1.1.1.1.1.1.1.1.1.1.1.1.1.1.1.1.1.1.1.1.1.1.1.1.0

pub returns-clause-other : goal.returns-clause-other
unfolding reckoning
returns-clause-other c = λ law. hops_differ law.1.1.1.1.1.1.1.1.1.1.1.1.1.1.1.1.1.1.1.1.1.1.1.1.1.1.1.1.1.1.1.0

pub returns-clause-freely : goal.returns-clause-freely
unfolding reckoning
returns-clause-freely c = λ law. law.1.1.1.1.1.1.1.1.1.1.1.0

pub returns-clause-way : goal.returns-clause-way
unfolding reckoning
returns-clause-way c = λ law. lost_heard law.1.1.1.1.1.1.0

pub returns-clause-sleep : goal.returns-clause-sleep
unfolding reckoning
returns-clause-sleep c = λ law. unheard_heard law.1.1.1.1.1.1.1.1.1.1.1.1.1.1.1.1.1.1.1.1.1.1.1.1.1.1.1.1.1.1.1.1.1.1.1.1.1.1.1.1.0

pub returns-clause-marked : goal.returns-clause-marked
unfolding reckoning
returns-clause-marked c = λ law. lost_heard law.1.1.1.1.1.1.1.1.1.1.1.0

pub returns-clause-repeated : goal.returns-clause-repeated
unfolding reckoning
returns-clause-repeated c = λ law. said_heard _ 1 (law.1.1.1.1.1.1.1.1.1.1.1.1.1.1.1.1.1.1.1.1.1.1.1.1.1.1.0 refl refl)

not_true : false ≡ true → ⊥
not_true e = cc

pub returns-clause-again_in_sleep : goal.returns-clause-again_in_sleep
unfolding reckoning
returns-clause-again_in_sleep c = λ law. not_true law.1.1.1.1.1.1.1.1.1.1.1.1.1.1.1.1.1.1.1.1.1.1.1.1.1.1.1.1.1.1.1.1.1.1.1.1.1.1.1.1.1.1.1.1.1.0
