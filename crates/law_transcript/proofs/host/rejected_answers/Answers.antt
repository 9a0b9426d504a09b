use Rattle.std.proofs.Common.{◌≡◌, ℕ, ◌+◌, true, false, List, [], ◌∷◌, length, refl, ap, inl, inr, arith}
use Rattle.zw_text.specs.declared.line.Line.{Line}
use Rattle.zw_text.specs.declared.line.Line.TheVariants.{Cancel}
use Rattle.zw_text.specs.declared.entry.Entry.{Entry}
use Rattle.zw_text.specs.declared.entry.Entry.TheVariants.{Accepted, Refused, Store}
use Rattle.zw_text.specs.declared.entry.Refusal.{Refusal}
use Rattle.zw_text.specs.declared.entry.Refusal.TheVariants as refusals
use Rattle.law_transcript.proofs.Computing.{computing}
use Rattle.law_transcript.proofs.host.rejected_answers.Goals as goal

-- numbers that tell entries apart
abbrev refusal_tag : Refusal → ℕ
refusal_tag refusals.KeeperFault = 1
refusal_tag refusals.BadValue = 2
refusal_tag refusals.AlreadyJoined = 3
refusal_tag _ = 4

abbrev tag : Entry → ℕ
tag (Accepted command node) = 10 + command
tag (Refused refusal) = refusal_tag refusal
tag (Store node setting) = 1000 + setting.value
tag _ = 0

abbrev first_tag : List Entry → ℕ
first_tag [] = 5
first_tag (entry ∷ rest) = tag entry

eleven_zero : ◌≡◌ {A = ℕ} 11 0 → ⊥
eleven_zero e = omega (arith, e)

eleven_two : ◌≡◌ {A = ℕ} 11 2 → ⊥
eleven_two e = omega (arith, e)

eleven_twelve : ◌≡◌ {A = ℕ} 11 12 → ⊥
eleven_twelve e = omega (arith, e)

zero_one : ◌≡◌ {A = ℕ} 0 1 → ⊥
zero_one e = omega (arith, e)

two_one : ◌≡◌ {A = ℕ} 2 1 → ⊥
two_one e = omega (arith, e)

twelve_one : ◌≡◌ {A = ℕ} 12 1 → ⊥
twelve_one e = omega (arith, e)

three_zero : ◌≡◌ {A = ℕ} 3 0 → ⊥
three_zero e = omega (arith, e)

none_stored : ◌≡◌ {A = ℕ} 5 1255 → ⊥
none_stored e = omega (arith, e)

stored_zero : ◌≡◌ {A = ℕ} 1255 1000 → ⊥
stored_zero e = omega (arith, e)

four_one : ◌≡◌ {A = ℕ} 4 1 → ⊥
four_one e = omega (arith, e)

not_true : false ≡ true → ⊥
not_true e = cc

pub returns-clause-unanswered : goal.returns-clause-unanswered
unfolding computing
returns-clause-unanswered c = λ law. elim law.between.1.0 [ inl same ↦ eleven_zero (ap first_tag same) | inr kept ↦ zero_one (ap tag kept.1) ]

pub returns-clause-freely : goal.returns-clause-freely
unfolding computing
returns-clause-freely c = λ law. elim law.between.1.0 [ inl same ↦ eleven_two (ap first_tag same) | inr kept ↦ two_one (ap tag kept.1) ]

pub returns-clause-wrongly : goal.returns-clause-wrongly
unfolding computing
returns-clause-wrongly c = λ law. elim law.between.1.0 [ inl same ↦ eleven_twelve (ap first_tag same) | inr kept ↦ twelve_one (ap tag kept.1) ]

pub returns-clause-unasked : goal.returns-clause-unasked
unfolding computing
returns-clause-unasked c = λ law. law.between.0

pub returns-clause-again : goal.returns-clause-again
unfolding computing
returns-clause-again c = λ law. three_zero (ap tag law.between.1.0)

pub returns-clause-cancelled : goal.returns-clause-cancelled
unfolding computing
returns-clause-cancelled c = λ law. zero_one (ap length law.1.1.0.0)

pub returns-clause-late : goal.returns-clause-late
unfolding computing
returns-clause-late c = λ law. not_true law.1.1.1.1.1.1.1.1.1.0.1

pub returns-clause-passed : goal.returns-clause-passed
unfolding computing
returns-clause-passed c = λ law. law.between.1.1.1.0

pub returns-clause-not_stored : goal.returns-clause-not_stored
unfolding computing
returns-clause-not_stored c = λ law. none_stored (ap first_tag (law.all refl))

pub returns-clause-otherwise : goal.returns-clause-otherwise
unfolding computing
returns-clause-otherwise c = λ law. stored_zero (ap first_tag law.asked.1)

pub returns-clause-before : goal.returns-clause-before
unfolding computing
returns-clause-before c = λ law. law.following.1.1.1.1.1.1.1.1.1.1.1.1.1.1.1.1.1.1.1.0

pub returns-clause-at_last : goal.returns-clause-at_last
unfolding computing
returns-clause-at_last c = λ law. law.in_the_end refl

pub returns-clause-failed : goal.returns-clause-failed
unfolding computing
returns-clause-failed c = λ law. elim law.between.1.0 [ inl same ↦ four_one (ap first_tag same) | inr kept ↦ kept.0 ]

pub returns-clause-line_refused : goal.returns-clause-line_refused
unfolding computing
returns-clause-line_refused c = λ law. law.between.1.0

pub returns-clause-line_numbered : goal.returns-clause-line_numbered
unfolding computing
returns-clause-line_numbered c = λ law. law.between.1.0

pub returns-clause-another : goal.returns-clause-another
unfolding computing
returns-clause-another c = λ law. two_one law.between.1.1.1.1.1.0

-- the node of an answer or a value, and the command that a line takes back
abbrev node_of : Entry → ℕ
node_of (Accepted command node) = node
node_of (Store node setting) = node
node_of _ = 0

abbrev first_node_of : List Entry → ℕ
first_node_of [] = 0
first_node_of (entry ∷ rest) = node_of entry

abbrev taken_back_by : List Line → ℕ
taken_back_by (Cancel command ∷ lines) = command
taken_back_by _ = 0

two_three : ◌≡◌ {A = ℕ} 2 3 → ⊥
two_three e = omega (arith, e)

one_two : ◌≡◌ {A = ℕ} 1 2 → ⊥
one_two e = omega (arith, e)

one_zero : ◌≡◌ {A = ℕ} 1 0 → ⊥
one_zero e = omega (arith, e)

pub returns-clause-for_another : goal.returns-clause-for_another
unfolding computing
returns-clause-for_another c = λ law. elim law.between.1.0 [ inl same ↦ two_three (ap first_node_of same) | inr kept ↦ three_zero (ap node_of kept.1) ]

pub returns-clause-refused_unasked : goal.returns-clause-refused_unasked
unfolding computing
returns-clause-refused_unasked c = λ law. law.between.0

pub returns-clause-joined_at_last : goal.returns-clause-joined_at_last
unfolding computing
returns-clause-joined_at_last c = λ law. one_zero (ap length (law.in_the_end refl))

pub returns-clause-another_taken : goal.returns-clause-another_taken
unfolding computing
returns-clause-another_taken c = λ law. one_two (ap taken_back_by law.1.1.1.1.1.0.0)

pub returns-clause-cancel_refused : goal.returns-clause-cancel_refused
unfolding computing
returns-clause-cancel_refused c = λ law. law.between.1.1.1.0

pub returns-clause-elsewhere : goal.returns-clause-elsewhere
unfolding computing
returns-clause-elsewhere c = λ law. two_three (ap first_node_of law.asked.1)

pub returns-clause-first : goal.returns-clause-first
unfolding computing
returns-clause-first c = λ law. law.following.0
