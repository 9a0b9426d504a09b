use Rattle.std.proofs.Common.{◌≡◌, ℕ, true, false, List, [], ◌∷◌, Option, Some, length, ap, arith}
use Rattle.host_keep.specs.declared.final_status.FinalStatus.{FinalStatus}
use Rattle.host_keep.specs.declared.final_status.FinalStatus.TheVariants.{Success}
use Rattle.law_transcript.proofs.Computing.{computing_devices}
use Rattle.law_transcript.proofs.device.rejected_records.Goals as goal

false_true : false ≡ true → ⊥
false_true e = cc

true_false : true ≡ false → ⊥
true_false e = cc

one_none : ◌≡◌ {A = ℕ} 1 0 → ⊥
one_none e = omega (arith, e)

two_one : ◌≡◌ {A = ℕ} 2 1 → ⊥
two_one e = omega (arith, e)

none_one : ◌≡◌ {A = ℕ} 0 1 → ⊥
none_one e = omega (arith, e)

-- the first of some numbers, and whether the first of some sessions has succeeded
abbrev first_number : List ℕ → ℕ
first_number [] = 0
first_number (number ∷ numbers) = number

abbrev succeeded : FinalStatus → ℕ
succeeded Success = 1
succeeded _ = 0

abbrev first_succeeded : List (Option FinalStatus) → ℕ
first_succeeded (Some status ∷ more) = succeeded status
first_succeeded _ = 0

pub returns-clause-apart : goal.returns-clause-apart
unfolding computing_devices
returns-clause-apart c = λ shows. false_true shows.joined

pub returns-clause-unknown : goal.returns-clause-unknown
unfolding computing_devices
returns-clause-unknown c = λ shows. false_true shows.interviewed

pub returns-clause-waiting : goal.returns-clause-waiting
unfolding computing_devices
returns-clause-waiting c = λ shows. one_none (ap length shows.waits)

pub returns-clause-otherwise : goal.returns-clause-otherwise
unfolding computing_devices
returns-clause-otherwise c = λ shows. two_one (ap first_number shows.begun)

pub returns-clause-failed : goal.returns-clause-failed
unfolding computing_devices
returns-clause-failed c = λ shows. none_one (ap first_succeeded shows.ended)

pub returns-clause-uninterviewed : goal.returns-clause-uninterviewed
unfolding computing_devices
returns-clause-uninterviewed c = λ shows. false_true shows.interviewed

pub returns-clause-stranger : goal.returns-clause-stranger
unfolding computing_devices
returns-clause-stranger c = λ shows. true_false shows.interviewed
