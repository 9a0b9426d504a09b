use Rattle.std.proofs.Common.{◌≡◌, ℕ, Bool, true, false, List, [], ◌∷◌, ◌++◌, inl, inr, arith}
use Rattle.std.specs.Prelude.{◌==◌, if◌then◌else◌}
use Rattle.std.specs.List.{flat_map}
use Rattle.zw_base.specs.declared.property.Name.TheVariants as names
use Rattle.zw_base.specs.declared.property.By.TheVariants.{Session}
use Rattle.host_orders.specs.Settings.{setting}
use Rattle.zw_text.specs.Transcript.{Made, by_session}
use Rattle.law_transcript.specs.Lists.{Has}
use Rattle.law_transcript.specs.Once.{carried_by}
use Rattle.law_transcript.proofs.Computing.{computing}
use Rattle.law_transcript.proofs.once.rejected_sessions.Goals as goal

one_two : ◌≡◌ {A = ℕ} 1 2 → ⊥
one_two e = omega (arith, e)

-- the change by the session of the one command is of no other, of whichever node
abbrev begun_if : Bool → List ℕ
begun_if is = (if is then 1 ∷ [] else []) ++ []

abbrev made_if : Bool → List Made
made_if is = (if is then record { by = Session 1; setting = setting 0 names.Switch 255 } ∷ [] else []) ++ []

of_no_other : (is : Bool) → Has (carried_by (begun_if is) (flat_map (λ (one : Made). by_session one.by) (made_if is))) 2 → ⊥
of_no_other true (inl same) = one_two same
of_no_other true (inr never) = never
of_no_other false never = never

pub returns-clause-begun_twice : goal.returns-clause-begun_twice
unfolding computing
returns-clause-begun_twice c = λ law. omega (arith, law.1.1.1.0.0)

pub returns-clause-begun_ahead : goal.returns-clause-begun_ahead
unfolding computing
returns-clause-begun_ahead c = λ law. omega (arith, law.1.1.0.0)

pub returns-clause-over_nodes : goal.returns-clause-over_nodes
unfolding computing
returns-clause-over_nodes c = λ law. omega (arith, law.1.1.1.0.0)

pub returns-clause-begun_early : goal.returns-clause-begun_early
unfolding computing
returns-clause-begun_early c = λ law. law.1.1.1.1.1.0.1.0

pub returns-clause-reopened : goal.returns-clause-reopened
unfolding computing
returns-clause-reopened c = λ law. law.1.1.1.1.1.0.1.0

pub returns-clause-unanswered : goal.returns-clause-unanswered
unfolding computing
returns-clause-unanswered c = λ law. law.1.1.1.1.1.1.0.1.0

pub returns-clause-taken_back : goal.returns-clause-taken_back
unfolding computing
returns-clause-taken_back c = λ law. law.1.1.1.1.1.1.0.1.0

pub returns-clause-told_early : goal.returns-clause-told_early
unfolding computing
returns-clause-told_early c = λ law. law.1.1.1.1.1.1.1.1.1.1.1.0.shown

pub returns-clause-other_change : goal.returns-clause-other_change
unfolding computing
returns-clause-other_change c = λ law. of_no_other (2 == law.1.1.1.1.0.node) law.1.1.1.1.0.shown
