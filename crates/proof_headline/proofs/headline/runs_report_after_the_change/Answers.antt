use Rattle.std.proofs.Common.{◌≡◌, ℕ, [], refl, sym, subst}
use Rattle.law_transcript.specs.Once.{MayEnd}
use Rattle.world_model.specs.State.{first_machine}
use Rattle.proof_headline.specs.Truly.{LinesAreTrue, MayEndOf}
use Rattle.proof_headline.proofs.Running.{IsSo, first_shown, lines_so}
use Rattle.proof_headline.proofs.Succeeding.{IsAny, free_end, free_end_of}
use Rattle.proof_headline.proofs.headline.runs_report_after_the_change.Goals as goal

pub returns-clause-one : goal.returns-clause-one
returns-clause-one c = λ keys records devices lines node unchanged are true.
    let m = first_machine keys records devices in
    let first : IsSo (MayEndOf node) [] m
    = record { facts = c.the_machine_keeps_facts.ensures.first keys records devices; shown = first_shown devices unchanged; succeeded = tt } in
    (lines_so c.the_machine_keeps_facts.ensures.each c.asides_keep_facts.ensures c.changes_are_shown.ensures.among
    (MayEndOf node) (free_end_of node) (λ (n : ℕ). n ≡ node)
    (λ past at event facts shown may those before. c.successes_follow_changes.ensures.one past at event node facts shown may (those node refl) before) [] m lines are
    (λ k same. subst (λ (n : ℕ). LinesAreTrue n m lines) (sym same) true) first).succeeded

pub returns-clause-all : goal.returns-clause-all
returns-clause-all c = λ keys records devices lines unchanged are true.
    let m = first_machine keys records devices in
    let first : IsSo MayEnd [] m
    = record { facts = c.the_machine_keeps_facts.ensures.first keys records devices; shown = first_shown devices unchanged; succeeded = tt } in
    (lines_so c.the_machine_keeps_facts.ensures.each c.asides_keep_facts.ensures c.changes_are_shown.ensures.among
    MayEnd free_end IsAny
    (λ past at event facts shown may those before. c.successes_follow_changes.ensures.all past at event facts shown may (λ node. those node tt) before) [] m lines are
    (λ node any. true node) first).succeeded
