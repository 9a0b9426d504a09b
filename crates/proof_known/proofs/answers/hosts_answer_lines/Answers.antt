-- Each line is answered: what decides its answer is known at rest.
use Rattle.std.proofs.Common.{◌≡◌, true, false, inl, inr, List, [], ◌∷◌, ◌++◌, sym, ◌∙◌}
use Rattle.std.specs.Prelude.{Some}
use Rattle.s0_crypto.specs.declared.key_pair.Keys.{Keys}
use Rattle.zw_text.specs.declared.line.Line.{Line}
use Rattle.zw_text.specs.declared.line.Line.TheVariants as lines
use Rattle.zw_text.specs.declared.entry.Entry.{Entry}
use Rattle.zw_text.specs.Transcript.{line_last}
use Rattle.proof_transcript.specs.law_transcript.Answers.{AsksNothing, MayAnswer, before_last, refusals_by_host}
use Rattle.proof_transcript.specs.law_transcript.Lists.{EachAfter}
use Rattle.proof_transcript.specs.law_time.Moments.{Allows}
use Rattle.proof_transcript.specs.law_time.Waking.{may_wake}
use Rattle.proof_transcript.specs.law_host.Heard.{listing_heard}
use Rattle.proof_transcript.specs.Answering.{IsAnswered}
use Rattle.proof_transcript.proofs.AnswerFacts.{host_ties}
use Rattle.proof_waking.specs.proof_alone.State.{HostMachine, first_alone}
use Rattle.proof_waking.specs.proof_alone.Phases.{Phase}
use Rattle.proof_waking.specs.proof_alone.Runs.{Run, Walk, both_know}
use Rattle.proof_waking.proofs.Running.{over, run_keeps}
use Rattle.proof_known.specs.Known.{IsAnswerAlone, IsForHost, IsSettled, KnowsAnswered, KnowsWhole}
use Rattle.proof_known.proofs.Answering.{Decides, answers_walk}
use Rattle.proof_known.proofs.ForHost.{heard_is_for_host}
use Rattle.proof_known.proofs.answers.hosts_answer_lines.Goals as goal

module _ (c : goal.After-laws_follow) where
  decides : Decides
  decides = λ past m tie knows said told places.
      host_ties listing_heard past m.state tie.facts (c.laws_follow.ensures.tables past m.state tie.facts) told.joined told.heard knows
      (λ node. c.tables_are_what_was_said.ensures listing_heard past m.state node tie.facts said) places

  walk : Walk IsAnswerAlone (both_know KnowsWhole KnowsAnswered)
  walk = over KnowsWhole (Allows may_wake) IsAnswerAlone KnowsAnswered c.hosts_know_what_was_told.ensures.walk (answers_walk decides)

  keeps : (keys : Keys) {here : Phase} {told : List Entry} {m : HostMachine} → Run (first_alone keys (Some [])) here told m
      → EachAfter IsAnswerAlone [] told × both_know KnowsWhole KnowsAnswered here told m
  keeps keys run = run_keeps IsAnswerAlone (both_know KnowsWhole KnowsAnswered) walk [] run (c.hosts_know_what_was_told.ensures.first keys, tt)

-- where none is a refusal of a line for others, each is an answer exactly where it must be
all_answer : (past told : List Entry) → EachAfter IsAnswerAlone past told → EachAfter IsForHost past told → EachAfter (MayAnswer listing_heard (refusals_by_host listing_heard)) past told
all_answer past [] each fine = tt
all_answer past (e ∷ told) each fine = (one each.0, all_answer (past ++ e ∷ []) told each.1 fine.1)
  where
    one : IsAnswerAlone past e → MayAnswer listing_heard (refusals_by_host listing_heard) past e
    one (inl others) = let bad : false ≡ true = sym fine.0 ∙ others in absurd cc
    one (inr may) = may

-- at rest no answer is due
nothing_due : (past : List Entry) → IsSettled past → AsksNothing (refusals_by_host listing_heard) (before_last past) (line_last past)
nothing_due past settled = by (before_last past) (line_last past) settled
  where
    by : (before : List Entry) (l : List Line) → IsAnswered (refusals_by_host listing_heard) before l → AsksNothing (refusals_by_host listing_heard) before l
    by before [] answered = tt
    by before (lines.Command order ∷ more) answered = absurd answered
    by before (lines.Cancel command ∷ more) answered = absurd answered
    by before (line ∷ more) answered = answered

pub returns-clause-told : goal.returns-clause-told
returns-clause-told c = λ keys told run fine. record {
  between = all_answer [] told (keeps c keys run.2).0 fine;
  in_the_end = λ (is : false ≡ true). absurd cc;
}

pub returns-clause-whole : goal.returns-clause-whole
returns-clause-whole c = λ keys told run fine.
    let known = keeps c keys run.1 in
    record { between = all_answer [] told known.0 fine; in_the_end = λ is. nothing_due told known.1.1 }

pub returns-clause-heard : goal.returns-clause-heard
returns-clause-heard c = λ keys told run. heard_is_for_host told (keeps c keys run.2).0
