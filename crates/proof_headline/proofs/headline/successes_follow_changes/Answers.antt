use Rattle.std.proofs.Common.{◌≡◌, ℕ, sym, subst}
use Rattle.law_transcript.specs.Once.{MayEnd}
use Rattle.proof_spoken.specs.proof_once.Truly.{IsTrue}
use Rattle.proof_headline.specs.Truly.{MayEndOf}
use Rattle.proof_headline.proofs.Succeeding.{IsAny, any_finish, event_succeeds, finish_of, free_end, free_end_of}
use Rattle.proof_headline.proofs.headline.successes_follow_changes.Goals as goal

pub returns-clause-one : goal.returns-clause-one
returns-clause-one c = λ past m event node facts shown may true before.
    event_succeeds c.events_keep_facts.ensures.each c.asides_keep_facts.ensures (MayEndOf node) (free_end_of node) (λ (n : ℕ). n ≡ node) (finish_of c.endings_are_shown.ensures node) past m event facts shown may
    (λ k same. subst (λ (n : ℕ). IsTrue n m event) (sym same) true) before

pub returns-clause-all : goal.returns-clause-all
returns-clause-all c = λ past m event facts shown may true before.
    event_succeeds c.events_keep_facts.ensures.each c.asides_keep_facts.ensures MayEnd free_end IsAny (any_finish c.endings_are_shown.ensures) past m event facts shown may (λ node any. true node) before
