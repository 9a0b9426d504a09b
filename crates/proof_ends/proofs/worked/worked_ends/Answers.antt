-- The notes are written out, and what stands beside them may.
use Rattle.std.proofs.Common.{true, false, inl, inr, [], ◌∷◌, drop, take, refl}
use Rattle.zw_text.specs.declared.entry.Done.TheVariants as done
use Rattle.zw_text.specs.declared.entry.Entry.TheVariants.{Done}
use Rattle.law_time.proofs.Computing.{computing}
use Rattle.law_time.specs.WorkedEnds.{failed_errand, silent_after_response}
use Rattle.proof_ends.specs.Ends.{EndNotes, Reads}
use Rattle.proof_ends.specs.Ends.GiveUps.{None_yet}
use Rattle.proof_ends.specs.Ends.Reads.{Starts, Asks, Ends, Ticks_late}
use Rattle.proof_ends.proofs.Readings.{read_on}
use Rattle.proof_ends.proofs.worked.worked_ends.Goals as goal

asks_failed : Reads false (take 2 failed_errand)
unfolding computing
asks_failed = Asks _ refl refl refl (read_on true [] (take 1 failed_errand) refl Starts)

fails : EndNotes (take 9 failed_errand) (Done 2 done.Fail ∷ [])
unfolding computing
fails = record { done = Done 2 done.Fail ∷ []; answer = []; outcome = []; are = refl; done_so = inr (2, done.Fail, refl, refl, refl); answer_so = inl (refl, refl); outcome_so = inl refl }

pub returns-clause-errand : goal.returns-clause-errand
unfolding computing
returns-clause-errand c = record {
  over = true;
  reads = Ends (Done 2 done.Fail ∷ []) refl fails refl (read_on false (take 2 failed_errand) (drop 2 (take 9 failed_errand)) refl asks_failed);
  in_the_end = λ is. refl;
}

asks_silent : Reads false (take 2 silent_after_response)
unfolding computing
asks_silent = Asks _ refl refl refl (read_on true [] (take 1 silent_after_response) refl Starts)

silent : EndNotes (take 8 silent_after_response) (Done 2 done.Silent ∷ [])
unfolding computing
silent = record { done = Done 2 done.Silent ∷ []; answer = []; outcome = []; are = refl; done_so = inr (2, done.Silent, refl, refl, refl); answer_so = inl (refl, refl); outcome_so = inl refl }

pub returns-clause-silent : goal.returns-clause-silent
unfolding computing
returns-clause-silent c = record {
  over = true;
  reads = Ticks_late 0 (Done 2 done.Silent ∷ []) [] refl refl silent refl None_yet (read_on false (take 2 silent_after_response) (drop 2 (take 8 silent_after_response)) refl asks_silent);
  in_the_end = λ is. refl;
}
