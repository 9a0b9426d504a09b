-- What is known of what lines asked for at each phase of a host alone (this project's own rule): since it started, it has ended, or is among the host's tasks.
use Rattle.std.specs.Prelude.{◌≡◌, ◌⊎◌, ℕ, ◌+◌, Bool, true, false, List, [], ◌∷◌, ◌++◌, length}
use Rattle.std.specs.List.{flat_map}
use Rattle.zw_text.specs.declared.line.Line.{Line}
use Rattle.zw_text.specs.declared.entry.Done.{Done as HowDone}
use Rattle.zw_text.specs.declared.entry.Entry.{Entry}
use Rattle.zw_text.specs.declared.entry.Entry.TheVariants as entry
use Rattle.zw_text.specs.Transcript.{done_at, line_of, lines_done, shown}
use Rattle.host_requests.specs.declared.task.Task.{Task}
use Rattle.host_model.specs.State.{HostState}
use Rattle.proof_nonces.specs.proof_work.Tasks.{errand_of as errand_in, interview_of as interview_in, tasks_of}
use Rattle.proof_nonces.specs.proof_work.law_transcript.Restarts.{since_restart}
use Rattle.proof_nonces.specs.proof_work.law_time.Rests.{errand_of, interview_end, interview_of, is_unkept}
use Rattle.proof_nonces.specs.proof_attempts.Waking.{KnowsWork}
use Rattle.proof_nonces.specs.proof_attempts.proof_requests.Ends.{KnowsEnds}
use Rattle.proof_nonces.specs.proof_attempts.proof_requests.Walking.{Ground as RequestsGround, KnowsAsked}
use Rattle.proof_nonces.specs.proof_attempts.proof_requests.proof_alone.Phases.{Asked}
use Rattle.proof_nonces.specs.proof_attempts.proof_requests.proof_alone.Runs.{Knowledge, both_know}
use Rattle.proof_rests.specs.Undone.{rests_so}

-- ---- errands and interviews

-- a kind of what lines ask of a node: by a line, by the entry that ends it, and among the tasks of a host
pub record Wanted (A B : Type 0) : Type 0 where
  pub by_line : Line → List ℕ
  pub ends : Entry → List A
  pub among : Task → List B

abbrev pub an_errand : ℕ → Wanted HowDone (List ℕ)
an_errand n = record { by_line = errand_of n; ends = done_at n; among = errand_in n }

abbrev pub an_interview : ℕ → Wanted ℕ ℕ
an_interview n = record { by_line = interview_of n; ends = interview_end n; among = interview_in n }

-- how many were asked for, have ended, and are left
module _ {A B : Type 0} (wanted : Wanted A B) where
  abbrev pub asked_since : List Entry → ℕ
  asked_since since = length (flat_map wanted.by_line (lines_done since))

  abbrev pub ended_since : List Entry → ℕ
  ended_since since = length (shown wanted.ends since)

  abbrev pub left_among : HostState → ℕ
  left_among h = length (flat_map wanted.among (tasks_of h.requests))

  abbrev pub AreCounted : List Entry → HostState → Type 0
  AreCounted past h = asked_since (since_restart past) ≡ ended_since (since_restart past) + left_among h

-- all are, or there is an excuse
abbrev pub AreCountedOr : {A B : Type 0} → Wanted A B → (List Entry → Bool) → List Entry → HostState → Type 0
AreCountedOr wanted excuse past h = AreCounted wanted past h ⊎ (excuse (since_restart past) ≡ true)

-- the words of a line stand last: so it was before them
pub record CountedBefore {A B : Type 0} (wanted : Wanted A B) (excuse : List Entry → Bool) (line : Line) (past : List Entry) (h : HostState) : Type 0 where
  pub before : List Entry
  pub words : List ℕ
  pub are : past ≡ before ++ entry.Said words ∷ []
  pub read : line_of (entry.Said words) ≡ line ∷ []
  pub counted : AreCountedOr wanted excuse before h

abbrev pub KnowsCounts : {A B : Type 0} → Wanted A B → (List Entry → Bool) → Knowledge
KnowsCounts wanted excuse (Asked line) past m = CountedBefore wanted excuse line past m.state
KnowsCounts wanted excuse here past m = AreCountedOr wanted excuse past m.state

-- errands have no excuse; an interview has one where the keeper failed for its node
abbrev pub no_excuse : List Entry → Bool
no_excuse since = false

abbrev pub KnowsErrands : Knowledge
KnowsErrands here past m = (n : ℕ) → KnowsCounts (an_errand n) no_excuse here past m

abbrev pub KnowsInterviews : Knowledge
KnowsInterviews here past m = (n : ℕ) → KnowsCounts (an_interview n) (is_unkept n) here past m

-- ---- on what ground

-- what is known of its work, of its last request, and of how that ends
abbrev pub KnowsDoing : Knowledge
KnowsDoing = both_know KnowsWork (both_know (both_know RequestsGround KnowsAsked) KnowsEnds)

-- before the tick whose number is still to be entered this was so, if the host rested
abbrev pub WasSo : (List Entry → ℕ → Bool) → Knowledge
WasSo so here past m = m.awaits ≡ true → rests_so so past (entry.Time m.clock) ≡ true

-- and all of that
abbrev pub KnowsAll : Knowledge
KnowsAll = both_know KnowsDoing (both_know KnowsErrands KnowsInterviews)
