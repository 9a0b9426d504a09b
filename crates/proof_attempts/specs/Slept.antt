-- Whether a node that was told that there is no more for it has fallen asleep since (Wake Up Command Class; this project's own rule): by the transcript, and in its host.
use Rattle.std.specs.Prelude.{◌≡◌, ◌⊎◌, ◌≤◌, ℕ, true, false, List, [], ◌∷◌, Some, None}
use Rattle.std.specs.List.{AllByRecursion}
use Rattle.chip_functions.specs.Field.{IsNode}
use Rattle.zw_text.specs.declared.entry.Entry.{Entry}
use Rattle.proof_work.specs.law_time.Requests.{asked, request_last}
use Rattle.proof_work.specs.law_time.Interviews.{listens}
use Rattle.proof_work.specs.law_time.Waking.{has_slept, is_told, nodes_told}
use Rattle.host_requests.specs.Frames.{request_of}
use Rattle.host_requests.specs.State.{RequestsState}
use Rattle.host_requests.specs.declared.under_way.UnderWay.{UnderWay}
use Rattle.proof_requests.specs.Walking.{Ground as RequestsGround, KnowsAsked}
use Rattle.proof_requests.specs.proof_alone.Runs.{Knowledge, both_know}
use Rattle.proof_work.specs.Work.{told_at}
use Rattle.proof_attempts.specs.Carried.{CarriesOthers}
use Rattle.proof_attempts.specs.Since.{KnowsSince, TieOf}
use Rattle.proof_attempts.specs.Waking.{CountsAwake, KnowsHearing}

-- once the last request is over, a node that it tells that there is no more has slept since, or listens; and while it is told it has not
pub record SleptSo (n : ℕ) (past : List Entry) (requests : RequestsState) : Type 0 where
  pub over : requests.under_way ≡ None → is_told n (asked past).frame ≡ true → (has_slept n (asked past).following ≡ true) ⊎ (listens n past ≡ true)
  pub during : told_at n requests.under_way ≡ 1 → has_slept n (asked past).following ≡ false

-- the last request is the one that is under way, the nodes that it tells are nodes, and so it is of each
pub record TieSlept (past : List Entry) (requests : RequestsState) : Type 0 where
  pub request : (u : UnderWay) → requests.under_way ≡ Some u → request_last past ≡ request_of u.purpose requests.last_id ∷ []
  pub nodes : AllByRecursion IsNode (nodes_told (asked past).frame)
  pub each : (n : ℕ) → 1 ≤ n → n ≤ 232 → SleptSo n past requests

abbrev pub SleepsIfTold : TieOf
SleepsIfTold here past h clock = TieSlept past h.requests

-- on what ground: what is known of its work, which nodes listen and which count as awake, what it carries, and of its last request
abbrev pub KnowsTelling : Knowledge
KnowsTelling = both_know (both_know (both_know KnowsHearing (KnowsSince CountsAwake)) (KnowsSince CarriesOthers)) (both_know RequestsGround KnowsAsked)
