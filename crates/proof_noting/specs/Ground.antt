-- What is known of a host alone along each run of which all is so that the course of its notes goes by (this project's own rule): its own facts and its transcript, the attempts of its nodes, and
-- which nodes the last request carries a Set or Get of a line to.
use Rattle.std.specs.Prelude.{◌≡◌, ◌≤◌, ℕ, ◌-◌, true, List, [], Some}
use Rattle.s0_crypto.specs.Sealing.{keys_of}
use Rattle.zw_text.specs.declared.entry.Entry.{Entry}
use Rattle.host_heard.specs.declared.told.Told.{Told}
use Rattle.law_transcript.specs.Units.{Carried}
use Rattle.law_time.specs.Errands.{errand}
use Rattle.law_time.specs.Unanswered.{to_give_up}
use Rattle.proof_hearing.specs.proof_choice.Turning.{KnowsAll}
use Rattle.proof_hearing.specs.proof_choice.Waits.{AskingGround}
use Rattle.proof_hearing.specs.proof_choice.proof_giving.Walking.{Grounds, KnowsAttempts}
use Rattle.proof_hearing.specs.proof_queue.proof_attempts.proof_requests.law_host.Heard.{heeds_alone, listing_heard}
use Rattle.proof_hearing.specs.proof_queue.proof_attempts.proof_requests.proof_alone.State.{HostMachine, first_alone}
use Rattle.proof_hearing.specs.proof_queue.proof_attempts.proof_requests.proof_alone.Phases.{Phase}
use Rattle.proof_hearing.specs.proof_queue.proof_attempts.proof_requests.proof_alone.Runs.{Told as ToldAlone}
use Rattle.proof_hearing.specs.proof_choice.proof_ends.Ends.{nodes_asked}
use Rattle.proof_noting.specs.Sure.{SureRun}

-- `grounds` has what is known of its sleep, its requests and its ends (KnowsSleep), and how sessions are shown.
pub record NotingGround (taken : List Entry → Carried → List Told) (here : Phase) (past : List Entry) (m : HostMachine) : Type 0 where
  pub grounds : Grounds (heeds_alone taken) here past m
  pub counts : KnowsAttempts (heeds_alone taken) here past m
  pub asks : AskingGround (heeds_alone taken) here past m
  pub all : KnowsAll (heeds_alone taken) here past m
  pub rested : m.awaits ≡ true → (n : ℕ) → 1 ≤ n → n ≤ 232 → to_give_up (heeds_alone taken) past (m.clock - 1) n ≡ []
  pub errands : errand listing_heard past ≡ nodes_asked past

-- so it is along each such run
abbrev pub GroundAlong : (taken : List Entry → Carried → List Told) (start : HostMachine) → Type 0
GroundAlong taken start = (here : Phase) (past : List Entry) (m : HostMachine) → SureRun taken start here past m → NotingGround taken here past m

-- which nodes the last request carries a Set or Get of a line to is as it carries one by itself, along each run from the first on
abbrev pub ErrandsAlong : List ℕ → Type 0
ErrandsAlong key = (told : List Entry) → ToldAlone (first_alone (keys_of key) (Some [])) told → errand listing_heard told ≡ nodes_asked told
