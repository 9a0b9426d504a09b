-- By what is known along the run where the host gives up, what it was told, and what it asks for.
use Rattle.std.proofs.Common.{ℕ, List, []}
use Rattle.s0_crypto.specs.Sealing.{keys_of}
use Rattle.zw_text.specs.declared.entry.Entry.{Entry}
use Rattle.host_heard.specs.declared.told.Told.{Told}
use Rattle.law_transcript.specs.Units.{Carried}
use Rattle.law_time.specs.Moments.{Allows}
use Rattle.law_time.specs.Waking.{may_wake}
use Rattle.proof_hearing.specs.proof_nonces.proof_known.Known.{KnowsTold, KnowsWhole}
use Rattle.proof_hearing.specs.proof_queue.proof_attempts.Since.{AlongRuns}
use Rattle.proof_hearing.specs.proof_queue.proof_attempts.proof_requests.proof_alone.Phases.{Phase}
use Rattle.proof_hearing.specs.proof_queue.proof_attempts.proof_requests.proof_alone.Runs.{Run}
use Rattle.proof_hearing.specs.proof_queue.proof_attempts.proof_requests.proof_alone.State.{HostMachine}
use Rattle.proof_hearing.proofs.Running.{run_keeps}
use Rattle.proof_hearing.proofs.Along.{every_along, law_along}
use Rattle.proof_hearing.proofs.Owners.{OwnLaw, owners_walk}
use Rattle.proof_noting.specs.Ground.{GroundAlong}
use Rattle.proof_noting.specs.Steps.{first_of}
use Rattle.proof_noting.proofs.AsksSealed.{AsksGround, asks_along}
use Rattle.proof_noting.proofs.TickGround.{TickLaws}
use Rattle.proof_noting.proofs.TickSteps.{tick_begins, tick_ends, tick_fits, tick_step}
use Rattle.proof_noting.proofs.ticks.notes_go_with_ticks.Goals as goal

module _ (c : goal.After-hosts_show_open_sessions) (key : List ℕ) where
  tells : (here : Phase) (told : List Entry) (m : HostMachine) → Run (first_of key) here told m → KnowsTold here told m
  tells here told m run =
      (run_keeps (Allows may_wake) KnowsWhole c.hosts_know_what_was_told.ensures.walk [] run (c.hosts_know_what_was_told.ensures.first (keys_of key))).1.0.1

  asked : AlongRuns (keys_of key) (AsksGround (keys_of key))
  asked here told m run = (
    (c.hosts_know_their_work.ensures (keys_of key) here told m run, c.hosts_ask_as_told.ensures.run (keys_of key) here told m run),
    c.hosts_seal_once.ensures.known (keys_of key) here told m run,
  )

  laws : (taken : List Entry → Carried → List Told) → GroundAlong taken (first_of key) → TickLaws key taken
  laws taken along = record {
    shows = c.hosts_show_open_sessions.ensures.opened;
    along = along;
    gives = λ here past m sure. c.hosts_give_up_as_told.ensures (keys_of key) taken here past m sure.run sure.careful sure.heeds_so sure.heeds_as;
    own = λ here past m sure. law_along (first_of key) KnowsTold OwnLaw owners_walk sure.run (every_along (first_of key) KnowsTold tells sure.run);
    asks = λ here past m sure. asks_along (keys_of key) asked here past m sure.run;
  }

pub returns-clause-begins : goal.returns-clause-begins
returns-clause-begins c = λ key taken from along next past m. tick_begins key taken from (laws c key taken along) next past m

pub returns-clause-event : goal.returns-clause-event
returns-clause-event c = λ key taken from along left next past told m one. tick_step key taken from (laws c key taken along) left next past told m one

pub returns-clause-ends : goal.returns-clause-ends
returns-clause-ends c = λ key taken from along left next past m. tick_ends key taken from (laws c key taken along) left next past m

pub returns-clause-fits : goal.returns-clause-fits
returns-clause-fits c = λ key taken from along left past m sure known. tick_fits key taken from past m left known
