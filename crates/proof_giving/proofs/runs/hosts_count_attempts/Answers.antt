-- The walk goes along each careful run.
use Rattle.std.proofs.Common.{ℕ, List, []}
use Rattle.std.specs.Prelude.{Some}
use Rattle.s0_crypto.specs.declared.key_pair.Keys.{Keys}
use Rattle.zw_text.specs.declared.entry.Entry.{Entry}
use Rattle.host_heard.specs.declared.told.Told.{Told}
use Rattle.law_transcript.specs.Units.{Carried}
use Rattle.law_time.specs.Moments.{Allows}
use Rattle.law_time.specs.Waking.{may_wake}
use Rattle.proof_host.specs.Facts.{Facts}
use Rattle.proof_queue.proofs.proof_sending_Grounds.{carried_so}
use Rattle.proof_queue.specs.proof_known.Known.{KnowsOrders}
use Rattle.proof_queue.specs.proof_attempts.proof_requests.law_host.Heard.{heeds_alone, listing_heard}
use Rattle.proof_queue.specs.proof_attempts.proof_requests.proof_alone.State.{HostMachine, first_alone}
use Rattle.proof_queue.specs.proof_attempts.proof_requests.proof_alone.Phases.{Phase}
use Rattle.proof_queue.specs.proof_attempts.proof_requests.proof_alone.Runs.{Run}
use Rattle.proof_queue.proofs.Queued.{PayloadsBring}
use Rattle.proof_queue.proofs.Running.{run_keeps}
use Rattle.proof_giving.specs.Stays.{ShowsSessions}
use Rattle.proof_giving.specs.Walking.{Grounds}
use Rattle.proof_giving.proofs.Counted.{counted, first_counts, waits_so}
use Rattle.proof_giving.proofs.runs.hosts_count_attempts.Goals as goal

module _ (c : goal.After-attempts_end_with_requests) (keys : Keys) (taken : List Entry → Carried → List Told) where
  facts : {here : Phase} {told : List Entry} {m : HostMachine} → Run (first_alone keys (Some [])) here told m → Facts told m.state
  facts {here} {told} {m} run = (c.hosts_ask_as_told.ensures.run keys here told m run).0.0.0.0.0.0.facts

  shows : {here : Phase} {told : List Entry} {m : HostMachine} → Run (first_alone keys (Some [])) here told m → (n : ℕ) → ShowsSessions (heeds_alone taken) told m.state n
  shows {here} {told} {m} run n =
      let said = (run_keeps (Allows may_wake) KnowsOrders c.hosts_keep_what_is_said.ensures.walk [] run (c.hosts_know_what_nodes_list.ensures.first keys, tt)).1.1 in
      record {
        sessions_are = (facts run).begun n;
        opened = c.hosts_show_open_sessions.ensures.opened told m.state n (facts run);
        last = c.hosts_show_open_sessions.ensures.last told m.state n (facts run);
        carried = carried_so c.laws_follow.ensures.laws c.orders_are_carried_as_said.ensures listing_heard told m.state (facts run) said;
      }

  grounds : {here : Phase} {told : List Entry} {m : HostMachine} → Run (first_alone keys (Some [])) here told m → Grounds (heeds_alone taken) here told m
  grounds {here} {told} {m} run = record { sleep = c.hosts_tell_of_sleep.ensures keys here told m run; shows = shows run }

  brings : PayloadsBring
  brings = let laws = c.attempts_have_what_they_give.ensures in record { starts = laws.first_payload; segments = laws.segment_payload; texts = laws.text_payload }

pub returns-clause-grounds : goal.returns-clause-grounds
returns-clause-grounds c = λ keys taken here told m run. grounds c keys taken run

pub returns-clause-known : goal.returns-clause-known
returns-clause-known c = λ keys taken here told m run careful sure heeded.
    counted c.attempts_end_with_requests.ensures.request c.attempts_end_with_requests.ensures.ticks (brings c keys taken) taken (first_alone keys (Some [])) (λ here told m run. grounds c keys taken run)
    (λ told m run careful sure. waits_so taken told m (c.hosts_queue_as_told.ensures.submits keys taken told m run careful sure)) (first_counts (heeds_alone taken) keys) run careful sure heeded
