-- They are chosen along the run, by what its transcript shows at each frame that was just acknowledged.
use Rattle.std.proofs.Common.{◌≡◌, ℕ, List, [], length}
use Rattle.std.specs.Prelude.{Some}
use Rattle.s0_crypto.specs.declared.key_pair.Keys.{Keys}
use Rattle.zw_text.specs.declared.entry.Entry.{Entry}
use Rattle.law_time.specs.Moments.{Allows}
use Rattle.law_time.specs.Waking.{may_wake}
use Rattle.proof_attempts.specs.proof_host.Facts.{Facts}
use Rattle.proof_attempts.specs.proof_requests.law_host.Heard.{listing_heard}
use Rattle.proof_attempts.specs.proof_requests.proof_alone.State.{HostMachine, first_alone}
use Rattle.proof_attempts.specs.proof_requests.proof_alone.Phases.{Phase, Open}
use Rattle.proof_attempts.specs.proof_requests.proof_alone.Runs.{Run}
use Rattle.proof_attempts.specs.proof_requests.proof_waking.Judged.{TieFrames}
use Rattle.proof_attempts.proofs.Running.{run_keeps}
use Rattle.proof_known.specs.Known.{KnowsOrders}
use Rattle.proof_sending.proofs.Grounds.{carried_so}
use Rattle.proof_queue.proofs.Choosing.{chooses}
use Rattle.proof_queue.proofs.Segments.{Shows}
use Rattle.proof_queue.proofs.fits.hosts_go_by_messages.Goals as goal

module _ (c : goal.After-hosts_show_open_sessions) (keys : Keys) where
  facts : {here : Phase} {told : List Entry} {m : HostMachine} → Run (first_alone keys (Some [])) here told m → Facts told m.state
  facts {here} {told} {m} run = (c.hosts_ask_as_told.ensures.run keys here told m run).0.0.0.0.0.0.facts

  shows : {here : Phase} {told : List Entry} {m : HostMachine} → Run (first_alone keys (Some [])) here told m → (n : ℕ) → Shows told m.state n
  shows {here} {told} {m} run n =
      let said = (run_keeps (Allows may_wake) KnowsOrders c.hosts_keep_what_is_said.ensures.walk [] run (c.hosts_know_what_nodes_list.ensures.first keys, tt)).1.1 in
      record {
        sessions_are = (facts run).begun n;
        opened = c.hosts_show_open_sessions.ensures.opened told m.state n (facts run);
        last = c.hosts_show_open_sessions.ensures.last told m.state n (facts run);
        carried = carried_so c.laws_follow.ensures.laws c.orders_are_carried_as_said.ensures listing_heard told m.state (facts run) said;
      }

  nonces : {here : Phase} {told : List Entry} {m : HostMachine} → Run (first_alone keys (Some [])) here told m → length m.state.nonces ≡ 233
  nonces run = (facts run).host.nonces

  frames : {told : List Entry} {m : HostMachine} → Run (first_alone keys (Some [])) Open told m → TieFrames told m.came
  frames {told} {m} run = (c.hosts_ask_as_told.ensures.run keys Open told m run).0.0.0.1.frames

pub returns : goal.returns
returns c = λ keys here told m run.
    let chosen = chooses (first_alone keys (Some [])) (λ here told m run. shows c keys run) (λ here told m run. nonces c keys run) (λ told m run. frames c keys run) run in (chosen.taken, chosen.sure, chosen.as_told)
