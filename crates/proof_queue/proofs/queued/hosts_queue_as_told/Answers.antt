-- The walk goes along each careful run on what else is known of it.
use Rattle.std.proofs.Common.{List, [], sym, subst}
use Rattle.std.specs.Prelude.{Some}
use Rattle.s0_crypto.specs.declared.key_pair.Keys.{Keys}
use Rattle.zw_text.specs.declared.entry.Entry.{Entry}
use Rattle.host_heard.specs.declared.told.Told.{Told}
use Rattle.law_transcript.specs.Units.{Carried}
use Rattle.law_time.specs.Moments.{Allows}
use Rattle.law_time.specs.Waking.{may_wake}
use Rattle.law_time.specs.Queue.{Queue}
use Rattle.proof_attempts.specs.proof_requests.law_host.Heard.{heeds_alone}
use Rattle.proof_attempts.specs.proof_requests.proof_alone.State.{HostMachine, first_alone}
use Rattle.proof_attempts.specs.proof_requests.proof_alone.Phases.{Open, Phase, Resting, Submitting}
use Rattle.proof_attempts.specs.proof_requests.proof_alone.Runs.{Run}
use Rattle.proof_attempts.specs.proof_requests.proof_alone.Runs.Run.{Begins}
use Rattle.proof_attempts.specs.proof_requests.proof_alone.Careful.{Careful, stage_of}
use Rattle.proof_attempts.proofs.Queued.{PayloadsBring}
use Rattle.proof_attempts.proofs.Running.{run_keeps}
use Rattle.proof_known.specs.Known.{KnowsWhole}
use Rattle.proof_queue.specs.Heeding.{AllSteps, HeedsSo}
use Rattle.proof_queue.specs.Waiting.{Waits, WaitsAtLooks}
use Rattle.proof_queue.proofs.Along.{all_fit, all_go, along, first_pace, first_waiting, paced}
use Rattle.proof_queue.proofs.Heeded.{frame_waits}
use Rattle.proof_queue.proofs.Knowing.{Know, UptoM}
use Rattle.proof_queue.proofs.Pumping.{submitted}
use Rattle.proof_queue.proofs.Saying.{rested}
use Rattle.proof_queue.proofs.Seeing.{Sights, sights_along, view}
use Rattle.proof_queue.proofs.Ties.{Stand, before_seen}
use Rattle.proof_queue.proofs.Walking.{first_at}
use Rattle.proof_queue.proofs.queued.hosts_queue_as_told.Goals as goal

module _ (c : goal.After-hosts_hold_as_told) (keys : Keys) where
  brings : PayloadsBring
  brings = let laws = c.attempts_have_what_they_give.ensures in record { starts = laws.first_payload; segments = laws.segment_payload; texts = laws.text_payload }

  sights : (here : Phase) (told : List Entry) (m : HostMachine) → Run (first_alone keys (Some [])) here told m → Sights here told m
  sights =
      sights_along (first_alone keys (Some [])) (c.hosts_tell_of_sleep.ensures keys) (c.hosts_know_what_nodes_list.ensures.run keys) (c.hosts_run_series_as_told.ensures.along keys)
      (c.hosts_hold_as_told.ensures.along keys)
      (λ here told m run tables n. c.hosts_show_open_sessions.ensures.told told m.state n tables.facts (c.hosts_keep_what_is_said.ensures.table keys here told m run n).numbers)
      (λ here told m run. (run_keeps (Allows may_wake) KnowsWhole c.hosts_know_what_was_told.ensures.walk [] run (c.hosts_know_what_was_told.ensures.first keys)).1.0.1)

  known : (taken : List Entry → Carried → List Told) (here : Phase) (told : List Entry) (m : HostMachine) → (run : Run (first_alone keys (Some [])) here told m) → Careful run
      → AllSteps (HeedsSo (heeds_alone taken)) run → Stand taken [] told × Know taken here (stage_of run) told m
  known taken here told m run careful sure =
      along taken brings (first_alone keys (Some [])) (c.hosts_ask_as_told.ensures.run keys) sights (first_pace keys)
      (first_waiting taken keys (sights Resting [] (first_alone keys (Some [])) Begins)) run careful sure

-- at each look
looks_at : (taken : List Entry → Carried → List Told) (told : List Entry) (m : HostMachine) → UptoM taken told m → WaitsAtLooks (heeds_alone taken) told m
looks_at taken told m ties = λ e looks now.
    subst (λ (q : Queue). Waits q m.state.requests.queue []) (sym (before_seen taken told e m.clock looks now)) (record { wants_are = ties.stands.wants_are; owed_are = ties.stands.owed_are })

pub returns-clause-submits : goal.returns-clause-submits
returns-clause-submits c = λ keys taken told m run careful sure. looks_at taken told m (submitted taken (stage_of run) told m (known c keys taken Submitting told m run careful sure).1)

pub returns-clause-rests : goal.returns-clause-rests
returns-clause-rests c = λ keys taken told m run careful sure.
    looks_at taken told m (rested taken (stage_of run) told m (sights c keys Resting told m run) (known c keys taken Resting told m run careful sure).1)

pub returns-clause-judges : goal.returns-clause-judges
returns-clause-judges c = λ keys taken told m f rest run careful sure takes now may.
    let start : HostMachine = first_alone keys (Some []) in
    let pace = paced start (c.hosts_ask_as_told.ensures.run keys) (first_pace keys) run careful in
    let waits = frame_waits taken (stage_of run) told m f rest takes now may pace.at_once (first_at taken (stage_of run) told m pace.first)
    (view Open told m tt (sights c keys Open told m run)) (known c keys taken Open told m run careful sure).1 in
    record { wants_are = waits.0.wants_are; owed_are = waits.0.owed_are }

pub returns-clause-fits : goal.returns-clause-fits
returns-clause-fits c = λ keys taken here told m run careful sure for_host. all_fit taken [] told (known c keys taken here told m run careful sure).0 for_host

pub returns-clause-goes : goal.returns-clause-goes
returns-clause-goes c = λ keys taken here told m run careful sure. all_go taken [] told (known c keys taken here told m run careful sure).0
