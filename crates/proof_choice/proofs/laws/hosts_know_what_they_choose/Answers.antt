-- What is known along the run, put together.
use Rattle.std.proofs.Common.{ℕ, List, [], refl}
use Rattle.std.specs.Prelude.{Some}
use Rattle.s0_crypto.specs.declared.key_pair.Keys.{Keys}
use Rattle.zw_text.specs.declared.entry.Entry.{Entry}
use Rattle.host_heard.specs.declared.told.Told.{Told}
use Rattle.law_transcript.specs.Units.{Carried}
use Rattle.law_time.specs.Heeds.{Heeds}
use Rattle.law_time.specs.Moments.{Allows}
use Rattle.law_time.specs.Waking.{may_wake}
use Rattle.proof_host.specs.Facts.{Facts}
use Rattle.proof_giving.specs.proof_queue.proof_attempts.proof_requests.law_host.Heard.{heeds_alone}
use Rattle.proof_giving.specs.proof_queue.proof_attempts.proof_requests.Walking.{Ground as RequestsGround, KnowsAsked}
use Rattle.proof_giving.specs.proof_queue.proof_attempts.proof_requests.proof_alone.State.{HostMachine, first_alone}
use Rattle.proof_giving.specs.proof_queue.proof_attempts.proof_requests.proof_alone.Phases.{Phase}
use Rattle.proof_giving.specs.proof_queue.proof_attempts.proof_requests.proof_alone.Careful.{Careful}
use Rattle.proof_giving.specs.proof_queue.proof_attempts.proof_requests.proof_alone.Runs.{Knowledge, Run, both_know}
use Rattle.proof_giving.specs.proof_queue.proof_attempts.Since.{KnowsSince}
use Rattle.proof_giving.proofs.Lasting.{since_walk}
use Rattle.proof_giving.proofs.Queued.{PayloadsBring}
use Rattle.proof_giving.proofs.Running.{run_keeps}
use Rattle.proof_following.specs.proof_ends.proof_rests.proof_nonces.proof_known.Known.{KnowsTold, KnowsWhole}
use Rattle.proof_giving.specs.proof_queue.Heeding.{AllSteps, HeedsAs, HeedsSo}
use Rattle.proof_giving.proofs.Seeing.{Sights, sights_along}
use Rattle.proof_giving.proofs.proof_queue_Segments.{Shows}
use Rattle.proof_choice.specs.Counting.{KnowsCounts, KnowsReady}
use Rattle.proof_choice.specs.Served.{ServedAsTold}
use Rattle.proof_choice.specs.Turning.{AllAlong, KnowsAll}
use Rattle.proof_choice.specs.Waits.{AskingGround, KnowsWants}
use Rattle.proof_choice.proofs.Along.{both_along, every_along, law_along, so_along, walks_along}
use Rattle.proof_choice.proofs.Owners.{OwnLaw, owners_walk}
use Rattle.proof_choice.proofs.ServedTie.{first_served, served_lasts}
use Rattle.proof_choice.proofs.Wanting.{attempts_along, tied_along, wants_along}
use Rattle.proof_choice.proofs.ReadyAlong.{first_ready, judges_ready, known_ready}
use Rattle.proof_choice.proofs.ReadyStarts.{starts_ready}
use Rattle.proof_choice.proofs.ReadyWalk.{readies_along}
use Rattle.proof_choice.specs.Readying.{ReadyAsTold, ReadyGround}
use Rattle.proof_giving.specs.Walking.{Grounds as Known, KnowsAttempts}
use Rattle.proof_choice.proofs.Whole.{Grounds, knows_all}
use Rattle.proof_choice.proofs.laws.hosts_know_what_they_choose.Goals as goal

module _ (c : goal.After-hosts_show_open_sessions) (keys : Keys) where
  abbrev start : HostMachine
  start = first_alone keys (Some [])

  brings : PayloadsBring
  brings = let laws = c.attempts_have_what_they_give.ensures in record { starts = laws.first_payload; segments = laws.segment_payload; texts = laws.text_payload }

  facts : (here : Phase) (told : List Entry) (m : HostMachine) → Run start here told m → Facts told m.state
  facts here told m run = (c.hosts_ask_as_told.ensures.run keys here told m run).0.0.0.0.0.0.facts

  tells : (here : Phase) (told : List Entry) (m : HostMachine) → Run start here told m → KnowsTold here told m
  tells here told m run = (run_keeps (Allows may_wake) KnowsWhole c.hosts_know_what_was_told.ensures.walk [] run (c.hosts_know_what_was_told.ensures.first keys)).1.0.1

  sights : (here : Phase) (told : List Entry) (m : HostMachine) → Run start here told m → Sights here told m
  sights =
      sights_along start (c.hosts_tell_of_sleep.ensures keys) (c.hosts_know_what_nodes_list.ensures.run keys) (c.hosts_run_series_as_told.ensures.along keys) (c.hosts_hold_as_told.ensures.along keys)
      (λ here told m run tables n. c.hosts_show_open_sessions.ensures.told told m.state n tables.facts (c.hosts_keep_what_is_said.ensures.table keys here told m run n).numbers) tells

  shows : (here : Phase) (told : List Entry) (m : HostMachine) → Run start here told m → (n : ℕ) → Shows told m.state n
  shows here told m run n =
      let so = (c.hosts_count_attempts.ensures.grounds keys (λ past carried. []) here told m run).shows n in
      record { sessions_are = so.sessions_are; opened = so.opened; last = so.last; carried = so.carried }

  grounds : (here : Phase) (told : List Entry) (m : HostMachine) → Run start here told m → Grounds here told m
  grounds here told m run =
      let asks = c.hosts_ask_as_told.ensures.run keys here told m run in
      record {
        sights = sights here told m run;
        shows = shows here told m run;
        waits = λ n. c.hosts_show_open_sessions.ensures.waits told m.state n (facts here told m run) (c.hosts_keep_what_is_said.ensures.table keys here told m run n).numbers;
        requests = asks.0;
        asks = asks.1;
        blocks = c.hosts_block_as_told.ensures keys here told m run;
        plans = c.hosts_give_as_carried.ensures keys here told m run;
        own = law_along start KnowsTold OwnLaw owners_walk run (every_along start KnowsTold tells run);
      }

  module _ (taken : List Entry → Carried → List Told) where
    abbrev heeds : Heeds
    heeds = heeds_alone taken

    asking : {here : Phase} {told : List Entry} {m : HostMachine} → (run : Run start here told m) → Careful run → AllSteps (HeedsSo heeds) run → AllAlong (AskingGround heeds) run
    asking run careful sure =
        both_along start (both_know RequestsGround KnowsAsked) (KnowsWants heeds) run (every_along start (both_know RequestsGround KnowsAsked) (c.hosts_ask_as_told.ensures.run keys) run)
        (wants_along start taken (c.hosts_queue_as_told.ensures.submits keys taken) (c.hosts_queue_as_told.ensures.rests keys taken) run careful sure)

    served : {here : Phase} {told : List Entry} {m : HostMachine} → (run : Run start here told m) → AllAlong (AskingGround heeds) run → AllAlong (KnowsSince (ServedAsTold heeds)) run
    served run asks =
        walks_along start (AskingGround heeds) (KnowsSince (ServedAsTold heeds)) (since_walk (ServedAsTold heeds) (AskingGround heeds) (served_lasts taken brings)) (first_served heeds keys) run asks

    abbrev More : Knowledge
    More = both_know (both_know (KnowsCounts heeds) (KnowsReady heeds)) (KnowsSince (ServedAsTold heeds))

    all : {here : Phase} {told : List Entry} {m : HostMachine} → (run : Run start here told m) → AllAlong (AskingGround heeds) run → AllAlong (KnowsCounts heeds) run → AllAlong (KnowsReady heeds) run
        → AllAlong (KnowsAll heeds) run
    all run asks counts ready =
        so_along start (both_know Grounds More) (KnowsAll heeds) (knows_all c.attempts_leave_none_to_give_up.ensures.over taken) run
        (both_along start Grounds More run (every_along start Grounds grounds run)
        (both_along start (both_know (KnowsCounts heeds) (KnowsReady heeds)) (KnowsSince (ServedAsTold heeds)) run (both_along start (KnowsCounts heeds) (KnowsReady heeds) run counts ready) (served run asks)))

    -- messages that are ready
    readies : {here : Phase} {told : List Entry} {m : HostMachine} → (run : Run start here told m) → Careful run → AllSteps (HeedsSo heeds) run → AllSteps (HeedsAs heeds) run → AllAlong (KnowsReady heeds) run
    readies run careful sure as_told =
        let grows = c.attempts_grow_by_entries.ensures.along in
        let stays = c.attempts_stay_with_the_request.ensures in
        let grounds_so = c.hosts_count_attempts.ensures.grounds keys taken in
        let ground : AllAlong (ReadyGround heeds) run
        = both_along start (both_know (Known heeds) (KnowsAttempts heeds)) (KnowsWants heeds) run
        (both_along start (Known heeds) (KnowsAttempts heeds) run (every_along start (Known heeds) grounds_so run)
        (tied_along start heeds (c.hosts_count_attempts.ensures.known keys taken) run careful sure as_told))
        (wants_along start taken (c.hosts_queue_as_told.ensures.submits keys taken) (c.hosts_queue_as_told.ensures.rests keys taken) run careful sure) in
        so_along start (KnowsSince (ReadyAsTold heeds)) (KnowsReady heeds) (known_ready heeds) run
        (readies_along grows brings taken (judges_ready stays.inner stays.keeps grows brings taken) (starts_ready c.texts_give_one_thing.ensures.one grows brings taken) start (first_ready heeds (λ n. refl) keys) grounds_so run
        as_told ground)

pub returns : goal.returns
returns c = λ keys taken here told m run careful sure as_told.
    let asks = asking c keys taken run careful sure in
    both_along (first_alone keys (Some [])) (AskingGround (heeds_alone taken)) (KnowsAll (heeds_alone taken)) run asks
    (all c keys taken run asks (attempts_along (first_alone keys (Some [])) (heeds_alone taken) (c.hosts_count_attempts.ensures.known keys taken) run careful sure as_told)
    (readies c keys taken run careful sure as_told))
