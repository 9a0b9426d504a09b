-- The work of a host alone stays in order at each step, and a pump leaves nothing that is due without its request.
use Rattle.std.proofs.Common.{◌≡◌, ℕ, true, false, List, [], ◌∷◌, refl, sym, subst, append-nil}
use Rattle.std.specs.Prelude.{Option, Some, None, IsSome}
use Rattle.std.specs.List.{AllByRecursion}
use Rattle.serial_frame.specs.declared.item.Item.{Item}
use Rattle.serial_frame.specs.declared.unit.Unit.{Unit as LineUnit}
use Rattle.s0_crypto.specs.declared.key_pair.Keys.{Keys}
use Rattle.zw_text.specs.declared.line.Line.{Line}
use Rattle.zw_text.specs.declared.line.Line.TheVariants as lines
use Rattle.zw_text.specs.declared.entry.Entry.{Entry}
use Rattle.host_keep.specs.Legal.{AreLegal}
use Rattle.host_keep.specs.declared.record.Record.{Record}
use Rattle.host_node.specs.Search.{first_wanting}
use Rattle.host_node.specs.State.{NodeState}
use Rattle.proof_requests.specs.host_model.State.{HostState}
use Rattle.proof_requests.specs.host_model.Events.{HostEvent, Hears}
use Rattle.proof_requests.specs.host_model.After.{after}
use Rattle.proof_requests.specs.host_model.May.{May}
use Rattle.proof_requests.specs.host_model.Opening.{opened}
use Rattle.proof_requests.specs.host_model.Pumping.{IsNext, IsPumped, no_more_event}
use Rattle.proof_requests.specs.host_model.Taking.{AreJudged}
use Rattle.proof_requests.specs.host_model.Ticking.{tick_events}
use Rattle.proof_requests.proofs.Submitted.{SleepersAre, SubmittedAre, next_is, no_more_is}
use Rattle.proof_work.specs.world_model.Events.{OpensFrom}
use Rattle.proof_requests.specs.proof_alone.State.{HostMachine}
use Rattle.proof_requests.specs.proof_alone.Steps.{IsAskedBy}
use Rattle.proof_requests.specs.proof_alone.Phases.{Phase, Resting, Asked, Risen, Ticking, Open, Behind, Sleeping, Submitting, GoesBy, IsJudgedNow, Turns}
use Rattle.proof_requests.specs.proof_alone.Tables.{KnowsTables}
use Rattle.proof_work.specs.Doing.{IsDone}
use Rattle.proof_work.specs.Rests.{IsTended, NoneWants}
use Rattle.proof_work.specs.Work.{HostWork}
use Rattle.proof_attempts.specs.Since.{IsElse, KnowsSince, Lasts}
use Rattle.proof_attempts.specs.Working.{IsWorked, WorksInOrder}

sleepers_done : SleepersAre IsDone
sleepers_done = record { queues = λ n. tt; drops = λ n. tt }

submitted_done : SubmittedAre IsDone
submitted_done = record {
  abort = tt;
  front = tt;
  starts = λ n plan more payload. tt;
  text = λ n payload. tt;
  segment = λ n more payload. tt;
  begins = λ n session command. tt;
  unkept = λ n. tt;
}

-- what a line asks for is done by hosts
as_done : (event these : HostEvent) → event ≡ these → IsDone these → IsDone event
as_done event these is done = subst IsDone (sym is) done

asked_done : (line : Line) (h : HostState) (event : HostEvent) → IsAskedBy line h event → IsDone event
asked_done (lines.Command order) h event is = as_done event _ is tt
asked_done (lines.Send node word) h event is = as_done event _ is.1 tt
asked_done (lines.Get node end) h event is = as_done event _ is.1 tt
asked_done (lines.Join node) h event is = as_done event _ is tt
asked_done (lines.Interview node) h event is = as_done event _ is.1 tt
asked_done (lines.Cancel command) h event is = as_done event _ is tt
asked_done lines.Discover h event is = as_done event _ is.1 tt
asked_done (lines.Neighbours node) h event is = as_done event _ is.1 tt
asked_done (lines.Failed node) h event is = as_done event _ is.1 tt
asked_done lines.Probe h event is = as_done event _ is.1 tt
asked_done line h event is = absurd is

-- what the facts of work say
pub record Laws : Type 0 where
  pub each : (h : HostState) (event : HostEvent) → HostWork h → IsDone event → May h event → HostWork (after h event)
  pub opens : (keys : Keys) (records : List Record) → AreLegal records → HostWork (opened keys records)
  pub items : (h : HostState) (items : List Item) (events : List HostEvent) → AreJudged h items events → AllByRecursion IsDone events
  pub ticks : (h : HostState) → AllByRecursion IsDone (tick_events h)
  pub told : (nodes : List NodeState) → first_wanting nodes ≡ None → NoneWants nodes
  pub submits : (h : HostState) (event : HostEvent) → IsNext h event → NoneWants h.nodes → NoneWants (after h event).nodes
  pub ends : (h : HostState) → HostWork h → NoneWants h.nodes → IsPumped h → IsTended h

module _ (laws : Laws) where
  started : (keys : Keys) (records : Option (List (List ℕ))) (state : HostState) → IsSome records → OpensFrom keys records state → HostWork state
  started keys None state told opens = let bad : false ≡ true = told in absurd cc
  started keys (Some texts) state told (records, are, legal, is) = subst HostWork (sym is) (laws.opens keys records legal)

  worked_at : (next to : Phase) (h : HostState) → next ≡ to → IsWorked to h → IsWorked next h
  worked_at next to h is worked = subst (λ (p : Phase). IsWorked p h) (sym is) worked

  does_work : (here next : Phase) (h : HostState) (event : HostEvent) → GoesBy here h event next → May h event → HostWork h × IsWorked here h → HostWork (after h event) × IsWorked next (after h event)
  does_work (Ticking (first ∷ left)) next h event goes may (work, done) =
      (laws.each h event work (as_done event first goes.0 done.0) may, worked_at next (Ticking left) (after h event) goes.1 done.1)
  does_work (Behind (first ∷ left)) next h event goes may (work, done) =
      (laws.each h event work (as_done event first goes.0 done.0) may, worked_at next (Behind left) (after h event) goes.1 done.1)
  does_work Sleeping next h event (node, wants, is, to_is) may (work, done) =
      (laws.each h event work (as_done event (no_more_event h node) is (no_more_is IsDone sleepers_done h node)) may, worked_at next Sleeping (after h event) to_is tt)
  does_work Submitting next h event goes may (work, none) =
      (laws.each h event work (next_is IsDone submitted_done h event goes.0) may, worked_at next Submitting (after h event) goes.1 (laws.submits h event goes.0 none))
  does_work here next h event goes may known = absurd goes

  turn_work : (here next : Phase) (m : HostMachine) → IsElse here → Turns here m next → HostWork m.state → IsWorked here m.state → IsWorked next m.state
  turn_work Resting next m other is work worked = worked_at next Open m.state is tt
  turn_work (Asked line) next m other is work worked = absurd other
  turn_work Risen next m other is work worked = worked_at next (Ticking (tick_events m.state)) m.state is (laws.ticks m.state)
  turn_work (Ticking []) next m other is work worked = worked_at next Open m.state is tt
  turn_work (Ticking (event ∷ left)) next m other is work worked = absurd is
  turn_work Open next m other is work worked = worked_at next Sleeping m.state is tt
  turn_work (Behind []) next m other is work worked = worked_at next Open m.state is tt
  turn_work (Behind (event ∷ left)) next m other is work worked = absurd is
  turn_work Sleeping next m other is work worked = worked_at next Submitting m.state is.1 (laws.told m.state.nodes is.0)
  turn_work Submitting next m other is work worked = worked_at next Resting m.state is.1 (laws.ends m.state work worked is.0)

  -- what follows an item
  behind_done : (m : HostMachine) (item : Item) (rest : List LineUnit) (behind : List HostEvent) (told : List Entry) → IsJudgedNow m item rest behind told → AllByRecursion IsDone behind
  behind_done m item rest behind told now =
      let events : List HostEvent = Hears item ∷ behind in
      (laws.items m.state (item ∷ []) events (events, [], sym (append-nil events), (behind, refl, now.followed), refl)).1

  pub work_lasts : Lasts KnowsTables WorksInOrder
  work_lasts = record {
    loose = λ here at past told m all numbered ground tie. tie;
    numbers = λ here past m other ground later tie. tie;
    said = λ past words m none ground goes_on tie. tie;
    refused = λ past words line refusal m none ground later tie. (tie.0, tt);
    asked = λ line past m event is may numbered ground later tie. (laws.each m.state event tie.0 (asked_done line m.state event is) may.0, tt);
    starts = λ before words m state opens anew ground later. (started m.keys m.records state ground.0.told opens, tt);
    opens = λ past h clock tie. (tie.0, tt);
    rises = λ past m ground tie. tie;
    judges = λ past m item rest behind told now ground later tie. (laws.each m.state (Hears item) tie.0 tt tt, behind_done m item rest behind told now);
    does = λ here next past m event told may ground later tie. does_work here next m.state event may.0 may.1.0 tie;
    turn = λ here next past m other turns ground tie. (tie.0, turn_work here next m other turns tie.0 tie.1);
  }

-- at each phase it is in order
pub in_order : (here : Phase) (past : List Entry) (m : HostMachine) → KnowsSince WorksInOrder here past m → HostWork m.state
in_order (Asked line) past m known = known.tie.0
in_order here past m known = known.0
