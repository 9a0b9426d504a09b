-- What the segments of an attempt ask of what is known beside, at an event of a stretch for a node alone that listens.
use Rattle.std.proofs.Common.{◌≡◌, ℕ, Bool, true, Some, List, length, refl}
use Rattle.chip_functions.specs.Field.{IsNode}
use Rattle.device_kinds.specs.Kind.{lists}
use Rattle.supervision.specs.Host.{begun_of}
use Rattle.host_node.specs.Search.{next_of}
use Rattle.host_node.specs.declared.series.Series.TheVariants as series
use Rattle.host_model.specs.State.{HostState, node_of}
use Rattle.chip_sim.specs.Nodes.{is_marked}
use Rattle.outside_model.specs.Events.{Wakes_device}
use Rattle.world_model.specs.Events.{Event, May, Outside_does, happens}
use Rattle.world_model.specs.State.{Machine}
use Rattle.proof_answered.specs.proof_calm.proof_work.proof_walk.Phases.{Goes, Phase}
use Rattle.proof_answered.specs.proof_calm.Awaited.{AwaitsAt}
use Rattle.proof_answered.specs.proof_calm.Resting.{LineAt}
use Rattle.proof_answered.specs.proof_calm.Routed.{IsRouted}
use Rattle.proof_answered.specs.proof_calm.Tied.{IsPeopled, RoomAt, TieAt, unheard}
use Rattle.proof_answered.specs.Heard.{AllSayHeard}
use Rattle.proof_answered.specs.Outward.{AllListen, IsSentTo}
use Rattle.proof_answered.specs.Sleepers.{IsAlone}
use Rattle.proof_answered.specs.Workers.{IsLineFor, KnowsWorkers, LinesAt, OnlySpeak}
use Rattle.proof_answered.proofs.Outwards.{awaits_of}
use Rattle.proof_answered.proofs.SleeperAloft.{none_aborted}
use Rattle.proof_answered.proofs.Staffed.{line_on}
use Rattle.proof_answered.proofs.proof_traffic_Parts.{Airs}
use Rattle.proof_in_time.specs.Coming.{AreInAir}
use Rattle.proof_in_time.specs.InStep.{HasInStep}
use Rattle.proof_in_time.specs.Openly.{GoOpenly}
use Rattle.proof_in_time.proofs.Bounded.{begun_where}
use Rattle.proof_in_time.proofs.PartsArriving.{SegmentLaws}
use Rattle.proof_in_time.proofs.PartsAround.{none_wants, owns_next, takes_all, ticks_plainly, wakes_same}
use Rattle.proof_in_time.proofs.PartsGoing.{Around, WakesSilently}
use Rattle.proof_in_time.proofs.Plainly.{Tells}

-- what is known at a phase of quiet lines and ticks
pub record TiedAt (these : List Bool) (here : Phase) (m : Machine) : Type 0 where
  pub line : LineAt here m
  pub awaits : AwaitsAt here m
  pub room : RoomAt here m
  pub routed : IsRouted m.outside.outer
  pub tie : TieAt here m
  pub peopled : IsPeopled these m

module _ (airs : Airs) (laws : SegmentLaws) (these : List Bool) (many : length these ≡ 233) (n : ℕ) (alone : IsAlone these n) (is_node : IsNode n) (tells : Tells)
    (workers : (h : HostState) (k : ℕ) → KnowsWorkers these h → next_of h.nodes h.served ≡ Some k → is_marked these k ≡ true) where
  module _ (here next : Phase) (m : Machine) (event : Event) (goes : Goes here m event next) (may : May m event) (tied : TiedAt these here m) (then_tied : TiedAt these next (happens m event)) (sent : IsSentTo these m event)
      (lines : LinesAt these here) (speak : OnlySpeak these m) (knows : KnowsWorkers these m.host.state) (go : GoOpenly these m.host.state.commands) (joined : AreInAir these m) (listen : AllListen these m) (step : HasInStep n m)
      (cut : lists step.device.kind 0x55 ≡ true) (served : (node_of m.host.state n).listens ≡ true) (calls : AllSayHeard (unheard m.outside.outer)) where
    silent_so : (one : Event) → IsLineFor these one → WakesSilently airs laws these many n (begun_of (node_of m.host.state n).book) alone is_node m one
    silent_so (Outside_does (Wakes_device node route)) marked = wakes_same these n alone m step (listen.nodes n alone.marked) node route marked
    silent_so one marked = tt

    pub around_of : (node_of m.host.state n).series ≡ series.Running → Around airs laws these many n (begun_of (node_of m.host.state n).book) alone is_node here next m event
    around_of running =
        let is = awaits_of here m tied.awaits in
        let some = begun_where (node_of m.host.state n) (tied.peopled.facts.nodes.facts n) running in
        let all = takes_all these n alone m step airs is_node (begun_of (node_of m.host.state n).book) refl some cut listen is tied.peopled.live in
        record {
          may = may;
          line = tied.line;
          awaits = tied.awaits;
          room = tied.room;
          routed = tied.routed;
          none_aborted = none_aborted here m tied.line;
          tie = tied.tie;
          peopled = tied.peopled;
          then_line = then_tied.line;
          then_awaits = then_tied.awaits;
          then_routed = then_tied.routed;
          then_none = none_aborted next (happens m event) then_tied.line;
          then_tie = then_tied.tie;
          sent = sent;
          silent = silent_so event (line_on these here next m event goes lines);
          calls = calls;
          go = go;
          joined = joined n alone.marked;
          takes = all.takes;
          heard = all.heard;
          owns = λ frame next_is home. owns_next these n alone m airs is speak frame next_is;
          plainly = λ place drawn device there. ticks_plainly these n alone m step tells speak place drawn device there;
          wants = none_wants these n alone m knows served;
          workers = λ k is_next. workers m.host.state k knows is_next;
          begun = refl;
          running = running;
        }
