-- What is known at an event of a stretch for one node alone that listens and takes segments, and where a phase turns into another.
use Rattle.std.proofs.Common.{◌≡◌, ℕ, Bool, true, List}
use Rattle.device_kinds.specs.Kind.{lists}
use Rattle.host_node.specs.declared.attempt.Plan.{Plan}
use Rattle.host_model.specs.Events.{Begin_unkept, Starts}
use Rattle.host_model.specs.State.{node_of}
use Rattle.world_model.specs.Events.{Event, Host_does, May, happens}
use Rattle.world_model.specs.State.{Machine}
use Rattle.proof_answered.specs.proof_calm.proof_work.Line.{HasOnLine}
use Rattle.proof_answered.specs.proof_calm.proof_work.proof_walk.Phases.{Goes, Phase, To_tick, Turns}
use Rattle.proof_answered.specs.proof_calm.Awaited.{AwaitsAt}
use Rattle.proof_answered.specs.proof_calm.Resting.{LineAt}
use Rattle.proof_answered.specs.proof_calm.Routed.{IsRouted}
use Rattle.proof_answered.specs.proof_calm.Tied.{IsPeopled, PumpedAt, RoomAt, TieAt, unheard}
use Rattle.proof_answered.specs.Heard.{AllSayHeard, IsHeardThen}
use Rattle.proof_answered.specs.Outward.{AllListen, IsSentTo}
use Rattle.proof_answered.specs.Workers.{KnowsWorkers, LinesAt, OnlySpeak}
use Rattle.proof_in_time.specs.Coming.{AreInAir}
use Rattle.proof_in_time.specs.InStep.{HasInStep}
use Rattle.proof_in_time.specs.Openly.{GoOpenly}
use Rattle.proof_in_time.proofs.Lasting.{KeepsAll}
use Rattle.proof_in_time.proofs.PartsGoing.{TiedThen}
use Rattle.proof_in_time.proofs.PartsSupplied.{TiedAt}

abbrev pub AllTied : List Bool → Phase → Machine → Type 0
AllTied these here m = LineAt here m × AwaitsAt here m × RoomAt here m × IsRouted m.outside.outer × HasOnLine m.host.state × PumpedAt here m × TieAt here m × IsPeopled these m

pub tied_at : (these : List Bool) (here : Phase) (m : Machine) → AllTied these here m → TiedAt these here m
tied_at these here m t = record { line = t.0; awaits = t.1; room = t.2; routed = t.3; tie = t.6; peopled = t.7 }

pub tied_then : (these : List Bool) (next : Phase) (m : Machine) → AllTied these next m → TiedThen these next m
tied_then these (To_tick ticks) m t = record { rests = t.0; awaits = t.1; routed = t.3; on_line = t.4; pumped = t.5; tie = t.6; peopled = t.7 }
tied_then these next m t = tt

-- at an event of a stretch for one such node
pub record Beside (these : List Bool) (n : ℕ) (here next : Phase) (m : Machine) (event : Event) : Type 0 where
  pub goes : Goes here m event next
  pub may : May m event
  pub tied : TiedAt these here m
  pub then_tied : TiedAt these next (happens m event)
  pub sent : IsSentTo these m event
  pub hears : IsHeardThen m event
  pub keeps : KeepsAll event
  pub kept : (k : ℕ) → event ≡ Host_does (Begin_unkept k) → ⊥
  pub lines : LinesAt these here
  pub speak : OnlySpeak these m
  pub knows : KnowsWorkers these m.host.state
  pub calls : AllSayHeard (unheard m.outside.outer)
  pub go : GoOpenly these m.host.state.commands
  pub joined : AreInAir these m
  pub listen : AllListen these m
  pub step : HasInStep n m
  pub cut : lists step.device.kind 0x55 ≡ true
  pub served : (node_of m.host.state n).listens ≡ true

-- and with none
pub record BesideTurn (these : List Bool) (here next : Phase) (m : Machine) : Type 0 where
  pub turns : Turns here m next
  pub tied : AllTied these here m
  pub then_tied : AllTied these next m

-- it is not one at which an attempt of the node starts
abbrev pub StartsNone : ℕ → Event → Type 0
StartsNone n event = (plan : Plan) (more : Bool) (payload : List ℕ) → event ≡ Host_does (Starts n plan more payload) → ⊥
