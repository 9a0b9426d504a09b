-- In each line hosts do such events alone, and each event of the machine keeps the host's work in order.
use Rattle.std.proofs.Common.{◌≡◌, ℕ, true, false, List, [], ◌∷◌, sym, subst}
use Rattle.std.specs.Prelude.{Option, Some, None, IsSome}
use Rattle.s0_crypto.specs.declared.key_pair.Keys.{Keys}
use Rattle.zw_text.specs.declared.line.Line.{Line}
use Rattle.zw_text.specs.declared.line.Line.TheVariants.{Command, Send, Get, Join, Interview, Cancel, Discover, Neighbours, Failed, Probe}
use Rattle.host_keep.specs.Legal.{AreLegal}
use Rattle.host_keep.specs.declared.record.Record.{Record}
use Rattle.proof_walk.specs.host_model.State.{HostState}
use Rattle.proof_walk.specs.host_model.Events.{HostEvent}
use Rattle.proof_walk.specs.host_model.Opening.{opened}
use Rattle.proof_walk.specs.world_model.State.{Machine}
use Rattle.proof_walk.specs.world_model.Events.{Event, Outside_does, Host_does, Host_takes, Decoder_ticks, Refuses, Shows_values, Restarts, OpensFrom, happens, May}
use Rattle.proof_walk.specs.world_model.Did.{MayAll, happens_all}
use Rattle.proof_walk.specs.world_model.Lines.{IsEffect}
use Rattle.proof_walk.specs.world_model.Prefixes.{LinePart, IsLineBefore}
use Rattle.proof_walk.proofs.Along.{IsAskedBy, IsOfPart, IsOfEffect, along, pieces_along, effect_along}
use Rattle.proof_walk.proofs.Pieces.{Of, Law, Pieces, of_none, of_then, of_line_part, of_line_before}
use Rattle.proof_world.specs.proof_serial.Line.{AreLines}
use Rattle.proof_world.specs.Restarts.{KeepsWell, AllKeepWell}
use Rattle.proof_work.specs.Doing.{IsDone}
use Rattle.proof_work.specs.Machines.{DoesWell, AllDoWell}
use Rattle.proof_work.specs.Work.{HostWork}
use Rattle.proof_work.proofs.Hosts.{Keeps, all_kept}
use Rattle.proof_work.proofs.Doing.{all_judged_done, own_done}

-- ---- lines

part_done : (m : Machine) (event : Event) → IsOfPart m event → DoesWell m event
part_done m (Host_does event) own = own_done event own
part_done m event is = tt

as_done : (event these : HostEvent) → event ≡ these → IsDone these → IsDone event
as_done event these is done = subst IsDone (sym is) done

host_done : (line : Line) (m : Machine) (event : HostEvent) → IsAskedBy line m event → IsDone event
host_done (Command order) m event is = as_done event _ is tt
host_done (Send node word) m event asks = as_done event _ asks.is tt
host_done (Get node end) m event asks = as_done event _ asks.is tt
host_done (Join node) m event is = as_done event _ is tt
host_done (Interview node) m event asks = as_done event _ asks.is tt
host_done (Cancel command) m event is = as_done event _ is tt
host_done Discover m event is = as_done event _ is tt
host_done (Neighbours node) m event is = as_done event _ is tt
host_done (Failed node) m event is = as_done event _ is tt
host_done Probe m event is = as_done event _ is tt
host_done line m event is = absurd is

effect_done : (line : Line) (m : Machine) (event : Event) → IsOfEffect line m event → DoesWell m event
effect_done line m (Host_does event) is = host_done line m event is
effect_done line m event is = tt

law : Law AllDoWell
law = along DoesWell

pieces : Pieces AllDoWell
pieces = pieces_along DoesWell part_done

pub effect : (line : Line) → Of AllDoWell (IsEffect line)
effect line = effect_along DoesWell line (effect_done line)

pub line_done : (line : Line) → Of AllDoWell (LinePart line)
line_done line = of_line_part AllDoWell law pieces line (effect line)

pub lines_done : (lines : List Line) → Of AllDoWell (AreLines lines)
lines_done [] m events is = of_none AllDoWell law m events is
lines_done (line ∷ lines) m events is =
    of_then AllDoWell law (IsLineBefore lines line) (AreLines lines) (of_line_before AllDoWell law pieces lines line (effect line)) (lines_done lines) m events is

-- ---- events of the machine

abbrev pub OpensWell : Type 0
OpensWell = (keys : Keys) (records : List Record) → AreLegal records → HostWork (opened keys records)

-- the keeper tells its records where the host starts again
abbrev pub Tells : Machine → Event → Type 0
Tells m (Restarts state) = IsSome m.records
Tells m event = Unit {0}

pub tells_if : (m : Machine) (event : Event) → KeepsWell m event → Tells m event
tells_if m (Restarts state) well = well
tells_if m event well = tt

module _ (keeps : Keeps) (opens : OpensWell) where
  starts_well : (keys : Keys) (records : Option (List (List ℕ))) (state : HostState) → OpensFrom keys records state → IsSome records → HostWork state
  starts_well keys None state from some = let bad : false ≡ true = some in absurd cc
  starts_well keys (Some texts) state (records, are, legal, is) some = subst HostWork (sym is) (opens keys records legal)

  pub machine_kept : (m : Machine) (event : Event) → HostWork m.host.state → May m event → DoesWell m event → Tells m event → HostWork (happens m event).host.state
  unfolding happens May
  machine_kept m (Outside_does event) w may does tells = w
  machine_kept m (Host_does event) w may does tells = keeps m.host.state event w does may.0
  machine_kept m (Host_takes count rest items events) w may does tells =
      all_kept keeps m.host.state events w (all_judged_done m.host.state items events may.judged) may.may
  machine_kept m Decoder_ticks w may does tells = w
  machine_kept m (Refuses line refusal) w may does tells = w
  machine_kept m (Shows_values node) w may does tells = w
  machine_kept m (Restarts state) w may does tells = starts_well m.keys m.records state may tells

  pub machines_kept : (m : Machine) (events : List Event) → HostWork m.host.state → MayAll m events → AllDoWell m events → AllKeepWell m events → HostWork (happens_all m events).host.state
  machines_kept m [] w may does well = w
  machines_kept m (event ∷ events) w may does well = machines_kept (happens m event) events (machine_kept m event w may.0 does.0 (tells_if m event well.0)) may.1 does.1 well.1
