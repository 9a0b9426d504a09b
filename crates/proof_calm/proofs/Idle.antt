-- A side that takes bytes where none are on their way to it does nothing.
use Rattle.std.proofs.Common.{◌≡◌, ℕ, List, [], ◌∷◌, map, length, take, refl, sym, ap, ◌∙◌, subst, arith}
use Rattle.std.proofs.lemmas.List.{drop_all, take_all}
use Rattle.std.specs.Prelude.{Option}
use Rattle.serial_frame.specs.Frame.{FrameParts}
use Rattle.serial_frame.specs.Stream.{Rest, Feeds, no_rest, ticks_after}
use Rattle.serial_frame.specs.declared.item.Item.{Item}
use Rattle.serial_frame.specs.declared.unit.Unit.{Unit as LineUnit}
use Rattle.serial_frame.proofs.First.{one_reading}
use Rattle.serial_link.specs.declared.turn.Turn.{Turn}
use Rattle.serial_pipes.specs.State.{WayState}
use Rattle.route_table.specs.declared.route.Route.{Route}
use Rattle.chip_sim.specs.State.{ChipParts}
use Rattle.chip_sim.specs.Did.{judged_all}
use Rattle.host_model.specs.State.{HostState}
use Rattle.host_model.specs.Events.{HostEvent}
use Rattle.host_model.specs.Did.{after_all, outs_all}
use Rattle.host_model.specs.Taking.{AreJudged}
use Rattle.outside_model.specs.State.{OuterState, Outcome, each}
use Rattle.outside_model.specs.Chip.{chip_does, chip_takes}
use Rattle.outside_model.specs.Events.{Chip_takes, outcome, May as MayOutside}
use Rattle.world_model.specs.State.{Machine}
use Rattle.world_model.specs.Events.{Outside_does, Host_takes, fed, happens, May}
use Rattle.proof_serial.specs.Way.{written_all}
use Rattle.proof_serial.specs.Chip.{HasFrames}
use Rattle.proof_serial.specs.Line.{host_units}
use Rattle.serial_frame.proofs.Streams.{same_rest}
use Rattle.proof_serial.proofs.Outer.{routed_all}
use Rattle.proof_calm.specs.Passes.{chip_taken, ChipMayTake, AtChip, OnLine}
use Rattle.proof_calm.proofs.Unmarked.{event_unmarked}
use Rattle.proof_calm.proofs.ChipTurns.{entered_chip}
use Rattle.proof_calm.proofs.ChipPart.{taken, empty, entered_state}
use Rattle.proof_calm.proofs.HostTurns.{took}

pub fed_none : (bytes : List ℕ) (start rest : Rest) (items : List Item) → start ≡ no_rest → bytes ≡ [] → Feeds start (take (length bytes) bytes) rest items → (items ≡ []) × (rest ≡ no_rest)
fed_none bytes start rest items starts none fed =
    let all : take (length bytes) bytes ≡ [] = take_all (length bytes) bytes (omega arith) ∙ none in
    let here : Feeds no_rest [] rest items = subst (λ (r : Rest). Feeds r [] rest items) starts (subst (λ (bs : List ℕ). Feeds start bs rest items) all fed) in
    let same = one_reading [] [] items [] rest.bytes (tt, refl) here.reads in
    (sym same.0, same_rest rest no_rest (sym same.1) (here.ticks ∙ ap (ticks_after 0) (sym same.0)))

-- ---- the chip

pub no_ways : (ways : List (Item × Option Route)) → map (λ (w : Item × Option Route). w.0) ways ≡ [] → ways ≡ []
no_ways [] none = refl
no_ways (way ∷ ways) none = absurd cc

pub chip_idles : (m : Machine) (down : List LineUnit) (host turn : Turn) (frames : List FrameParts) (rest : Rest) (ways : List (Item × Option Route)) → OnLine [] down host turn frames m → ChipMayTake m rest ways
    → OnLine [] down host turn frames (chip_taken m rest ways) × ((chip_taken m rest ways).outside.outer.chip.state ≡ m.outside.outer.chip.state) × ((chip_taken m rest ways).host ≡ m.host)
unfolding happens May MayOutside outcome
chip_idles m down host turn frames rest ways line may =
    let o : OuterState = m.outside.outer in
    let count : ℕ = length o.to_chip.bytes in
    let x : Outcome = chip_takes o count rest ways in
    let none = fed_none o.to_chip.bytes o.chip.decoder rest (map (λ (w : Item × Option Route). w.0) ways) line.at_chip.decoder line.at_chip.up_bytes may.1.feeds in
    let p : OuterState = taken o rest in
    let is : x.outer ≡ p = ap (λ (l : List (Item × Option Route)). (each chip_does p (judged_all l)).outer) (no_ways ways none.0) in
    let at : AtChip [] down turn frames p.to_chip p.to_host p.chip =
    record { up_bytes = empty o rest; down_bytes = line.at_chip.down_bytes; decoder = none.1; turn_is = line.at_chip.turn_is; waiting = line.at_chip.waiting; fit = line.at_chip.fit; none_given_up = line.at_chip.none_given_up } in (
      record {
        unmarked = event_unmarked m (Outside_does (Chip_takes count rest ways)) tt may line.unmarked;
        at_chip = entered_chip x.outer x.entries (subst (λ (n : OuterState). AtChip [] down turn frames n.to_chip n.to_host n.chip) (sym is) at);
        at_host = line.at_host;
      },
      entered_state x.outer x.entries ∙ ap (λ (n : OuterState). n.chip.state) is,
      refl,
    )

-- ---- the host

pub host_idles : (m : Machine) (host turn : Turn) (frames : List FrameParts) (rest : Rest) (items : List Item) (events : List HostEvent) → OnLine [] [] host turn frames m
    → May m (Host_takes (length m.outside.outer.to_host.bytes) rest items events)
    → let n : Machine = happens m (Host_takes (length m.outside.outer.to_host.bytes) rest items events) in
    OnLine [] [] host turn frames n × (n.outside.outer.chip ≡ m.outside.outer.chip) × (n.host.state ≡ m.host.state)
unfolding happens May
host_idles m host turn frames rest items events line may =
    let h : HostState = m.host.state in
    let o : OuterState = m.outside.outer in
    let count : ℕ = length o.to_host.bytes in
    let n : Machine = happens m (Host_takes count rest items events) in
    let read = fed_none o.to_host.bytes m.host.decoder rest items line.at_host.decoder line.at_chip.down_bytes may.feeds in
    let none : events ≡ [] = subst (λ (l : List Item). AreJudged h l events) read.0 may.judged in
    let same : n.host.state ≡ h = ap (after_all h) none in
    let there = took m count rest in
    let written = routed_all (fed m count rest).outside (outs_all h events) in
    let chip : n.outside.outer.chip ≡ o.chip = written.chip ∙ there.chip in
    let to_chip : n.outside.outer.to_chip ≡ o.to_chip =
    written.to_chip ∙ ap (λ (l : List HostEvent). written_all (fed m count rest).outside.outer.to_chip (host_units (outs_all h l))) none ∙ there.to_chip in (
      record {
        unmarked = event_unmarked m (Host_takes count rest items events) tt may line.unmarked;
        at_chip = record {
          up_bytes = ap (λ (w : WayState). w.bytes) to_chip ∙ line.at_chip.up_bytes;
          down_bytes = ap (λ (w : WayState). w.bytes) (written.to_host ∙ there.to_host) ∙ drop_all count o.to_host.bytes (omega arith);
          decoder = ap (λ (c : ChipParts). c.decoder) chip ∙ line.at_chip.decoder;
          turn_is = ap (λ (c : ChipParts). c.state.port.side.turn) chip ∙ line.at_chip.turn_is;
          waiting = ap (λ (c : ChipParts). c.state.port.waiting) chip ∙ line.at_chip.waiting;
          fit = subst (λ (c : ChipParts). HasFrames c.state.port) (sym chip) line.at_chip.fit;
          none_given_up = ap (λ (c : ChipParts). c.state.aborted) chip ∙ line.at_chip.none_given_up;
        };
        at_host = record { decoder = read.1; turn_is = ap (λ (g : HostState). g.side.turn) same ∙ line.at_host.turn_is };
      },
      chip,
      same,
    )
