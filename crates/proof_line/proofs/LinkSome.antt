-- In a line bytes are taken only where there are some.
use Rattle.std.proofs.Common.{◌≡◌, ℕ, ◌-◌, Bool, true, false, List, [], ◌∷◌, length, map, refl, sym, ◌∙◌, subst}
use Rattle.std.specs.List.{AllByRecursion}
use Rattle.zw_text.specs.declared.line.Line.{Line}
use Rattle.zw_text.specs.declared.line.Line.TheVariants as lines
use Rattle.proof_world.specs.host_model.Events.{HostEvent}
use Rattle.proof_world.specs.host_model.Ticking.{tick_events}
use Rattle.proof_walk.specs.outside_model.State.{is_stalled}
use Rattle.proof_walk.specs.outside_model.Events.{OuterEvent, Chip_takes}
use Rattle.proof_walk.specs.outside_model.Schedules.{TakesBy as ChipTakesBy}
use Rattle.proof_walk.specs.world_model.State.{Machine}
use Rattle.proof_walk.specs.world_model.Events.{Event, Outside_does, Host_does, Host_takes, Decoder_ticks, happens}
use Rattle.proof_walk.specs.world_model.Did.{AllAlong}
use Rattle.proof_walk.specs.world_model.Settling.{IsChipPart, IsHostPart, TakesBy}
use Rattle.proof_walk.specs.world_model.Lines.{IsEffect}
use Rattle.proof_walk.specs.world_model.Prefixes.{IsLineBefore}
use Rattle.proof_walk.proofs.Along.{TakesNone, along, arrivals_none, device_ticks_none, givings_none}
use Rattle.proof_walk.proofs.Pieces.{Of, Pieces, of_line_before, of_none, of_then}
use Rattle.proof_world.specs.proof_serial.Line.{AllWriteWell, AreLines}
use Rattle.proof_world.specs.proof_serial.Host.{AllAskWell}
use Rattle.proof_walk.specs.ByLine.{CoversLine, OfEffect}
use Rattle.proof_walk.proofs.ByLine.{effect_asks}
use Rattle.proof_line.specs.Linked.{IsOrderly, TakesSome}

abbrev All : Machine → List Event → Type 0
All = AllAlong TakesSome

-- ---- events that take nothing

outer_some : (m : Machine) (event : OuterEvent) → TakesNone event → TakesSome m (Outside_does event)
outer_some m (Chip_takes count rest ways) none = absurd none
outer_some m event none = tt

outers_some : (m : Machine) (inner : List OuterEvent) → AllByRecursion TakesNone inner → All m (map Outside_does inner)
outers_some m [] none = tt
outers_some m (event ∷ inner) none = (outer_some m event none.0, outers_some (happens m (Outside_does event)) inner none.1)

hosts_some : (m : Machine) (inner : List HostEvent) → All m (map Host_does inner)
hosts_some m [] = tt
hosts_some m (event ∷ inner) = (tt, hosts_some (happens m (Host_does event)) inner)

effect_some : (m : Machine) (events : List Event) → AllByRecursion (OfEffect TakesNone) events → All m events
effect_some m [] none = tt
effect_some m (Outside_does event ∷ events) none = (outer_some m event none.0, effect_some (happens m (Outside_does event)) events none.1)
effect_some m (Host_takes count rest items inner ∷ events) none = absurd none.0
effect_some m (event ∷ events) none = (tt, effect_some (happens m event) events none.1)

covers_line : (line : Line) → CoversLine TakesNone line
covers_line (lines.Repeat frame) = λ drawn route. tt
covers_line (lines.Wake node) = λ route. tt
covers_line (lines.Local node value) = λ route. tt
covers_line lines.Restart = (tt, tt)
covers_line line = tt

as_events : (m : Machine) (events are : List Event) → events ≡ are → All m are → All m events
as_events m events are is all = subst (λ (l : List Event). All m l) (sym is) all

-- ---- where bytes are taken

some_there : (bytes : List ℕ) (byte : ℕ) (more : List ℕ) → bytes ≡ byte ∷ more → bytes ≡ [] → ⊥
some_there bytes byte more there none = let is : byte ∷ more ≡ [] = sym there ∙ none in cc

chip_some : (m : Machine) (stalled : Bool) (bytes : List ℕ) (inner : List OuterEvent) → m.outside.outer.to_chip.bytes ≡ bytes → ChipTakesBy stalled bytes m.outside.outer inner → All m (map Outside_does inner)
chip_some m true bytes inner there is = subst (λ (l : List OuterEvent). All m (map Outside_does l)) (sym is) tt
chip_some m false [] inner there is = subst (λ (l : List OuterEvent). All m (map Outside_does l)) (sym is) tt
chip_some m false (byte ∷ bytes) inner there is =
    subst (λ (l : List OuterEvent). All m (map Outside_does l)) (sym is.are) (some_there m.outside.outer.to_chip.bytes byte bytes there, tt)

chip_part : Of All IsChipPart
chip_part m events (inner, is, are) =
    as_events m events (map Outside_does inner) are (chip_some m (is_stalled m.outside.outer) m.outside.outer.to_chip.bytes inner refl is)

host_some : (m : Machine) (stalled : Bool) (bytes : List ℕ) (events : List Event) → m.outside.outer.to_host.bytes ≡ bytes → TakesBy stalled bytes events → All m events
host_some m true bytes events there is = as_events m events [] is tt
host_some m false [] events there is = as_events m events [] is tt
host_some m false (byte ∷ bytes) events there (rest, items, inner, are) = as_events m events _ are (some_there m.outside.outer.to_host.bytes byte bytes there, tt)

host_part : Of All IsHostPart
host_part m events is = host_some m (is_stalled m.outside.outer) m.outside.outer.to_host.bytes events refl is

-- ---- lines

pieces : Pieces All
pieces = record {
  begins = λ m events are. as_events m events _ are (tt, tt);
  pump = λ m events pumps. as_events m events _ pumps.2 (hosts_some m pumps.0);
  chip_part = chip_part;
  host_part = host_part;
  clock = λ m events are. as_events m events _ are (tt, tt);
  delivery = λ m events is. as_events m events _ is.2 (outers_some m is.0 (arrivals_none (m.outside.outer.air.frames.sent - m.outside.outer.air.frames.landed) is.0 is.1));
  giving = λ m events is. as_events m events _ is.2 (outers_some m is.0 (givings_none (length m.outside.outer.due) is.0 is.1));
  device_tick = λ m events is. as_events m events _ is.2 (outers_some m is.0 (device_ticks_none 0 (length m.outside.devices) is.0 is.1));
  chip_tick = λ m events are. as_events m events _ are (tt, tt);
  host_tick = λ m events are. as_events m events _ are (tt, hosts_some (happens m Decoder_ticks) (tick_events m.host.state));
}

line_some : (line : Line) → Of All (IsEffect line)
line_some line m events is = effect_some m events (effect_asks TakesNone line m events (covers_line line) is)

lines_some : (said : List Line) → Of All (AreLines said)
lines_some [] m events is = of_none All (along TakesSome) m events is
lines_some (line ∷ said) m events is =
    of_then All (along TakesSome) (IsLineBefore said line) (AreLines said) (of_line_before All (along TakesSome) pieces said line (line_some line)) (lines_some said) m events is

-- ---- all that is asked of each event

both_orderly : (m : Machine) (events : List Event) → AllWriteWell m events → AllAskWell m events → All m events → AllAlong IsOrderly m events
both_orderly m [] writes asks takes = tt
both_orderly m (event ∷ events) writes asks takes =
    (record { writes = writes.0; asks = asks.0; takes = takes.0 }, both_orderly (happens m event) events writes.1 asks.1 takes.1)

pub lines_orderly : (said : List Line) (m : Machine) (events : List Event) → AreLines said m events → AllWriteWell m events → AllAskWell m events → AllAlong IsOrderly m events
lines_orderly said m events are writes asks = both_orderly m events writes asks (lines_some said m events are)
