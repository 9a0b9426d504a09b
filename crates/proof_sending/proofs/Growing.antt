-- Whatever happens, what has arrived of the chip's units still has, and what became of each stands directly after it.
use Rattle.std.proofs.Common.{ℕ, ◌&&◌, not, Bool, true, false, if◌then◌else◌, List, [], ◌∷◌, ◌++◌, length}
use Rattle.zw_base.proofs.Each.{all-weaker}
use Rattle.zw_words.specs.declared.side.Side.TheVariants.{Chip as by_chip}
use Rattle.zw_text.specs.declared.entry.Entry.{Entry}
use Rattle.zw_text.specs.declared.entry.Entry.TheVariants as entry
use Rattle.chip_sim.specs.Events.{ChipEvent, after, outs}
use Rattle.chip_sim.specs.declared.out.ChipOut.{ChipOut}
use Rattle.chip_sim.specs.declared.out.ChipOut.TheVariants.{Write, OnAir, NoRoute, AskInfo, Full}
use Rattle.mesh_sim.specs.Fates.{place_of}
use Rattle.proof_air.specs.law_transcript.Lists.{EachAfter, Has}
use Rattle.proof_air.specs.law_transcript.Units.{arrived}
use Rattle.outside_model.specs.State.{OuterState, Outside, outside, each, with_chip}
use Rattle.outside_model.specs.Chip.{put_out, chip_does}
use Rattle.outside_model.specs.Results.{device_at}
use Rattle.outside_model.specs.Events.{OuterEvent, Host_writes, Host_takes, Host_notes, Shows, Joins, Discovers, Links, Loses, Loses_acks, Marks_loss, Marks_change, Clears_pipe, Collides_next, Stalls, Cuts, way_of, outcome, ticked_entry, IsCleared}
use Rattle.proof_air.specs.world_model.State.{Machine}
use Rattle.proof_air.specs.world_model.Events.{Event, Outside_does, entries, May}
use Rattle.proof_spoken.proofs.Entered.{IsShown, all_cleared, all_shown}
use Rattle.proof_air.specs.proof_walk.Outside.{CoversOuter, IsNote, IsOfAir, IsSimple, Knowing, Link, Moves}
use Rattle.proof_air.proofs.Linking.{of_link}
use Rattle.proof_air.proofs.Machines.{machine_keeps}
use Rattle.proof_sending.specs.Arriving.{ArrivesMore, ArrivesSo, BringsMore}
use Rattle.proof_sending.proofs.Arrivals.{Goes, IsNoUnit, brings_more, brings_none, chip_goes, go_both, host_goes, none_go}

-- ---- entries of no unit

shown_none : (e : Entry) → IsShown e → IsNoUnit e
shown_none (entry.Device node setting) shown = tt
shown_none (entry.Refused refusal) shown = tt
shown_none e shown = absurd shown

cleared_none : (e : Entry) → IsCleared e → IsNoUnit e
cleared_none (entry.Cleared side count) cleared = tt
cleared_none e cleared = absurd cleared

air_none : (e : Entry) → IsOfAir e → IsNoUnit e
air_none (entry.Written side unit) of_air = absurd of_air
air_none (entry.Dropped side) of_air = absurd of_air
air_none (entry.Garbled side unit) of_air = absurd of_air
air_none (entry.Overrun side) of_air = absurd of_air
air_none e of_air = tt

note_none : (e : Entry) → IsNote e → IsNoUnit e
note_none (entry.Written side unit) note = absurd note
note_none (entry.Dropped side) note = absurd note
note_none (entry.Garbled side unit) note = absurd note
note_none (entry.Overrun side) note = absurd note
note_none e note = tt

-- ---- the chip

put_goes : (o : OuterState) (out : ChipOut) → Goes (put_out o out).entries
put_goes o (Write unit) = chip_goes o.to_host unit
put_goes o (OnAir to route payload) = none_go (put_out o (OnAir to route payload)).entries (tt, tt)
put_goes o NoRoute = none_go [] tt
put_goes o (AskInfo node) = none_go [] tt
put_goes o Full = none_go (entry.ChipFull ∷ []) (tt, tt)

puts_go : (puts : List ChipOut) (o : OuterState) → Goes (each put_out o puts).entries
puts_go [] o = none_go [] tt
puts_go (out ∷ puts) o = go_both (put_out o out).entries (each put_out (put_out o out).outer puts).entries (put_goes o out) (puts_go puts (put_out o out).outer)

does_go : (o : OuterState) (event : ChipEvent) → Goes (chip_does o event).entries
unfolding chip_does
does_go o event = puts_go (outs o.chip.state event) (with_chip o (after o.chip.state event))

-- ---- what happens outside the host

simple_goes : (w : Outside) (event : OuterEvent) → IsSimple event → Goes (outcome w event).entries
unfolding outcome
simple_goes w (Host_writes unit) simple = host_goes w.outer.to_chip unit
simple_goes w (Host_takes count) simple = none_go [] tt
simple_goes w (Host_notes note) simple = none_go (note ∷ []) (note_none note simple.0, tt)
simple_goes w (Shows node) simple =
    none_go (outcome w (Shows node)).entries (all-weaker IsShown IsNoUnit shown_none _ (all_shown node (device_at w.devices (place_of node w.devices))))
simple_goes w (Clears_pipe side) simple =
    none_go (outcome w (Clears_pipe side)).entries (all-weaker IsCleared IsNoUnit cleared_none _ (all_cleared side (length (way_of w.outer side).bytes)))
simple_goes w (Joins node) simple = none_go [] tt
simple_goes w Discovers simple = none_go [] tt
simple_goes w (Links a b live) simple = none_go [] tt
simple_goes w (Loses count) simple = none_go [] tt
simple_goes w (Loses_acks count) simple = none_go [] tt
simple_goes w (Marks_loss side) simple = none_go [] tt
simple_goes w (Marks_change side garble) simple = none_go [] tt
simple_goes w Collides_next simple = none_go [] tt
simple_goes w (Stalls ticks) simple = none_go [] tt
simple_goes w (Cuts size) simple = none_go [] tt
simple_goes w event simple = absurd simple

-- ---- the law: these texts have arrived

abbrev Any : List Entry → Entry → Type 0
Any past e = Unit {0}

any_stand : (past told : List Entry) → EachAfter Any past told
any_stand past [] = tt
any_stand past (e ∷ told) = (tt, any_stand (past ++ e ∷ []) told)

abbrev Covers : OuterEvent → Type 0
Covers event = Unit {0}

covers : (event : Event) → CoversOuter Covers event
covers (Outside_does event) = tt
covers event = tt

module _ (texts : List (List ℕ)) where
  abbrev Knows : Knowing
  Knows awaits past w = ArrivesSo past × ((text : List ℕ) → Has texts text → Has (arrived by_chip past) text)

  moves : (w later : Outside) (told : List Entry) → Goes told → Moves Any Knows w told Knows later
  moves w later told goes awaits past silent known = (any_stand past told, ((goes past).0 known.0, λ text has. (goes past).1 text (known.1 text has)))

  law : Link Any Knows Covers
  law = record {
    line = λ covers awaits past w known. known;
    tick = λ covers awaits past w known. (tt, known);
    number = λ past w known. ((none_go (entry.Time w.outer.clock ∷ []) (tt, tt) past).0 known.0, λ text has. (none_go (entry.Time w.outer.clock ∷ []) (tt, tt) past).1 text (known.1 text has));
    simple = λ w event simple covers. moves w (outside (outcome w event).outer w.devices) (outcome w event).entries (simple_goes w event simple);
    session = λ w node session command. moves w w (entry.Begin node session command ∷ []) (none_go (entry.Begin node session command ∷ []) (tt, tt));
    chip = λ w event done. moves w (outside (chip_does w.outer event).outer w.devices) (chip_does w.outer event).entries (does_go w.outer event);
    air = λ w told of_air. moves w w (told ∷ []) (none_go (told ∷ []) (air_none told of_air, tt));
    same = λ awaits past w later is known. known;
  }

-- ---- each event of the machine

event_keeps : (past : List Entry) (m : Machine) (event : Event) → May m event → ArrivesSo past → ArrivesSo (past ++ entries m event) × ArrivesMore past (past ++ entries m event)
event_keeps past m event may so =
    (machine_keeps Any (λ pending. Knows (arrived by_chip past)) Covers (of_link Any (Knows (arrived by_chip past)) Covers (law (arrived by_chip past))) (λ event own. tt) m event
    (covers event) may past ((so, λ text has. has), any_stand past (ticked_entry m.outside.outer))).1.0

pub event_arrives : (past : List Entry) (m : Machine) (event : Event) → May m event → ArrivesSo past → ArrivesSo (past ++ entries m event)
event_arrives past m event may so = (event_keeps past m event may so).0

pub event_brings : (past : List Entry) (m : Machine) (event : Event) → May m event → ArrivesSo past → BringsMore past (past ++ entries m event)
event_brings past m event may so = brings_more past (past ++ entries m event) (event_keeps past m event may so).1

-- ---- single entries

pub one_arrives : (past : List Entry) (e : Entry) → IsNoUnit e → ArrivesSo past → ArrivesSo (past ++ e ∷ [])
one_arrives past e none so = (none_go (e ∷ []) (none, tt) past).0 so

pub one_brings : (past : List Entry) (e : Entry) → IsNoUnit e → BringsMore past (past ++ e ∷ [])
one_brings past e none = brings_more past (past ++ e ∷ []) (none_go (e ∷ []) (none, tt) past).1

pub ticked_brings : (past : List Entry) (o : OuterState) → BringsMore past (past ++ ticked_entry o)
ticked_brings past o = by (o.in_tick && not o.stamped)
  where
    by : (b : Bool) → BringsMore past (past ++ (if b then entry.Time o.clock ∷ [] else []))
    by true = one_brings past (entry.Time o.clock) tt
    by false = brings_none past
