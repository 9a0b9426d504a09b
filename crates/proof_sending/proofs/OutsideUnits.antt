-- Nothing that happens outside the host enters a unit of the host.
use Rattle.std.proofs.Common.{◌≡◌, ◌&&◌, not, Bool, true, false, if◌then◌else◌, List, [], ◌∷◌, length}
use Rattle.std.specs.List.{AllByRecursion}
use Rattle.zw_base.proofs.Each.{all-append, all-weaker}
use Rattle.serial_frame.specs.declared.unit.Unit.{Unit as LineUnit}
use Rattle.serial_frame.specs.Items.{unit_text}
use Rattle.serial_pipes.specs.State.{WayState, mark_for}
use Rattle.serial_pipes.specs.Events.{told}
use Rattle.zw_words.specs.declared.side.Side.TheVariants.{Host as by_host, Chip as by_chip}
use Rattle.zw_text.specs.declared.entry.Entry.{Entry}
use Rattle.zw_text.specs.declared.entry.Entry.TheVariants as entry
use Rattle.chip_sim.specs.Events.{ChipEvent, after, outs}
use Rattle.chip_sim.specs.declared.out.ChipOut.{ChipOut}
use Rattle.chip_sim.specs.declared.out.ChipOut.TheVariants.{Write, OnAir, NoRoute, AskInfo, Full}
use Rattle.mesh_sim.specs.Fates.{place_of}
use Rattle.proof_line.proofs.Lists.{each-anywhere}
use Rattle.outside_model.specs.State.{OuterState, Outside, outside, each, with_chip}
use Rattle.outside_model.specs.Chip.{put_out, chip_does}
use Rattle.outside_model.specs.Results.{device_at}
use Rattle.outside_model.specs.Events.{OuterEvent, Begins_line, Begins_tick, Host_writes, Host_takes, Host_notes, Host_begins, Chip_takes, Arrives, Gives, Device_ticks, Chip_ticks, Repeats, Wakes_device, Sets_device, Shows, Joins, Discovers, Links, Loses, Loses_acks, Marks_loss, Marks_change, Clears_pipe, Collides_next, Stalls, Cuts, way_of, outcome, ticked_entry, is_own, May, entries, IsCleared}
use Rattle.proof_spoken.proofs.Entered.{IsMark, IsShown, told_by_marks, all_cleared, all_shown}
use Rattle.proof_air.specs.proof_walk.Outside.{Knowing, Moves, Link, IsSimple, IsNote, IsOfAir}
use Rattle.proof_air.proofs.Alone.{each_alone}
use Rattle.proof_air.proofs.Linking.{of_link}
use Rattle.proof_air.proofs.Stamping.{Fits, outer_keeps}
use Rattle.proof_air.proofs.Deciding.{not_true as not_own}

-- no unit of the host
abbrev pub IsNotWritten : Entry → Type 0
IsNotWritten (entry.Written by_host unit) = ⊥
IsNotWritten _ = Unit {0}

abbrev pub AreNotWritten : List Entry → Type 0
AreNotWritten told = AllByRecursion IsNotWritten told

pub mark_not : (e : Entry) → IsMark e → IsNotWritten e
mark_not (entry.Written side unit) mark = absurd mark
mark_not e mark = tt

shown_not : (e : Entry) → IsShown e → IsNotWritten e
shown_not (entry.Written side unit) shown = absurd shown
shown_not e shown = tt

cleared_not : (e : Entry) → IsCleared e → IsNotWritten e
cleared_not (entry.Written side unit) cleared = absurd cleared
cleared_not e cleared = tt

air_not : (e : Entry) → IsOfAir e → IsNotWritten e
air_not (entry.Written side unit) of_air = absurd of_air
air_not e of_air = tt

pub note_not : (e : Entry) → IsNote e → IsNotWritten e
note_not (entry.Written side unit) note = absurd note
note_not e note = tt

-- ---- the chip

told_not : (way : WayState) (unit : LineUnit) → AreNotWritten (told by_chip way unit)
told_not way unit = (tt, all-weaker IsMark IsNotWritten mark_not _ (told_by_marks by_chip way.bytes (mark_for way.marks unit) (unit_text unit)))

put_not : (o : OuterState) (out : ChipOut) → AreNotWritten (put_out o out).entries
put_not o (Write unit) = told_not o.to_host unit
put_not o (OnAir to route payload) = (tt, tt)
put_not o NoRoute = tt
put_not o (AskInfo node) = tt
put_not o Full = (tt, tt)

puts_not : (puts : List ChipOut) (o : OuterState) → AreNotWritten (each put_out o puts).entries
puts_not [] o = tt
puts_not (out ∷ puts) o = all-append IsNotWritten (put_out o out).entries (each put_out (put_out o out).outer puts).entries (put_not o out) (puts_not puts (put_out o out).outer)

does_not : (o : OuterState) (event : ChipEvent) → AreNotWritten (chip_does o event).entries
unfolding chip_does
does_not o event = puts_not (outs o.chip.state event) (with_chip o (after o.chip.state event))

-- ---- what is owed

abbrev Asks : List Entry → Entry → Type 0
Asks past told = IsNotWritten told

abbrev Nothing_known : Knowing
Nothing_known awaits past w = Unit {0}

-- all but what the host writes
abbrev Covers : OuterEvent → Type 0
Covers (Host_writes unit) = ⊥
Covers event = Unit {0}

moves : (w later : Outside) (told : List Entry) → AreNotWritten told → Moves Asks Nothing_known w told Nothing_known later
moves w later told are awaits past silent known = (each-anywhere Asks IsNotWritten (λ before one is. is) past told are, tt)

simple_not : (w : Outside) (event : OuterEvent) → IsSimple event → Covers event → AreNotWritten (outcome w event).entries
unfolding outcome
simple_not w (Host_writes unit) simple covers = absurd covers
simple_not w (Host_takes count) simple covers = tt
simple_not w (Host_notes note) simple covers = (note_not note simple.0, tt)
simple_not w (Shows node) simple covers = all-weaker IsShown IsNotWritten shown_not _ (all_shown node (device_at w.devices (place_of node w.devices)))
simple_not w (Clears_pipe side) simple covers = all-weaker IsCleared IsNotWritten cleared_not _ (all_cleared side (length (way_of w.outer side).bytes))
simple_not w (Joins node) simple covers = tt
simple_not w Discovers simple covers = tt
simple_not w (Links a b live) simple covers = tt
simple_not w (Loses count) simple covers = tt
simple_not w (Loses_acks count) simple covers = tt
simple_not w (Marks_loss side) simple covers = tt
simple_not w (Marks_change side garble) simple covers = tt
simple_not w Collides_next simple covers = tt
simple_not w (Stalls ticks) simple covers = tt
simple_not w (Cuts size) simple covers = tt
simple_not w event simple covers = absurd simple

law : Link Asks Nothing_known Covers
law = record {
  line = λ covers awaits past w known. tt;
  tick = λ covers awaits past w known. (tt, tt);
  number = λ past w known. tt;
  simple = λ w event simple covers. moves w (outside (outcome w event).outer w.devices) (outcome w event).entries (simple_not w event simple covers);
  session = λ w node session command. moves w w (entry.Begin node session command ∷ []) (tt, tt);
  chip = λ w event done. moves w (outside (chip_does w.outer event).outer w.devices) (chip_does w.outer event).entries (does_not w.outer event);
  air = λ w told of_air. moves w w (told ∷ []) (air_not told of_air, tt);
  same = λ awaits past w later is known. tt;
}

fits : (event : OuterEvent) → is_own event ≡ true → Fits Covers event
fits (Host_writes unit) own = absurd (not_own own)
fits (Host_takes count) own = absurd (not_own own)
fits (Host_notes note) own = absurd (not_own own)
fits (Host_begins node sessions) own = absurd (not_own own)
fits Begins_line own = tt
fits Begins_tick own = tt
fits (Chip_takes count rest ways) own = tt
fits (Arrives drawn route) own = tt
fits (Gives route) own = tt
fits (Device_ticks place drawn route) own = tt
fits Chip_ticks own = tt
fits (Repeats number drawn route) own = λ refused. tt
fits (Wakes_device node route) own = λ refused. tt
fits (Sets_device node value route) own = λ refused. tt
fits event own = (tt, tt)

pub number_not : (o : OuterState) → AreNotWritten (ticked_entry o)
number_not o = by (o.in_tick && not o.stamped)
  where
    by : (b : Bool) → AreNotWritten (if b then entry.Time o.clock ∷ [] else [])
    by true = (tt, tt)
    by false = tt

pub outside_not : (w : Outside) (event : OuterEvent) → is_own event ≡ true → May w event → AreNotWritten (entries w event)
outside_not w event own may =
    each_alone IsNotWritten [] (entries w event)
    (outer_keeps Asks (λ pending. Nothing_known) Covers (of_link Asks Nothing_known Covers law) w event (fits event own) may []
    (tt, each-anywhere Asks IsNotWritten (λ before one is. is) [] (ticked_entry w.outer) (number_not w.outer))).0
