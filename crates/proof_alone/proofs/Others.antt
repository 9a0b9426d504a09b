-- What is entered of what happens outside the host: units of the chip, among entries of others, and no note of a host.
use Rattle.std.proofs.Common.{◌≡◌, ℕ, true, false, List, [], ◌∷◌, ◌++◌, length, refl, sym, ap, subst, arith}
use Rattle.std.specs.Prelude.{Option, Some, None}
use Rattle.std.specs.List.{AllByRecursion}
use Rattle.zw_base.proofs.Each.{all-append, all-left, all-right, all-weaker}
use Rattle.serial_frame.specs.Items.{IsUnit, unit_text}
use Rattle.serial_frame.specs.Stream.{Rest}
use Rattle.serial_frame.specs.declared.item.Item.{Item}
use Rattle.serial_frame.specs.declared.unit.Unit.{Unit as LineUnit}
use Rattle.serial_frame.specs.declared.unit.Unit.TheVariants.{Ack, Nak, Can, Framed}
use Rattle.serial_pipes.specs.State.{WayState, mark_for}
use Rattle.serial_pipes.specs.Events.{Writes, after as way_after, told}
use Rattle.route_table.specs.declared.route.Route.{Route}
use Rattle.zw_words.specs.declared.side.Side.TheVariants.{Chip as by_chip}
use Rattle.zw_text.specs.declared.entry.Entry.{Entry}
use Rattle.zw_text.specs.declared.entry.Entry.TheVariants as entry
use Rattle.chip_sim.specs.Did.{MayAll as MayAllOfChip, judged_all}
use Rattle.chip_sim.specs.Events.{ChipEvent, after, outs}
use Rattle.chip_sim.specs.declared.out.ChipOut.{ChipOut}
use Rattle.chip_sim.specs.declared.out.ChipOut.TheVariants.{Write, OnAir, NoRoute, AskInfo, Full}
use Rattle.law_host.specs.device_sim.State.{State}
use Rattle.law_host.specs.device_sim.Event.{DeviceEvent}
use Rattle.proof_line.specs.mesh_sim.Steps.{AirStep, MayHappen}
use Rattle.proof_line.specs.mesh_sim.Steps as mesh
use Rattle.proof_line.specs.outside_model.State.{OuterState, Outside, outside, each, with_chip}
use Rattle.proof_line.specs.outside_model.Chip.{chip_does, put_out}
use Rattle.proof_line.specs.outside_model.Devices.{acts_at}
use Rattle.proof_line.specs.outside_model.Events.{OuterEvent, Begins_line, Begins_tick, Host_writes, Host_takes, Host_notes, Chip_takes, Arrives, Gives, Device_ticks, Chip_ticks, Repeats, Shows, Joins, Discovers, Links, Loses, Loses_acks, Marks_loss, Marks_change, Clears_pipe, Collides_next, Stalls, Cuts, May, is_own, mesh_of, outcome, stamp, steps, ticked_entry, way_of, IsCleared}
use Rattle.proof_line.proofs.Entered.{IsMark, all_cleared, told_by_marks}
use Rattle.proof_line.proofs.Lists.{each-anywhere}
use Rattle.proof_line.specs.proof_serial.Chip.{HasFrames}
use Rattle.proof_line.specs.proof_serial.Way.{written_all}
use Rattle.proof_line.proofs.Aside.{AreOutside, IsOutside, own_outside}
use Rattle.proof_line.specs.proof_walk.Outside.{IsHearing, IsOfAir, IsSimple, Knowing, Link, Moves}
use Rattle.proof_line.proofs.Alone.{each_alone}
use Rattle.proof_line.proofs.Linking.{acts_of_air, of_link}
use Rattle.proof_line.proofs.Stamping.{Fits, outcome_comes, steps_come}
use Rattle.proof_line.proofs.Times.{IsWithin}
use Rattle.proof_line.proofs.Holding.{TellsNothing}
use Rattle.proof_line.proofs.Tellings.{IsBeside, Tells, answers_all, tells_weaker}
use Rattle.proof_line.proofs.ChipTelling.{IsArriving, arriving_tells, line_tells, takes_tell, tick_tells}
use Rattle.proof_alone.specs.Steps.{AreFrames, IsOfOthers}
use Rattle.proof_alone.specs.Careful.{IsNoDevice}

-- ---- what may be entered there

-- all but what a host says, unless it is that a session begins; and but for refusals
abbrev IsOther : Entry → Type 0
IsOther (entry.Written side unit) = Unit {0}
IsOther (entry.Dropped side) = Unit {0}
IsOther (entry.Garbled side unit) = Unit {0}
IsOther (entry.Overrun side) = Unit {0}
IsOther (entry.Cleared side count) = Unit {0}
IsOther (entry.Air frame sender receiver repeaters payload) = Unit {0}
IsOther (entry.Heard frame) = Unit {0}
IsOther (entry.Lost frame) = Unit {0}
IsOther (entry.Unheard frame) = Unit {0}
IsOther (entry.Dev node by setting) = Unit {0}
IsOther (entry.Forget first second) = Unit {0}
IsOther entry.ChipFull = Unit {0}
IsOther (entry.Time tick) = Unit {0}
IsOther (entry.Begin node session command) = Unit {0}
IsOther _ = ⊥

abbrev AreOther : List Entry → Type 0
AreOther told = AllByRecursion IsOther told

mark_other : (e : Entry) → IsMark e → IsOther e
mark_other (entry.Dropped side) mark = tt
mark_other (entry.Garbled side unit) mark = tt
mark_other (entry.Overrun side) mark = tt
mark_other e mark = absurd mark

cleared_other : (e : Entry) → IsCleared e → IsOther e
cleared_other (entry.Cleared side count) cleared = tt
cleared_other e cleared = absurd cleared

air_other : (e : Entry) → IsOfAir e → IsOther e
air_other (entry.Air frame sender receiver repeaters payload) of_air = tt
air_other (entry.Heard frame) of_air = tt
air_other (entry.Lost frame) of_air = tt
air_other (entry.Unheard frame) of_air = tt
air_other (entry.Dev node by setting) of_air = tt
air_other (entry.Forget first second) of_air = tt
air_other e of_air = absurd of_air

pub air_aside : (e : Entry) → IsOfAir e → IsOfOthers e
air_aside (entry.Air frame sender receiver repeaters payload) of_air = tt
air_aside (entry.Heard frame) of_air = tt
air_aside (entry.Lost frame) of_air = tt
air_aside (entry.Unheard frame) of_air = tt
air_aside (entry.Dev node by setting) of_air = tt
air_aside (entry.Forget first second) of_air = tt
air_aside e of_air = absurd of_air

-- of others, and no device is shown
abbrev pub IsAside : Entry → Type 0
IsAside e = IsOfOthers e × IsNoDevice e

-- what tells nothing of the pipes, and no session begins
aside_of : (e : Entry) → TellsNothing e → IsOther e → IsOutside e → IsAside e
aside_of (entry.Air frame sender receiver repeaters payload) nothing other out = (tt, tt)
aside_of (entry.Heard frame) nothing other out = (tt, tt)
aside_of (entry.Lost frame) nothing other out = (tt, tt)
aside_of (entry.Unheard frame) nothing other out = (tt, tt)
aside_of (entry.Dev node by setting) nothing other out = (tt, tt)
aside_of (entry.Forget first second) nothing other out = (tt, tt)
aside_of entry.ChipFull nothing other out = (tt, tt)
aside_of (entry.Written side unit) nothing other out = absurd nothing
aside_of (entry.Dropped side) nothing other out = absurd nothing
aside_of (entry.Garbled side unit) nothing other out = absurd nothing
aside_of (entry.Overrun side) nothing other out = absurd nothing
aside_of (entry.Cleared side count) nothing other out = absurd nothing
aside_of (entry.Time tick) nothing other out = absurd nothing
aside_of (entry.Begin node session command) nothing other out = absurd out
aside_of e nothing other out = absurd other

all_aside : (told : List Entry) → AllByRecursion TellsNothing told → AreOther told → AreOutside told → AllByRecursion IsAside told
all_aside [] nothing others outs = tt
all_aside (e ∷ told) nothing others outs = (aside_of e nothing.0 others.0 outs.0, all_aside told nothing.1 others.1 outs.1)

-- units, among such entries
strictly : (way : WayState) (units : List LineUnit) (told_all : List Entry) → Tells TellsNothing by_chip way units told_all → AreOther told_all → AreOutside told_all → Tells IsAside by_chip way units told_all
strictly way [] told_all tells others outs = all_aside told_all tells others outs
strictly way (unit ∷ units) told_all (before, rest, is, nothing, more) others outs =
    let o = subst AreOther is others in
    let v = subst AreOutside is outs in
    let one : List Entry = told by_chip way unit in (
      before,
      rest,
      is,
      all_aside before nothing (all-left IsOther before (one ++ rest) o) (all-left IsOutside before (one ++ rest) v),
      strictly (way_after way (Writes unit)) units rest more (all-right IsOther one rest (all-right IsOther before (one ++ rest) o)) (all-right IsOutside one rest (all-right IsOutside before (one ++ rest) v)),
    )

-- ---- what is owed outside the host

told_other : (way : WayState) (unit : LineUnit) → AreOther (told by_chip way unit)
told_other way unit = (tt, all-weaker IsMark IsOther mark_other _ (told_by_marks by_chip way.bytes (mark_for way.marks unit) (unit_text unit)))

put_other : (o : OuterState) (out : ChipOut) → AreOther (put_out o out).entries
put_other o (Write unit) = told_other o.to_host unit
put_other o (OnAir to route payload) = (tt, tt)
put_other o NoRoute = tt
put_other o (AskInfo node) = tt
put_other o Full = (tt, tt)

puts_other : (puts : List ChipOut) (o : OuterState) → AreOther (each put_out o puts).entries
puts_other [] o = tt
puts_other (out ∷ puts) o = all-append IsOther (put_out o out).entries (each put_out (put_out o out).outer puts).entries (put_other o out) (puts_other puts (put_out o out).outer)

does_other : (o : OuterState) (event : ChipEvent) → AreOther (chip_does o event).entries
unfolding chip_does
does_other o event = puts_other (outs o.chip.state event) (with_chip o (after o.chip.state event))

abbrev Law : List Entry → Entry → Type 0
Law past e = IsOther e

abbrev Nothing_known : Knowing
Nothing_known awaits past w = Unit {0}

abbrev Covers : OuterEvent → Type 0
Covers (Host_writes unit) = ⊥
Covers (Host_notes note) = ⊥
Covers (Shows node) = ⊥
Covers event = Unit {0}

moves : (w later : Outside) (told : List Entry) → AreOther told → Moves Law Nothing_known w told Nothing_known later
moves w later told are awaits past silent known = (each-anywhere Law IsOther (λ before one is. is) past told are, tt)

simple_other : (w : Outside) (event : OuterEvent) → IsSimple event → Covers event → AreOther (outcome w event).entries
unfolding outcome
simple_other w (Host_writes unit) simple covers = absurd covers
simple_other w (Host_takes count) simple covers = tt
simple_other w (Host_notes note) simple covers = absurd covers
simple_other w (Shows node) simple covers = absurd covers
simple_other w (Clears_pipe side) simple covers = all-weaker IsCleared IsOther cleared_other _ (all_cleared side (length (way_of w.outer side).bytes))
simple_other w (Joins node) simple covers = tt
simple_other w Discovers simple covers = tt
simple_other w (Links a b live) simple covers = tt
simple_other w (Loses count) simple covers = tt
simple_other w (Loses_acks count) simple covers = tt
simple_other w (Marks_loss side) simple covers = tt
simple_other w (Marks_change side garble) simple covers = tt
simple_other w Collides_next simple covers = tt
simple_other w (Stalls ticks) simple covers = tt
simple_other w (Cuts size) simple covers = tt
simple_other w event simple covers = absurd simple

law : Link Law Nothing_known Covers
law = record {
  line = λ covers awaits past w known. tt;
  tick = λ covers awaits past w known. (tt, tt);
  number = λ past w known. tt;
  simple = λ w event simple covers. moves w (outside (outcome w event).outer w.devices) (outcome w event).entries (simple_other w event simple covers);
  session = λ w node session command. moves w w (entry.Begin node session command ∷ []) (tt, tt);
  chip = λ w event done. moves w (outside (chip_does w.outer event).outer w.devices) (chip_does w.outer event).entries (does_other w.outer event);
  air = λ w told of_air. moves w w (told ∷ []) (air_other told of_air, tt);
  same = λ awaits past w later is known. tt;
}

none_silent : (told : List Entry) → false ≡ true → told ≡ []
none_silent told bad = absurd cc

-- in a tick, and of the chip
abbrev pub IsOfChip : OuterEvent → Type 0
IsOfChip (Chip_takes count rest ways) = Unit {0}
IsOfChip Chip_ticks = Unit {0}
IsOfChip (Arrives drawn route) = Unit {0}
IsOfChip (Gives route) = Unit {0}
IsOfChip (Device_ticks place drawn route) = Unit {0}
IsOfChip event = ⊥

chip_within : (event : OuterEvent) → IsOfChip event → IsWithin event
chip_within Begins_line of_chip = absurd of_chip
chip_within Begins_tick of_chip = absurd of_chip
chip_within event of_chip = tt

chip_fits : (event : OuterEvent) → IsOfChip event → Fits Covers event
chip_fits (Chip_takes count rest ways) of_chip = tt
chip_fits Chip_ticks of_chip = tt
chip_fits (Arrives drawn route) of_chip = tt
chip_fits (Gives route) of_chip = tt
chip_fits (Device_ticks place drawn route) of_chip = tt
chip_fits event of_chip = absurd of_chip

chip_other : (w : Outside) (event : OuterEvent) → IsOfChip event → May w event → AreOther (outcome w event).entries
chip_other w event of_chip may =
    each_alone IsOther [] (outcome w event).entries
    (outcome_comes Law (λ pending. Nothing_known) Covers (of_link Law Nothing_known Covers law) w event (chip_within event of_chip) (chip_fits event of_chip) may false [] (none_silent (outcome w event).entries) tt).0

steps_other : (w : Outside) (step : AirStep) → IsHearing step → MayHappen (mesh_of w) step → AreOther (steps w step).entries
steps_other w step hearing may =
    each_alone IsOther [] (steps w step).entries
    (steps_come Law (λ pending. Nothing_known) Covers (of_link Law Nothing_known Covers law) w step hearing may false [] (none_silent (steps w step).entries) tt).0

-- no session begins outside the host
unstamped : (o : OuterState) (told : List Entry) → AreOutside (stamp o told) → AreOutside told
unstamped o [] outs = tt
unstamped o (e ∷ told) outs = all-right IsOutside (ticked_entry o) (e ∷ told) outs

own_other : (w : Outside) (event : OuterEvent) → is_own event ≡ true → AreOutside (outcome w event).entries
own_other w event own = unstamped (outcome w event).outer (outcome w event).entries (own_outside w event own)

-- ---- what is told of an event

-- units of the chip among such entries; they fit where all that the chip then has does
pub record ToldOutside (Such : Entry → Type 0) (w : Outside) (event : OuterEvent) : Type 0 where
  pub units : List LineUnit
  pub told : Tells Such by_chip w.outer.to_host units (outcome w event).entries
  pub to_host : (outcome w event).outer.to_host.bytes ≡ (written_all w.outer.to_host units).bytes
  pub fit : HasFrames (outcome w event).outer.chip.state.port → AllByRecursion IsUnit units

-- all of them frames
pub record ToldFrames (w : Outside) (event : OuterEvent) : Type 0 where
  pub all : ToldOutside IsAside w event
  pub framed : AreFrames all.units

unanswering : (units : List LineUnit) → answers_all units ≡ 0 → AreFrames units
unanswering [] none = tt
unanswering (Framed f ∷ units) none = (tt, unanswering units (omega (arith, none)))
unanswering (Ack ∷ units) none = absurd (omega (arith, none))
unanswering (Nak ∷ units) none = absurd (omega (arith, none))
unanswering (Can ∷ units) none = absurd (omega (arith, none))

pub arriving_told : (w : Outside) (event : OuterEvent) → IsArriving event → IsOfChip event → is_own event ≡ true → May w event → ToldFrames w event
arriving_told w event arriving of_chip own may =
    let got = arriving_tells w event arriving in
    record {
      all = record {
        units = got.units;
        told = strictly w.outer.to_host got.units (outcome w event).entries (tells_weaker IsBeside TellsNothing (λ e beside. beside.0) by_chip w.outer.to_host got.units (outcome w event).entries got.told)
            (chip_other w event of_chip may) (own_other w event own);
        to_host = got.to_host;
        fit = got.fit;
      };
      framed = unanswering got.units got.frames;
    }

pub tick_told : (w : Outside) → HasFrames w.outer.chip.state.port → May w Chip_ticks → ToldFrames w Chip_ticks
tick_told w has may =
    let got = tick_tells w has in
    record {
      all = record {
        units = got.units;
        told = strictly w.outer.to_host got.units (outcome w Chip_ticks).entries
            (tells_weaker IsBeside TellsNothing (λ e beside. beside.0) by_chip w.outer.to_host got.units (outcome w Chip_ticks).entries got.told) (chip_other w Chip_ticks tt may) (own_other w Chip_ticks refl);
        to_host = got.to_host;
        fit = got.fit;
      };
      framed = unanswering got.units got.frames;
    }

-- what the chip judges it may
judges : (w : Outside) (count : ℕ) (rest : Rest) (ways : List (Item × Option Route)) → May w (Chip_takes count rest ways) → MayAllOfChip w.outer.chip.state (judged_all ways)
unfolding May
judges w count rest ways may = may.judges

pub takes_told : (w : Outside) (count : ℕ) (rest : Rest) (ways : List (Item × Option Route)) → HasFrames w.outer.chip.state.port → May w (Chip_takes count rest ways)
    → ToldOutside IsAside w (Chip_takes count rest ways)
takes_told w count rest ways has may =
    let event : OuterEvent = Chip_takes count rest ways in
    let got = takes_tell w count rest ways has (judges w count rest ways may) in
    record {
      units = got.units;
      told = strictly w.outer.to_host got.units (outcome w event).entries (tells_weaker IsBeside TellsNothing (λ e beside. beside.0) by_chip w.outer.to_host got.units (outcome w event).entries got.told)
          (chip_other w event tt may) (own_other w event refl);
      to_host = ap (λ (x : WayState). x.bytes) got.to_host;
      fit = λ later. got.fit;
    }

-- a frame is heard again
pub repeats_told : (w : Outside) (number : ℕ) (drawn : List ℕ) (route : Option Route) → (outcome w (Repeats number drawn route)).entries ≡ (steps w (mesh.Repeats number drawn route)).entries
    → MayHappen (mesh_of w) (mesh.Repeats number drawn route) → ToldFrames w (Repeats number drawn route)
repeats_told w number drawn route same may =
    let event : OuterEvent = Repeats number drawn route in
    let got = line_tells w event tt in
    record {
      all = record {
        units = got.units;
        told = strictly w.outer.to_host got.units (outcome w event).entries got.told (subst AreOther (sym same) (steps_other w (mesh.Repeats number drawn route) tt may)) (own_other w event refl);
        to_host = got.to_host;
        fit = got.fit;
      };
      framed = unanswering got.units got.frames;
    }

-- what a device does by itself
pub acts_aside : (o : OuterState) (found : Option State) (event : DeviceEvent) (route : Option Route) → AllByRecursion IsOfOthers (acts_at o found event route).entries
acts_aside o None event route = tt
acts_aside o (Some device) event route = all-weaker IsOfAir IsOfOthers air_aside (acts_at o (Some device) event route).entries (acts_of_air o device event route)
