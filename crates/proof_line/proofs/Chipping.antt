-- What is known of the pipes goes on through what the chip does, and through all else that happens outside the host.
use Rattle.std.proofs.Common.{◌≡◌, ◌≤◌, ℕ, ◌+◌, ◌==◌, ◌&&◌, not, Bool, true, false, if◌then◌else◌, List, [], ◌∷◌, ◌++◌, length, drop, refl, sym, ap, subst, ◌∙◌, append-nil, arith}
use Rattle.std.specs.Prelude.{Option, Some, None, slice_get}
use Rattle.std.specs.List.{AllByRecursion}
use Rattle.zw_base.proofs.Each.{all-append, all-weaker}
use Rattle.serial_frame.specs.Frame.{FrameParts}
use Rattle.serial_frame.specs.Items.{unit_text}
use Rattle.serial_frame.specs.Stream.{Rest}
use Rattle.serial_frame.specs.declared.item.Item.{Item}
use Rattle.serial_frame.specs.declared.unit.Unit.{Unit as LineUnit}
use Rattle.serial_frame.specs.declared.unit.Unit.TheVariants.{Ack, Nak, Can, Framed}
use Rattle.serial_link.specs.State.{copy_due}
use Rattle.serial_link.specs.declared.turn.Turn.{Turn}
use Rattle.serial_link.specs.declared.turn.Turn.TheVariants.{Idle, Copied, Paused}
use Rattle.serial_pipes.specs.Events.{told, Takes}
use Rattle.serial_pipes.specs.Events as way
use Rattle.route_table.specs.declared.route.Route.{Route}
use Rattle.chip_functions.specs.declared.notice.TransmitStatus.{TransmitStatus}
use Rattle.chip_sim.specs.Waiting.{PortState, is_full, queued_outs_at, next_at, served_outs, ticked, written}
use Rattle.chip_sim.specs.State.{ChipState}
use Rattle.chip_sim.specs.Requests.{callback_frame}
use Rattle.chip_sim.specs.Events.{ChipEvent, Judged, Ticked, Heard as chip_hears, Done, Informed, Forgets, after, outs, ended_outs}
use Rattle.chip_sim.specs.Did.{judged_all}
use Rattle.chip_sim.specs.declared.out.Sending.{Sending}
use Rattle.chip_sim.specs.declared.out.ChipOut.{ChipOut}
use Rattle.chip_sim.specs.declared.out.ChipOut.TheVariants.{Write, OnAir, NoRoute, AskInfo, Full}
use Rattle.proof_world.specs.device_sim.State.{State}
use Rattle.proof_world.specs.device_sim.Event.{DeviceEvent, Ticks, Wakes, Sets}
use Rattle.air_frames.specs.Ages.{refusal_of}
use Rattle.air_frames.specs.declared.ages.Refusal.{Refusal as RepeatRefusal}
use Rattle.air_frames.specs.declared.ages.Refusal.TheVariants.{NeverSent, Forgotten, Stale}
use Rattle.proof_walk.specs.mesh_sim.declared.event.AirEvent.{AirEvent}
use Rattle.proof_walk.specs.mesh_sim.Fates.{place_of}
use Rattle.proof_walk.specs.mesh_sim.Steps.{AirStep, mesh_after, mesh_outs}
use Rattle.proof_walk.specs.mesh_sim.Steps as mesh
use Rattle.zw_words.specs.declared.side.Side.TheVariants.{Host as by_host, Chip as by_chip}
use Rattle.zw_text.specs.declared.entry.Entry.{Entry}
use Rattle.zw_text.specs.declared.entry.Entry.TheVariants as entry
use Rattle.law_wire.specs.law_transcript.Lists.{EachAfter}
use Rattle.law_wire.specs.Pipes.{Pipe, with_answer, gone_on, with_turn, sum_of}
use Rattle.proof_walk.specs.outside_model.State.{OuterState, Outside, outside, Outcome, each, with_chip, is_stalled}
use Rattle.proof_walk.specs.outside_model.Chip.{put_out, chip_does}
use Rattle.proof_walk.specs.outside_model.Results.{device_at}
use Rattle.proof_walk.specs.outside_model.Air.{deals}
use Rattle.proof_walk.specs.outside_model.Devices.{acts_at, acts_by_hand, device_set, set_by_hand, shown_entries}
use Rattle.proof_walk.specs.outside_model.Events.{OuterEvent, Begins_line, Begins_tick, Chip_takes, Arrives, Gives, Device_ticks, Chip_ticks, Repeats, Wakes_device, Sets_device, Shows, Joins, Discovers, Links, Loses, Loses_acks, Marks_loss, Marks_change, Collides_next, Stalls, Cuts, mesh_of, outcome, devices_after, steps, repeats, devices_repeated, refusal_entries, ticked_entry, has_entered, happens, entries}
use Rattle.proof_walk.specs.Outside.{Knowing, Moves, Comes, IsOfAir, awaits_number}
use Rattle.proof_walk.proofs.Moving.{moves_none, moves_both, moves_then}
use Rattle.proof_walk.proofs.Times.{each_keeps, outcome_time, IsWithin}
use Rattle.proof_walk.proofs.Linking.{IsFed, Fed, ticks_go, results_go, deals_go, acts_go}
use Rattle.proof_walk.proofs.Stamping.{stamped}
use Rattle.proof_walk.proofs.Entered.{IsShown, all_shown}
use Rattle.proof_line.specs.Pipes.{MayTell, Mode, most, Turned, Waits, AtMost, Taken, Held, IsByHand}
use Rattle.proof_line.proofs.Standing.{frame_long}
use Rattle.proof_line.proofs.Holding.{TellsNothing, Grown, grown_most}
use Rattle.proof_line.proofs.Filling.{Up, Down, HoldsEmpty, all_apart, held_same, held_turn, chip_writes, none_held, few_frames, waits_empty, turn_turned, turned_chip}

-- ---- which units the chip writes of itself

-- an output is no answer
abbrev pub IsFrame : LineUnit → Type 0
IsFrame (Framed f) = Unit {0}
IsFrame unit = ⊥

abbrev pub IsPut : (LineUnit → Type 0) → ChipOut → Type 0
IsPut IsUnit (Write unit) = IsUnit unit
IsPut IsUnit out = Unit {0}

abbrev pub ArePut : (LineUnit → Type 0) → List ChipOut → Type 0
ArePut IsUnit puts = AllByRecursion (IsPut IsUnit) puts

full_put : (b : Bool) → ArePut IsFrame (if b then Full ∷ [] else [])
full_put true = (tt, tt)
full_put false = tt

pub queued_put : (turn : Turn) (p : PortState) (f : FrameParts) → ArePut IsFrame (queued_outs_at turn p f)
queued_put Idle p f = (tt, tt)
queued_put (Copied g copies ticks) p f = full_put (is_full p.waiting)
queued_put (Paused g copies ticks) p f = full_put (is_full p.waiting)

pub written_put : (next : Option FrameParts) → ArePut IsFrame (written next)
written_put None = tt
written_put (Some f) = (tt, tt)

ended_put : (sending : Option Sending) (s : ChipState) (status : TransmitStatus) → ArePut IsFrame (ended_outs sending s status)
ended_put None s status = tt
ended_put (Some sending) s status = queued_put s.port.side.turn s.port (callback_frame sending status)

done_put : (b : Bool) (s : ChipState) (status : TransmitStatus) → ArePut IsFrame (if b then ended_outs s.sending s status else [])
done_put true s status = ended_put s.sending s status
done_put false s status = tt

pub fed_put : (s : ChipState) (event : ChipEvent) → IsFed event → ArePut IsFrame (outs s event)
fed_put s (Judged item way) fed = absurd fed
fed_put s Ticked fed =
    all-append (IsPut IsFrame) (written (copy_due s.port.side.turn)) (served_outs (ticked s.port)) (written_put (copy_due s.port.side.turn))
    (written_put (next_at (ticked s.port).side.turn (ticked s.port).waiting))
fed_put s (chip_hears n payload) fed = queued_put s.port.side.turn s.port _
fed_put s (Done status) fed = done_put (s.aborted == 0) s status
fed_put s (Informed n profile) fed = queued_put s.port.side.turn s.port _
fed_put s (Forgets a b) fed = tt
fed_put s event fed = absurd fed

any_put : (puts : List ChipOut) → ArePut (λ unit. Unit {0}) puts
any_put [] = tt
any_put (Write unit ∷ puts) = (tt, any_put puts)
any_put (out ∷ puts) = (tt, any_put puts)

-- ---- what the chip puts out

abbrev pub KnowsAs : (Bool → Mode) → Knowing
KnowsAs flagged awaits past w = Held (flagged awaits) past w.outer

-- a list that begins is not empty
pub begins : {A P : Type 0} (x : A) (xs : List A) → x ∷ xs ≡ [] → P
begins x xs is = absurd cc

module _ (flagged : Bool → Mode) (empty : (awaits : Bool) → HoldsEmpty (flagged awaits)) where
  -- entries that tell nothing of the pipes, over the same bytes
  pub apart_moves : (w later : Outside) (told : List Entry) → AllByRecursion TellsNothing told → later.outer.to_chip.bytes ≡ w.outer.to_chip.bytes → later.outer.to_host.bytes ≡ w.outer.to_host.bytes
      → Moves MayTell (KnowsAs flagged) w told (KnowsAs flagged) later
  apart_moves w later told apart up down awaits past silent held =
      all_apart (flagged awaits) (empty awaits) past told later.outer apart (held_same (flagged awaits) past w.outer later.outer up down held)

  module _ (IsUnit : LineUnit → Type 0)
      (room : (up down : Pipe) (a b : List ℕ) → flagged false up down a b → length b ≤ most down)
      (writes : (unit : LineUnit) → IsUnit unit → (up down later : Pipe) (a b after : List ℕ) → Grown (length (unit_text unit)) down later b after → flagged false up down a b
      → flagged false (with_answer (length (unit_text unit)) (gone_on up)) later a after)
      (devices : List State) where
    write_moves : (o : OuterState) (unit : LineUnit) → IsUnit unit → Comes MayTell (KnowsAs flagged) (outside o devices) (put_out o (Write unit)) devices (KnowsAs flagged)
    write_moves o unit is awaits past silent held = by awaits silent held
      where
        by : (b : Bool) → (b ≡ true → told by_chip o.to_host unit ≡ []) → Held (flagged b) past o
            → EachAfter MayTell past (told by_chip o.to_host unit) × Held (flagged b) (past ++ told by_chip o.to_host unit) (put_out o (Write unit)).outer
        by true silent held = begins _ _ (silent refl)
        by false silent held =
            chip_writes (flagged false) past o unit (room (Up past) (Down past) o.to_chip.bytes o.to_host.bytes held.holds)
            (λ down bytes grown. writes unit is (Up past) (Down past) down o.to_chip.bytes o.to_host.bytes bytes grown held.holds)

    put_moves : (o : OuterState) (out : ChipOut) → IsPut IsUnit out → Comes MayTell (KnowsAs flagged) (outside o devices) (put_out o out) devices (KnowsAs flagged)
    put_moves o (Write unit) is = write_moves o unit is
    put_moves o (OnAir to route payload) is = apart_moves (outside o devices) (outside (put_out o (OnAir to route payload)).outer devices) (put_out o (OnAir to route payload)).entries (tt, tt) refl refl
    put_moves o NoRoute is = apart_moves (outside o devices) (outside (put_out o NoRoute).outer devices) [] tt refl refl
    put_moves o (AskInfo node) is = apart_moves (outside o devices) (outside (put_out o (AskInfo node)).outer devices) [] tt refl refl
    put_moves o Full is = apart_moves (outside o devices) (outside (put_out o Full).outer devices) (entry.ChipFull ∷ []) (tt, tt) refl refl

    puts_move : (puts : List ChipOut) (o : OuterState) → ArePut IsUnit puts → Comes MayTell (KnowsAs flagged) (outside o devices) (each put_out o puts) devices (KnowsAs flagged)
    puts_move [] o are = moves_none MayTell (KnowsAs flagged) (outside o devices)
    puts_move (out ∷ puts) o are =
        let one : Outcome = put_out o out in
        moves_both MayTell (KnowsAs flagged) (KnowsAs flagged) (KnowsAs flagged) (outside o devices) (outside one.outer devices) (outside (each put_out one.outer puts).outer devices)
        one.entries (each put_out one.outer puts).entries (put_moves o out are.0) (puts_move puts one.outer are.1)

    pub does_moves : (o : OuterState) (event : ChipEvent) → ArePut IsUnit (outs o.chip.state event) → Comes MayTell (KnowsAs flagged) (outside o devices) (chip_does o event) devices (KnowsAs flagged)
    unfolding chip_does
    does_moves o event are =
        let p : OuterState = with_chip o (after o.chip.state event) in
        let x : Outcome = each put_out p (outs o.chip.state event) in
        moves_both MayTell (KnowsAs flagged) (KnowsAs flagged) (KnowsAs flagged) (outside o devices) (outside p devices) (outside x.outer devices) [] x.entries
        (apart_moves (outside o devices) (outside p devices) [] tt refl refl) (puts_move (outs o.chip.state event) p are)

-- ---- what the chip does of itself, and all else outside

pub air_apart : (e : Entry) → IsOfAir e → TellsNothing e
air_apart (entry.Said words) of_air = absurd of_air
air_apart (entry.Written side unit) of_air = absurd of_air
air_apart (entry.Dropped side) of_air = absurd of_air
air_apart (entry.Garbled side unit) of_air = absurd of_air
air_apart (entry.Overrun side) of_air = absurd of_air
air_apart (entry.Cleared side count) of_air = absurd of_air
air_apart (entry.Time tick) of_air = absurd of_air
air_apart e of_air = tt

pub shown_apart : (e : Entry) → IsShown e → TellsNothing e
shown_apart (entry.Device node setting) shown = tt
shown_apart (entry.Refused refusal) shown = tt
shown_apart e shown = absurd shown

-- the number may stand anywhere
pub number_stands : (past : List Entry) (o : OuterState) → EachAfter MayTell past (ticked_entry o)
number_stands past o = by (o.in_tick && not o.stamped)
  where
    by : (b : Bool) → EachAfter MayTell past (if b then entry.Time o.clock ∷ [] else [])
    by true = (tt, tt)
    by false = tt

turned_room : (up down : Pipe) (a b : List ℕ) → Turned up down a b → length b ≤ most down
turned_room up down a b turned = few_frames down (length b) turned.0.1

turned_writes : (unit : LineUnit) → IsFrame unit → (up down later : Pipe) (a b after : List ℕ) → Grown (length (unit_text unit)) down later b after → Turned up down a b
    → Turned (with_answer (length (unit_text unit)) (gone_on up)) later a after
turned_writes Ack is = absurd is
turned_writes Nak is = absurd is
turned_writes Can is = absurd is
turned_writes (Framed f) is = λ up down later a b after grown turned. turned_chip (length (unit_text (Framed f))) up down later a b after (frame_long f) grown turned

-- an event that is of no host, takes no bytes and clears none
abbrev pub IsGoing : OuterEvent → Type 0
IsGoing (Arrives drawn route) = Unit {0}
IsGoing (Gives route) = Unit {0}
IsGoing (Device_ticks place drawn route) = Unit {0}
IsGoing Chip_ticks = Unit {0}
IsGoing event = IsByHand event

module _ (tick : Bool) where
  abbrev Base : Knowing
  Base = KnowsAs (λ awaits. Waits awaits tick)

  all_empty : (awaits : Bool) → HoldsEmpty (Waits awaits tick)
  all_empty awaits = waits_empty awaits tick

  apart_base : (w later : Outside) (told : List Entry) → AllByRecursion TellsNothing told → later.outer.to_chip.bytes ≡ w.outer.to_chip.bytes → later.outer.to_host.bytes ≡ w.outer.to_host.bytes
      → Moves MayTell Base w told Base later
  apart_base = apart_moves (λ awaits. Waits awaits tick) all_empty

  fed : Fed MayTell Base
  fed = record {
    chip = λ w event is. does_moves (λ awaits. Waits awaits tick) all_empty IsFrame turned_room turned_writes w.devices w.outer event (fed_put w.outer.chip.state event is);
    air = λ w told of_air. apart_base w w (told ∷ []) (air_apart told of_air, tt) refl refl;
    same = λ awaits past w later is held. held_same (Waits awaits tick) past w.outer later.outer (ap (λ (l : _). l.bytes) is.to_chip) (ap (λ (l : _). l.bytes) is.to_host) held;
  }

  deals_all : (devices : List State) (events : List AirEvent) (o : OuterState) → Comes MayTell Base (outside o devices) (each (deals devices) o events) devices Base
  deals_all devices [] o = moves_none MayTell Base (outside o devices)
  deals_all devices (event ∷ events) o =
      let one : Outcome = deals devices o event in
      moves_both MayTell Base Base Base (outside o devices) (outside one.outer devices) (outside (each (deals devices) one.outer events).outer devices)
      one.entries (each (deals devices) one.outer events).entries (deals_go MayTell Base fed devices o event) (deals_all devices events one.outer)

  steps_go : (w : Outside) (step : AirStep) → Comes MayTell Base w (steps w step) (mesh_after (mesh_of w) step).devices Base
  steps_go w step =
      let o : OuterState = record w.outer { air = (mesh_after (mesh_of w) step).air } in
      let devices : List State = (mesh_after (mesh_of w) step).devices in
      moves_both MayTell Base Base Base w (outside o devices) (outside (steps w step).outer devices) [] (steps w step).entries
      (apart_base w (outside o devices) [] tt refl refl) (deals_all devices (mesh_outs (mesh_of w) step) o)

  repeats_go : (w : Outside) (refused : Option RepeatRefusal) (step : AirStep) → Comes MayTell Base w (repeats w refused step) (devices_repeated w refused step) Base
  repeats_go w None step = steps_go w step
  repeats_go w (Some NeverSent) step = apart_base w w (refusal_entries NeverSent) (tt, tt) refl refl
  repeats_go w (Some Forgotten) step = apart_base w w (refusal_entries Forgotten) (tt, tt) refl refl
  repeats_go w (Some (Stale later)) step = apart_base w w (refusal_entries (Stale later)) (tt, tt) refl refl

  at_go : (w : Outside) (place : ℕ) (found : Option State) (event : DeviceEvent) (route : Option Route) → Comes MayTell Base w (acts_at w.outer found event route) (device_set w.devices place found event) Base
  at_go w place None event route = apart_base w w [] tt refl refl
  at_go w place (Some device) event route = acts_go MayTell Base fed w place device event route

  hand_go : (w : Outside) (place : Option ℕ) (event : DeviceEvent) (route : Option Route) → Comes MayTell Base w (acts_by_hand w.outer w.devices place event route) (set_by_hand w.devices place event) Base
  hand_go w None event route = apart_base w w (acts_by_hand w.outer w.devices None event route).entries (tt, tt) refl refl
  hand_go w (Some place) event route = at_go w place (slice_get w.devices place) event route

  -- nothing is entered, over the same bytes
  silent_goes : (w : Outside) (o : OuterState) → o.to_chip.bytes ≡ w.outer.to_chip.bytes → o.to_host.bytes ≡ w.outer.to_host.bytes → Moves MayTell Base w [] Base (outside o w.devices)
  silent_goes w o up down = apart_base w (outside o w.devices) [] tt up down

  goes : (w : Outside) (event : OuterEvent) → IsGoing event → Comes MayTell Base w (outcome w event) (devices_after w event) Base
  unfolding outcome devices_after
  goes w (Arrives drawn route) going = steps_go w (mesh.Arrives drawn route)
  goes w (Gives route) going = results_go MayTell Base fed w route
  goes w (Device_ticks place drawn route) going = at_go w place (slice_get w.devices place) (Ticks drawn) route
  goes w Chip_ticks going = ticks_go MayTell Base fed w
  goes w (Repeats number drawn route) going = repeats_go w (refusal_of w.outer.air.frames number) (mesh.Repeats number drawn route)
  goes w (Wakes_device node route) going = hand_go w (place_of node w.devices) Wakes route
  goes w (Sets_device node value route) going = hand_go w (place_of node w.devices) (Sets value) route
  goes w (Shows node) going =
      let device : Option State = device_at w.devices (place_of node w.devices) in
      apart_base w w (shown_entries node device) (all-weaker IsShown TellsNothing shown_apart (shown_entries node device) (all_shown node device)) refl refl
  goes w (Joins node) going = silent_goes w (outcome w (Joins node)).outer refl refl
  goes w Discovers going = silent_goes w (outcome w Discovers).outer refl refl
  goes w (Links a b live) going = silent_goes w (outcome w (Links a b live)).outer refl refl
  goes w (Loses count) going = silent_goes w (outcome w (Loses count)).outer refl refl
  goes w (Loses_acks count) going = silent_goes w (outcome w (Loses_acks count)).outer refl refl
  goes w (Marks_loss by_host) going = silent_goes w (outcome w (Marks_loss by_host)).outer refl refl
  goes w (Marks_loss by_chip) going = silent_goes w (outcome w (Marks_loss by_chip)).outer refl refl
  goes w (Marks_change by_host garble) going = silent_goes w (outcome w (Marks_change by_host garble)).outer refl refl
  goes w (Marks_change by_chip garble) going = silent_goes w (outcome w (Marks_change by_chip garble)).outer refl refl
  goes w Collides_next going = silent_goes w (outcome w Collides_next).outer refl refl
  goes w (Stalls ticks) going = silent_goes w (outcome w (Stalls ticks)).outer refl refl
  goes w (Cuts size) going = silent_goes w (outcome w (Cuts size)).outer refl refl
  goes w event going = absurd going

  -- with the number of the tick
  number_goes : (past : List Entry) (w : Outside) → Base true past w → Base false (past ++ entry.Time w.outer.clock ∷ []) w
  number_goes past w held = held_turn (Waits true tick) Turned past w.outer.clock w.outer (turns tick) held
    where
      turns : (b : Bool) (up down : Pipe) (x y : List ℕ) → Waits true b up down x y → Turned (with_turn by_host up) (with_turn by_chip down) x y
      turns true up down x y resting = turn_turned up down x y resting
      turns false up down x y turned = turn_turned up down x y turned.0

  stamps : (awaits stamped : Bool) (past : List Entry) (w : Outside) → Base awaits past w → Base awaits past (outside (record w.outer { stamped = stamped }) w.devices)
  stamps awaits stamped past w held = held_same (Waits awaits tick) past w.outer (record w.outer { stamped = stamped }) refl refl held

  going_within : (event : OuterEvent) → IsGoing event → IsWithin event
  going_within Begins_line going = absurd going
  going_within Begins_tick going = absurd going
  going_within event going = tt

  pub going_keeps : (w : Outside) (event : OuterEvent) → IsGoing event → (past : List Entry) → Held (Waits (awaits_number w.outer) tick) past w.outer
      → EachAfter MayTell past (entries w event) × Held (Waits (awaits_number (happens w event).outer) tick) (past ++ entries w event) (happens w event).outer
  going_keeps w event going past held =
      let got = stamped MayTell Base number_goes stamps w (outcome w event) (devices_after w event) (outcome_time w event (going_within event going)) (goes w event going) past (held, number_stands past w.outer) in
      (got.0, got.1.0)

-- ---- the chip takes bytes

-- it has all, and judges them
abbrev TakenYet : Bool → Mode
TakenYet awaits up down a b = (a ≡ []) × ((length b ≤ most down) × (awaits ≡ true → length b ≤ sum_of down.frames))

pub drop_whole : (l : List ℕ) → drop (length l) l ≡ []
drop_whole [] = refl
drop_whole (x ∷ l) = drop_whole l

taken_empty : (awaits : Bool) → HoldsEmpty (TakenYet awaits)
taken_empty awaits up down = (refl, (none_held (most down), λ waits. none_held (sum_of down.frames)))

taken_room : (up down : Pipe) (a b : List ℕ) → TakenYet false up down a b → length b ≤ most down
taken_room up down a b taken = taken.1.0

taken_writes : (unit : LineUnit) → Unit {0} → (up down later : Pipe) (a b after : List ℕ) → Grown (length (unit_text unit)) down later b after → TakenYet false up down a b
    → TakenYet false (with_answer (length (unit_text unit)) (gone_on up)) later a after
taken_writes unit is up down later a b after grown taken =
    (taken.0, (grown_most (length (unit_text unit)) down later b after grown taken.1.0, λ waits. absurd (let none : false ≡ true = waits in cc)))

judges_all : (devices : List State) (ways : List (Item × Option Route)) (o : OuterState)
    → Comes MayTell (KnowsAs TakenYet) (outside o devices) (each chip_does o (judged_all ways)) devices (KnowsAs TakenYet)
judges_all devices [] o = moves_none MayTell (KnowsAs TakenYet) (outside o devices)
judges_all devices (way ∷ ways) o =
    let one : Outcome = chip_does o (Judged way.0 way.1) in
    moves_both MayTell (KnowsAs TakenYet) (KnowsAs TakenYet) (KnowsAs TakenYet) (outside o devices) (outside one.outer devices) (outside (each chip_does one.outer (judged_all ways)).outer devices)
    one.entries (each chip_does one.outer (judged_all ways)).entries
    (does_moves TakenYet taken_empty (λ unit. Unit {0}) taken_room taken_writes devices o (Judged way.0 way.1) (any_put (outs o.chip.state (Judged way.0 way.1)))) (judges_all devices ways one.outer)

-- what is on its way to the chip, and whether the line is stalled, is left by what the chip puts out
abbrev left_of : OuterState → List ℕ × Bool
left_of o = (o.to_chip.bytes, is_stalled o)

put_leaves : (o : OuterState) (out : ChipOut) → left_of (put_out o out).outer ≡ left_of o
put_leaves o (Write unit) = refl
put_leaves o (OnAir to route payload) = refl
put_leaves o NoRoute = refl
put_leaves o (AskInfo node) = refl
put_leaves o Full = refl

does_leaves : (o : OuterState) (event : ChipEvent) → left_of (chip_does o event).outer ≡ left_of o
unfolding chip_does
does_leaves o event = each_keeps left_of put_out put_leaves (with_chip o (after o.chip.state event)) (outs o.chip.state event)

entered_leaves : (o : OuterState) (told : List Entry) → left_of (has_entered o told) ≡ left_of o
entered_leaves o [] = refl
entered_leaves o (e ∷ told) = refl

module _ (w : Outside) (rest : Rest) (ways : List (Item × Option Route)) where
  abbrev all : ℕ
  all = length w.outer.to_chip.bytes

  abbrev started : OuterState
  started = record w.outer { to_chip = way.after w.outer.to_chip (Takes all); chip = record { decoder = rest; state = w.outer.chip.state } }

  starts : Moves MayTell (KnowsAs AtMost) w [] (KnowsAs TakenYet) (outside started w.devices)
  starts awaits past silent held = (
    tt,
    subst (λ (l : List Entry). Held (TakenYet awaits) l started) (sym (append-nil past)) (record {
      holds = (drop_whole w.outer.to_chip.bytes, held.holds.1);
      fresh = λ is. (drop_whole w.outer.to_chip.bytes, (held.fresh is).1);
    }),
  )

  ends : (awaits : Bool) (past : List Entry) (o : OuterState) → Held (TakenYet awaits) past o → Held (AtMost awaits) past o
  ends awaits past o held = record {
    holds = (subst (λ (l : List ℕ). length l ≤ most (Up past)) (sym held.holds.0) (none_held (most (Up past))), held.holds.1);
    fresh = held.fresh;
  }

  takes_go : Comes MayTell (KnowsAs AtMost) w (outcome w (Chip_takes all rest ways)) w.devices (KnowsAs AtMost)
  unfolding outcome
  takes_go =
      let x : Outcome = each chip_does started (judged_all ways) in
      moves_then MayTell (KnowsAs AtMost) (KnowsAs TakenYet) (KnowsAs AtMost) w (outside x.outer w.devices) (outside x.outer w.devices) x.entries
      (moves_both MayTell (KnowsAs AtMost) (KnowsAs TakenYet) (KnowsAs TakenYet) w (outside started w.devices) (outside x.outer w.devices) [] x.entries starts (judges_all w.devices ways started))
      (λ awaits past held. ends awaits past x.outer held)

  at_number : (past : List Entry) (u : Outside) → KnowsAs AtMost true past u → KnowsAs AtMost false (past ++ entry.Time u.outer.clock ∷ []) u
  at_number past u held = held_turn (AtMost true) (AtMost false) past u.outer.clock u.outer turns held
    where
      same : (f n o l : ℕ) → l ≤ f + n + o → l ≤ f + 0 + (o + n)
      same f n o l few = omega (arith, few)

      turns : (up down : Pipe) (x y : List ℕ) → AtMost true up down x y → AtMost false (with_turn by_host up) (with_turn by_chip down) x y
      turns up down x y most_of = (
        same (sum_of up.frames) up.answers up.older (length x) most_of.0,
        (few_frames (with_turn by_chip down) (length y) (most_of.1.1 refl), λ waits. absurd (let none : false ≡ true = waits in cc)),
      )

  at_stamps : (awaits stamped : Bool) (past : List Entry) (u : Outside) → KnowsAs AtMost awaits past u → KnowsAs AtMost awaits past (outside (record u.outer { stamped = stamped }) u.devices)
  at_stamps awaits stamped past u held = held_same (AtMost awaits) past u.outer (record u.outer { stamped = stamped }) refl refl held

  taken_left : left_of (happens w (Chip_takes all rest ways)).outer ≡ left_of started
  unfolding outcome
  taken_left =
      entered_leaves (outcome w (Chip_takes all rest ways)).outer (outcome w (Chip_takes all rest ways)).entries ∙ each_keeps left_of chip_does does_leaves started (judged_all ways)

  pub takes_keep : is_stalled w.outer ≡ false → (past : List Entry) → Held (AtMost (awaits_number w.outer)) past w.outer
      → EachAfter MayTell past (entries w (Chip_takes all rest ways))
      × (Held Taken (past ++ entries w (Chip_takes all rest ways)) (happens w (Chip_takes all rest ways)).outer × (is_stalled (happens w (Chip_takes all rest ways)).outer ≡ false))
  unfolding devices_after
  takes_keep moves past held =
      let later : Outside = happens w (Chip_takes all rest ways) in
      let got =
      stamped MayTell (KnowsAs AtMost) at_number at_stamps w (outcome w (Chip_takes all rest ways)) (devices_after w (Chip_takes all rest ways)) (outcome_time w (Chip_takes all rest ways) tt) takes_go past
      (held, number_stands past w.outer) in
      let none : later.outer.to_chip.bytes ≡ [] = ap (λ (l : List ℕ × Bool). l.0) taken_left ∙ drop_whole w.outer.to_chip.bytes in (
        got.0,
        (
          record { holds = (none, got.1.0.holds.1.0); fresh = got.1.0.fresh },
          ap (λ (l : List ℕ × Bool). l.1) taken_left ∙ moves,
        ),
      )
