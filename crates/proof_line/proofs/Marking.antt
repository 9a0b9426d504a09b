-- The marks that the transcript says wait are those of the pipes, over all lines, and each unit becomes what they say.
use Rattle.std.proofs.Common.{◌≡◌, ℕ, ◌+◌, ◌&&◌, not, Bool, true, false, if◌then◌else◌, List, [], ◌∷◌, ◌++◌, length, map, inl, inr, refl, sym, ap, ap₂, subst, ◌∙◌, append_assoc, append-nil}
use Rattle.std.proofs.lemmas.List.{map-append}
use Rattle.std.specs.Prelude.{Option, slice_set}
use Rattle.zw_base.proofs.Each.{all-weaker}
use Rattle.serial_frame.specs.Stream.{after_tick}
use Rattle.serial_frame.specs.declared.unit.Unit.{Unit as LineUnit}
use Rattle.route_table.specs.declared.route.Route.{Route}
use Rattle.serial_pipes.specs.Events.{told, Writes, Takes, after as way_after}
use Rattle.serial_pipes.specs.declared.marks.Garble.{Garble}
use Rattle.zw_words.specs.declared.side.Side.{Side}
use Rattle.zw_words.specs.declared.side.Side.TheVariants.{Host as by_host, Chip as by_chip}
use Rattle.zw_text.specs.declared.line.Line.{Line}
use Rattle.zw_text.specs.declared.line.Line.TheVariants as lines
use Rattle.zw_text.specs.declared.entry.Entry.{Entry}
use Rattle.zw_text.specs.declared.entry.Entry.TheVariants as entry
use Rattle.zw_text.specs.Transcript.{line_of}
use Rattle.law_wire.specs.law_transcript.Lists.{EachAfter}
use Rattle.law_wire.specs.Marks.{Changing, Marks, marks_by, marks_of}
use Rattle.proof_walk.proofs.Lists.{each-append}
use Rattle.chip_sim.specs.Events.{ChipEvent, Judged, Ticked, Forgets, after, outs}
use Rattle.chip_sim.specs.declared.out.ChipOut.{ChipOut}
use Rattle.chip_sim.specs.declared.out.ChipOut.TheVariants.{Write, OnAir, NoRoute, AskInfo, Full}
use Rattle.proof_world.specs.device_sim.State.{State}
use Rattle.proof_world.specs.device_sim.Event.{DeviceEvent, device_after}
use Rattle.proof_walk.specs.mesh_sim.declared.event.AirEvent.{AirEvent}
use Rattle.proof_walk.specs.mesh_sim.declared.event.AirEvent.TheVariants as air_event
use Rattle.proof_walk.specs.mesh_sim.Fates.{place_of}
use Rattle.proof_walk.specs.mesh_sim.Steps.{mesh_after}
use Rattle.proof_walk.specs.outside_model.State.{OuterState, Outside, outside, Outcome, silent, each, with_chip, first_outer}
use Rattle.proof_walk.specs.outside_model.Chip.{put_out, chip_does}
use Rattle.proof_walk.specs.outside_model.Results.{device_at, gives}
use Rattle.proof_walk.specs.outside_model.Air.{deals, sent_entries, change_entries, change_at}
use Rattle.proof_walk.specs.outside_model.Devices.{acts, shown_entries}
use Rattle.proof_walk.specs.outside_model.Events.{OuterEvent, Begins_line, Host_writes, Host_takes, Host_notes, Shows, Joins, Discovers, Links, Loses, Loses_acks, Marks_loss, Marks_change, Clears_pipe, Collides_next, Stalls, Cuts, way_of, mesh_of, cleared_entries, outcome, devices_after, ticked_entry, is_own, IsCleared}
use Rattle.proof_walk.specs.world_model.State.{Machine}
use Rattle.proof_walk.specs.world_model.Events.{Event, Outside_does, happens, entries, May}
use Rattle.proof_walk.specs.world_model.Lines.{IsEffect}
use Rattle.proof_walk.specs.Outside.{Pending, nothing, Moves, Outer, IsNote, IsSimple, IsOfAir, session_begins, CoversOuter}
use Rattle.proof_walk.specs.Phases.{Between}
use Rattle.proof_walk.specs.Walk.{Walk}
use Rattle.proof_walk.specs.ByLine.{IsOfTick, CoversLine, ByLine}
use Rattle.proof_walk.proofs.ByLine.{effect_covered, common_covered, walk_of}
use Rattle.proof_walk.proofs.Entered.{all_cleared, IsShown, all_shown, IsChange, change_entered}
use Rattle.proof_walk.proofs.Linking.{acts_of_air}
use Rattle.proof_walk.proofs.Machines.{machine_keeps}
use Rattle.proof_walk.proofs.Results.{Gives, ends_go, gives_go, to_chip_goes}
use Rattle.proof_line.specs.Marks.{changing_of, marks_at, MayMark, TieMarks, IsQuiet, KnowsMarks, SetsNoMark, Marked, Setting, Sets, LeftMarks, KnowMarks}
use Rattle.proof_line.proofs.Standing.{marks_grow, IsApart, AreApart, apart_marks, all_apart, said_stands, Stands, unit_stands}

-- ---- what goes on

-- these may stand, and with them the tie goes on
record GoesOn (w : Outside) (told : List Entry) (later : Outside) : Type 0 where
  pub goes : (past : List Entry) → TieMarks past w → IsQuiet past → EachAfter MayMark past told × (TieMarks (past ++ told) later × IsQuiet (past ++ told))

known : (w later : Outside) (told : List Entry) (p q : Pending) → GoesOn w told later → Moves MayMark (KnowsMarks p) w told (KnowsMarks q) later
known w later told p q goes awaits past none knows = goes.goes past knows.0 knows.1

both : (w u v : Outside) (xs ys : List Entry) → GoesOn w xs u → GoesOn u ys v → GoesOn w (xs ++ ys) v
both w u v xs ys first later = record {
  goes = λ past tie quiet.
      let one = first.goes past tie quiet in
      let two = later.goes (past ++ xs) one.1.0 one.1.1 in (
        each-append MayMark past xs ys one.0 two.0,
        (subst (λ (l : List Entry). TieMarks l v) (append_assoc past xs ys) two.1.0, subst IsQuiet (append_assoc past xs ys) two.1.1),
      );
}

-- the pipes have the same marks
abbrev SameMarks : OuterState → OuterState → Type 0
SameMarks o p = (side : Side) → marks_at (way_of p side) ≡ marks_at (way_of o side)

apart : (w later : Outside) (told : List Entry) → AreApart told → SameMarks w.outer later.outer → GoesOn w told later
apart w later told none same = record {
  goes = λ past tie quiet.
      let stand = all_apart past told none quiet in
      (stand.0, (λ side. apart_marks side past told none ∙ (tie side ∙ sym (same side)), stand.1));
}

-- a side writes a unit
host_tie : (w : Outside) (past : List Entry) (unit : LineUnit) → TieMarks past w → Stands by_host past (told by_host w.outer.to_chip unit) (marks_at (way_after w.outer.to_chip (Writes unit)))
    → TieMarks (past ++ told by_host w.outer.to_chip unit) (outside (record w.outer { to_chip = way_after w.outer.to_chip (Writes unit) }) w.devices)
host_tie w past unit tie stands by_host = stands.own
host_tie w past unit tie stands by_chip = stands.other by_chip refl ∙ tie by_chip

host_unit : (w : Outside) (unit : LineUnit) → GoesOn w (told by_host w.outer.to_chip unit) (outside (record w.outer { to_chip = way_after w.outer.to_chip (Writes unit) }) w.devices)
host_unit w unit = record {
  goes = λ past tie quiet.
      let stands = unit_stands by_host w.outer.to_chip past quiet (tie by_host) unit in
      (stands.each, (host_tie w past unit tie stands, stands.quiet));
}

chip_tie : (w : Outside) (past : List Entry) (unit : LineUnit) → TieMarks past w → Stands by_chip past (told by_chip w.outer.to_host unit) (marks_at (way_after w.outer.to_host (Writes unit)))
    → TieMarks (past ++ told by_chip w.outer.to_host unit) (outside (record w.outer { to_host = way_after w.outer.to_host (Writes unit) }) w.devices)
chip_tie w past unit tie stands by_chip = stands.own
chip_tie w past unit tie stands by_host = stands.other by_host refl ∙ tie by_host

chip_unit : (w : Outside) (unit : LineUnit) → GoesOn w (told by_chip w.outer.to_host unit) (outside (record w.outer { to_host = way_after w.outer.to_host (Writes unit) }) w.devices)
chip_unit w unit = record {
  goes = λ past tie quiet.
      let stands = unit_stands by_chip w.outer.to_host past quiet (tie by_chip) unit in
      (stands.each, (chip_tie w past unit tie stands, stands.quiet));
}

-- ---- which entries are apart

note_apart : (e : Entry) → IsNote e → IsApart e
note_apart (entry.Said words) note = absurd note
note_apart (entry.Written side unit) note = absurd note
note_apart (entry.Dropped side) note = absurd note
note_apart (entry.Garbled side unit) note = absurd note
note_apart e note = tt

air_apart : (e : Entry) → IsOfAir e → IsApart e
air_apart (entry.Said words) of_air = absurd of_air
air_apart (entry.Written side unit) of_air = absurd of_air
air_apart (entry.Dropped side) of_air = absurd of_air
air_apart (entry.Garbled side unit) of_air = absurd of_air
air_apart e of_air = tt

cleared_apart : (e : Entry) → IsCleared e → IsApart e
cleared_apart (entry.Cleared side count) cleared = tt
cleared_apart e cleared = absurd cleared

shown_apart : (e : Entry) → IsShown e → IsApart e
shown_apart (entry.Device node setting) shown = tt
shown_apart (entry.Refused refusal) shown = tt
shown_apart e shown = absurd shown

change_apart : (e : Entry) → IsChange e → IsApart e
change_apart (entry.Dev node by setting) change = tt
change_apart e change = absurd change

-- ---- the chip

module _ (devices : List State) where
  abbrev Puts : OuterState → Outcome → Type 0
  Puts o x = GoesOn (outside o devices) x.entries (outside x.outer devices)

  nothing_put : (o p : OuterState) → SameMarks o p → Puts o (silent p)
  nothing_put o p same = apart (outside o devices) (outside p devices) [] tt same

  put_goes : (o : OuterState) (out : ChipOut) → Puts o (put_out o out)
  put_goes o (Write unit) = chip_unit (outside o devices) unit
  put_goes o (OnAir to route payload) = apart (outside o devices) (outside (put_out o (OnAir to route payload)).outer devices) (put_out o (OnAir to route payload)).entries (tt, tt) same
    where
      same : SameMarks o (put_out o (OnAir to route payload)).outer
      same by_host = refl
      same by_chip = refl
  put_goes o NoRoute = nothing_put o (put_out o NoRoute).outer same
    where
      same : SameMarks o (put_out o NoRoute).outer
      same by_host = refl
      same by_chip = refl
  put_goes o (AskInfo node) = nothing_put o (put_out o (AskInfo node)).outer same
    where
      same : SameMarks o (put_out o (AskInfo node)).outer
      same by_host = refl
      same by_chip = refl
  put_goes o Full = apart (outside o devices) (outside o devices) (entry.ChipFull ∷ []) (tt, tt) (λ side. refl)

  puts_go : (puts : List ChipOut) (o : OuterState) → Puts o (each put_out o puts)
  puts_go [] o = nothing_put o o (λ side. refl)
  puts_go (out ∷ puts) o =
      let one : Outcome = put_out o out in
      both (outside o devices) (outside one.outer devices) (outside (each put_out one.outer puts).outer devices) one.entries (each put_out one.outer puts).entries (put_goes o out) (puts_go puts one.outer)

  -- another state of the chip
  chip_same : (o : OuterState) (event : ChipEvent) → SameMarks o (with_chip o (after o.chip.state event))
  chip_same o event by_host = refl
  chip_same o event by_chip = refl

  does : (o : OuterState) (event : ChipEvent) → Puts o (chip_does o event)
  unfolding chip_does
  does o event =
      let p : OuterState = with_chip o (after o.chip.state event) in
      both (outside o devices) (outside p devices) (outside (each put_out p (outs o.chip.state event)).outer devices) [] (each put_out p (outs o.chip.state event)).entries
      (nothing_put o p (chip_same o event)) (puts_go (outs o.chip.state event) p)

  abbrev SameWays : OuterState → OuterState → Type 0
  SameWays o p = (p.to_chip ≡ o.to_chip) × (p.to_host ≡ o.to_host)

  same_ways : (o p : OuterState) → SameWays o p → SameMarks o p
  same_ways o p same by_host = ap marks_at same.0
  same_ways o p same by_chip = ap marks_at same.1

  results : Gives Puts
  results = record {
    still = λ o p is. nothing_put o p (same_ways o p (is.to_chip, is.to_host));
    both = λ o first next one later. both (outside o devices) (outside first.outer devices) (outside (next first.outer).outer devices) first.entries (next first.outer).entries one (later first.outer);
    later = λ o p x is goes. both (outside o devices) (outside p devices) (outside x.outer devices) [] x.entries (nothing_put o p (same_ways o p (is.to_chip, is.to_host))) goes;
    does = λ o event given. does o event;
    forgotten = λ o a b. apart (outside o devices) (outside (with_chip o (after o.chip.state (Forgets a b))) devices) (entry.Forget a b ∷ []) (tt, tt) (chip_same o (Forgets a b));
  }

  deals_go : (o : OuterState) (event : AirEvent) → Puts o (deals devices o event)
  deals_go o (air_event.Heard frame) = apart (outside o devices) (outside o devices) (entry.Heard frame ∷ []) (tt, tt) (λ side. refl)
  deals_go o (air_event.Lost frame) = apart (outside o devices) (outside o devices) (entry.Lost frame ∷ []) (tt, tt) (λ side. refl)
  deals_go o (air_event.Unheard frame) = apart (outside o devices) (outside o devices) (entry.Unheard frame ∷ []) (tt, tt) (λ side. refl)
  deals_go o (air_event.Sent frame from to route payload) = apart (outside o devices) (outside o devices) (sent_entries (air_event.Sent frame from to route payload)) (tt, tt) (λ side. refl)
  deals_go o (air_event.Changed node at) =
      let change = change_at (device_at devices (place_of node devices)) at in
      apart (outside o devices) (outside o devices) (change_entries node change) (all-weaker IsChange IsApart change_apart (change_entries node change) (change_entered node change)) (λ side. refl)
  deals_go o (air_event.ToChip frame from payload) = to_chip_goes Puts results o from payload
  deals_go o (air_event.Done frame status dead) = ends_go Puts results o status dead

-- ---- simple events

same_by : (o p : OuterState) → p.to_chip ≡ o.to_chip → p.to_host ≡ o.to_host → SameMarks o p
same_by o p to_chip to_host by_host = ap marks_at to_chip
same_by o p to_chip to_host by_chip = ap marks_at to_host

-- bytes leave a pipe
bytes_leave : (o p : OuterState) → p.to_chip.marks ≡ o.to_chip.marks → p.to_host.marks ≡ o.to_host.marks → SameMarks o p
bytes_leave o p to_chip to_host by_host = ap (λ m. record { drops = m.drops; changes = map changing_of m.garbles }) to_chip
bytes_leave o p to_chip to_host by_chip = ap (λ m. record { drops = m.drops; changes = map changing_of m.garbles }) to_host

simple_goes : (w : Outside) (event : OuterEvent) → IsSimple event → SetsNoMark event → GoesOn w (outcome w event).entries (outside (outcome w event).outer w.devices)
unfolding outcome
simple_goes w (Marks_loss side) simple none = absurd none
simple_goes w (Marks_change side garble) simple none = absurd none
simple_goes w (Host_writes unit) simple none = host_unit w unit
simple_goes w (Host_takes count) simple none = apart w _ [] tt (bytes_leave w.outer (outcome w (Host_takes count)).outer refl refl)
simple_goes w (Host_notes note) simple none = apart w w (note ∷ []) (note_apart note simple.0, tt) (λ side. refl)
simple_goes w (Shows node) simple none =
    let device = device_at w.devices (place_of node w.devices) in
    apart w w (shown_entries node device) (all-weaker IsShown IsApart shown_apart (shown_entries node device) (all_shown node device)) (λ side. refl)
simple_goes w (Joins node) simple none = apart w _ [] tt (same_by w.outer (outcome w (Joins node)).outer refl refl)
simple_goes w Discovers simple none = apart w _ [] tt (same_by w.outer (outcome w Discovers).outer refl refl)
simple_goes w (Links a b live) simple none = apart w _ [] tt (same_by w.outer (outcome w (Links a b live)).outer refl refl)
simple_goes w (Loses count) simple none = apart w _ [] tt (same_by w.outer (outcome w (Loses count)).outer refl refl)
simple_goes w (Loses_acks count) simple none = apart w _ [] tt (same_by w.outer (outcome w (Loses_acks count)).outer refl refl)
simple_goes w (Clears_pipe by_host) simple none =
    let count : ℕ = length w.outer.to_chip.bytes in
    apart w _ (cleared_entries by_host count) (all-weaker IsCleared IsApart cleared_apart (cleared_entries by_host count) (all_cleared by_host count)) (bytes_leave w.outer (outcome w (Clears_pipe by_host)).outer refl refl)
simple_goes w (Clears_pipe by_chip) simple none =
    let count : ℕ = length w.outer.to_host.bytes in
    apart w _ (cleared_entries by_chip count) (all-weaker IsCleared IsApart cleared_apart (cleared_entries by_chip count) (all_cleared by_chip count)) (bytes_leave w.outer (outcome w (Clears_pipe by_chip)).outer refl refl)
simple_goes w Collides_next simple none = apart w _ [] tt (same_by w.outer (outcome w Collides_next).outer refl refl)
simple_goes w (Stalls ticks) simple none = apart w _ [] tt (same_by w.outer (outcome w (Stalls ticks)).outer refl refl)
simple_goes w (Cuts size) simple none = apart w _ [] tt (same_by w.outer (outcome w (Cuts size)).outer refl refl)
simple_goes w event simple none = absurd simple

-- ---- all of it

same_knows : (w later : Outside) → SameMarks w.outer later.outer → (past : List Entry) → TieMarks past w × IsQuiet past → TieMarks past later × IsQuiet past
same_knows w later same past knows = (λ side. knows.0 side ∙ sym (same side), knows.1)

acts_go : (w : Outside) (device : State) (event : DeviceEvent) (route : Option Route) (devices : List State) → GoesOn w (acts w.outer device event route).entries (outside (acts w.outer device event route).outer devices)
acts_go w device event route devices =
    apart w _ (acts w.outer device event route).entries (all-weaker IsOfAir IsApart air_apart (acts w.outer device event route).entries (acts_of_air w.outer device event route))
    (same_by w.outer (acts w.outer device event route).outer refl refl)

-- nothing is entered, and both pipes stay
still : (w : Outside) (o : OuterState) (devices : List State) → o.to_chip ≡ w.outer.to_chip → o.to_host ≡ w.outer.to_host → GoesOn w [] (outside o devices)
still w o devices to_chip to_host = apart w (outside o devices) [] tt (same_by w.outer o to_chip to_host)

still_knows : (w : Outside) (o : OuterState) → o.to_chip ≡ w.outer.to_chip → o.to_host ≡ w.outer.to_host → (past : List Entry) → TieMarks past w × IsQuiet past → TieMarks past (outside o w.devices) × IsQuiet past
still_knows w o to_chip to_host = same_knows w (outside o w.devices) (same_by w.outer o to_chip to_host)

marks_law : Outer MayMark KnowsMarks SetsNoMark
marks_law = record {
  line = λ covers awaits past w knows. still_knows w (record w.outer { in_tick = false }) refl refl past knows;
  tick = λ covers awaits past w knows.
      ((all_apart past (entry.Time (w.outer.clock + 1) ∷ []) (tt, tt) knows.1).0.0, still_knows w (record w.outer { clock = w.outer.clock + 1; in_tick = true; stamped = false }) refl refl past knows);
  number = λ past w knows. ((apart w w (entry.Time w.outer.clock ∷ []) (tt, tt) (λ side. refl)).goes past knows.0 knows.1).1;
  stamps = λ awaits stamped past w knows. still_knows w (record w.outer { stamped = stamped }) refl refl past knows;
  simple = λ w event simple none. known w (outside (outcome w event).outer w.devices) (outcome w event).entries nothing nothing (simple_goes w event simple none);
  session = λ w node session command.
      let o : OuterState = (session_begins w.outer node session command).outer in
      known w (outside o w.devices) (entry.Begin node session command ∷ []) nothing nothing
      (apart w (outside o w.devices) (entry.Begin node session command ∷ []) (tt, tt) (same_by w.outer o refl refl));
  takes = λ w count rest ways may.
      let o : OuterState = record w.outer { to_chip = way_after w.outer.to_chip (Takes count); chip = record { decoder = rest; state = w.outer.chip.state } } in
      known w (outside o w.devices) [] nothing nothing (apart w (outside o w.devices) [] tt (bytes_leave w.outer o refl refl));
  judges = λ w way ways may.
      let x : Outcome = chip_does w.outer (Judged way.0 way.1) in
      known w (outside x.outer w.devices) x.entries nothing nothing (does w.devices w.outer (Judged way.0 way.1));
  judged = λ awaits past w knows. knows;
  ticks = λ w.
      let o : OuterState = record w.outer { chip = record { decoder = after_tick w.outer.chip.decoder; state = w.outer.chip.state } } in
      let x : Outcome = chip_does o Ticked in
      known w (outside x.outer w.devices) x.entries nothing nothing
      (both w (outside o w.devices) (outside x.outer w.devices) [] x.entries (still w o w.devices refl refl) (does w.devices o Ticked));
  gives = λ w route may.
      let x : Outcome = gives w.outer w.devices w.outer.due route in
      known w (outside x.outer w.devices) x.entries nothing nothing (gives_go (Puts w.devices) (results w.devices) w.outer w.devices w.outer.due route);
  steps = λ w step hearing may.
      let o : OuterState = record w.outer { air = (mesh_after (mesh_of w) step).air } in
      known w (outside o (mesh_after (mesh_of w) step).devices) [] nothing nothing (still w o (mesh_after (mesh_of w) step).devices refl refl);
  deals = λ w event events.
      let x : Outcome = deals w.devices w.outer event in
      known w (outside x.outer w.devices) x.entries nothing nothing (deals_go w.devices w.outer event);
  acts = λ w place device event route found may.
      let x : Outcome = acts w.outer device event route in
      known w (outside x.outer (slice_set w.devices place (device_after device event))) x.entries nothing nothing (acts_go w device event route (slice_set w.devices place (device_after device event)));
}

-- ---- lines

number_stands : (past : List Entry) (o : OuterState) → IsQuiet past → EachAfter MayMark past (ticked_entry o)
number_stands past o quiet = by (o.in_tick && not o.stamped)
  where
    by : (b : Bool) → EachAfter MayMark past (if b then entry.Time o.clock ∷ [] else [])
    by true = (all_apart past (entry.Time o.clock ∷ []) (tt, tt) quiet).0
    by false = tt

marked : (past : List Entry) (m : Machine) → TieMarks past m.outside → IsQuiet past → Marked past m
marked past m tie quiet = ((tie, quiet), number_stands past m.outside.outer quiet)

said : (past : List Entry) (m : Machine) (words : List ℕ) (line : Line) → line_of (entry.Said words) ≡ line ∷ [] → Marked past m
    → MayMark past (entry.Said words) × Setting line (past ++ entry.Said words ∷ []) m
said past m words line read known =
    let stands = said_stands past words known.0.1 in
    (stands.0, (λ side. marks_grow side past (entry.Said words ∷ []) ∙ ap₂ (λ (marks : Marks) (l : List Line). marks_by side marks l) (known.0.0 side) read, stands.1))

begins : (line : Line) (past : List Entry) (m : Machine) → Setting line past m
    → EachAfter MayMark past (entries m (Outside_does Begins_line)) × Setting line (past ++ entries m (Outside_does Begins_line)) (happens m (Outside_does Begins_line))
unfolding happens entries outcome devices_after
begins line past m known =
    (tt, subst (λ (l : List Entry). Setting line l (happens m (Outside_does Begins_line))) (sym (append-nil past)) (λ side. known.0 side ∙ ap (λ (marks : Marks). marks_by side marks (line ∷ [])) (same side), known.1))
  where
    same : (side : Side) → marks_at (way_of m.outside.outer side) ≡ marks_at (way_of (record m.outside.outer { in_tick = false }) side)
    same by_host = refl
    same by_chip = refl

-- a line that sets no mark
abbrev IsOther : Line → Type 0
IsOther (lines.Drop by) = ⊥
IsOther (lines.Garble by place xor) = ⊥
IsOther line = Unit {0}

other_marks : (side : Side) (marks : Marks) (line : Line) → IsOther line → marks_by side marks (line ∷ []) ≡ marks
other_marks side marks (lines.Drop by) other = absurd other
other_marks side marks (lines.Garble by place xor) other = absurd other
other_marks side marks line other = refl

settled : (line : Line) (past : List Entry) (m : Machine) → IsOther line → Setting line past m → Marked past m
settled line past m other known = marked past m (λ side. known.0 side ∙ other_marks side (marks_at (way_of m.outside.outer side)) line other) known.1

covers_line : (line : Line) → IsOther line → CoversLine SetsNoMark line
covers_line (lines.Drop by) other = absurd other
covers_line (lines.Garble by place xor) other = absurd other
covers_line (lines.Repeat frame) other = λ drawn route. tt
covers_line (lines.Wake node) other = λ route. tt
covers_line (lines.Local node value) other = λ route. tt
covers_line lines.Restart other = (tt, tt)
covers_line line other = tt

effect : (line : Line) (past : List Entry) (m : Machine) (events : List Event) → IsEffect line m events → Setting line past m → LeftMarks line events past m
effect (lines.Drop by) past m events is known = inl (is, known)
effect (lines.Garble by place xor) past m events is known = inl (is, known)
effect line past m events is known = (effect_covered SetsNoMark line m events (covers_line line tt) is, settled line past m tt known)

hosts : (event : OuterEvent) → is_own event ≡ false → SetsNoMark event
hosts (Marks_loss side) own = absurd (not_own own)
  where
    not_own : true ≡ false → ⊥
    not_own is = cc
hosts (Marks_change side garble) own = absurd (not_own own)
  where
    not_own : true ≡ false → ⊥
    not_own is = cc
hosts event own = tt

of_tick : (event : OuterEvent) → IsOfTick event → SetsNoMark event
of_tick (Marks_loss side) tick = absurd tick
of_tick (Marks_change side garble) tick = absurd tick
of_tick event tick = tt

kept : (past : List Entry) (m : Machine) (event : Event) → CoversOuter SetsNoMark event → May m event → Marked past m
    → EachAfter MayMark past (entries m event) × Marked (past ++ entries m event) (happens m event)
kept past m event covers may known = machine_keeps MayMark KnowsMarks SetsNoMark marks_law hosts m event covers may past known

-- ---- the mark is set

loss_set : (past : List Entry) (m : Machine) (on : Side) → Setting (lines.Drop on) past m
    → EachAfter MayMark past (entries m (Outside_does (Marks_loss on))) × Marked (past ++ entries m (Outside_does (Marks_loss on))) (happens m (Outside_does (Marks_loss on)))
unfolding happens entries outcome devices_after
loss_set past m by_host known =
    (tt, subst (λ (l : List Entry). Marked l (happens m (Outside_does (Marks_loss by_host)))) (sym (append-nil past)) (marked past (happens m (Outside_does (Marks_loss by_host))) tie known.1))
  where
    tie : TieMarks past (happens m (Outside_does (Marks_loss by_host))).outside
    tie by_host = known.0 by_host
    tie by_chip = known.0 by_chip
loss_set past m by_chip known =
    (tt, subst (λ (l : List Entry). Marked l (happens m (Outside_does (Marks_loss by_chip)))) (sym (append-nil past)) (marked past (happens m (Outside_does (Marks_loss by_chip))) tie known.1))
  where
    tie : TieMarks past (happens m (Outside_does (Marks_loss by_chip))).outside
    tie by_host = known.0 by_host
    tie by_chip = known.0 by_chip

one_more : (garbles : List Garble) (garble : Garble) → map changing_of garbles ++ changing_of garble ∷ [] ≡ map changing_of (garbles ++ garble ∷ [])
one_more garbles garble = sym (map-append changing_of garbles (garble ∷ []))

change_set : (past : List Entry) (m : Machine) (on : Side) (place xor : ℕ) → Setting (lines.Garble on place xor) past m
    → EachAfter MayMark past (entries m (Outside_does (Marks_change on (record { place = place; xor = xor }))))
    × Marked (past ++ entries m (Outside_does (Marks_change on (record { place = place; xor = xor })))) (happens m (Outside_does (Marks_change on (record { place = place; xor = xor }))))
unfolding happens entries outcome devices_after
change_set past m by_host place xor known = (
  tt,
  subst (λ (l : List Entry). Marked l (happens m (Outside_does (Marks_change by_host (record { place = place; xor = xor }))))) (sym (append-nil past))
      (marked past (happens m (Outside_does (Marks_change by_host (record { place = place; xor = xor })))) tie known.1),
)
  where
    tie : TieMarks past (happens m (Outside_does (Marks_change by_host (record { place = place; xor = xor })))).outside
    tie by_host =
        known.0 by_host
        ∙ ap (λ (l : List Changing). record { drops = m.outside.outer.to_chip.marks.drops; changes = l }) (one_more m.outside.outer.to_chip.marks.garbles (record { place = place; xor = xor }))
    tie by_chip = known.0 by_chip
change_set past m by_chip place xor known = (
  tt,
  subst (λ (l : List Entry). Marked l (happens m (Outside_does (Marks_change by_chip (record { place = place; xor = xor }))))) (sym (append-nil past))
      (marked past (happens m (Outside_does (Marks_change by_chip (record { place = place; xor = xor })))) tie known.1),
)
  where
    tie : TieMarks past (happens m (Outside_does (Marks_change by_chip (record { place = place; xor = xor })))).outside
    tie by_chip =
        known.0 by_chip
        ∙ ap (λ (l : List Changing). record { drops = m.outside.outer.to_host.marks.drops; changes = l }) (one_more m.outside.outer.to_host.marks.garbles (record { place = place; xor = xor }))
    tie by_host = known.0 by_host

-- the event that sets it is the next
sets_next : (event : OuterEvent) (line : Line) (first : Event) (left : List Event) (past : List Entry) (m : Machine) → Sets event line (first ∷ left) past m
    → (Setting line past m → EachAfter MayMark past (entries m (Outside_does event)) × Marked (past ++ entries m (Outside_does event)) (happens m (Outside_does event)))
    → EachAfter MayMark past (entries m first) × Sets event line left (past ++ entries m first) (happens m first)
sets_next event line first left past m (inl (is, known)) sets =
    let head : first ≡ Outside_does event = cc in
    let tail : left ≡ [] = cc in
    let got = sets known in
    subst (λ (e : Event). EachAfter MayMark past (entries m e) × Sets event line left (past ++ entries m e) (happens m e)) (sym head) (got.0, inr (tail, got.1))
sets_next event line first left past m (inr (none, known)) sets = absurd cc

does_next : (line : Line) (first : Event) (left : List Event) (past : List Entry) (m : Machine) → May m first → LeftMarks line (first ∷ left) past m
    → EachAfter MayMark past (entries m first) × LeftMarks line left (past ++ entries m first) (happens m first)
does_next (lines.Drop by) first left past m may known = sets_next (Marks_loss by) (lines.Drop by) first left past m known (loss_set past m by)
does_next (lines.Garble by place xor) first left past m may known =
    sets_next (Marks_change by (record { place = place; xor = xor })) (lines.Garble by place xor) first left past m known (change_set past m by place xor)
does_next line first left past m may known = let got = kept past m first known.0.0 may known.1 in (got.0, (known.0.1, got.1))

set_done : (event : OuterEvent) (line : Line) (past : List Entry) (m : Machine) → Sets event line [] past m → Marked past m
set_done event line past m (inl (is, known)) = absurd cc
set_done event line past m (inr (none, known)) = known

done : (line : Line) (past : List Entry) (m : Machine) → LeftMarks line [] past m → Marked past m
done (lines.Drop by) past m known = set_done (Marks_loss by) (lines.Drop by) past m known
done (lines.Garble by place xor) past m known = set_done (Marks_change by (record { place = place; xor = xor })) (lines.Garble by place xor) past m known
done line past m known = known.1

by_lines : ByLine MayMark Setting Setting LeftMarks Marked
by_lines = record {
  said = said;
  in_line = record {
    begins = begins;
    effect = effect;
    does = does_next;
    done = done;
    ticks = λ count past m known. settled (lines.Tick count) past m tt known;
    common = λ past m event common may known. kept past m event (common_covered SetsNoMark of_tick event common) may known;
  };
}

pub mark_walk : Walk MayMark KnowMarks
mark_walk = walk_of MayMark Setting Setting LeftMarks Marked by_lines

-- ---- at first

pub none_wait : (side : Side) → marks_of side [] ≡ marks_at (way_of first_outer side)
unfolding first_outer
none_wait by_host = refl
none_wait by_chip = refl

pub marks_first : (m : Machine) → TieMarks [] m.outside → KnowMarks Between [] m
marks_first m tie = marked [] m tie refl
