-- What went on the air, and then what is on its way to the chip, was asked for in that order: so through each event of the machine at which only units are written, and along lines.
use Rattle.std.proofs.Common.{◌≡◌, ℕ, ◌&&◌, not, Bool, true, false, if◌then◌else◌, List, [], ◌∷◌, ◌++◌, map, refl, sym, ap, subst, ◌∙◌, append_assoc, append-nil}
use Rattle.std.proofs.lemmas.Grind.{flat_map-append}
use Rattle.std.specs.Prelude.{Option}
use Rattle.std.specs.List.{AllByRecursion}
use Rattle.zw_base.proofs.Each.{all-weaker}
use Rattle.s0_crypto.specs.declared.key_pair.Keys.{Keys}
use Rattle.serial_frame.specs.Items.{IsUnit}
use Rattle.serial_frame.specs.Stream.{Rest}
use Rattle.serial_frame.specs.declared.unit.Unit.{Unit as LineUnit}
use Rattle.serial_frame.specs.declared.item.Item.{Item}
use Rattle.serial_pipes.specs.State.{WayState}
use Rattle.serial_pipes.specs.Events.{Takes}
use Rattle.serial_pipes.specs.Events as way
use Rattle.route_table.specs.declared.route.Route.{Route}
use Rattle.device_sim.specs.State.{State}
use Rattle.proof_air.specs.mesh_sim.Air.{is_joined}
use Rattle.zw_words.specs.declared.side.Side.TheVariants.{Host as by_host, Chip as by_chip}
use Rattle.zw_text.specs.declared.entry.Entry.{Entry}
use Rattle.zw_text.specs.declared.entry.Entry.TheVariants as entry
use Rattle.law_host.specs.law_transcript.Lists.{EachAfter}
use Rattle.law_host.specs.law_transcript.Nodes.{controller}
use Rattle.law_host.specs.law_transcript.Units.{Carried}
use Rattle.law_host.specs.law_transcript.Carrying.{ArePicked, MaySend, asked, sent_out}
use Rattle.proof_air.proofs.Lists.{each-append}
use Rattle.proof_air.specs.host_model.State.{HostState}
use Rattle.proof_air.specs.host_model.Events.{HostEvent}
use Rattle.proof_air.specs.host_model.Did.{outs_all}
use Rattle.proof_air.specs.host_model.Outs.{answers}
use Rattle.proof_air.specs.host_model.declared.out.HostOut.{HostOut}
use Rattle.proof_air.specs.host_model.declared.out.HostOut.TheVariants.{Write, Note}
use Rattle.proof_air.specs.outside_model.State.{OuterState, Outside}
use Rattle.proof_air.specs.outside_model.Events.{OuterEvent, Host_writes, Host_takes as host_takes, Host_notes, Host_begins, Chip_takes, Clears_pipe, is_own, outcome, stamp, ticked_entry, happens as happens_outside, entries as entries_outside}
use Rattle.proof_air.specs.outside_model.Did.{happens_all as happens_all_outside, entries_all as entries_all_outside}
use Rattle.proof_air.specs.world_model.State.{Machine, first_machine, host_does, routed}
use Rattle.proof_air.specs.world_model.Events.{Event, Outside_does, Host_does, Host_takes, Decoder_ticks, Refuses, Shows_values, Restarts, notes, shown_values, happens, entries, May}
use Rattle.proof_air.specs.world_model.Did.{AllAlong}
use Rattle.proof_spoken.specs.proof_serial.Line.{AllAtRest, AllWriteWell, Becomes, LineAfter, host_units, outer_up}
use Rattle.proof_spoken.specs.proof_serial.Line as line
use Rattle.proof_spoken.specs.proof_serial.Way.{Carries}
use Rattle.proof_spoken.specs.proof_serial.Chip.{HasFrames}
use Rattle.proof_spoken.proofs.First.{first_carried, first_frames}
use Rattle.proof_air.specs.proof_walk.Outside.{IsNote}
use Rattle.proof_air.specs.proof_walk.Phases.{Phase}
use Rattle.proof_air.specs.proof_walk.Walk.{Walk, WalkWhere, both_know}
use Rattle.proof_air.proofs.Machines.{UnitsAre, answers_keep, outs_keep}
use Rattle.proof_spoken.proofs.Aside.{stamp_are}
use Rattle.proof_air.specs.Hearing.{KnowAir, MayHear}
use Rattle.proof_air.proofs.Handling.{tie_here}
use Rattle.proof_air.proofs.Judging.{StartsSo}
use Rattle.proof_transcript.specs.Carrying.{IsWell, KnowUnderway, LineUnderway, Underway, sends_in, sends_of}
use Rattle.proof_transcript.proofs.Picked.{AreQuiet, IsNoFrame, IsNoUnit, IsQuiet, none_sent, quiet_no_frame, quiet_no_unit, told_goes}
use Rattle.proof_air.proofs.Picked.{picked_same}
use Rattle.proof_air.proofs.Picked.{picked_both}
use Rattle.proof_transcript.proofs.AskedUnits.{unit_goes}
use Rattle.proof_transcript.proofs.SentFrames.{TakesNone, outcome_quiet, takes_no_units, takes_sent}

-- ---- entries that are quiet

-- what was on its way still is, or less
quiet_told : (past told : List Entry) (old new : List Item) → AreQuiet told → ArePicked (sends_of new) (sends_of old) → ArePicked (sent_out past ++ sends_of old) (asked past)
    → EachAfter MaySend past told × ArePicked (sent_out (past ++ told) ++ sends_of new) (asked (past ++ told))
quiet_told past told old new quiet less picked =
    told_goes past told (sends_of old) (sends_of new) (all-weaker IsQuiet IsNoUnit quiet_no_unit told quiet)
    (subst (λ (l : List Carried). ArePicked (l ++ sends_of new) (sends_of old)) (sym (none_sent told (all-weaker IsQuiet IsNoFrame quiet_no_frame told quiet))) less) picked

note_quiet : (e : Entry) → IsNote e → IsQuiet e
note_quiet (entry.Written side unit) note = absurd note
note_quiet (entry.Dropped side) note = absurd note
note_quiet (entry.Garbled side unit) note = absurd note
note_quiet (entry.Overrun side) note = absurd note
note_quiet (entry.Air frame sender receiver repeaters payload) note = absurd note
note_quiet e note = tt

number_quiet : (o : OuterState) → AreQuiet (ticked_entry o)
number_quiet o = by (o.in_tick && not o.stamped)
  where
    by : (b : Bool) → AreQuiet (if b then entry.Time o.clock ∷ [] else [])
    by true = (tt, tt)
    by false = tt

-- ---- what the host does outside of itself

abbrev Keeps : Outside → List Entry → Outside → Type 0
Keeps w told later = (past : List Entry) → Underway past w.outer → EachAfter MaySend past told × Underway (past ++ told) later.outer

quiet_keeps : (w later : Outside) (told : List Entry) → AreQuiet told → later.outer.chip.decoder ≡ w.outer.chip.decoder → later.outer.to_chip ≡ w.outer.to_chip → Keeps w told later
quiet_keeps w later told quiet decoder to_chip past under =
    let got = quiet_told past told under.up under.up quiet (picked_same (sends_of under.up)) under.picked in (
      got.0,
      record {
        up = under.up;
        carries = subst (λ (r : Rest). Carries r later.outer.to_chip under.up) (sym decoder)
            (subst (λ (x : WayState). Carries w.outer.chip.decoder x under.up) (sym to_chip) under.carries);
        picked = got.1;
      },
    )

keeps_none : (w : Outside) → Keeps w [] w
keeps_none w = quiet_keeps w w [] tt refl refl

keeps_both : (w u v : Outside) (xs ys : List Entry) → Keeps w xs u → Keeps u ys v → Keeps w (xs ++ ys) v
keeps_both w u v xs ys first later past under =
    let one = first past under in
    let two = later (past ++ xs) one.1 in
    (each-append MaySend past xs ys one.0 two.0, subst (λ (l : List Entry). Underway l v.outer) (append_assoc past xs ys) two.1)

note_keeps : (w : Outside) (note : Entry) → IsNote note → Keeps w (entries_outside w (Host_notes note)) (happens_outside w (Host_notes note))
unfolding outcome
note_keeps w note is = quiet_keeps w (happens_outside w (Host_notes note)) (entries_outside w (Host_notes note)) (stamp_are IsQuiet (λ tick. tt) w.outer (note ∷ []) (note_quiet note is, tt)) refl refl

begin_keeps : (w : Outside) (node session : ℕ) → Keeps w (entries_outside w (Host_begins node session)) (happens_outside w (Host_begins node session))
unfolding outcome
begin_keeps w node session = quiet_keeps w (happens_outside w (Host_begins node session)) [] tt refl refl

take_keeps : (w : Outside) (count : ℕ) → Keeps w [] (happens_outside w (host_takes count))
unfolding outcome
take_keeps w count = quiet_keeps w (happens_outside w (host_takes count)) [] tt refl refl

-- the number of the tick, and then the unit
write_keeps : (w : Outside) (unit : LineUnit) → IsUnit unit → Keeps w (entries_outside w (Host_writes unit)) (happens_outside w (Host_writes unit))
unfolding outcome
write_keeps w unit is =
    keeps_both w w (happens_outside w (Host_writes unit)) (ticked_entry w.outer) (outcome w (Host_writes unit)).entries
    (quiet_keeps w w (ticked_entry w.outer) (number_quiet w.outer) refl refl)
    (λ past under. let got = unit_goes w.outer unit is past under in (got.0, record { up = got.1.up; carries = got.1.carries; picked = got.1.picked }))

units_are : (outs : List HostOut) → AllByRecursion IsUnit (host_units outs) → UnitsAre IsUnit outs
units_are [] all = tt
units_are (Write unit ∷ outs) all = (all.0, units_are outs all.1)
units_are (Note note ∷ outs) all = units_are outs all

abbrev AnyNote : Entry → Type 0
AnyNote note = Unit {0}

session_keeps : (w : Outside) (node session command : ℕ)
    → Keeps w (entries_outside w (Host_begins node session) ++ entries_outside (happens_outside w (Host_begins node session)) (Host_notes (entry.Begin node session command)))
    (happens_outside (happens_outside w (Host_begins node session)) (Host_notes (entry.Begin node session command)))
session_keeps w node session command =
    let begun : Outside = happens_outside w (Host_begins node session) in
    keeps_both w begun (happens_outside begun (Host_notes (entry.Begin node session command))) (entries_outside w (Host_begins node session))
    (entries_outside begun (Host_notes (entry.Begin node session command))) (begin_keeps w node session) (note_keeps begun (entry.Begin node session command) tt)

outs_go : (w : Outside) (h : HostState) (events : List HostEvent) → AllByRecursion IsUnit (host_units (outs_all h events))
    → Keeps w (entries_all_outside w (routed (outs_all h events))) (happens_all_outside w (routed (outs_all h events)))
outs_go w h events units =
    outs_keep IsUnit AnyNote Keeps keeps_none keeps_both write_keeps (λ v note is unbegun told. note_keeps v note is) session_keeps (λ note is. tt) w h events (units_are (outs_all h events) units)

any_notes : (told : List Entry) → AllByRecursion AnyNote told
any_notes [] = tt
any_notes (note ∷ told) = (tt, any_notes told)

answers_go : (w : Outside) (h : HostState) (event : HostEvent) → Keeps w (entries_all_outside w (notes (answers h event))) (happens_all_outside w (notes (answers h event)))
answers_go w h event =
    answers_keep IsUnit AnyNote Keeps keeps_none keeps_both write_keeps (λ v note is unbegun told. note_keeps v note is) session_keeps w h event (any_notes (answers h event))

-- ---- an event of the machine that is not outside

host_goes : (m : Machine) (event : HostEvent) → AllByRecursion IsUnit (host_units (outs_all m.host.state (event ∷ []))) → Keeps m.outside (entries m (Host_does event)) (happens m (Host_does event)).outside
unfolding happens entries
host_goes m event units =
    let later : Outside = (host_does m (event ∷ [])).outside in
    keeps_both m.outside later (happens_all_outside later (notes (answers m.host.state event)))
    (entries_all_outside m.outside (routed (outs_all m.host.state (event ∷ [])))) (entries_all_outside later (notes (answers m.host.state event)))
    (outs_go m.outside m.host.state (event ∷ []) units) (answers_go later m.host.state event)

feeds_go : (m : Machine) (count : ℕ) (rest : Rest) (items : List Item) (events : List HostEvent) → AllByRecursion IsUnit (host_units (outs_all m.host.state events))
    → Keeps m.outside (entries m (Host_takes count rest items events)) (happens m (Host_takes count rest items events)).outside
unfolding happens entries
feeds_go m count rest items events units =
    let later : Outside = happens_outside m.outside (host_takes count) in
    keeps_both m.outside later (happens_all_outside later (routed (outs_all m.host.state events))) [] (entries_all_outside later (routed (outs_all m.host.state events)))
    (take_keeps m.outside count) (outs_go later m.host.state events units)

-- ---- an event outside the host

none_less : (old new : List Item) → new ≡ old ++ [] → ArePicked (sends_of new) (sends_of old)
none_less old new is = subst (λ (l : List Item). ArePicked (sends_of l) (sends_of old)) (sym (is ∙ append-nil old)) (picked_same (sends_of old))

outer_less : (event : OuterEvent) → TakesNone event → (w : WayState) (old new : List Item) → Becomes (outer_up event) w old new → ArePicked (sends_of new) (sends_of old)
outer_less (Chip_takes count rest ways) none w old new is = absurd none
outer_less (Clears_pipe by_host) none w old new is = subst (λ (l : List Item). ArePicked (sends_of l) (sends_of old)) (sym is) tt
outer_less (Clears_pipe by_chip) none w old new is = none_less old new is
outer_less event none w old new is = none_less old new is

-- the number of the tick counts for nothing
stamped_sent : (o : OuterState) (told : List Entry) → sent_out (stamp o told) ≡ sent_out told
stamped_sent o [] = refl
stamped_sent o (first ∷ told) = by (o.in_tick && not o.stamped)
  where
    by : (b : Bool) → sent_out ((if b then entry.Time o.clock ∷ [] else []) ++ first ∷ told) ≡ sent_out (first ∷ told)
    by true = refl
    by false = refl

module _ (rules : StartsSo) where
  -- items are judged, and no longer on their way
  takes_told : (w : Outside) (count : ℕ) (rest : Rest) (ways : List (Item × Option Route)) (past : List Entry) (old new : List Item) → old ≡ map (λ (one : Item × Option Route). one.0) ways ++ new
      → ArePicked (sent_out past ++ sends_of old) (asked past)
      → EachAfter MaySend past (entries_outside w (Chip_takes count rest ways))
      × ArePicked (sent_out (past ++ entries_outside w (Chip_takes count rest ways)) ++ sends_of new) (asked (past ++ entries_outside w (Chip_takes count rest ways)))
  unfolding outcome
  takes_told w count rest ways past old new is picked =
      let items : List Item = map (λ (one : Item × Option Route). one.0) ways in
      let x = outcome w (Chip_takes count rest ways) in
      let fed : OuterState = record w.outer { to_chip = way.after w.outer.to_chip (Takes count); chip = record { decoder = rest; state = w.outer.chip.state } } in
      let told : List Entry = entries_outside w (Chip_takes count rest ways) in
      let sends : sends_of old ≡ sends_of items ++ sends_of new = ap (λ (l : List Item). sends_of l) is ∙ flat_map-append sends_in items new in
      let fits : ArePicked (sent_out told) (sends_of items)
      = subst (λ (l : List Carried). ArePicked l (sends_of items)) (sym (stamped_sent x.outer x.entries)) (takes_sent rules ways fed) in
      told_goes past told (sends_of old) (sends_of new) (stamp_are IsNoUnit (λ tick. tt) x.outer x.entries (takes_no_units rules ways fed))
      (subst (λ (l : List Carried). ArePicked (sent_out told ++ sends_of new) l) (sym sends)
      (picked_both (sent_out told) (sends_of new) (sends_of items) (sends_of new) fits (picked_same (sends_of new)))) picked

  other_told : (w : Outside) (event : OuterEvent) → is_own event ≡ true → TakesNone event → is_joined w.outer.air controller ≡ false → (past : List Entry) (old new : List Item)
      → Becomes (outer_up event) w.outer.to_chip old new → ArePicked (sent_out past ++ sends_of old) (asked past)
      → EachAfter MaySend past (entries_outside w event) × ArePicked (sent_out (past ++ entries_outside w event) ++ sends_of new) (asked (past ++ entries_outside w event))
  other_told w event own none home past old new is picked =
      quiet_told past (entries_outside w event) old new
      (stamp_are IsQuiet (λ tick. tt) (outcome w event).outer (outcome w event).entries (outcome_quiet rules w home event own none)) (outer_less event none w.outer.to_chip old new is) picked

  outside_told : (w : Outside) (event : OuterEvent) → is_own event ≡ true → is_joined w.outer.air controller ≡ false → (past : List Entry) (old new : List Item)
      → Becomes (outer_up event) w.outer.to_chip old new → ArePicked (sent_out past ++ sends_of old) (asked past)
      → EachAfter MaySend past (entries_outside w event) × ArePicked (sent_out (past ++ entries_outside w event) ++ sends_of new) (asked (past ++ entries_outside w event))
  outside_told w (Chip_takes count rest ways) own home past old new is picked = takes_told w count rest ways past old new is picked
  outside_told w event own home past old new is picked = other_told w event own tt home past old new is picked

-- ---- the walk

-- what `units_are_judged_whole` says of each event
abbrev pub KeepsLine : Type 0
KeepsLine = (m : Machine) (event : Event) (up down : List Item) → line.Carried m up down → HasFrames m.outside.outer.chip.state.port → May m event → line.IsAtRest m event → line.WritesWell m event →
    LineAfter m event up down

-- what is known of the air, and of the line
abbrev pub KnowBoth : Phase → List Entry → Machine → Type 0
KnowBoth = both_know KnowAir KnowUnderway

module _ (rules : StartsSo) (keeps : KeepsLine) where
  module _ (past : List Entry) (m : Machine) (event : Event) (may : May m event) (well : IsWell m event) (known : LineUnderway past m) where
    after : LineAfter m event known.ahead.up known.down
    after = keeps m event known.ahead.up known.down (record { to_chip = known.ahead.carries; to_host = known.to_host }) known.frames may well.0 well.1

    -- with what is on its way to the chip then
    ends : Underway (past ++ entries m event) (happens m event).outside.outer → LineUnderway (past ++ entries m event) (happens m event)
    ends under = record { ahead = under; down = after.down_after; to_host = after.carried.to_host; frames = after.frames }

    by_line : EachAfter MaySend past (entries m event) × ArePicked (sent_out (past ++ entries m event) ++ sends_of after.up_after) (asked (past ++ entries m event))
        → EachAfter MaySend past (entries m event) × Underway (past ++ entries m event) (happens m event).outside.outer
    by_line got = (got.0, record { up = after.up_after; carries = after.carried.to_chip; picked = got.1 })

  event_goes : (past : List Entry) (m : Machine) (event : Event) → May m event → IsWell m event → is_joined m.outside.outer.air controller ≡ false → LineUnderway past m
      → EachAfter MaySend past (entries m event) × Underway (past ++ entries m event) (happens m event).outside.outer
  unfolding happens entries May
  event_goes past m (Outside_does event) may well home known =
      let l = after past m (Outside_does event) may well known in
      by_line past m (Outside_does event) may well known
      (outside_told rules m.outside event may.0 home past known.ahead.up l.up_after l.up_is known.ahead.picked)
  event_goes past m (Host_does event) may well home known = host_goes m event well.1 past known.ahead
  event_goes past m (Host_takes count rest items events) may well home known = feeds_go m count rest items events well.1 past known.ahead
  event_goes past m Decoder_ticks may well home known = keeps_none m.outside past known.ahead
  event_goes past m (Refuses order refusal) may well home known = note_keeps m.outside (entry.Refused refusal) tt past known.ahead
  event_goes past m (Shows_values node) may well home known = note_keeps m.outside (shown_values m.host.state node) tt past known.ahead
  event_goes past m (Restarts state) may well home known = keeps_none m.outside past known.ahead

  said : (past : List Entry) (m : Machine) (words : List ℕ) → LineUnderway past m → LineUnderway (past ++ entry.Said words ∷ []) m
  said past m words known =
      let got = quiet_told past (entry.Said words ∷ []) known.ahead.up known.ahead.up (tt, tt) (picked_same (sends_of known.ahead.up)) known.ahead.picked in
      record {
        ahead = record { up = known.ahead.up; carries = known.ahead.carries; picked = got.1 };
        down = known.down;
        to_host = known.to_host;
        frames = known.frames;
      }

  pub carrying_walk : Walk MayHear KnowAir → WalkWhere IsWell MaySend KnowBoth
  carrying_walk air = record {
    said = λ past m words order read known. (tt, ((air.said past m words order read known.0).1, said past m words known.1));
    event = λ here next past m event goes may well known.
        let home = (tie_here here past m known.0).home in
        let got = event_goes past m event may well home known.1 in
        (got.0, ((air.event here next past m event goes may known.0).1, ends past m event may well known.1 got.1));
    turn = λ here next past m turns known. (air.turn here next past m turns known.0, known.1);
  }

-- ---- the first machine, and all events

pub first_underway : (keys : Keys) (records : Option (List (List ℕ))) (devices : List State) → LineUnderway [] (first_machine keys records devices)
first_underway keys records devices =
    let carried = first_carried keys records devices in
    record {
      ahead = record { up = []; carries = carried.to_chip; picked = tt };
      down = [];
      to_host = carried.to_host;
      frames = first_frames keys records devices;
    }

pub all_well : (m : Machine) (events : List Event) → AllAtRest m events → AllWriteWell m events → AllAlong IsWell m events
all_well m [] rests writes = tt
all_well m (event ∷ events) rests writes = ((rests.0, writes.0), all_well (happens m event) events rests.1 writes.1)
