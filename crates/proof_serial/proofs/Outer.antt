-- What an event outside the host, or of the host at the line, makes of what is on its way.
use Rattle.std.proofs.Common.{◌≡◌, ℕ, true, false, List, [], ◌∷◌, ◌++◌, map, refl, ap, sym, ◌∙◌, subst}
use Rattle.std.specs.Prelude.{Option, Some, None, slice_get}
use Rattle.std.proofs.lemmas.List.{append-nil}
use Rattle.serial_frame.specs.Stream.{Rest, Feeds, no_rest, after_tick}
use Rattle.serial_frame.specs.declared.unit.Unit.{Unit as LineUnit}
use Rattle.serial_frame.specs.declared.item.Item.{Item}
use Rattle.zw_words.specs.declared.side.Side.{Side}
use Rattle.zw_words.specs.declared.side.Side.TheVariants.{Host, Chip}
use Rattle.zw_text.specs.declared.entry.Entry.{Entry}
use Rattle.world_model.specs.serial_pipes.State.{WayState}
use Rattle.world_model.specs.serial_pipes.Events.{Takes}
use Rattle.world_model.specs.serial_pipes.Events as way
use Rattle.world_model.specs.serial_pipes.declared.marks.Garble.{Garble}
use Rattle.route_table.specs.declared.route.Route.{Route}
use Rattle.world_model.specs.chip_sim.State.{ChipState, ChipParts}
use Rattle.world_model.specs.chip_sim.Events.{ChipEvent, Ticked}
use Rattle.world_model.specs.chip_sim.Did.{outs_all, judged_all}
use Rattle.world_model.specs.chip_sim.Link.{chip_units}
use Rattle.world_model.specs.host_model.declared.out.HostOut.{HostOut}
use Rattle.world_model.specs.host_model.declared.out.HostOut.TheVariants.{Write, Note}
use Rattle.world_model.specs.device_sim.Event.{Ticks, Wakes, Sets}
use Rattle.air_frames.specs.Ages.{refusal_of}
use Rattle.world_model.specs.mesh_sim.Fates.{place_of}
use Rattle.world_model.specs.mesh_sim.Steps as mesh
use Rattle.world_model.specs.outside_model.Results.{device_at}
use Rattle.world_model.specs.outside_model.Nodes.{listens_at}
use Rattle.world_model.specs.outside_model.State.{OuterState, Outside}
use Rattle.world_model.specs.outside_model.Events.{OuterEvent, Begins_line, Begins_tick, Host_writes, Host_takes as host_takes, Host_notes, Host_begins, Chip_takes, Arrives, Gives, Device_ticks, Chip_ticks, Repeats, Wakes_device, Sets_device, Shows, Joins, Discovers, Links, Loses, Loses_acks, Marks_loss, Marks_change, Clears_pipe, Collides_next, Stalls, Cuts, is_own, outcome, has_entered, happens as happens_outside, May as MayOutside}
use Rattle.world_model.specs.outside_model.Did.{happens_all as happens_all_outside}
use Rattle.world_model.specs.State.{Machine, routed, noted_by, begun_in}
use Rattle.world_model.specs.Events.{Outside_does, happens, notes}
use Rattle.proof_serial.specs.Way.{Carries, written_all, items_all}
use Rattle.proof_serial.specs.Chip.{HasFrames}
use Rattle.proof_serial.specs.Line.{Carried, ChipDid, Change, Grows, Becomes, outer_up, outer_down, outer_rest, LineAfter, OuterAtRest, host_units}
use Rattle.proof_serial.proofs.Ways.{carries_all, carries_left, carries_none}
use Rattle.proof_serial.proofs.Frames.{events_have, events_fit}
use Rattle.proof_serial.proofs.ChipWays.{IsStill, still_does, does_each, does_both, does_one, written_all-append}
use Rattle.world_model.specs.device_sim.State.{State}
use Rattle.proof_serial.proofs.ChipMoves.{Moves, Rule, still_moves, moves_both, moves_from, moves_here, gives_moves, steps_moves, repeats_moves, at_moves, hand_moves, joins_moves, discovers_moves, collides_moves}

-- ---- entries

pub entered_still : (o : OuterState) (told : List Entry) → IsStill o (has_entered o told)
entered_still o [] = record { chip = refl; to_host = refl; to_chip = refl }
entered_still o (e ∷ told) = record { chip = refl; to_host = refl; to_chip = refl }

-- ---- what the host writes

-- these units went to the chip, and nothing else of the line changed
pub record Written (units : List LineUnit) (old new : OuterState) : Type 0 where
  pub chip : new.chip ≡ old.chip
  pub to_host : new.to_host ≡ old.to_host
  pub to_chip : new.to_chip ≡ written_all old.to_chip units

pub written_both : (a b : List LineUnit) (o p q : OuterState) → Written a o p → Written b p q → Written (a ++ b) o q
written_both a b o p q first later = record {
  chip = later.chip ∙ first.chip;
  to_host = later.to_host ∙ first.to_host;
  to_chip = later.to_chip ∙ ap (λ (w : WayState). written_all w b) first.to_chip ∙ sym (written_all-append o.to_chip a b);
}

write_one : (w : Outside) (unit : LineUnit) → Written (unit ∷ []) w.outer (happens_outside w (Host_writes unit)).outer
unfolding outcome
write_one w unit = record { chip = refl; to_host = refl; to_chip = refl }

note_one : (w : Outside) (e : Entry) → Written [] w.outer (happens_outside w (Host_notes e)).outer
unfolding outcome
note_one w e = record { chip = refl; to_host = refl; to_chip = refl }

begin_one : (w : Outside) (node sessions : ℕ) → Written [] w.outer (happens_outside w (Host_begins node sessions)).outer
unfolding outcome
begin_one w node sessions = record { chip = refl; to_host = refl; to_chip = refl }

pub notes_all : (w : Outside) (entries : List Entry) → Written [] w.outer (happens_all_outside w (notes entries)).outer
notes_all w [] = record { chip = refl; to_host = refl; to_chip = refl }
notes_all w (e ∷ entries) =
    written_both [] [] w.outer (happens_outside w (Host_notes e)).outer (happens_all_outside w (notes (e ∷ entries))).outer (note_one w e) (notes_all (happens_outside w (Host_notes e)) entries)

noted_one : (w : Outside) (begun : Option (ℕ × ℕ)) (e : Entry) (units : List LineUnit) (outs : List HostOut)
    → ((v : Outside) → Written units v.outer (happens_all_outside v (routed outs)).outer)
    → Written units w.outer (happens_all_outside w (noted_by begun e ++ routed outs)).outer
noted_one w None e units outs more =
    written_both [] units w.outer (happens_outside w (Host_notes e)).outer (happens_all_outside (happens_outside w (Host_notes e)) (routed outs)).outer (note_one w e) (more (happens_outside w (Host_notes e)))
noted_one w (Some begun) e units outs more =
    let begins = happens_outside w (Host_begins begun.0 begun.1) in
    let after = happens_outside begins (Host_notes e) in
    written_both [] units w.outer begins.outer (happens_all_outside after (routed outs)).outer (begin_one w begun.0 begun.1)
    (written_both [] units begins.outer after.outer (happens_all_outside after (routed outs)).outer (note_one begins e) (more after))

pub routed_all : (w : Outside) (outs : List HostOut) → Written (host_units outs) w.outer (happens_all_outside w (routed outs)).outer
routed_all w [] = record { chip = refl; to_host = refl; to_chip = refl }
routed_all w (Write unit ∷ outs) =
    written_both (unit ∷ []) (host_units outs) w.outer (happens_outside w (Host_writes unit)).outer (happens_all_outside (happens_outside w (Host_writes unit)) (routed outs)).outer
    (write_one w unit) (routed_all (happens_outside w (Host_writes unit)) outs)
routed_all w (Note e ∷ outs) = noted_one w (begun_in e) e (host_units outs) outs (λ v. routed_all v outs)

-- ---- events of the chip

pub still_frames : (m n : Machine) (events : List ChipEvent) → ChipDid events m n → HasFrames m.outside.outer.chip.state.port → HasFrames n.outside.outer.chip.state.port
still_frames m n events did has = subst (λ (s : ChipState). HasFrames s.port) (sym did.state) (events_have m.outside.outer.chip.state events has did.may)

-- nothing is asked of them
abbrev Any : ChipEvent → Type 0
Any event = Unit {0}

any : Rule Any (λ (devices : List State). Unit {0})
any = record { free = λ event is. tt; informed = λ air devices node route premise. tt }

-- the chip did some events, and nothing was taken or lost
moved : (m : Machine) (event : OuterEvent) (up down : List Item) → Carried m up down → HasFrames m.outside.outer.chip.state.port
    → outer_up event ≡ Grows [] → ((units : List LineUnit) → outer_down event units ≡ Grows units) → outer_rest m.outside.outer.chip.decoder event ≡ m.outside.outer.chip.decoder
    → Moves Any m.outside.outer (outcome m.outside event).outer → LineAfter m (Outside_does event) up down
unfolding happens
moved m event up down carried has up_grows down_grows rests moves =
    let o = m.outside.outer in
    let n = (outcome m.outside event).outer in
    let e = (happens_outside m.outside event).outer in
    let all = moves_both any o n e moves (still_moves any n e (entered_still n (outcome m.outside event).entries)) in
    let units = chip_units (outs_all o.chip.state all.events) in
    let did : ChipDid all.events m (happens m (Outside_does event)) = record { may = all.does.may; state = all.does.state } in
    let following = carries_all m.host.decoder o.to_host units down carried.to_host (events_fit o.chip.state all.events has all.does.may) in
    record {
      chip_events = all.events;
      chip = did;
      frames = still_frames m (happens m (Outside_does event)) all.events did has;
      at_chip = all.does.decoder ∙ sym rests;
      at_host = refl;
      up_after = up;
      down_after = down ++ items_all o.to_host units;
      carried = record {
        to_chip = subst (λ (w : WayState). Carries e.chip.decoder w up) (sym all.does.to_chip) (subst (λ (r : Rest). Carries r o.to_chip up) (sym all.does.decoder) carried.to_chip);
        to_host = subst (λ (w : WayState). Carries m.host.decoder w (down ++ items_all o.to_host units)) (sym all.does.to_host) following;
      };
      up_is = subst (λ (c : Change). Becomes c o.to_chip up up) (sym up_grows) (sym (append-nil up));
      down_is = subst (λ (c : Change). Becomes c o.to_host down (down ++ items_all o.to_host units)) (sym (down_grows units)) refl;
    }

-- the chip takes bytes
takes : (m : Machine) (count : ℕ) (rest : Rest) (ways : List (Item × Option Route)) (up down : List Item) → Carried m up down → HasFrames m.outside.outer.chip.state.port
    → MayOutside m.outside (Chip_takes count rest ways) → LineAfter m (Outside_does (Chip_takes count rest ways)) up down
unfolding happens outcome MayOutside
takes m count rest ways up down carried has may =
    let o = m.outside.outer in
    let event = Chip_takes count rest ways in
    let fed : OuterState = record o { to_chip = way.after o.to_chip (Takes count); chip = record { decoder = rest; state = o.chip.state } } in
    let n = (outcome m.outside event).outer in
    let e = (happens_outside m.outside event).outer in
    let judged = judged_all ways in
    let first = does_each fed judged may.judges in
    let entered = still_does n e (entered_still n (outcome m.outside event).entries) in
    let all = does_both judged [] fed n e first entered in
    let left = carries_left o.chip.decoder rest count o.to_chip up (map (λ w. w.0) ways) may.feeds carried.to_chip in
    let units = chip_units (outs_all o.chip.state (judged ++ [])) in
    let did : ChipDid (judged ++ []) m (happens m (Outside_does event)) = record { may = all.may; state = all.state } in
    let following = carries_all m.host.decoder o.to_host units down carried.to_host (events_fit o.chip.state (judged ++ []) has all.may) in
    record {
      chip_events = judged ++ [];
      chip = did;
      frames = still_frames m (happens m (Outside_does event)) (judged ++ []) did has;
      at_chip = all.decoder;
      at_host = refl;
      up_after = left.left;
      down_after = down ++ items_all o.to_host units;
      carried = record {
        to_chip = subst (λ (w : WayState). Carries e.chip.decoder w left.left) (sym all.to_chip) (subst (λ (r : Rest). Carries r fed.to_chip left.left) (sym all.decoder) left.feeds);
        to_host = subst (λ (w : WayState). Carries m.host.decoder w (down ++ items_all o.to_host units)) (sym all.to_host) following;
      };
      up_is = left.parts;
      down_is = refl;
    }

-- ---- what is lost on its way, and marks

pub nothing_done : (m n : Machine) → n.outside.outer.chip ≡ m.outside.outer.chip → ChipDid [] m n
nothing_done m n same = record { may = tt; state = ap (λ (c : ChipParts). c.state) same }

clears : (m : Machine) (side : Side) (up down : List Item) → Carried m up down → HasFrames m.outside.outer.chip.state.port
    → OuterAtRest m (Clears_pipe side) → LineAfter m (Outside_does (Clears_pipe side)) up down
unfolding happens outcome
clears m Host up down carried has rests =
    let o = m.outside.outer in
    let event = Clears_pipe Host in
    let n = (outcome m.outside event).outer in
    let e = (happens_outside m.outside event).outer in
    let still = entered_still n (outcome m.outside event).entries in
    let none = carries_none o.to_chip in
    record {
      chip_events = [];
      chip = nothing_done m (happens m (Outside_does event)) still.chip;
      frames = still_frames m (happens m (Outside_does event)) [] (nothing_done m (happens m (Outside_does event)) still.chip) has;
      at_chip = ap (λ (c : ChipParts). c.decoder) still.chip;
      at_host = refl;
      up_after = [];
      down_after = down;
      carried = record {
        to_chip = subst (λ (w : WayState). Carries e.chip.decoder w []) (sym still.to_chip) (subst (λ (r : Rest). Carries r n.to_chip []) (sym (ap (λ (c : ChipParts). c.decoder) still.chip ∙ rests)) none);
        to_host = subst (λ (w : WayState). Carries m.host.decoder w down) (sym still.to_host) carried.to_host;
      };
      up_is = refl;
      down_is = sym (append-nil down);
    }
clears m Chip up down carried has rests =
    let o = m.outside.outer in
    let event = Clears_pipe Chip in
    let n = (outcome m.outside event).outer in
    let e = (happens_outside m.outside event).outer in
    let still = entered_still n (outcome m.outside event).entries in
    let none = carries_none o.to_host in
    record {
      chip_events = [];
      chip = nothing_done m (happens m (Outside_does event)) still.chip;
      frames = still_frames m (happens m (Outside_does event)) [] (nothing_done m (happens m (Outside_does event)) still.chip) has;
      at_chip = ap (λ (c : ChipParts). c.decoder) still.chip;
      at_host = refl;
      up_after = up;
      down_after = [];
      carried = record {
        to_chip = subst (λ (w : WayState). Carries e.chip.decoder w up) (sym still.to_chip) (subst (λ (r : Rest). Carries r o.to_chip up) (sym (ap (λ (c : ChipParts). c.decoder) still.chip)) carried.to_chip);
        to_host = subst (λ (w : WayState). Carries m.host.decoder w []) (sym still.to_host) (subst (λ (r : Rest). Carries r n.to_host []) (sym rests) none);
      };
      up_is = sym (append-nil up);
      down_is = refl;
    }

-- the marks of a way say nothing of the bytes that are on it
pub record Marked (m n : Machine) : Type 0 where
  pub host : n.host.decoder ≡ m.host.decoder
  pub chip : n.outside.outer.chip ≡ m.outside.outer.chip
  pub to_host : n.outside.outer.to_host.bytes ≡ m.outside.outer.to_host.bytes
  pub to_chip : n.outside.outer.to_chip.bytes ≡ m.outside.outer.to_chip.bytes

marked : (m : Machine) (event : OuterEvent) (up down : List Item) → Carried m up down → HasFrames m.outside.outer.chip.state.port
    → outer_up event ≡ Grows [] → ((units : List LineUnit) → outer_down event units ≡ Grows units) → outer_rest m.outside.outer.chip.decoder event ≡ m.outside.outer.chip.decoder
    → Marked m (happens m (Outside_does event)) → LineAfter m (Outside_does event) up down
marked m event up down carried has up_grows down_grows rests same =
    let o = m.outside.outer in
    let n = happens m (Outside_does event) in
    record {
      chip_events = [];
      chip = nothing_done m n same.chip;
      frames = still_frames m n [] (nothing_done m n same.chip) has;
      at_chip = ap (λ (c : ChipParts). c.decoder) same.chip ∙ sym rests;
      at_host = same.host;
      up_after = up;
      down_after = down;
      carried = record {
        to_chip = subst (λ (l : List ℕ). Feeds n.outside.outer.chip.decoder l no_rest up) (sym same.to_chip) (subst (λ (r : Rest). Feeds r o.to_chip.bytes no_rest up) (sym (ap (λ (c : ChipParts). c.decoder) same.chip)) carried.to_chip);
        to_host = subst (λ (l : List ℕ). Feeds n.host.decoder l no_rest down) (sym same.to_host) (subst (λ (r : Rest). Feeds r o.to_host.bytes no_rest down) (sym same.host) carried.to_host);
      };
      up_is = subst (λ (c : Change). Becomes c o.to_chip up up) (sym up_grows) (sym (append-nil up));
      down_is = subst (λ (c : Change). Becomes c o.to_host down down) (sym (down_grows [])) (sym (append-nil down));
    }

loses_marked : (m : Machine) (side : Side) → Marked m (happens m (Outside_does (Marks_loss side)))
unfolding happens outcome
loses_marked m Host = record { host = refl; chip = refl; to_host = refl; to_chip = refl }
loses_marked m Chip = record { host = refl; chip = refl; to_host = refl; to_chip = refl }

changes_marked : (m : Machine) (side : Side) (garble : Garble) → Marked m (happens m (Outside_does (Marks_change side garble)))
unfolding happens outcome
changes_marked m Host garble = record { host = refl; chip = refl; to_host = refl; to_chip = refl }
changes_marked m Chip garble = record { host = refl; chip = refl; to_host = refl; to_chip = refl }

-- ---- a tick of the chip

pub tick_still : (r : Rest) → r ≡ no_rest → after_tick r ≡ r
tick_still r e = ap after_tick e ∙ sym e

ticks_moves : (w : Outside) → w.outer.chip.decoder ≡ no_rest → Moves Any w.outer (outcome w Chip_ticks).outer
unfolding outcome
ticks_moves w rests =
    let o = w.outer in
    let ticked : OuterState = record o { chip = record { decoder = after_tick o.chip.decoder; state = o.chip.state } } in
    moves_from any o ticked (outcome w Chip_ticks).outer
    (record { chip = ap (λ (r : Rest). record { decoder = r; state = o.chip.state }) (tick_still o.chip.decoder rests); to_host = refl; to_chip = refl })
    (record { events = Ticked ∷ []; does = does_one ticked Ticked tt; asks = (tt, tt) })

-- ---- events

pub wrong : {X : Type 0} → false ≡ true → X
wrong bad = absurd cc

still : (w : Outside) (n : OuterState) → n.chip ≡ w.outer.chip → n.to_host ≡ w.outer.to_host → n.to_chip ≡ w.outer.to_chip → Moves Any w.outer n
still w n chip to_host to_chip = moves_here any w.outer n chip to_host to_chip

pub outer_after : (m : Machine) (event : OuterEvent) (up down : List Item) → Carried m up down → HasFrames m.outside.outer.chip.state.port
    → is_own event ≡ true → MayOutside m.outside event → OuterAtRest m event → LineAfter m (Outside_does event) up down
unfolding outcome
outer_after m Begins_line up down carried has own may rests = moved m Begins_line up down carried has refl (λ units. refl) refl (still m.outside _ refl refl refl)
outer_after m Begins_tick up down carried has own may rests = moved m Begins_tick up down carried has refl (λ units. refl) refl (still m.outside _ refl refl refl)
outer_after m (Host_writes unit) up down carried has own may rests = wrong own
outer_after m (host_takes count) up down carried has own may rests = wrong own
outer_after m (Host_notes entry) up down carried has own may rests = wrong own
outer_after m (Host_begins node sessions) up down carried has own may rests = wrong own
outer_after m (Chip_takes count rest ways) up down carried has own may rests = takes m count rest ways up down carried has may
outer_after m (Arrives drawn route) up down carried has own may rests = moved m (Arrives drawn route) up down carried has refl (λ units. refl) refl (steps_moves any m.outside (mesh.Arrives drawn route))
outer_after m (Gives route) up down carried has own may rests = moved m (Gives route) up down carried has refl (λ units. refl) refl (gives_moves any m.outside.outer m.outside.devices m.outside.outer.due route tt)
outer_after m (Device_ticks place drawn route) up down carried has own may rests =
    moved m (Device_ticks place drawn route) up down carried has refl (λ units. refl) refl (at_moves any m.outside.outer (slice_get m.outside.devices place) (Ticks drawn) route)
outer_after m Chip_ticks up down carried has own may rests = moved m Chip_ticks up down carried has refl (λ units. refl) refl (ticks_moves m.outside rests)
outer_after m (Repeats number drawn route) up down carried has own may rests = moved m (Repeats number drawn route) up down carried has refl (λ units. refl) refl (repeats_moves any m.outside (refusal_of m.outside.outer.air.frames number) (mesh.Repeats number drawn route))
outer_after m (Wakes_device node route) up down carried has own may rests =
    moved m (Wakes_device node route) up down carried has refl (λ units. refl) refl (hand_moves any m.outside.outer m.outside.devices (place_of node m.outside.devices) Wakes route)
outer_after m (Sets_device node value route) up down carried has own may rests =
    moved m (Sets_device node value route) up down carried has refl (λ units. refl) refl (hand_moves any m.outside.outer m.outside.devices (place_of node m.outside.devices) (Sets value) route)
outer_after m (Shows node) up down carried has own may rests = moved m (Shows node) up down carried has refl (λ units. refl) refl (still m.outside _ refl refl refl)
outer_after m (Joins node) up down carried has own may rests = moved m (Joins node) up down carried has refl (λ units. refl) refl (joins_moves any m.outside.outer node (listens_at (device_at m.outside.devices (place_of node m.outside.devices))))
outer_after m Discovers up down carried has own may rests = moved m Discovers up down carried has refl (λ units. refl) refl (discovers_moves any m.outside.outer)
outer_after m (Links a b live) up down carried has own may rests = moved m (Links a b live) up down carried has refl (λ units. refl) refl (still m.outside _ refl refl refl)
outer_after m (Loses count) up down carried has own may rests = moved m (Loses count) up down carried has refl (λ units. refl) refl (still m.outside _ refl refl refl)
outer_after m (Loses_acks count) up down carried has own may rests = moved m (Loses_acks count) up down carried has refl (λ units. refl) refl (still m.outside _ refl refl refl)
outer_after m (Marks_loss side) up down carried has own may rests = marked m (Marks_loss side) up down carried has refl (λ units. refl) refl (loses_marked m side)
outer_after m (Marks_change side garble) up down carried has own may rests = marked m (Marks_change side garble) up down carried has refl (λ units. refl) refl (changes_marked m side garble)
outer_after m (Clears_pipe side) up down carried has own may rests = clears m side up down carried has rests
outer_after m Collides_next up down carried has own may rests = moved m Collides_next up down carried has refl (λ units. refl) refl (collides_moves any m.outside.outer)
outer_after m (Stalls ticks) up down carried has own may rests = moved m (Stalls ticks) up down carried has refl (λ units. refl) refl (still m.outside _ refl refl refl)
outer_after m (Cuts size) up down carried has own may rests = moved m (Cuts size) up down carried has refl (λ units. refl) refl (still m.outside _ refl refl refl)
