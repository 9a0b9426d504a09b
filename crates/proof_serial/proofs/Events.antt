-- What each event of the machine makes of what is on its way, and that both sides stay at rest where all bytes are taken.
use Rattle.std.proofs.Common.{◌≡◌, ℕ, List, [], ◌∷◌, ◌++◌, length, map, refl, ap, sym, ◌∙◌, subst}
use Rattle.std.specs.Prelude.{take, drop}
use Rattle.std.proofs.lemmas.List.{append-nil}
use Rattle.serial_frame.specs.Stream.{Rest, Feeds, no_rest}
use Rattle.serial_frame.specs.declared.unit.Unit.{Unit as LineUnit}
use Rattle.serial_frame.specs.declared.item.Item.{Item}
use Rattle.world_model.specs.serial_pipes.State.{WayState}
use Rattle.zw_words.specs.declared.side.Side.TheVariants.{Host, Chip}
use Rattle.zw_text.specs.declared.entry.Entry.TheVariants.{Refused}
use Rattle.world_model.specs.chip_sim.State.{ChipParts}
use Rattle.world_model.specs.host_model.State.{HostState}
use Rattle.world_model.specs.host_model.Events.{HostEvent}
use Rattle.world_model.specs.host_model.Did.{outs_all as host_outs_all}
use Rattle.world_model.specs.host_model.Outs.{answers}
use Rattle.world_model.specs.outside_model.State.{OuterState}
use Rattle.world_model.specs.outside_model.Events.{OuterEvent, Chip_takes, Chip_ticks, Clears_pipe, outcome, May as MayOutside}
use Rattle.world_model.specs.State.{Machine, host_does}
use Rattle.world_model.specs.Events.{Event, Outside_does, Host_does, Host_takes, Decoder_ticks, Refuses, Shows_values, Restarts, happens, May, fed, host_answers, shown_values}
use Rattle.world_model.specs.Did.{happens_all, MayAll}
use Rattle.world_model.specs.Lines.{restart_events}
use Rattle.proof_serial.specs.Way.{Carries, written_all, items_all}
use Rattle.proof_serial.specs.Chip.{HasFrames}
use Rattle.world_model.specs.Settling.{TakesWhole, OuterTakesAll}
use Rattle.proof_serial.specs.Line.{Carried, IsWhole, AreAtRest, LineAfter, IsAtRest, OuterAtRest, Stays, AllTakeWhole, WritesWell, AllWriteWell, Change, Grows, Becomes, up_change, down_change, host_writes, host_rest, chip_rest, outer_rest}
use Rattle.proof_serial.proofs.EndedItems.{feeds_all}
use Rattle.proof_serial.proofs.Ways.{carries_all, carries_left}
use Rattle.proof_serial.proofs.Outer.{Written, routed_all, notes_all, written_both, nothing_done, still_frames, outer_after, tick_still}

-- ---- what the host does

host_event : (m : Machine) (event : HostEvent) → Written (host_writes m (Host_does event)) m.outside.outer (happens m (Host_does event)).outside.outer
unfolding happens
host_event m event =
    let base = host_does m (event ∷ []) in
    let first = routed_all m.outside (host_outs_all m.host.state (event ∷ [])) in
    let later = notes_all base.outside (answers m.host.state event) in
    let all = written_both (host_writes m (Host_does event)) [] m.outside.outer base.outside.outer (host_answers m event).outside.outer first later in
    subst (λ (l : List LineUnit). Written l m.outside.outer (happens m (Host_does event)).outside.outer) (append-nil (host_writes m (Host_does event))) all

host_same : (m : Machine) (event : HostEvent) → (happens m (Host_does event)).host.decoder ≡ m.host.decoder
unfolding happens
host_same m event = refl

host_does_after : (m : Machine) (event : HostEvent) (up down : List Item) → Carried m up down → HasFrames m.outside.outer.chip.state.port
    → WritesWell m (Host_does event) → LineAfter m (Host_does event) up down
host_does_after m event up down carried has well =
    let o = m.outside.outer in
    let n = happens m (Host_does event) in
    let units = host_writes m (Host_does event) in
    let written = host_event m event in
    let did = nothing_done m n written.chip in
    let ahead = carries_all o.chip.decoder o.to_chip units up carried.to_chip well in
    record {
      chip_events = [];
      chip = did;
      frames = still_frames m n [] did has;
      at_chip = ap (λ (c : ChipParts). c.decoder) written.chip;
      at_host = host_same m event;
      up_after = up ++ items_all o.to_chip units;
      down_after = down;
      carried = record {
        to_chip = subst (λ (w : WayState). Carries n.outside.outer.chip.decoder w (up ++ items_all o.to_chip units)) (sym written.to_chip)
            (subst (λ (r : Rest). Carries r (written_all o.to_chip units) (up ++ items_all o.to_chip units)) (sym (ap (λ (c : ChipParts). c.decoder) written.chip)) ahead);
        to_host = subst (λ (w : WayState). Carries n.host.decoder w down) (sym written.to_host) (subst (λ (r : Rest). Carries r o.to_host down) (sym (host_same m event)) carried.to_host);
      };
      up_is = refl;
      down_is = sym (append-nil down);
    }

-- ---- the host takes bytes

-- nothing but the bytes of its pipe goes
fed_still : (m : Machine) (count : ℕ) (rest : Rest) → (fed m count rest).outside.outer ≡ record m.outside.outer { to_host = record m.outside.outer.to_host { bytes = drop count m.outside.outer.to_host.bytes } }
unfolding outcome
fed_still m count rest = refl

takes_written : (m : Machine) (count : ℕ) (rest : Rest) (items : List Item) (events : List HostEvent)
    → Written (host_writes m (Host_takes count rest items events)) (fed m count rest).outside.outer (happens m (Host_takes count rest items events)).outside.outer
unfolding happens
takes_written m count rest items events = routed_all (fed m count rest).outside (host_outs_all m.host.state events)

takes_rest : (m : Machine) (count : ℕ) (rest : Rest) (items : List Item) (events : List HostEvent) → (happens m (Host_takes count rest items events)).host.decoder ≡ rest
unfolding happens
takes_rest m count rest items events = refl

host_takes_after : (m : Machine) (count : ℕ) (rest : Rest) (items : List Item) (events : List HostEvent) (up down : List Item) → Carried m up down
    → HasFrames m.outside.outer.chip.state.port → May m (Host_takes count rest items events) → WritesWell m (Host_takes count rest items events)
    → LineAfter m (Host_takes count rest items events) up down
unfolding May
host_takes_after m count rest items events up down carried has may well =
    let o = m.outside.outer in
    let f = (fed m count rest).outside.outer in
    let event = Host_takes count rest items events in
    let n = happens m event in
    let units = host_writes m event in
    let written = takes_written m count rest items events in
    let same = fed_still m count rest in
    let chip : n.outside.outer.chip ≡ o.chip = written.chip ∙ ap (λ (x : OuterState). x.chip) same in
    let to_chip : n.outside.outer.to_chip ≡ written_all o.to_chip units = written.to_chip ∙ ap (λ (x : OuterState). written_all x.to_chip units) same in
    let to_host : n.outside.outer.to_host.bytes ≡ drop count o.to_host.bytes = ap (λ (w : WayState). w.bytes) written.to_host ∙ ap (λ (x : OuterState). x.to_host.bytes) same in
    let did = nothing_done m n chip in
    let ahead = carries_all o.chip.decoder o.to_chip units up carried.to_chip well in
    let left = carries_left m.host.decoder rest count o.to_host down items may.feeds carried.to_host in
    record {
      chip_events = [];
      chip = did;
      frames = still_frames m n [] did has;
      at_chip = ap (λ (c : ChipParts). c.decoder) chip;
      at_host = takes_rest m count rest items events;
      up_after = up ++ items_all o.to_chip units;
      down_after = left.left;
      carried = record {
        to_chip = subst (λ (w : WayState). Carries n.outside.outer.chip.decoder w (up ++ items_all o.to_chip units)) (sym to_chip)
            (subst (λ (r : Rest). Carries r (written_all o.to_chip units) (up ++ items_all o.to_chip units)) (sym (ap (λ (c : ChipParts). c.decoder) chip)) ahead);
        to_host = subst (λ (l : List ℕ). Feeds n.host.decoder l no_rest left.left) (sym to_host)
            (subst (λ (r : Rest). Feeds r (drop count o.to_host.bytes) no_rest left.left) (sym (takes_rest m count rest items events)) left.feeds);
      };
      up_is = refl;
      down_is = left.parts;
    }

-- ---- entries, ticks and restarts

-- nothing of the line changes
still_after : (m : Machine) (event : Event) (up down : List Item) → Carried m up down → HasFrames m.outside.outer.chip.state.port
    → (happens m event).host.decoder ≡ m.host.decoder → Written [] m.outside.outer (happens m event).outside.outer
    → chip_rest m event ≡ m.outside.outer.chip.decoder → host_rest m event ≡ m.host.decoder → up_change m event ≡ Grows [] → ((units : List LineUnit) → down_change event units ≡ Grows units)
    → LineAfter m event up down
still_after m event up down carried has host written chip_same host_same up_grows down_grows =
    let o = m.outside.outer in
    let n = happens m event in
    let did = nothing_done m n written.chip in
    record {
      chip_events = [];
      chip = did;
      frames = still_frames m n [] did has;
      at_chip = ap (λ (c : ChipParts). c.decoder) written.chip ∙ sym chip_same;
      at_host = host ∙ sym host_same;
      up_after = up;
      down_after = down;
      carried = record {
        to_chip = subst (λ (w : WayState). Carries n.outside.outer.chip.decoder w up) (sym written.to_chip) (subst (λ (r : Rest). Carries r o.to_chip up) (sym (ap (λ (c : ChipParts). c.decoder) written.chip)) carried.to_chip);
        to_host = subst (λ (w : WayState). Carries n.host.decoder w down) (sym written.to_host) (subst (λ (r : Rest). Carries r o.to_host down) (sym host) carried.to_host);
      };
      up_is = subst (λ (c : Change). Becomes c o.to_chip up up) (sym up_grows) (sym (append-nil up));
      down_is = subst (λ (c : Change). Becomes c o.to_host down down) (sym (down_grows [])) (sym (append-nil down));
    }

nothing_written : (o n : OuterState) → n ≡ o → Written [] o n
nothing_written o n same = record { chip = ap (λ (x : OuterState). x.chip) same; to_host = ap (λ (x : OuterState). x.to_host) same; to_chip = ap (λ (x : OuterState). x.to_chip) same }

-- ---- each event

pub event_after : (m : Machine) (event : Event) (up down : List Item) → Carried m up down → HasFrames m.outside.outer.chip.state.port
    → May m event → IsAtRest m event → WritesWell m event → LineAfter m event up down
unfolding happens May
event_after m (Outside_does event) up down carried has may rests well = outer_after m event up down carried has may.0 may.1 rests
event_after m (Host_does event) up down carried has may rests well = host_does_after m event up down carried has well
event_after m (Host_takes count rest items events) up down carried has may rests well = host_takes_after m count rest items events up down carried has may well
event_after m Decoder_ticks up down carried has may rests well =
    still_after m Decoder_ticks up down carried has (tick_still m.host.decoder rests) (nothing_written m.outside.outer m.outside.outer refl) refl refl refl (λ units. refl)
event_after m (Refuses line refusal) up down carried has may rests well =
    still_after m (Refuses line refusal) up down carried has refl (notes_all m.outside (Refused refusal ∷ [])) refl refl refl (λ units. refl)
event_after m (Shows_values node) up down carried has may rests well =
    still_after m (Shows_values node) up down carried has refl (notes_all m.outside (shown_values m.host.state node ∷ [])) refl refl refl (λ units. refl)
event_after m (Restarts state) up down carried has may rests well =
    still_after m (Restarts state) up down carried has (sym rests) (nothing_written m.outside.outer m.outside.outer refl) refl refl refl (λ units. refl)

pub whole_after : (m : Machine) (event : Event) → IsWhole m → May m event → IsAtRest m event → WritesWell m event → IsWhole (happens m event)
whole_after m event whole may rests well =
    let after = event_after m event whole.up whole.down whole.carried whole.frames may rests well in
    record { up = after.up_after; down = after.down_after; carried = after.carried; frames = after.frames }

-- ---- both sides at rest

outer_at_rest : (m : Machine) (event : OuterEvent) → AreAtRest m → OuterAtRest m event
outer_at_rest m Chip_ticks rest = rest.chip
outer_at_rest m (Clears_pipe Host) rest = rest.chip
outer_at_rest m (Clears_pipe Chip) rest = rest.host
outer_at_rest m _ rest = tt

pub at_rest : (m : Machine) (event : Event) → AreAtRest m → IsAtRest m event
at_rest m (Outside_does event) rest = outer_at_rest m event rest
at_rest m (Host_does event) rest = tt
at_rest m (Host_takes count rest items events) rests = tt
at_rest m Decoder_ticks rest = rest.host
at_rest m (Refuses line refusal) rest = tt
at_rest m (Shows_values node) rest = tt
at_rest m (Restarts state) rest = rest.host

all_taken : (old new : Rest) (count : ℕ) (bytes : List ℕ) (items judged : List Item) → Feeds old (take count bytes) new judged → Feeds old bytes no_rest items → count ≡ length bytes → new ≡ no_rest
all_taken old new count bytes items judged taken all whole =
    (feeds_all old new bytes items judged (subst (λ (n : ℕ). Feeds old (take n bytes) new judged) whole taken) all).rest

outer_rests : (m : Machine) (event : OuterEvent) → IsWhole m → AreAtRest m → MayOutside m.outside event → OuterTakesAll m event → outer_rest m.outside.outer.chip.decoder event ≡ no_rest
unfolding MayOutside
outer_rests m (Chip_takes count rest ways) whole rests may takes =
    all_taken m.outside.outer.chip.decoder rest count m.outside.outer.to_chip.bytes whole.up (map (λ w. w.0) ways) may.feeds whole.carried.to_chip takes
outer_rests m _ whole rests may takes = rests.chip

chip_rests : (m : Machine) (event : Event) → IsWhole m → AreAtRest m → May m event → TakesWhole m event → chip_rest m event ≡ no_rest
unfolding May
chip_rests m (Outside_does event) whole rests may takes = outer_rests m event whole rests may.1 takes
chip_rests m _ whole rests may takes = rests.chip

host_rests : (m : Machine) (event : Event) → IsWhole m → AreAtRest m → May m event → TakesWhole m event → host_rest m event ≡ no_rest
unfolding May
host_rests m (Host_takes count rest items events) whole rests may takes =
    all_taken m.host.decoder rest count m.outside.outer.to_host.bytes whole.down items may.feeds whole.carried.to_host takes
host_rests m _ whole rests may takes = rests.host

pub rests_after : (m : Machine) (event : Event) → IsWhole m → AreAtRest m → May m event → TakesWhole m event → WritesWell m event → AreAtRest (happens m event)
rests_after m event whole rests may takes well =
    let after = event_after m event whole.up whole.down whole.carried whole.frames may (at_rest m event rests) well in
    record { host = after.at_host ∙ host_rests m event whole rests may takes; chip = after.at_chip ∙ chip_rests m event whole rests may takes }

-- events one after another
pub all_stay : (m : Machine) (events : List Event) → IsWhole m → AreAtRest m → MayAll m events → AllTakeWhole m events → AllWriteWell m events → Stays m events
all_stay m [] whole rests may takes well = record { at_rest = tt; whole = whole; rests = rests }
all_stay m (event ∷ events) whole rests may takes well =
    let here = at_rest m event rests in
    let later = all_stay (happens m event) events (whole_after m event whole may.0 here well.0) (rests_after m event whole rests may.0 takes.0 well.0) may.1 takes.1 well.1 in
    record { at_rest = (here, later.at_rest); whole = later.whole; rests = later.rests }

-- ---- a restart

-- nothing is on its way then
pub restart_empties : (m : Machine) (state : HostState) (up down : List Item) → Carried m up down → HasFrames m.outside.outer.chip.state.port → AreAtRest m → MayAll m (restart_events state)
    → Carried (happens_all m (restart_events state)) [] []
restart_empties m state up down carried has rests may =
    let starts = Restarts state in
    let to_chip = Outside_does (Clears_pipe Host) in
    let to_host = Outside_does (Clears_pipe Chip) in
    let whole : IsWhole m = record { up = up; down = down; carried = carried; frames = has } in
    let a = event_after m starts up down carried has may.0 rests.host tt in
    let started = happens m starts in
    let whole_then = whole_after m starts whole may.0 rests.host tt in
    let rests_then = rests_after m starts whole rests may.0 tt tt in
    let b = event_after started to_chip a.up_after a.down_after a.carried a.frames may.1.0 rests_then.chip tt in
    let cleared = happens started to_chip in
    let rests_now = rests_after started to_chip whole_then rests_then may.1.0 tt tt in
    let c = event_after cleared to_host b.up_after b.down_after b.carried b.frames may.1.1.0 rests_now.host tt in
    let none_up : c.up_after ≡ [] = c.up_is ∙ append-nil b.up_after ∙ b.up_is in
    let none_down : c.down_after ≡ [] = c.down_is in
    subst (λ (l : List Item). Carried (happens cleared to_host) l []) none_up (subst (λ (l : List Item). Carried (happens cleared to_host) c.up_after l) none_down c.carried)
