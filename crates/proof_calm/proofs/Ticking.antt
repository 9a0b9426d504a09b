-- Each part of a tick before its settling, and the effect of a quiet line: what is known of the line goes on.
use Rattle.std.proofs.Common.{◌≡◌, ◌≤◌, ℕ, Bool, true, false, inl, inr, if◌then◌else◌, List, [], ◌∷◌, ◌++◌, map, refl, sym, ap, ◌∙◌, subst, arith}
use Rattle.std.specs.Prelude.{Option, Some, None, slice_get}
use Rattle.std.specs.List.{AllByRecursion}
use Rattle.serial_frame.specs.Stream.{after_tick}
use Rattle.serial_frame.specs.Frame.{FrameParts}
use Rattle.serial_frame.specs.declared.unit.Unit.TheVariants.{Framed}
use Rattle.serial_link.specs.State.{Side, copy_due, turn_ticked}
use Rattle.serial_link.specs.declared.turn.Turn.{Turn}
use Rattle.serial_link.specs.declared.turn.Turn.TheVariants.{Idle, Copied}
use Rattle.route_table.specs.declared.route.Route.{Route}
use Rattle.zw_text.specs.declared.line.Line.{Line}
use Rattle.zw_text.specs.declared.line.Line.TheVariants as lines
use Rattle.zw_text.specs.declared.entry.Entry.{Entry}
use Rattle.law_transcript.proofs.Deciding.{not_true}
use Rattle.law_time.specs.Stretches.{is_quiet_line}
use Rattle.chip_sim.specs.Waiting.{PortState, served, ticked, ticked_outs}
use Rattle.device_sim.specs.State.{State}
use Rattle.device_sim.specs.Event.{DeviceEvent, Ticks, Wakes}
use Rattle.mesh_sim.specs.Fates.{place_of}
use Rattle.mesh_sim.specs.Steps as mesh
use Rattle.host_model.specs.State.{HostState}
use Rattle.host_model.specs.Events.{HostEvent, Accepts, Line_ticks, Requests_do, Node_ticks, Queues_no_more, Drops_no_more}
use Rattle.host_model.specs.After.{gives_up, is_full, line_ticked, failing_if}
use Rattle.host_model.specs.Pumping.{no_more_event}
use Rattle.host_model.specs.Outs.{copy_out, noted, failing_entries}
use Rattle.host_model.specs.Ticking.{tick_events, first_ticks, ticking_nodes}
use Rattle.host_model.specs.Did.{after_all as after_all_host}
use Rattle.outside_model.specs.State.{OuterState, with_chip, each}
use Rattle.outside_model.specs.Chip.{put_out, chip_does, chip_ticks}
use Rattle.outside_model.specs.Devices.{acts_at, acts_by_hand}
use Rattle.outside_model.specs.Events.{OuterEvent, Begins_line, Begins_tick, Arrives, Gives, Device_ticks, Chip_ticks, Wakes_device, Shows, Cuts, outcome, has_entered}
use Rattle.world_model.specs.State.{Machine}
use Rattle.world_model.specs.Events.{Event, Outside_does, Host_does, Decoder_ticks, Refuses, Shows_values, enters, happens, May}
use Rattle.world_model.specs.Lines.{IsEffect as IsLineEffect}
use Rattle.proof_serial.specs.Chip.{IsFrame, HasFrame}
use Rattle.proof_serial.specs.Line.{host_units}
use Rattle.proof_serial.proofs.Outer.{tick_still}
use Rattle.proof_waking.proofs.proof_traffic_Parts.{Airs}
use Rattle.proof_work.specs.proof_walk.Outside.{CoversOuter}
use Rattle.proof_calm.specs.Marks.{IsUnmarked, IsQuietEvent}
use Rattle.proof_calm.specs.Passes.{AtChip, AtHost, OnLine}
use Rattle.proof_calm.specs.Resting.{LineRests, HasFor, Nothing, First, IsGiven, IsOfTick, IsEffect, Stands}
use Rattle.proof_calm.specs.Settling.{Free, Sent, for_request, is_sending}
use Rattle.proof_calm.proofs.Unmarked.{event_unmarked, steps_none}
use Rattle.proof_calm.proofs.ChipTurns.{entered_chip}
use Rattle.proof_calm.proofs.Following.{off_side, off_mute}
use Rattle.proof_calm.proofs.Submitting.{Mute, mute_line}
use Rattle.proof_calm.proofs.Given.{steps_hold, gives_hold}

-- ---- entries

entered_for : (ticks : ℕ) (o : OuterState) (told : List Entry) → HasFor ticks o → HasFor ticks (has_entered o told)
entered_for ticks o [] has = has
entered_for ticks o (entry ∷ told) has = has

-- what happens outside leaves the host
given_by : (ticks : ℕ) (m : Machine) (event : OuterEvent) → CoversOuter IsQuietEvent (Outside_does event) → May m (Outside_does event) → IsUnmarked m → AtHost Idle m.host
    → HasFor ticks (outcome m.outside event).outer → IsGiven ticks (happens m (Outside_does event))
unfolding happens
given_by ticks m event covers may unmarked at_host has = record {
  unmarked = event_unmarked m (Outside_does event) covers may unmarked;
  has = entered_for ticks (outcome m.outside event).outer (outcome m.outside event).entries has;
  at_host = at_host;
}

-- ---- a tick begins

pub tick_given : (m : Machine) → May m (Outside_does Begins_tick) → LineRests m → IsGiven 0 (happens m (Outside_does Begins_tick))
unfolding outcome
tick_given m may line = given_by 0 m Begins_tick tt may line.unmarked line.at_host (Nothing line.at_chip)

-- ---- frames arrive, results are given, devices tick

pub arrives_given : (m : Machine) (drawn : List ℕ) (route : Option Route) → May m (Outside_does (Arrives drawn route)) → IsGiven 0 m → IsGiven 0 (happens m (Outside_does (Arrives drawn route)))
unfolding outcome
arrives_given m drawn route may given =
    given_by 0 m (Arrives drawn route) tt may given.unmarked given.at_host
    (steps_hold m.outside (mesh.Arrives drawn route) (steps_none m.outside (mesh.Arrives drawn route) tt given.unmarked) given.has).1

pub gives_given : (m : Machine) (route : Option Route) → May m (Outside_does (Gives route)) → IsGiven 0 m → IsGiven 0 (happens m (Outside_does (Gives route)))
unfolding outcome
gives_given m route may given =
    given_by 0 m (Gives route) tt may given.unmarked given.at_host (gives_hold m.outside.outer m.outside.devices m.outside.outer.due route (given.unmarked, given.has)).1

acts_for : (ticks : ℕ) (o : OuterState) (device : Option State) (event : DeviceEvent) (route : Option Route) → HasFor ticks o → HasFor ticks (acts_at o device event route).outer
acts_for ticks o None event route has = has
acts_for ticks o (Some device) event route (Nothing at) = Nothing at
acts_for ticks o (Some device) event route (First frame frames few at) = First frame frames few at

pub device_given : (m : Machine) (place : ℕ) (drawn : List ℕ) (route : Option Route) → May m (Outside_does (Device_ticks place drawn route)) → IsGiven 0 m
    → IsGiven 0 (happens m (Outside_does (Device_ticks place drawn route)))
unfolding outcome
device_given m place drawn route may given =
    given_by 0 m (Device_ticks place drawn route) tt may given.unmarked given.at_host (acts_for 0 m.outside.outer (slice_get m.outside.devices place) (Ticks drawn) route given.has)

-- ---- the chip ticks

-- the outside with the chip's link so, once it has counted
abbrev counted : OuterState → Turn → List FrameParts → OuterState
counted o turn waiting =
    let port : PortState = record { side = record { turn = turn; collisions = o.chip.state.port.side.collisions }; waiting = waiting } in
    (each put_out (with_chip (record o { chip = record { decoder = after_tick o.chip.decoder; state = o.chip.state } }) (record o.chip.state { port = served (ticked port) })) (ticked_outs port)).outer

is_counted : (o : OuterState) → (chip_ticks o).outer ≡ counted o o.chip.state.port.side.turn o.chip.state.port.waiting
unfolding chip_does
is_counted o = refl

-- it puts out nothing
chip_counts : (o : OuterState) → HasFor 0 o → HasFor 1 (chip_ticks o).outer
chip_counts o (Nothing at) =
    subst (HasFor 1) (sym (is_counted o)) (subst (λ (t : Turn). HasFor 1 (counted o t o.chip.state.port.waiting)) (sym at.turn_is) (subst (λ (ws : List FrameParts). HasFor 1 (counted o Idle ws)) (sym at.waiting)
    (Nothing (record {
      up_bytes = at.up_bytes;
      down_bytes = at.down_bytes;
      decoder = tick_still o.chip.decoder at.decoder ∙ at.decoder;
      turn_is = refl;
      waiting = refl;
      fit = record { turn = tt; waiting = tt };
      none_given_up = at.none_given_up;
    }))))
chip_counts o (First frame frames few at) =
    subst (HasFor 1) (sym (is_counted o))
    (subst (λ (t : Turn). HasFor 1 (counted o t o.chip.state.port.waiting)) (sym at.turn_is) (subst (λ (ws : List FrameParts). HasFor 1 (counted o (Copied frame 1 0) ws)) (sym at.waiting)
    (First frame frames few (record {
      up_bytes = at.up_bytes;
      down_bytes = at.down_bytes;
      decoder = tick_still o.chip.decoder at.decoder ∙ at.decoder;
      turn_is = refl;
      waiting = refl;
      fit = record { turn = subst HasFrame at.turn_is at.fit.turn; waiting = subst (AllByRecursion IsFrame) at.waiting at.fit.waiting };
      none_given_up = at.none_given_up;
    }))))

pub chip_given : (m : Machine) → May m (Outside_does Chip_ticks) → IsGiven 0 m → IsGiven 1 (happens m (Outside_does Chip_ticks))
unfolding outcome
chip_given m may given = given_by 1 m Chip_ticks tt may given.unmarked given.at_host (chip_counts m.outside.outer given.has)

-- ---- the host ticks

pub decoder_given : (m : Machine) → May m Decoder_ticks → IsGiven 1 m → IsGiven 1 (happens m Decoder_ticks)
unfolding happens
decoder_given m may given = record {
  unmarked = event_unmarked m Decoder_ticks tt may given.unmarked;
  has = given.has;
  at_host = record { decoder = tick_still m.host.decoder given.at_host.decoder ∙ given.at_host.decoder; turn_is = given.at_host.turn_is };
}

pub tick_mute : (h : HostState) (event : HostEvent) → IsOfTick event → h.side.turn ≡ Idle → Mute h event
tick_mute h Line_ticks of_tick idle = record {
  writes =
      subst (λ (t : Turn). host_units (copy_out (copy_due t) ++ noted (failing_entries (gives_up t (turn_ticked t)) (line_ticked h))) ≡ []) (sym idle) refl;
  side =
      subst (λ (t : Turn). (failing_if (gives_up t (turn_ticked t)) (line_ticked h)).side.turn ≡ (line_ticked h).side.turn) (sym idle) refl
      ∙ subst (λ (t : Turn). turn_ticked t ≡ t) (sym idle) refl;
}
tick_mute h (Requests_do event moment) of_tick idle = record { writes = off_mute h (Requests_do event moment) tt; side = ap (λ (s : Side). s.turn) (off_side h (Requests_do event moment) tt) }
tick_mute h (Node_ticks n) of_tick idle = record { writes = off_mute h (Node_ticks n) tt; side = ap (λ (s : Side). s.turn) (off_side h (Node_ticks n) tt) }
tick_mute h event of_tick idle = absurd of_tick

nodes_tick : (nodes : List ℕ) → AllByRecursion IsOfTick (map (λ n. Node_ticks n) nodes)
nodes_tick [] = tt
nodes_tick (n ∷ nodes) = (tt, nodes_tick nodes)

pub all_of_tick : (h : HostState) → AllByRecursion IsOfTick (tick_events h)
all_of_tick h = (tt, (tt, nodes_tick (ticking_nodes (after_all_host h first_ticks))))

module _ (air : Airs) where
  pub host_given : (m : Machine) (event : HostEvent) → IsOfTick event → May m (Host_does event) → IsGiven 1 m → IsGiven 1 (happens m (Host_does event))
  host_given m event of_tick may given = by given.has
    where
      n : Machine
      n = happens m (Host_does event)

      mute : Mute m.host.state event
      mute = tick_mute m.host.state event of_tick given.at_host.turn_is

      by : HasFor 1 m.outside.outer → IsGiven 1 n
      by (Nothing at) =
          let line : OnLine [] [] Idle Idle [] n = mute_line air m event [] [] Idle Idle [] (record { unmarked = given.unmarked; at_chip = at; at_host = given.at_host }) may mute in
          record { unmarked = line.unmarked; has = Nothing line.at_chip; at_host = line.at_host }
      by (First frame frames few at) =
          let line : OnLine [] (Framed frame ∷ []) Idle (Copied frame 1 1) frames n =
          mute_line air m event [] (Framed frame ∷ []) Idle (Copied frame 1 1) frames (record { unmarked = given.unmarked; at_chip = at; at_host = given.at_host }) may mute in
          record { unmarked = line.unmarked; has = First frame frames few line.at_chip; at_host = line.at_host }

  -- it lets a node sleep
  pub no_more_mute : (h : HostState) (n : ℕ) → Mute h (no_more_event h n)
  no_more_mute h n = by (is_full h)
    where
      by : (full : Bool) → Mute h (if full then Drops_no_more n else Queues_no_more n)
      by true = record { writes = refl; side = refl }
      by false = record { writes = refl; side = refl }

-- ---- the settling begins

few_requests : (sending : Bool) → for_request sending ≤ 3
few_requests true = omega arith
few_requests false = omega arith

pub given_stands : (m : Machine) → IsGiven 1 m → Stands 64 m
given_stands m given = by given.has
  where
    by : HasFor 1 m.outside.outer → Stands 64 m
    by (Nothing at) = record {
      live = record { line = Free (record { unmarked = given.unmarked; at_chip = at; at_host = given.at_host }); enough = let few = few_requests (is_sending m) in omega (arith, few) };
      turn = given.at_host.turn_is;
    }
    by (First frame frames few at) = record {
      live = record {
        line = Sent frame 1 frames (record { unmarked = given.unmarked; at_chip = at; at_host = given.at_host });
        enough = let less = few_requests (is_sending m) in omega (arith, few, less);
      };
      turn = given.at_host.turn_is;
    }

pub rests_stand : (m : Machine) → LineRests m → Stands 64 m
rests_stand m line = record { live = record { line = Free line; enough = let few = few_requests (is_sending m) in omega (arith, few) }; turn = line.at_host.turn_is }

-- ---- the effect of a quiet line

these_are : (events are : List Event) → events ≡ are → AllByRecursion IsEffect are → AllByRecursion IsEffect events
these_are events are is all = subst (AllByRecursion IsEffect) (sym is) all

pub quiet_effect : (line : Line) (m : Machine) (events : List Event) → is_quiet_line line ≡ true → IsLineEffect line m events → AllByRecursion IsEffect events
quiet_effect (lines.Command order) m events quiet (inl is) = these_are events _ is (tt, tt)
quiet_effect (lines.Command order) m events quiet (inr (refusal, is)) = these_are events _ is (tt, tt)
quiet_effect (lines.Tick count) m events quiet is = absurd is
quiet_effect (lines.Cut size) m events quiet is = these_are events _ is (tt, tt)
quiet_effect (lines.Wake node) m events quiet (inner, (route, one), are) = these_are events (Outside_does (Wakes_device node route) ∷ []) (are ∙ ap (λ (l : List OuterEvent). map Outside_does l) one) (tt, tt)
quiet_effect (lines.Show node) m events quiet is = these_are events _ is (tt, tt)
quiet_effect (lines.Store node) m events quiet is = these_are events _ is (tt, tt)
quiet_effect line m events quiet is = absurd (not_true quiet)

note_at : (m : Machine) (note : Entry) → AtChip [] [] Idle [] m.outside.outer.to_chip m.outside.outer.to_host m.outside.outer.chip
    → AtChip [] [] Idle [] (enters m note).outside.outer.to_chip (enters m note).outside.outer.to_host (enters m note).outside.outer.chip
unfolding outcome
note_at m note at = at

rests_by : (m : Machine) (event : OuterEvent) → CoversOuter IsQuietEvent (Outside_does event) → May m (Outside_does event) → LineRests m
    → AtChip [] [] Idle [] (outcome m.outside event).outer.to_chip (outcome m.outside event).outer.to_host (outcome m.outside event).outer.chip → LineRests (happens m (Outside_does event))
unfolding happens
rests_by m event covers may line at = record {
  unmarked = event_unmarked m (Outside_does event) covers may line.unmarked;
  at_chip = entered_chip (outcome m.outside event).outer (outcome m.outside event).entries at;
  at_host = line.at_host;
}

hand_at : (o : OuterState) (devices : List State) (place : Option ℕ) (event : DeviceEvent) (route : Option Route) → AtChip [] [] Idle [] o.to_chip o.to_host o.chip
    → AtChip [] [] Idle [] (acts_by_hand o devices place event route).outer.to_chip (acts_by_hand o devices place event route).outer.to_host (acts_by_hand o devices place event route).outer.chip
hand_at o devices None event route at = at
hand_at o devices (Some place) event route at = by (slice_get devices place)
  where
    by : (device : Option State) → AtChip [] [] Idle [] (acts_at o device event route).outer.to_chip (acts_at o device event route).outer.to_host (acts_at o device event route).outer.chip
    by None = at
    by (Some device) = at

pub begins_rests : (m : Machine) → May m (Outside_does Begins_line) → LineRests m → LineRests (happens m (Outside_does Begins_line))
unfolding outcome
begins_rests m may line = rests_by m Begins_line tt may line line.at_chip

notes_rests : (m : Machine) (event : Event) (note : Entry) → IsUnmarked (happens m event) → happens m event ≡ enters m note → LineRests m → LineRests (happens m event)
notes_rests m event note unmarked is line = record {
  unmarked = unmarked;
  at_chip = subst (λ (n : Machine). AtChip [] [] Idle [] n.outside.outer.to_chip n.outside.outer.to_host n.outside.outer.chip) (sym is) (note_at m note line.at_chip);
  at_host = subst (λ (n : Machine). AtHost Idle n.host) (sym is) line.at_host;
}

module _ (air : Airs) where
  pub effect_rests : (m : Machine) (event : Event) → IsEffect event → May m event → LineRests m → LineRests (happens m event)
  unfolding happens outcome
  effect_rests m (Outside_does (Wakes_device node route)) is may line =
      rests_by m (Wakes_device node route) tt may line (hand_at m.outside.outer m.outside.devices (place_of node m.outside.devices) Wakes route line.at_chip)
  effect_rests m (Outside_does (Shows node)) is may line = rests_by m (Shows node) tt may line line.at_chip
  effect_rests m (Outside_does (Cuts size)) is may line = rests_by m (Cuts size) tt may line line.at_chip
  effect_rests m (Host_does (Accepts order carriage)) is may line = mute_line air m (Accepts order carriage) [] [] Idle Idle [] line may (record { writes = refl; side = refl })
  effect_rests m (Refuses line_of refusal) is may line = notes_rests m (Refuses line_of refusal) _ (event_unmarked m (Refuses line_of refusal) tt may line.unmarked) refl line
  effect_rests m (Shows_values node) is may line = notes_rests m (Shows_values node) _ (event_unmarked m (Shows_values node) tt may line.unmarked) refl line
  effect_rests m (Outside_does event) is may line = absurd is
  effect_rests m (Host_does event) is may line = absurd is
  effect_rests m event is may line = absurd is
