-- Lines, one after another, the last of which may have been cut short.
use Rattle.std.proofs.Common.{◌≡◌, ℕ, true, false, List, [], ◌∷◌, ◌++◌, length, map, ap, ◌∙◌, sym, subst, inl, inr}
use Rattle.std.specs.Prelude.{Option, Some, None}
use Rattle.std.proofs.lemmas.List.{append-nil}
use Rattle.serial_frame.specs.declared.item.Item.{Item}
use Rattle.air_frames.specs.History.{Mark}
use Rattle.zw_text.specs.declared.line.Line.{Line}
use Rattle.zw_text.specs.declared.line.Line.TheVariants.{Command, Tick, Cut, Stall, Drop, Garble, Collide, Send, Get, Join, Interview, Lose, LoseAck, Repeat, Wake, Cancel, Link, Unlink, Discover, Neighbours, Failed, Probe, Local, Show, Store, Restart}
use Rattle.host_orders.specs.declared.refused.Refused.{Refused}
use Rattle.host_orders.specs.Refusals.{classes_of}
use Rattle.host_orders.specs.Errands.{send_refusal, send_text, get_refusal, get_text}
use Rattle.host_requests.specs.declared.task.Task.TheVariants as task
use Rattle.proof_serial.specs.host_model.State.{node_of}
use Rattle.proof_serial.specs.host_model.Events.{HostEvent, Accepts, Cancels, Joins as joins_host, Queues, Queues_interview, Queues_probe}
use Rattle.proof_serial.specs.host_model.May.{known_of}
use Rattle.proof_serial.specs.host_model.Asking.{carriage_for, places_refusal, interview_refusal}
use Rattle.proof_device.specs.outside_model.Events.{OuterEvent, Begins_line, Discovers, Joins, Links, Loses, Loses_acks, Marks_loss, Marks_change, Collides_next, Stalls, Cuts, Shows, Repeats, Wakes_device, Sets_device}
use Rattle.proof_device.specs.outside_model.Schedules.{IsRepeat, IsWake, IsSet}
use Rattle.proof_traffic.specs.Requests.{Traffic}
use Rattle.proof_traffic.specs.Requests as course
use Rattle.proof_device.specs.world_model.State.{Machine}
use Rattle.proof_device.specs.world_model.Events.{Event, Outside_does, Host_does, Refuses, Shows_values, happens}
use Rattle.proof_device.specs.world_model.Did.{Nothing}
use Rattle.proof_device.specs.world_model.Settling.{Outside, Settles}
use Rattle.proof_device.specs.world_model.Lines.{IsRefusal, IsDone, Asks, restart_events, IsRestart, IsDiscovery, IsEffect, IsLineBegin, IsLineRest, IsLine}
use Rattle.proof_device.specs.world_model.Prefixes.{SettlesPrefix, EffectPrefix, LineRestPrefix, LinePrefix, LinePart, IsLineBefore}
use Rattle.proof_serial.specs.Line.{AreLines}
use Rattle.proof_traffic.specs.Course.{Follows, Goes}
use Rattle.proof_traffic.proofs.Parts.{Laws}
use Rattle.proof_traffic.proofs.CourseSteps.{Fair, AllFair, GoesOf, goes_nowhere, goes_both, goes_then, goes_as, goes_none, goes_then_prefix, Begun, goes_whole, goes_prefix}
use Rattle.proof_traffic.proofs.Outside.{IsFree, free_goes}
use Rattle.proof_traffic.proofs.HostCourse.{IsAsked, asks_go, refuses_goes, shows_goes, restart_begins, restart_goes}
use Rattle.proof_traffic.proofs.Settlings.{settles_go, settles_prefix_go}
use Rattle.proof_traffic.proofs.Ticks.{ticks_go, ticks_prefix_go}

-- ---- events that go on to be those of an effect

module _ (laws : Laws) (t : Traffic) (log : List Mark) (up down : List Item) (m : Machine) (f : Follows t log up down m) where
  -- of one event none, or this one
  one_goes : (one : Event) (events rest : List Event) → events ++ rest ≡ one ∷ [] → (Fair m one → Goes t log m (one ∷ [])) → AllFair m events → Goes t log m events
  one_goes one [] rest are go fair = goes_nowhere t log up down m f
  one_goes one (event ∷ []) rest are go fair = let same : event ∷ [] ≡ one ∷ [] = cc in goes_as t log m (event ∷ []) (one ∷ []) same fair (λ fair. go fair.0)
  one_goes one (event ∷ next ∷ events) rest are go fair = absurd cc

  free_begins : (event : OuterEvent) (events rest : List Event) → IsFree event → events ++ rest ≡ Outside_does event ∷ [] → AllFair m events → Goes t log m events
  free_begins event events rest free are fair = one_goes (Outside_does event) events rest are (λ fair. free_goes laws t log up down m f event free fair) fair

  refusal_begins : (line : Line) (events rest : List Event) → IsRefusal line (events ++ rest) → AllFair m events → Goes t log m events
  refusal_begins line events rest (refusal, are) fair = one_goes (Refuses line refusal) events rest are (λ fair. refuses_goes laws t log up down m f line refusal fair) fair

  done_begins : (line : Line) (these events rest : List Event) → IsDone line these (events ++ rest) → (events ++ rest ≡ these → AllFair m events → Goes t log m events) → AllFair m events → Goes t log m events
  done_begins line these events rest (inl are) go fair = go are fair
  done_begins line these events rest (inr refused) go fair = refusal_begins line events rest refused fair

  asked_begins : (event : HostEvent) (events rest : List Event) → IsAsked event → events ++ rest ≡ Host_does event ∷ [] → AllFair m events → Goes t log m events
  asked_begins event events rest asked are fair = one_goes (Host_does event) events rest are (λ fair. asks_go laws t log up down m f event asked fair) fair

  asks_begins : (rule : Option Refused) (line : Line) (event : HostEvent) (events rest : List Event) → IsAsked event → Asks rule line event (events ++ rest) → AllFair m events → Goes t log m events
  asks_begins None line event events rest asked are fair = asked_begins event events rest asked are fair
  asks_begins (Some refused) line event events rest asked (refusal, shown, are) fair = refusal_begins line events rest (refusal, are) fair

  join_begins : (node : ℕ) (events rest : List Event) → events ++ rest ≡ Host_does (joins_host node) ∷ Outside_does (Joins node) ∷ [] → AllFair m events → Goes t log m events
  join_begins node [] rest are fair = goes_nowhere t log up down m f
  join_begins node (event ∷ []) rest are fair =
      let same : event ∷ [] ≡ Host_does (joins_host node) ∷ [] = cc in
      goes_as t log m (event ∷ []) (Host_does (joins_host node) ∷ []) same fair (λ fair. asks_go laws t log up down m f (joins_host node) tt fair.0)
  join_begins node (event ∷ next ∷ []) rest are fair =
      let same : event ∷ next ∷ [] ≡ Host_does (joins_host node) ∷ Outside_does (Joins node) ∷ [] = cc in
      goes_as t log m (event ∷ next ∷ []) (Host_does (joins_host node) ∷ Outside_does (Joins node) ∷ []) same fair
      (λ fair. let first : Goes t log m (Host_does (joins_host node) ∷ []) = asks_go laws t log up down m f (joins_host node) tt fair.0 in
      goes_both t log m (Host_does (joins_host node) ∷ []) (Outside_does (Joins node) ∷ []) first
      (free_goes laws (course.after_all t first.steps) (log ++ first.more) first.up first.down (happens m (Host_does (joins_host node))) first.follows (Joins node) tt fair.1.0))
  join_begins node (event ∷ next ∷ more ∷ events) rest are fair = absurd cc

  repeat_begins : (number : ℕ) (events rest : List Event) → Outside (IsRepeat number) (events ++ rest) → AllFair m events → Goes t log m events
  repeat_begins number events rest (inner, (drawn, route, is), are) fair = free_begins (Repeats number drawn route) events rest tt (are ∙ ap (map Outside_does) is) fair

  wake_begins : (node : ℕ) (events rest : List Event) → Outside (IsWake node) (events ++ rest) → AllFair m events → Goes t log m events
  wake_begins node events rest (inner, (route, is), are) fair = free_begins (Wakes_device node route) events rest tt (are ∙ ap (map Outside_does) is) fair

  set_begins : (node value : ℕ) (events rest : List Event) → Outside (IsSet node value) (events ++ rest) → AllFair m events → Goes t log m events
  set_begins node value events rest (inner, (route, is), are) fair = free_begins (Sets_device node value route) events rest tt (are ∙ ap (map Outside_does) is) fair

  restarts_go : (events : List Event) → IsRestart events → AllFair m events → Goes t log m events
  restarts_go events (inl (state, are)) fair = goes_as t log m events (restart_events state) are fair (λ fair. restart_goes laws t log up down m f state fair)
  restarts_go events (inr refused) fair = refusal_begins Restart events [] (refused.0, append-nil events ∙ refused.1) fair

module _ (laws : Laws) where
  -- a table of the chip's links is made, and then the members are asked for
  discovery_begins : GoesOf (Begun IsDiscovery)
  discovery_begins t log up down m [] f is fair = goes_nowhere t log up down m f
  discovery_begins t log up down m (event ∷ events) f (rest, (asked, asks, are)) fair =
      let first : event ≡ Outside_does Discovers = cc in
      let later : asked ≡ events ++ rest = cc in
      subst (λ (e : Event). Goes t log m (e ∷ events)) (sym first)
      (discovers (subst (λ (e : Event). AllFair m (e ∷ events)) first fair) (subst (λ (l : List Event). Asks (places_refusal m.host.state 1) Discover (Queues task.Members) l) later asks))
    where
      discovers : AllFair m (Outside_does Discovers ∷ events) → Asks (places_refusal m.host.state 1) Discover (Queues task.Members) (events ++ rest) → Goes t log m (Outside_does Discovers ∷ events)
      discovers fair asks =
          let g : Goes t log m (Outside_does Discovers ∷ []) = free_goes laws t log up down m f Discovers tt fair.0 in
          goes_both t log m (Outside_does Discovers ∷ []) events g
          (asks_begins laws (course.after_all t g.steps) (log ++ g.more) g.up g.down (happens m (Outside_does Discovers)) g.follows (places_refusal m.host.state 1) Discover (Queues task.Members) events rest tt asks fair.1)

  -- a restart is cut short elsewhere
  abbrev IsNoRestart : Line → Type 0
  IsNoRestart Restart = ⊥
  IsNoRestart line = Unit {0}

  effect_begins : (line : Line) → IsNoRestart line → GoesOf (Begun (IsEffect line))
  effect_begins (Command order) other t log up down m events f (rest, is) fair =
      done_begins laws t log up down m f (Command order) _ events rest is (asked_begins laws t log up down m f (Accepts order (carriage_for m.host.state order)) events rest tt) fair
  effect_begins (Tick count) other t log up down m events f (rest, is) fair = absurd is
  effect_begins (Cut size) other t log up down m events f (rest, is) fair = free_begins laws t log up down m f (Cuts size) events rest tt is fair
  effect_begins (Stall ticks) other t log up down m events f (rest, is) fair = free_begins laws t log up down m f (Stalls ticks) events rest tt is fair
  effect_begins (Drop by) other t log up down m events f (rest, is) fair = free_begins laws t log up down m f (Marks_loss by) events rest tt is fair
  effect_begins (Garble by place xor) other t log up down m events f (rest, is) fair = free_begins laws t log up down m f (Marks_change by (record { place = place; xor = xor })) events rest tt is fair
  effect_begins Collide other t log up down m events f (rest, is) fair = free_begins laws t log up down m f Collides_next events rest tt is fair
  effect_begins (Send node word) other t log up down m events f (rest, is) fair =
      asks_begins laws t log up down m f (send_refusal (known_of (node_of m.host.state node)) (length m.host.state.requests.queue) word) (Send node word)
      (Queues (task.Plain node (send_text (classes_of (known_of (node_of m.host.state node))) word))) events rest tt is fair
  effect_begins (Get node end) other t log up down m events f (rest, is) fair =
      asks_begins laws t log up down m f (get_refusal (known_of (node_of m.host.state node)) (length m.host.state.requests.queue) end) (Get node end)
      (Queues (task.Plain node (get_text (classes_of (known_of (node_of m.host.state node))) end))) events rest tt is fair
  effect_begins (Join node) other t log up down m events f (rest, is) fair = done_begins laws t log up down m f (Join node) _ events rest is (join_begins laws t log up down m f node events rest) fair
  effect_begins (Interview node) other t log up down m events f (rest, is) fair =
      asks_begins laws t log up down m f (interview_refusal m.host.state node) (Interview node) (Queues_interview node) events rest tt is fair
  effect_begins (Lose count) other t log up down m events f (rest, is) fair = free_begins laws t log up down m f (Loses count) events rest tt is fair
  effect_begins (LoseAck count) other t log up down m events f (rest, is) fair = free_begins laws t log up down m f (Loses_acks count) events rest tt is fair
  effect_begins (Repeat frame) other t log up down m events f (rest, is) fair = repeat_begins laws t log up down m f frame events rest is fair
  effect_begins (Wake node) other t log up down m events f (rest, is) fair = wake_begins laws t log up down m f node events rest is fair
  effect_begins (Cancel command) other t log up down m events f (rest, is) fair =
      done_begins laws t log up down m f (Cancel command) _ events rest is (asked_begins laws t log up down m f (Cancels command) events rest tt) fair
  effect_begins (Link first second) other t log up down m events f (rest, is) fair = free_begins laws t log up down m f (Links first second true) events rest tt is fair
  effect_begins (Unlink first second) other t log up down m events f (rest, is) fair = free_begins laws t log up down m f (Links first second false) events rest tt is fair
  effect_begins Discover other t log up down m events f is fair = discovery_begins t log up down m events f is fair
  effect_begins (Neighbours node) other t log up down m events f (rest, is) fair =
      asks_begins laws t log up down m f (places_refusal m.host.state 1) (Neighbours node) (Queues (task.Neighbours node)) events rest tt is fair
  effect_begins (Failed node) other t log up down m events f (rest, is) fair =
      asks_begins laws t log up down m f (places_refusal m.host.state 1) (Failed node) (Queues (task.IsFailed node)) events rest tt is fair
  effect_begins Probe other t log up down m events f (rest, is) fair = asks_begins laws t log up down m f (places_refusal m.host.state 3) Probe Queues_probe events rest tt is fair
  effect_begins (Local node value) other t log up down m events f (rest, is) fair = set_begins laws t log up down m f node value events rest is fair
  effect_begins (Show node) other t log up down m events f (rest, is) fair = free_begins laws t log up down m f (Shows node) events rest tt is fair
  effect_begins (Store node) other t log up down m events f (rest, is) fair = one_goes laws t log up down m f (Shows_values node) events rest is (λ fair. shows_goes laws t log up down m f node fair) fair
  effect_begins Restart other t log up down m events f is fair = absurd other

  -- ---- effects, whole or cut short

  effect_goes : (line : Line) → GoesOf (IsEffect line)
  effect_goes Restart t log up down m events f is fair = restarts_go laws t log up down m f events is fair
  effect_goes line t log up down m events f is fair = goes_whole (IsEffect line) (effect_begins line tt) t log up down m events f is fair

  effect_prefix_goes : (line : Line) → GoesOf (EffectPrefix line)
  effect_prefix_goes Restart t log up down m events f (inl none) fair = goes_none t log up down m events f none fair
  effect_prefix_goes Restart t log up down m events f (inr (state, are)) fair = goes_as t log m events _ are fair (λ fair. restart_begins laws t log up down m f state fair)
  effect_prefix_goes line t log up down m events f is fair = goes_prefix (IsEffect line) (effect_begins line tt) t log up down m events f is fair

  -- ---- lines

  begin_goes : GoesOf IsLineBegin
  begin_goes t log up down m events f are fair = goes_as t log m events _ are fair (λ fair. free_goes laws t log up down m f Begins_line tt fair.0)

  rest_goes : (line : Line) → GoesOf (IsLineRest line)
  rest_goes (Tick count) = ticks_go laws count
  rest_goes line = goes_then (IsEffect line) Settles (effect_goes line) (settles_go laws)

  rest_prefix_goes : (line : Line) → GoesOf (LineRestPrefix line)
  rest_prefix_goes (Tick count) = ticks_prefix_go laws count
  rest_prefix_goes line = goes_then_prefix (EffectPrefix line) (IsEffect line) SettlesPrefix (effect_prefix_goes line) (effect_goes line) (settles_prefix_go laws)

  line_goes : (line : Line) → GoesOf (IsLine line)
  line_goes line = goes_then IsLineBegin (IsLineRest line) begin_goes (rest_goes line)

  line_prefix_goes : (line : Line) → GoesOf (LinePrefix line)
  line_prefix_goes line = goes_then_prefix Nothing IsLineBegin (LineRestPrefix line) goes_none begin_goes (rest_prefix_goes line)

  pub part_goes : (line : Line) → GoesOf (LinePart line)
  part_goes line t log up down m events f (inl is) fair = line_goes line t log up down m events f is fair
  part_goes line t log up down m events f (inr is) fair = line_prefix_goes line t log up down m events f is fair

  before_goes : (more : List Line) (line : Line) → GoesOf (IsLineBefore more line)
  before_goes [] line = part_goes line
  before_goes (next ∷ more) line = line_goes line

  pub lines_go : (lines : List Line) → GoesOf (AreLines lines)
  lines_go [] t log up down m events f is fair = goes_none t log up down m events f is fair
  lines_go (line ∷ lines) t log up down m events f is fair = goes_then (IsLineBefore lines line) (AreLines lines) (before_goes lines line) (lines_go lines) t log up down m events f is fair
