-- What an attempt asks for goes on the air as the chip takes it.
use Rattle.std.proofs.Common.{◌≡◌, ◌≤◌, ◌<◌, ℕ, inl, inr, Bool, true, false, if◌then◌else◌, nat_lt, List, [], ◌∷◌, ◌++◌, map, length, refl, sym, ap, ◌∙◌, subst}
use Rattle.std.specs.Prelude.{◌⊎◌, ◌||◌, Option, Some, None}
use Rattle.std.specs.Option.{is_none, is_some, unwrap_or}
use Rattle.serial_frame.specs.Frame.{FrameParts}
use Rattle.serial_frame.specs.Stream.{Rest}
use Rattle.serial_frame.specs.declared.item.Item.{Item}
use Rattle.serial_frame.specs.declared.item.Item.TheVariants.{Good}
use Rattle.serial_frame.specs.declared.unit.Unit.TheVariants.{Ack, Framed}
use Rattle.serial_link.specs.declared.turn.Turn.{Turn}
use Rattle.serial_link.specs.declared.turn.Turn.TheVariants.{Copied, Idle as no_turn, Paused}
use Rattle.route_table.specs.Network.{Network}
use Rattle.route_table.specs.declared.route.Route.{Route}
use Rattle.chip_functions.specs.declared.request.Request.TheVariants.{SendData}
use Rattle.chip_sim.specs.Answers.{takes}
use Rattle.chip_sim.specs.Did.{MayAll as ChipMayAll, judged_all}
use Rattle.chip_sim.specs.Events.{Judged, May as ChipMay, after as after_chip, collides, outs}
use Rattle.chip_sim.specs.Requests.{asked, heard, judged_outs, passed}
use Rattle.chip_sim.specs.State.{ChipState}
use Rattle.chip_sim.specs.Waiting.{PortState, is_full, next_at, queued_at, queued_outs_at}
use Rattle.chip_sim.specs.declared.out.ChipOut.{ChipOut}
use Rattle.chip_sim.specs.declared.out.ChipOut.TheVariants.{AskInfo, Full, NoRoute, OnAir, Write}
use Rattle.air_frames.specs.Flown.{Flown}
use Rattle.air_frames.specs.History.{Mark, Goes as goes_mark}
use Rattle.air_frames.specs.declared.frame.Departure.{Departure}
use Rattle.air_frames.specs.declared.frame.Heading.TheVariants.{Outward}
use Rattle.host_requests.specs.Frames.{frame_of, request_frame, request_of, send}
use Rattle.host_requests.specs.declared.task.Purpose.{Purpose}
use Rattle.host_requests.specs.declared.under_way.UnderWay.{UnderWay}
use Rattle.mesh_sim.specs.Air.{AirState, departing, no_route}
use Rattle.outside_model.specs.Chip.{chip_does, put_out}
use Rattle.outside_model.specs.State.{OuterState, each, with_chip}
use Rattle.outside_model.specs.Events.{Chip_takes, outcome, May as MayOutside}
use Rattle.world_model.specs.Events.{happens, May}
use Rattle.world_model.specs.State.{Machine}
use Rattle.proof_answered.specs.proof_calm.proof_traffic.Flights.{Fly, flown_now}
use Rattle.proof_answered.specs.proof_calm.proof_traffic.OnAir.{on_air}
use Rattle.proof_answered.proofs.proof_traffic_Parts.{Airs}
use Rattle.proof_answered.specs.proof_calm.Awaited.{Awaits}
use Rattle.proof_answered.specs.proof_calm.Known.{AsksToSend}
use Rattle.proof_answered.specs.proof_calm.Marks.{HasNoMarks}
use Rattle.proof_answered.specs.proof_calm.Passes.{ChipMayTake, IsTakenBy, TakesEach, chip_taken}
use Rattle.proof_answered.specs.proof_calm.Resting.{CanMove}
use Rattle.proof_answered.specs.proof_calm.Live.{AsksFor as AsksForThese}
use Rattle.proof_answered.specs.proof_calm.Routed.{Reaches}
use Rattle.chip_sim.specs.Nodes.{is_marked}
use Rattle.proof_answered.specs.proof_calm.Settling.{Line, Free, Asks, Heard, Heard_asks, Sent, Sent_asks, IsDone, Moves}
use Rattle.proof_answered.specs.proof_calm.Tied.{At_chip, Called, HasRoom, IsPeopled, Nowhere, On_way, Tied, TieOf, ends_of, on_line, unheard}
use Rattle.proof_answered.proofs.ChipAsked.{by_turn, is_by_turn, response}
use Rattle.proof_answered.proofs.ChipNotices.{AreSaid, IsSaid, does_said, entered_leaves, written_said}
use Rattle.proof_answered.proofs.ChipPart.{marks_of, taken, two_ways}
use Rattle.proof_answered.proofs.ChipTurns.{one_way}
use Rattle.proof_answered.proofs.Flights.{flights_are}
use Rattle.proof_answered.proofs.Payloads.{asked_send}
use Rattle.proof_answered.proofs.Reading.{fed_units}
use Rattle.proof_answered.proofs.Requested.{part_tied}
use Rattle.proof_answered.proofs.Routed.{frame_way, judged_of}
use Rattle.proof_answered.proofs.Times.{does_chip}
use Rattle.proof_answered.proofs.Unmarked.{does_none}
use Rattle.proof_in_time.specs.Coming.{AsksFor, IsOnAir, Stands}

-- ---- what the chip puts out

put_still : (o : OuterState) (out : ChipOut) → IsSaid out → (put_out o out).outer.air ≡ o.air
put_still o (Write unit) said = refl
put_still o (OnAir to route payload) said = absurd said
put_still o NoRoute said = absurd said
put_still o (AskInfo node) said = absurd said
put_still o Full said = refl

puts_air : (o : OuterState) (said : List ChipOut) (n : ℕ) (payload : List ℕ) (route : Route) → AreSaid said → (each put_out o (said ++ OnAir n route payload ∷ [])).outer.air ≡ departing o.air n Outward (Some route) payload
puts_air o [] n payload route are = refl
puts_air o (out ∷ said) n payload route are = puts_air (put_out o out).outer said n payload route are.1 ∙ ap (λ (a : AirState). departing a n Outward (Some route) payload) (put_still o out are.0)

full_said : (b : Bool) → AreSaid (if b then Full ∷ [] else [])
full_said true = (tt, tt)
full_said false = tt

queued_said : (turn : Turn) (p : PortState) (f : FrameParts) → AreSaid (queued_outs_at turn p f)
queued_said no_turn p f = (tt, tt)
queued_said (Copied g copies ticks) p f = full_said (is_full p.waiting)
queued_said (Paused g copies ticks) p f = full_said (is_full p.waiting)

frame_air : (o : OuterState) (f : FrameParts) (way : Option Route) (route : Route) → HasNoMarks o → (takes_it : IsTakenBy o.chip.state f) → way ≡ Some route
    → (chip_does o (Judged (Good (Framed f)) way)).outer.air ≡ departing o.air takes_it.node Outward (Some route) takes_it.payload
frame_air o f way route none takes_it is =
    ap (λ (p : OuterState). p.air) (is_by_turn o f way none takes_it ∙ ap (λ (w : Option Route). by_turn o f takes_it.node takes_it.payload takes_it.id w o.chip.state.port.side.turn) is) ∙ by o.chip.state.port.side.turn
  where
    hs : ChipState
    hs = heard o.chip.state (Good (Framed f))

    by : (turn : Turn) → (by_turn o f takes_it.node takes_it.payload takes_it.id (Some route) turn).air ≡ departing o.air takes_it.node Outward (Some route) takes_it.payload
    by turn = puts_air (with_chip o (record (record hs { port = queued_at turn hs.port response }) { sending = Some (record { node = takes_it.node; callback_id = takes_it.id }) }))
        (Write Ack ∷ queued_outs_at turn hs.port response) takes_it.node takes_it.payload route (tt, queued_said turn hs.port response)

-- it is the last of the frames on the air then
pub record Departs (n : ℕ) (payload : List ℕ) (flights later : List Flown) : Type 0 where
  pub frame : Flown
  pub are : later ≡ flights ++ frame ∷ []
  pub is : IsOnAir n payload frame

pub departs_stands : (n : ℕ) (payload : List ℕ) (flights later : List Flown) → Departs n payload flights later → Stands (IsOnAir n payload) later
departs_stands n payload flights later departs = record { before = flights; frame = departs.frame; behind = []; are = departs.are; is = departs.is }

departed : (airs : Airs) (log : List Mark) (flights : List Flown) (a : AirState) (n : ℕ) (payload : List ℕ) (route : Route) (later : AirState) → n < 233 → Fly log flights a.frames → later ≡ departing a n Outward (Some route) payload
    → Departs n payload flights (on_air later.frames)
departed airs log flights a n payload route later within fly is =
    let d : Departure = record { node = n; heading = Outward; route = unwrap_or (Some route) no_route; lost = nat_lt 0 a.losing || is_none (Some route); payload = payload } in
    let flown : Fly (log ++ goes_mark d ∷ []) (flights ++ flown_now log d ∷ []) (departing a n Outward (Some route) payload).frames = airs.goes log flights a.frames d within fly in
    record {
      frame = flown_now log d;
      are = ap (λ (air : AirState). on_air air.frames) is ∙ sym (flights_are (log ++ goes_mark d ∷ []) (flights ++ flown_now log d ∷ []) (departing a n Outward (Some route) payload).frames flown);
      is = record { node = refl; out = refl; is = refl };
    }

-- ---- which payload that is

-- what asks to send a payload to a node asks for that
same_node : (joined : List Bool) (n : ℕ) (payload : List ℕ) (purpose : Purpose) (id : ℕ) → request_of purpose id ≡ send n payload id → (asks : AsksToSend joined purpose id) → (asks.node ≡ n) × (asks.payload ≡ payload)
same_node joined n payload purpose id is asks =
    let both : send n payload id ≡ send asks.node asks.payload id = sym is ∙ asks.is in
    let first : asks.node ≡ n = cc in
    let later : asks.payload ≡ payload = cc in
    (first, later)

pub same_taken : (s : ChipState) (joined : List Bool) (purpose : Purpose) (id : ℕ) (f : FrameParts) → f ≡ frame_of purpose id → (asks : AsksToSend joined purpose id) → 1 ≤ id → id ≤ 255 → (takes_it : IsTakenBy s f)
    → (takes_it.node ≡ asks.node) × (takes_it.payload ≡ asks.payload)
same_taken s joined purpose id f is asks from to takes_it =
    let read : asked f ≡ Some (send asks.node asks.payload id) = ap asked (is ∙ ap request_frame asks.is) ∙ asked_send asks.node asks.payload id asks.is_node asks.some from to in
    let both : Some (SendData takes_it.node takes_it.payload takes_it.options takes_it.id) ≡ Some (send asks.node asks.payload id) = sym takes_it.is ∙ read in
    let first : takes_it.node ≡ asks.node = cc in
    let later : takes_it.payload ≡ asks.payload = cc in
    (first, later)

-- ---- a list of what it judges

some_route : (way : Option Route) → is_some way ≡ true → (route : Route) × (way ≡ Some route)
some_route (Some route) is = (route, refl)
some_route None is = absurd (let wrong : false ≡ true = is in cc)

ack_said : (s : ChipState) (way : Option Route) → AreSaid (outs s (Judged (Good Ack) way))
ack_said s way = by (collides s)
  where
    by : (b : Bool) → AreSaid (judged_outs (passed b (Good Ack)) (heard s (Good Ack)) way)
    by true = written_said (next_at (heard s (Good Ack)).port.side.turn (heard s (Good Ack)).port.waiting)
    by false = written_said (next_at (heard s (Good Ack)).port.side.turn (heard s (Good Ack)).port.waiting)

still_reaches : (these : List Bool) (s : ChipState) (item : Item) (way : Option Route) → Reaches s.table these → Reaches (after_chip s (Judged item way)).table these
still_reaches these s item way reaches = subst (λ (of : Network × List Bool). Reaches of.0 these) (sym (judged_of (passed (collides s) item) (heard s item))) reaches

module _ (airs : Airs) (log : List Mark) (flights : List Flown) (n : ℕ) (payload : List ℕ) (within : n < 233) (these : List Bool) (marked : is_marked these n ≡ true) where
  -- it asks to send to one of these
  asks_these : (s : ChipState) (f : FrameParts) (takes_it : IsTakenBy s f) → takes_it.node ≡ n → AsksForThese these (asked f)
  asks_these s f takes_it node_is = subst (AsksForThese these) (sym takes_it.is) (subst (λ (k : ℕ). is_marked these k ≡ true) (sym node_is) marked)

  -- the frame alone
  frame_stands : (o : OuterState) (f : FrameParts) (way : Option Route) → HasNoMarks o → (takes_it : IsTakenBy o.chip.state f) → Reaches o.chip.state.table these → ChipMay o.chip.state (Judged (Good (Framed f)) way)
      → takes_it.node ≡ n → takes_it.payload ≡ payload → Fly log flights o.air.frames → Departs n payload flights (on_air (chip_does o (Judged (Good (Framed f)) way)).outer.air.frames)
  frame_stands o f way none takes_it reaches may node_is payload_is fly =
      let route = some_route way (frame_way these o.chip.state f way none.link takes_it (asks_these o.chip.state f takes_it node_is) reaches may) in
      let air = frame_air o f way route.0 none takes_it route.1 in
      departed airs log flights o.air n payload route.0 (chip_does o (Judged (Good (Framed f)) way)).outer.air within fly
      (air ∙ (ap (λ (k : ℕ). departing o.air k Outward (Some route.0) takes_it.payload) node_is ∙ ap (λ (p : List ℕ). departing o.air n Outward (Some route.0) p) payload_is))

  -- an acknowledgement before it
  ack_frame_stands : (o : OuterState) (f : FrameParts) (first way : Option Route) → HasNoMarks o → (takes_it : IsTakenBy (after_chip o.chip.state (Judged (Good Ack) first)) f) → Reaches o.chip.state.table these
      → ChipMay (after_chip o.chip.state (Judged (Good Ack) first)) (Judged (Good (Framed f)) way) → takes_it.node ≡ n → takes_it.payload ≡ payload → Fly log flights o.air.frames
      → Departs n payload flights (on_air (chip_does (chip_does o (Judged (Good Ack) first)).outer (Judged (Good (Framed f)) way)).outer.air.frames)
  ack_frame_stands o f first way none takes_it reaches may node_is payload_is fly = by (chip_does o (Judged (Good Ack) first)).outer (does_chip o (Judged (Good Ack) first)) (does_none o (Judged (Good Ack) first) tt none) (does_said o (Judged (Good Ack) first) (ack_said o.chip.state first)).air
    where
      by : (q : OuterState) → q.chip.state ≡ after_chip o.chip.state (Judged (Good Ack) first) → HasNoMarks q → q.air ≡ o.air → Departs n payload flights (on_air (chip_does q (Judged (Good (Framed f)) way)).outer.air.frames)
      by q state quiet air = of q.chip.state refl state
        where
          of : (s : ChipState) → q.chip.state ≡ s → s ≡ after_chip o.chip.state (Judged (Good Ack) first) → Departs n payload flights (on_air (chip_does q (Judged (Good (Framed f)) way)).outer.air.frames)
          of s same is =
              let whole : q.chip.state ≡ after_chip o.chip.state (Judged (Good Ack) first) = same ∙ is in
              let there : IsTakenBy q.chip.state f =
              record { node = takes_it.node; payload = takes_it.payload; options = takes_it.options; id = takes_it.id; is = takes_it.is; taken = subst (λ (t : ChipState). takes t takes_it.node takes_it.payload ≡ true) (sym whole) takes_it.taken } in
              frame_stands q f way quiet there (subst (λ (t : ChipState). Reaches t.table these) (sym whole) (still_reaches these o.chip.state (Good Ack) first reaches)) (subst (λ (t : ChipState). ChipMay t (Judged (Good (Framed f)) way)) (sym whole) may)
              node_is payload_is (subst (λ (a : AirState). Fly log flights a.frames) (sym air) fly)

-- ---- the machine

taken_air : (m : Machine) (rest : Rest) (ways : List (Item × Option Route)) → (chip_taken m rest ways).outside.outer.air ≡ (each chip_does (taken m.outside.outer rest) (judged_all ways)).outer.air
unfolding happens outcome
taken_air m rest ways = (entered_leaves (outcome m.outside (Chip_takes (length m.outside.outer.to_chip.bytes) rest ways)).outer (outcome m.outside (Chip_takes (length m.outside.outer.to_chip.bytes) rest ways)).entries).air

module _ (airs : Airs) (m : Machine) (awaits : Awaits m) (n : ℕ) (payload : List ℕ) (within : n < 233) (these : List Bool) (marked : is_marked these n ≡ true) (busy : m.host.state.side.turn ≡ no_turn → ⊥)
    (same : (t : ChipState) (f : FrameParts) → m.host.state.side.turn ≡ Copied f 1 0 → (takes_it : IsTakenBy t f) → (takes_it.node ≡ n) × (takes_it.payload ≡ payload)) where
  pub frame_departs : (passes : ℕ) (rest : Rest) (ways : List (Item × Option Route)) → ChipMayTake m rest ways → IsDone m ⊎ CanMove passes m → HasRoom m.outside.outer.chip.state → TieOf true m (on_line m.host.state.side.turn) → IsPeopled these m
      → Departs n payload (on_air m.outside.outer.air.frames) (on_air (chip_taken m rest ways).outside.outer.air.frames)
  unfolding May MayOutside
  frame_departs passes rest ways may (inl done) room tie peopled = absurd (busy done.line.at_host.turn_is)
  frame_departs passes rest ways may (inr can) room tie peopled =
      subst (λ (a : AirState). Departs n payload (on_air m.outside.outer.air.frames) (on_air a.frames)) (sym (taken_air m rest ways)) (by can.live.line can.moves (part_tied m can.live.line rest ways can.moves may room tie).0)
    where
      items : List Item
      items = map (λ (w : Item × Option Route). w.0) ways

      reaches : Reaches m.outside.outer.chip.state.table these
      reaches k of_these = let reached = peopled.live.reached k of_these in (reached.apart, (reached.over, reached.walk))

      alone : (f : FrameParts) → HasNoMarks m.outside.outer → m.host.state.side.turn ≡ Copied f 1 0 → items ≡ Good (Framed f) ∷ [] → TakesEach m.outside.outer.chip.state ways
          → Departs n payload (on_air m.outside.outer.air.frames) (on_air (each chip_does (taken m.outside.outer rest) (judged_all ways)).outer.air.frames)
      alone f quiet turn are takes_each =
          let one = one_way ways (Good (Framed f)) are in
          let takes_it : IsTakenBy m.outside.outer.chip.state f = (subst (TakesEach m.outside.outer.chip.state) one.1 takes_each).0 in
          let is = same m.outside.outer.chip.state f turn takes_it in
          subst (λ (l : List (Item × Option Route)). Departs n payload (on_air m.outside.outer.air.frames) (on_air (each chip_does (taken m.outside.outer rest) (judged_all l)).outer.air.frames)) (sym one.1)
          (frame_stands airs awaits.log (on_air m.outside.outer.air.frames) n payload within these marked (taken m.outside.outer rest) f one.0 (marks_of m.outside.outer rest quiet) takes_it reaches
          (subst (λ (l : List (Item × Option Route)). ChipMayAll m.outside.outer.chip.state (judged_all l)) one.1 may.1.judges).0 is.0 is.1 awaits.follows.fly)

      acked : (f : FrameParts) → HasNoMarks m.outside.outer → m.host.state.side.turn ≡ Copied f 1 0 → items ≡ Good Ack ∷ Good (Framed f) ∷ [] → TakesEach m.outside.outer.chip.state ways
          → Departs n payload (on_air m.outside.outer.air.frames) (on_air (each chip_does (taken m.outside.outer rest) (judged_all ways)).outer.air.frames)
      acked f quiet turn are takes_each =
          let two = two_ways ways (Good Ack) (Good (Framed f)) are in
          let takes_it : IsTakenBy (after_chip m.outside.outer.chip.state (Judged (Good Ack) two.0)) f = (subst (TakesEach m.outside.outer.chip.state) two.2 takes_each).1.0 in
          let is = same (after_chip m.outside.outer.chip.state (Judged (Good Ack) two.0)) f turn takes_it in
          subst (λ (l : List (Item × Option Route)). Departs n payload (on_air m.outside.outer.air.frames) (on_air (each chip_does (taken m.outside.outer rest) (judged_all l)).outer.air.frames)) (sym two.2)
          (ack_frame_stands airs awaits.log (on_air m.outside.outer.air.frames) n payload within these marked (taken m.outside.outer rest) f two.0 two.1 (marks_of m.outside.outer rest quiet) takes_it reaches
          (subst (λ (l : List (Item × Option Route)). ChipMayAll m.outside.outer.chip.state (judged_all l)) two.2 may.1.judges).1.0 is.0 is.1 awaits.follows.fly)

      by : (at : Line m) → Moves at → TakesEach m.outside.outer.chip.state ways → Departs n payload (on_air m.outside.outer.air.frames) (on_air (each chip_does (taken m.outside.outer rest) (judged_all ways)).outer.air.frames)
      by (Free at) moves takes_each = absurd moves
      by (Asks f fits at) moves takes_each =
          let fed = fed_units (Framed f) [] m.outside.outer.to_chip.bytes m.outside.outer.chip.decoder rest items (fits, tt) at.at_chip.decoder at.at_chip.up_bytes may.1.feeds in
          alone f at.unmarked at.at_host.turn_is fed.0 takes_each
      by (Heard first ticks frames at) moves takes_each = absurd (busy at.at_host.turn_is)
      by (Heard_asks f first ticks frames fits at) moves takes_each =
          let fed = fed_units Ack (Framed f ∷ []) m.outside.outer.to_chip.bytes m.outside.outer.chip.decoder rest items (tt, (fits, tt)) at.at_chip.decoder at.at_chip.up_bytes may.1.feeds in
          acked f at.unmarked at.at_host.turn_is fed.0 takes_each
      by (Sent first ticks frames at) moves takes_each = absurd (busy at.at_host.turn_is)
      by (Sent_asks f first ticks frames fits at) moves takes_each =
          let fed = fed_units (Framed f) [] m.outside.outer.to_chip.bytes m.outside.outer.chip.decoder rest items (fits, tt) at.at_chip.decoder at.at_chip.up_bytes may.1.feeds in
          alone f at.unmarked at.at_host.turn_is fed.0 takes_each

  pub frame_airs : (passes : ℕ) (rest : Rest) (ways : List (Item × Option Route)) → ChipMayTake m rest ways → IsDone m ⊎ CanMove passes m → HasRoom m.outside.outer.chip.state → TieOf true m (on_line m.host.state.side.turn) → IsPeopled these m
      → Stands (IsOnAir n payload) (on_air (chip_taken m rest ways).outside.outer.air.frames)
  frame_airs passes rest ways may at room tie peopled =
      departs_stands n payload (on_air m.outside.outer.air.frames) (on_air (chip_taken m rest ways).outside.outer.air.frames) (frame_departs passes rest ways may at room tie peopled)

-- a request that is on its way to the chip, which asks to send a payload to the node
module _ (m : Machine) (n : ℕ) (payload : List ℕ) (request : UnderWay) (under_way : m.host.state.requests.under_way ≡ Some request) (sends : (id : ℕ) → request_of request.purpose id ≡ send n payload id)
    (line : on_line m.host.state.side.turn ≡ frame_of request.purpose m.host.state.requests.last_id ∷ []) where
  pub request_taken : (t : ChipState) (f : FrameParts) → m.host.state.side.turn ≡ Copied f 1 0 → TieOf true m (on_line m.host.state.side.turn) → (takes_it : IsTakenBy t f) → (takes_it.node ≡ n) × (takes_it.payload ≡ payload)
  request_taken t f turn tie takes_it = by (subst (λ (fs : List FrameParts). TieOf true m fs) line tie).tied
    where
      own : f ≡ frame_of request.purpose m.host.state.requests.last_id
      own = let same : f ∷ [] ≡ frame_of request.purpose m.host.state.requests.last_id ∷ [] = sym (ap on_line turn) ∙ line in cc

      by : Tied true (ends_of m.host.state m.outside.outer.chip.state) (unheard m.outside.outer) (frame_of request.purpose m.host.state.requests.last_id ∷ []) → (takes_it.node ≡ n) × (takes_it.payload ≡ payload)
      by (Nowhere is) = absurd (let wrong = is.nothing in cc)
      by (At_chip u of fresh is) = absurd (let wrong = is.nothing in cc)
      by (Called u of fresh is) = absurd (let wrong = is.nothing in cc)
      by (On_way u of fresh is) =
          let both : Some u ≡ Some request = sym of.under_way ∙ under_way in
          let same : u ≡ request = cc in
          let asks_so : AsksToSend m.outside.outer.chip.state.joined request.purpose m.host.state.requests.last_id =
          subst (λ (v : UnderWay). AsksToSend m.outside.outer.chip.state.joined v.purpose m.host.state.requests.last_id) same is.asks in
          let asked_for = same_node m.outside.outer.chip.state.joined n payload request.purpose m.host.state.requests.last_id (sends m.host.state.requests.last_id) asks_so in
          let taken_is = same_taken t m.outside.outer.chip.state.joined request.purpose m.host.state.requests.last_id f own asks_so is.from is.to takes_it in
          (taken_is.0 ∙ asked_for.0, taken_is.1 ∙ asked_for.1)

  pub never_idle : m.host.state.side.turn ≡ no_turn → ⊥
  never_idle free = absurd (let wrong = sym (ap on_line free) ∙ line in cc)

-- so that payload goes on the air
module _ (airs : Airs) (m : Machine) (awaits : Awaits m) (n : ℕ) (payload : List ℕ) (within : n < 233) (request : UnderWay) (under_way : m.host.state.requests.under_way ≡ Some request)
    (sends : (id : ℕ) → request_of request.purpose id ≡ send n payload id) (line : on_line m.host.state.side.turn ≡ frame_of request.purpose m.host.state.requests.last_id ∷ []) (these : List Bool)
    (marked : is_marked these n ≡ true) where
  pub payload_airs : (passes : ℕ) (rest : Rest) (ways : List (Item × Option Route)) → ChipMayTake m rest ways → IsDone m ⊎ CanMove passes m → HasRoom m.outside.outer.chip.state → TieOf true m (on_line m.host.state.side.turn) → IsPeopled these m
      → Stands (IsOnAir n payload) (on_air (chip_taken m rest ways).outside.outer.air.frames)
  payload_airs passes rest ways may at room tie peopled =
      frame_airs airs m awaits n payload within these marked (never_idle m n payload request under_way sends line)
      (λ t f turn takes_it. request_taken m n payload request under_way sends line t f turn tie takes_it) passes rest ways may at room tie peopled

-- an attempt
pub request_airs : (airs : Airs) (m : Machine) (awaits : Awaits m) (n session : ℕ) (within : n < 233) (asks : AsksFor n session m.host.state) (these : List Bool) (marked : is_marked these n ≡ true) (passes : ℕ) (rest : Rest) (ways : List (Item × Option Route))
    → ChipMayTake m rest ways → IsDone m ⊎ CanMove passes m → HasRoom m.outside.outer.chip.state → TieOf true m (on_line m.host.state.side.turn) → IsPeopled these m → Stands (IsOnAir n asks.payload) (on_air (chip_taken m rest ways).outside.outer.air.frames)
request_airs airs m awaits n session within asks these marked passes rest ways may at room tie peopled =
    payload_airs airs m awaits n asks.payload within asks.request asks.under_way (λ id. ap (λ (p : Purpose). request_of p id) asks.purpose) asks.frame these marked passes rest ways may at room tie peopled
