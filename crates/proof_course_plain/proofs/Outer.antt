-- What happens outside the host, in the course of one node.
use Rattle.std.proofs.Common.{◌≡◌, ℕ, ◌<◌, ◌≤◌, ◌==◌, ◌&&◌, ◌||◌, ◌⊎◌, inl, inr, Bool, true, false, nat_lt, nat_le, if◌then◌else◌, Option, Some, None, List, [], ◌∷◌, ◌++◌, map, refl, ap, sym, ◌∙◌, subst, append-nil, arith}
use Rattle.std.specs.Prelude.{Result, Ok, Err}
use Rattle.std.specs.Option.{option_to_list}
use Rattle.std.proofs.lemmas.Bool.{eqb-true, leb-true}
use Rattle.supervision.specs.Host.{HostBook, begun_of}
use Rattle.supervision.specs.Ends.{Report}
use Rattle.proof_course.specs.Flying.{Flight, one_of, hosts}
use Rattle.proof_course.specs.Sessions.{Course, Message, Cargo, Command, Of_host, Answer, Of_node, Step, Flies, Sends, is_of_host, flies, sends, after, May}
use Rattle.serial_frame.specs.Frame.{FrameParts}
use Rattle.serial_frame.specs.Stream.{Rest}
use Rattle.serial_frame.specs.declared.frame.Kind.{Kind}
use Rattle.serial_frame.specs.declared.frame.Kind.TheVariants as kind
use Rattle.serial_frame.specs.declared.unit.Unit.TheVariants.{Framed}
use Rattle.serial_frame.specs.declared.item.Item.{Item}
use Rattle.serial_frame.specs.declared.item.Item.TheVariants.{Good}
use Rattle.serial_link.specs.declared.turn.Turn.{Turn}
use Rattle.serial_pipes.specs.State.{WayState}
use Rattle.route_table.specs.declared.route.Route.{Route}
use Rattle.chip_functions.specs.Place.{Place, Reading, start_of, byte_from, found_at, ended_from, ◌>>=◌}
use Rattle.chip_functions.specs.Field.{node as node_field, byte, byte_within, counted, ◌then◌, read_as}
use Rattle.chip_functions.specs.AddNode.{add_request}
use Rattle.chip_functions.specs.declared.function.TheConstants.{GET_INIT_DATA, GET_CAPABILITIES, SEND_DATA, GET_VERSION, SEND_DATA_ABORT, MEMORY_GET_ID, GET_NODE_PROTOCOL_INFO, ADD_NODE, REQUEST_NODE_INFO, IS_FAILED_NODE, GET_ROUTING_INFO}
use Rattle.chip_functions.specs.declared.fault.BodyFault.TheVariants.{UnknownFunction}
use Rattle.chip_functions.proofs.FieldLaws.{bind_ok, ok_is, found_ok}
use Rattle.chip_functions.proofs.RowLaws.{reads_to, no_row, row_cases, ended_ok}
use Rattle.chip_functions.specs.Request.{send_data, get_routing_info, request_of, request_at, send_data_at, add_request_at, get_routing_info_at}
use Rattle.chip_functions.specs.declared.fault.BodyFault.{BodyFault}
use Rattle.chip_functions.specs.declared.request.Request.{Request}
use Rattle.chip_functions.specs.declared.request.Request.TheVariants.{GetInitData, GetCapabilities, SendData, GetVersion, SendDataAbort, MemoryGetId, GetNodeProtocolInfo, AddNode, RequestNodeInfo, IsFailedNode, GetRoutingInfo}
use Rattle.chip_sim.specs.declared.out.ChipOut.{ChipOut}
use Rattle.chip_sim.specs.Answers.{takes}
use Rattle.chip_sim.specs.State.{ChipState, ChipParts}
use Rattle.chip_sim.specs.Requests.{passed, answer_outs, read_of, asked_by, asked, given_outs, reply_to, sent, performed_outs, requested_outs, judged_outs, heard}
use Rattle.chip_sim.specs.Rules.{WaitsWell}
use Rattle.chip_sim.specs.Did.{MayAll, after_all, outs_all, judged_all}
use Rattle.chip_sim.specs.Link.{chip_units}
use Rattle.chip_sim.specs.Events.{ChipEvent, Judged, collides}
use Rattle.chip_sim.specs.Events as chip
use Rattle.chip_sim.proofs.Histories.{well_all}
use Rattle.air_frames.specs.declared.frame.Departure.{Departure}
use Rattle.air_frames.specs.declared.frame.Heading.{Heading}
use Rattle.air_frames.specs.declared.frame.Heading.TheVariants.{Outward, Homeward}
use Rattle.air_frames.specs.Flown.{Flown}
use Rattle.air_frames.specs.History.{Mark, Goes as goes_mark, begins_in, news_after}
use Rattle.proof_traffic.specs.Flights.{Fly, flown_now}
use Rattle.device_sim.specs.State.{State}
use Rattle.proof_once.specs.proof_messages.Ending.{HasEnded}
use Rattle.zw_text.specs.declared.entry.Entry.{Entry}
use Rattle.mesh_sim.specs.Air.{AirState, departing}
use Rattle.mesh_sim.specs.Fates.{Mesh}
use Rattle.outside_model.specs.State.{OuterState, Outside, outside, with_chip, each}
use Rattle.outside_model.specs.Chip.{put_out, chip_does, chip_takes, MayTake}
use Rattle.outside_model.specs.Events.{has_entered}
use Rattle.proof_traffic.specs.OutsideTraffic.{one_outward, outward}
use Rattle.proof_traffic.proofs.JudgedItems.{passed_item}
use Rattle.proof_traffic.proofs.Mild.{answer_mild, each-append, each_mild, given_mild, served_mild}
use Rattle.proof_traffic.specs.OnAir.{IsFew, StaysFew, fed_chip}
use Rattle.proof_world.specs.proof_serial.Way.{Carries, items_all}
use Rattle.proof_world.specs.proof_serial.Chip.{HasFrames, ChipDoes}
use Rattle.proof_world.proofs.Ways.{carries_all, carries_left}
use Rattle.proof_world.proofs.Frames.{events_have, events_fit}
use Rattle.proof_world.proofs.ChipWays.{does_one, does_each}
use Rattle.proof_once.specs.proof_messages.Landing.{IsOf}
use Rattle.proof_course_plain.specs.Ways.{Beside, Thinned, Goes}
use Rattle.proof_course_plain.specs.Meaning.{Asked, HostMeans, NodeMeans}
use Rattle.proof_course_plain.specs.Air.{BearsBy, Bears, OnAir}
use Rattle.proof_course_plain.specs.Device.{AtDevice}
use Rattle.proof_course_plain.specs.Chip.{GivesAs}
use Rattle.proof_course_plain.specs.Making.{AllMake}
use Rattle.proof_course_plain.specs.Mesh.{HasDevice, InMesh, IsTold, labels, Adds}
use Rattle.proof_course_plain.specs.Lines.{TellsAs, Tells, Asks, asked_as, ItemIs, OnWay, Later}
use Rattle.proof_course_plain.specs.Outside.{Follows, OuterGoes}
use Rattle.proof_course_plain.proofs.ThinnedWays.{goes_nowhere, goes_on, goes_once, up_thins, down_thins}
use Rattle.proof_course_plain.proofs.WayLabels.{thinned_same, thinned_after, thinned_both, thinned_then, first_label}
use Rattle.proof_course_plain.proofs.ChipSide.{chips_move}
use Rattle.proof_course_plain.proofs.Replies.{Flying}
use Rattle.proof_course_plain.proofs.ChipNotices.{ChipTells}

-- ---- courses with other things on their way

-- the device hears nothing of what changes
pub record SameDevice (old new : Course) : Type 0 where
  pub device : new.device ≡ old.device
  pub kept : new.kept ≡ old.kept
  pub ends : new.ends ≡ old.ends

pub at_same : (old new : Course) (device : State) → SameDevice old new → AtDevice old device → AtDevice new device
at_same old new device same at = record {
  sessions = at.sessions ∙ sym same.device;
  kept = subst (λ (k : Option ℕ). IsOf device.reassembly k) (sym same.kept) at.kept;
  ended = subst (λ (ends : List ℕ). HasEnded device ends) (sym same.ends) at.ended;
  can = at.can;
  is_open = at.is_open;
}

pub has_same : (node : ℕ) (old new : Course) (devices : List State) → SameDevice old new → HasDevice node old devices → HasDevice node new devices
has_same node old new devices same h =
    record { device = h.device; place = h.place; first = h.first; stands = h.stands; at = at_same old new h.device same h.at; others = h.others; nodes = h.nodes }

pub mesh_down : (node : ℕ) (orders : List Asked) (c : Course) (mesh : Mesh) (now : List Report) → InMesh node orders c mesh → InMesh node orders (record c { down = now }) mesh
mesh_down node orders c mesh now is = record {
  log = is.log;
  flights = is.flights;
  on_air = record { fly = is.on_air.fly; flying = is.on_air.flying; flown = is.on_air.flown; begun = is.on_air.begun };
  device = has_same node c (record c { down = now }) mesh.devices (record { device = refl; kept = refl; ends = refl }) is.device;
  made = is.made;
}

pub mesh_up : (node : ℕ) (orders : List Asked) (c : Course) (mesh : Mesh) (now : List Message) → InMesh node orders c mesh → InMesh node orders (record c { up = now }) mesh
mesh_up node orders c mesh now is = record {
  log = is.log;
  flights = is.flights;
  on_air = record { fly = is.on_air.fly; flying = is.on_air.flying; flown = is.on_air.flown; begun = is.on_air.begun };
  device = has_same node c (record c { up = now }) mesh.devices (record { device = refl; kept = refl; ends = refl }) is.device;
  made = is.made;
}

-- ---- the chip's side of the line

-- what is on its way to the host, and what the chip has
pub record Way {L : Type 0} (Holds : List ℕ → Option L → Type 0) (node : ℕ) (carried : List L) (rest : Rest) (down : List Item) (o : OuterState) : Type 0 where
  pub to_host : Carries rest o.to_host down
  pub frames : HasFrames o.chip.state.port
  pub waits : WaitsWell o.chip.state.port
  pub reports : OnWay (TellsAs Holds node) carried down o.chip.state.port.side.turn o.chip.state.port.waiting

pub record WayGoes {L : Type 0} (Holds : List ℕ → Option L → Type 0) (node : ℕ) (carried : List L) (rest : Rest) (o p : OuterState) : Type 0 where
  pub down : List Item
  pub now : List L
  pub thin : Thinned carried now
  pub way : Way Holds node now rest down p

pub thinned_given : {X : Type 0} (a b c : List X) → Thinned b c → Thinned (a ++ b) (a ++ c)
thinned_given a b c is = thinned_both a a b c (thinned_same a) is

-- the chip did these events, and was given these
pub way_goes : {L : Type 0} (Holds : List ℕ → Option L → Type 0) (node : ℕ) (carried : List L) (rest : Rest) (down : List Item) (o p : OuterState) (events : List ChipEvent) (marks : List (Option L)) → Way Holds node carried rest down o → ChipDoes events o p
    → Beside (GivesAs Holds node) events marks → WayGoes Holds node (carried ++ labels marks) rest o p
way_goes Holds node carried rest down o p events marks w does gives =
    let s : ChipState = o.chip.state in
    let later : Later (TellsAs Holds node) (carried ++ labels marks) (down ++ items_all o.to_host (chip_units (outs_all s events))) (after_all s events).port.side.turn (after_all s events).port.waiting =
    chips_move Holds node s events marks does.may w.waits gives carried down o.to_host w.reports in
    record {
      down = down ++ items_all o.to_host (chip_units (outs_all s events));
      now = later.now;
      thin = later.thin;
      way = record {
        to_host = subst (λ (y : WayState). Carries rest y (down ++ items_all o.to_host (chip_units (outs_all s events)))) (sym does.to_host)
            (carries_all rest o.to_host (chip_units (outs_all s events)) down w.to_host (events_fit s events w.frames does.may));
        frames = subst (λ (t : ChipState). HasFrames t.port) (sym does.state) (events_have s events w.frames does.may);
        waits = subst (λ (t : ChipState). WaitsWell t.port) (sym does.state) (well_all s events w.waits);
        reports = subst (λ (t : ChipState). OnWay (TellsAs Holds node) later.now (down ++ items_all o.to_host (chip_units (outs_all s events))) t.port.side.turn t.port.waiting) (sym does.state) later.on_way;
      };
    }

-- ---- an event that leaves the way to the chip

module _ (node : ℕ) (orders : List Asked) where
  pub outer_goes : (c : Course) (rest : Rest) (turn : Turn) (up down : List Item) (w : Outside) (later : Course) (given : List Report) (o p : OuterState) (devices : List State) → Follows node orders c rest turn up down w
      → o.chip ≡ w.outer.chip → o.to_host ≡ w.outer.to_host → o.to_chip ≡ w.outer.to_chip → Goes c later → Adds c later given → InMesh node orders later (record { air = o.air; devices = devices }) → ChipTells IsTold node given o p
      → OuterGoes node orders c rest turn (outside p devices)
  outer_goes c rest turn up down w later given o p devices f chip to_host to_chip goes adds mesh tells =
      let before : Way IsTold node c.down rest down o = record {
        to_host = subst (λ (y : WayState). Carries rest y down) (sym to_host) f.to_host;
        frames = subst (λ (x : ChipParts). HasFrames x.state.port) (sym chip) f.frames;
        waits = subst (λ (x : ChipParts). WaitsWell x.state.port) (sym chip) f.waits;
        reports = subst (λ (x : ChipParts). OnWay (Tells node) c.down down x.state.port.side.turn x.state.port.waiting) (sym chip) f.reports;
      } in
      let g : WayGoes IsTold node (c.down ++ labels tells.marks) rest o p = way_goes IsTold node c.down rest down o p tells.events tells.marks before tells.does tells.gives in
      let thin : Thinned later.down g.now =
      subst (λ (ds : List Report). Thinned ds g.now) (sym adds.down) (thinned_then (c.down ++ given) (c.down ++ labels tells.marks) g.now (thinned_given c.down given (labels tells.marks) tells.are) g.thin) in
      record {
        later = record later { down = g.now };
        goes = goes_on c later (record later { down = g.now }) goes (down_thins later g.now thin);
        host = adds.host;
        told = adds.told;
        up = up;
        down = g.down;
        follows = record {
          mesh = mesh_down node orders later (record { air = p.air; devices = devices }) g.now (subst (λ (air : AirState). InMesh node orders later (record { air = air; devices = devices })) (sym tells.air) mesh);
          to_chip = subst (λ (y : WayState). Carries p.chip.decoder y up) (sym (tells.does.to_chip ∙ to_chip))
              (subst (λ (r : Rest). Carries r w.outer.to_chip up) (sym (tells.does.decoder ∙ ap (λ (x : ChipParts). x.decoder) chip)) f.to_chip);
          to_host = g.way.to_host;
          frames = g.way.frames;
          waits = g.way.waits;
          messages = subst (λ (h : HostBook). OnWay (Asks node orders h.commands) later.up up turn []) (sym adds.host)
              (subst (λ (us : List Message). OnWay (Asks node orders c.host.commands) us up turn []) (sym adds.up) f.messages);
          reports = g.way.reports;
        };
      }

  -- entries change nothing of this
  pub entered : (c : Course) (rest : Rest) (turn : Turn) (p : OuterState) (devices : List State) (entries : List Entry) → OuterGoes node orders c rest turn (outside p devices)
      → OuterGoes node orders c rest turn (outside (has_entered p entries) devices)
  entered c rest turn p devices [] g = g
  entered c rest turn p devices (entry ∷ entries) g = record {
    later = g.later;
    goes = g.goes;
    host = g.host;
    told = g.told;
    up = g.up;
    down = g.down;
    follows = record {
      mesh = g.follows.mesh;
      to_chip = g.follows.to_chip;
      to_host = g.follows.to_host;
      frames = g.follows.frames;
      waits = g.follows.waits;
      messages = g.follows.messages;
      reports = g.follows.reports;
    };
  }

-- ---- what an item puts on the air

-- a payload goes on the air for a frame that asks for it
pub record Departs (o : OuterState) (item : Item) (air : AirState) : Type 0 where
  pub frame : FrameParts
  pub to : ℕ
  pub payload : List ℕ
  pub options : ℕ
  pub id : ℕ
  pub route : Route
  pub is : item ≡ Good (Framed frame)
  pub asks : asked frame ≡ Some (SendData to payload options id)
  pub air_is : air ≡ departing o.air to Outward (Some route) payload

abbrev pub OnAirBy : OuterState → Item → AirState → Type 0
OnAirBy o item air = (air ≡ o.air) ⊎ Departs o item air

performed_air : (o p : OuterState) (item : Item) (f : FrameParts) (s : ChipState) (request : Request) (found : Option Route) → item ≡ Good (Framed f) → asked f ≡ Some request → p.air ≡ o.air
    → OnAirBy o item (each put_out p (performed_outs request s found)).outer.air
performed_air o p item f s GetInitData found is asks same = inl same
performed_air o p item f s GetCapabilities found is asks same = inl same
performed_air o p item f s (SendData n payload options id) found is asks same = by (takes s n payload) found
  where
    by : (b : Bool) (found : Option Route) → OnAirBy o item (each put_out p (if b then sent n payload found else [])).outer.air
    by true (Some route) = inr (record { frame = f; to = n; payload = payload; options = options; id = id; route = route; is = is; asks = asks; air_is = ap (λ (air : AirState). departing air n Outward (Some route) payload) same })
    by true None = inl same
    by false found = inl same
performed_air o p item f s GetVersion found is asks same = inl same
performed_air o p item f s SendDataAbort found is asks same = inl same
performed_air o p item f s MemoryGetId found is asks same = inl same
performed_air o p item f s (GetNodeProtocolInfo n) found is asks same = inl same
performed_air o p item f s (AddNode mode id) found is asks same = inl same
performed_air o p item f s (RequestNodeInfo n) found is asks same = inl same
performed_air o p item f s (IsFailedNode n) found is asks same = inl same
performed_air o p item f s (GetRoutingInfo n x y z) found is asks same = inl same

requested_air : (o p : OuterState) (item : Item) (f : FrameParts) (s : ChipState) (request : Option Request) (found : Option Route) → item ≡ Good (Framed f) → asked f ≡ request → p.air ≡ o.air
    → OnAirBy o item (each put_out p (requested_outs request s found)).outer.air
requested_air o p item f s None found is asks same = inl same
requested_air o p item f s (Some request) found is asks same =
    subst (λ (q : OuterState). OnAirBy o item q.air) (sym (each-append p (given_outs s (reply_to s request)) (performed_outs request s found)))
    (performed_air o (each put_out p (given_outs s (reply_to s request))).outer item f s request found is asks ((each_mild p (given_outs s (reply_to s request)) (given_mild s (reply_to s request))).air ∙ same))

judged_air : (o p : OuterState) (item : Item) (b : Bool) (s : ChipState) (found : Option FrameParts) (route : Option Route) → passed b item ≡ found → p.air ≡ o.air → OnAirBy o item (each put_out p (judged_outs found s route)).outer.air
judged_air o p item b s None route e same = inl ((each_mild p (judged_outs None s route) (served_mild s.port)).air ∙ same)
judged_air o p item b s (Some f) route e same = requested_air o p item f s (asked f) route (passed_item b item f e) refl same

pub item_air : (o : OuterState) (item : Item) (route : Option Route) → OnAirBy o item (chip_does o (Judged item route)).outer.air
unfolding chip_does
item_air o item route =
    let s : ChipState = o.chip.state in
    let p : OuterState = with_chip o (chip.after s (Judged item route)) in
    let answer : List ChipOut = answer_outs (collides s) item in
    subst (λ (q : OuterState). OnAirBy o item q.air) (sym (each-append p answer (judged_outs (passed (collides s) item) (heard s item) route)))
    (judged_air o (each put_out p answer).outer item (collides s) (heard s item) (passed (collides s) item) route refl (each_mild p answer (answer_mild (collides s) item)).air)

-- the node of a payload is one
node_within : (p q : Place) (n : ℕ) → node_field.read p ≡ Ok (n, q) → n < 233
node_within p q n e =
    let a = bind_ok (byte_from p.before p.rest) (λ b. found_at p.before (if nat_le 1 b.0 && nat_le b.0 232 then Some b.0 else None) b.1) (n, q) e in
    let found = found_ok p.before (if nat_le 1 a.0.0 && nat_le a.0.0 232 then Some a.0.0 else None) a.0.1 n q a.2 in
    by a.0.0 (nat_le 1 a.0.0) (nat_le a.0.0 232) refl found.0
  where
    by : (b : ℕ) (low high : Bool) → nat_le b 232 ≡ high → (if low && high then Some b else None) ≡ Some n → n < 233
    by b true true is e = let same : b ≡ n = cc in let fits : b ≤ 232 = leb-true b 232 is in omega (arith, same, fits)
    by b true false is e = absurd (grind (arith, e))
    by b false high is e = absurd (grind (arith, e))

-- a request names a node, if it sends a payload
abbrev NamesNode : Request → Type 0
NamesNode (SendData n payload options id) = n < 233
NamesNode request = Unit {0}

as_named : {A : Type 0} (make : A → Request) (r : Reading A) (v : Request) (q : Place) → ((x : A) (after : Place) → r ≡ Ok (x, after) → NamesNode (make x)) → read_as make r ≡ reads_to v q → NamesNode v
as_named make (Ok x) v q names e = let same : make x.0 ≡ v = ap (λ (y : Request × Place). y.0) (ok_is (make x.0, x.1) (v, q) e) in subst (λ (w : Request). NamesNode w) same (names x.0 x.1 refl)
as_named make (Err fault) v q names e = absurd (no_row fault v q e)

plainly_named : (w v : Request) (p q : Place) → NamesNode w → reads_to w p ≡ reads_to v q → NamesNode v
plainly_named w v p q names e = subst (λ (x : Request). NamesNode x) (ap (λ (y : Request × Place). y.0) (ok_is (w, p) (v, q) e)) names

data_named : (p after : Place) (x : ℕ × (List ℕ × (ℕ × ℕ))) → send_data.read p ≡ Ok (x, after) → x.0 < 233
data_named p after x e =
    let first = bind_ok (node_field.read p) (λ y. (counted 1 then byte then byte_within 1 255).read y.1 >>= λ z. Ok ((y.0, z.0), z.1)) (x, after) e in
    let second = bind_ok ((counted 1 then byte then byte_within 1 255).read first.0.1) (λ z. Ok ((first.0.0, z.0), z.1)) (x, after) first.2 in
    let same : first.0.0 ≡ x.0 = ap (λ (y : (ℕ × (List ℕ × (ℕ × ℕ))) × Place). y.0.0) (ok_is ((first.0.0, second.0.0), second.0.1) (x, after) second.2) in
    subst (λ (k : ℕ). k < 233) same (node_within p first.0.1 first.0.0 first.1)

row_named : (func : ℕ) (p q : Place) (v : Request) → request_at func p ≡ Ok (v, q) → NamesNode v
unfolding request_at send_data_at add_request_at get_routing_info_at
row_named func p q v e =
    row_cases func GET_INIT_DATA _ _ _ e (λ f h. plainly_named GetInitData v p q tt h) (λ e.
    row_cases func GET_CAPABILITIES _ _ _ e (λ f h. plainly_named GetCapabilities v p q tt h) (λ e.
    row_cases func SEND_DATA _ _ _ e (λ f h. as_named _ (send_data.read p) v q (λ x after r. data_named p after x r) h) (λ e.
    row_cases func GET_VERSION _ _ _ e (λ f h. plainly_named GetVersion v p q tt h) (λ e.
    row_cases func SEND_DATA_ABORT _ _ _ e (λ f h. plainly_named SendDataAbort v p q tt h) (λ e.
    row_cases func MEMORY_GET_ID _ _ _ e (λ f h. plainly_named MemoryGetId v p q tt h) (λ e.
    row_cases func GET_NODE_PROTOCOL_INFO _ _ _ e (λ f h. as_named _ (node_field.read p) v q (λ x after r. tt) h) (λ e.
    row_cases func ADD_NODE _ _ _ e (λ f h. as_named _ (add_request.read p) v q (λ x after r. tt) h) (λ e.
    row_cases func REQUEST_NODE_INFO _ _ _ e (λ f h. as_named _ (node_field.read p) v q (λ x after r. tt) h) (λ e.
    row_cases func IS_FAILED_NODE _ _ _ e (λ f h. as_named _ (node_field.read p) v q (λ x after r. tt) h) (λ e.
    row_cases func GET_ROUTING_INFO _ _ _ e (λ f h. as_named _ (get_routing_info.read p) v q (λ x after r. tt) h) (λ e.
    absurd (no_row (UnknownFunction func) v q e))))))))))))

read_named : (func : ℕ) (body : List ℕ) (v : Request) → request_of func body ≡ Ok v → NamesNode v
unfolding request_of
read_named func body v e =
    let a = bind_ok (request_at func (start_of body)) (λ x. ended_from x.0 x.1.before x.1.rest) v e in
    let g = ended_ok a.0.0 v a.0.1.before a.0.1.rest a.2 in
    subst (λ (w : Request). NamesNode w) g.1 (row_named func (start_of body) a.0.1 a.0.0 a.1)

pub asked_node : (f : FrameParts) (n : ℕ) (payload : List ℕ) (options id : ℕ) → asked f ≡ Some (SendData n payload options id) → n < 233
asked_node f n payload options id e = by f.kind e
  where
    read : (r : Result Request BodyFault) → request_of f.func f.body ≡ r → read_of r ≡ Some (SendData n payload options id) → n < 233
    read (Ok found) is same = read_named f.func f.body (SendData n payload options id) (is ∙ ap (λ (x : Request). Ok x) (grind (arith, same)))
    read (Err fault) is same = absurd (grind (arith, same))

    by : (kind : Kind) → asked_by kind f.func f.body ≡ Some (SendData n payload options id) → n < 233
    by kind.Request same = read (request_of f.func f.body) refl same
    by kind.Response same = absurd (grind (arith, same))

-- ---- an item is judged

-- what is outside but for the bytes to the chip
pub record Half (node : ℕ) (orders : List Asked) (c : Course) (rest : Rest) (turn : Turn) (up down : List Item) (o : OuterState) (devices : List State) : Type 0 where
  pub mesh : InMesh node orders c (record { air = o.air; devices = devices })
  pub way : Way IsTold node c.down rest down o
  pub messages : OnWay (Asks node orders c.host.commands) c.up up turn []

pub record HalfGoes (node : ℕ) (orders : List Asked) (c : Course) (rest : Rest) (turn : Turn) (up : List Item) (o : OuterState) (devices : List State) : Type 0 where
  pub later : Course
  pub goes : Goes c later
  pub host : later.host ≡ c.host
  pub told : later.told ≡ c.told
  pub down : List Item
  pub half : Half node orders later rest turn up down o devices

-- how many frames of the host are on the air
one_host : (node : ℕ) (orders : List Asked) (commands : List ℕ) (frame : Flown) (flight : Flight Cargo) → Bears node orders commands frame flight → one_of is_of_host flight.cargo ≡ one_outward frame.heading
one_host node orders commands frame flight is = by frame.heading (frame.node == node) is
  where
    out : (cargo : Cargo) → HostMeans orders commands frame.payload cargo → one_of is_of_host cargo ≡ 1
    out (Command message) means = refl
    out Of_host means = refl
    out (Answer session status) means = absurd means
    out Of_node means = absurd means

    home : (cargo : Cargo) → NodeMeans frame.payload cargo → one_of is_of_host cargo ≡ 0
    home (Command message) means = absurd means
    home Of_host means = absurd means
    home (Answer session status) means = refl
    home Of_node means = refl

    by : (heading : Heading) (own : Bool) → BearsBy heading own orders commands frame flight → one_of is_of_host flight.cargo ≡ one_outward heading
    by Outward true (since, means) = out flight.cargo means
    by Homeward true (since, means) = home flight.cargo means
    by Outward false other = ap (one_of is_of_host) other
    by Homeward false other = ap (one_of is_of_host) other

hosts_are : (node : ℕ) (orders : List Asked) (commands : List ℕ) (frames : List Flown) (flights : List (Flight Cargo)) → Beside (Bears node orders commands) frames flights → hosts is_of_host flights ≡ outward frames
hosts_are node orders commands [] [] is = refl
hosts_are node orders commands [] (flight ∷ flights) is = absurd is
hosts_are node orders commands (frame ∷ frames) [] is = absurd is
hosts_are node orders commands (frame ∷ frames) (flight ∷ flights) is =
    let one = one_host node orders commands frame flight is.0 in let more = hosts_are node orders commands frames flights is.1 in omega (arith, one, more)

module _ (flying : Flying) (room : (log : List Mark) (before : List Flown) (flight : Flown) (o : OuterState) → Fly log (before ++ flight ∷ []) o.air.frames → flight.heading ≡ Outward → IsFew o → outward before ≤ 1)
    (node : ℕ) (orders : List Asked) where
  -- a frame of the host goes on the air with this cargo, by this step
  sends_with : (c mid : Course) (air : AirState) (o : OuterState) (devices : List State) (to : ℕ) (route : Route) (payload : List ℕ) (cargo : Cargo) (step : Step) → Goes c mid → InMesh node orders mid (record { air = air; devices = devices })
      → to < 233 → o.air ≡ departing air to Outward (Some route) payload → IsFew o → (hosts is_of_host mid.air ≤ 1 → May mid step) → (later : Course) → after mid step ≡ later → later.host ≡ mid.host
      → later.air ≡ (flies mid cargo).air → later.old ≡ (flies mid cargo).old → SameDevice mid later → ((to == node) ≡ true → HostMeans orders mid.host.commands payload cargo) → ((to == node) ≡ false → cargo ≡ Of_host)
      → Goes c later × InMesh node orders later (record { air = o.air; devices = devices })
  sends_with c mid air o devices to route payload cargo step goes mesh within air_is few may later is host same_air same_old same own other =
      let d : Departure = record { node = to; heading = Outward; route = route; lost = nat_lt 0 air.losing || false; payload = payload } in
      let on : OnAir node orders mid.host (flies mid cargo).air (flies mid cargo).old (mesh.log ++ goes_mark d ∷ []) (mesh.flights ++ flown_now mesh.log d ∷ []) (departing air to Outward (Some route) payload).frames =
      flying node orders mid.host mid.air mid.old mesh.log mesh.flights air.frames d cargo within mesh.on_air (bears d (to == node) refl) in
      let here : Fly (mesh.log ++ goes_mark d ∷ []) (mesh.flights ++ flown_now mesh.log d ∷ []) o.air.frames = subst (λ (a : AirState). Fly (mesh.log ++ goes_mark d ∷ []) (mesh.flights ++ flown_now mesh.log d ∷ []) a.frames) (sym air_is) on.fly in
      let least : outward mesh.flights ≤ 1 = room (mesh.log ++ goes_mark d ∷ []) mesh.flights (flown_now mesh.log d) o here refl few in
      let count = hosts_are node orders mid.host.commands mesh.flights mid.air mesh.on_air.flying in
      let fits : hosts is_of_host mid.air ≤ 1 = omega (arith, least, count) in
      let step_goes : Goes mid later = subst (λ (x : Course). Goes mid x) is (goes_once mid step (may fits)) in (
        goes_on c mid later goes step_goes,
        record {
          log = mesh.log ++ goes_mark d ∷ [];
          flights = mesh.flights ++ flown_now mesh.log d ∷ [];
          on_air = subst (λ (a : AirState). OnAir node orders later.host later.air later.old (mesh.log ++ goes_mark d ∷ []) (mesh.flights ++ flown_now mesh.log d ∷ []) a.frames) (sym air_is)
              (subst (λ (h : HostBook). OnAir node orders h later.air later.old (mesh.log ++ goes_mark d ∷ []) (mesh.flights ++ flown_now mesh.log d ∷ []) (departing air to Outward (Some route) payload).frames) (sym host)
              (subst (λ (a : List (Flight Cargo)). OnAir node orders mid.host a later.old (mesh.log ++ goes_mark d ∷ []) (mesh.flights ++ flown_now mesh.log d ∷ []) (departing air to Outward (Some route) payload).frames) (sym same_air)
              (subst (λ (a : List (Flight Cargo)). OnAir node orders mid.host (flies mid cargo).air a (mesh.log ++ goes_mark d ∷ []) (mesh.flights ++ flown_now mesh.log d ∷ []) (departing air to Outward (Some route) payload).frames) (sym same_old) on)));
          device = has_same node mid later devices same mesh.device;
          made = subst (λ (h : HostBook). AllMake node orders h.commands devices) (sym host) mesh.made;
        },
      )
    where
      bears : (d : Departure) (b : Bool) → (to == node) ≡ b
          → BearsBy Outward b orders mid.host.commands (record { node = to; heading = Outward; route = d.route; lost = d.lost; payload = payload; begun = begins_in to mesh.log; shown = news_after to [] (mesh.log ++ goes_mark (record { node = to; heading = Outward; route = d.route; lost = d.lost; payload = payload }) ∷ []) })
          (record { cargo = cargo; since = begun_of mid.host })
      bears d true e = (sym mesh.on_air.begun ∙ ap (λ (n : ℕ). begins_in n mesh.log) (sym (eqb-true to node e)), own e)
      bears d false e = other e

  -- the item is judged, and the reports on their way keep their labels
  module _ (c : Course) (rest : Rest) (turn : Turn) (item : Item) (up down : List Item) (o : OuterState) (devices : List State) (route : Option Route) (h : Half node orders c rest turn (item ∷ up) down o devices)
      (may : chip.May o.chip.state (Judged item route)) (few : IsFew (chip_does o (Judged item route)).outer) where
    abbrev p : OuterState
    p = (chip_does o (Judged item route)).outer

    told_on : WayGoes IsTold node (c.down ++ labels (None ∷ [])) rest o p
    told_on = way_goes IsTold node c.down rest down o p (Judged item route ∷ []) (None ∷ []) h.way (does_one o (Judged item route) may) (refl, tt)

    ends_with : (later : Course) → Goes c later → later.host ≡ c.host → later.told ≡ c.told → later.down ≡ c.down → InMesh node orders later (record { air = p.air; devices = devices })
        → OnWay (Asks node orders c.host.commands) later.up up turn [] → HalfGoes node orders c rest turn up p devices
    ends_with later goes host told same mesh messages =
        let thin : Thinned later.down told_on.now = subst (λ (ds : List Report). Thinned ds told_on.now) (append-nil c.down ∙ sym same) told_on.thin in
        record {
          later = record later { down = told_on.now };
          goes = goes_on c later (record later { down = told_on.now }) goes (down_thins later told_on.now thin);
          host = host;
          told = told;
          down = told_on.down;
          half = record {
            mesh = mesh_down node orders later (record { air = p.air; devices = devices }) told_on.now mesh;
            way = told_on.way;
            messages = subst (λ (b : HostBook). OnWay (Asks node orders b.commands) later.up up turn []) (sym host) messages;
          };
        }

    judge_by : (mark : Option Message) (now : List Message) → ItemIs (Asks node orders c.host.commands) item mark → c.up ≡ option_to_list mark ++ now → OnWay (Asks node orders c.host.commands) now up turn []
        → (p.air ≡ o.air) ⊎ Departs o item p.air → HalfGoes node orders c rest turn up p devices
    judge_by mark now is up_is messages (inl same) =
        let later : Course = record c { up = now } in
        ends_with later (up_thins c now (subst (λ (us : List Message). Thinned us now) (sym up_is) (thinned_after (option_to_list mark) now now (thinned_same now)))) refl refl refl
        (mesh_up node orders c (record { air = p.air; devices = devices }) now (subst (λ (a : AirState). InMesh node orders c (record { air = a; devices = devices })) (sym same) h.mesh)) messages
    judge_by mark now is up_is messages (inr d) = by (d.to == node) refl
      where
        within : d.to < 233
        within = asked_node d.frame d.to d.payload d.options d.id d.asks

        of_none : (d.to == node) ≡ true → HostMeans orders c.host.commands d.payload (asked_as mark)
        of_none own = is d.frame d.is d.payload d.options d.id (subst (λ (n : ℕ). asked d.frame ≡ Some (SendData n d.payload d.options d.id)) (eqb-true d.to node own) d.asks)

        own_goes : (mark : Option Message) → ((d.to == node) ≡ true → HostMeans orders c.host.commands d.payload (asked_as mark)) → c.up ≡ option_to_list mark ++ now → (d.to == node) ≡ true → HalfGoes node orders c rest turn up p devices
        own_goes (Some message) means up_is own =
            let later : Course = sends c (message ∷ now) in
            let g : Goes c later × InMesh node orders later (record { air = p.air; devices = devices }) =
            sends_with c c o.air p devices d.to d.route d.payload (Command message) Sends (goes_nowhere c) h.mesh within d.air_is few (λ fits. fits) later (ap (sends c) up_is) refl refl refl
            (record { device = refl; kept = refl; ends = refl }) means (λ e. absurd (grind (arith, own, e))) in
            ends_with later g.0 refl refl refl g.1 messages
        own_goes None means up_is own =
            let later : Course = flies c Of_host in
            let g : Goes c later × InMesh node orders later (record { air = p.air; devices = devices }) =
            sends_with c c o.air p devices d.to d.route d.payload Of_host (Flies Of_host) (goes_nowhere c) h.mesh within d.air_is few (λ fits. fits) later refl refl refl refl
            (record { device = refl; kept = refl; ends = refl }) means (λ e. refl) in
            ends_with later g.0 refl refl refl g.1 (subst (λ (us : List Message). OnWay (Asks node orders c.host.commands) us up turn []) (sym up_is) messages)

        by : (b : Bool) → (d.to == node) ≡ b → HalfGoes node orders c rest turn up p devices
        by true own = own_goes mark of_none up_is own
        by false other =
            let mid : Course = record c { up = now } in
            let later : Course = flies mid Of_host in
            let g : Goes c later × InMesh node orders later (record { air = p.air; devices = devices }) =
            sends_with c mid o.air p devices d.to d.route d.payload Of_host (Flies Of_host) (up_thins c now (subst (λ (us : List Message). Thinned us now) (sym up_is) (thinned_after (option_to_list mark) now now (thinned_same now))))
            (mesh_up node orders c (record { air = o.air; devices = devices }) now h.mesh) within d.air_is few (λ fits. fits) later refl refl refl refl
            (record { device = refl; kept = refl; ends = refl }) (λ own. absurd (grind (arith, other, own))) (λ e. refl) in
            ends_with later g.0 refl refl refl g.1 messages

    pub judge_one : HalfGoes node orders c rest turn up p devices
    judge_one =
        let w = first_label (Asks node orders c.host.commands) c.up item up turn [] h.messages in
        judge_by w.0 w.1.1.0 w.1.0 w.1.1.1.0 w.1.1.1.1 (item_air o item route)

  -- ---- items one after another

  half_then : (c : Course) (rest : Rest) (turn : Turn) (up : List Item) (o : OuterState) (devices : List State) (later : Course) → Goes c later → later.host ≡ c.host → later.told ≡ c.told
      → HalfGoes node orders later rest turn up o devices → HalfGoes node orders c rest turn up o devices
  half_then c rest turn up o devices later goes host told g =
      record { later = g.later; goes = goes_on c later g.later goes g.goes; host = g.host ∙ host; told = g.told ∙ told; down = g.down; half = g.half }

  pub judge_all : (c : Course) (rest : Rest) (turn : Turn) (ways : List (Item × Option Route)) (up down : List Item) (o : OuterState) (devices : List State) → Half node orders c rest turn (map (λ w. w.0) ways ++ up) down o devices
      → MayAll o.chip.state (judged_all ways) → StaysFew o ways → HalfGoes node orders c rest turn up (each chip_does o (judged_all ways)).outer devices
  judge_all c rest turn [] up down o devices h may few = record { later = c; goes = goes_nowhere c; host = refl; told = refl; down = down; half = h }
  judge_all c rest turn (way ∷ ways) up down o devices h may few =
      let one : HalfGoes node orders c rest turn (map (λ w. w.0) ways ++ up) (chip_does o (Judged way.0 way.1)).outer devices = judge_one c rest turn way.0 (map (λ w. w.0) ways ++ up) down o devices way.1 h may.0 few.0 in
      half_then c rest turn up (each chip_does (chip_does o (Judged way.0 way.1)).outer (judged_all ways)).outer devices one.later one.goes one.host one.told
      (judge_all one.later rest turn ways up one.down (chip_does o (Judged way.0 way.1)).outer devices one.half
      (subst (λ (s : ChipState). MayAll s (judged_all ways)) (sym (does_one o (Judged way.0 way.1) may.0).state) may.1) few.1)

  -- the chip takes bytes
  pub takes_go : (c : Course) (rest : Rest) (turn : Turn) (up down : List Item) (w : Outside) (count : ℕ) (after_rest : Rest) (ways : List (Item × Option Route)) → Follows node orders c rest turn up down w → MayTake w.outer count after_rest ways
      → StaysFew (fed_chip w.outer count after_rest) ways → OuterGoes node orders c rest turn (outside (chip_takes w.outer count after_rest ways).outer w.devices)
  takes_go c rest turn up down w count after_rest ways f may few =
      let o : OuterState = w.outer in
      let fed : OuterState = fed_chip o count after_rest in
      let left = carries_left o.chip.decoder after_rest count o.to_chip up (map (λ w. w.0) ways) may.feeds f.to_chip in
      let h : Half node orders c rest turn (map (λ w. w.0) ways ++ left.left) down fed w.devices = record {
        mesh = f.mesh;
        way = record { to_host = f.to_host; frames = f.frames; waits = f.waits; reports = f.reports };
        messages = subst (λ (is : List Item). OnWay (Asks node orders c.host.commands) c.up is turn []) left.parts f.messages;
      } in
      let g : HalfGoes node orders c rest turn left.left (each chip_does fed (judged_all ways)).outer w.devices = judge_all c rest turn ways left.left down fed w.devices h may.judges few in
      let does : ChipDoes (judged_all ways) fed (each chip_does fed (judged_all ways)).outer = does_each fed (judged_all ways) may.judges in
      record {
        later = g.later;
        goes = g.goes;
        host = g.host;
        told = g.told;
        up = left.left;
        down = g.down;
        follows = record {
          mesh = g.half.mesh;
          to_chip = subst (λ (y : WayState). Carries (each chip_does fed (judged_all ways)).outer.chip.decoder y left.left) (sym does.to_chip)
              (subst (λ (r : Rest). Carries r fed.to_chip left.left) (sym does.decoder) left.feeds);
          to_host = g.half.way.to_host;
          frames = g.half.way.frames;
          waits = g.half.way.waits;
          messages = g.half.messages;
          reports = g.half.way.reports;
        };
      }
