-- The frames on their way to the host tell of each node the list that it has, and so the interviews that they end hear it.
use Rattle.std.proofs.Common.{◌≡◌, ℕ, Bool, true, false, List, [], ◌∷◌, ◌++◌, refl, sym, subst}
use Rattle.std.specs.Prelude.{Option, Some, None, Result, Ok, Err, nat_lt, ◌==◌, if◌then◌else◌, slice_get}
use Rattle.std.specs.List.{AllByRecursion}
use Rattle.zw_base.proofs.Each.{all-append}
use Rattle.serial_frame.specs.Frame.{FrameParts}
use Rattle.serial_frame.specs.Items.{unit_text}
use Rattle.serial_frame.specs.Stream.{Rest, no_rest, after_tick}
use Rattle.serial_frame.specs.declared.frame.Kind.{Kind}
use Rattle.serial_frame.specs.declared.frame.Kind.TheVariants as kind
use Rattle.serial_frame.specs.declared.unit.Unit.{Unit as LineUnit}
use Rattle.serial_frame.specs.declared.unit.Unit.TheVariants.{Ack, Nak, Can, Framed}
use Rattle.serial_frame.specs.declared.item.Item.{Item}
use Rattle.serial_frame.specs.declared.item.Item.TheVariants.{Good, Refused}
use Rattle.serial_frame.specs.declared.item.Refusal.{Refusal}
use Rattle.serial_frame.specs.declared.item.Refusal.TheVariants.{BadSum}
use Rattle.s0_crypto.specs.declared.key_pair.Keys.{Keys}
use Rattle.proof_once.specs.device_sim.State.{State}
use Rattle.serial_link.specs.declared.turn.Turn.{Turn}
use Rattle.zw_words.specs.declared.side.Side.{Side}
use Rattle.zw_words.specs.declared.side.Side.TheVariants.{Host, Chip}
use Rattle.zw_text.specs.declared.entry.Entry.TheVariants.{Refused as refused_entry}
use Rattle.serial_pipes.specs.State.{WayState, MarksState, fits, garbled}
use Rattle.serial_pipes.specs.Events.{Writes, Takes, Clears}
use Rattle.serial_pipes.specs.Events as way
use Rattle.serial_pipes.specs.declared.marks.Garble.{Garble}
use Rattle.route_table.specs.declared.route.Route.{Route}
use Rattle.chip_functions.specs.declared.fault.BodyFault.{BodyFault}
use Rattle.chip_functions.specs.declared.notice.Notice.{Notice}
use Rattle.chip_functions.specs.declared.notice.Notice.TheVariants.{ApplicationCommandHandler, SendData, ApplicationUpdate, AddNode}
use Rattle.chip_functions.specs.declared.notice.Update.{Update}
use Rattle.chip_functions.specs.declared.notice.Update.TheVariants.{Received, RequestFailed}
use Rattle.chip_functions.specs.declared.response.Response.{Response}
use Rattle.chip_functions.specs.Response.{response_of}
use Rattle.chip_functions.specs.Notice.{notice_of}
use Rattle.chip_sim.specs.State.{ChipState, ChipParts}
use Rattle.chip_sim.specs.Events.{Ticked}
use Rattle.chip_sim.specs.Did.{outs_all as chip_outs_all, judged_all}
use Rattle.chip_sim.specs.Link.{chip_units}
use Rattle.host_requests.specs.Events.{interviewed_by}
use Rattle.host_requests.specs.Events.RequestsEvent.{Fails as request_fails, IsSent as request_is_sent}
use Rattle.host_heard.specs.Telling.{heard_at}
use Rattle.proof_world.specs.host_model.State.{HostState}
use Rattle.proof_world.specs.host_model.After.{after, is_busy, gives_up}
use Rattle.proof_world.specs.host_model.May.{says_listens}
use Rattle.proof_world.specs.host_model.Did.{after_all as host_after_all, outs_all as host_outs_all}
use Rattle.proof_world.specs.host_model.Events.{HostEvent, Hears, Interviews, Interview_unkept}
use Rattle.proof_world.specs.host_model.Taking.{InterviewEvents, ResponseEvents, NoticeEvents, FrameEvents, told_if, IsFollowed, AreJudged}
use Rattle.proof_world.specs.host_model.Outs.{answers}
use Rattle.proof_once.specs.device_sim.Event.{Ticks, Wakes, Sets}
use Rattle.air_frames.specs.Ages.{refusal_of}
use Rattle.proof_once.specs.mesh_sim.Fates.{place_of}
use Rattle.proof_once.specs.mesh_sim.Steps as mesh
use Rattle.proof_once.specs.outside_model.Results.{device_at}
use Rattle.proof_once.specs.outside_model.Nodes.{listens_at}
use Rattle.proof_once.specs.outside_model.State.{OuterState, Outside, first_outer}
use Rattle.proof_once.specs.outside_model.Events.{OuterEvent, Begins_line, Begins_tick, Host_writes, Host_takes as host_takes, Host_notes, Host_begins, Chip_takes, Arrives, Gives, Device_ticks, Chip_ticks, Repeats, Wakes_device, Sets_device, Shows, Joins, Discovers, Links, Loses, Loses_acks, Marks_loss, Marks_change, Clears_pipe, Collides_next, Stalls, Cuts, is_own, outcome, happens as happens_outside, May as MayOutside}
use Rattle.proof_once.specs.world_model.State.{Machine, host_does, first_machine}
use Rattle.proof_once.specs.world_model.Events.{Event, Outside_does, Host_does, Host_takes, Decoder_ticks, Refuses, Shows_values, Restarts, happens, May, fed, shown_values}
use Rattle.proof_once.specs.world_model.Did.{MayAll}
use Rattle.proof_world.specs.proof_serial.Way.{Carries, wanted_sum, found_sum, items_of, unit_item, changed_item, marked_items, items_all}
use Rattle.proof_world.specs.proof_serial.Chip.{HasFrames}
use Rattle.proof_world.specs.proof_serial.Line.{OuterAtRest, IsAtRest, AllAtRest}
use Rattle.proof_world.proofs.Frames.{events_have, events_fit}
use Rattle.proof_world.proofs.Ways.{carries_all, carries_left, carries_none}
use Rattle.proof_world.proofs.ChipWays.{does_each, does_one}
use Rattle.proof_world.proofs.Outer.{entered_still, routed_all, notes_all, Written, tick_still}
use Rattle.proof_world.proofs.Always.{one, none, either}
use Rattle.proof_world.proofs.Heard.{IsOfPayload, payload_of}
use Rattle.proof_spoken.specs.Interviews.{HearsList, HearLists}
use Rattle.proof_spoken.proofs.NoticeLists.{NoticeTells, UpdateTells}
use Rattle.proof_spoken.proofs.Frames.{UnitTells, IsTelling, FrameTells, PortTells, EventTells, events_port, events_out}
use Rattle.proof_world.proofs.ChipMoves.{at_moves, collides_moves, discovers_moves, gives_moves, hand_moves, joins_moves, moves_here, repeats_moves, steps_moves, still_moves}
use Rattle.proof_spoken.proofs.ListsAtChip.{Informs, Lists, listed}

-- what each node lists
module _ (listing : ℕ → List ℕ) where
  -- ---- items

  abbrev pub ItemTells : Item → Type 0
  ItemTells (Good unit) = UnitTells listing unit
  ItemTells (Refused refusal) = Unit {0}

  either_tells : (b : Bool) (f : FrameParts) (refusal : Refusal) → IsTelling listing f → ItemTells (if b then Good (Framed f) else Refused refusal)
  either_tells true f refusal is = is
  either_tells false f refusal is = tt

  changed_tells : (garble : Garble) (f : FrameParts) → IsTelling listing f → ItemTells (changed_item garble f)
  changed_tells garble f is =
      let text = garbled garble (unit_text (Framed f)) in either_tells (garble.xor == 0) f (BadSum (wanted_sum text) (found_sum text)) is

  unit_tells : (garbles : List Garble) (unit : LineUnit) → UnitTells listing unit → ItemTells (unit_item garbles unit)
  unit_tells garbles Ack is = tt
  unit_tells garbles Nak is = tt
  unit_tells garbles Can is = tt
  unit_tells [] (Framed f) is = is
  unit_tells (garble ∷ garbles) (Framed f) is = changed_tells garble f is

  marked_tell : (marks : MarksState) (unit : LineUnit) → UnitTells listing unit → AllByRecursion ItemTells (marked_items marks unit)
  marked_tell marks unit is = by (nat_lt 0 marks.drops)
    where
      by : (b : Bool) → AllByRecursion ItemTells (if b then [] else unit_item marks.garbles unit ∷ [])
      by true = tt
      by false = (unit_tells marks.garbles unit is, tt)

  one_tells : (w : WayState) (unit : LineUnit) → UnitTells listing unit → AllByRecursion ItemTells (items_of w unit)
  one_tells w unit is = by (fits w.bytes (unit_text unit))
    where
      by : (b : Bool) → AllByRecursion ItemTells (if b then marked_items w.marks unit else [])
      by true = marked_tell w.marks unit is
      by false = tt

  items_tell : (w : WayState) (units : List LineUnit) → AllByRecursion (UnitTells listing) units → AllByRecursion ItemTells (items_all w units)
  items_tell w [] all = tt
  items_tell w (unit ∷ units) all =
      all-append ItemTells (items_of w unit) (items_all (way.after w (Writes unit)) units) (one_tells w unit all.0) (items_tell (way.after w (Writes unit)) units all.1)

  all_left : (items prefix left : List Item) → items ≡ prefix ++ left → AllByRecursion ItemTells items → AllByRecursion ItemTells prefix × AllByRecursion ItemTells left
  all_left items prefix left are all = by prefix left (subst (λ (l : List Item). AllByRecursion ItemTells l) are all)
    where
      by : (prefix left : List Item) → AllByRecursion ItemTells (prefix ++ left) → AllByRecursion ItemTells prefix × AllByRecursion ItemTells left
      by [] left all = (tt, all)
      by (item ∷ prefix) left all = let more = by prefix left all.1 in ((all.0, more.0), more.1)

  -- ---- on their way

  -- the items on their way to a host that has this unfinished tell so, and so do the frames that the chip has to write
  pub record Down (rest : Rest) (o : OuterState) : Type 0 where
    pub items : List Item
    pub carried : Carries rest o.to_host items
    pub tell : AllByRecursion ItemTells items
    pub port : PortTells listing o.chip.state.port
    pub frames : HasFrames o.chip.state.port

  informed_down : (rest : Rest) (o n : OuterState) → Informs listing o n → Down rest o → Down rest n
  informed_down rest o n informs down =
      let s = o.chip.state in
      let events = informs.events in
      let units = chip_units (chip_outs_all s events) in
      record {
        items = down.items ++ items_all o.to_host units;
        carried = subst (λ (w : WayState). Carries rest w (down.items ++ items_all o.to_host units)) (sym informs.does.to_host)
            (carries_all rest o.to_host units down.items down.carried (events_fit s events down.frames informs.does.may));
        tell = all-append ItemTells down.items (items_all o.to_host units) down.tell (items_tell o.to_host units (events_out listing s events down.port informs.asks));
        port = subst (λ (t : ChipState). PortTells listing t.port) (sym informs.does.state) (events_port listing s events down.port informs.asks);
        frames = subst (λ (t : ChipState). HasFrames t.port) (sym informs.does.state) (events_have s events down.frames informs.does.may);
      }

  -- the way to the host and the chip are as before
  same_down : (rest : Rest) (o n : OuterState) → n.to_host ≡ o.to_host → n.chip ≡ o.chip → Down rest o → Down rest n
  same_down rest o n to_host chip down = record {
    items = down.items;
    carried = subst (λ (w : WayState). Carries rest w down.items) (sym to_host) down.carried;
    tell = down.tell;
    port = subst (λ (c : ChipParts). PortTells listing c.state.port) (sym chip) down.port;
    frames = subst (λ (c : ChipParts). HasFrames c.state.port) (sym chip) down.frames;
  }

  -- ---- events outside the host

  judged_tell : (ways : List (Item × Option Route)) → AllByRecursion (EventTells listing) (judged_all ways)
  judged_tell [] = tt
  judged_tell (one ∷ ways) = (tt, judged_tell ways)

  -- what is entered after an event changes nothing of the line
  entered_down : (rest : Rest) (w : Outside) (event : OuterEvent) → Down rest (outcome w event).outer → Down rest (happens_outside w event).outer
  entered_down rest w event down =
      informed_down rest (outcome w event).outer (happens_outside w event).outer
      (still_moves (listed listing) (outcome w event).outer (happens_outside w event).outer (entered_still (outcome w event).outer (outcome w event).entries)) down

  moved_down : (rest : Rest) (w : Outside) (event : OuterEvent) → Informs listing w.outer (outcome w event).outer → Down rest w.outer → Down rest (happens_outside w event).outer
  moved_down rest w event informs down = entered_down rest w event (informed_down rest w.outer (outcome w event).outer informs down)

  -- the chip takes bytes
  takes_down : (rest : Rest) (w : Outside) (count : ℕ) (left : Rest) (ways : List (Item × Option Route)) → MayOutside w (Chip_takes count left ways) → Down rest w.outer
      → Down rest (happens_outside w (Chip_takes count left ways)).outer
  unfolding outcome MayOutside
  takes_down rest w count left ways may down =
      let o = w.outer in
      let taken : OuterState = record o { to_chip = way.after o.to_chip (Takes count); chip = record { decoder = left; state = o.chip.state } } in
      entered_down rest w (Chip_takes count left ways)
      (informed_down rest taken (outcome w (Chip_takes count left ways)).outer (record { events = judged_all ways; does = does_each taken (judged_all ways) may.judges; asks = judged_tell ways })
      (record { items = down.items; carried = down.carried; tell = down.tell; port = down.port; frames = down.frames }))

  ticks_down : (rest : Rest) (w : Outside) → Down rest w.outer → Down rest (happens_outside w Chip_ticks).outer
  unfolding outcome
  ticks_down rest w down =
      let o = w.outer in
      let ticked : OuterState = record o { chip = record { decoder = after_tick o.chip.decoder; state = o.chip.state } } in
      entered_down rest w Chip_ticks
      (informed_down rest ticked (outcome w Chip_ticks).outer (record { events = Ticked ∷ []; does = does_one ticked Ticked tt; asks = (tt, tt) })
      (record { items = down.items; carried = down.carried; tell = down.tell; port = down.port; frames = down.frames }))

  -- what is lost on its way, and marks
  clears_down : (rest : Rest) (w : Outside) (side : Side) → (side ≡ Chip → rest ≡ no_rest) → Down rest w.outer → Down rest (happens_outside w (Clears_pipe side)).outer
  unfolding outcome
  clears_down rest w Host rests down =
      entered_down rest w (Clears_pipe Host) (record { items = down.items; carried = down.carried; tell = down.tell; port = down.port; frames = down.frames })
  clears_down rest w Chip rests down =
      entered_down rest w (Clears_pipe Chip)
      (record {
        items = [];
        carried = subst (λ (r : Rest). Carries r (way.after w.outer.to_host Clears) []) (sym (rests refl)) (carries_none w.outer.to_host);
        tell = tt;
        port = down.port;
        frames = down.frames;
      })

  loses_down : (rest : Rest) (w : Outside) (side : Side) → Down rest w.outer → Down rest (happens_outside w (Marks_loss side)).outer
  unfolding outcome
  loses_down rest w Host down = record { items = down.items; carried = down.carried; tell = down.tell; port = down.port; frames = down.frames }
  loses_down rest w Chip down = record { items = down.items; carried = record { reads = down.carried.reads; ticks = down.carried.ticks }; tell = down.tell; port = down.port; frames = down.frames }

  changes_down : (rest : Rest) (w : Outside) (side : Side) (garble : Garble) → Down rest w.outer → Down rest (happens_outside w (Marks_change side garble)).outer
  unfolding outcome
  changes_down rest w Host garble down = record { items = down.items; carried = down.carried; tell = down.tell; port = down.port; frames = down.frames }
  changes_down rest w Chip garble down = record { items = down.items; carried = record { reads = down.carried.reads; ticks = down.carried.ticks }; tell = down.tell; port = down.port; frames = down.frames }

  cleared_rest : (m : Machine) (side : Side) → OuterAtRest m (Clears_pipe side) → side ≡ Chip → m.host.decoder ≡ no_rest
  cleared_rest m Host rests is = absurd cc
  cleared_rest m Chip rests is = rests

  wrong : {X : Type 0} → false ≡ true → X
  wrong bad = absurd cc

  outer_down : (m : Machine) (event : OuterEvent) → Lists listing m.outside.devices → is_own event ≡ true → MayOutside m.outside event → OuterAtRest m event → Down m.host.decoder m.outside.outer
      → Down m.host.decoder (happens_outside m.outside event).outer
  unfolding outcome
  outer_down m Begins_line lists own may rests down = moved_down m.host.decoder m.outside Begins_line (moves_here (listed listing) m.outside.outer _ refl refl refl) down
  outer_down m Begins_tick lists own may rests down = moved_down m.host.decoder m.outside Begins_tick (moves_here (listed listing) m.outside.outer _ refl refl refl) down
  outer_down m (Host_writes unit) lists own may rests down = wrong own
  outer_down m (host_takes count) lists own may rests down = wrong own
  outer_down m (Host_notes entry) lists own may rests down = wrong own
  outer_down m (Host_begins node sessions) lists own may rests down = wrong own
  outer_down m (Chip_takes count rest ways) lists own may rests down = takes_down m.host.decoder m.outside count rest ways may down
  outer_down m (Arrives drawn route) lists own may rests down = moved_down m.host.decoder m.outside (Arrives drawn route) (steps_moves (listed listing) m.outside (mesh.Arrives drawn route)) down
  outer_down m (Gives route) lists own may rests down = moved_down m.host.decoder m.outside (Gives route) (gives_moves (listed listing) m.outside.outer m.outside.devices m.outside.outer.due route lists) down
  outer_down m (Device_ticks place drawn route) lists own may rests down =
      moved_down m.host.decoder m.outside (Device_ticks place drawn route) (at_moves (listed listing) m.outside.outer (slice_get m.outside.devices place) (Ticks drawn) route) down
  outer_down m Chip_ticks lists own may rests down = ticks_down m.host.decoder m.outside down
  outer_down m (Repeats number drawn route) lists own may rests down =
      moved_down m.host.decoder m.outside (Repeats number drawn route) (repeats_moves (listed listing) m.outside (refusal_of m.outside.outer.air.frames number) (mesh.Repeats number drawn route)) down
  outer_down m (Wakes_device node route) lists own may rests down =
      moved_down m.host.decoder m.outside (Wakes_device node route) (hand_moves (listed listing) m.outside.outer m.outside.devices (place_of node m.outside.devices) Wakes route) down
  outer_down m (Sets_device node value route) lists own may rests down =
      moved_down m.host.decoder m.outside (Sets_device node value route) (hand_moves (listed listing) m.outside.outer m.outside.devices (place_of node m.outside.devices) (Sets value) route) down
  outer_down m (Shows node) lists own may rests down = moved_down m.host.decoder m.outside (Shows node) (moves_here (listed listing) m.outside.outer _ refl refl refl) down
  outer_down m (Joins node) lists own may rests down =
      moved_down m.host.decoder m.outside (Joins node) (joins_moves (listed listing) m.outside.outer node (listens_at (device_at m.outside.devices (place_of node m.outside.devices)))) down
  outer_down m Discovers lists own may rests down = moved_down m.host.decoder m.outside Discovers (discovers_moves (listed listing) m.outside.outer) down
  outer_down m (Links a b live) lists own may rests down = moved_down m.host.decoder m.outside (Links a b live) (moves_here (listed listing) m.outside.outer _ refl refl refl) down
  outer_down m (Loses count) lists own may rests down = moved_down m.host.decoder m.outside (Loses count) (moves_here (listed listing) m.outside.outer _ refl refl refl) down
  outer_down m (Loses_acks count) lists own may rests down = moved_down m.host.decoder m.outside (Loses_acks count) (moves_here (listed listing) m.outside.outer _ refl refl refl) down
  outer_down m (Marks_loss side) lists own may rests down = loses_down m.host.decoder m.outside side down
  outer_down m (Marks_change side garble) lists own may rests down = changes_down m.host.decoder m.outside side garble down
  outer_down m (Clears_pipe side) lists own may rests down = clears_down m.host.decoder m.outside side (cleared_rest m side rests) down
  outer_down m Collides_next lists own may rests down = moved_down m.host.decoder m.outside Collides_next (collides_moves (listed listing) m.outside.outer) down
  outer_down m (Stalls ticks) lists own may rests down = moved_down m.host.decoder m.outside (Stalls ticks) (moves_here (listed listing) m.outside.outer _ refl refl refl) down
  outer_down m (Cuts size) lists own may rests down = moved_down m.host.decoder m.outside (Cuts size) (moves_here (listed listing) m.outside.outer _ refl refl refl) down

  -- ---- what interviews hear

  payload_hears : (n : ℕ) (event : HostEvent) → IsOfPayload n event → HearsList listing event
  payload_hears n (Interviews other listens classes update) of_it = absurd of_it
  payload_hears n _ of_it = tt

  payloads_hear : (n : ℕ) (events : List HostEvent) → AllByRecursion (IsOfPayload n) events → AllByRecursion (HearsList listing) events
  payloads_hear n [] all = tt
  payloads_hear n (event ∷ events) all = (payload_hears n event all.0, payloads_hear n events all.1)

  response_hears : (r : Result Response BodyFault) (events : List HostEvent) → ResponseEvents r events → AllByRecursion (HearsList listing) events
  response_hears (Ok r) events is = one (HearsList listing) _ events tt is
  response_hears (Err fault) events is = none (HearsList listing) events is

  interview_hears : (update : Update) (brought : Option ℕ) (events : List HostEvent) → UpdateTells listing update → InterviewEvents update brought events → AllByRecursion (HearsList listing) events
  interview_hears (Received n basic generic specific classes) (Some capability) events tells is =
      either (HearsList listing) (Interviews n (says_listens capability) classes (Received n basic generic specific classes)) (Interview_unkept n (Received n basic generic specific classes)) events tells tt is
  interview_hears RequestFailed (Some capability) events tells is = none (HearsList listing) events is
  interview_hears (Received n basic generic specific classes) None events tells is = one (HearsList listing) _ events tt is
  interview_hears RequestFailed None events tells is = one (HearsList listing) _ events tt is

  notice_hears : (h : HostState) (notice : Result Notice BodyFault) (events : List HostEvent) → ((v : Notice) → notice ≡ Ok v → NoticeTells listing v) → NoticeEvents h notice events → AllByRecursion (HearsList listing) events
  notice_hears h (Ok (ApplicationCommandHandler rx_status source payload)) events tells is = payloads_hear source events (payload_of source h payload (heard_at payload) events is)
  notice_hears h (Ok (SendData callback_id status)) events tells is = one (HearsList listing) _ events tt is
  notice_hears h (Ok (ApplicationUpdate update)) events tells is = interview_hears update (interviewed_by h.requests update) events (tells (ApplicationUpdate update) refl) is
  notice_hears h (Ok (AddNode callback_id status information)) events tells is = none (HearsList listing) events is
  notice_hears h (Err fault) events tells is = none (HearsList listing) events is

  frame_hears : (h : HostState) (k : Kind) (function : ℕ) (body : List ℕ) (events : List HostEvent) → FrameTells listing k function body → FrameEvents h k function body events → AllByRecursion (HearsList listing) events
  frame_hears h kind.Response function body events tells is = response_hears (response_of function body) events is
  frame_hears h kind.Request function body events tells is = notice_hears h (notice_of function body) events tells is

  sent_if_hears : (b : Bool) (events : List HostEvent) → events ≡ told_if b request_is_sent → AllByRecursion (HearsList listing) events
  sent_if_hears true events is = one (HearsList listing) _ events tt is
  sent_if_hears false events is = none (HearsList listing) events is

  fails_if_hears : (b : Bool) (events : List HostEvent) → events ≡ told_if b request_fails → AllByRecursion (HearsList listing) events
  fails_if_hears true events is = one (HearsList listing) _ events tt is
  fails_if_hears false events is = none (HearsList listing) events is

  followed_hears : (h : HostState) (turn : Turn) (item : Item) (events : List HostEvent) → ItemTells item → IsFollowed h turn item events → AllByRecursion (HearsList listing) events
  followed_hears h turn (Good Ack) events tells is = sent_if_hears (is_busy turn) events is
  followed_hears h turn (Good Nak) events tells is = fails_if_hears (gives_up turn h.side.turn) events is
  followed_hears h turn (Good Can) events tells is = fails_if_hears (gives_up turn h.side.turn) events is
  followed_hears h turn (Good (Framed f)) events tells is = frame_hears h f.kind f.func f.body events tells is
  followed_hears h turn (Refused refusal) events tells is = none (HearsList listing) events is

  all_hear : (h : HostState) (items : List Item) (events : List HostEvent) → AllByRecursion ItemTells items → AreJudged h items events → AllByRecursion (HearsList listing) events
  all_hear h [] events tell is = none (HearsList listing) events is
  all_hear h (item ∷ items) events tell (first, rest, are, (following, first_is, followed), more) =
      subst (λ (l : List HostEvent). AllByRecursion (HearsList listing) l) (sym are)
      (all-append (HearsList listing) first rest
      (subst (λ (l : List HostEvent). AllByRecursion (HearsList listing) l) (sym first_is) (tt, followed_hears (after h (Hears item)) h.side.turn item following tell.0 followed))
      (all_hear (host_after_all h first) items rest tell.1 more))

  -- ---- events of the machine

  abbrev pub MachineDown : Machine → Type 0
  MachineDown m = Down m.host.decoder m.outside.outer

  record HearsOn (m : Machine) (event : Event) : Type 0 where
    hears : HearLists listing event
    down : MachineDown (happens m event)

  written_down : (rest : Rest) (units : List LineUnit) (o n : OuterState) → Written units o n → Down rest o → Down rest n
  written_down rest units o n written down = same_down rest o n written.to_host written.chip down

  hears_on : (m : Machine) (event : Event) → May m event → IsAtRest m event → Lists listing m.outside.devices → MachineDown m → HearsOn m event
  unfolding happens May outcome
  hears_on m (Outside_does event) may rests lists down = record { hears = tt; down = outer_down m event lists may.0 may.1 rests down }
  hears_on m (Host_does event) may rests lists down =
      let base = host_does m (event ∷ []) in
      let out = routed_all m.outside (host_outs_all m.host.state (event ∷ [])) in
      record { hears = tt; down = written_down m.host.decoder _ base.outside.outer _ (notes_all base.outside (answers m.host.state event)) (written_down m.host.decoder _ m.outside.outer base.outside.outer out down) }
  hears_on m (Host_takes count rest items events) may rests lists down =
      let o = m.outside.outer in
      let left = carries_left m.host.decoder rest count o.to_host down.items items may.feeds down.carried in
      let both_tell = all_left down.items items left.left left.parts down.tell in
      let taken : Down rest (fed m count rest).outside.outer = record { items = left.left; carried = left.feeds; tell = both_tell.1; port = down.port; frames = down.frames } in
      record {
        hears = all_hear m.host.state items events both_tell.0 may.judged;
        down = written_down rest _ (fed m count rest).outside.outer _ (routed_all (fed m count rest).outside (host_outs_all m.host.state events)) taken;
      }
  hears_on m Decoder_ticks may rests lists down = record { hears = tt; down = subst (λ (r : Rest). Down r m.outside.outer) (sym (tick_still m.host.decoder rests)) down }
  hears_on m (Refuses line refusal) may rests lists down =
      record { hears = tt; down = written_down m.host.decoder _ m.outside.outer _ (notes_all m.outside (refused_entry refusal ∷ [])) down }
  hears_on m (Shows_values node) may rests lists down =
      record { hears = tt; down = written_down m.host.decoder _ m.outside.outer _ (notes_all m.outside (shown_values m.host.state node ∷ [])) down }
  hears_on m (Restarts state) may rests lists down = record { hears = tt; down = subst (λ (r : Rest). Down r m.outside.outer) rests down }

  abbrev pub ListsOn : Machine → List Event → Type 0
  ListsOn m [] = Unit {0}
  ListsOn m (event ∷ events) = Lists listing m.outside.devices × ListsOn (happens m event) events

  pub all_hear_lists : (m : Machine) (events : List Event) → MayAll m events → AllAtRest m events → ListsOn m events → MachineDown m → AllByRecursion (HearLists listing) events
  all_hear_lists m [] may rests lists down = tt
  all_hear_lists m (event ∷ events) may rests lists down =
      let one = hears_on m event may.0 rests.0 lists.0 down in (one.hears, all_hear_lists (happens m event) events may.1 rests.1 lists.1 one.down)

  -- at first nothing is on its way, and the chip has nothing to write
  pub first_down : (keys : Keys) (records : Option (List (List ℕ))) (devices : List State) → MachineDown (first_machine keys records devices)
  unfolding first_outer
  first_down keys records devices = record {
    items = [];
    carried = record { reads = (tt, refl); ticks = refl };
    tell = tt;
    port = record { turn = tt; waiting = tt };
    frames = record { turn = tt; waiting = tt };
  }
