-- Each thing that happens outside the host keeps what the air has sent as the transcript shows it.
use Rattle.std.proofs.Common.{◌≡◌, ◌≢◌, ℕ, zero, suc, ◌+◌, ◌-◌, ◌<◌, ◌||◌, nat_le, nat_lt, arith, Bool, true, false, if◌then◌else◌, List, [], ◌∷◌, ◌++◌, filter, length, slice_get, refl, sym, ap, ap₂, subst, ◌∙◌, append-nil, append_assoc}
use Rattle.std.specs.Prelude.{Option, Some, None, slice_set, is_some, ⊤}
use Rattle.std.specs.Option.{option_map, unwrap_or, is_none}
use Rattle.std.specs.List.{AllByRecursion, flat_map}
use Rattle.zw_base.proofs.Each.{all-append, all-weaker}
use Rattle.serial_frame.specs.Stream.{after_tick}
use Rattle.serial_frame.specs.declared.item.Item.{Item}
use Rattle.serial_frame.specs.Stream.{Rest}
use Rattle.serial_pipes.specs.Events.{Takes, told}
use Rattle.serial_pipes.specs.Events.{after as way_after}
use Rattle.route_table.specs.Network.{Network}
use Rattle.route_table.specs.Route.{via}
use Rattle.route_table.specs.declared.route.Route.{Route}
use Rattle.air_frames.specs.Flown.{Flown}
use Rattle.air_frames.specs.Frames.{FramesState, next_of, remembered, peer_of}
use Rattle.air_frames.specs.declared.frame.Heading.{Heading}
use Rattle.air_frames.specs.declared.frame.Heading.TheVariants.{Outward, Homeward}
use Rattle.device_kinds.specs.declared.change.Change.{Change}
use Rattle.chip_sim.specs.Events.{ChipEvent, Judged, Ticked, Forgets, after, outs, May as MayOfChip}
use Rattle.chip_sim.specs.Rules.{is_start, starts}
use Rattle.chip_sim.specs.declared.out.ChipOut.{ChipOut}
use Rattle.chip_sim.specs.declared.out.ChipOut.TheVariants.{Write, OnAir, NoRoute, AskInfo, Full}
use Rattle.device_sim.specs.State.{State}
use Rattle.device_sim.specs.Event.{DeviceEvent, Hears, device_after, device_replies}
use Rattle.mesh_sim.specs.declared.event.AirEvent.{AirEvent}
use Rattle.mesh_sim.specs.declared.event.AirEvent.TheVariants as air_event
use Rattle.mesh_sim.specs.declared.fate.Fate.{Fate}
use Rattle.mesh_sim.specs.declared.fate.Fate.TheVariants as fate
use Rattle.mesh_sim.specs.Air.{AirState, is_joined, departing, beginning, no_route}
use Rattle.mesh_sim.specs.Fates.{Mesh, place_of, fate_of, listener_of, dead_hop}
use Rattle.mesh_sim.specs.Routes.{IsRoute, backwards}
use Rattle.mesh_sim.specs.Steps.{AirStep, MayHappen, MayArrive, MayArriveIf, MayRepeat, MayRepeatBy, MayHearAgain, mesh_after, mesh_outs, answers_if, answered_if, answers, answered, changed, landed, acknowledged, status_of, done_of, outs_at, heard_at, heard_again, outs_again, arriving, arriving_as, arrival_outs, arrival_outs_as, repeating, repeating_by, repeat_outs, repeat_outs_by}
use Rattle.mesh_sim.specs.Steps as mesh
use Rattle.zw_words.specs.declared.side.Side.TheVariants.{Chip as by_chip}
use Rattle.zw_text.specs.declared.entry.Entry.{Entry}
use Rattle.zw_text.specs.declared.entry.Entry.TheVariants as entry
use Rattle.law_wire.specs.law_transcript.Fates.{marks_left}
use Rattle.law_wire.specs.law_transcript.Lists.{EachAfter, shown_after}
use Rattle.law_wire.specs.law_transcript.Nodes.{controller}
use Rattle.law_wire.specs.Networks.{air_links}
use Rattle.outside_model.specs.State.{OuterState, Outside, outside, Outcome, each, with_chip}
use Rattle.outside_model.specs.Chip.{put_out, chip_does, chip_ticks, shown_via}
use Rattle.outside_model.specs.Air.{sent_entries, change_entries, deals, change_at}
use Rattle.outside_model.specs.Results.{device_at}
use Rattle.outside_model.specs.Results.{gives}
use Rattle.outside_model.specs.Devices.{acts, changes_entries, new_changes, HasWay, MayAct}
use Rattle.outside_model.specs.Events.{OuterEvent, Host_notes, Joins, Discovers, Links, Loses, Loses_acks, Collides_next, begins, mesh_of, outcome}
use Rattle.proof_walk.proofs.Entered.{IsChange, change_entered, changes_entered}
use Rattle.proof_walk.proofs.Results.{Gives, IsSameChip, gives_go, ends_go, to_chip_goes}
use Rattle.proof_walk.proofs.Entering.{pipes_leave}
use Rattle.proof_walk.specs.Outside.{Pending, Judging, Dealing, nothing, Knowing, Moves, IsSimple, IsHearing, session_begins, Outer}
use Rattle.proof_routes.specs.Forgetting.{Passage, passage_at, passages, HasPassages}
use Rattle.proof_routes.specs.Networks.{HasLinks}
use Rattle.proof_routes.proofs.Books.{air_grows}
use Rattle.proof_routes.proofs.Coming.{NotHome, apart_of, answered_if_air, has_way, step_hears}
use Rattle.proof_routes.proofs.Leaving.{StartsSo, GoesOver, AllGoOver, judged_over, given_none}
use Rattle.proof_routes.proofs.Outer.{note_quiet, change_quiet}
use Rattle.proof_routes.proofs.Passages.{passages_grow, IsNoFrame, passages_same, marks_grow, marks_same, links_same, put_passage, land_passage, next_passage}
use Rattle.proof_routes.proofs.Ties.{IsQuiet, told_quiet, pipes_quiet}
use Rattle.proof_routes.proofs.Turned.{WayIs, no_way_is, way_is}
use Rattle.proof_routes.proofs.Walks.{shown_is}

-- ---- what is still to be entered

-- a frame comes home, and is not the controller's own
abbrev pub IsOwn : AirEvent → Type 0
IsOwn (air_event.Sent frame from to route payload) = (to ≡ controller) × (from ≢ controller)
IsOwn event = Unit {0}

-- one that is to be entered next, where so many marks are left; and all of them in order, each of which uses one up
abbrev coming_next : Network → ℕ → ℕ → ℕ → List ℕ → Passage
coming_next net marks from to over = record { sender = from; receiver = to; over = over; lost = nat_lt 0 marks || is_some (dead_hop net from over to) }

abbrev pub coming : Network → ℕ → List AirEvent → List Passage
coming net marks [] = []
coming net marks (air_event.Sent frame from to route payload ∷ events) = coming_next net marks from to (shown_via route) ∷ coming net (marks - 1) events
coming net marks (event ∷ events) = coming net marks events

-- how many they are
abbrev pub sent_in : List AirEvent → ℕ
sent_in [] = 0
sent_in (air_event.Sent frame from to route payload ∷ events) = 1 + sent_in events
sent_in (event ∷ events) = sent_in events

abbrev pub coming_of : Pending → Network → ℕ → List Passage
coming_of (Judging ways) net marks = []
coming_of (Dealing events) net marks = coming net marks events

abbrev pub sent_of : Pending → ℕ
sent_of (Judging ways) = 0
sent_of (Dealing events) = sent_in events

abbrev pub AreOwn : Pending → Type 0
AreOwn (Judging ways) = Unit {0}
AreOwn (Dealing events) = AllByRecursion IsOwn events

-- The air has sent what the transcript shows, and what is still to be entered, which uses up as many marks. The controller has not joined, and the same nodes hear each other as by the
-- transcript.
pub record Sends (pending : Pending) (past : List Entry) (w : Outside) : Type 0 where
  pub has : HasPassages (passages past ++ coming_of pending w.outer.air.network (marks_left past)) w.outer.air.frames
  pub marks : marks_left past - sent_of pending ≡ w.outer.air.losing
  pub own : AreOwn pending
  pub home : NotHome w.outer.air.joined
  pub hears : HasLinks w.outer.air.network (air_links past)

abbrev pub KnowsSends : Pending → Knowing
KnowsSends pending awaits past w = Sends pending past w

-- any entry may stand anywhere
abbrev pub Anything : List Entry → Entry → Type 0
Anything past e = ⊤

pub any_stand : (past told : List Entry) → EachAfter Anything past told
any_stand past [] = tt
any_stand past (e ∷ told) = (tt, any_stand (past ++ e ∷ []) told)

abbrev pub Sends_on : Pending → Outside → List Entry → Pending → Outside → Type 0
Sends_on before w told after later = (past : List Entry) → Sends before past w → Sends after (past ++ told) later

moves : (before after : Pending) (w later : Outside) (told : List Entry) → Sends_on before w told after later → Moves Anything (KnowsSends before) w told (KnowsSends after) later
moves before after w later told goes awaits past none knows = (any_stand past told, goes past knows)

both : (p q r : Pending) (w u v : Outside) (xs ys : List Entry) → Sends_on p w xs q u → Sends_on q u ys r v → Sends_on p w (xs ++ ys) r v
both p q r w u v xs ys first later past knows = subst (λ (l : List Entry). Sends r l v) (append_assoc past xs ys) (later (past ++ xs) (first past knows))

-- ---- what sends nothing

record IsSameFrames (old new : OuterState) : Type 0 where
  pub frames : new.air.frames ≡ old.air.frames
  pub joined : new.air.joined ≡ old.air.joined
  pub network : new.air.network ≡ old.air.network
  pub losing : new.air.losing ≡ old.air.losing

same : (o p : OuterState) → p.air.frames ≡ o.air.frames → p.air.joined ≡ o.air.joined → p.air.network ≡ o.air.network → p.air.losing ≡ o.air.losing → IsSameFrames o p
same o p frames joined network losing = record { frames = frames; joined = joined; network = network; losing = losing }

abbrev AreNoFrames : List Entry → Type 0
AreNoFrames told = AllByRecursion IsNoFrame told

quiet_none : (e : Entry) → IsQuiet e → IsNoFrame e
quiet_none (entry.Air frame sender receiver repeaters payload) quiet = absurd quiet
quiet_none (entry.Said words) quiet = absurd quiet
quiet_none e quiet = tt

are_none : (told : List Entry) → AllByRecursion IsQuiet told → AreNoFrames told
are_none told quiet = all-weaker IsQuiet IsNoFrame quiet_none told quiet

still : (p : Pending) (w later : Outside) (told : List Entry) → AreNoFrames told → IsSameFrames w.outer later.outer → Sends_on p w told p later
still p w later told none is past knows =
    let marks : marks_left (past ++ told) ≡ marks_left past = marks_same past told none in
    record {
      has = subst (λ (f : FramesState). HasPassages (passages (past ++ told) ++ coming_of p later.outer.air.network (marks_left (past ++ told))) f) (sym is.frames)
          (subst (λ (n : Network). HasPassages (passages (past ++ told) ++ coming_of p n (marks_left (past ++ told))) w.outer.air.frames) (sym is.network)
          (subst (λ (k : ℕ). HasPassages (passages (past ++ told) ++ coming_of p w.outer.air.network k) w.outer.air.frames) (sym marks)
          (subst (λ (l : List Passage). HasPassages (l ++ coming_of p w.outer.air.network (marks_left past)) w.outer.air.frames) (sym (passages_same past told none)) knows.has)));
      marks = ap (λ (k : ℕ). k - sent_of p) marks ∙ (knows.marks ∙ sym is.losing);
      own = knows.own;
      home = subst NotHome (sym is.joined) knows.home;
      hears = subst (λ (n : Network). HasLinks n (air_links (past ++ told))) (sym is.network) (subst (HasLinks w.outer.air.network) (sym (links_same past told none)) knows.hears);
    }

-- a frame is entered, which leaves the links as they are
air_same : (past : List Entry) (frame sender receiver : ℕ) (repeaters payload : List ℕ) → air_links (past ++ entry.Air frame sender receiver repeaters payload ∷ []) ≡ air_links past
air_same past frame sender receiver repeaters payload = air_grows past (entry.Air frame sender receiver repeaters payload)

-- ---- what the chip puts out

module _ (there : List State) where
  abbrev Puts : Pending → OuterState → Outcome → Type 0
  Puts p o x = Sends_on p (outside o there) x.entries p (outside x.outer there)

  flies : (o : OuterState) (table : Network) (to : ℕ) (route : Route) (payload : List ℕ) → GoesOver table (OnAir to route payload) → Puts nothing o (put_out o (OnAir to route payload))
  flies o table to route payload way past knows =
      let frame : Entry = entry.Air (o.air.frames.sent + 1) 1 to (shown_via route) payload in
      let later : OuterState = (put_out o (OnAir to route payload)).outer in
      let marks = knows.marks in
      let left : marks_left past ≡ o.air.losing = omega (arith, marks) in
      let less : marks_left (past ++ frame ∷ []) ≡ marks_left past - 1 = marks_grow past frame in
      let one : Passage = record { sender = controller; receiver = to; over = via route; lost = nat_lt 0 o.air.losing || false } in
      let is : shown_after passage_at past (frame ∷ []) ≡ one ∷ []
      = ap₂ (λ (l : List ℕ) (k : ℕ). record { sender = controller; receiver = to; over = l; lost = nat_lt 0 k || false } ∷ []) (shown_is route way.nodes) left in
      let put = put_passage (passages past) o.air.frames _ (λ is. way.not_home (sym is)) (subst (λ (l : List Passage). HasPassages l o.air.frames) (append-nil (passages past)) knows.has) in
      record {
        has = subst (λ (l : List Passage). HasPassages l later.air.frames)
            (sym (append-nil (passages (past ++ frame ∷ [])) ∙ (passages_grow past (frame ∷ []) ∙ ap (λ (l : List Passage). passages past ++ l) is))) put;
        marks = omega (arith, less, left);
        own = tt;
        home = knows.home;
        hears = subst (HasLinks o.air.network) (sym (air_same past (o.air.frames.sent + 1) 1 to (shown_via route) payload)) knows.hears;
      }

  none_put : (p : Pending) (o : OuterState) → Puts p o (record { outer = o; entries = [] })
  none_put p o = still p (outside o there) (outside o there) [] tt (same o o refl refl refl refl)

  -- nothing for the air, whatever is to be entered
  abbrev NoAir : ChipOut → Type 0
  NoAir (OnAir to route payload) = ⊥
  NoAir _ = Unit {0}

  no_air : (puts : List ChipOut) → filter is_start puts ≡ [] → AllByRecursion NoAir puts
  no_air [] none = tt
  no_air (Write unit ∷ puts) none = (tt, no_air puts none)
  no_air (OnAir to route payload ∷ puts) none = absurd (let is : OnAir to route payload ∷ filter is_start puts ≡ [] = none in cc)
  no_air (NoRoute ∷ puts) none = absurd (let is : NoRoute ∷ filter is_start puts ≡ [] = none in cc)
  no_air (AskInfo node ∷ puts) none = (tt, no_air puts none)
  no_air (Full ∷ puts) none = (tt, no_air puts none)

  quiet_put : (p : Pending) (o : OuterState) (out : ChipOut) → NoAir out → Puts p o (put_out o out)
  quiet_put p o (Write unit) none =
      still p (outside o there) (outside (put_out o (Write unit)).outer there) (told by_chip o.to_host unit) (are_none (told by_chip o.to_host unit) (told_quiet by_chip o.to_host unit)) (same o (put_out o (Write unit)).outer refl refl refl refl)
  quiet_put p o (OnAir to route payload) none = absurd none
  quiet_put p o NoRoute none = still p (outside o there) (outside (put_out o NoRoute).outer there) [] tt (same o (put_out o NoRoute).outer refl refl refl refl)
  quiet_put p o (AskInfo node) none = still p (outside o there) (outside (put_out o (AskInfo node)).outer there) [] tt (same o (put_out o (AskInfo node)).outer refl refl refl refl)
  quiet_put p o Full none = still p (outside o there) (outside o there) (entry.ChipFull ∷ []) (tt, tt) (same o o refl refl refl refl)

  quiet_puts : (p : Pending) (puts : List ChipOut) (o : OuterState) → AllByRecursion NoAir puts → Puts p o (each put_out o puts)
  quiet_puts p [] o none = none_put p o
  quiet_puts p (out ∷ puts) o none =
      let one : Outcome = put_out o out in
      both p p p (outside o there) (outside one.outer there) (outside (each put_out one.outer puts).outer there) one.entries (each put_out one.outer puts).entries
      (quiet_put p o out none.0) (quiet_puts p puts one.outer none.1)

  put_goes : (o : OuterState) (table : Network) (out : ChipOut) → GoesOver table out → Puts nothing o (put_out o out)
  put_goes o table (OnAir to route payload) over = flies o table to route payload over
  put_goes o table out over = quiet_put nothing o out tt

  puts_go : (table : Network) (puts : List ChipOut) (o : OuterState) → AllGoOver table puts → Puts nothing o (each put_out o puts)
  puts_go table [] o over = none_put nothing o
  puts_go table (out ∷ puts) o over =
      let one : Outcome = put_out o out in
      both nothing nothing nothing (outside o there) (outside one.outer there) (outside (each put_out one.outer puts).outer there) one.entries (each put_out one.outer puts).entries
      (put_goes o table out over.0) (puts_go table puts one.outer over.1)

  does_goes : (o : OuterState) (event : ChipEvent) → AllGoOver o.chip.state.table (outs o.chip.state event) → Puts nothing o (chip_does o event)
  unfolding chip_does
  does_goes o event over =
      let p : OuterState = with_chip o (after o.chip.state event) in
      both nothing nothing nothing (outside o there) (outside p there) (outside (chip_does o event).outer there) [] (chip_does o event).entries
      (still nothing (outside o there) (outside p there) [] tt (same o p refl refl refl refl)) (puts_go o.chip.state.table (outs o.chip.state event) p over)

  module _ (rules : StartsSo) where
    does_quietly : (p : Pending) (o : OuterState) (event : ChipEvent) → starts o.chip.state event ≡ [] → Puts p o (chip_does o event)
    unfolding chip_does
    does_quietly p o event none =
        let q : OuterState = with_chip o (after o.chip.state event) in
        both p p p (outside o there) (outside q there) (outside (chip_does o event).outer there) [] (chip_does o event).entries
        (still p (outside o there) (outside q there) [] tt (same o q refl refl refl refl)) (quiet_puts p (outs o.chip.state event) q (no_air (outs o.chip.state event) (rules o.chip.state event ∙ none)))

    chip_frames : (o q : OuterState) → IsSameChip o q → IsSameFrames o q
    chip_frames o q is =
        same o q (ap (λ (a : AirState). a.frames) is.air) (ap (λ (a : AirState). a.joined) is.air) (ap (λ (a : AirState). a.network) is.air) (ap (λ (a : AirState). a.losing) is.air)

    results : (p : Pending) → Gives (Puts p)
    results p = record {
      still = λ o q is. still p (outside o there) (outside q there) [] tt (chip_frames o q is);
      both = λ o first next before later. both p p p (outside o there) (outside first.outer there) (outside (next first.outer).outer there) first.entries (next first.outer).entries before (later first.outer);
      later = λ o q x is goes. both p p p (outside o there) (outside q there) (outside x.outer there) [] x.entries (still p (outside o there) (outside q there) [] tt (chip_frames o q is)) goes;
      does = λ o event given. does_quietly p o event (given_none o.chip.state event given);
      forgotten = λ o a b. still p (outside o there) (outside (with_chip o (after o.chip.state (Forgets a b))) there) (entry.Forget a b ∷ []) (tt, tt) (same o (with_chip o (after o.chip.state (Forgets a b))) refl refl refl refl);
    }

-- ---- devices answer

-- with these frames more, over a network and where so many marks are left
record Answered (net : Network) (shown : List Passage) (marks : ℕ) (later : AirState) (events : List AirEvent) : Type 0 where
  pub sent : HasPassages (shown ++ coming net marks events) later.frames
  pub left : marks - sent_in events ≡ later.losing
  pub own : AllByRecursion IsOwn events

answered_none : (net : Network) (shown : List Passage) (marks : ℕ) (air : AirState) → marks ≡ air.losing → HasPassages shown air.frames → Answered net shown marks air []
answered_none net shown marks air left has = record { sent = subst (λ (l : List Passage). HasPassages l air.frames) (sym (append-nil shown)) has; left = omega (arith, left); own = tt }

answers_all : (net : Network) (shown : List Passage) (marks : ℕ) (air : AirState) (node : ℕ) (way : Option Route) (replies : List (List ℕ)) → node ≢ controller → WayIs net node way → marks ≡ air.losing
    → HasPassages shown air.frames → Answered net shown marks (answered air node way replies) (answers air node way replies)
answers_all net shown marks air node way [] apart goes left has = answered_none net shown marks air left has
answers_all net shown marks air node way (reply ∷ replies) apart goes left has =
    let next : AirState = departing air node Homeward way reply in
    let events : List AirEvent = answers next node way replies in
    let one : Passage = coming_next net marks node controller (shown_via (unwrap_or way no_route)) in
    let is : record { sender = node; receiver = controller; over = via (unwrap_or way no_route); lost = nat_lt 0 air.losing || is_none way } ≡ one
    = ap₂ (λ (l : List ℕ) (b : Bool). record { sender = node; receiver = controller; over = l; lost = b }) goes.shown (ap₂ (λ (k : ℕ) (b : Bool). nat_lt 0 k || b) (sym left) goes.dead) in
    let put : HasPassages (shown ++ one ∷ []) next.frames = subst (λ (p : Passage). HasPassages (shown ++ p ∷ []) next.frames) is (put_passage shown air.frames _ apart has) in
    let rest = answers_all net (shown ++ one ∷ []) (marks - 1) next node way replies apart goes (ap (λ (k : ℕ). k - 1) left) put in
    let later = rest.left in
    record {
      sent = subst (λ (l : List Passage). HasPassages l (answered next node way replies).frames) (append_assoc shown (one ∷ []) (coming net (marks - 1) events)) rest.sent;
      left = less marks (sent_in events) ∙ later;
      own = ((refl, apart), rest.own);
    }
  where
    less : (marks count : ℕ) → marks - (1 + count) ≡ (marks - 1) - count
    less marks count = omega arith

answers_if_all : (net : Network) (b : Bool) (shown : List Passage) (marks : ℕ) (air : AirState) (node : ℕ) (route : Option Route) (replies : List (List ℕ)) → is_joined air node ≡ b → NotHome air.joined
    → HasWay net node replies route → marks ≡ air.losing → HasPassages shown air.frames
    → Answered net shown marks (answered_if b air node (option_map backwards route) replies) (answers_if b air node (option_map backwards route) replies)
answers_if_all net true shown marks air node route [] is home way left has = answered_none net shown marks air left has
answers_if_all net true shown marks air node route (reply ∷ replies) is home way left has =
    let apart = apart_of air.joined node home is in
    answers_all net shown marks air node (option_map backwards route) (reply ∷ replies) apart (way_is net node route apart way) left has
answers_if_all net false shown marks air node route replies is home way left has = answered_none net shown marks air left has

-- ---- a frame is heard

-- what sends nothing
abbrev SendsNone : AirEvent → Type 0
SendsNone (air_event.Sent frame from to route payload) = ⊥
SendsNone event = Unit {0}

abbrev AreNone : List AirEvent → Type 0
AreNone events = AllByRecursion SendsNone events

none_own : (events : List AirEvent) → AreNone events → AllByRecursion IsOwn events
none_own events none = all-weaker SendsNone IsOwn one events none
  where
    one : (event : AirEvent) → SendsNone event → IsOwn event
    one (air_event.Sent frame from to route payload) none = absurd none
    one event none = tt

none_first : (net : Network) (marks : ℕ) (event : AirEvent) (events : List AirEvent) → SendsNone event → (coming net marks (event ∷ events) ≡ coming net marks events) × (sent_in (event ∷ events) ≡ sent_in events)
none_first net marks (air_event.Sent frame from to route payload) events none = absurd none
none_first net marks event events none = (refl, refl)

-- before others, and after others
none_before : (net : Network) (marks : ℕ) (xs ys : List AirEvent) → AreNone xs → (coming net marks (xs ++ ys) ≡ coming net marks ys) × (sent_in (xs ++ ys) ≡ sent_in ys)
none_before net marks [] ys none = (refl, refl)
none_before net marks (x ∷ xs) ys none =
    let first = none_first net marks x (xs ++ ys) none.0 in
    let rest = none_before net marks xs ys none.1 in
    (first.0 ∙ rest.0, first.1 ∙ rest.1)

none_sent : (net : Network) (marks : ℕ) (events : List AirEvent) → AreNone events → (coming net marks events ≡ []) × (sent_in events ≡ 0)
none_sent net marks [] none = (refl, refl)
none_sent net marks (x ∷ xs) none =
    let first = none_first net marks x xs none.0 in
    let rest = none_sent net marks xs none.1 in
    (first.0 ∙ rest.0, first.1 ∙ rest.1)

none_after : (net : Network) (marks : ℕ) (xs ys : List AirEvent) → AreNone ys → (coming net marks (xs ++ ys) ≡ coming net marks xs) × (sent_in (xs ++ ys) ≡ sent_in xs)
none_after net marks [] ys none = none_sent net marks ys none
none_after net marks (air_event.Heard frame ∷ xs) ys none = none_after net marks xs ys none
none_after net marks (air_event.Lost frame ∷ xs) ys none = none_after net marks xs ys none
none_after net marks (air_event.Unheard frame ∷ xs) ys none = none_after net marks xs ys none
none_after net marks (air_event.Sent frame from to route payload ∷ xs) ys none =
    let rest = none_after net (marks - 1) xs ys none in
    (ap (λ (l : List Passage). coming_next net marks from to (shown_via route) ∷ l) rest.0, ap (λ (k : ℕ). 1 + k) rest.1)
none_after net marks (air_event.Changed node at ∷ xs) ys none = none_after net marks xs ys none
none_after net marks (air_event.ToChip frame from payload ∷ xs) ys none = none_after net marks xs ys none
none_after net marks (air_event.Done frame status dead ∷ xs) ys none = none_after net marks xs ys none

changed_none : (node first count : ℕ) → AreNone (changed node first count)
changed_none node first zero = tt
changed_none node first (suc count) = (tt, changed_none node (first + 1) count)

done_none : (heading : Heading) (number status : ℕ) (dead : Option (ℕ × ℕ)) → AreNone (done_of heading number status dead)
done_none Outward number status dead = (tt, tt)
done_none Homeward number status dead = tt

abbrev Hears_so : AirState → AirState → List AirEvent → Type 0
Hears_so old new events = (shown : List Passage) (marks : ℕ) → HasPassages shown old.frames → marks ≡ old.losing → NotHome old.joined → Answered old.network shown marks new events

-- nothing is sent
none_answered : (net : Network) (shown : List Passage) (marks : ℕ) (later : AirState) (events : List AirEvent) → AreNone events → marks ≡ later.losing → HasPassages shown later.frames
    → Answered net shown marks later events
none_answered net shown marks later events none left has =
    let sent = none_sent net marks events none in
    record {
      sent = subst (λ (l : List Passage). HasPassages l later.frames) (sym (ap (λ (l : List Passage). shown ++ l) sent.0 ∙ append-nil shown)) has;
      left = ap (λ (k : ℕ). marks - k) sent.1 ∙ omega (arith, left);
      own = none_own events none;
    }

at_place : (base : Mesh) (place number node : ℕ) (found : Option State) (route : Option Route) (event : DeviceEvent) (end : List AirEvent) → AreNone end → IsRoute base.air.network node route
    → Hears_so base.air (heard_at base place found node route event).air (outs_at base found number node route event ++ end)
at_place base place number node None route event end none way shown marks has left home = none_answered base.air.network shown marks base.air end none left has
at_place base place number node (Some device) route event end none way shown marks has left home =
    let air : AirState = base.air in
    let count : ℕ = length (device_after device event).journal - length device.journal in
    let first : List AirEvent = changed node (length device.journal) count in
    let replies : List AirEvent = answers_if (is_joined air node) air node (option_map backwards route) (device_replies device event) in
    let got = answers_if_all air.network (is_joined air node) shown marks air node route (device_replies device event) refl home (has_way air.network node (device_replies device event) route way) left has in
    let changes = changed_none node (length device.journal) count in
    let after = none_after air.network marks (air_event.Heard number ∷ first ++ replies) end none in
    let before = none_before air.network marks first replies changes in
    record {
      sent = subst (λ (l : List Passage). HasPassages (shown ++ l) (heard_at base place (Some device) node route event).air.frames) (sym (after.0 ∙ before.0)) got.sent;
      left = ap (λ (k : ℕ). marks - k) (after.1 ∙ before.1) ∙ got.left;
      own = all-append IsOwn (air_event.Heard number ∷ first ++ replies) end (tt, all-append IsOwn first replies (none_own first changes) got.own) (none_own end none);
    }

lands : (air : AirState) (events : List AirEvent) → air.frames.landed < air.frames.sent → AreNone events → Hears_so air (landed air) events
lands air events flying none shown marks has left home = none_answered air.network shown marks (landed air) events none left (land_passage shown air.frames flying has)

arrives_as : (m : Mesh) (frame : Flown) (x : Fate) (drawn : List ℕ) (route : Option Route) → m.air.frames.landed < m.air.frames.sent → MayArrive m frame x route
    → Hears_so m.air (arriving_as m frame x drawn route).air (arrival_outs_as m (m.air.frames.landed + 1) frame x drawn route)
arrives_as m frame fate.Lost drawn route flying may shown marks has left home = lands m.air _ flying (tt, done_none frame.heading (m.air.frames.landed + 1) 1 None) shown marks has left home
arrives_as m frame (fate.Dead from to) drawn route flying may shown marks has left home =
    lands m.air _ flying (tt, done_none frame.heading (m.air.frames.landed + 1) 1 (Some (from, to))) shown marks has left home
arrives_as m frame fate.Missed drawn route flying may shown marks has left home = lands m.air _ flying (tt, done_none frame.heading (m.air.frames.landed + 1) 1 None) shown marks has left home
arrives_as m frame fate.AtChip drawn route flying may shown marks has left home = lands m.air _ flying (tt, (tt, tt)) shown marks has left home
arrives_as m frame (fate.AtDevice place) drawn route flying may shown marks has left home =
    let base : Mesh = record { air = landed (acknowledged m.air); devices = m.devices } in
    let got = at_place base place (m.air.frames.landed + 1) frame.node (slice_get m.devices place) route (Hears frame.payload drawn)
    (air_event.Done (m.air.frames.landed + 1) (status_of m.air) None ∷ []) (tt, tt) may shown marks (land_passage shown m.air.frames flying has) left home in
    record { sent = got.sent; left = got.left; own = got.own }

again_place : (m : Mesh) (place : Option ℕ) (number node : ℕ) (route : Option Route) (event : DeviceEvent) → MayHearAgain m.air node place route
    → Hears_so m.air (heard_again m place node route event).air (outs_again m place number node route event)
again_place m None number node route event may shown marks has left home = answered_none m.air.network shown marks m.air left has
again_place m (Some place) number node route event may shown marks has left home =
    subst (λ (l : List AirEvent). Answered m.air.network shown marks (heard_at m place (slice_get m.devices place) node route event).air l)
    (append-nil (outs_at m (slice_get m.devices place) number node route event))
    (at_place m place number node (slice_get m.devices place) route event [] tt may shown marks has left home)

again_by : (m : Mesh) (heading : Heading) (number : ℕ) (frame : Flown) (drawn : List ℕ) (route : Option Route) → MayRepeatBy heading m frame route
    → Hears_so m.air (repeating_by heading m frame drawn route).air (repeat_outs_by heading m number frame drawn route)
again_by m Homeward number frame drawn route may shown marks has left home = none_answered m.air.network shown marks m.air _ (tt, (tt, tt)) left has
again_by m Outward number frame drawn route may shown marks has left home = again_place m (listener_of frame.node m.devices) number frame.node route (Hears frame.payload drawn) may shown marks has left home

again_if : (m : Mesh) (number : ℕ) (found : Option Flown) (drawn : List ℕ) (route : Option Route) → MayRepeat m found route
    → Hears_so m.air (repeating m found drawn route).air (repeat_outs m number found drawn route)
again_if m number None drawn route may shown marks has left home = absurd may
again_if m number (Some frame) drawn route may shown marks has left home = again_by m frame.heading number frame drawn route may shown marks has left home

arrives_if : (m : Mesh) (found : Option Flown) (drawn : List ℕ) (route : Option Route) → next_of m.air.frames ≡ found → MayArriveIf m found route
    → Hears_so m.air (arriving m found drawn route).air (arrival_outs m found drawn route)
arrives_if m None drawn route next may shown marks has left home = absurd may
arrives_if m (Some frame) drawn route next may shown marks has left home =
    arrives_as m frame (fate_of m.air.network m.devices frame) drawn route (next_passage shown m.air.frames frame has next).0 may shown marks has left home

step_sends : (m : Mesh) (step : AirStep) → IsHearing step → MayHappen m step → Hears_so m.air (mesh_after m step).air (mesh_outs m step)
unfolding mesh_after mesh_outs MayHappen
step_sends m (mesh.Arrives drawn route) hearing may = arrives_if m (next_of m.air.frames) drawn route refl may.0
step_sends m (mesh.Repeats number drawn route) hearing may = again_if m number (remembered m.air.frames number) drawn route may.1
step_sends m step hearing may = absurd hearing

-- ---- what is told

-- a frame that is told is entered as it comes
entered_next : (net : Network) (past : List Entry) (frame from to : ℕ) (over payload : List ℕ) → HasLinks net (air_links past) → from ≢ controller
    → passage_at past (entry.Air frame from to over payload) ≡ coming_next net (marks_left past) from to over ∷ []
entered_next net past frame from to over payload hears apart =
    ap (λ (b : Bool). record { sender = from; receiver = to; over = over; lost = nat_lt 0 (marks_left past) || b } ∷ []) (no_way_is net (air_links past) hears from over to apart)

-- and so are all of them, in their order
record Enters (net : Network) (past : List Entry) (events : List AirEvent) : Type 0 where
  pub shown : shown_after passage_at past (flat_map sent_entries events) ≡ coming net (marks_left past) events
  pub marks : marks_left (past ++ flat_map sent_entries events) ≡ marks_left past - sent_in events
  pub links : air_links (past ++ flat_map sent_entries events) ≡ air_links past

entered_all : (net : Network) (past : List Entry) (events : List AirEvent) → HasLinks net (air_links past) → AllByRecursion IsOwn events → Enters net past events
entered_all net past [] hears own = record { shown = refl; marks = ap marks_left (append-nil past) ∙ omega arith; links = ap air_links (append-nil past) }
entered_all net past (air_event.Heard frame ∷ events) hears own = let rest = entered_all net past events hears own.1 in record { shown = rest.shown; marks = rest.marks; links = rest.links }
entered_all net past (air_event.Lost frame ∷ events) hears own = let rest = entered_all net past events hears own.1 in record { shown = rest.shown; marks = rest.marks; links = rest.links }
entered_all net past (air_event.Unheard frame ∷ events) hears own = let rest = entered_all net past events hears own.1 in record { shown = rest.shown; marks = rest.marks; links = rest.links }
entered_all net past (air_event.Sent frame from to route payload ∷ events) hears own =
    let one : Entry = entry.Air frame from to (shown_via route) payload in
    let links : air_links (past ++ one ∷ []) ≡ air_links past = air_same past frame from to (shown_via route) payload in
    let marks : marks_left (past ++ one ∷ []) ≡ marks_left past - 1 = marks_grow past one in
    let rest = entered_all net (past ++ one ∷ []) events (subst (HasLinks net) (sym links) hears) own.1 in
    let told : List Entry = flat_map sent_entries events in
    let left = rest.marks in
    record {
      shown = ap₂ (λ (a b : List Passage). a ++ b) (entered_next net past frame from to (shown_via route) payload hears own.0.1)
          (rest.shown ∙ ap (λ (k : ℕ). coming net k events) marks);
      marks = ap marks_left (sym (append_assoc past (one ∷ []) told)) ∙ omega (arith, left, marks);
      links = ap air_links (sym (append_assoc past (one ∷ []) told)) ∙ (rest.links ∙ links);
    }
entered_all net past (air_event.Changed node at ∷ events) hears own = let rest = entered_all net past events hears own.1 in record { shown = rest.shown; marks = rest.marks; links = rest.links }
entered_all net past (air_event.ToChip frame from payload ∷ events) hears own = let rest = entered_all net past events hears own.1 in record { shown = rest.shown; marks = rest.marks; links = rest.links }
entered_all net past (air_event.Done frame status dead ∷ events) hears own = let rest = entered_all net past events hears own.1 in record { shown = rest.shown; marks = rest.marks; links = rest.links }

begins_frames : (o : OuterState) (node sessions : ℕ) (shown : List Passage) → HasPassages shown o.air.frames → HasPassages shown (begins o.air node sessions).frames
begins_frames o node sessions shown has = by (nat_le (peer_of o.air.frames node).begun sessions)
  where
    by : (b : Bool) → HasPassages shown (if b then beginning o.air node sessions else o.air).frames
    by true = record { sent = has.sent; order = has.order; stay = has.stay; apart = has.apart }
    by false = has

-- the rest of the air stays
abbrev rest_of : AirState → List Bool × Network × ℕ
rest_of air = (air.joined, air.network, air.losing)

begins_rest : (air : AirState) (node sessions : ℕ) → rest_of (begins air node sessions) ≡ rest_of air
begins_rest air node sessions = by (nat_le (peer_of air.frames node).begun sessions)
  where
    by : (b : Bool) → rest_of (if b then beginning air node sessions else air) ≡ rest_of air
    by true = refl
    by false = refl

session_goes : (w : Outside) (node session command : ℕ) → Sends_on nothing w (entry.Begin node session command ∷ []) nothing (outside (session_begins w.outer node session command).outer w.devices)
session_goes w node session command past knows =
    let later : AirState = begins w.outer.air node session in
    let rest = begins_rest w.outer.air node session in
    let one = still nothing w w (entry.Begin node session command ∷ []) (tt, tt) (same w.outer w.outer refl refl refl refl) past knows in
    let all : List Entry = past ++ entry.Begin node session command ∷ [] in
    record {
      has = begins_frames w.outer node session (passages all ++ []) one.has;
      marks = one.marks ∙ sym (ap (λ (r : List Bool × Network × ℕ). r.2) rest);
      own = tt;
      home = subst NotHome (sym (ap (λ (r : List Bool × Network × ℕ). r.0) rest)) one.home;
      hears = subst (λ (n : Network). HasLinks n (air_links all)) (sym (ap (λ (r : List Bool × Network × ℕ). r.1) rest)) one.hears;
    }

-- an event at which no node joins, and that neither sets a link nor marks frames
abbrev pub LeavesAir : OuterEvent → Type 0
LeavesAir (Joins node) = ⊥
LeavesAir (Links a b live) = ⊥
LeavesAir (Loses count) = ⊥
LeavesAir event = Unit {0}

simple_goes : (w : Outside) (event : OuterEvent) → IsSimple event → LeavesAir event → Sends_on nothing w (outcome w event).entries nothing (outside (outcome w event).outer w.devices)
unfolding outcome
simple_goes w (Host_notes note) simple covers = still nothing w w (note ∷ []) (quiet_none note (note_quiet note simple.0), tt) (same w.outer w.outer refl refl refl refl)
simple_goes w (Joins node) simple covers = absurd covers
simple_goes w Discovers simple covers = still nothing w (outside (outcome w Discovers).outer w.devices) [] tt (same w.outer (outcome w Discovers).outer refl refl refl refl)
simple_goes w (Links a b live) simple covers = absurd covers
simple_goes w (Loses count) simple covers = absurd covers
simple_goes w (Loses_acks count) simple covers = still nothing w (outside (outcome w (Loses_acks count)).outer w.devices) [] tt (same w.outer (outcome w (Loses_acks count)).outer refl refl refl refl)
simple_goes w Collides_next simple covers = still nothing w (outside (outcome w Collides_next).outer w.devices) [] tt (same w.outer (outcome w Collides_next).outer refl refl refl refl)
simple_goes w event simple covers =
    let air = (pipes_leave w event simple).1 in
    still nothing w (outside (outcome w event).outer w.devices) (outcome w event).entries (are_none (outcome w event).entries (pipes_quiet w event simple))
    (same w.outer (outcome w event).outer (ap (λ (a : AirState). a.frames) air) (ap (λ (a : AirState). a.joined) air) (ap (λ (a : AirState). a.network) air) (ap (λ (a : AirState). a.losing) air))

-- a device does something of itself
acts_goes : (w : Outside) (device : State) (event : DeviceEvent) (route : Option Route) (later : List State) → MayAct w.outer (Some device) event route
    → Sends_on nothing w (acts w.outer device event route).entries nothing (outside (acts w.outer device event route).outer later)
acts_goes w device event route later may past knows =
    let way : Option Route = option_map backwards route in
    let replies : List (List ℕ) = device_replies device event in
    let events : List AirEvent = answers_if (is_joined w.outer.air device.node) w.outer.air device.node way replies in
    let changes : List Entry = changes_entries device.node (new_changes device event) in
    let told : List Entry = flat_map sent_entries events in
    let after : Outside = outside (acts w.outer device event route).outer later in
    let first = still nothing w w changes (are_none changes (all-weaker IsChange IsQuiet change_quiet changes (changes_entered device.node (new_changes device event)))) (same w.outer w.outer refl refl refl refl)
    past knows in
    let here : List Entry = past ++ changes in
    let net : Network = w.outer.air.network in
    let has : HasPassages (passages here) w.outer.air.frames = subst (λ (l : List Passage). HasPassages l w.outer.air.frames) (append-nil (passages here)) first.has in
    let start = first.marks in
    let got = answers_if_all net (is_joined w.outer.air device.node) (passages here) (marks_left here) w.outer.air device.node route replies refl knows.home may (omega (arith, start)) has in
    let enters = entered_all net here events first.hears got.own in
    let air = answered_if_air (is_joined w.outer.air device.node) w.outer.air device.node way replies in
    let both : here ++ told ≡ past ++ (changes ++ told) = append_assoc past changes told in
    let all : passages (here ++ told) ++ [] ≡ passages here ++ coming net (marks_left here) events
    = append-nil (passages (here ++ told)) ∙ (passages_grow here told ∙ ap (λ (l : List Passage). passages here ++ l) enters.shown) in
    let count = enters.marks in
    let left = got.left in
    let sent : Sends nothing (here ++ told) after = record {
      has = subst (λ (l : List Passage). HasPassages l after.outer.air.frames) (sym all) got.sent;
      marks = omega (arith, count, left);
      own = tt;
      home = subst NotHome (sym air.joined) knows.home;
      hears = subst (λ (n : Network). HasLinks n (air_links (here ++ told))) (sym air.network) (subst (HasLinks net) (sym enters.links) first.hears);
    } in
    subst (λ (l : List Entry). Sends nothing l after) both sent

-- it is no longer to be dealt with
dealt_with : (w : Outside) (event : AirEvent) (events : List AirEvent) (past : List Entry) → SendsNone event → Sends (Dealing (event ∷ events)) past w → Sends (Dealing events) past w
dealt_with w event events past none knows =
    let first = none_first w.outer.air.network (marks_left past) event events none in
    record {
      has = subst (λ (l : List Passage). HasPassages (passages past ++ l) w.outer.air.frames) first.0 knows.has;
      marks = ap (λ (k : ℕ). marks_left past - k) (sym first.1) ∙ knows.marks;
      own = knows.own.1;
      home = knows.home;
      hears = knows.hears;
    }

module _ (rules : StartsSo) where
  deals_go : (w : Outside) (event : AirEvent) (events : List AirEvent)
      → Sends_on (Dealing (event ∷ events)) w (deals w.devices w.outer event).entries (Dealing events) (outside (deals w.devices w.outer event).outer w.devices)
  deals_go w (air_event.Heard frame) events past knows =
      still (Dealing events) w w (entry.Heard frame ∷ []) (tt, tt) (same w.outer w.outer refl refl refl refl) past (dealt_with w (air_event.Heard frame) events past tt knows)
  deals_go w (air_event.Lost frame) events past knows =
      still (Dealing events) w w (entry.Lost frame ∷ []) (tt, tt) (same w.outer w.outer refl refl refl refl) past (dealt_with w (air_event.Lost frame) events past tt knows)
  deals_go w (air_event.Unheard frame) events past knows =
      still (Dealing events) w w (entry.Unheard frame ∷ []) (tt, tt) (same w.outer w.outer refl refl refl refl) past (dealt_with w (air_event.Unheard frame) events past tt knows)
  deals_go w (air_event.Sent frame from to route payload) events past knows =
      let net : Network = w.outer.air.network in
      let one : Entry = entry.Air frame from to (shown_via route) payload in
      let links : air_links (past ++ one ∷ []) ≡ air_links past = air_same past frame from to (shown_via route) payload in
      let marks : marks_left (past ++ one ∷ []) ≡ marks_left past - 1 = marks_grow past one in
      let next : Passage = coming_next net (marks_left past) from to (shown_via route) in
      let all : passages (past ++ one ∷ []) ++ coming net (marks_left (past ++ one ∷ [])) events ≡ passages past ++ (next ∷ coming net (marks_left past - 1) events)
      = ap₂ (λ (l : List Passage) (k : ℕ). l ++ coming net k events)
      (passages_grow past (one ∷ []) ∙ ap (λ (l : List Passage). passages past ++ (l ++ [])) (entered_next net past frame from to (shown_via route) payload knows.hears knows.own.0.1)) marks
      ∙ append_assoc (passages past) (next ∷ []) (coming net (marks_left past - 1) events) in
      let left = knows.marks in
      record {
        has = subst (λ (l : List Passage). HasPassages l w.outer.air.frames) (sym all) knows.has;
        marks = omega (arith, marks, left);
        own = knows.own.1;
        home = knows.home;
        hears = subst (HasLinks net) (sym links) knows.hears;
      }
  deals_go w (air_event.Changed node at) events past knows =
      let change : Option Change = change_at (device_at w.devices (place_of node w.devices)) at in
      still (Dealing events) w w (change_entries node change) (are_none (change_entries node change) (all-weaker IsChange IsQuiet change_quiet (change_entries node change) (change_entered node change)))
      (same w.outer w.outer refl refl refl refl) past (dealt_with w (air_event.Changed node at) events past tt knows)
  deals_go w (air_event.ToChip frame from payload) events past knows =
      to_chip_goes (Puts w.devices (Dealing events)) (results w.devices rules (Dealing events)) w.outer from payload past (dealt_with w (air_event.ToChip frame from payload) events past tt knows)
  deals_go w (air_event.Done frame status dead) events past knows =
      ends_go (Puts w.devices (Dealing events)) (results w.devices rules (Dealing events)) w.outer status dead past (dealt_with w (air_event.Done frame status dead) events past tt knows)

  steps_go : (w : Outside) (step : AirStep) → IsHearing step → MayHappen (mesh_of w) step
      → Sends_on nothing w [] (Dealing (mesh_outs (mesh_of w) step)) (outside (record w.outer { air = (mesh_after (mesh_of w) step).air }) (mesh_after (mesh_of w) step).devices)
  steps_go w step hearing may past knows =
      let events : List AirEvent = mesh_outs (mesh_of w) step in
      let later : Outside = outside (record w.outer { air = (mesh_after (mesh_of w) step).air }) (mesh_after (mesh_of w) step).devices in
      let air = (step_hears (mesh_of w) step hearing may).air in
      let start = knows.marks in
      let got = step_sends (mesh_of w) step hearing may (passages past) (marks_left past)
      (subst (λ (l : List Passage). HasPassages l w.outer.air.frames) (append-nil (passages past)) knows.has) (omega (arith, start)) knows.home in
      subst (λ (l : List Entry). Sends (Dealing events) l later) (sym (append-nil past)) (record {
        has = subst (λ (n : Network). HasPassages (passages past ++ coming n (marks_left past) events) later.outer.air.frames) (sym air.network) got.sent;
        marks = got.left;
        own = got.own;
        home = subst NotHome (sym air.joined) knows.home;
        hears = subst (λ (n : Network). HasLinks n (air_links past)) (sym air.network) knows.hears;
      })

  still_same : (w later : Outside) → IsSameFrames w.outer later.outer → (past : List Entry) → Sends nothing past w → Sends nothing past later
  still_same w later is past knows = subst (λ (l : List Entry). Sends nothing l later) (append-nil past) (still nothing w later [] tt is past knows)

  -- the same, as items are judged
  as_judging : (ways : List (Item × Option Route)) (past : List Entry) (w : Outside) → Sends nothing past w → Sends (Judging ways) past w
  as_judging ways past w knows = record { has = knows.has; marks = knows.marks; own = tt; home = knows.home; hears = knows.hears }

  as_judged : (ways : List (Item × Option Route)) (past : List Entry) (w : Outside) → Sends (Judging ways) past w → Sends nothing past w
  as_judged ways past w knows = record { has = knows.has; marks = knows.marks; own = tt; home = knows.home; hears = knows.hears }

  judging : (w : Outside) (way : Item × Option Route) (ways : List (Item × Option Route)) → MayOfChip w.outer.chip.state (Judged way.0 way.1)
      → Sends_on (Judging (way ∷ ways)) w (chip_does w.outer (Judged way.0 way.1)).entries (Judging ways) (outside (chip_does w.outer (Judged way.0 way.1)).outer w.devices)
  judging w way ways may past knows =
      as_judging ways (past ++ (chip_does w.outer (Judged way.0 way.1)).entries) (outside (chip_does w.outer (Judged way.0 way.1)).outer w.devices)
      (does_goes w.devices w.outer (Judged way.0 way.1) (judged_over rules w.outer.chip.state way.0 way.1 may) past (as_judged (way ∷ ways) past w knows))

  pub sending_law : Outer Anything KnowsSends LeavesAir
  sending_law = record {
    line = λ covers awaits past w knows. let o : OuterState = record w.outer { in_tick = false } in still_same w (outside o w.devices) (same w.outer o refl refl refl refl) past knows;
    tick = λ covers awaits past w knows.
        let o : OuterState = record w.outer { clock = w.outer.clock + 1; in_tick = true; stamped = false } in (tt, still_same w (outside o w.devices) (same w.outer o refl refl refl refl) past knows);
    number = λ past w knows. still nothing w w (entry.Time w.outer.clock ∷ []) (tt, tt) (same w.outer w.outer refl refl refl refl) past knows;
    stamps = λ awaits stamped past w knows. let o : OuterState = record w.outer { stamped = stamped } in still_same w (outside o w.devices) (same w.outer o refl refl refl refl) past knows;
    simple = λ w event simple joins. moves nothing nothing w (outside (outcome w event).outer w.devices) (outcome w event).entries (simple_goes w event simple joins);
    session = λ w node session command.
        moves nothing nothing w (outside (session_begins w.outer node session command).outer w.devices) (entry.Begin node session command ∷ []) (session_goes w node session command);
    takes = λ w count rest ways may. taken w count rest ways;
    judges = λ w way ways may.
        let x : Outcome = chip_does w.outer (Judged way.0 way.1) in moves (Judging (way ∷ ways)) (Judging ways) w (outside x.outer w.devices) x.entries (judging w way ways may);
    judged = λ awaits past w knows. as_judged [] past w knows;
    ticks = λ w. ticks_go w;
    gives = λ w route may.
        let x : Outcome = gives w.outer w.devices w.outer.due route in
        moves nothing nothing w (outside x.outer w.devices) x.entries (gives_go (Puts w.devices nothing) (results w.devices rules nothing) w.outer w.devices w.outer.due route);
    steps = λ w step hearing may.
        let mesh : Mesh = mesh_after (mesh_of w) step in
        moves nothing (Dealing (mesh_outs (mesh_of w) step)) w (outside (record w.outer { air = mesh.air }) mesh.devices) [] (steps_go w step hearing may);
    deals = λ w event events.
        let x : Outcome = deals w.devices w.outer event in moves (Dealing (event ∷ events)) (Dealing events) w (outside x.outer w.devices) x.entries (deals_go w event events);
    acts = λ w place device event route found may.
        let later : List State = slice_set w.devices place (device_after device event) in
        let x : Outcome = acts w.outer device event route in
        moves nothing nothing w (outside x.outer later) x.entries (acts_goes w device event route later may);
  }
    where
      taken : (w : Outside) (count : ℕ) (rest : Rest) (ways : List (Item × Option Route))
          → Moves Anything (KnowsSends nothing) w [] (KnowsSends (Judging ways))
          (outside (record w.outer { to_chip = way_after w.outer.to_chip (Takes count); chip = record { decoder = rest; state = w.outer.chip.state } }) w.devices)
      taken w count rest ways =
          let o : OuterState = record w.outer { to_chip = way_after w.outer.to_chip (Takes count); chip = record { decoder = rest; state = w.outer.chip.state } } in
          moves nothing (Judging ways) w (outside o w.devices) [] (λ past knows. as_judging ways (past ++ []) (outside o w.devices) (still nothing w (outside o w.devices) [] tt (same w.outer o refl refl refl refl) past knows))

      ticks_go : (w : Outside) → Moves Anything (KnowsSends nothing) w (chip_ticks w.outer).entries (KnowsSends nothing) (outside (chip_ticks w.outer).outer w.devices)
      ticks_go w =
          let o : OuterState = record w.outer { chip = record { decoder = after_tick w.outer.chip.decoder; state = w.outer.chip.state } } in
          moves nothing nothing w (outside (chip_ticks w.outer).outer w.devices) (chip_ticks w.outer).entries
          (both nothing nothing nothing w (outside o w.devices) (outside (chip_ticks w.outer).outer w.devices) [] (chip_ticks w.outer).entries
          (still nothing w (outside o w.devices) [] tt (same w.outer o refl refl refl refl)) (does_quietly w.devices rules nothing o Ticked refl))
