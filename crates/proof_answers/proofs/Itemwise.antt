-- What the chip takes at once: each item that it judges keeps that what it was given is what it has for its host, and so do all.
use Rattle.std.proofs.Common.{◌≡◌, ◌⊎◌, ℕ, ◌&&◌, not, Bool, true, false, if◌then◌else◌, inl, inr, List, [], ◌∷◌, ◌++◌, refl, sym, ap, ap₂, ◌∙◌, subst, append-nil, append_assoc}
use Rattle.std.specs.Prelude.{Option, Some, None}
use Rattle.zw_base.proofs.Each.{all-weaker}
use Rattle.serial_frame.specs.Frame.{FrameParts}
use Rattle.serial_frame.specs.Stream.{Rest}
use Rattle.serial_frame.specs.declared.item.Item.{Item}
use Rattle.serial_frame.specs.declared.item.Item.TheVariants.{Good}
use Rattle.serial_frame.specs.declared.unit.Unit.TheVariants.{Framed}
use Rattle.serial_link.specs.Rules.{Step}
use Rattle.serial_pipes.specs.Events.{Takes}
use Rattle.serial_pipes.specs.Events as way
use Rattle.route_table.specs.Network.{Link, Network, linked}
use Rattle.route_table.specs.declared.route.Route.{Route}
use Rattle.chip_functions.specs.declared.request.Request.{Request}
use Rattle.chip_functions.specs.declared.request.Request.TheVariants.{GetInitData, GetCapabilities, SendData, GetVersion, SendDataAbort, MemoryGetId, GetNodeProtocolInfo, AddNode, RequestNodeInfo, IsFailedNode, GetRoutingInfo}
use Rattle.chip_sim.specs.Nodes.{is_marked}
use Rattle.chip_sim.specs.State.{ChipState}
use Rattle.chip_sim.specs.Answers.{takes as takes_of}
use Rattle.chip_sim.specs.Requests.{asked as asked_of, given_if, heard, judged_frame, passed, reply_to, requested, stopped}
use Rattle.chip_sim.specs.Did.{MayAll, judged_all}
use Rattle.chip_sim.specs.Events.{ChipEvent, Judged, after, collides, outs}
use Rattle.chip_sim.specs.Link.{link_steps}
use Rattle.chip_sim.specs.Rules.{judged_posts, over, posts}
use Rattle.chip_sim.specs.declared.out.Sending.{Sending as SendingParts}
use Rattle.zw_text.specs.declared.entry.Entry.{Entry}
use Rattle.zw_text.specs.declared.entry.Entry.TheVariants as entry
use Rattle.law_transcript.specs.Lists.{EachAfter}
use Rattle.law_wire.specs.Asked.{Course, clock_of, course_of}
use Rattle.law_wire.specs.Networks.{are_linked, listens_at}
use Rattle.law_wire.specs.Given.{given_at}
use Rattle.law_wire.specs.Results.{settled_clock}
use Rattle.law_wire.specs.Answering.{MayAnswer}
use Rattle.outside_model.specs.Devices.{State}
use Rattle.outside_model.specs.State.{OuterState, Outcome, Outside, each, with_chip}
use Rattle.outside_model.specs.Chip.{MayTake, chip_does}
use Rattle.outside_model.specs.Events.{Chip_takes, entries, happens, has_entered, outcome, stamp, ticked_entry}
use Rattle.proof_devices.proofs.Times.{each_keeps, does_chip, does_time, time_of}
use Rattle.proof_chip.proofs.Parts.{Laws}
use Rattle.proof_devices.proofs.Books.{same_joined}
use Rattle.proof_chip.specs.Serving.{GoesOn, Serves, as_given}
use Rattle.proof_chip.specs.Sending.{Agrees, AirSo, AreNow, ItemsSo}
use Rattle.proof_chip.specs.Tally.{TallyNow, TallySo, outlook}
use Rattle.proof_chip.proofs.Airing.{IsNoAck, answer}
use Rattle.proof_chip.proofs.Answered.{GivesNone}
use Rattle.proof_chip.proofs.Going.{apart_goes}
use Rattle.proof_chip.proofs.Items.{Now, number_puts, one_item, quiet_rests}
use Rattle.proof_chip.proofs.Putting.{Puts}
use Rattle.proof_chip.proofs.Judged.{decided, goes_back, judged_nodes, none_passed, passed_at, put_shows, gives_no_ack}
use Rattle.proof_chip.proofs.Judges.{both_none, item_keeps, items_of, items_same, silent_item}
use Rattle.proof_chip.proofs.Keeping.{number_apart}
use Rattle.proof_chip.proofs.Passing.{ShowsNone, shown_all}
use Rattle.proof_chip.proofs.Quieting.{IsUnanswered}
use Rattle.proof_chip.proofs.Requesting.{answered_answers, is_answered}
use Rattle.proof_chip.proofs.Growing.{serves_event}
use Rattle.proof_chip.proofs.Tallied.{chip_idle, now_number_t}
use Rattle.proof_chip.proofs.Telling.{IsPut, puts_put}
use Rattle.proof_answers.specs.Telling.{TellSo, TellsNow}
use Rattle.proof_answers.proofs.Accounts.{Grows, event_grows}
use Rattle.proof_answers.proofs.Judging.{KnowsChip, has_before, leaves, reply, tells_then}
use Rattle.proof_answers.proofs.Moving.{map_so, now_numbered, now_on, now_settled, silent_on}
use Rattle.proof_answers.proofs.Standing.{SameOwing, now_as}

-- ---- what the chip knows of nodes

stopped_listening : (x : Option SendingParts) (s : ChipState) → (stopped x s).listening ≡ s.listening
stopped_listening None s = refl
stopped_listening (Some parts) s = refl

given_listening : (r : Option FrameParts) (s : ChipState) → (given_if s r).listening ≡ s.listening
given_listening None s = refl
given_listening (Some f) s = refl

requested_listening : (r : Option Request) (s : ChipState) → (requested r s).listening ≡ s.listening
requested_listening None s = refl
requested_listening (Some (SendData node payload options id)) s = by (takes_of s node payload)
  where
    kept : ChipState
    kept = given_if s (reply_to s (SendData node payload options id))

    by : (b : Bool) → (if b then record kept { sending = Some (record { node = node; callback_id = id }) } else kept).listening ≡ s.listening
    by true = refl
    by false = refl
requested_listening (Some SendDataAbort) s =
    stopped_listening (given_if s (reply_to s SendDataAbort)).sending (given_if s (reply_to s SendDataAbort)) ∙ given_listening (reply_to s SendDataAbort) s
requested_listening (Some GetInitData) s = refl
requested_listening (Some GetCapabilities) s = refl
requested_listening (Some GetVersion) s = refl
requested_listening (Some MemoryGetId) s = refl
requested_listening (Some (GetNodeProtocolInfo node)) s = refl
requested_listening (Some (AddNode mode id)) s = refl
requested_listening (Some (RequestNodeInfo node)) s = refl
requested_listening (Some (IsFailedNode node)) s = refl
requested_listening (Some (GetRoutingInfo node a b c)) s = refl

judged_listening : (found : Option FrameParts) (s : ChipState) → (judged_frame found s).listening ≡ s.listening
judged_listening None s = refl
judged_listening (Some f) s = requested_listening (asked_of f) s

still_known : (devices : List State) (past : List Entry) (o : OuterState) (item : Item) (route : Option Route) → KnowsChip devices past o.chip.state
    → KnowsChip devices (past ++ (chip_does o (Judged item route)).entries) (chip_does o (Judged item route)).outer.chip.state
unfolding chip_does
still_known devices past o item route knows =
    let e : ChipEvent = Judged item route in
    let s : ChipState = heard o.chip.state item in
    let found : Option FrameParts = passed (collides o.chip.state) item in
    let entered : List Entry = (chip_does o e).entries in
    let shown = shown_all entered past (all-weaker IsPut ShowsNone put_shows entered (puts_put (outs o.chip.state e) (with_chip o (after o.chip.state e)))) in
    record {
      listening = λ node.
          ap (λ (l : List Bool). is_marked l node) (ap (λ (c : ChipState). c.listening) (does_chip o e) ∙ judged_listening found s)
          ∙ (knows.listening node ∙ sym (ap (λ (b : Bool). listens_at devices node && b) (same_joined (past ++ entered) past shown node)));
      hears = λ a b.
          ap (λ (net : Network). linked net a b) (ap (λ (c : ChipState). c.table) (does_chip o e) ∙ (judged_nodes found s).1)
          ∙ (knows.hears a b ∙ sym (ap (λ (l : List Link). are_linked l a b) shown.chip));
    }

-- ---- one item

module _ (devices : List State) (laws : Laws) where
  abbrev Told : List Step → List Entry → OuterState → Type 0
  Told did past o = TellSo (TellsNow devices o) did past o.chip.state.port

  posts_none : (o : OuterState) (item : Item) (route : Option Route) → IsUnanswered (collides o.chip.state) (Judged item route) → posts o.chip.state (Judged item route) ≡ []
  posts_none o item route none = ap (λ (found : Option FrameParts). judged_posts found (heard o.chip.state item)) (none_passed (collides o.chip.state) item route none)

  quiet_grows : (did : List Step) (o : OuterState) (item : Item) (route : Option Route) → IsUnanswered (collides o.chip.state) (Judged item route) → (past : List Entry) (frames : List FrameParts)
      → Serves did frames past o.chip.state.port
      → Grows devices did frames past (chip_does o (Judged item route)).outer.chip.state.port (chip_does o (Judged item route)).entries (link_steps o.chip.state (Judged item route)) []
  unfolding chip_does
  quiet_grows did o item route none past frames serves =
      let e : ChipEvent = Judged item route in
      subst (λ (l : List FrameParts). Grows devices did frames past (chip_does o e).outer.chip.state.port (chip_does o e).entries (link_steps o.chip.state e) l) (posts_none o item route none)
      (event_grows devices did frames past o e (chip_idle o e none) serves)

  quiet_owing : (o : OuterState) (item : Item) (route : Option Route) → IsUnanswered (collides o.chip.state) (Judged item route) → SameOwing o (chip_does o (Judged item route)).outer
  quiet_owing o item route none =
      let e : ChipEvent = Judged item route in
      let s : ChipState = heard o.chip.state item in
      let state = does_chip o e ∙ ap (λ (found : Option FrameParts). judged_frame found s) (none_passed (collides o.chip.state) item route none) in
      let rests = quiet_rests o item route none in
      record {
        clock = ap (λ (t : Bool × Bool × ℕ). t.2) (does_time o e);
        sending = ap (λ (c : ChipState). c.sending) state;
        failing = ap (λ (c : ChipState). c.failing) state;
        calls = rests.calls;
        due = rests.due;
      }

  quiet_told : (did : List Step) (past : List Entry) (o : OuterState) (item : Item) (route : Option Route) → IsUnanswered (collides o.chip.state) (Judged item route) → settled_clock past ≡ o.clock → Told did past o
      → Told (did ++ link_steps o.chip.state (Judged item route)) (past ++ (chip_does o (Judged item route)).entries) (chip_does o (Judged item route)).outer
  unfolding chip_does
  quiet_told did past o item route none settled so =
      let e : ChipEvent = Judged item route in
      let p : OuterState = (chip_does o e).outer in
      map_so devices (TellsNow devices o) (TellsNow devices p) (λ frames course all was. now_as devices o p (quiet_owing o item route none) frames course all was) (did ++ link_steps o.chip.state e) (past ++ (chip_does o e).entries)
      p.chip.state.port
      (now_on devices o did (link_steps o.chip.state e) past (chip_does o e).entries o.chip.state.port p.chip.state.port (chip_idle o e none) settled (quiet_grows did o item route none past) so)

  silent_told : (did : List Step) (past : List Entry) (o : OuterState) (item : Item) (route : Option Route) → (chip_does o (Judged item route)).entries ≡ [] → Told did past o
      → Told (did ++ link_steps o.chip.state (Judged item route)) past (chip_does o (Judged item route)).outer
  silent_told did past o item route none so =
      let e : ChipEvent = Judged item route in
      let p : OuterState = (chip_does o e).outer in
      let quiet = silent_item devices o item route none in
      subst (λ (l : List Entry). Told (did ++ link_steps o.chip.state e) l p) (append-nil past)
      (map_so devices (TellsNow devices o) (TellsNow devices p) (λ frames course all was. now_as devices o p (quiet_owing o item route quiet) frames course all was) (did ++ link_steps o.chip.state e) (past ++ []) p.chip.state.port
      (silent_on devices (TellsNow devices o) did (link_steps o.chip.state e) past o.chip.state.port p.chip.state.port
      (λ frames serves.
      subst (λ (l : List Entry). Grows devices did frames past p.chip.state.port l (link_steps o.chip.state e) []) none (quiet_grows did o item route quiet past frames serves)) so))

  answered_told : (did : List Step) (past : List Entry) (o : OuterState) (f : FrameParts) (route : Option Route) → collides o.chip.state ≡ false → ItemsSo devices did past o → Puts past o
      → KnowsChip devices past o.chip.state → settled_clock past ≡ o.clock → settled_clock (past ++ (chip_does o (Judged (Good (Framed f)) route)).entries) ≡ o.clock → Told did past o
      → Told (did ++ link_steps o.chip.state (Judged (Good (Framed f)) route)) (past ++ (chip_does o (Judged (Good (Framed f)) route)).entries) (chip_does o (Judged (Good (Framed f)) route)).outer
  unfolding chip_does
  answered_told did past o f route free items puts knows settled settled_then (frames, serves, are) =
      let e : ChipEvent = Judged (Good (Framed f)) route in
      let p : OuterState = (chip_does o e).outer in (
        frames ++ posts o.chip.state e,
        subst (λ (s : ChipState). Serves (did ++ link_steps o.chip.state e) (frames ++ posts o.chip.state e) (past ++ (chip_does o e).entries) s.port) (sym (does_chip o e)) (serves_event did frames past o e serves),
        λ course goes. by course goes (are course (goes_back did (link_steps o.chip.state e) course goes)),
      )
    where
      at : clock_of past ≡ o.clock
      at = let (held, held_serves, brings, ties) = items in ties.agrees.clock

      time : (chip_does o (Judged (Good (Framed f)) route)).outer.clock ≡ o.clock
      time = ap (λ (t : Bool × Bool × ℕ). t.2) (does_time o (Judged (Good (Framed f)) route))

      by : (course : Course) → GoesOn (course_of (did ++ link_steps o.chip.state (Judged (Good (Framed f)) route))) course → TellsNow devices o frames course past
          → TellsNow devices (chip_does o (Judged (Good (Framed f)) route)).outer (frames ++ posts o.chip.state (Judged (Good (Framed f)) route)) course (past ++ (chip_does o (Judged (Good (Framed f)) route)).entries)
      by course goes was =
          let e : ChipEvent = Judged (Good (Framed f)) route in
          let p : OuterState = (chip_does o e).outer in
          let passes = passed_at did frames past o serves route f free course goes in
          let stands = is_answered devices did frames past o f route serves course goes free in
          let none = stands.none in
          let no_ack = all-weaker GivesNone IsNoAck gives_no_ack stands.rest none in
          let replied : given_at devices course past answer ≡ as_given (posts o.chip.state e) =
          reply devices laws did past o f route free items puts knows settled at course goes frames was passes
          ∙ ap as_given (sym (ap (λ (b : Bool). judged_posts (passed b (Good (Framed f))) (heard o.chip.state (Good (Framed f)))) free)) in
          let later : settled_clock (past ++ answer ∷ stands.rest) ≡ o.clock = ap (λ (l : List Entry). settled_clock (past ++ l)) (sym stands.is) ∙ settled_then in
          let left = leaves devices laws did past o f route free items puts knows settled at course goes frames was passes stands.rest none no_ack stands.is in
          let has = has_before devices o p course past stands.rest f passes none no_ack settled later time frames (posts o.chip.state e) replied was.tells in
          let turns = answered_answers devices did frames past o f route serves course goes free has replied in
          subst (λ (l : List Entry). TellsNow devices p (frames ++ posts o.chip.state e) course (past ++ l)) (sym stands.is)
          (tells_then devices o p course past stands.rest f passes none no_ack settled later time frames (posts o.chip.state e) replied
          (subst (λ (l : List Entry). EachAfter (MayAnswer devices course) past l) stands.is turns) left.owes left.goes_under left.fails was)

  abbrev Goes : List Step → List Entry → OuterState → Option Route → Item → Type 0
  Goes did past o route i =
      settled_clock (past ++ (chip_does o (Judged i route)).entries) ≡ (chip_does o (Judged i route)).outer.clock
      → Told (did ++ link_steps o.chip.state (Judged i route)) (past ++ (chip_does o (Judged i route)).entries) (chip_does o (Judged i route)).outer

  item_told : (did : List Step) (past : List Entry) (o : OuterState) (item : Item) (route : Option Route) → ItemsSo devices did past o → Puts past o → KnowsChip devices past o.chip.state → settled_clock past ≡ o.clock → Told did past o
      → settled_clock (past ++ (chip_does o (Judged item route)).entries) ≡ (chip_does o (Judged item route)).outer.clock
      → Told (did ++ link_steps o.chip.state (Judged item route)) (past ++ (chip_does o (Judged item route)).entries) (chip_does o (Judged item route)).outer
  item_told did past o item route items puts knows settled so = by (decided (collides o.chip.state) item route)
    where
      by : IsUnanswered (collides o.chip.state) (Judged item route) ⊎ ((f : FrameParts) × (item ≡ Good (Framed f)) × (collides o.chip.state ≡ false)) → Goes did past o route item
      by (inl none) = λ settled_then. quiet_told did past o item route none settled so
      by (inr (f, same, free)) =
          subst (λ (i : Item). Goes did past o route i) (sym same)
          (λ settled_then. answered_told did past o f route free items puts knows settled (settled_then ∙ ap (λ (t : Bool × Bool × ℕ). t.2) (does_time o (Judged (Good (Framed f)) route))) so)

  -- ---- all of them

  none_told : (did : List Step) (past : List Entry) (o : OuterState) → Told did past o → Told (did ++ []) (past ++ []) o
  none_told did past o so = subst (λ (l : List Step). Told l (past ++ []) o) (sym (append-nil did)) (subst (λ (l : List Entry). Told did l o) (sym (append-nil past)) so)

  all_told : (did : List Step) (ways : List (Item × Option Route)) (past : List Entry) (o : OuterState) → MayAll o.chip.state (judged_all ways) → ItemsSo devices did past o → Puts past o → KnowsChip devices past o.chip.state
      → Now devices false did past o → Told did past o
      → Told (did ++ over link_steps o.chip.state (judged_all ways)) (past ++ (each chip_does o (judged_all ways)).entries) (each chip_does o (judged_all ways)).outer
  all_told did [] past o may items puts knows tally so = none_told did past o so
  all_told did (one ∷ ways) past o may items puts knows tally so =
      let e : ChipEvent = Judged one.0 one.1 in
      let first : Outcome = chip_does o e in
      let rest : Outcome = each chip_does first.outer (judged_all ways) in
      let now : List Step = did ++ link_steps o.chip.state e in
      let counted = one_item devices laws did past o one.0 one.1 items puts tally in
      let here = item_told did past o one.0 one.1 items puts knows (now_settled devices o did past o.chip.state.port tally) so (now_settled devices first.outer now (past ++ first.entries) first.outer.chip.state.port counted.0) in
      let got = all_told now ways (past ++ first.entries) first.outer (subst (λ (s : ChipState). MayAll s (judged_all ways)) (sym (does_chip o e)) may.1)
      (item_keeps devices did past o one.0 one.1 may.0 items) counted.1 (still_known devices past o one.0 one.1 knows) counted.0 here in
      let is : now ++ over link_steps first.outer.chip.state (judged_all ways) ≡ did ++ over link_steps o.chip.state (judged_all (one ∷ ways)) =
      ap (λ (s : ChipState). now ++ over link_steps s (judged_all ways)) (does_chip o e) ∙ append_assoc did (link_steps o.chip.state e) (over link_steps (after o.chip.state e) (judged_all ways)) in
      subst (λ (l : List Step). Told l (past ++ (each chip_does o (judged_all (one ∷ ways))).entries) rest.outer) is
      (subst (λ (l : List Entry). Told (now ++ over link_steps first.outer.chip.state (judged_all ways)) l rest.outer) (append_assoc past first.entries rest.entries) got)

  -- where nothing is entered
  all_silent : (did : List Step) (ways : List (Item × Option Route)) (past : List Entry) (o : OuterState) → (each chip_does o (judged_all ways)).entries ≡ [] → Told did past o
      → Told (did ++ over link_steps o.chip.state (judged_all ways)) past (each chip_does o (judged_all ways)).outer
  all_silent did [] past o none so = subst (λ (l : List Step). Told l past o) (sym (append-nil did)) so
  all_silent did (one ∷ ways) past o none so =
      let e : ChipEvent = Judged one.0 one.1 in
      let first : Outcome = chip_does o e in
      let rest : Outcome = each chip_does first.outer (judged_all ways) in
      let now : List Step = did ++ link_steps o.chip.state e in
      let both = both_none first.entries rest.entries none in
      let later = all_silent now ways past first.outer both.1 (silent_told did past o one.0 one.1 both.0 so) in
      let is : now ++ over link_steps first.outer.chip.state (judged_all ways) ≡ did ++ over link_steps o.chip.state (judged_all (one ∷ ways)) =
      ap (λ (s : ChipState). now ++ over link_steps s (judged_all ways)) (does_chip o e) ∙ append_assoc did (link_steps o.chip.state e) (over link_steps (after o.chip.state e) (judged_all ways)) in
      subst (λ (l : List Step). Told l past rest.outer) is later

  -- ---- all of it, with the number of the tick

  module _ (did : List Step) (w : Outside) (count : ℕ) (rest : Rest) (ways : List (Item × Option Route)) (may : MayTake w.outer count rest ways) (past : List Entry)
      (agrees : Agrees devices (past ++ ticked_entry w.outer) w.outer) (airs : AirSo devices (AreNow w.outer) did past w.outer.chip.state.port) (puts : Puts past w.outer)
      (knows : KnowsChip devices (past ++ ticked_entry w.outer) w.outer.chip.state)
      (tally : TallySo (TallyNow devices (outlook w.outer) (w.outer.in_tick && not w.outer.stamped) 0) did past w.outer.chip.state.port) (so : TellSo (TellsNow devices w.outer) did past w.outer.chip.state.port) where
    abbrev now : List Step
    now = did ++ over link_steps w.outer.chip.state (judged_all ways)

    abbrev fed : OuterState
    fed = record w.outer { to_chip = way.after w.outer.to_chip (Takes count); chip = record { decoder = rest; state = w.outer.chip.state } }

    abbrev x : Outcome
    x = each chip_does fed (judged_all ways)

    same_time : time_of x.outer ≡ time_of w.outer
    same_time = each_keeps time_of chip_does does_time fed (judged_all ways)

    same_number : ticked_entry x.outer ≡ ticked_entry w.outer
    same_number = ap (λ (t : Bool × Bool × ℕ). if t.0 && not t.1 then entry.Time t.2 ∷ [] else []) same_time

    fed_told : (past_here : List Entry) → Told did past_here w.outer → Told did past_here fed
    fed_told here was =
        map_so devices (TellsNow devices w.outer) (TellsNow devices fed)
        (λ frames course all one. now_as devices w.outer fed (record { clock = refl; sending = refl; failing = refl; calls = refl; due = refl }) frames course all one) did here w.outer.chip.state.port was

    as_entered : (told : List Entry) → x.entries ≡ told → Told now (past ++ stamp x.outer told) (has_entered x.outer told)
    as_entered [] none = subst (λ (l : List Entry). Told now l x.outer) (sym (append-nil past)) (all_silent did ways past fed none (fed_told past so))
    as_entered (first ∷ told) is =
        let here : List Entry = past ++ ticked_entry w.outer in
        let numbered : AirSo devices (AreNow w.outer) did here w.outer.chip.state.port =
        (apart_goes devices (AreNow w.outer) did w w (ticked_entry w.outer) (number_apart (w.outer.in_tick && not w.outer.stamped) w.outer.clock) refl false past (λ (is : false ≡ true). absurd cc) airs).1 in
        let items : ItemsSo devices did here fed = items_same devices did here w.outer fed refl refl (items_of devices did here w.outer agrees numbered) in
        let at_first = number_puts devices laws (w.outer.in_tick && not w.outer.stamped) w.outer.clock past w.outer puts in
        let got = all_told did ways here fed may.judges items (record { log = at_first.log; fly = at_first.fly; sent = at_first.sent; joined = at_first.joined }) knows
        (now_number_t devices (outlook w.outer) (w.outer.in_tick && not w.outer.stamped) did past w.outer.chip.state.port tally)
        (fed_told here (now_numbered devices w.outer did past w.outer.chip.state.port tally so)) in
        let at : here ++ x.entries ≡ past ++ (ticked_entry x.outer ++ first ∷ told) =
        append_assoc past (ticked_entry w.outer) x.entries ∙ ap₂ (λ (a b : List Entry). past ++ (a ++ b)) (sym same_number) is in
        let later : OuterState = has_entered x.outer (first ∷ told) in
        map_so devices (TellsNow devices x.outer) (TellsNow devices later)
        (λ frames course all one. now_as devices x.outer later (record { clock = refl; sending = refl; failing = refl; calls = refl; due = refl }) frames course all one) now (past ++ (ticked_entry x.outer ++ first ∷ told)) x.outer.chip.state.port
        (subst (λ (l : List Entry). Told now l x.outer) at got)

    -- where chip and transcript agree once the number of the tick is entered, it is so with all items that the chip takes
    pub takes_told : Told now (past ++ entries w (Chip_takes count rest ways)) (happens w (Chip_takes count rest ways)).outer
    unfolding outcome
    takes_told = as_entered x.entries refl
