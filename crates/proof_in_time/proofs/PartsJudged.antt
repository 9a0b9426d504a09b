-- The host judges what is on its way to it: the segment that the device asks for waits to be given; else what the host has of the segments is as it was.
use Rattle.std.proofs.Common.{◌≡◌, ◌≤◌, ◌<◌, ℕ, suc, ◌+◌, ◌-◌, ◌*◌, ◌%◌, nat_le, inl, inr, Bool, true, false, if◌then◌else◌, Option, Some, None, List, [], ◌∷◌, ◌++◌, length, refl, sym, ap, ◌∙◌, subst, arith}
use Rattle.std.proofs.lemmas.Bool.{eq-eqb}
use Rattle.std.proofs.lemmas.List.{append-nil}
use Rattle.std.specs.Prelude.{◌⊎◌}
use Rattle.std.specs.List.{AllByRecursion}
use Rattle.zw_base.proofs.Each.{all-left, all-right}
use Rattle.serial_frame.specs.Frame.{FrameParts}
use Rattle.serial_frame.specs.Stream.{Rest}
use Rattle.serial_frame.specs.declared.item.Item.{Item}
use Rattle.serial_frame.specs.declared.item.Item.TheVariants.{Good}
use Rattle.serial_frame.specs.declared.unit.Unit.{Unit as LineUnit}
use Rattle.serial_frame.specs.declared.unit.Unit.TheVariants.{Ack, Nak, Can, Framed}
use Rattle.serial_link.specs.declared.turn.Turn.{Turn}
use Rattle.serial_link.specs.declared.turn.Turn.TheVariants.{Idle as no_turn}
use Rattle.supervision.specs.Host.{open_session}
use Rattle.chip_functions.specs.Field.{IsNode}
use Rattle.chip_sim.specs.Nodes.{is_marked}
use Rattle.chip_sim.specs.State.{ChipState}
use Rattle.air_frames.specs.Flown.{Flown}
use Rattle.host_heard.specs.Telling.{heard_at}
use Rattle.host_heard.specs.declared.payload.Heard.{Heard}
use Rattle.host_heard.specs.declared.payload.Heard.TheVariants.{Messages}
use Rattle.host_heard.specs.declared.told.Told.TheVariants.{SegmentRequest}
use Rattle.host_requests.specs.Events.RequestsEvent.{Pushes}
use Rattle.host_requests.specs.declared.task.Task.{Task}
use Rattle.host_requests.specs.declared.task.Task.TheVariants.{Segment}
use Rattle.host_model.specs.After.{after, is_full, requests_do}
use Rattle.host_model.specs.Did.{after_all}
use Rattle.host_model.specs.Events.{HostEvent, Hears, Resends}
use Rattle.host_model.specs.Sessions.{segment_at, segment_count}
use Rattle.host_model.specs.State.{HostState, node_of}
use Rattle.host_model.specs.Taking.{AreJudged, PayloadEvents, resent}
use Rattle.host_model.proofs.EventLists.{after_all-append}
use Rattle.world_model.specs.Events.{Host_takes, happens, May}
use Rattle.world_model.specs.State.{Machine}
use Rattle.proof_course_plain.specs.proof_host.Tables.{taken_at}
use Rattle.proof_messages.specs.Reporting.{TellsPlainly}
use Rattle.proof_answered.specs.proof_calm.Calls.{FrameFollows}
use Rattle.proof_answered.specs.proof_calm.Passes.{IsPlain, OnLine, frames_in}
use Rattle.proof_answered.specs.proof_calm.Resting.{Stands as HostStands}
use Rattle.proof_answered.specs.proof_calm.Settling.{HasMoved, IsDone}
use Rattle.proof_answered.specs.proof_calm.proof_traffic.OnAir.{on_air}
use Rattle.proof_answered.specs.proof_calm.proof_work.proof_walk.Phases.{Moved, Sleeping}
use Rattle.proof_answered.specs.proof_calm.Tied.{TieOf, unheard}
use Rattle.proof_answered.specs.Workers.{IsFromSaying}
use Rattle.proof_answered.proofs.Calm.{takes_calm}
use Rattle.proof_answered.proofs.Ending.{handler_payload}
use Rattle.proof_answered.proofs.Following.{kept}
use Rattle.proof_answered.proofs.HostTurns.{host_turns}
use Rattle.proof_answered.proofs.Idle.{host_idles}
use Rattle.proof_answered.proofs.Judging.{AnyFrame, Follow, TieBy, any_frames, each_follow, frame_are, unit_tied, units_are}
use Rattle.proof_answered.proofs.Peopled.{judged_are}
use Rattle.proof_answered.proofs.Reading.{goods}
use Rattle.proof_answered.proofs.Requested.{moved_frames}
use Rattle.proof_answered.proofs.Unheard.{all_piled, unheard_idle, unheard_judged}
use Rattle.proof_answered.proofs.Walking.{takes_still}
use Rattle.proof_answered.proofs.proof_traffic_Parts.{Airs}
use Rattle.proof_in_time.specs.Coming.{IsOnAir}
use Rattle.proof_in_time.specs.Owed.{IsFreeNow}
use Rattle.proof_in_time.specs.Parts.{Aired, Aired_told, Aired_two, AllPlain, AllTold, Amid, AmidTwo, AreInside, Asked, Asks, Asks_one, Asks_told, Asks_told_two, Asks_two, AsksForPart, ComesPlainly, HasCall, HasFirst, Hears_one, Hears_two, IsAsk, IsAskTold, IsCut, IsElse, IsInTurn, IsToGive, IsWanted, OnWay, Parts, To_give, To_give_two, ToHear, Waits, slot_of}
use Rattle.proof_in_time.proofs.InHand.{same_open}
use Rattle.proof_in_time.proofs.InTurn.{judges_free}
use Rattle.proof_in_time.proofs.JudgedAmong.{units_follow}
use Rattle.proof_in_time.proofs.JudgedWaits.{IsTold, each_told}
use Rattle.proof_in_time.proofs.PartsCalm.{HasPlaces, KeptFor, LeavesRunning, Runs, events_keep, follows_calmly, told_runs}
use Rattle.proof_in_time.proofs.PartsCarried.{SameFor, Wraps, amid_next, give_on, itself_wraps, same_for, way_on}
use Rattle.proof_in_time.proofs.PartsGiven.{wanted_at}
use Rattle.proof_in_time.proofs.PartsHosted.{cut_same}
use Rattle.proof_in_time.proofs.PartsKept.{GivesAs, gives_then}
use Rattle.proof_in_time.proofs.PartsPhases.{StaysSo, cut_so, same_first, within_so}

-- ---- what stands in front, and behind

pub amid_split : {A : Type 0} (Other Is : A → Type 0) (front back : List A) (at : Amid Other Is (front ++ back))
    → (Amid Other Is front × AllByRecursion Other back) ⊎ (AllByRecursion Other front × ((on : Amid Other Is back) × (on.behind ≡ at.behind)))
amid_split Other Is [] back at = inr (tt, (at, refl))
amid_split {A} Other Is (x ∷ front) back at = by (λ on. amid_split Other Is front back on) (amid_next Other Is x (front ++ back) at)
  where
    of : Other x → (on : Amid Other Is (front ++ back)) → on.behind ≡ at.behind → (Amid Other Is front × AllByRecursion Other back) ⊎ (AllByRecursion Other front × ((there : Amid Other Is back) × (there.behind ≡ on.behind)))
        → (Amid Other Is (x ∷ front) × AllByRecursion Other back) ⊎ (AllByRecursion Other (x ∷ front) × ((on : Amid Other Is back) × (on.behind ≡ at.behind)))
    of other on same (inl (here, all)) =
        inl (record { before = x ∷ here.before; one = here.one; behind = here.behind; are = ap (λ l. x ∷ l) here.are; each = (other, here.each); is = here.is; rest = here.rest }, all)
    of other on same (inr (all, (there, there_same))) = inr ((other, all), (there, there_same ∙ same))

    by : ((on : Amid Other Is (front ++ back)) → (Amid Other Is front × AllByRecursion Other back) ⊎ (AllByRecursion Other front × ((there : Amid Other Is back) × (there.behind ≡ on.behind))))
        → (Is x × (AllByRecursion Other (front ++ back) × (length at.before ≡ 0))) ⊎ (Other x × ((on : Amid Other Is (front ++ back)) × ((length at.before ≡ suc (length on.before)) × (on.behind ≡ at.behind))))
        → (Amid Other Is (x ∷ front) × AllByRecursion Other back) ⊎ (AllByRecursion Other (x ∷ front) × ((on : Amid Other Is back) × (on.behind ≡ at.behind)))
    by split (inl (is, (all, none))) = inl (record { before = []; one = x; behind = front; are = refl; each = tt; is = is; rest = all-left Other front back all }, all-right Other front back all)
    by split (inr (other, (on, (place_is, same)))) = of other on same (split on)

-- ---- a segment comes to wait

pub record TakesTask (n : ℕ) (task : Task) (old new : HostState) : Type 0 where
  pub node : GivesAs (node_of old n) (node_of new n).book.commands (node_of new n).next_segment (node_of new n).segments (node_of new n).text (node_of new n).pending
  pub queue : new.requests.queue ≡ task ∷ []
  pub orders : (number : ℕ) → taken_at new.commands number ≡ taken_at old.commands number

kept_takes : (n : ℕ) (task : Task) (a b c : HostState) → KeptFor n a b → TakesTask n task b c → TakesTask n task a c
kept_takes n task a b c first later = record {
  node = gives_then (node_of a n) (node_of b n) (node_of c n) first.node later.node;
  queue = later.queue;
  orders = λ number. later.orders number ∙ first.orders number;
}

takes_kept : (n : ℕ) (task : Task) (a b c : HostState) → TakesTask n task a b → KeptFor n b c → TakesTask n task a c
takes_kept n task a b c first later = record {
  node = gives_then (node_of a n) (node_of b n) (node_of c n) first.node later.node;
  queue = later.queue ∙ first.queue;
  orders = λ number. later.orders number ∙ first.orders number;
}

resends_takes : (n : ℕ) (h : HostState) (payload : List ℕ) → h.requests.queue ≡ [] → Runs n h → TakesTask n (Segment n payload) h (after h (Resends n payload))
resends_takes n h payload empty run =
    let room : is_full h ≡ false = ap (λ (tasks : List Task). nat_le 64 (length tasks)) empty in
    subst (λ (b : Bool). TakesTask n (Segment n payload) h (if b then h else requests_do h (Pushes (Segment n payload)))) (sym room)
    (record {
      node = record { running = run; commands_are = refl; next_is = refl; count = refl; text_is = refl; pending_is = refl };
      queue = ap (λ (tasks : List Task). tasks ++ Segment n payload ∷ []) empty;
      orders = λ number. refl;
    })

-- ---- what is asked for

module _ (these : List Bool) (n session : ℕ) (message : List ℕ) (within : n < 233) (only : (k : ℕ) → is_marked these k ≡ true → k ≡ n) (s : ChipState) where
  abbrev Comes : FrameParts → Type 0
  Comes frame = IsFromSaying these TellsPlainly frame

  follow : Follow (LeavesRunning n) Comes s.joined
  follow = follows_calmly these n within only s.joined

  -- units that ask for nothing, whatever waits behind them
  units_calm : (h : HostState) (units : List LineUnit) (rest : List FrameParts) (events : List HostEvent) → AllByRecursion IsPlain units → AreJudged h (goods units) events → TieBy true (kept h) s (frames_in units ++ rest) []
      → AllByRecursion Comes (frames_in units) → LeavesRunning n h events
  units_calm h units rest events plain judged tie all = units_follow (LeavesRunning n) Comes s follow h units rest events plain judged tie all

  -- whatever they are, each event is one that the chip tells
  pub units_told : (h : HostState) (units : List LineUnit) (rest : List FrameParts) (events : List HostEvent) → AllByRecursion IsPlain units → AreJudged h (goods units) events → TieBy true (kept h) s (frames_in units ++ rest) [] → AllByRecursion IsTold events
  units_told h units rest events plain judged tie =
      units_are (λ (g : HostState) (all : List HostEvent). AllByRecursion IsTold all) AnyFrame true s [] (each_follow IsTold AnyFrame s.joined (each_told s.joined)) h units rest events plain judged tie (any_frames (frames_in units ++ rest))

  module _ (place : ℕ) (less : place < segment_count message) (node : IsNode n) where
    abbrev Task_is : Task
    Task_is = Segment n (segment_at session message place)

    -- the host that is asked
    pub record Ready (h : HostState) : Type 0 where
      pub places : HasPlaces h
      pub opened : open_session (node_of h n).book ≡ Some session
      pub cut : IsCut n session message h
      pub pending : (node_of h n).pending ≡ None
      pub empty : h.requests.queue ≡ []

    ready_kept : (h g : HostState) → HasPlaces g → KeptFor n h g → Ready h → Ready g
    ready_kept h g places as_was ready = record {
      places = places;
      opened = same_open (node_of h n).book (node_of g n).book as_was.node.commands_are as_was.outcome ∙ ready.opened;
      cut = cut_same n session message h g as_was.orders as_was.node.commands_are ready.cut;
      pending = as_was.node.pending_is ∙ ready.pending;
      empty = as_was.queue ∙ ready.empty;
    }

    asked_events : (g : HostState) (payload : List ℕ) (events : List HostEvent) → AsksForPart session place payload → Ready g → PayloadEvents g n payload (heard_at payload) events → events ≡ Resends n (segment_at session message place) ∷ []
    asked_events g payload events asks ready is = by (subst (λ (x : Heard). PayloadEvents g n payload x events) asks.heard is)
      where
        by : PayloadEvents g n payload (Messages (SegmentRequest (session % 16) (39 * place) ∷ [])) events → events ≡ Resends n (segment_at session message place) ∷ []
        by (first, rest, are, taken, none) =
            are
            ∙ (ap (λ (l : List HostEvent). l ++ rest) (taken ∙ ap (λ (p : Option (List ℕ)). resent n p) (wanted_at n session message g ready.cut place less ready.opened))
            ∙ ap (λ (l : List HostEvent). Resends n (segment_at session message place) ∷ l) none)

    units_take : (h : HostState) (units : List LineUnit) (rest : List FrameParts) (events : List HostEvent) → AllByRecursion IsPlain units → AreJudged h (goods units) events → TieBy true (kept h) s (frames_in units ++ rest) []
        → Amid Comes (IsAskTold n session place) (frames_in units) → Ready h → Runs n (after_all h events) → TakesTask n Task_is h (after_all h events)
    units_take h [] rest events plain judged tie asked ready run = absurd (none_amid asked)
      where
        none_amid : Amid Comes (IsAskTold n session place) [] → ⊥
        none_amid at = some at.before at.are
          where
            some : (before : List FrameParts) → [] ≡ before ++ at.one ∷ at.behind → ⊥
            some [] none = absurd cc
            some (x ∷ before) none = absurd cc
    units_take h (Nak ∷ units) rest events plain judged tie asked ready run = absurd plain.0
    units_take h (Can ∷ units) rest events plain judged tie asked ready run = absurd plain.0
    units_take h (Ack ∷ units) rest events plain (first, later, are, (more, first_is, followed), others) tie asked ready run =
        subst (λ (l : List HostEvent). TakesTask n Task_is h (after_all h l)) (sym are)
        (subst (TakesTask n Task_is h) (sym (after_all-append h first later))
        (kept_takes n Task_is h (after_all h first) (after_all (after_all h first) later) as_was (units_take (after_all h first) units rest later plain.1 others then_tied asked (ready_kept h (after_all h first) places_first as_was ready) run_end)))
      where
        then_tied : TieBy true (kept (after_all h first)) s (frames_in units ++ rest) []
        then_tied = unit_tied true s [] h Ack (frames_in units ++ rest) first plain.0 (more, first_is, followed) tie

        run_end : Runs n (after_all (after_all h first) later)
        run_end = subst (Runs n) (ap (λ (l : List HostEvent). after_all h l) are ∙ after_all-append h first later) run

        told : AllByRecursion IsTold (first ++ later)
        told = subst (AllByRecursion IsTold) are (units_told h (Ack ∷ units) rest events plain (first, later, are, (more, first_is, followed), others) tie)

        places_first : HasPlaces (after_all h first)
        places_first = (told_runs n within h first (all-left IsTold first later told) ready.places).0

        run_first : Runs n (after_all h first)
        run_first = (told_runs n within (after_all h first) later (all-right IsTold first later told) places_first).1 run_end

        leaves : LeavesRunning n h first
        leaves = units_calm h (Ack ∷ []) (frames_in units ++ rest) first (plain.0, tt) (first, [], sym (append-nil first), (more, first_is, followed), refl) tie tt

        as_was : KeptFor n h (after_all h first)
        as_was = events_keep n within h first (leaves.calm ready.places run_first ready.pending) ready.places run_first
    units_take h (Framed f ∷ units) rest events plain (first, later, are, (more, first_is, followed), others) tie asked ready run =
        subst (λ (l : List HostEvent). TakesTask n Task_is h (after_all h l)) (sym are)
        (subst (TakesTask n Task_is h) (sym (after_all-append h first later))
        (by (λ on then_ready. units_take (after_all h first) units rest later plain.1 others then_tied on then_ready run_end) (amid_next Comes (IsAskTold n session place) f (frames_in units) asked)))
      where
        g : HostState
        g = after h (Hears (Good (Framed f)))

        then_tied : TieBy true (kept (after_all h first)) s (frames_in units ++ rest) []
        then_tied = unit_tied true s [] h (Framed f) (frames_in units ++ rest) first plain.0 (more, first_is, followed) tie

        run_end : Runs n (after_all (after_all h first) later)
        run_end = subst (Runs n) (ap (λ (l : List HostEvent). after_all h l) are ∙ after_all-append h first later) run

        told : AllByRecursion IsTold (first ++ later)
        told = subst (AllByRecursion IsTold) are (units_told h (Framed f ∷ units) rest events plain (first, later, are, (more, first_is, followed), others) tie)

        places_first : HasPlaces (after_all h first)
        places_first = (told_runs n within h first (all-left IsTold first later told) ready.places).0

        run_first : Runs n (after_all h first)
        run_first = (told_runs n within (after_all h first) later (all-right IsTold first later told) places_first).1 run_end

        run_h : Runs n h
        run_h = (told_runs n within h first (all-left IsTold first later told) ready.places).1 run_first

        heard : KeptFor n h g
        heard = events_keep n within h (Hears (Good (Framed f)) ∷ []) (tt, tt) ready.places run_h

        by : (Amid Comes (IsAskTold n session place) (frames_in units) → Ready (after_all h first) → TakesTask n Task_is (after_all h first) (after_all (after_all h first) later))
            → (IsAskTold n session place f × (AllByRecursion Comes (frames_in units) × (length asked.before ≡ 0)))
            ⊎ (Comes f × ((on : Amid Comes (IsAskTold n session place) (frames_in units)) × ((length asked.before ≡ suc (length on.before)) × (on.behind ≡ asked.behind))))
            → TakesTask n Task_is h (after_all (after_all h first) later)
        by later_on (inl (ask, (all, none))) =
            let ready_g : Ready g = ready_kept h g ready.places heard ready in
            let payload = handler_payload g n ask.payload more node ask.asks.some (subst (λ (x : FrameParts). FrameFollows g x more) ask.is followed) in
            let more_is : more ≡ Resends n (segment_at session message place) ∷ [] = asked_events g ask.payload more ask.asks ready_g payload in
            let takes : TakesTask n Task_is h (after_all h first) =
            subst (λ (l : List HostEvent). TakesTask n Task_is h (after_all h l)) (sym first_is)
            (subst (λ (l : List HostEvent). TakesTask n Task_is h (after_all g l)) (sym more_is)
            (kept_takes n Task_is h g (after g (Resends n (segment_at session message place))) heard (resends_takes n g (segment_at session message place) ready_g.empty run_h))) in
            let leaves = units_calm (after_all h first) units rest later plain.1 others then_tied all in
            takes_kept n Task_is h (after_all h first) (after_all (after_all h first) later) takes
            (events_keep n within (after_all h first) later (leaves.calm places_first run_end (takes.node.pending_is ∙ ready.pending)) places_first run_end)
        by later_on (inr (plain_is, (on, same))) =
            let leaves : LeavesRunning n h first =
            subst (LeavesRunning n h) (sym first_is) (follow.hears h (Good (Framed f)) more (frame_are (LeavesRunning n) Comes true s [] follow g f (frames_in units ++ rest) more followed tie plain_is)) in
            let as_was = events_keep n within h first (leaves.calm ready.places run_first ready.pending) ready.places run_first in
            kept_takes n Task_is h (after_all h first) (after_all (after_all h first) later) as_was (later_on on (ready_kept h (after_all h first) places_first as_was ready))

-- ---- the host's part of a pass

module _ (airs : Airs) (these : List Bool) (n session : ℕ) (within : n < 233) (marked : is_marked these n ≡ true) (is_node : IsNode n) (only : (k : ℕ) → is_marked these k ≡ true → k ≡ n) (b : Bool) (passes ticks : ℕ) (m : Machine) (rest : Rest) (items : List Item) (events : List HostEvent)
    (may : May m (Host_takes (length m.outside.outer.to_host.bytes) rest items events)) (at : IsDone m ⊎ HasMoved b passes m) (tie : TieOf true m []) (places : length m.host.state.nodes ≡ 233)
    (opened : Runs n m.host.state → open_session (node_of m.host.state n).book ≡ Some session)
    (stands : IsDone (happens m (Host_takes (length m.outside.outer.to_host.bytes) rest items events)) ⊎ HostStands passes (happens m (Host_takes (length m.outside.outer.to_host.bytes) rest items events)))
    (running : Runs n (happens m (Host_takes (length m.outside.outer.to_host.bytes) rest items events)).host.state) where
  abbrev then_judged : Machine
  then_judged = happens m (Host_takes (length m.outside.outer.to_host.bytes) rest items events)

  abbrev Says : FrameParts → Type 0
  Says frame = IsFromSaying these TellsPlainly frame

  abbrev chip : ChipState
  chip = m.outside.outer.chip.state

  air : on_air (happens m (Host_takes (length m.outside.outer.to_host.bytes) rest items events)).outside.outer.air.frames ≡ on_air m.outside.outer.air.frames
  air = (takes_calm airs m (length m.outside.outer.to_host.bytes) rest items events).on

  free_then : IsFreeNow m → IsFreeNow (happens m (Host_takes (length m.outside.outer.to_host.bytes) rest items events))
  free_then free = judges_free airs these n marked is_node passes m (length m.outside.outer.to_host.bytes) rest items events stands free

  -- what it comes to
  pub data JudgedTo (message : List ℕ) (next later : ℕ) (hears : ToHear) : Type 0 where
    As_was : OnWay these n session message next later (Sleeping passes ticks) then_judged hears → JudgedTo message next later hears
    Gives_one : (place : ℕ) → hears ≡ Asks_one place → OnWay these n session message next (later + 1) (Sleeping passes ticks) then_judged (Hears_one place) → JudgedTo message next later hears
    Gives_two : (place other : ℕ) → hears ≡ Asks_two place other → OnWay these n session message next later (Sleeping passes ticks) then_judged (Hears_two place other) → JudgedTo message next later hears

  pub record JudgedSo (message : List ℕ) (next later : ℕ) (hears : ToHear) : Type 0 where
    pub node : GivesAs (node_of m.host.state n) (node_of then_judged.host.state n).book.commands (node_of then_judged.host.state n).next_segment (node_of then_judged.host.state n).segments (node_of then_judged.host.state n).text (node_of then_judged.host.state n).pending
    pub cut : IsCut n session message then_judged.host.state
    pub way : JudgedTo message next later hears

  module _ (message : List ℕ) (cut : IsCut n session message m.host.state) (no_pending : (node_of m.host.state n).pending ≡ None) (next later : ℕ) (hears : ToHear) (inside : AreInside hears (segment_count message))
      (way : OnWay these n session message next later (Moved b passes ticks) m hears) where
    -- nothing was on its way
    idles : (host turn : Turn) (frames : List FrameParts) → OnLine [] [] host turn frames m → JudgedSo message next later hears
    idles host turn frames line = record {
      node = subst (λ (h : HostState). GivesAs (node_of m.host.state n) (node_of h n).book.commands (node_of h n).next_segment (node_of h n).segments (node_of h n).text (node_of h n).pending) (sym same_host)
          (record { running = subst (Runs n) same_host running; commands_are = refl; next_is = refl; count = refl; text_is = refl; pending_is = refl });
      cut = cut_so n session message m.host.state then_judged.host.state same_host cut;
      way = As_was
          (way_on these n session message (Moved b passes ticks) (Sleeping passes ticks) m then_judged (same_for n (Moved b passes ticks) m.host.state then_judged.host.state same_host) (λ free due. free_then free) (λ free home. free_then free) (λ asking frame on. absurd asking)
          (subst (λ (l : List FrameParts). Wraps Says (unheard m.outside.outer) l) (sym same_told) (itself_wraps Says (unheard m.outside.outer))) next later later [] (air ∙ sym (append-nil (on_air m.outside.outer.air.frames))) tt
          (record { joint = λ place in_it. omega arith; apart = λ gives place in_it one. refl; some = λ gives some. some; level = λ first second before in_it level. omega arith; fewer = omega arith }) hears way);
    }
      where
        same_host : then_judged.host.state ≡ m.host.state
        same_host = (host_idles m host turn frames rest items events line may).2

        same_told : unheard then_judged.outside.outer ≡ unheard m.outside.outer
        same_told = unheard_idle AnyFrame (AllByRecursion AnyFrame) (all_piled AnyFrame) airs m rest items events host turn frames line may

    -- these units were
    module _ (unit : LineUnit) (units : List LineUnit) (host turn : Turn) (frames : List FrameParts) (line : OnLine [] (unit ∷ units) host turn frames m) (plain : AllByRecursion IsPlain (unit ∷ units)) (few_units : length (unit ∷ units) ≤ 99)
        (frames_are : unheard m.outside.outer ≡ frames_in (unit ∷ units) ++ m.outside.outer.chip.state.port.waiting) where
      abbrev down : List FrameParts
      down = frames_in (unit ∷ units)

      abbrev waiting : List FrameParts
      waiting = m.outside.outer.chip.state.port.waiting

      items_are : items ≡ goods (unit ∷ units)
      items_are = (host_turns airs m unit units host turn frames rest items events plain (omega (arith, few_units)) line may).2

      host_is : (happens m (Host_takes (length m.outside.outer.to_host.bytes) rest items events)).host.state ≡ after_all m.host.state events
      host_is = (host_turns airs m unit units host turn frames rest items events plain (omega (arith, few_units)) line may).3

      left_told : unheard (happens m (Host_takes (length m.outside.outer.to_host.bytes) rest items events)).outside.outer ≡ m.outside.outer.chip.state.port.waiting
      left_told = unheard_judged AnyFrame (AllByRecursion AnyFrame) (all_piled AnyFrame) airs m rest items events unit units host turn frames line plain few_units may

      judged : AreJudged m.host.state (goods (unit ∷ units)) events
      judged = judged_are m (length m.outside.outer.to_host.bytes) rest items events (unit ∷ units) may items_are

      tied : TieBy true (kept m.host.state) m.outside.outer.chip.state (frames_in (unit ∷ units) ++ m.outside.outer.chip.state.port.waiting) []
      tied = subst (λ (fs : List FrameParts). TieBy true (kept m.host.state) m.outside.outer.chip.state fs []) frames_are tie

      run_then : Runs n (after_all m.host.state events)
      run_then = subst (Runs n) host_is running

      run_before : Runs n m.host.state
      run_before = (told_runs n within m.host.state events (units_told these n session message within only m.outside.outer.chip.state m.host.state (unit ∷ units) waiting events plain judged tied) places).1 run_then

      -- nothing was asked for
      calm : AllByRecursion Says (frames_in (unit ∷ units)) → KeptFor n m.host.state (after_all m.host.state events)
      calm all =
          let leaves = units_calm these n session message within only m.outside.outer.chip.state m.host.state (unit ∷ units) waiting events plain judged tied all in
          events_keep n within m.host.state events (leaves.calm places run_then no_pending) places run_then

      same_kept : KeptFor n m.host.state (after_all m.host.state events) → SameFor n (Moved b passes ticks) m.host.state (happens m (Host_takes (length m.outside.outer.to_host.bytes) rest items events)).host.state
      same_kept k =
          subst (SameFor n (Moved b passes ticks) m.host.state) (sym host_is)
          (record { queue = k.queue; last_id = k.last_id; next_is = k.node.next_is; count = k.node.count; text_is = k.node.text_is; pending_is = k.node.pending_is; asked = λ asking. absurd asking })

      kept_so : KeptFor n m.host.state (after_all m.host.state events) → JudgedTo message next later hears → JudgedSo message next later hears
      kept_so k to = record {
        node = subst (λ (h : HostState). GivesAs (node_of m.host.state n) (node_of h n).book.commands (node_of h n).next_segment (node_of h n).segments (node_of h n).text (node_of h n).pending) (sym host_is) k.node;
        cut = subst (IsCut n session message) (sym host_is) (cut_same n session message m.host.state (after_all m.host.state events) k.orders k.node.commands_are cut);
        way = to;
      }

      -- the frames on the air are as they were
      plain_then : AllPlain these (on_air m.outside.outer.air.frames) → AllPlain these (on_air then_judged.outside.outer.air.frames)
      plain_then all = subst (AllPlain these) (sym air) all

      there : (Is : Flown → Type 0) → Amid (ComesPlainly these) Is (on_air m.outside.outer.air.frames) → Amid (ComesPlainly these) Is (on_air then_judged.outside.outer.air.frames)
      there Is on = record { before = on.before; one = on.one; behind = on.behind; are = air ∙ on.are; each = on.each; is = on.is; rest = on.rest }

      two_there : (First Second : Flown → Type 0) → AmidTwo (ComesPlainly these) First Second (on_air m.outside.outer.air.frames) → AmidTwo (ComesPlainly these) First Second (on_air then_judged.outside.outer.air.frames)
      two_there First Second on = record { before = on.before; first = on.first; behind = on.behind; are = air ∙ on.are; each = on.each; is = on.is; rest = on.rest }

      -- what was told asks for nothing
      here_plain : AllTold these (unheard m.outside.outer) → AllByRecursion Says (frames_in (unit ∷ units))
      here_plain told = all-left Says (frames_in (unit ∷ units)) waiting (subst (AllByRecursion Says) frames_are told)

      told_then : AllTold these (unheard m.outside.outer) → AllTold these (unheard then_judged.outside.outer)
      told_then told = subst (AllByRecursion Says) (sym left_told) (all-right Says (frames_in (unit ∷ units)) waiting (subst (AllByRecursion Says) frames_are told))

      module _ (k : KeptFor n m.host.state (after_all m.host.state events)) where
        gives : (place : ℕ) → IsToGive n session message place next (Moved b passes ticks) m → IsToGive n session message place next (Sleeping passes ticks) then_judged
        gives place give =
            give_on these n session message (Moved b passes ticks) (Sleeping passes ticks) m then_judged (same_kept k) (λ free due. free_then free) (λ free home. free_then free) (λ asking frame on. absurd asking) place next give

        else_then : IsElse n next m → IsElse n next then_judged
        else_then other = record { no_task = (same_kept k).queue ∙ other.no_task; next_is = (same_kept k).next_is ∙ other.next_is }

        -- it is asked for still
        asked_still : (place : ℕ) (asked : Asked these n session place m) (on : Amid Says (IsAskTold n session place) m.outside.outer.chip.state.port.waiting) → on.behind ≡ asked.at.behind → Asked these n session place then_judged
        asked_still place asked on same = record {
          at = record { before = on.before; one = on.one; behind = on.behind; are = left_told ∙ on.are; each = on.each; is = on.is; rest = on.rest };
          first = by asked.first;
        }
          where
            by : HasCall m.host.state.requests.last_id asked.at.behind ⊎ ((node_of m.host.state n).segments ≤ (node_of m.host.state n).next_segment)
                → HasCall then_judged.host.state.requests.last_id on.behind ⊎ ((node_of then_judged.host.state n).segments ≤ (node_of then_judged.host.state n).next_segment)
            by (inl call) = inl (subst (λ (id : ℕ). HasCall id on.behind) (sym (same_kept k).last_id) (subst (HasCall m.host.state.requests.last_id) (sym same) call))
            by (inr none) =
                inr (subst (λ (c : ℕ). c ≤ (node_of then_judged.host.state n).next_segment) (sym (same_kept k).count) (subst (λ (c : ℕ). (node_of m.host.state n).segments ≤ c) (sym (same_kept k).next_is) none))

      -- a segment was
      module _ (place : ℕ) (less : place < segment_count message) (other : IsElse n next m) (on : Amid Says (IsAskTold n session place) (frames_in (unit ∷ units))) where
        takes : TakesTask n (Segment n (segment_at session message place)) m.host.state (after_all m.host.state events)
        takes =
            units_take these n session message within only m.outside.outer.chip.state place less is_node m.host.state (unit ∷ units) waiting events plain judged tied on
            (record { places = places; opened = opened run_before; cut = cut; pending = no_pending; empty = other.no_task }) run_then

        takes_so : JudgedTo message next later hears → JudgedSo message next later hears
        takes_so to = record {
          node = subst (λ (h : HostState). GivesAs (node_of m.host.state n) (node_of h n).book.commands (node_of h n).next_segment (node_of h n).segments (node_of h n).text (node_of h n).pending) (sym host_is) takes.node;
          cut = subst (IsCut n session message) (sym host_is) (cut_same n session message m.host.state (after_all m.host.state events) takes.orders takes.node.commands_are cut);
          way = to;
        }

        waits_then : IsFreeNow m → IsToGive n session message place next (Sleeping passes ticks) then_judged
        waits_then free =
            Waits (free_then free) (ap (λ (h : HostState). h.requests.queue) host_is ∙ takes.queue) (ap (λ (h : HostState). (node_of h n).next_segment) host_is ∙ (takes.node.next_is ∙ other.next_is))

      abbrev asked_here : (place : ℕ) (asked : Asked these n session place m) → Amid Says (IsAskTold n session place) (frames_in (unit ∷ units) ++ m.outside.outer.chip.state.port.waiting)
      asked_here place asked = record { before = asked.at.before; one = asked.at.one; behind = asked.at.behind; are = sym frames_are ∙ asked.at.are; each = asked.at.each; is = asked.at.is; rest = asked.at.rest }

      told_left : AllByRecursion Says m.outside.outer.chip.state.port.waiting → AllTold these (unheard then_judged.outside.outer)
      told_left all = subst (AllByRecursion Says) (sym left_told) all

      one_inside : (place : ℕ) → hears ≡ Asks_one place → place < segment_count message
      one_inside place is = subst (λ (x : ToHear). AreInside x (segment_count message)) is inside

      two_inside : (place k : ℕ) → hears ≡ Asks_two place k → place < segment_count message
      two_inside place k is = (subst (λ (x : ToHear). AreInside x (segment_count message)) is inside).0

      one_judged : (place : ℕ) → hears ≡ Asks_one place → IsElse n next m → IsFreeNow m → AllPlain these (on_air m.outside.outer.air.frames) → (asked : Asked these n session place m)
          → (Amid Says (IsAskTold n session place) (frames_in (unit ∷ units)) × AllByRecursion Says m.outside.outer.chip.state.port.waiting)
          ⊎ (AllByRecursion Says (frames_in (unit ∷ units)) × ((on : Amid Says (IsAskTold n session place) m.outside.outer.chip.state.port.waiting) × (on.behind ≡ asked.at.behind))) → JudgedSo message next later hears
      one_judged place is other free all asked (inl (on, told)) =
          takes_so place (one_inside place is) other on (Gives_one place is (To_give place refl (waits_then place (one_inside place is) other on free) (plain_then all) (told_left told) (omega arith)))
      one_judged place is other free all asked (inr (here, (on, same))) =
          let k = calm here in kept_so k (As_was (Asks_told place is (else_then k other) (free_then free) (plain_then all) (asked_still k place asked on same)))

      two_judged : (place j : ℕ) → hears ≡ Asks_two place j → IsElse n next m → IsFreeNow m → (asked : Asked these n session place m) → Amid (ComesPlainly these) (IsAsk n session j) (on_air m.outside.outer.air.frames) → 1 ≤ later
          → (Amid Says (IsAskTold n session place) (frames_in (unit ∷ units)) × AllByRecursion Says m.outside.outer.chip.state.port.waiting)
          ⊎ (AllByRecursion Says (frames_in (unit ∷ units)) × ((on : Amid Says (IsAskTold n session place) m.outside.outer.chip.state.port.waiting) × (on.behind ≡ asked.at.behind))) → JudgedSo message next later hears
      two_judged place j is other free asked ask some (inl (on, told)) =
          takes_so place (two_inside place j is) other on
          (Gives_two place j is (To_give_two place j refl (waits_then place (two_inside place j is) other on free) (there (IsAsk n session j) ask) refl (told_left told) some))
      two_judged place j is other free asked ask some (inr (here, (on, same))) =
          let k = calm here in kept_so k (As_was (Asks_told_two place j is (else_then k other) (free_then free) (asked_still k place asked on same) (there (IsAsk n session j) ask) refl some))

      units_judged : OnWay these n session message next later (Moved b passes ticks) m hears → JudgedSo message next later hears
      units_judged (To_give place is give all told some) = let k = calm (here_plain told) in kept_so k (As_was (To_give place is (gives k place give) (plain_then all) (told_then told) some))
      units_judged (Aired place is other on told few) = let k = calm (here_plain told) in kept_so k (As_was (Aired place is (else_then k other) (there (IsOnAir n (segment_at session message place)) on) (told_then told) few))
      units_judged (To_give_two place j is give ask one told some) =
          let k = calm (here_plain told) in kept_so k (As_was (To_give_two place j is (gives k place give) (there (IsAsk n session j) ask) refl (told_then told) some))
      units_judged (Aired_two place j is other on told level few) =
          let k = calm (here_plain told) in
          kept_so k (As_was (Aired_two place j is (else_then k other) (two_there (IsAsk n session j) (IsOnAir n (segment_at session message place)) on) (told_then told) (omega arith) few))
      units_judged (Aired_told place j is other on asked none) = absurd (let no : 0 + 1 ≡ 0 = none in omega (arith, no))
      units_judged (Asks place is other free none on told few) =
          let k = calm (here_plain told) in
          kept_so k (As_was (Asks place is (else_then k other) (free_then free) (subst (λ (c : ℕ). c ≤ next) (sym (same_kept k).count) none) (there (IsAsk n session place) on) (told_then told) few))
      units_judged (Asks_told place is other free all asked) =
          one_judged place is other free all asked
          (amid_split Says (IsAskTold n session place) (frames_in (unit ∷ units)) waiting (asked_here place asked))
      units_judged (Asks_told_two place j is other free asked on one some) =
          two_judged place j is other free asked on some (amid_split Says (IsAskTold n session place) (frames_in (unit ∷ units)) waiting (asked_here place asked))

    pub way_judged : JudgedSo message next later hears
    way_judged = by at
      where
        of : (down : List LineUnit) (has : HasMoved b passes m) → OnLine [] down has.host has.turn has.frames m → AllByRecursion IsPlain down → length down ≤ 99 → unheard m.outside.outer ≡ frames_in down ++ m.outside.outer.chip.state.port.waiting → JudgedSo message next later hears
        of [] has line plain few frames_are = idles has.host has.turn has.frames line
        of (unit ∷ units) has line plain few frames_are = units_judged unit units has.host has.turn has.frames line plain few frames_are way

        by : IsDone m ⊎ HasMoved b passes m → JudgedSo message next later hears
        by (inl done) = idles no_turn no_turn [] done.line
        by (inr has) = of has.down has has.line has.plain has.few (moved_frames b passes m has)

  pub parts_judge : (left : ℕ) → Parts these n session left (Moved b passes ticks) m → Parts these n session left (Sleeping passes ticks) (happens m (Host_takes (length m.outside.outer.to_host.bytes) rest items events))
  parts_judge left parts = by so.way
    where
      so : JudgedSo parts.message parts.next parts.later parts.hears
      so = way_judged parts.message parts.cut parts.no_pending parts.next parts.later parts.hears parts.inside parts.way

      first : (then_is : HasFirst n then_judged.outside.devices) × StaysSo parts.stands.device then_is.device
      first = same_first n m.outside.devices then_judged.outside.devices (takes_still airs m (length m.outside.outer.to_host.bytes) rest items events) parts.stands

      -- with what is to be heard then
      to : (hears : ToHear) (late least : ℕ) → AreInside hears (segment_count parts.message) → OnWay these n session parts.message parts.next late (Sleeping passes ticks) then_judged hears
          → IsInTurn session parts.message hears parts.next parts.stands.device least ⊎ IsWanted session parts.message hears parts.stands.device least → late + least ≤ left → Parts these n session left (Sleeping passes ticks) then_judged
      to hears late least inside way some few = record {
        message = parts.message;
        cut = so.cut;
        count = so.node.count ∙ parts.count;
        no_text = so.node.text_is ∙ parts.no_text;
        no_pending = so.node.pending_is ∙ parts.no_pending;
        stands = first.0;
        hears = hears;
        inside = inside;
        next = parts.next;
        later = late;
        way = way;
        ticks = least;
        within = within_so session parts.message parts.stands.device first.0.device first.1 hears parts.next least some;
        few = few;
      }

      one_wanted : (place : ℕ) → IsWanted session parts.message (Asks_one place) parts.stands.device parts.ticks → IsWanted session parts.message (Hears_one place) parts.stands.device (parts.ticks - 1) × (1 ≤ parts.ticks)
      one_wanted place w =
          let slot : slot_of (Hears_one place) w.least ≡ 0 = ap (λ (b : Bool). if b then 0 else 2) (eq-eqb place w.least w.asked) in
          let few = w.few in
          (record { next = w.next; last = w.last; least = w.least; first = w.first; asked = tt; few = omega (arith, slot, few) }, omega (arith, few))

      two_wanted : (place other : ℕ) → IsWanted session parts.message (Asks_two place other) parts.stands.device parts.ticks → IsWanted session parts.message (Hears_two place other) parts.stands.device parts.ticks
      two_wanted place other w = record { next = w.next; last = w.last; least = w.least; first = w.first; asked = w.asked; few = w.few }

      not_in_turn : (hears : ToHear) → ((place : ℕ) → hears ≡ Hears_one place → ⊥) → parts.hears ≡ hears → IsInTurn session parts.message parts.hears parts.next parts.stands.device parts.ticks ⊎ IsWanted session parts.message parts.hears parts.stands.device parts.ticks
          → IsWanted session parts.message hears parts.stands.device parts.ticks
      not_in_turn hears none is (inl turn) = absurd (none turn.place (sym is ∙ turn.alone))
      not_in_turn hears none is (inr wanted) = subst (λ (x : ToHear). IsWanted session parts.message x parts.stands.device parts.ticks) is wanted

      by : JudgedTo parts.message parts.next parts.later parts.hears → Parts these n session left (Sleeping passes ticks) then_judged
      by (As_was way) = to parts.hears parts.later parts.ticks parts.inside way parts.within parts.few
      by (Gives_one place is way) =
          let wanted = one_wanted place (not_in_turn (Asks_one place) (λ k e. absurd (let wrong : Asks_one place ≡ Hears_one k = e in cc)) is parts.within) in
          let some = wanted.1 in
          let few = parts.few in
          to (Hears_one place) (parts.later + 1) (parts.ticks - 1) (subst (λ (x : ToHear). AreInside x (segment_count parts.message)) is parts.inside) way (inr wanted.0) (omega (arith, some, few))
      by (Gives_two place other is way) =
          let wanted = two_wanted place other (not_in_turn (Asks_two place other) (λ k e. absurd (let wrong : Asks_two place other ≡ Hears_one k = e in cc)) is parts.within) in
          to (Hears_two place other) parts.later parts.ticks (subst (λ (x : ToHear). AreInside x (segment_count parts.message)) is parts.inside) way (inr wanted) parts.few
