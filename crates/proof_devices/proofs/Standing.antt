-- What stands between what came to a device and what it made of that, at each phase of a line: nothing.
use Rattle.std.proofs.Common.{◌≡◌, ◌≢◌, ◌≤◌, ◌⊎◌, inl, inr, ℕ, zero, suc, ◌+◌, ◌-◌, nat_lt, if◌then◌else◌, Bool, true, false, List, [], ◌∷◌, ◌++◌, length, map, take, refl, sym, ap, subst, ◌∙◌, append-nil, arith}
use Rattle.std.specs.Prelude.{Some}
use Rattle.std.specs.List.{AllByRecursion}
use Rattle.device_sim.specs.State.{State}
use Rattle.mesh_sim.specs.Fates.{place_of}
use Rattle.zw_text.specs.declared.line.Line.{Line}
use Rattle.zw_text.specs.declared.line.Line.TheVariants as lines
use Rattle.zw_text.specs.declared.entry.Entry.{Entry}
use Rattle.zw_text.specs.declared.entry.Entry.TheVariants as entry
use Rattle.zw_text.specs.Transcript.{line_of, lines_run, made}
use Rattle.zw_text.proofs.Views.{shown-append}
use Rattle.law_transcript.specs.Devices.{ChangedAsShown, brought, replies_joined, sent_from}
use Rattle.law_transcript.specs.Lists.{EachAfter}
use Rattle.law_transcript.specs.Nodes.{controller, device_of}
use Rattle.law_transcript.specs.Restarts.{ticks_asked}
use Rattle.law_wire.specs.Asked.{lines_before}
use Rattle.host_model.specs.Ticking.{tick_events}
use Rattle.outside_model.specs.Events.{OuterEvent, Begins_line, Begins_tick, Arrives, Gives, Device_ticks, Repeats, Wakes_device, Sets_device, outcome, devices_after}
use Rattle.world_model.specs.State.{Machine}
use Rattle.world_model.specs.Events.{Event, Outside_does, happens, entries, May}
use Rattle.world_model.specs.Lines.{IsEffect}
use Rattle.proof_air.specs.proof_device.Showing.{AllShow}
use Rattle.proof_air.proofs.DevicePlaces.{go_same}
use Rattle.proof_air.specs.proof_walk.Outside.{CoversOuter}
use Rattle.proof_air.specs.proof_walk.Phases.{Phase, Between, Said_line, Begun, Doing, To_tick, Ticked, Arriving, Giving, Ticking_devices, Ticking_chip, Ticking_decoder, Ticking_host, Sleeping, Submitting, Moving, Moved, Turns, Goes}
use Rattle.proof_air.specs.proof_walk.ByLine.{CoversLine}
use Rattle.proof_air.specs.proof_walk.Walk.{Walk, WalkOver}
use Rattle.proof_air.proofs.ByLine.{effect_covered}
use Rattle.proof_air.proofs.Stepping.{Steps, event_then}
use Rattle.proof_air.proofs.Handling.{tie_here}
use Rattle.proof_air.proofs.SentBefore.{but_last}
use Rattle.proof_devices.specs.Living.{Answers, Tie, RestedWith, lived_in, InTick, MayAny, GoesWithin, IsActing, ActsWith, KnowLives}
use Rattle.proof_devices.proofs.Whole.{StandsAt, stands_at}
use Rattle.proof_devices.proofs.Listening.{stands_there}
use Rattle.proof_devices.proofs.Changes.{show_at}
use Rattle.proof_devices.proofs.Replies.{JoinsAs}
use Rattle.proof_devices.proofs.Keeping.{Keeps}
use Rattle.proof_devices.proofs.Together.{KnowTogether}
use Rattle.proof_devices.proofs.Walking.{after_words, moves_one}
use Rattle.proof_devices.proofs.Had.{Asks, Had, did_so}
use Rattle.proof_devices.proofs.Clocks.{KnownClock, MayAt, OfAll, Waits, clock_kept}
use Rattle.proof_devices.proofs.AtOnce.{AreOfNodes, HadBy, event_stands}
use Rattle.proof_devices.proofs.Telling.{IsHearing}

-- ---- what is known of all devices is known by the transcript alone

module _ (olds : List State) (past : List Entry) (m : Machine) (shows : AllShow past olds m.outside.devices) where
  had_at : (ticks : ℕ → ℕ) → Tie Answers olds ticks past m.outside → (node : ℕ) (old : State) → node ≢ controller → (was : StandsAt node olds old) → Had (ticks was.place) node old past
  had_at ticks tie node old apart was =
      let now = stands_there olds m.outside.devices was.place old (go_same olds m.outside.devices tie.go) was.stood in
      let lived = tie.live was.place old now.device was.stood (ap (λ (n : ℕ). place_of n olds) was.own ∙ was.first) (λ is. apart (sym was.own ∙ is)) now.stands in
      let shown = show_at past olds m.outside.devices was.place old now.device shows was.stood now.stands in
      let changed : ChangedAsShown node past old now.device
      = record { changes = shown.changes; changed = shown.changed; entered = ap (λ (n : ℕ). made n past) (sym was.own) ∙ shown.entered } in
      record {
        events = lived.events;
        came = lived.comes ∙ ap (λ (n : ℕ). brought n past) was.own;
        lived = lived.ticked;
        shows = subst (ChangedAsShown node past old) lived.runs changed;
        answered = subst (λ (n : ℕ). sent_from n past ≡ replies_joined n past old lived.events) was.own lived.also.answered;
      }

  -- where all have lived the ticks that have begun
  rested_last : RestedWith Answers olds past m → OfAll olds (λ node old. Had m.outside.outer.clock node old past)
  rested_last rested node old apart found = had_at (λ place. m.outside.outer.clock) rested node old apart (stands_at node olds old found)

  rested_had : RestedWith Answers olds past m → OfAll olds (HadBy m.outside.outer.clock past)
  rested_had rested node old apart found = record { ticks = m.outside.outer.clock; age = inl refl; had = rested_last rested node old apart found }

  -- in a tick
  tick_had : (reached : ℕ) → InTick Answers olds reached past m → OfAll olds (HadBy m.outside.outer.clock past)
  tick_had reached known node old apart found =
      let clock : ℕ = m.outside.outer.clock in
      let was = stands_at node olds old found in
      record { ticks = lived_in reached clock was.place; age = by (nat_lt was.place reached) known.begun; had = had_at (lived_in reached clock) known.tie node old apart was }
    where
      by : (b : Bool) → 1 ≤ m.outside.outer.clock → ((if b then m.outside.outer.clock else m.outside.outer.clock - 1) ≡ m.outside.outer.clock)
          ⊎ (suc (if b then m.outside.outer.clock else m.outside.outer.clock - 1) ≡ m.outside.outer.clock)
      by true begun = inl refl
      by false begun = inr (omega (arith, begun))

-- ---- lines by which devices act

one_event : (line : Line) (m : Machine) (first : Event) (left : List Event) → IsActing line → IsEffect line m (first ∷ left) → left ≡ []
one_event (lines.Repeat frame) m first left acting (inner, (drawn, route, one), are) =
    let all : first ∷ left ≡ Outside_does (Repeats frame drawn route) ∷ [] = are ∙ ap (λ (l : List OuterEvent). map Outside_does l) one in cc
one_event (lines.Wake node) m first left acting (inner, (route, one), are) =
    let all : first ∷ left ≡ Outside_does (Wakes_device node route) ∷ [] = are ∙ ap (λ (l : List OuterEvent). map Outside_does l) one in cc
one_event (lines.Local node value) m first left acting (inner, (route, one), are) =
    let all : first ∷ left ≡ Outside_does (Sets_device node value route) ∷ [] = are ∙ ap (λ (l : List OuterEvent). map Outside_does l) one in cc
one_event line m first left acting is = absurd acting

covers_line : (line : Line) → CoversLine GoesWithin line
covers_line (lines.Repeat frame) = λ drawn route. tt
covers_line (lines.Wake node) = λ route. tt
covers_line (lines.Local node value) = λ route. tt
covers_line lines.Restart = (tt, tt)
covers_line line = tt

-- ---- phases

module _ (olds : List State) (others : AreOfNodes olds) (keeps : Keeps olds Answers JoinsAs) where
  abbrev Ground : Phase → List Entry → Machine → Type 0
  Ground = KnowTogether Answers olds

  abbrev pub AsksAll : List Entry → Entry → Type 0
  AsksAll past e = OfAll olds (λ node old. Asks node old past e)

  abbrev pub KnowClock : Phase → List Entry → Machine → Type 0
  KnowClock Between past m = Unit {0}
  KnowClock (Said_line line) past m = Unit {0}
  KnowClock (Doing line left) past m = AllByRecursion (CoversOuter GoesWithin) left × KnownClock olds m.outside.outer.clock past m
  KnowClock here past m = KnownClock olds m.outside.outer.clock past m

  each_all : (past told : List Entry) → OfAll olds (λ node old. EachAfter (Asks node old) past told) → EachAfter AsksAll past told
  each_all past [] all = tt
  each_all past (e ∷ told) all = ((λ node old apart found. (all node old apart found).0), each_all (past ++ e ∷ []) told (λ node old apart found. (all node old apart found).1))

  said : (past : List Entry) (m : Machine) (words : List ℕ) (line : Line) → line_of (entry.Said words) ≡ line ∷ [] → Ground Between past m → KnowClock Between past m
      → AsksAll past (entry.Said words) × KnowClock (Said_line line) (past ++ entry.Said words ∷ []) m
  said past m words line read ground known =
      let clock = ground.0.0.0.1.0.0.clock in
      ((λ node old apart found. did_so m.outside.outer.clock node old past (entry.Said words) (omega (arith, clock)) (rested_last olds past m ground.1.1 ground.0.1 node old apart found)), tt)

  begins_line : (line : Line) (past : List Entry) (m : Machine) → Ground (Said_line line) past m → Steps AsksAll KnowClock (Begun line) past m (Outside_does Begins_line)
  unfolding happens entries outcome devices_after
  begins_line line past m ground =
      let saying = ground.0.1 in
      let later : Machine = happens m (Outside_does Begins_line) in
      let run : lines_run past ≡ lines_run saying.before ++ line ∷ []
      = ap lines_run saying.is ∙ (shown-append line_of saying.before (entry.Said saying.words ∷ []) ∙ ap (λ (l : List Line). lines_run saying.before ++ (l ++ [])) saying.read) in
      let before : ticks_asked (lines_before past) ≡ ticks_asked (lines_run saying.before)
      = ap (λ (l : List Line). ticks_asked (take (length l - 1) l)) run ∙ ap ticks_asked (but_last (lines_run saying.before) line) in
      let clock = saying.clock in
      let shown = ground.0.0.0.1.0.0.shown in
      let waits : Waits olds m.outside.outer.clock false past later.outside = record {
        is = refl;
        had = λ is. absurd (let none : false ≡ true = is in cc);
        at = λ none. omega (arith, before, clock, shown);
        before = omega (arith, before, clock);
      } in
      (tt, subst (λ (l : List Entry). KnownClock olds m.outside.outer.clock l later) (sym (append-nil past)) (waits, tt))

  begins_tick : (ticks : ℕ) (past : List Entry) (m : Machine) → Ground (To_tick (suc ticks)) past m → KnowClock (To_tick (suc ticks)) past m
      → Steps AsksAll KnowClock (Ticked ticks) past m (Outside_does Begins_tick)
  unfolding happens entries outcome devices_after
  begins_tick ticks past m ground known =
      let later : Machine = happens m (Outside_does Begins_tick) in
      let clock : ℕ = m.outside.outer.clock in
      let next : suc clock ≡ clock + 1 = omega arith in
      let had = rested_last olds past m ground.1.1 ground.0.1 in
      let asked = known.0.before in
      let waits : Waits olds (clock + 1) true past later.outside = record {
        is = refl;
        had = λ is node old apart found. (clock, next, had node old apart found);
        at = λ is. absurd (let none : true ≡ false = is in cc);
        before = omega (arith, asked);
      } in
      let number : EachAfter (MayAt olds (clock + 1)) past (entry.Time (clock + 1) ∷ [])
      = ((λ node old apart found. did_so clock node old past (entry.Time (clock + 1)) next (had node old apart found)), tt) in
      (tt, subst (λ (l : List Entry). KnownClock olds (clock + 1) l later) (sym (append-nil past)) (waits, number))

  module _ (walk : Walk MayAny Ground) where
    -- an event that begins neither a line nor a tick
    step : (here to : Phase) (past : List Entry) (m : Machine) (event : Event) → Goes here m event to → May m event → Ground here past m → CoversOuter GoesWithin event
        → KnownClock olds m.outside.outer.clock past m → (IsHearing event → OfAll olds (HadBy m.outside.outer.clock past))
        → ((later : List Entry) (n : Machine) → Ground to later n → OfAll olds (HadBy n.outside.outer.clock later))
        → ((later : List Entry) (n : Machine) → KnownClock olds n.outside.outer.clock later n → KnowClock to later n)
        → Steps AsksAll KnowClock to past m event
    step here to past m event goes may ground within known before read there =
        let clock : ℕ = m.outside.outer.clock in
        let later : List Entry = past ++ entries m event in
        let n : Machine = happens m event in
        let kept = clock_kept olds clock past m event within may known in
        let same : n.outside.outer.clock ≡ clock = kept.1.0.is in
        let after : OfAll olds (HadBy clock later) = subst (λ (k : ℕ). OfAll olds (HadBy k later)) same (read later n (walk.event here to past m event goes may ground).1) in (
          each_all past (entries m event) (event_stands olds others clock past m event (tie_here here past m ground.0.0.0.0) may ground.1.0 kept.0 before after),
          there later n (subst (λ (k : ℕ). KnownClock olds k later n) (sym same) kept.1),
        )

    -- after which all have lived the ticks that have begun
    rests : (here next to : Phase) (past : List Entry) (m : Machine) (event is : Event) → event ≡ is → next ≡ to → Goes here m is to → May m event → Ground here past m → CoversOuter GoesWithin is
        → KnownClock olds m.outside.outer.clock past m → (IsHearing is → ⊥) → ((later : List Entry) (n : Machine) → Ground to later n → RestedWith Answers olds later n)
        → ((later : List Entry) (n : Machine) → KnownClock olds n.outside.outer.clock later n → KnowClock to later n) → Steps AsksAll KnowClock next past m event
    rests here next to past m event is event_is next_is goes may ground within known quiet read there =
        event_then AsksAll KnowClock next to event is past m event_is next_is
        (step here to past m is goes (subst (May m) event_is may) ground within known (λ heard. absurd (quiet heard)) (λ later n c. rested_had olds later n c.1.1 (read later n c)) there)

    -- in a tick, while devices are still to tick
    ticks_on : (here next to : Phase) (reached : ℕ) (past : List Entry) (m : Machine) (event is : Event) → event ≡ is → next ≡ to → Goes here m is to → May m event → Ground here past m
        → CoversOuter GoesWithin is → KnownClock olds m.outside.outer.clock past m → (IsHearing is → OfAll olds (HadBy m.outside.outer.clock past))
        → ((later : List Entry) (n : Machine) → Ground to later n → InTick Answers olds reached later n)
        → ((later : List Entry) (n : Machine) → KnownClock olds n.outside.outer.clock later n → KnowClock to later n) → Steps AsksAll KnowClock next past m event
    ticks_on here next to reached past m event is event_is next_is goes may ground within known before read there =
        event_then AsksAll KnowClock next to event is past m event_is next_is
        (step here to past m is goes (subst (May m) event_is may) ground within known before (λ later n c. tick_had olds later n c.1.1 reached (read later n c)) there)

    -- before an event of a line's effect
    heard_so : (line : Line) (first : Event) (left : List Event) (past : List Entry) (m : Machine) → AllShow past olds m.outside.devices → ActsWith Answers olds line (first ∷ left) past m
        → IsHearing first → OfAll olds (HadBy m.outside.outer.clock past)
    heard_so (lines.Repeat frame) first left past m shows (opened, acting, is) heard =
        rested_had olds past m shows (after_words Answers olds JoinsAs keeps (lines.Repeat frame) past m opened.0 (λ node ticks. refl))
    heard_so (lines.Wake node) first left past m shows (opened, acting, (inner, (route, one), are)) heard =
        let all : first ∷ left ≡ Outside_does (Wakes_device node route) ∷ [] = are ∙ ap (λ (l : List OuterEvent). map Outside_does l) one in
        let is : first ≡ Outside_does (Wakes_device node route) = cc in
        absurd (subst IsHearing is heard)
    heard_so (lines.Local node value) first left past m shows (opened, acting, (inner, (route, one), are)) heard =
        let all : first ∷ left ≡ Outside_does (Sets_device node value route) ∷ [] = are ∙ ap (λ (l : List OuterEvent). map Outside_does l) one in
        let is : first ≡ Outside_does (Sets_device node value route) = cc in
        absurd (subst IsHearing is heard)
    heard_so line first left past m shows (opened, acting, is) heard = absurd acting

    before_doing : (line : Line) (first : Event) (left : List Event) (past : List Entry) (m : Machine) → AllShow past olds m.outside.devices → KnowLives Answers olds (Doing line (first ∷ left)) past m
        → IsHearing first → OfAll olds (HadBy m.outside.outer.clock past)
    before_doing line first left past m shows (inl acts) heard = heard_so line first left past m shows acts heard
    before_doing line first left past m shows (inr (none, rested)) heard = rested_had olds past m shows rested

    -- of a line by which devices act nothing is left
    done_by : (line : Line) (first : Event) (left : List Event) (past later : List Entry) (m n : Machine) → KnowLives Answers olds (Doing line (first ∷ left)) past m
        → KnowLives Answers olds (Doing line left) later n → RestedWith Answers olds later n
    done_by line first left past later m n known (inr (none, rested)) = rested
    done_by line first left past later m n (inl acts) (inl more) =
        absurd (moves_one line n [] more.1 (subst (IsEffect line n) (one_event line m first left acts.1 acts.2) more.2) tt)
    done_by line first left past later m n (inr (none, rested)) (inl more) = absurd (moves_one line n left more.1 more.2 none.1)

    event_keeps : (here next : Phase) (past : List Entry) (m : Machine) (event : Event) → Goes here m event next → May m event → Ground here past m → KnowClock here past m
        → Steps AsksAll KnowClock next past m event
    event_keeps (Said_line line) next past m event (event_is, next_is) may ground known =
        event_then AsksAll KnowClock next (Begun line) event (Outside_does Begins_line) past m event_is next_is (begins_line line past m ground)
    event_keeps (Doing line (first ∷ left)) next past m event (event_is, next_is) may ground known =
        event_then AsksAll KnowClock next (Doing line left) event first past m event_is next_is
        (step (Doing line (first ∷ left)) (Doing line left) past m first (refl, refl) (subst (May m) event_is may) ground known.0.0 known.1
        (before_doing line first left past m ground.1.1 ground.0.1)
        (λ later n c. rested_had olds later n c.1.1 (done_by line first left past later m n ground.0.1 c.0.1)) (λ later n k. (known.0.1, k)))
    event_keeps (To_tick (suc ticks)) next past m event (event_is, next_is) may ground known =
        event_then AsksAll KnowClock next (Ticked ticks) event (Outside_does Begins_tick) past m event_is next_is (begins_tick ticks past m ground known)
    event_keeps (Arriving (suc frames) ticks) next past m event (drawn, route, event_is, next_is) may ground known =
        ticks_on (Arriving (suc frames) ticks) next (Arriving frames ticks) 0 past m event (Outside_does (Arrives drawn route)) event_is next_is (drawn, route, refl, refl) may ground tt known
        (λ heard. tick_had olds past m ground.1.1 0 ground.0.1.0) (λ later n c. c.0.1.0) (λ later n k. k)
    event_keeps (Giving (suc results) ticks) next past m event (route, event_is, next_is) may ground known =
        ticks_on (Giving (suc results) ticks) next (Giving results ticks) 0 past m event (Outside_does (Gives route)) event_is next_is (route, refl, refl) may ground tt known
        (λ heard. absurd heard) (λ later n c. c.0.1) (λ later n k. k)
    event_keeps (Ticking_devices place (suc count) ticks) next past m event (drawn, route, event_is, next_is) may ground known =
        ticks_on (Ticking_devices place (suc count) ticks) next (Ticking_devices (place + 1) count ticks) (place + 1) past m event (Outside_does (Device_ticks place drawn route)) event_is next_is
        (drawn, route, refl, refl) may ground tt known (λ heard. absurd heard) (λ later n c. c.0.1.0) (λ later n k. k)
    event_keeps (Ticking_chip ticks) next past m event (event_is, next_is) may ground known =
        rests (Ticking_chip ticks) next (Ticking_decoder ticks) past m event _ event_is next_is (refl, refl) may ground tt known (λ heard. heard) (λ later n c. c.0.1) (λ later n k. k)
    event_keeps (Ticking_decoder ticks) next past m event (event_is, next_is) may ground known =
        rests (Ticking_decoder ticks) next (Ticking_host (tick_events m.host.state) ticks) past m event _ event_is next_is (refl, refl) may ground tt known (λ heard. heard) (λ later n c. c.0.1) (λ later n k. k)
    event_keeps (Ticking_host (first ∷ events) ticks) next past m event (event_is, next_is) may ground known =
        rests (Ticking_host (first ∷ events) ticks) next (Ticking_host events ticks) past m event _ event_is next_is (refl, refl) may ground tt known (λ heard. heard) (λ later n c. c.0.1) (λ later n k. k)
    event_keeps (Sleeping passes ticks) next past m event (node, wants, event_is, next_is) may ground known =
        rests (Sleeping passes ticks) next (Sleeping passes ticks) past m event _ event_is next_is (node, wants, refl, refl) may ground tt known (λ heard. heard) (λ later n c. c.0.1) (λ later n k. k)
    event_keeps (Submitting passes ticks) next past m event (asked, is, event_is, next_is) may ground known =
        rests (Submitting passes ticks) next (Submitting passes ticks) past m event _ event_is next_is (asked, is, refl, refl) may ground tt known (λ heard. heard) (λ later n c. c.0.1) (λ later n k. k)
    event_keeps (Moving passes ticks) next past m event (rest, ways, event_is, next_is) may ground known =
        rests (Moving passes ticks) next (Moved true passes ticks) past m event _ event_is next_is (rest, ways, refl, refl) may ground tt known (λ heard. heard) (λ later n c. c.0.1) (λ later n k. k)
    event_keeps (Moved has_moved passes ticks) next past m event (rest, items, done, event_is, next_is) may ground known =
        rests (Moved has_moved passes ticks) next (Sleeping passes ticks) past m event _ event_is next_is (rest, items, done, refl, refl) may ground tt known (λ heard. heard) (λ later n c. c.0.1)
        (λ later n k. k)
    event_keeps here next past m event goes may ground known = absurd goes

    to : (next phase : Phase) (past : List Entry) (m : Machine) → next ≡ phase → KnowClock phase past m → KnowClock next past m
    to next phase past m is known = subst (λ (q : Phase). KnowClock q past m) (sym is) known

    turn_keeps : (here next : Phase) (past : List Entry) (m : Machine) → Turns here m next → Ground here past m → KnowClock here past m → KnowClock next past m
    turn_keeps (Begun line) next past m (inl (events, is, next_is)) ground known =
        to next (Doing line events) past m next_is (effect_covered GoesWithin line m events (covers_line line) is, known)
    turn_keeps (Begun line) next past m (inr (ticks, line_is, next_is)) ground known = to next (To_tick ticks) past m next_is known
    turn_keeps (Doing line []) next past m next_is ground known = to next (Sleeping 64 0) past m next_is known.1
    turn_keeps (To_tick zero) next past m next_is ground known = to next Between past m next_is tt
    turn_keeps (Ticked ticks) next past m next_is ground known = to next (Arriving _ ticks) past m next_is known
    turn_keeps (Arriving zero ticks) next past m next_is ground known = to next (Giving _ ticks) past m next_is known
    turn_keeps (Giving zero ticks) next past m next_is ground known = to next (Ticking_devices 0 (length m.outside.devices) ticks) past m next_is known
    turn_keeps (Ticking_devices place zero ticks) next past m next_is ground known = to next (Ticking_chip ticks) past m next_is known
    turn_keeps (Ticking_host [] ticks) next past m next_is ground known = to next (Sleeping 64 ticks) past m next_is known
    turn_keeps (Sleeping passes ticks) next past m (wants, next_is) ground known = to next (Submitting passes ticks) past m next_is known
    turn_keeps (Submitting zero ticks) next past m (pumped, next_is) ground known = to next (To_tick ticks) past m next_is known
    turn_keeps (Submitting (suc passes) ticks) next past m (pumped, next_is) ground known = to next (Moving passes ticks) past m next_is known
    turn_keeps (Moving passes ticks) next past m (still, next_is) ground known = to next (Moved false passes ticks) past m next_is known
    turn_keeps (Moved has_moved passes ticks) next past m (still, next_is) ground known = to next (Sleeping _ ticks) past m next_is known
    turn_keeps here next past m turns ground known = absurd turns

    pub standing_walk : WalkOver Ground AsksAll KnowClock
    standing_walk = record { said = said; event = event_keeps; turn = turn_keeps }

  -- what is asked of all is asked of each
  pub each_one : (node : ℕ) (old : State) → node ≢ controller → device_of node olds ≡ Some old → (past told : List Entry) → EachAfter AsksAll past told → EachAfter (Asks node old) past told
  each_one node old apart found past [] all = tt
  each_one node old apart found past (e ∷ told) all = (all.0 node old apart found, each_one node old apart found (past ++ e ∷ []) told all.1)
