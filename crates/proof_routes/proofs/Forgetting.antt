-- Over the lines of a run, on the walk of networks: the frames on the air are those that the transcript shows, with the marks that are left; each hop that is to be forgotten is forgotten
-- at once, and no other.
use Rattle.std.proofs.Common.{◌≡◌, ℕ, zero, suc, ◌+◌, Bool, true, false, List, [], ◌∷◌, ◌++◌, refl, sym, ap, ap₂, subst, ◌∙◌, inl, inr, append-nil, arith}
use Rattle.std.specs.List.{AllByRecursion}
use Rattle.air_frames.specs.Frames.{no_frames}
use Rattle.route_table.specs.Network.{Link}
use Rattle.device_sim.specs.State.{State}
use Rattle.zw_text.specs.declared.line.Line.{Line}
use Rattle.zw_text.specs.declared.line.Line.TheVariants as lines
use Rattle.zw_text.specs.declared.entry.Entry.{Entry}
use Rattle.zw_text.specs.declared.entry.Entry.TheVariants as entry
use Rattle.zw_text.specs.Transcript.{line_of}
use Rattle.law_wire.specs.law_transcript.Fates.{marks_asked}
use Rattle.law_wire.specs.law_transcript.Lists.{EachAfter}
use Rattle.law_wire.specs.Arriving.{forgets}
use Rattle.law_wire.specs.Networks.{links_after, air_links}
use Rattle.host_model.specs.Events.{Joins as joins_host}
use Rattle.host_model.specs.Ticking.{tick_events}
use Rattle.outside_model.specs.State.{OuterState, first_outer}
use Rattle.outside_model.specs.Events.{OuterEvent, Begins_line, Arrives, Joins, Discovers, Links, Loses, is_own, outcome, devices_after, ticked_entry}
use Rattle.proof_walk.specs.world_model.State.{Machine}
use Rattle.proof_walk.specs.world_model.Events.{Event, Outside_does, Host_does, Refuses, happens, entries, May}
use Rattle.proof_walk.specs.world_model.Lines.{IsEffect}
use Rattle.proof_walk.specs.Phases.{Phase, Between, Said_line, Begun, Doing, To_tick, Ticked, Arriving, Giving, Ticking_devices, Ticking_chip, Ticking_decoder, Ticking_host, Sleeping, Submitting, Moving, Moved, Turns, Goes}
use Rattle.proof_walk.specs.ByLine.{CoversLine}
use Rattle.proof_walk.specs.Walk.{WalkOver}
use Rattle.proof_walk.specs.Outside.{CoversOuter}
use Rattle.proof_walk.proofs.ByLine.{effect_covered}
use Rattle.proof_walk.proofs.Machines.{machine_keeps}
use Rattle.proof_walk.proofs.Stepping.{Steps, event_then}
use Rattle.proof_routes.specs.Networks.{HasLinks, Tie}
use Rattle.proof_routes.specs.Knowing.{Saying, Opened, IsPlain, Left, KnowNetworks}
use Rattle.proof_routes.specs.Forgetting.{Passage, MayForget, passages, HasPassages, LosesNone, HasMarks, AwaitsMarks, KnowMarks, KnowsFrames, KnowPassages, IsLosing}
use Rattle.proof_routes.proofs.Books.{air_grows}
use Rattle.proof_routes.proofs.Coming.{NotHome}
use Rattle.proof_routes.proofs.Leaving.{StartsSo}
use Rattle.proof_routes.proofs.Outer.{home_of}
use Rattle.proof_routes.proofs.Saying.{tie_of}
use Rattle.proof_routes.proofs.Passages.{marks_grow, passages_said}
use Rattle.proof_routes.proofs.Sending.{Anything, any_stand, KnowsSends, LeavesAir, sending_law}
use Rattle.proof_routes.proofs.Mute.{NoArrival, event_mute}
use Rattle.proof_routes.proofs.Arriving.{mute_on, arrives_on}

hosts : (event : OuterEvent) → is_own event ≡ false → LeavesAir event
hosts (Joins node) own = absurd (let bad : true ≡ false = own in cc)
hosts (Links a b live) own = absurd (let bad : true ≡ false = own in cc)
hosts (Loses count) own = absurd (let bad : true ≡ false = own in cc)
hosts event own = tt

-- where no line asks for marks
abbrev Rests : List Entry → Machine → Type 0
Rests past m = KnowsFrames past m × HasMarks past m

abbrev Rides : List Entry → Machine → Event → Type 0
Rides past m event = EachAfter MayForget past (entries m event) × Rests (past ++ entries m event) (happens m event)

at_rides : (past : List Entry) (m : Machine) (event is : Event) → event ≡ is → Rides past m is → Rides past m event
at_rides past m event is same rides = subst (Rides past m) (sym same) rides

-- ---- events that enter nothing and send nothing

-- a node joins the air
joins_ride : (past : List Entry) (m : Machine) (node : ℕ) → Rests past m → Rides past m (Outside_does (Joins node))
unfolding happens entries outcome devices_after
joins_ride past m node known = (tt, subst (λ (l : List Entry). Rests l (happens m (Outside_does (Joins node)))) (sym (append-nil past)) known)

-- a link is set
links_ride : (past : List Entry) (m : Machine) (a b : ℕ) (live : Bool) → Rests past m → Rides past m (Outside_does (Links a b live))
unfolding happens entries outcome devices_after
links_ride past m a b live known = (tt, subst (λ (l : List Entry). Rests l (happens m (Outside_does (Links a b live)))) (sym (append-nil past)) known)

-- frames are marked
loses_ride : (past : List Entry) (m : Machine) (count : ℕ) → KnowsFrames past m → AwaitsMarks (lines.Lose count) past m → Rides past m (Outside_does (Loses count))
unfolding happens entries outcome devices_after
loses_ride past m count known marks = (tt, subst (λ (l : List Entry). Rests l (happens m (Outside_does (Loses count)))) (sym (append-nil past)) (known, marks))

-- a line begins
begins_ride : (line : Line) (past : List Entry) (m : Machine) → KnowPassages (Said_line line) past m → Steps MayForget KnowPassages (Begun line) past m (Outside_does Begins_line)
unfolding happens entries outcome devices_after
begins_ride line past m known = (tt, subst (λ (l : List Entry). KnowPassages (Begun line) l (happens m (Outside_does Begins_line))) (sym (append-nil past)) known)

module _ (devices : List State) (rules : StartsSo) where
  -- ---- any other event

  keeps : (past : List Entry) (m : Machine) (event : Event) → CoversOuter LeavesAir event → May m event → HasLinks m.outside.outer.air.network (air_links past) → NotHome m.outside.outer.air.joined
      → HasPassages (passages past) m.outside.outer.air.frames → HasMarks past m
      → HasPassages (passages (past ++ entries m event)) (happens m event).outside.outer.air.frames × HasMarks (past ++ entries m event) (happens m event)
  keeps past m event covers may hears home has marks =
      let got = machine_keeps Anything KnowsSends LeavesAir (sending_law rules) hosts m event covers may past (
        record {
          has = subst (λ (l : List Passage). HasPassages l m.outside.outer.air.frames) (sym (append-nil (passages past))) has;
          marks = omega (arith, marks);
          own = tt;
          home = home;
          hears = hears;
        },
        any_stand past (ticked_entry m.outside.outer),
      ) in
      let left = got.1.0.marks in (
        subst (λ (l : List Passage). HasPassages l (happens m event).outside.outer.air.frames) (append-nil (passages (past ++ entries m event))) got.1.0.has,
        omega (arith, left),
      )

  quietly : (past : List Entry) (m : Machine) (event : Event) → CoversOuter LeavesAir event → NoArrival event → HasLinks m.outside.outer.air.network (air_links past) → NotHome m.outside.outer.air.joined
      → May m event → Rests past m → Rides past m event
  quietly past m event covers none hears home may known =
      let forgot = mute_on past (entries m event) (event_mute m event may none) known.0.1 in
      let kept = keeps past m event covers may hears home known.0.0 known.1 in
      (forgot.0, ((kept.0, forgot.1), kept.1))

  -- where the networks are those of the transcript
  event_rides : (past : List Entry) (m : Machine) (event : Event) → CoversOuter LosesNone event → Tie devices past m.outside → May m event → Rests past m → Rides past m event
  unfolding entries
  event_rides past m (Outside_does (Arrives drawn route)) loses tie may known =
      let forgot = arrives_on devices past m.outside tie known.0.0 drawn route known.0.1 in
      let kept = keeps past m (Outside_does (Arrives drawn route)) tt may tie.air_hears (home_of devices past m.outside tie) known.0.0 known.1 in
      (forgot.0, ((kept.0, forgot.1), kept.1))
  event_rides past m (Outside_does (Joins node)) loses tie may known = joins_ride past m node known
  event_rides past m (Outside_does (Links a b live)) loses tie may known = links_ride past m a b live known
  event_rides past m (Outside_does (Loses count)) loses tie may known = absurd loses
  event_rides past m event loses tie may known = quietly past m event tt tt tie.air_hears (home_of devices past m.outside tie) may known

  -- ---- the next event of an effect

  -- after the words of a line that sets no link of the air
  hears_after : (line : Line) (past : List Entry) (m : Machine) → ((links : List Link) → links_after links (line ∷ []) ≡ links) → Saying devices line past m
      → HasLinks m.outside.outer.air.network (air_links past)
  hears_after line past m sets saying =
      let before : List Entry = saying.before in
      let links : air_links past ≡ air_links before
      = ap air_links saying.is ∙ (air_grows before (entry.Said saying.words) ∙ (ap (λ (l : List Line). links_after (air_links before) l) saying.read ∙ sets (air_links before))) in
      subst (HasLinks m.outside.outer.air.network) (sym links) saying.tie.air_hears

  set_rides : (line : Line) (first : Event) (left : List Event) (past : List Entry) (m : Machine) → May m first → Opened devices line past m → (IsPlain line → ⊥) → IsEffect line m (first ∷ left)
      → Rests past m → Rides past m first
  set_rides line first left past m may opened not_plain is known = by line opened.0 not_plain is
    where
      this : (event : Event) → first ≡ event → (May m event → Rides past m event) → Rides past m first
      this event same rides = at_rides past m first event same (rides (subst (May m) same may))

      home : NotHome m.outside.outer.air.joined
      home = home_of devices opened.0.before m.outside opened.0.tie

      by : (line : Line) → Saying devices line past m → (IsPlain line → ⊥) → IsEffect line m (first ∷ left) → Rides past m first
      by (lines.Join node) saying not_plain (inl are) =
          let same : first ≡ Host_does (joins_host node) = cc in
          this (Host_does (joins_host node)) same (λ may. quietly past m (Host_does (joins_host node)) tt tt (hears_after (lines.Join node) past m (λ links. refl) saying) home may known)
      by (lines.Join node) saying not_plain (inr (refusal, are)) =
          let same : first ≡ Refuses (lines.Join node) refusal = cc in
          this (Refuses (lines.Join node) refusal) same (λ may. quietly past m (Refuses (lines.Join node) refusal) tt tt (hears_after (lines.Join node) past m (λ links. refl) saying) home may known)
      by (lines.Link a b) saying not_plain are = let same : first ≡ Outside_does (Links a b true) = cc in this (Outside_does (Links a b true)) same (λ may. links_ride past m a b true known)
      by (lines.Unlink a b) saying not_plain are = let same : first ≡ Outside_does (Links a b false) = cc in this (Outside_does (Links a b false)) same (λ may. links_ride past m a b false known)
      by lines.Discover saying not_plain (asked, asks, are) =
          let same : first ≡ Outside_does Discovers = cc in
          this (Outside_does Discovers) same (λ may. quietly past m (Outside_does Discovers) tt tt (hears_after lines.Discover past m (λ links. refl) saying) home may known)
      by line saying not_plain is = absurd (not_plain tt)

  does_rides : (line : Line) (first : Event) (left : List Event) (past : List Entry) (m : Machine) → CoversOuter LosesNone first → May m first → Left devices line (first ∷ left) past m → Rests past m
      → Rides past m first
  does_rides line first left past m loses may (inl (opened, not_plain, is)) known = set_rides line first left past m may opened not_plain is known
  does_rides line first left past m loses may (inr (inl joining)) known =
      let all = joining.left_is in
      let same : first ≡ Outside_does (Joins joining.node) = cc in
      at_rides past m first (Outside_does (Joins joining.node)) same (joins_ride past m joining.node known)
  does_rides line first left past m loses may (inr (inr (inl (covered, settled)))) known = event_rides past m first loses settled.0.0.0 may known
  does_rides line first left past m loses may (inr (inr (inr (none, joined)))) known = absurd (let is : first ∷ left ≡ [] = none in cc)

  -- the one that marks frames
  marks_ride : (line : Line) (first : Event) (left : List Event) (past : List Entry) (m : Machine) → IsEffect line m (first ∷ left) → AwaitsMarks line past m → KnowsFrames past m → IsLosing line
      → Steps MayForget KnowPassages (Doing line left) past m first
  marks_ride (lines.Lose count) first left past m is marks known losing =
      let same : first ≡ Outside_does (Loses count) = cc in
      let none : left ≡ [] = cc in
      let rides = at_rides past m first (Outside_does (Loses count)) same (loses_ride past m count known marks) in
      (rides.0, (rides.1.0, inr (subst (AllByRecursion (CoversOuter LosesNone)) (sym none) tt, rides.1.1)))
  marks_ride line first left past m is marks known losing = absurd losing

  doing : (line : Line) (first : Event) (left : List Event) (past : List Entry) (m : Machine) → May m first → Left devices line (first ∷ left) past m → KnowPassages (Doing line (first ∷ left)) past m
      → Steps MayForget KnowPassages (Doing line left) past m first
  doing line first left past m may ground (known, inl (losing, is, marks)) = marks_ride line first left past m is marks known losing
  doing line first left past m may ground (known, inr (loses, marks)) =
      let rides = does_rides line first left past m loses.0 may ground (known, marks) in
      (rides.0, (rides.1.0, inr (loses.1, rides.1.1)))

  -- ---- an event of a run

  rests : (next to : Phase) (event is : Event) (past : List Entry) (m : Machine) → event ≡ is → next ≡ to → CoversOuter LosesNone is → May m event → Tie devices past m.outside → Rests past m
      → ((later : List Entry) (n : Machine) → Rests later n → KnowPassages to later n) → Steps MayForget KnowPassages next past m event
  rests next to event is past m event_is next_is loses may tie known there =
      let got = event_rides past m is loses tie (subst (May m) event_is may) known in
      event_then MayForget KnowPassages next to event is past m event_is next_is (got.0, there (past ++ entries m is) (happens m is) got.1)

  goes_on : (here next : Phase) (past : List Entry) (m : Machine) (event : Event) → Goes here m event next → May m event → KnowNetworks devices here past m → KnowPassages here past m
      → Steps MayForget KnowPassages next past m event
  goes_on (Said_line line) next past m event (event_is, next_is) may ground known =
      event_then MayForget KnowPassages next (Begun line) event (Outside_does Begins_line) past m event_is next_is (begins_ride line past m known)
  goes_on (Doing line (first ∷ left)) next past m event (event_is, next_is) may ground known =
      event_then MayForget KnowPassages next (Doing line left) event first past m event_is next_is (doing line first left past m (subst (May m) event_is may) ground known)
  goes_on (To_tick (suc ticks)) next past m event (event_is, next_is) may ground known = rests next (Ticked ticks) event _ past m event_is next_is tt may (tie_of devices past m ground) known (λ p n k. k)
  goes_on (Arriving (suc frames) ticks) next past m event (drawn, route, event_is, next_is) may ground known =
      rests next (Arriving frames ticks) event _ past m event_is next_is tt may (tie_of devices past m ground) known (λ p n k. k)
  goes_on (Giving (suc results) ticks) next past m event (route, event_is, next_is) may ground known =
      rests next (Giving results ticks) event _ past m event_is next_is tt may (tie_of devices past m ground) known (λ p n k. k)
  goes_on (Ticking_devices place (suc count) ticks) next past m event (drawn, route, event_is, next_is) may ground known =
      rests next (Ticking_devices (place + 1) count ticks) event _ past m event_is next_is tt may (tie_of devices past m ground) known (λ p n k. k)
  goes_on (Ticking_chip ticks) next past m event (event_is, next_is) may ground known = rests next (Ticking_decoder ticks) event _ past m event_is next_is tt may (tie_of devices past m ground) known (λ p n k. k)
  goes_on (Ticking_decoder ticks) next past m event (event_is, next_is) may ground known =
      rests next (Ticking_host (tick_events m.host.state) ticks) event _ past m event_is next_is tt may (tie_of devices past m ground) known (λ p n k. k)
  goes_on (Ticking_host (first ∷ events) ticks) next past m event (event_is, next_is) may ground known =
      rests next (Ticking_host events ticks) event _ past m event_is next_is tt may (tie_of devices past m ground.1) known (λ p n k. k)
  goes_on (Sleeping passes ticks) next past m event (node, wants, event_is, next_is) may ground known =
      rests next (Sleeping passes ticks) event _ past m event_is next_is tt may (tie_of devices past m ground) known (λ p n k. k)
  goes_on (Submitting passes ticks) next past m event (asked, is, event_is, next_is) may ground known =
      rests next (Submitting passes ticks) event _ past m event_is next_is tt may (tie_of devices past m ground) known (λ p n k. k)
  goes_on (Moving passes ticks) next past m event (rest, ways, event_is, next_is) may ground known =
      rests next (Moved true passes ticks) event _ past m event_is next_is tt may (tie_of devices past m ground) known (λ p n k. k)
  goes_on (Moved has_moved passes ticks) next past m event (rest, items, done, event_is, next_is) may ground known =
      rests next (Sleeping passes ticks) event _ past m event_is next_is tt may (tie_of devices past m ground) known (λ p n k. k)
  goes_on here next past m event goes may ground known = absurd goes

  -- ---- the words of a line

  said : (past : List Entry) (m : Machine) (words : List ℕ) (line : Line) → line_of (entry.Said words) ≡ line ∷ [] → KnowNetworks devices Between past m → KnowPassages Between past m
      → MayForget past (entry.Said words) × KnowPassages (Said_line line) (past ++ entry.Said words ∷ []) m
  said past m words line read ground known =
      let said : Entry = entry.Said words in
      let forgot = mute_on past (said ∷ []) (tt, tt) known.0.1 in (
        forgot.0.0,
        (
          (subst (λ (l : List Passage). HasPassages l m.outside.outer.air.frames) (sym (passages_said past words)) known.0.0, forgot.1),
          marks_grow past said ∙ ap₂ (λ (k : ℕ) (l : List Line). k + marks_asked l) known.1 read,
        ),
      )

  -- ---- each part that begins

  covers_line : (line : Line) → (IsLosing line → ⊥) → CoversLine LosesNone line
  covers_line (lines.Lose count) none = absurd (none tt)
  covers_line (lines.Repeat frame) none = λ drawn route. tt
  covers_line (lines.Wake node) none = λ route. tt
  covers_line (lines.Local node value) none = λ route. tt
  covers_line lines.Restart none = (tt, tt)
  covers_line line none = tt

  -- it asks for none
  unasked : (line : Line) (past : List Entry) (m : Machine) → marks_asked (line ∷ []) ≡ 0 → AwaitsMarks line past m → HasMarks past m
  unasked line past m none awaits = omega (arith, none, awaits)

  begins_effect : (line : Line) (events : List Event) (past : List Entry) (m : Machine) → IsEffect line m events → AwaitsMarks line past m → KnowMarks (Doing line events) past m
  begins_effect (lines.Lose count) events past m is awaits = inl (tt, is, awaits)
  begins_effect line events past m is awaits = inr (effect_covered LosesNone line m events (covers_line line (λ losing. losing)) is, unasked line past m refl awaits)

  effect_done : (line : Line) (past : List Entry) (m : Machine) → KnowMarks (Doing line []) past m → HasMarks past m
  effect_done (lines.Lose count) past m (inl (losing, is, marks)) = absurd (let none : [] ≡ Outside_does (Loses count) ∷ [] = is in cc)
  effect_done line past m (inl (losing, is, marks)) = absurd losing
  effect_done line past m (inr (none, marks)) = marks

  to : (next phase : Phase) (past : List Entry) (m : Machine) → next ≡ phase → KnowPassages phase past m → KnowPassages next past m
  to next phase past m is known = subst (λ (q : Phase). KnowPassages q past m) (sym is) known

  turns_on : (here next : Phase) (past : List Entry) (m : Machine) → Turns here m next → KnowPassages here past m → KnowPassages next past m
  turns_on (Begun line) next past m (inl (events, is, next_is)) known = to next (Doing line events) past m next_is (known.0, begins_effect line events past m is known.1)
  turns_on (Begun line) next past m (inr (ticks, line_is, next_is)) known =
      to next (To_tick ticks) past m next_is (known.0, unasked (lines.Tick ticks) past m refl (subst (λ (l : Line). AwaitsMarks l past m) line_is known.1))
  turns_on (Doing line []) next past m next_is known = to next (Sleeping 64 0) past m next_is (known.0, effect_done line past m known.1)
  turns_on (To_tick zero) next past m next_is known = to next Between past m next_is known
  turns_on (Ticked ticks) next past m next_is known = to next (Arriving _ ticks) past m next_is known
  turns_on (Arriving zero ticks) next past m next_is known = to next (Giving _ ticks) past m next_is known
  turns_on (Giving zero ticks) next past m next_is known = to next (Ticking_devices 0 _ ticks) past m next_is known
  turns_on (Ticking_devices place zero ticks) next past m next_is known = to next (Ticking_chip ticks) past m next_is known
  turns_on (Ticking_host [] ticks) next past m next_is known = to next (Sleeping 64 ticks) past m next_is known
  turns_on (Sleeping passes ticks) next past m (wants, next_is) known = to next (Submitting passes ticks) past m next_is known
  turns_on (Submitting zero ticks) next past m (pumped, next_is) known = to next (To_tick ticks) past m next_is known
  turns_on (Submitting (suc passes) ticks) next past m (pumped, next_is) known = to next (Moving passes ticks) past m next_is known
  turns_on (Moving passes ticks) next past m (still, next_is) known = to next (Moved false passes ticks) past m next_is known
  turns_on (Moved has_moved passes ticks) next past m (still, next_is) known = to next (Sleeping _ ticks) past m next_is known
  turns_on here next past m turns known = absurd turns

  pub forgetting_walk : WalkOver (KnowNetworks devices) MayForget KnowPassages
  forgetting_walk = record { said = said; event = goes_on; turn = λ here next past m turns ground known. turns_on here next past m turns known }

-- ---- the beginning

pub first_passages : (m : Machine) → m.outside.outer ≡ first_outer → KnowPassages Between [] m
unfolding first_outer no_frames
first_passages m is =
    subst (λ (o : OuterState). (HasPassages [] o.air.frames × (forgets [] ≡ [])) × (0 ≡ o.air.losing)) (sym is) ((record { sent = refl; order = omega arith; stay = refl; apart = tt }, refl), refl)
