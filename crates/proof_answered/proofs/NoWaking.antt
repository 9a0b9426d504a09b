-- Whether a frame on the air, or one that the chip has for the host, tells that its node is awake, from phase to phase: none does, or one that was said in the `wake` line.
use Rattle.std.proofs.Common.{◌≡◌, ◌≤◌, ◌<◌, ℕ, ◌+◌, nat_lt, inl, inr, Bool, true, List, [], ◌∷◌, ◌++◌, length, refl, sym, ap, ◌∙◌, subst, suc, arith}
use Rattle.std.specs.Prelude.{◌||◌, Option, Some, option_map, slice_get}
use Rattle.std.specs.Option.{is_none, unwrap_or}
use Rattle.std.specs.List.{AllByRecursion}
use Rattle.zw_base.proofs.Each.{all-append, all-weaker}
use Rattle.serial_frame.specs.Frame.{FrameParts}
use Rattle.route_table.specs.declared.route.Route.{Route}
use Rattle.chip_functions.specs.declared.notice.Notice.TheVariants.{ApplicationCommandHandler}
use Rattle.chip_sim.specs.Answers.{notice_frame}
use Rattle.chip_sim.specs.Nodes.{is_marked}
use Rattle.air_frames.specs.Flown.{Flown}
use Rattle.air_frames.specs.Frames.{next_of}
use Rattle.air_frames.specs.History.{Goes as goes_mark}
use Rattle.air_frames.specs.declared.frame.Departure.{Departure}
use Rattle.air_frames.specs.declared.frame.Heading.TheVariants.{Homeward}
use Rattle.device_sim.specs.Event.{Wakes, device_replies}
use Rattle.device_sim.specs.State.{State}
use Rattle.mesh_sim.specs.Air.{AirState, departing, is_joined, no_route}
use Rattle.mesh_sim.specs.Fates.{place_of}
use Rattle.mesh_sim.specs.Routes.{backwards}
use Rattle.mesh_sim.specs.Steps.{answered, answered_if}
use Rattle.outside_model.specs.Devices.{acts_at, acts_by_hand}
use Rattle.outside_model.specs.Events.{Arrives, Wakes_device, outcome, happens as happens_outside}
use Rattle.outside_model.specs.State.{Outside}
use Rattle.world_model.specs.Events.{Event, Outside_does, happens, May}
use Rattle.world_model.specs.State.{Machine}
use Rattle.proof_device.proofs.ChangesOutside.{place_is}
use Rattle.proof_calm.specs.proof_traffic.Flights.{Fly, flown_now}
use Rattle.proof_calm.specs.proof_traffic.OnAir.{on_air}
use Rattle.proof_calm.specs.proof_work.proof_walk.Phases.{Phase, Arriving, Goes}
use Rattle.proof_calm.specs.Awaited.{Awaits, AwaitsAt}
use Rattle.proof_calm.specs.Live.{HasLive}
use Rattle.proof_calm.specs.Resting.{IsGiven, LineAt}
use Rattle.proof_calm.specs.Routed.{IsRouted}
use Rattle.proof_calm.specs.Tied.{RoomAt, TieAt, unheard}
use Rattle.proof_calm.proofs.ChipNotices.{entered_leaves}
use Rattle.proof_calm.proofs.Flights.{flights_are}
use Rattle.proof_calm.proofs.Peopled.{covers_of}
use Rattle.proof_calm.proofs.proof_traffic_Parts.{Airs}
use Rattle.proof_answered.specs.Outward.{IsOf, IsOfSaying, IsSentTo}
use Rattle.proof_answered.specs.Said.{SaysThen}
use Rattle.proof_answered.specs.Sleepers.{BringsNotification, Comes_home, Flies_home, HasOne, HasSleeper, IsNotification, IsQuietFlown, IsQuietFrame, NoneWakes, OneWakes, TellsQuietly, TellsWaking}
use Rattle.proof_answered.specs.Workers.{LinesAt, OnlySpeak}
use Rattle.proof_answered.proofs.Brought.{IsArriving, at_arrival, home_comes}
use Rattle.proof_answered.proofs.Outwards.{awaits_of, marked_within, next_flight, next_is_live}
use Rattle.proof_answered.proofs.Speaking.{AirOn, Arrived, Lands, Same, Stays, answer_brings, call_brings, event_on, payload_brings, update_brings}
use Rattle.proof_answered.proofs.Staffed.{line_on}
use Rattle.proof_answered.proofs.Unheard.{AreJudged, IsPiled, all_behind, all_piled, arrives_says, effect_says, event_says}

-- ---- one of them is so, and the others are otherwise

one_behind : {X : Type 0} (Is Others : X → Type 0) (xs ys : List X) → HasOne Is Others xs → AllByRecursion Others ys → HasOne Is Others (xs ++ ys)
one_behind Is Others [] ys one all = absurd one
one_behind Is Others (x ∷ xs) ys (inl (is, others)) all = inl (is, all-append Others xs ys others all)
one_behind Is Others (x ∷ xs) ys (inr (other, one)) all = inr (other, one_behind Is Others xs ys one all)

one_last : {X : Type 0} (Is Others : X → Type 0) (xs : List X) (x : X) → AllByRecursion Others xs → Is x → HasOne Is Others (xs ++ x ∷ [])
one_last Is Others [] x all is = inl (is, tt)
one_last Is Others (y ∷ xs) x all is = inr (all.0, one_last Is Others xs x all.1 is)

one_piled : (Is Others : FrameParts → Type 0) → IsPiled Others (HasOne Is Others)
one_piled Is Others = record { first = λ frame frames other one. inr (other, one); last = λ frames frame one other. one_behind Is Others frames (frame ∷ []) one (other, tt) }

-- ---- what a frame brings

abbrev Quiet : ℕ → List ℕ → Type 0
Quiet n payload = TellsQuietly payload

-- ---- from phase to phase

module _ (airs : Airs) (same : Same) (these : List Bool) (many : length these ≡ 233) where
  abbrev IsSaid : Flown → Type 0
  IsSaid = IsOfSaying these TellsQuietly

  said_quiet : (frames : List Flown) → AllByRecursion IsSaid frames → AllByRecursion IsQuietFlown frames
  said_quiet frames all = all-weaker IsSaid IsQuietFlown (λ frame of. of.1) frames all

  module _ (here next : Phase) (m : Machine) (event : Event) (goes : Goes here m event next) (may : May m event) (at : LineAt here m × RoomAt here m × IsRouted m.outside.outer × TieAt here m) (awaits : AwaitsAt here m)
      (later : LineAt next (happens m event)) (sent : IsSentTo these m event) (lines : LinesAt these here) (speak : OnlySpeak these m) (says : SaysThen these TellsQuietly m event) where
    abbrev flying : List Flown
    flying = on_air m.outside.outer.air.frames

    abbrev then_flying : List Flown
    then_flying = on_air (happens m event).outside.outer.air.frames

    is : Awaits m
    is = awaits_of here m awaits

    air : AirOn IsSaid m event
    air = event_on airs these TellsQuietly many m is speak.frames same event (covers_of here next m event goes at.0) may sent (line_on these here next m event goes lines) speak.devices says

    next_among : (Is : Flown → Type 0) → AllByRecursion Is flying → (frame : Flown) → next_of m.outside.outer.air.frames ≡ Some frame → Is frame
    next_among Is all frame next_is = let first = next_flight airs is.log flying m.outside.outer.air.frames frame is.follows.fly next_is in (subst (AllByRecursion Is) first.1 all).0

    -- the frames of the chip stay so, where what arrives is quiet
    pending_on : (On : List FrameParts → Type 0) → IsPiled IsQuietFrame On → (AreJudged event → (a b : List FrameParts) → On (a ++ b) → On b)
        → ((drawn : List ℕ) (route : Option Route) → event ≡ Outside_does (Arrives drawn route) → (frame : Flown) → next_of m.outside.outer.air.frames ≡ Some frame → IsQuietFlown frame) → On (unheard m.outside.outer)
        → On (unheard (happens m event).outside.outer)
    pending_on On piled behind quiet on =
        event_says IsQuietFrame On piled airs (answer_brings Quiet) here next m event behind goes may at
        (λ drawn route arrives given then_given.
        arrives_says IsQuietFrame On piled (update_brings Quiet) (call_brings Quiet) m drawn route given then_given
        (λ frame next_is home. payload_brings Quiet frame.node frame.payload (quiet drawn route arrives frame next_is home)) on) awaits on later

    all_pending : ((drawn : List ℕ) (route : Option Route) → event ≡ Outside_does (Arrives drawn route) → (frame : Flown) → next_of m.outside.outer.air.frames ≡ Some frame → IsQuietFlown frame)
        → AllByRecursion IsQuietFrame (unheard m.outside.outer) → AllByRecursion IsQuietFrame (unheard (happens m event).outside.outer)
    all_pending quiet all = pending_on (AllByRecursion IsQuietFrame) (all_piled IsQuietFrame) (λ judged. all_behind IsQuietFrame) quiet all

    quiet_air : AllByRecursion IsQuietFlown flying → AllByRecursion IsQuietFlown then_flying
    quiet_air all = by air
      where
        by : AirOn IsSaid m event → AllByRecursion IsQuietFlown then_flying
        by (Stays none add) = subst (AllByRecursion IsQuietFlown) (sym add.are) (all-append IsQuietFlown flying add.added all (said_quiet add.added add.so))
        by (Arrived drawn route arrives lands) =
            subst (AllByRecursion IsQuietFlown) (sym lands.later.are)
            (all-append IsQuietFlown lands.rest lands.later.added (subst (AllByRecursion IsQuietFlown) lands.are all).1 (said_quiet lands.later.added lands.later.so))

    pub none_wakes : NoneWakes m → NoneWakes (happens m event)
    none_wakes none = record { frames = quiet_air none.frames; pending = all_pending (λ drawn route arrives frame next_is. next_among IsQuietFlown none.frames frame next_is) none.pending }

    -- it comes to the chip, or is not the one that does
    module _ (n : ℕ) (live : HasLive these m.outside.outer) where
      lands_on : (drawn : List ℕ) (route : Option Route) → event ≡ Outside_does (Arrives drawn route) → (lands : Lands IsSaid m (happens m event).outside.outer) → HasOne (IsNotification n) IsQuietFlown (lands.frame ∷ lands.rest)
          → AllByRecursion IsQuietFrame (unheard m.outside.outer) → OneWakes n (happens m event)
      lands_on drawn route arrives lands (inl (tells, others)) pending =
          Comes_home (subst (AllByRecursion IsQuietFlown) (sym lands.later.are) (all-append IsQuietFlown lands.rest lands.later.added others (said_quiet lands.later.added lands.later.so)))
          (subst (λ (e : Event). HasOne (BringsNotification n) IsQuietFrame (unheard (happens m e).outside.outer)) (sym arrives) (subst (HasOne (BringsNotification n) IsQuietFrame) (sym comes) one))
        where
          in_tick : IsArriving here next m
          in_tick = at_arrival drawn route here next m event goes at.0 arrives

          given : IsGiven 0 m
          given = subst (λ (q : Phase). LineAt q m) in_tick.at at.0

          then_given : IsGiven 0 (happens m (Outside_does (Arrives drawn route)))
          then_given = subst (λ (e : Event). IsGiven 0 (happens m e)) arrives (subst (λ (q : Phase). LineAt q (happens m event)) in_tick.to later)

          room : length m.outside.outer.chip.state.port.waiting ≤ 31
          room = let most : RoomAt (Arriving (suc in_tick.frames) in_tick.ticks) m = subst (λ (q : Phase). RoomAt q m) in_tick.at at.1 in omega (arith, most)

          comes : unheard (happens m (Outside_does (Arrives drawn route))).outside.outer ≡ unheard m.outside.outer ++ notice_frame (ApplicationCommandHandler 0 lands.frame.node lands.frame.payload) ∷ []
          comes =
              home_comes m drawn route lands.frame lands.next tells.home (next_is_live these m.outside.outer live lands.frame lands.next (λ home. next_among (IsOf these) speak.frames lands.frame lands.next)) tells.tells.some
              tells.tells.few given then_given room

          one : HasOne (BringsNotification n) IsQuietFrame (unheard m.outside.outer ++ notice_frame (ApplicationCommandHandler 0 lands.frame.node lands.frame.payload) ∷ [])
          one =
              one_last (BringsNotification n) IsQuietFrame (unheard m.outside.outer) (notice_frame (ApplicationCommandHandler 0 lands.frame.node lands.frame.payload)) pending
              (record { payload = lands.frame.payload; is = ap (λ (k : ℕ). notice_frame (ApplicationCommandHandler 0 k lands.frame.payload)) tells.node; tells = tells.tells })
      lands_on drawn route arrives lands (inr (quiet, one)) pending =
          Flies_home (subst (HasOne (IsNotification n) IsQuietFlown) (sym lands.later.are) (one_behind (IsNotification n) IsQuietFlown lands.rest lands.later.added one (said_quiet lands.later.added lands.later.so)))
          (all_pending (λ other way again frame next_is. let both : Some frame ≡ Some lands.frame = sym next_is ∙ lands.next in let it : frame ≡ lands.frame = cc in subst IsQuietFlown (sym it) quiet) pending)

      pub flies_on : HasOne (IsNotification n) IsQuietFlown flying → AllByRecursion IsQuietFrame (unheard m.outside.outer) → OneWakes n (happens m event)
      flies_on one pending = by air
        where
          by : AirOn IsSaid m event → OneWakes n (happens m event)
          by (Stays none add) =
              Flies_home (subst (HasOne (IsNotification n) IsQuietFlown) (sym add.are) (one_behind (IsNotification n) IsQuietFlown flying add.added one (said_quiet add.added add.so)))
              (all_pending (λ drawn route arrives frame next_is. absurd (none drawn route arrives)) pending)
          by (Arrived drawn route arrives lands) = lands_on drawn route arrives lands (subst (HasOne (IsNotification n) IsQuietFlown) lands.are one) pending

    -- what the chip has of it stays until the host judges that
    pub comes_on : (n : ℕ) → (AreJudged event → ⊥) → AllByRecursion IsQuietFlown flying → HasOne (BringsNotification n) IsQuietFrame (unheard m.outside.outer) → OneWakes n (happens m event)
    comes_on n unjudged quiet one =
        Comes_home (quiet_air quiet)
        (pending_on (HasOne (BringsNotification n) IsQuietFrame) (one_piled (BringsNotification n) IsQuietFrame) (λ judged. absurd (unjudged judged)) (λ drawn route arrives frame next_is. next_among IsQuietFlown quiet frame next_is) one)

-- ---- it is said

wake_air : (w : Outside) (n place : ℕ) (device : State) (route : Option Route) (payload : List ℕ) → place_of n w.devices ≡ Some place → slice_get w.devices place ≡ Some device → is_joined w.outer.air device.node ≡ true
    → device_replies device Wakes ≡ payload ∷ [] → (happens_outside w (Wakes_device n route)).outer.air ≡ departing w.outer.air device.node Homeward (option_map backwards route) payload
unfolding outcome
wake_air w n place device route payload first there joined says =
    (entered_leaves (outcome w (Wakes_device n route)).outer (outcome w (Wakes_device n route)).entries).air
    ∙ (ap (λ (found : Option ℕ). (acts_by_hand w.outer w.devices found Wakes route).outer.air) first
    ∙ (ap (λ (found : Option State). (acts_at w.outer found Wakes route).outer.air) there
    ∙ (ap (λ (b : Bool). answered_if b w.outer.air device.node (option_map backwards route) (device_replies device Wakes)) joined
    ∙ ap (λ (said : List (List ℕ)). answered w.outer.air device.node (option_map backwards route) said) says)))

module _ (airs : Airs) (these : List Bool) (many : length these ≡ 233) where
  -- as its device is woken
  pub woken_flies : (n : ℕ) (m : Machine) (route : Option Route) (payload : List ℕ) → is_marked these n ≡ true → Awaits m → is_joined m.outside.outer.air n ≡ true → (is : HasSleeper n m.outside.devices)
      → device_replies is.device Wakes ≡ payload ∷ [] → TellsWaking payload → NoneWakes m → OneWakes n (happens m (Outside_does (Wakes_device n route)))
  unfolding happens
  woken_flies n m route payload marked awaits joined is says tells none =
      Flies_home (subst (HasOne (IsNotification n) IsQuietFlown) flown_are (one_last (IsNotification n) IsQuietFlown flights (flown_now awaits.log d) none.frames (record { node = node; home = refl; tells = tells })))
      (effect_says IsQuietFrame (AllByRecursion IsQuietFrame) (all_piled IsQuietFrame) airs m (Outside_does (Wakes_device n route)) tt none.pending)
    where
      flights : List Flown
      flights = on_air m.outside.outer.air.frames

      node : is.device.node ≡ n
      node = place_is n m.outside.devices is.place is.device is.first is.stands

      a : AirState
      a = m.outside.outer.air

      way : Option Route
      way = option_map backwards route

      d : Departure
      d = record { node = is.device.node; heading = Homeward; route = unwrap_or way no_route; lost = nat_lt 0 a.losing || is_none way; payload = payload }

      within : is.device.node < 233
      within = let less = marked_within these n marked in omega (arith, less, many, node)

      fly : Fly (awaits.log ++ goes_mark d ∷ []) (flights ++ flown_now awaits.log d ∷ []) (departing a is.device.node Homeward way payload).frames
      fly = airs.goes awaits.log flights a.frames d within awaits.follows.fly

      flown_are : flights ++ flown_now awaits.log d ∷ [] ≡ on_air (happens_outside m.outside (Wakes_device n route)).outer.air.frames
      flown_are =
          flights_are (awaits.log ++ goes_mark d ∷ []) (flights ++ flown_now awaits.log d ∷ []) (departing a is.device.node Homeward way payload).frames fly
          ∙ sym (ap (λ (air : AirState). on_air air.frames) (wake_air m.outside n is.place is.device route payload is.first is.stands (subst (λ (k : ℕ). is_joined a k ≡ true) (sym node) joined) says))
