-- A tick: all frames on the air arrive, then all results are given to the chip, so that no call is to come when the host's waits are counted.
use Rattle.std.proofs.Common.{◌≡◌, ℕ, zero, suc, ◌+◌, ◌-◌, List, [], ◌∷◌, ◌++◌, length, map, refl, ap, sym, ◌∙◌, subst, append_assoc, arith, inl, inr}
use Rattle.std.specs.Prelude.{drop}
use Rattle.std.specs.List.{AllByRecursion}
use Rattle.std.proofs.lemmas.List.{append-nil}
use Rattle.serial_frame.specs.declared.item.Item.{Item}
use Rattle.air_frames.specs.Flown.{Flown}
use Rattle.air_frames.specs.Frames.{FramesState}
use Rattle.air_frames.specs.History.{Mark}
use Rattle.proof_traffic.specs.Flights.{Fly}
use Rattle.proof_device.specs.mesh_sim.Air.{AirState}
use Rattle.proof_serial.specs.host_model.Events.{HostEvent}
use Rattle.proof_serial.specs.host_model.Ticking.{tick_events}
use Rattle.proof_device.specs.outside_model.declared.waits.Call.{Call}
use Rattle.proof_device.specs.outside_model.declared.waits.Call.TheVariants.{OfFrame, NoRoute as no_route_call}
use Rattle.proof_device.specs.outside_model.declared.waits.Due.{Due}
use Rattle.proof_device.specs.outside_model.State.{OuterState, Outside}
use Rattle.proof_device.specs.outside_model.Events.{OuterEvent, Begins_tick, Arrives, Gives, Device_ticks, Chip_ticks, happens as happens_outside}
use Rattle.proof_device.specs.outside_model.Schedules.{Arrivals, Givings, DeviceTicks}
use Rattle.proof_traffic.specs.Requests.{Traffic}
use Rattle.proof_traffic.specs.Requests as course
use Rattle.proof_traffic.specs.Facts.{flying_in}
use Rattle.proof_traffic.specs.HostTraffic.{Goes as HostGoes}
use Rattle.proof_traffic.specs.OutsideTraffic.{flags, outward, no_routes_due, without_frame}
use Rattle.proof_device.specs.world_model.State.{Machine}
use Rattle.proof_device.specs.world_model.Events.{Event, Outside_does, Host_does, Decoder_ticks, happens}
use Rattle.proof_device.specs.world_model.Did.{happens_all, Schedule, Then, Nothing, PrefixOf, ThenPrefix}
use Rattle.proof_device.proofs.EventLists.{happens_all-append}
use Rattle.proof_device.specs.world_model.Settling.{Settles}
use Rattle.proof_device.specs.world_model.Ticking.{IsClockTick, IsDelivery, IsGiving, IsDeviceTick, IsOutsideTick, IsHostTick, IsTick, Ticks}
use Rattle.proof_device.specs.world_model.Prefixes.{SettlesPrefix, OutsideTickPrefix, TickPrefix, TicksPrefix}
use Rattle.proof_traffic.specs.OnAir.{on_air, hosts_on_air}
use Rattle.proof_traffic.specs.Course.{Follows, Goes}
use Rattle.proof_traffic.proofs.Parts.{Laws}
use Rattle.proof_traffic.proofs.Arrivals.{Homes, outward-append}
use Rattle.proof_traffic.proofs.Flights.{flights_are}
use Rattle.proof_traffic.proofs.ChipNotices.{Given, given_first, device_calls, ticks_calls}
use Rattle.proof_traffic.proofs.ArrivedFrames.{arrives_home}
use Rattle.proof_traffic.proofs.CourseSteps.{Fair, AllFair, fair_first, fair_later, GoesOf, goes_nowhere, goes_both, goes_parts, goes_then, goes_as, goes_none, goes_then_prefix}
use Rattle.proof_traffic.proofs.Outside.{IsFree, free_goes, outside_goes}
use Rattle.proof_traffic.proofs.EventParts.{Parts, outside_parts, arrivals_free, givings_give, IsGiving as GivesOne, device_ticks_free, all_first}
use Rattle.proof_traffic.proofs.HostCourse.{host_goes, decoder_goes}
use Rattle.proof_traffic.proofs.Settlings.{settles_go, settles_prefix_go}

-- ---- steps after which something holds of the machine

record GoesTo (P : OuterState → Type 0) (t : Traffic) (log : List Mark) (m : Machine) (events : List Event) : Type 0 where
  goes : Goes t log m events
  holds : P (happens_all m events).outside.outer

then_to : (P : OuterState → Type 0) (t : Traffic) (log : List Mark) (m : Machine) (event : OuterEvent) (events : List OuterEvent) (first : Goes t log m (Outside_does event ∷ []))
    → GoesTo P (course.after_all t first.steps) (log ++ first.more) (happens m (Outside_does event)) (map Outside_does events) → GoesTo P t log m (map Outside_does (event ∷ events))
then_to P t log m event events first later = record {
  goes = goes_both t log m (Outside_does event ∷ []) (map Outside_does events) first later.goes;
  holds = later.holds;
}

-- nothing more
none_to : (P : OuterState → Type 0) (t : Traffic) (log : List Mark) (up down : List Item) (m : Machine) (events : List OuterEvent) → Follows t log up down m → events ≡ [] → P m.outside.outer → GoesTo P t log m (map Outside_does events)
none_to P t log up down m events f are holds =
    subst (λ (l : List OuterEvent). GoesTo P t log m (map Outside_does l)) (sym are) (record { goes = goes_nowhere t log up down m f; holds = holds })

outer_of : (m : Machine) (event : OuterEvent) → (happens m (Outside_does event)).outside ≡ happens_outside m.outside event
unfolding happens
outer_of m event = refl

-- none of the host's is on the air; nothing is due; no call is to come
abbrev IsClear : OuterState → Type 0
IsClear o = hosts_on_air o ≡ 0

record IsServed (o : OuterState) : Type 0 where
  clear : IsClear o
  none_due : o.due ≡ []

abbrev NoneToCome : OuterState → Type 0
NoneToCome o = o.calls ≡ []

-- ---- frames arrive

module _ (laws : Laws) where
  arrivals_go : (count : ℕ) (inner : List OuterEvent) (t : Traffic) (log : List Mark) (up down : List Item) (m : Machine) (prefix back : List Flown) → Follows t log up down m
      → on_air m.outside.outer.air.frames ≡ prefix ++ back → length prefix ≡ count → outward back ≡ 0 → Arrivals count inner → AllFair m (map Outside_does inner) → GoesTo IsClear t log m (map Outside_does inner)
  arrivals_go zero inner t log up down m [] back f are many home is fair = none_to IsClear t log up down m inner f is (ap outward are ∙ home)
  arrivals_go zero inner t log up down m (flight ∷ prefix) back f are many home is fair = absurd (grind (arith, many))
  arrivals_go (suc count) inner t log up down m [] back f are many home is fair = absurd (grind (arith, many))
  arrivals_go (suc count) inner t log up down m (flight ∷ prefix) back f are many home (drawn, route, rest, is, more) fair =
      let event : OuterEvent = Arrives drawn route in
      let split : AllFair m (map Outside_does (event ∷ rest)) = subst (λ (l : List OuterEvent). AllFair m (map Outside_does l)) is fair in
      let first : Goes t log m (Outside_does event ∷ []) = outside_goes laws t log up down m f event split.0 refl tt tt tt in
      let n : Machine = happens m (Outside_does event) in
      let fly : Fly log (flight ∷ (prefix ++ back)) m.outside.outer.air.frames = subst (λ (fs : List Flown). Fly log fs m.outside.outer.air.frames) are f.outside.fly in
      let homes : Homes log (prefix ++ back) n.outside.outer.air.frames =
      subst (λ (w : Outside). Homes log (prefix ++ back) w.outer.air.frames) (sym (outer_of m event)) (arrives_home laws.air log flight (prefix ++ back) m.outside drawn route fly) in
      let there : on_air n.outside.outer.air.frames ≡ prefix ++ (back ++ homes.home) = sym (flights_are (log ++ homes.more) ((prefix ++ back) ++ homes.home) n.outside.outer.air.frames homes.fly) ∙ append_assoc prefix back homes.home in
      let still : outward (back ++ homes.home) ≡ 0 = none_both (outward (back ++ homes.home)) (outward back) (outward homes.home) (outward-append back homes.home) home homes.none_outward in
      subst (λ (l : List OuterEvent). GoesTo IsClear t log m (map Outside_does l)) (sym is)
      (then_to IsClear t log m event rest first
      (arrivals_go count rest (course.after_all t first.steps) (log ++ first.more) first.up first.down n prefix (back ++ homes.home) first.follows there (one_less (length prefix) count many) still more split.1))
    where
      none_both : (all a b : ℕ) → all ≡ a + b → a ≡ 0 → b ≡ 0 → all ≡ 0
      none_both all a b x y z = omega arith

      one_less : (a b : ℕ) → suc a ≡ suc b → a ≡ b
      one_less a b e = omega arith

  -- ---- results are given

  givings_go : (count : ℕ) (inner : List OuterEvent) (t : Traffic) (log : List Mark) (up down : List Item) (m : Machine) (due : List Due) → Follows t log up down m
      → m.outside.outer.due ≡ due → length due ≡ count → IsClear m.outside.outer → Givings count inner → AllFair m (map Outside_does inner) → GoesTo IsServed t log m (map Outside_does inner)
  givings_go zero inner t log up down m [] f are many clear is fair = none_to IsServed t log up down m inner f is (record { clear = clear; none_due = are })
  givings_go zero inner t log up down m (one ∷ due) f are many clear is fair = absurd (grind (arith, many))
  givings_go (suc count) inner t log up down m [] f are many clear is fair = absurd (grind (arith, many))
  givings_go (suc count) inner t log up down m (one ∷ due) f are many clear (route, rest, is, more) fair =
      let event : OuterEvent = Gives route in
      let split : AllFair m (map Outside_does (event ∷ rest)) = subst (λ (l : List OuterEvent). AllFair m (map Outside_does l)) is fair in
      let first : Goes t log m (Outside_does event ∷ []) = outside_goes laws t log up down m f event split.0 refl tt clear tt in
      let n : Machine = happens m (Outside_does event) in
      let given : Given m.outside.outer n.outside.outer = subst (λ (w : Outside). Given m.outside.outer w.outer) (sym (outer_of m event)) (given_first m.outside route) in
      subst (λ (l : List OuterEvent). GoesTo IsServed t log m (map Outside_does l)) (sym is)
      (then_to IsServed t log m event rest first
      (givings_go count rest (course.after_all t first.steps) (log ++ first.more) first.up first.down n due first.follows (given.due ∙ ap (drop 1) are) (one_less (length due) count many)
      (ap (λ (a : AirState). outward (on_air a.frames)) given.air ∙ clear) more split.1))
    where
      one_less : (a b : ℕ) → suc a ≡ suc b → a ≡ b
      one_less a b e = omega arith

  -- then no call is to come
  none_to_come : (t : Traffic) (log : List Mark) (up down : List Item) (m : Machine) → Follows t log up down m → IsServed m.outside.outer → NoneToCome m.outside.outer
  none_to_come t log up down m f served =
      no_calls m.outside.outer.calls (sym f.outside.await.frames ∙ served.clear) (sym f.outside.await.results ∙ ap no_routes_due served.none_due)
    where
      no_calls : (calls : List Call) → flying_in (flags calls) ≡ 0 → without_frame (flags calls) ≡ 0 → calls ≡ []
      no_calls [] a b = refl
      no_calls (OfFrame ∷ calls) a b = absurd (omega arith)
      no_calls (no_route_call ∷ calls) a b = absurd (omega arith)

  -- ---- devices tick, and the chip

  devices_go : (place count : ℕ) (inner : List OuterEvent) (t : Traffic) (log : List Mark) (up down : List Item) (m : Machine) → Follows t log up down m
      → NoneToCome m.outside.outer → DeviceTicks place count inner → AllFair m (map Outside_does inner) → GoesTo NoneToCome t log m (map Outside_does inner)
  devices_go place zero inner t log up down m f none is fair = none_to NoneToCome t log up down m inner f is none
  devices_go place (suc count) inner t log up down m f none (drawn, route, rest, is, more) fair =
      let event : OuterEvent = Device_ticks place drawn route in
      let split : AllFair m (map Outside_does (event ∷ rest)) = subst (λ (l : List OuterEvent). AllFair m (map Outside_does l)) is fair in
      let first : Goes t log m (Outside_does event ∷ []) = outside_goes laws t log up down m f event split.0 refl tt tt tt in
      let n : Machine = happens m (Outside_does event) in
      let still : NoneToCome n.outside.outer = ap (λ (w : Outside). w.outer.calls) (outer_of m event) ∙ device_calls m.outside place drawn route ∙ none in
      subst (λ (l : List OuterEvent). GoesTo NoneToCome t log m (map Outside_does l)) (sym is)
      (then_to NoneToCome t log m event rest first (devices_go (place + 1) count rest (course.after_all t first.steps) (log ++ first.more) first.up first.down n first.follows still more split.1))

  chip_ticks_go : (t : Traffic) (log : List Mark) (up down : List Item) (m : Machine) → Follows t log up down m → NoneToCome m.outside.outer → Fair m (Outside_does Chip_ticks)
      → GoesTo NoneToCome t log m (Outside_does Chip_ticks ∷ [])
  chip_ticks_go t log up down m f none fair = record {
    goes = outside_goes laws t log up down m f Chip_ticks fair refl tt tt tt;
    holds = ap (λ (w : Outside). w.outer.calls) (outer_of m Chip_ticks) ∙ ticks_calls m.outside ∙ none;
  }

  -- ---- a whole tick

  -- one list after another
  parts_to : (P Q : OuterState → Type 0) (t : Traffic) (log : List Mark) (m : Machine) (a b all : List Event) → all ≡ a ++ b → AllFair m all → (AllFair m a → GoesTo P t log m a)
      → ((g : GoesTo P t log m a) → AllFair (happens_all m a) b → GoesTo Q (course.after_all t g.goes.steps) (log ++ g.goes.more) (happens_all m a) b) → GoesTo Q t log m all
  parts_to P Q t log m a b all are fair first later =
      let split : AllFair m (a ++ b) = subst (λ (l : List Event). AllFair m l) are fair in
      let g : GoesTo P t log m a = first (fair_first m a b split) in
      let h : GoesTo Q (course.after_all t g.goes.steps) (log ++ g.goes.more) (happens_all m a) b = later g (fair_later m a b split) in
      subst (λ (l : List Event). GoesTo Q t log m l) (sym are)
      (record { goes = goes_both t log m a b g.goes h.goes; holds = subst (λ (n : Machine). Q n.outside.outer) (sym (happens_all-append m a b)) h.holds })

  -- these events
  as_to : (P : OuterState → Type 0) (t : Traffic) (log : List Mark) (m : Machine) (events these : List Event) → events ≡ these → AllFair m events → (AllFair m these → GoesTo P t log m these) → GoesTo P t log m events
  as_to P t log m events these are fair go = subst (λ (l : List Event). GoesTo P t log m l) (sym are) (go (subst (λ (l : List Event). AllFair m l) are fair))

  delivery_goes : (t : Traffic) (log : List Mark) (up down : List Item) (m : Machine) (events : List Event) → Follows t log up down m → IsDelivery m events → AllFair m events → GoesTo IsClear t log m events
  delivery_goes t log up down m events f (inner, is, are) fair =
      let frames : FramesState = m.outside.outer.air.frames in
      as_to IsClear t log m events (map Outside_does inner) are fair
      (λ fair. arrivals_go (frames.sent - frames.landed) inner t log up down m (on_air frames) [] f (sym (append-nil (on_air frames))) (laws.air.count log (on_air frames) frames f.outside.fly) refl is fair)

  giving_goes : (t : Traffic) (log : List Mark) (up down : List Item) (m : Machine) (events : List Event) → Follows t log up down m → IsClear m.outside.outer → IsGiving m events → AllFair m events → GoesTo NoneToCome t log m events
  giving_goes t log up down m events f clear (inner, is, are) fair =
      let served : GoesTo IsServed t log m events =
      as_to IsServed t log m events (map Outside_does inner) are fair (λ fair. givings_go (length m.outside.outer.due) inner t log up down m m.outside.outer.due f refl refl clear is fair) in
      record {
        goes = served.goes;
        holds = none_to_come (course.after_all t served.goes.steps) (log ++ served.goes.more) served.goes.up served.goes.down (happens_all m events) served.goes.follows served.holds;
      }

  device_tick_goes : (t : Traffic) (log : List Mark) (up down : List Item) (m : Machine) (events : List Event) → Follows t log up down m → NoneToCome m.outside.outer → IsDeviceTick m events → AllFair m events → GoesTo NoneToCome t log m events
  device_tick_goes t log up down m events f none (inner, is, are) fair =
      as_to NoneToCome t log m events (map Outside_does inner) are fair (λ fair. devices_go 0 (length m.outside.devices) inner t log up down m f none is fair)

  outside_tick_goes : (t : Traffic) (log : List Mark) (up down : List Item) (m : Machine) (events : List Event) → Follows t log up down m → IsOutsideTick m events → AllFair m events → GoesTo NoneToCome t log m events
  outside_tick_goes t log up down m events f (a, others, are, arrive, (b, more, others_are, given, (c, last, more_are, tick, chip))) fair =
      parts_to IsClear NoneToCome t log m a others events are fair (λ fair. delivery_goes t log up down m a f arrive fair)
      (λ g fair. let n : Machine = happens_all m a in let u : Traffic = course.after_all t g.goes.steps in let logged : List Mark = log ++ g.goes.more in
      parts_to NoneToCome NoneToCome u logged n b more others others_are fair (λ fair. giving_goes u logged g.goes.up g.goes.down n b g.goes.follows g.holds given fair)
      (λ h fair. let k : Machine = happens_all n b in let v : Traffic = course.after_all u h.goes.steps in let written : List Mark = logged ++ h.goes.more in
      parts_to NoneToCome NoneToCome v written k c last more more_are fair (λ fair. device_tick_goes v written h.goes.up h.goes.down k c h.goes.follows h.holds tick fair)
      (λ i fair. as_to NoneToCome (course.after_all v i.goes.steps) (written ++ i.goes.more) (happens_all k c) last (Outside_does Chip_ticks ∷ []) chip fair
      (λ fair. chip_ticks_go (course.after_all v i.goes.steps) (written ++ i.goes.more) i.goes.up i.goes.down (happens_all k c) i.goes.follows i.holds fair.0))))

  -- the host ticks
  ticked_host : (m : Machine) → (happens m Decoder_ticks).host.state ≡ m.host.state
  unfolding happens
  ticked_host m = refl

  ticked_outer : (m : Machine) → (happens m Decoder_ticks).outside ≡ m.outside
  unfolding happens
  ticked_outer m = refl

  host_tick_goes : (t : Traffic) (log : List Mark) (up down : List Item) (m : Machine) (events : List Event) → Follows t log up down m → NoneToCome m.outside.outer → IsHostTick m events → AllFair m events → Goes t log m events
  host_tick_goes t log up down m events f none are fair =
      goes_as t log m events (Decoder_ticks ∷ map Host_does (tick_events m.host.state)) are fair
      (λ fair. let first : Goes t log m (Decoder_ticks ∷ []) = decoder_goes laws t log up down m f fair.0 in
      let n : Machine = happens m Decoder_ticks in
      let u : Traffic = course.after_all t first.steps in
      let calls : u.calls ≡ [] = first.follows.outside.knows.calls ∙ ap (λ (w : Outside). flags w.outer.calls) (ticked_outer m) ∙ ap flags none in
      let same : tick_events n.host.state ≡ tick_events m.host.state = ap tick_events (ticked_host m) in
      let ticks : HostGoes u n.host.state (tick_events m.host.state) = subst (λ (es : List HostEvent). HostGoes u n.host.state es) same (laws.tick u n.host.state first.follows.host calls) in
      goes_both t log m (Decoder_ticks ∷ []) (map Host_does (tick_events m.host.state)) first (host_goes laws u (log ++ first.more) first.up first.down n first.follows (tick_events m.host.state) ticks fair.1))

  clock_goes : GoesOf IsClockTick
  clock_goes t log up down m events f are fair =
      goes_as t log m events (Outside_does Begins_tick ∷ []) are fair (λ fair. outside_goes laws t log up down m f Begins_tick fair.0 refl tt tt tt)

  -- what is outside the host ticks, then the host, and then the rest follows
  sides_go : (Rest : Schedule) → GoesOf Rest → GoesOf (Then IsOutsideTick (Then IsHostTick Rest))
  sides_go Rest rest t log up down m events f (a, others, are, ticks, (b, last, others_are, host, later)) fair =
      let split : AllFair m (a ++ others) = subst (λ (l : List Event). AllFair m l) are fair in
      let g : GoesTo NoneToCome t log m a = outside_tick_goes t log up down m a f ticks (fair_first m a others split) in
      let u : Traffic = course.after_all t g.goes.steps in
      let n : Machine = happens_all m a in
      subst (λ (l : List Event). Goes t log m l) (sym are)
      (goes_both t log m a others g.goes
      (goes_parts u (log ++ g.goes.more) n b last others others_are (fair_later m a others split)
      (λ fair. host_tick_goes u (log ++ g.goes.more) g.goes.up g.goes.down n b g.goes.follows g.holds host fair)
      (λ h fair. rest (course.after_all u h.steps) ((log ++ g.goes.more) ++ h.more) h.up h.down (happens_all n b) last h.follows later fair)))

  tick_goes : GoesOf IsTick
  tick_goes = goes_then IsClockTick (Then IsOutsideTick (Then IsHostTick Settles)) clock_goes (sides_go Settles (settles_go laws))

  pub ticks_go : (count : ℕ) → GoesOf (Ticks count)
  ticks_go zero t log up down m events f is fair = goes_none t log up down m events f is fair
  ticks_go (suc more) t log up down m events f is fair = goes_then IsTick (Ticks more) tick_goes (ticks_go more) t log up down m events f is fair

  -- ---- where memory ran out

  free_go : (inner : List OuterEvent) (t : Traffic) (log : List Mark) (up down : List Item) (m : Machine) → Follows t log up down m → AllByRecursion IsFree inner → AllFair m (map Outside_does inner) → Goes t log m (map Outside_does inner)
  free_go [] t log up down m f free fair = goes_nowhere t log up down m f
  free_go (event ∷ inner) t log up down m f free fair =
      let first : Goes t log m (Outside_does event ∷ []) = free_goes laws t log up down m f event free.0 fair.0 in
      goes_both t log m (Outside_does event ∷ []) (map Outside_does inner) first
      (free_go inner (course.after_all t first.steps) (log ++ first.more) first.up first.down (happens m (Outside_does event)) first.follows free.1 fair.1)

  gives_go : (inner : List OuterEvent) (t : Traffic) (log : List Mark) (up down : List Item) (m : Machine) → Follows t log up down m → IsClear m.outside.outer → AllByRecursion GivesOne inner → AllFair m (map Outside_does inner)
      → Goes t log m (map Outside_does inner)
  gives_go [] t log up down m f clear give fair = goes_nowhere t log up down m f
  gives_go (Gives route ∷ inner) t log up down m f clear give fair =
      let event : OuterEvent = Gives route in
      let first : Goes t log m (Outside_does event ∷ []) = outside_goes laws t log up down m f event fair.0 refl tt clear tt in
      let n : Machine = happens m (Outside_does event) in
      let given : Given m.outside.outer n.outside.outer = subst (λ (w : Outside). Given m.outside.outer w.outer) (sym (outer_of m event)) (given_first m.outside route) in
      goes_both t log m (Outside_does event ∷ []) (map Outside_does inner) first
      (gives_go inner (course.after_all t first.steps) (log ++ first.more) first.up first.down n first.follows (ap (λ (a : AirState). outward (on_air a.frames)) given.air ∙ clear) give.1 fair.1)
  gives_go (event ∷ inner) t log up down m f clear give fair = absurd give.0

  -- the first of events that are all of one kind
  first_go : (P : OuterEvent → Type 0) (t : Traffic) (log : List Mark) (m : Machine) (events rest : List Event) (all : List OuterEvent) → events ++ rest ≡ map Outside_does all → AllByRecursion P all → AllFair m events
      → ((inner : List OuterEvent) → AllByRecursion P inner → AllFair m (map Outside_does inner) → Goes t log m (map Outside_does inner)) → Goes t log m events
  first_go P t log m events rest all are kind fair go =
      let parts : Parts events all = outside_parts events rest all are in
      goes_as t log m events (map Outside_does parts.inner) parts.are fair
      (λ fair. go parts.inner (all_first P parts.inner parts.later (subst (λ (l : List OuterEvent). AllByRecursion P l) parts.all_are kind)) fair)

  delivery_prefix_goes : GoesOf (PrefixOf IsDelivery)
  delivery_prefix_goes t log up down m events f (inl none) fair = goes_none t log up down m events f none fair
  delivery_prefix_goes t log up down m events f (inr (rest, (all, is, are))) fair =
      first_go IsFree t log m events rest all are (arrivals_free _ all is) fair (λ inner free fair. free_go inner t log up down m f free fair)

  giving_prefix_goes : (t : Traffic) (log : List Mark) (up down : List Item) (m : Machine) (events : List Event) → Follows t log up down m → IsClear m.outside.outer → PrefixOf IsGiving m events → AllFair m events → Goes t log m events
  giving_prefix_goes t log up down m events f clear (inl none) fair = goes_none t log up down m events f none fair
  giving_prefix_goes t log up down m events f clear (inr (rest, (all, is, are))) fair =
      first_go GivesOne t log m events rest all are (givings_give _ all is) fair (λ inner give fair. gives_go inner t log up down m f clear give fair)

  device_tick_prefix_goes : GoesOf (PrefixOf IsDeviceTick)
  device_tick_prefix_goes t log up down m events f (inl none) fair = goes_none t log up down m events f none fair
  device_tick_prefix_goes t log up down m events f (inr (rest, (all, is, are))) fair =
      first_go IsFree t log m events rest all are (device_ticks_free _ _ all is) fair (λ inner free fair. free_go inner t log up down m f free fair)

  device_ticks_go : GoesOf IsDeviceTick
  device_ticks_go t log up down m events f (all, is, are) fair =
      goes_as t log m events (map Outside_does all) are fair (λ fair. free_go all t log up down m f (device_ticks_free _ _ all is) fair)

  devices_prefix_go : GoesOf (ThenPrefix (PrefixOf IsDeviceTick) IsDeviceTick Nothing)
  devices_prefix_go = goes_then_prefix (PrefixOf IsDeviceTick) IsDeviceTick Nothing device_tick_prefix_goes device_ticks_go goes_none

  given_prefix_goes : (t : Traffic) (log : List Mark) (up down : List Item) (m : Machine) (events : List Event) → Follows t log up down m → IsClear m.outside.outer
      → ThenPrefix (PrefixOf IsGiving) IsGiving (ThenPrefix (PrefixOf IsDeviceTick) IsDeviceTick Nothing) m events → AllFair m events → Goes t log m events
  given_prefix_goes t log up down m events f clear (inl prefix) fair = giving_prefix_goes t log up down m events f clear prefix fair
  given_prefix_goes t log up down m events f clear (inr (a, rest, are, given, prefix)) fair =
      goes_parts t log m a rest events are fair (λ fair. (giving_goes t log up down m a f clear given fair).goes)
      (λ g fair. devices_prefix_go (course.after_all t g.steps) (log ++ g.more) g.up g.down (happens_all m a) rest g.follows prefix fair)

  -- nothing is said of what is then outside the host
  abbrev NoMore : OuterState → Type 0
  NoMore o = Unit {0}

  no_more : (t : Traffic) (log : List Mark) (m : Machine) (events : List Event) → Goes t log m events → GoesTo NoMore t log m events
  no_more t log m events goes = record { goes = goes; holds = tt }

  outside_tick_prefix_goes : GoesOf OutsideTickPrefix
  outside_tick_prefix_goes t log up down m events f (inl prefix) fair = delivery_prefix_goes t log up down m events f prefix fair
  outside_tick_prefix_goes t log up down m events f (inr (a, rest, are, arrive, prefix)) fair =
      (parts_to IsClear NoMore t log m a rest events are fair (λ fair. delivery_goes t log up down m a f arrive fair)
      (λ g fair. no_more (course.after_all t g.goes.steps) (log ++ g.goes.more) (happens_all m a) rest
      (given_prefix_goes (course.after_all t g.goes.steps) (log ++ g.goes.more) g.goes.up g.goes.down (happens_all m a) rest g.goes.follows g.holds prefix fair))).goes

  -- what is outside the host has ticked, and the host has not
  outside_alone : GoesOf (Then IsOutsideTick Nothing)
  outside_alone = goes_then IsOutsideTick Nothing (λ t log up down m events f is fair. (outside_tick_goes t log up down m events f is fair).goes) goes_none

  sides_prefix_go : GoesOf (ThenPrefix OutsideTickPrefix IsOutsideTick (ThenPrefix Nothing IsHostTick SettlesPrefix))
  sides_prefix_go t log up down m events f (inl prefix) fair = outside_tick_prefix_goes t log up down m events f prefix fair
  sides_prefix_go t log up down m events f (inr (a, rest, are, ticks, inl none)) fair = outside_alone t log up down m events f (a, rest, are, ticks, none) fair
  sides_prefix_go t log up down m events f (inr (a, rest, are, ticks, inr host)) fair = sides_go SettlesPrefix (settles_prefix_go laws) t log up down m events f (a, rest, are, ticks, host) fair

  tick_prefix_goes : GoesOf TickPrefix
  tick_prefix_goes = goes_then_prefix Nothing IsClockTick (ThenPrefix OutsideTickPrefix IsOutsideTick (ThenPrefix Nothing IsHostTick SettlesPrefix)) goes_none clock_goes sides_prefix_go

  pub ticks_prefix_go : (count : ℕ) → GoesOf (TicksPrefix count)
  ticks_prefix_go zero t log up down m events f is fair = goes_none t log up down m events f is fair
  ticks_prefix_go (suc more) t log up down m events f is fair = goes_then_prefix TickPrefix IsTick (TicksPrefix more) tick_prefix_goes tick_goes (ticks_prefix_go more) t log up down m events f is fair
