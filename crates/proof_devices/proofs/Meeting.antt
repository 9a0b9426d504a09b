-- Over the phases of a line: each fate that is entered is the one that is due.
use Rattle.std.proofs.Common.{◌≡◌, ◌≢◌, ℕ, suc, ◌&&◌, not, Bool, true, false, if◌then◌else◌, inl, inr, List, [], ◌∷◌, ◌++◌, map, refl, sym, ap, subst, ◌∙◌, append-nil}
use Rattle.std.specs.Prelude.{Option, Some, None, is_some}
use Rattle.route_table.specs.declared.route.Route.{Route}
use Rattle.device_sim.specs.State.{State}
use Rattle.air_frames.specs.Ages.{refusal_of}
use Rattle.air_frames.specs.declared.ages.Refusal.{Refusal}
use Rattle.air_frames.specs.declared.ages.Refusal.TheVariants.{NeverSent, Forgotten, Stale}
use Rattle.mesh_sim.specs.Fates.{listener_of}
use Rattle.mesh_sim.specs.Steps.{mesh_after, mesh_outs}
use Rattle.mesh_sim.specs.Steps as mesh
use Rattle.zw_text.specs.declared.line.Line.{Line}
use Rattle.zw_text.specs.declared.line.Line.TheVariants as lines
use Rattle.zw_text.specs.declared.entry.Entry.{Entry}
use Rattle.zw_text.specs.declared.entry.Entry.TheVariants as entry
use Rattle.law_transcript.specs.Lists.{EachAfter}
use Rattle.law_transcript.specs.Nodes.{controller, device_of}
use Rattle.law_transcript.specs.Restarts.{is_repeat, repeats}
use Rattle.law_wire.specs.Arriving.{hears_again, is_awake}
use Rattle.outside_model.specs.State.{Outside}
use Rattle.outside_model.specs.Events.{OuterEvent, Arrives, Repeats, Wakes_device, Sets_device, mesh_of, outcome, refusal_entries, stamp, ticked_entry, May as MayOutside}
use Rattle.outside_model.specs.Events as outside
use Rattle.world_model.specs.State.{Machine}
use Rattle.world_model.specs.Events.{Event, Outside_does, entries, May}
use Rattle.proof_air.proofs.Entering.{HearsNone, stamp_are}
use Rattle.proof_air.specs.proof_walk.Outside.{nothing, CoversOuter, awaits_number}
use Rattle.proof_air.specs.proof_walk.Phases.{Phase, Said_line, Doing, To_tick, Arriving, Giving, Ticking_devices, Ticking_chip, Ticking_decoder, Ticking_host, Sleeping, Submitting, Moving, Moved, Goes}
use Rattle.proof_air.specs.proof_walk.Walk.{WalkOver}
use Rattle.proof_air.proofs.ByLine.{last_is}
use Rattle.proof_air.specs.Logs.{Tie}
use Rattle.proof_air.proofs.Fateless.{IsFateless, AreFateless, all_deals_rest, event_fateless}
use Rattle.proof_air.proofs.Handling.{tie_here}
use Rattle.proof_devices.specs.Living.{Acts, KnowDevices, MovesNone, Numbered}
use Rattle.proof_routes.proofs.Saying.{tie_of}
use Rattle.proof_devices.specs.Answering.{Listens}
use Rattle.proof_devices.specs.Meeting.{IsHeardSo, MayMeetSo, Ground, KnowNothing}
use Rattle.proof_devices.proofs.Again.{Again, again_tells, dealt, dealt_is, heard_first}
use Rattle.proof_devices.proofs.Fating.{arrives_meet, fateless_stand}
use Rattle.proof_devices.proofs.Repeating.{may_repeat, saying_last}

-- who listens where a frame arrives is who does by the transcript (`devices_listen_as_shown` of proof_devices)
abbrev pub HearsArriving : List State → Type 0
HearsArriving devices =
    (past : List Entry) (m : Machine) (frames ticks node : ℕ) → node ≢ controller → KnowDevices devices (Arriving frames ticks) past m
    → is_some (listener_of node m.outside.devices) ≡ is_awake (past ++ ticked_entry m.outside.outer) (device_of node devices)

-- ---- in a tick nothing answers a `repeat`

pub unrepeated : (past : List Entry) (w : Outside) → Numbered (awaits_number w.outer) past w → repeats (past ++ ticked_entry w.outer) ≡ false
unrepeated past w known = by (w.outer.in_tick && not w.outer.stamped) known
  where
    by : (b : Bool) → Numbered b past w → repeats (past ++ (if b then entry.Time w.outer.clock ∷ [] else [])) ≡ false
    by true known = ap is_repeat (last_is past (entry.Time w.outer.clock))
    by false known = ap repeats (append-nil past) ∙ known.apart refl

-- ---- events at which no frame is heard

moves_none : (event : OuterEvent) → MovesNone event → HearsNone event
moves_none (Arrives drawn route) none = absurd none
moves_none (Repeats number drawn route) none = absurd none
moves_none event none = tt

pub covers_none : (event : Event) → CoversOuter MovesNone event → CoversOuter HearsNone event
covers_none (Outside_does event) none = moves_none event none
covers_none event none = tt

module _ (devices : List State) where
  abbrev Asks : List Entry → Entry → Type 0
  Asks = MayMeetSo devices

  quietly : (past : List Entry) (m : Machine) (event is : Event) → event ≡ is → CoversOuter HearsNone is → May m event → EachAfter Asks past (entries m event)
  quietly past m event is same none may = fateless_stand devices past (entries m event) (event_fateless m event (subst (CoversOuter HearsNone) (sym same) none) may)

  -- ---- a frame arrives

  arrives : (arriving : HearsArriving devices) (frames ticks : ℕ) (past : List Entry) (m : Machine) (drawn : List ℕ) (route : Option Route) → May m (Outside_does (Arrives drawn route))
      → Ground devices (Arriving frames ticks) past m → EachAfter Asks past (entries m (Outside_does (Arrives drawn route)))
  unfolding entries May MayOutside
  arrives arriving frames ticks past m drawn route may ground =
      arrives_meet devices past m.outside (tie_of devices past m ground.1.0).air_hears ground.1.1.0.0 (unrepeated past m.outside ground.0.1.1.0)
      (λ node apart. arriving past m frames ticks node apart ground.0.1) drawn route may.1

  -- ---- a frame is repeated

  module _ (listens : Listens devices) (frame : ℕ) (left : List Event) (past : List Entry) (m : Machine) (drawn : List ℕ) (route : Option Route) (may : May m (Outside_does (Repeats frame drawn route)))
      (ground : Ground devices (Doing (lines.Repeat frame) left) past m) (acts : Acts devices (lines.Repeat frame) left past m) where
    abbrev this : Event
    this = Outside_does (Repeats frame drawn route)

    tie : Tie nothing past m.outside
    tie = tie_here (Doing (lines.Repeat frame) left) past m ground.0.0.0

    -- it is refused
    refusal_fateless : (refused : Refusal) → AreFateless (refusal_entries refused)
    refusal_fateless NeverSent = (tt, tt)
    refusal_fateless Forgotten = (tt, tt)
    refusal_fateless (Stale later) = (tt, tt)

    refused_enters : (refused : Refusal) → refusal_of m.outside.outer.air.frames frame ≡ Some refused → entries m this ≡ stamp m.outside.outer (refusal_entries refused)
    unfolding entries outcome
    refused_enters refused is =
        ap (λ (r : Option Refusal). stamp (outside.repeats m.outside r (mesh.Repeats frame drawn route)).outer (outside.repeats m.outside r (mesh.Repeats frame drawn route)).entries) is

    refused_stands : (refused : Refusal) → refusal_of m.outside.outer.air.frames frame ≡ Some refused → EachAfter Asks past (entries m this)
    refused_stands refused is =
        subst (EachAfter Asks past) (sym (refused_enters refused is))
        (fateless_stand devices past (stamp m.outside.outer (refusal_entries refused)) (stamp_are IsFateless (λ tick. tt) m.outside.outer (refusal_entries refused) (refusal_fateless refused)))

    -- nobody hears it
    unheard_enters : refusal_of m.outside.outer.air.frames frame ≡ None → mesh_outs (mesh_of m.outside) (mesh.Repeats frame drawn route) ≡ [] → entries m this ≡ []
    unfolding entries
    unheard_enters fresh is = ap (stamp (outcome m.outside (Repeats frame drawn route)).outer) (dealt_is m.outside frame drawn route fresh ∙ ap (dealt m.outside frame drawn route) is)

    heard_stands : (rest : List Entry) → hears_again devices past frame ≡ true → entries m this ≡ entry.Heard frame ∷ rest → AreFateless rest → EachAfter Asks past (entries m this)
    heard_stands rest hears is none =
        subst (EachAfter Asks past) (sym is) (
          subst (λ (b : Bool). IsHeardSo b devices past frame) (sym (ap is_repeat (saying_last devices (lines.Repeat frame) past m acts.0.0))) hears,
          fateless_stand devices (past ++ entry.Heard frame ∷ []) rest none,
        )

    by_hearing : (b : Bool) → refusal_of m.outside.outer.air.frames frame ≡ None → hears_again devices past frame ≡ b → Again frame b (mesh_outs (mesh_of m.outside) (mesh.Repeats frame drawn route))
        → EachAfter Asks past (entries m this)
    by_hearing true fresh hears (rest, is, none) =
        heard_stands (dealt m.outside frame drawn route rest) hears (heard_first m frame drawn route rest acts.0.1 fresh is)
        (all_deals_rest (mesh_after (mesh_of m.outside) (mesh.Repeats frame drawn route)).devices rest (record m.outside.outer { air = (mesh_after (mesh_of m.outside) (mesh.Repeats frame drawn route)).air }) none).fateless
    by_hearing false fresh hears is = subst (EachAfter Asks past) (sym (unheard_enters fresh is)) tt

    by_refusal : (refused : Option Refusal) → refusal_of m.outside.outer.air.frames frame ≡ refused → EachAfter Asks past (entries m this)
    by_refusal (Some refused) is = refused_stands refused is
    by_refusal None is =
        by_hearing (hears_again devices past frame) is refl
        (again_tells devices past m.outside frame tie (λ node other. listens past m frame left node other ground.0.0.1 acts) drawn route (may_repeat devices m frame drawn route is may))

    repeats_meet : EachAfter Asks past (entries m this)
    repeats_meet = by_refusal (refusal_of m.outside.outer.air.frames frame) refl

  -- ---- the next event of an effect

  module _ (listens : Listens devices) where
    does_acts : (line : Line) (first : Event) (left : List Event) (past : List Entry) (m : Machine) → May m first → Ground devices (Doing line (first ∷ left)) past m → Acts devices line (first ∷ left) past m
        → EachAfter Asks past (entries m first)
    does_acts (lines.Repeat frame) first left past m may ground (opened, acting, (inner, (drawn, route, one), are)) =
        let now : Event = Outside_does (Repeats frame drawn route) in
        let all : first ∷ left ≡ now ∷ [] = are ∙ ap (λ (l : List OuterEvent). map Outside_does l) one in
        let same : first ≡ now = cc in
        subst (λ (e : Event). EachAfter Asks past (entries m e)) (sym same)
        (repeats_meet listens frame (first ∷ left) past m drawn route (subst (May m) same may) ground (opened, acting, (inner, (drawn, route, one), are)))
    does_acts (lines.Wake node) first left past m may ground (opened, acting, (inner, (route, one), are)) =
        let all : first ∷ left ≡ Outside_does (Wakes_device node route) ∷ [] = are ∙ ap (λ (l : List OuterEvent). map Outside_does l) one in
        let same : first ≡ Outside_does (Wakes_device node route) = cc in
        quietly past m first (Outside_does (Wakes_device node route)) same tt may
    does_acts (lines.Local node value) first left past m may ground (opened, acting, (inner, (route, one), are)) =
        let all : first ∷ left ≡ Outside_does (Sets_device node value route) ∷ [] = are ∙ ap (λ (l : List OuterEvent). map Outside_does l) one in
        let same : first ≡ Outside_does (Sets_device node value route) = cc in
        quietly past m first (Outside_does (Sets_device node value route)) same tt may
    does_acts line first left past m may ground (opened, acting, is) = absurd acting

    does : (line : Line) (first : Event) (left : List Event) (past : List Entry) (m : Machine) → May m first → Ground devices (Doing line (first ∷ left)) past m
        → KnowDevices devices (Doing line (first ∷ left)) past m → EachAfter Asks past (entries m first)
    does line first left past m may ground (inl acts) = does_acts line first left past m may ground acts
    does line first left past m may ground (inr (none, rested)) = quietly past m first first refl (covers_none first none.0) may

    -- ---- each event

    module _ (arriving : HearsArriving devices) where
      event_meets : (here next : Phase) (past : List Entry) (m : Machine) (event : Event) → Goes here m event next → May m event → Ground devices here past m → EachAfter Asks past (entries m event)
      event_meets (Said_line line) next past m event (event_is, next_is) may ground = quietly past m event _ event_is tt may
      event_meets (Doing line (first ∷ left)) next past m event (event_is, next_is) may ground =
          subst (λ (e : Event). EachAfter Asks past (entries m e)) (sym event_is) (does line first left past m (subst (May m) event_is may) ground ground.0.1)
      event_meets (To_tick (suc ticks)) next past m event (event_is, next_is) may ground = quietly past m event _ event_is tt may
      event_meets (Arriving (suc frames) ticks) next past m event (drawn, route, event_is, next_is) may ground =
          subst (λ (e : Event). EachAfter Asks past (entries m e)) (sym event_is) (arrives arriving (suc frames) ticks past m drawn route (subst (May m) event_is may) ground)
      event_meets (Giving (suc results) ticks) next past m event (route, event_is, next_is) may ground = quietly past m event _ event_is tt may
      event_meets (Ticking_devices place (suc count) ticks) next past m event (drawn, route, event_is, next_is) may ground = quietly past m event _ event_is tt may
      event_meets (Ticking_chip ticks) next past m event (event_is, next_is) may ground = quietly past m event _ event_is tt may
      event_meets (Ticking_decoder ticks) next past m event (event_is, next_is) may ground = quietly past m event _ event_is tt may
      event_meets (Ticking_host (first ∷ events) ticks) next past m event (event_is, next_is) may ground = quietly past m event _ event_is tt may
      event_meets (Sleeping passes ticks) next past m event (node, wants, event_is, next_is) may ground = quietly past m event _ event_is tt may
      event_meets (Submitting passes ticks) next past m event (asked, is, event_is, next_is) may ground = quietly past m event _ event_is tt may
      event_meets (Moving passes ticks) next past m event (rest, ways, event_is, next_is) may ground = quietly past m event _ event_is tt may
      event_meets (Moved has_moved passes ticks) next past m event (rest, items, done, event_is, next_is) may ground = quietly past m event _ event_is tt may
      event_meets here next past m event goes may ground = absurd goes

      pub fates_walk : WalkOver (Ground devices) (MayMeetSo devices) KnowNothing
      fates_walk = record {
        said = λ past m words line read ground known. (tt, tt);
        event = λ here next past m event goes may ground known. (event_meets here next past m event goes may ground, tt);
        turn = λ here next past m turns ground known. tt;
      }
