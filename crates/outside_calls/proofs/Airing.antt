-- Frames that arrive or are heard again.
use Rattle.std.proofs.Common.{◌≡◌, ℕ, inl, inr, List, [], ◌∷◌, refl, ap, sym, ◌∙◌, subst, Result, OnOk, OnErr}
use Rattle.std.specs.Prelude.{Option, Some, None}
use Rattle.route_table.specs.declared.route.Route.{Route}
use Rattle.device_sim.specs.State.{State}
use Rattle.air_frames.specs.Ages.{refusal_of}
use Rattle.mesh_sim.specs.Air.{AirState}
use Rattle.mesh_sim.specs.Fates.{Mesh}
use Rattle.mesh_sim.specs.declared.event.AirEvent.{AirEvent}
use Rattle.mesh_sim.specs.Steps.{AirStep, Arrives as arrives, Repeats as repeats_frame, mesh_after, mesh_outs, MayHappen, Did, IsArrival, IsRepeatOf, IsCut}
use Rattle.std.proofs.lemmas.List.{append-nil}
use Rattle.mesh_sim.specs.Faults.{IsFault, fault_of}
use Rattle.mesh_sim.specs.declared.event.RepeatFault.{RepeatFault}
use Rattle.mesh_sim.specs.declared.event.RepeatFault.TheVariants as faults
use Rattle.air_frames.specs.declared.ages.Refusal.TheVariants as refusals
use Rattle.air_frames.specs.declared.ages.Refusal.{Refusal as RepeatRefusal}
use Rattle.zw_text.specs.declared.entry.Entry.{Entry}
use Rattle.outside_model.specs.State.{OuterState, outside, tells, each}
use Rattle.outside_model.specs.Air.{deals}
use Rattle.outside_model.specs.Events.{Arrives, Repeats, outcome, devices_after, May, steps, repeats, devices_repeated, MayRepeat, refusal_entries, mesh_of}
use Rattle.outside_model.specs.Did.{RunOf, PrefixOf, Stops, Enters}
use Rattle.outside_model.specs.Schedules.{Arrivals, IsRepeat}
use Rattle.outside_step.proofs.Answered.{map_ok, map_err}
use Rattle.outside_calls.proofs.Single.{run_one, stops_now, stops_in}
use Rattle.outside_calls.proofs.Counted.{arrivals}

abbrev pub States : Type 0
States = List State

abbrev pub with_air : OuterState → AirState → OuterState
with_air o air = record o { air = air }

-- a fault tells why a frame is refused
reason_of : RepeatFault → Option RepeatRefusal
reason_of faults.NeverSent = Some refusals.NeverSent
reason_of faults.Forgotten = Some refusals.Forgotten
reason_of (faults.Stale later) = Some (refusals.Stale later)
reason_of faults.NoMemory = None

reason_back : (refusal : RepeatRefusal) → reason_of (fault_of refusal) ≡ Some refusal
unfolding reason_of
reason_back refusals.NeverSent = refl
reason_back refusals.Forgotten = refl
reason_back (refusals.Stale later) = refl

reason_given : (x : Option RepeatRefusal) (given : RepeatFault) → IsFault x given → reason_of given ≡ x
unfolding reason_of
reason_given None given is = ap reason_of is
reason_given (Some refusal) given is = ap reason_of is ∙ reason_back refusal

fault_says : (x : Option RepeatRefusal) (given : RepeatFault) (refusal : RepeatRefusal) → IsFault x given → given ≡ fault_of refusal → x ≡ Some refusal
fault_says x given refusal is same = sym (reason_given x given is) ∙ (ap reason_of same ∙ reason_back refusal)

-- the step that was done, with what it told
module _ (o : OuterState) (air : AirState) (ds later : States) (step : AirStep) (events : List AirEvent) (did : Did (step ∷ []) o.air ds air later [] events) where
  pub step_air : air ≡ (mesh_after (mesh_of (outside o ds)) step).air
  step_air = ap (λ (m : Mesh). m.air) did.mesh

  pub step_devices : later ≡ (mesh_after (mesh_of (outside o ds)) step).devices
  step_devices = ap (λ (m : Mesh). m.devices) did.mesh

  step_events : events ≡ mesh_outs (mesh_of (outside o ds)) step
  step_events = did.outs ∙ append-nil (mesh_outs (mesh_of (outside o ds)) step)

  -- what it told was dealt with and entered
  pub step_enters : (new : OuterState) (before all : List Entry) → Enters (each (deals later) (with_air o air) events) new before all → Enters (steps (outside o ds) step) new before all
  step_enters new before all done =
      subst (λ (l : List AirEvent). Enters (each (deals (mesh_after (mesh_of (outside o ds)) step).devices) (with_air o (mesh_after (mesh_of (outside o ds)) step).air) l) new before all) step_events
      (subst (λ (a : AirState). Enters (each (deals (mesh_after (mesh_of (outside o ds)) step).devices) (with_air o a) events) new before all) step_air
      (subst (λ (l : States). Enters (each (deals l) (with_air o air) events) new before all) step_devices done))

-- the next frame arrived
pub arrival_runs : (o new : OuterState) (ds later : States) (drawn : List ℕ) (route : Option Route) (before all : List Entry)
    → MayHappen (mesh_of (outside o ds)) (arrives drawn route) → later ≡ (mesh_after (mesh_of (outside o ds)) (arrives drawn route)).devices
    → Enters (steps (outside o ds) (arrives drawn route)) new before all → RunOf (Arrivals 1) (outside o ds) (outside new later) before all
unfolding outcome devices_after May
arrival_runs o new ds later drawn route before all may devices done =
    (Arrives drawn route ∷ [], (drawn, route, [], refl, refl), run_one (Arrives drawn route) (outside o ds) new later before all may done devices)

-- it stops in that
pub arrival_stops : (o : OuterState) (ds later : States) (drawn : List ℕ) (route : Option Route) (before all : List Entry)
    → MayHappen (mesh_of (outside o ds)) (arrives drawn route) → later ≡ (mesh_after (mesh_of (outside o ds)) (arrives drawn route)).devices → all ≡ before
    → Stops (PrefixOf (Arrivals 1)) (outside o ds) later before all
unfolding outcome devices_after May
arrival_stops o ds later drawn route before all may devices put =
    stops_in (PrefixOf (Arrivals 1)) (Arrives drawn route) (outside o ds) later before all ([], (drawn, route, [], refl, refl)) refl may devices put

-- a frame was heard again
pub repeat_runs : (o new : OuterState) (ds later : States) (number : ℕ) (drawn : List ℕ) (route : Option Route) (before all : List Entry)
    → refusal_of o.air.frames number ≡ None → MayHappen (mesh_of (outside o ds)) (repeats_frame number drawn route) → later ≡ (mesh_after (mesh_of (outside o ds)) (repeats_frame number drawn route)).devices
    → Enters (steps (outside o ds) (repeats_frame number drawn route)) new before all → RunOf (IsRepeat number) (outside o ds) (outside new later) before all
unfolding outcome devices_after May
repeat_runs o new ds later number drawn route before all allowed may devices done = (
  Repeats number drawn route ∷ [],
  (drawn, route, refl),
  run_one (Repeats number drawn route) (outside o ds) new later before all
      (subst (λ (r : Option RepeatRefusal). MayRepeat (outside o ds) r (repeats_frame number drawn route)) (sym allowed) may)
      (subst (λ (r : Option RepeatRefusal). Enters (repeats (outside o ds) r (repeats_frame number drawn route)) new before all) (sym allowed) done)
      (devices ∙ ap (λ (r : Option RepeatRefusal). devices_repeated (outside o ds) r (repeats_frame number drawn route)) (sym allowed)),
)

pub repeat_stops : (o : OuterState) (ds later : States) (number : ℕ) (drawn : List ℕ) (route : Option Route) (before all : List Entry)
    → MayHappen (mesh_of (outside o ds)) (repeats_frame number drawn route) → later ≡ (mesh_after (mesh_of (outside o ds)) (repeats_frame number drawn route)).devices → all ≡ before
    → Stops (PrefixOf (IsRepeat number)) (outside o ds) later before all
unfolding outcome devices_after May MayHappen
repeat_stops o ds later number drawn route before all may devices put =
    stops_in (PrefixOf (IsRepeat number)) (Repeats number drawn route) (outside o ds) later before all ([], (drawn, route, refl)) refl
    (subst (λ (r : Option RepeatRefusal). MayRepeat (outside o ds) r (repeats_frame number drawn route)) (sym may.0) may)
    (devices ∙ ap (λ (r : Option RepeatRefusal). devices_repeated (outside o ds) r (repeats_frame number drawn route)) (sym may.0)) put

-- a repeat was refused
pub refusal_runs : (o new : OuterState) (ds : States) (number : ℕ) (refused : RepeatRefusal) (before all : List Entry)
    → refusal_of o.air.frames number ≡ Some refused → Enters (tells o (refusal_entries refused)) new before all → RunOf (IsRepeat number) (outside o ds) (outside new ds) before all
unfolding outcome devices_after May
refusal_runs o new ds number refused before all is done = (
  Repeats number [] None ∷ [],
  ([], None, refl),
  run_one (Repeats number [] None) (outside o ds) new ds before all
      (subst (λ (r : Option RepeatRefusal). MayRepeat (outside o ds) r (repeats_frame number [] None)) (sym is) tt)
      (subst (λ (r : Option RepeatRefusal). Enters (repeats (outside o ds) r (repeats_frame number [] None)) new before all) (sym is) done)
      (ap (λ (r : Option RepeatRefusal). devices_repeated (outside o ds) r (repeats_frame number [] None)) (sym is)),
)

-- an arrival, or a repeat, was cut short
arrival_cut : (o : OuterState) (ds later : States) (before all : List Entry) → IsCut IsArrival (mesh_of (outside o ds)) later → all ≡ before → Stops (PrefixOf (Arrivals 1)) (outside o ds) later before all
arrival_cut o ds later before all (inl same) put = stops_now (PrefixOf (Arrivals 1)) (outside o ds) later before all (arrivals.some 0 1) same put
arrival_cut o ds later before all (inr (step, (drawn, route, is), may, same)) put =
    arrival_stops o ds later drawn route before all (subst (λ (s : AirStep). MayHappen (mesh_of (outside o ds)) s) is may)
    (same ∙ ap (λ (s : AirStep). (mesh_after (mesh_of (outside o ds)) s).devices) is) put

repeat_cut : (o : OuterState) (ds later : States) (number : ℕ) (before all : List Entry) → IsCut (IsRepeatOf number) (mesh_of (outside o ds)) later → all ≡ before
    → Stops (PrefixOf (IsRepeat number)) (outside o ds) later before all
repeat_cut o ds later number before all (inl same) put = stops_now (PrefixOf (IsRepeat number)) (outside o ds) later before all (Repeats number [] None ∷ [], ([], None, refl)) same put
repeat_cut o ds later number before all (inr (step, (drawn, route, is), may, same)) put =
    repeat_stops o ds later number drawn route before all (subst (λ (s : AirStep). MayHappen (mesh_of (outside o ds)) s) is may)
    (same ∙ ap (λ (s : AirStep). (mesh_after (mesh_of (outside o ds)) s).devices) is) put

-- what calls of the air did
module _ {V E : Type 0} (r : Result V E) (o q mid new : OuterState) (ds later : States) (before all : List Entry) (same : q ≡ o) where
  -- the next frame arrived, and that was entered, or not
  module _ (none events : List AirEvent) (empty : none ≡ []) where
    -- only the air is another
    rested : mid ≡ with_air q mid.air → OnOk r (Enters (each (deals later) mid events) new before all) → OnOk r (Enters (each (deals later) (with_air q mid.air) events) new before all)
    rested rest done = subst (λ (x : OuterState). OnOk r (Enters (each (deals later) x events) new before all)) rest done

    pub arrived_ok : mid ≡ with_air q mid.air → (drawn : List ℕ) × (route : Option Route) × Did (arrives drawn route ∷ []) q.air ds mid.air later none events
        → OnOk r (Enters (each (deals later) mid events) new before all) → OnOk r (RunOf (Arrivals 1) (outside o ds) (outside new later) before all)
    arrived_ok rest (drawn, route, told) done =
        let did : Did (arrives drawn route ∷ []) q.air ds mid.air later [] events = subst (λ (l : List AirEvent). Did (arrives drawn route ∷ []) q.air ds mid.air later l events) empty told in
        subst (λ (p : OuterState). OnOk r (RunOf (Arrivals 1) (outside p ds) (outside new later) before all)) same
        (map_ok r (Enters (each (deals later) (with_air q mid.air) events) new before all) (RunOf (Arrivals 1) (outside q ds) (outside new later) before all)
        (λ (entered : Enters (each (deals later) (with_air q mid.air) events) new before all). arrival_runs q new ds later drawn route before all did.may.0
        (step_devices q mid.air ds later (arrives drawn route) events did) (step_enters q mid.air ds later (arrives drawn route) events did new before all entered)) (rested rest done))

    pub arrived_err : (drawn : List ℕ) × (route : Option Route) × Did (arrives drawn route ∷ []) q.air ds mid.air later none events → OnErr r (all ≡ before) → OnErr r (Stops (PrefixOf (Arrivals 1)) (outside o ds) later before all)
    arrived_err (drawn, route, told) put =
        let did : Did (arrives drawn route ∷ []) q.air ds mid.air later [] events = subst (λ (l : List AirEvent). Did (arrives drawn route ∷ []) q.air ds mid.air later l events) empty told in
        subst (λ (p : OuterState). OnErr r (Stops (PrefixOf (Arrivals 1)) (outside p ds) later before all)) same
        (map_err r (all ≡ before) (Stops (PrefixOf (Arrivals 1)) (outside q ds) later before all)
        (λ (e : all ≡ before). arrival_stops q ds later drawn route before all did.may.0 (step_devices q mid.air ds later (arrives drawn route) events did) e) put)

    -- a frame was heard again
    pub repeated_ok : mid ≡ with_air q mid.air → (number : ℕ) → refusal_of q.air.frames number ≡ None → (drawn : List ℕ) × (route : Option Route) × Did (repeats_frame number drawn route ∷ []) q.air ds mid.air later none events
        → OnOk r (Enters (each (deals later) mid events) new before all) → OnOk r (RunOf (IsRepeat number) (outside o ds) (outside new later) before all)
    repeated_ok rest number allowed (drawn, route, told) done =
        let did : Did (repeats_frame number drawn route ∷ []) q.air ds mid.air later [] events = subst (λ (l : List AirEvent). Did (repeats_frame number drawn route ∷ []) q.air ds mid.air later l events) empty told in
        subst (λ (p : OuterState). OnOk r (RunOf (IsRepeat number) (outside p ds) (outside new later) before all)) same
        (map_ok r (Enters (each (deals later) (with_air q mid.air) events) new before all) (RunOf (IsRepeat number) (outside q ds) (outside new later) before all)
        (λ (entered : Enters (each (deals later) (with_air q mid.air) events) new before all). repeat_runs q new ds later number drawn route before all allowed did.may.0
        (step_devices q mid.air ds later (repeats_frame number drawn route) events did) (step_enters q mid.air ds later (repeats_frame number drawn route) events did new before all entered)) (rested rest done))

    pub repeated_err : (number : ℕ) → (drawn : List ℕ) × (route : Option Route) × Did (repeats_frame number drawn route ∷ []) q.air ds mid.air later none events
        → OnErr r (all ≡ before) → OnErr r (Stops (PrefixOf (IsRepeat number)) (outside o ds) later before all)
    repeated_err number (drawn, route, told) put =
        let did : Did (repeats_frame number drawn route ∷ []) q.air ds mid.air later [] events = subst (λ (l : List AirEvent). Did (repeats_frame number drawn route ∷ []) q.air ds mid.air later l events) empty told in
        subst (λ (p : OuterState). OnErr r (Stops (PrefixOf (IsRepeat number)) (outside p ds) later before all)) same
        (map_err r (all ≡ before) (Stops (PrefixOf (IsRepeat number)) (outside q ds) later before all)
        (λ (e : all ≡ before). repeat_stops q ds later number drawn route before all did.may.0 (step_devices q mid.air ds later (repeats_frame number drawn route) events did) e) put)

  -- it was cut short
  pub arrival_cut_err : IsCut IsArrival (record { air = q.air; devices = ds }) later → OnErr r (all ≡ before) → OnErr r (Stops (PrefixOf (Arrivals 1)) (outside o ds) later before all)
  arrival_cut_err cut put =
      subst (λ (p : OuterState). OnErr r (Stops (PrefixOf (Arrivals 1)) (outside p ds) later before all)) same
      (map_err r (all ≡ before) (Stops (PrefixOf (Arrivals 1)) (outside q ds) later before all) (λ (e : all ≡ before). arrival_cut q ds later before all cut e) put)

  pub repeat_cut_err : (number : ℕ) → IsCut (IsRepeatOf number) (record { air = q.air; devices = ds }) later → OnErr r (all ≡ before)
      → OnErr r (Stops (PrefixOf (IsRepeat number)) (outside o ds) later before all)
  repeat_cut_err number cut put =
      subst (λ (p : OuterState). OnErr r (Stops (PrefixOf (IsRepeat number)) (outside p ds) later before all)) same
      (map_err r (all ≡ before) (Stops (PrefixOf (IsRepeat number)) (outside q ds) later before all) (λ (e : all ≡ before). repeat_cut q ds later number before all cut e) put)

  -- a repeat was refused
  pub repeat_refused : (number : ℕ) (fault : RepeatFault) → mid ≡ q → IsFault (refusal_of q.air.frames number) fault
      → ((refused : RepeatRefusal) → refusal_of q.air.frames number ≡ Some refused → later ≡ ds)
      → OnOk r ((refused : RepeatRefusal) × (fault ≡ fault_of refused) × Enters (tells mid (refusal_entries refused)) new before all)
      → OnOk r (RunOf (IsRepeat number) (outside o ds) (outside new later) before all)
  repeat_refused number fault stays given still done =
      subst (λ (p : OuterState). OnOk r (RunOf (IsRepeat number) (outside p ds) (outside new later) before all)) same
      (map_ok r ((refused : RepeatRefusal) × (fault ≡ fault_of refused) × Enters (tells mid (refusal_entries refused)) new before all) (RunOf (IsRepeat number) (outside q ds) (outside new later) before all) go done)
    where
      go : (refused : RepeatRefusal) × (fault ≡ fault_of refused) × Enters (tells mid (refusal_entries refused)) new before all → RunOf (IsRepeat number) (outside q ds) (outside new later) before all
      go (refused, is, entered) =
          let why : refusal_of q.air.frames number ≡ Some refused = fault_says (refusal_of q.air.frames number) fault refused given is in
          subst (λ (l : States). RunOf (IsRepeat number) (outside q ds) (outside new l) before all) (sym (still refused why))
          (refusal_runs q new ds number refused before all why (subst (λ (x : OuterState). Enters (tells x (refusal_entries refused)) new before all) stays entered))
