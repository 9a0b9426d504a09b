-- Results that are given, and what is shown.
use Rattle.std.proofs.Common.{◌≡◌, ℕ, List, [], ◌∷◌, ◌++◌, drop, refl, ap, sym, ◌∙◌, subst, Result, OnOk}
use Rattle.std.specs.Prelude.{Option, Some, None, slice_get}
use Rattle.std.proofs.lemmas.List.{append-nil}
use Rattle.zw_base.specs.declared.profile.Profile.{Profile}
use Rattle.route_table.specs.declared.route.Route.{Route}
use Rattle.chip_sim.specs.Events.{Informed}
use Rattle.device_sim.specs.State.{State}
use Rattle.mesh_sim.specs.Fates.{place_of}
use Rattle.mesh_sim.specs.Routes.{IsRoute}
use Rattle.zw_text.specs.declared.entry.Entry.{Entry}
use Rattle.zw_text.specs.declared.entry.Entry.TheVariants.{Refused}
use Rattle.zw_text.specs.declared.entry.Refusal.TheVariants.{NoDevice}
use Rattle.outside_model.specs.declared.waits.Due.{Due}
use Rattle.outside_model.specs.declared.waits.Due.TheVariants.{Info, NoRoute}
use Rattle.outside_model.specs.State.{OuterState, outside, tells, Does}
use Rattle.outside_model.specs.Chip.{chip_does}
use Rattle.outside_model.specs.Results.{no_route, profile_for, informs, gives, MayGive, device_at}
use Rattle.outside_model.specs.Devices.{device_entries, shown_entries}
use Rattle.outside_model.specs.Events.{Gives, Shows, outcome, devices_after, May, stamp, has_entered}
use Rattle.outside_model.specs.Did.{GoesFor, Enters}
use Rattle.outside_model.specs.Schedules.{Givings, IsOne}
use Rattle.outside_step.proofs.Answered.{map_ok}
use Rattle.outside_calls.proofs.Single.{run_one, entered_ok}

-- the chip was given the information of a node
pub informed : {V E : Type 0} (r : Result V E) (o new : OuterState) (ds : List State) (node : ℕ) (given profile : Option Profile) (before all : List Entry)
    → (route : Option Route) × IsRoute o.air.network node route × (profile ≡ profile_for o.air ds node route) → given ≡ profile
    → OnOk r (Does (chip_does o (Informed node given)) new before all)
    → OnOk r ((route : Option Route) × IsRoute o.air.network node route × Does (informs o ds node route) new before all)
informed r o new ds node given profile before all (route, way, found) read done =
    map_ok r (Does (chip_does o (Informed node given)) new before all) ((route : Option Route) × IsRoute o.air.network node route × Does (informs o ds node route) new before all)
    (λ (did : Does (chip_does o (Informed node given)) new before all). (
      route,
      way,
      subst (λ (p : Option Profile). Does (chip_does o (Informed node p)) new before all) (read ∙ found) did,
    )) done

-- what is due first
pub head_of : (due : List Due) (x : Due) → slice_get due 0 ≡ Some x → due ≡ x ∷ drop 1 due
head_of [] x is = absurd (cc)
head_of (y ∷ due) x is = let e : y ≡ x = cc in ap (λ (z : Due). z ∷ due) e

pub none_due : (due : List Due) → slice_get due 0 ≡ None → due ≡ []
none_due [] is = refl
none_due (y ∷ due) is = absurd (cc)

abbrev pub GivesDue : OuterState → List State → List Due → OuterState → List Entry → List Entry → Type 0
GivesDue o ds due new before all = (route : Option Route) × MayGive o due route × Does (gives o ds due route) new before all

module _ (o : OuterState) (ds : List State) (before all : List Entry) where
  pub gives_none : o.due ≡ [] → all ≡ before → GivesDue o ds o.due o before all
  gives_none none put =
      subst (λ (due : List Due). GivesDue o ds due o before all) (sym none) (None, tt, record { outer = refl; entries = put ∙ sym (append-nil before) })

module _ {V E : Type 0} (r : Result V E) (o new : OuterState) (ds : List State) (due : List Due) (before all : List Entry) where
  pub gives_no_route : o.due ≡ NoRoute ∷ due → OnOk r (Does (no_route o) new before all) → OnOk r (GivesDue o ds o.due new before all)
  gives_no_route is done =
      subst (λ (l : List Due). OnOk r (GivesDue o ds l new before all)) (sym is)
      (map_ok r (Does (no_route o) new before all) (GivesDue o ds (NoRoute ∷ due) new before all) (λ (did : Does (no_route o) new before all). (None, tt, did)) done)

  pub gives_info : (q : OuterState) (node : ℕ) → o.due ≡ Info node ∷ due → q ≡ record o { due = due }
      → OnOk r ((route : Option Route) × IsRoute q.air.network node route × Does (informs q ds node route) new before all) → OnOk r (GivesDue o ds o.due new before all)
  gives_info q node is left done =
      subst (λ (l : List Due). OnOk r (GivesDue o ds l new before all)) (sym is)
      (subst (λ (p : OuterState). OnOk r ((route : Option Route) × IsRoute p.air.network node route × Does (informs p ds node route) new before all)) left done)

module _ {V E : Type 0} (r : Result V E) (o new : OuterState) (ds : List State) (before all : List Entry) where
  -- what was given is entered
  pub give_runs : (mid : OuterState) (start told : List Entry) → start ≡ [] → (route : Option Route) × MayGive o o.due route × Does (gives o ds o.due route) mid start told
      → OnOk r (new ≡ has_entered mid told) → OnOk r (all ≡ before ++ stamp mid told) → OnOk r (GoesFor ds (Givings 1) o new before all)
  unfolding outcome devices_after May
  give_runs mid start told none (route, may, done) outer put =
      map_ok r (Enters (gives o ds o.due route) new before all) (GoesFor ds (Givings 1) o new before all)
      (λ (entered : Enters (gives o ds o.due route) new before all). (Gives route ∷ [], (route, [], refl, refl), run_one (Gives route) (outside o ds) new ds before all may entered refl))
      (entered_ok r (gives o ds o.due route) mid new start told before all none done outer put)

  -- what is shown
  pub shown_none : (node : ℕ) → place_of node ds ≡ None → OnOk r (Enters (tells o (Refused NoDevice ∷ [])) new before all) → OnOk r (GoesFor ds (IsOne (Shows node)) o new before all)
  unfolding outcome devices_after May
  shown_none node none done =
      map_ok r (Enters (tells o (Refused NoDevice ∷ [])) new before all) (GoesFor ds (IsOne (Shows node)) o new before all)
      (λ (entered : Enters (tells o (Refused NoDevice ∷ [])) new before all). (
        Shows node ∷ [],
        refl,
        run_one (Shows node) (outside o ds) new ds before all tt
            (subst (λ (p : Option ℕ). Enters (tells o (shown_entries node (device_at ds p))) new before all) (sym none) entered) refl,
      )) done

  pub shown_at : (node place : ℕ) (d : State) (start told : List Entry) → place_of node ds ≡ Some place → slice_get ds place ≡ Some d → start ≡ [] → told ≡ start ++ device_entries node (Some d)
      → OnOk r (new ≡ has_entered o told) → OnOk r (all ≡ before ++ stamp o told) → OnOk r (GoesFor ds (IsOne (Shows node)) o new before all)
  unfolding outcome devices_after May
  shown_at node place d start told found at none put outer entered =
      map_ok r (Enters (tells o (device_entries node (Some d))) new before all) (GoesFor ds (IsOne (Shows node)) o new before all)
      (λ (did : Enters (tells o (device_entries node (Some d))) new before all). (
        Shows node ∷ [],
        refl,
        run_one (Shows node) (outside o ds) new ds before all tt
            (subst (λ (p : Option ℕ). Enters (tells o (shown_entries node (device_at ds p))) new before all) (sym found)
            (subst (λ (s : Option State). Enters (tells o (shown_entries node s)) new before all) (sym at) did)) refl,
      ))
      (entered_ok r (tells o (device_entries node (Some d))) o new start told before all none (record { outer = refl; entries = put }) outer entered)
