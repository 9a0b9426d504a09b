-- What each event keeps holds of every history.
use Rattle.std.proofs.Common.{◌≡◌, ℕ, List, [], ◌∷◌, ◌++◌, refl, ap, sym, ◌∙◌, append_assoc}
use Rattle.std.specs.Prelude.{map}
use Rattle.std.proofs.lemmas.List.{append-nil, map-append}
use Rattle.std.proofs.Common.{subst}
use Rattle.std.proofs.lemmas.Grind.{flat_map-append}
use Rattle.std.specs.List.{flat_map}
use Rattle.serial_frame.specs.declared.unit.Unit.{Unit as LineUnit}
use Rattle.serial_link.specs.Rules.{Step, SideObeys, outs_of}
use Rattle.serial_link.proofs.Counting.{outs_of-append}
use Rattle.chip_sim.specs.Link.{link_steps, chip_unit, link_unit, chip_units, link_units}
use Rattle.chip_sim.specs.State.{ChipState}
use Rattle.chip_sim.specs.Events.{ChipEvent, after, outs, May}
use Rattle.chip_sim.specs.Did.{after_all, outs_all, MayAll}
use Rattle.chip_sim.specs.Rules.{over, WaitsWell}
use Rattle.chip_sim.proofs.Steps.{well_event}
use Rattle.chip_sim.proofs.Links.{obeys_event, units_event}

pub well_all : (s : ChipState) (events : List ChipEvent) → WaitsWell s.port → WaitsWell (after_all s events).port
well_all s [] well = well
well_all s (e ∷ events) well = well_all (after s e) events (well_event s e well)

-- what goes in by events comes out in the same order, and the rest is held
pub conveyed : {A : Type 0} (held : ChipState → List A) (puts gives : ChipState → ChipEvent → List A)
    → ((s : ChipState) (e : ChipEvent) → WaitsWell s.port → May s e → held s ++ puts s e ≡ gives s e ++ held (after s e))
    → (s : ChipState) (events : List ChipEvent) → WaitsWell s.port → MayAll s events → held s ++ over puts s events ≡ over gives s events ++ held (after_all s events)
conveyed held puts gives step s [] well may = append-nil (held s)
conveyed held puts gives step s (e ∷ events) well may =
    sym (append_assoc (held s) (puts s e) (over puts (after s e) events))
    ∙ ap (λ t. t ++ over puts (after s e) events) (step s e well may.0)
    ∙ append_assoc (gives s e) (held (after s e)) (over puts (after s e) events)
    ∙ ap (λ t. gives s e ++ t) (conveyed held puts gives step (after s e) events (well_event s e well) may.1)
    ∙ sym (append_assoc (gives s e) (over gives (after s e) events) (held (after_all (after s e) events)))

pub map_over : {A B : Type 0} (g : A → B) (f : ChipState → ChipEvent → List A) (s : ChipState) (events : List ChipEvent) → map g (over f s events) ≡ over (λ t e. map g (f t e)) s events
map_over g f s [] = refl
map_over g f s (e ∷ events) = map-append g (f s e) (over f (after s e) events) ∙ ap (λ t. map g (f s e) ++ t) (map_over g f (after s e) events)

pub obeys_all : (s : ChipState) (events : List ChipEvent) (h : List Step) → SideObeys h s.port.side → SideObeys (h ++ over link_steps s events) (after_all s events).port.side
obeys_all s [] h obeys = subst (λ (t : List Step). SideObeys t s.port.side) (sym (append-nil h)) obeys
obeys_all s (e ∷ events) h obeys =
    subst (λ (t : List Step). SideObeys t (after_all (after s e) events).port.side) (append_assoc h (link_steps s e) (over link_steps (after s e) events))
    (obeys_all (after s e) events (h ++ link_steps s e) (obeys_event s e h obeys))

pub units_all : (s : ChipState) (events : List ChipEvent) → chip_units (outs_all s events) ≡ link_units (over link_steps s events)
units_all s [] = refl
units_all s (e ∷ events) =
    flat_map-append chip_unit (outs s e) (outs_all (after s e) events)
    ∙ ap (λ (t : List LineUnit). t ++ chip_units (outs_all (after s e) events)) (units_event s e)
    ∙ ap (λ (t : List LineUnit). link_units (link_steps s e) ++ t) (units_all (after s e) events)
    ∙ sym (flat_map-append link_unit (outs_of (link_steps s e)) (outs_of (over link_steps (after s e) events)))
    ∙ sym (ap (flat_map link_unit) (outs_of-append (link_steps s e) (over link_steps (after s e) events)))
