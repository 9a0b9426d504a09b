-- The changes that the devices have made are shown, at each phase of a line.
use Rattle.std.proofs.Common.{◌≡◌, ℕ, zero, suc, List, [], ◌∷◌, ◌++◌, refl, subst}
use Rattle.std.specs.Prelude.{Some, slice_get}
use Rattle.device_sim.specs.State.{State}
use Rattle.zw_text.specs.declared.line.Line.{Line}
use Rattle.zw_text.specs.declared.entry.Entry.{Entry}
use Rattle.zw_text.specs.declared.entry.Entry.TheVariants.{Said}
use Rattle.zw_text.specs.Transcript.{line_of}
use Rattle.law_transcript.specs.Lists.{EachAfter}
use Rattle.world_model.specs.State.{Machine}
use Rattle.world_model.specs.Events.{Event, happens, entries, May}
use Rattle.proof_air.specs.proof_device.GoingOn.{GoOn, AreSame}
use Rattle.proof_air.specs.proof_device.Showing.{AllShow, AreApart, Shows}
use Rattle.proof_air.proofs.DevicePlaces.{go_none, go_then, go_same, machine_goes}
use Rattle.proof_air.proofs.ShownChanges.{show_none, show_then}
use Rattle.proof_air.proofs.ShownChanges.{stays_apart}
use Rattle.proof_air.specs.proof_walk.Phases.{Phase, Between, Said_line, Goes}
use Rattle.proof_air.specs.proof_walk.Walk.{Walk}
use Rattle.proof_devices.specs.Living.{MayAny}
use Rattle.proof_devices.proofs.Numbers.{each_any}

-- the devices have gone on, and their changes are shown
abbrev pub KnowChanges : List State → Phase → List Entry → Machine → Type 0
KnowChanges olds here past m = GoOn olds m.outside.devices × AllShow past olds m.outside.devices

module _ (olds : List State) (apart : AreApart olds) (shows : (m : Machine) (event : Event) → May m event → AreApart m.outside.devices → AllShow (entries m event) m.outside.devices (happens m event).outside.devices) where
  said : (past : List Entry) (m : Machine) (words : List ℕ) (line : Line) → line_of (Said words) ≡ line ∷ [] → KnowChanges olds Between past m
      → MayAny past (Said words) × KnowChanges olds (Said_line line) (past ++ Said words ∷ []) m
  said past m words line read known =
      (tt, (known.0, show_then past (Said words ∷ []) olds m.outside.devices m.outside.devices (go_same olds m.outside.devices known.0) known.1 (show_none (Said words ∷ []) m.outside.devices (λ n. refl))))

  event_shows : (here next : Phase) (past : List Entry) (m : Machine) (event : Event) → Goes here m event next → May m event → KnowChanges olds here past m
      → EachAfter MayAny past (entries m event) × KnowChanges olds next (past ++ entries m event) (happens m event)
  event_shows here next past m event goes may known =
      let same : AreSame olds m.outside.devices = go_same olds m.outside.devices known.0 in (
        each_any past (entries m event),
        (
          go_then olds m.outside.devices (happens m event).outside.devices known.0 (machine_goes m event),
          show_then past (entries m event) olds m.outside.devices (happens m event).outside.devices same known.1 (shows m event may (stays_apart olds m.outside.devices same apart)),
        ),
      )

  pub changes_walk : Walk MayAny (KnowChanges olds)
  changes_walk = record { said = said; event = event_shows; turn = λ here next past m turns known. known }

pub changes_first : (m : Machine) → KnowChanges m.outside.devices Between [] m
changes_first m = (go_none m.outside.devices, show_none [] m.outside.devices (λ n. refl))

-- those of the device at a place
pub show_at : (told : List Entry) (olds news : List State) (place : ℕ) (old new : State) → AllShow told olds news → slice_get olds place ≡ Some old → slice_get news place ≡ Some new → Shows told old new
show_at told [] news place old new shows stood stands = absurd cc
show_at told (o ∷ olds) [] place old new shows stood stands = absurd shows
show_at told (o ∷ olds) (n ∷ news) zero old new shows stood stands =
    let was : o ≡ old = cc in
    let is : n ≡ new = cc in
    subst (λ (s : State). Shows told s new) was (subst (λ (s : State). Shows told o s) is shows.0)
show_at told (o ∷ olds) (n ∷ news) (suc place) old new shows stood stands = show_at told olds news place old new shows.1 stood stands
