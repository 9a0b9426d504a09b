-- Who is awake when a frame arrives or is repeated is who is by the transcript.
use Rattle.std.proofs.Common.{◌≡◌, ◌≢◌, ℕ, zero, suc, ◌-◌, ◌==◌, Bool, true, false, if◌then◌else◌, List, [], ◌∷◌, ◌++◌, refl, sym, ap, ◌∙◌, arith}
use Rattle.std.specs.Prelude.{Option, Some, None, is_some, slice_get}
use Rattle.std.specs.Option.{option_map}
use Rattle.device_sim.specs.State.{State}
use Rattle.mesh_sim.specs.Fates.{place_of, awake_at, listener_of, is_awake as awake_of}
use Rattle.zw_text.specs.declared.entry.Entry.{Entry}
use Rattle.law_transcript.specs.Devices.{brought, lived_by}
use Rattle.law_transcript.specs.Nodes.{controller, device_of}
use Rattle.law_wire.specs.Arriving.{device_now, is_awake}
use Rattle.outside_model.specs.State.{Outside}
use Rattle.outside_model.specs.Events.{ticked_entry}
use Rattle.world_model.specs.State.{Machine}
use Rattle.world_model.specs.Events.{Event}
use Rattle.proof_air.specs.proof_walk.Phases.{Doing}
use Rattle.proof_air.specs.proof_walk.Time.{KnowTime}
use Rattle.zw_text.specs.declared.line.Line.TheVariants as lines
use Rattle.zw_text.specs.Transcript.{lines_run, time_of}
use Rattle.law_transcript.specs.Restarts.{ticks_asked}
use Rattle.proof_air.specs.proof_device.GoingOn.{AreSame}
use Rattle.proof_air.proofs.DevicePlaces.{go_same}
use Rattle.proof_devices.specs.Living.{Acts, Lived, Simply, Tie, IsNow, InTick, KnownNumber, lived_in}
use Rattle.proof_devices.proofs.Quiet.{number_quiet}
use Rattle.proof_devices.proofs.Shown.{still_brought}
use Rattle.proof_devices.proofs.Places.{same_place, tie_still}
use Rattle.proof_devices.proofs.Numbers.{lived_ticking}
use Rattle.proof_devices.proofs.Now.{lived_is_now}
use Rattle.proof_devices.proofs.Replies.{JoinsAny, simply_keep}
use Rattle.proof_devices.proofs.Walking.{lived_none, repeats_said, after_words}
use Rattle.proof_devices.proofs.Whole.{stands_at}

-- a device stands where one stood
pub record StandsThere (devices : List State) (place : ℕ) : Type 0 where
  pub device : State
  pub stands : slice_get devices place ≡ Some device

pub stands_there : (olds news : List State) (place : ℕ) (old : State) → AreSame olds news → slice_get olds place ≡ Some old → StandsThere news place
stands_there [] news place old same stood = absurd cc
stands_there (first ∷ olds) [] place old same stood = absurd same
stands_there (first ∷ olds) (new ∷ news) zero old same stood = record { device = new; stands = refl }
stands_there (first ∷ olds) (new ∷ news) (suc place) old same stood =
    let rest = stands_there olds news place old same.1 stood in record { device = rest.device; stands = rest.stands }

-- a node without a device has no place
pub no_place : (node : ℕ) (devices : List State) → device_of node devices ≡ None → place_of node devices ≡ None
no_place node [] none = refl
no_place node (first ∷ devices) none = by (first.node == node) (λ there. no_place node devices there) none
  where
    by : (b : Bool) → (device_of node devices ≡ None → place_of node devices ≡ None) → (if b then Some first else device_of node devices) ≡ None
        → (if b then Some 0 else option_map suc (place_of node devices)) ≡ None
    by true later none = absurd cc
    by false later none = ap (option_map suc) (later none)

awake_is : (place : ℕ) (b : Bool) → is_some (if b then Some place else None) ≡ b
awake_is place true = refl
awake_is place false = refl

-- all have lived as many ticks, and as many has a device by the transcript
module _ (olds : List State) (past : List Entry) (w : Outside) (node : ℕ) (apart : node ≢ controller) (tie : Tie Simply olds (λ place. lived_by past) past w) where
  none_listens : device_of node olds ≡ None → is_some (listener_of node w.devices) ≡ false
  none_listens none =
      ap (λ (place : Option ℕ). is_some (awake_at w.devices place)) (same_place node olds w.devices (go_same olds w.devices tie.go) ∙ no_place node olds none)

  one_listens : (old : State) → device_of node olds ≡ Some old → is_some (listener_of node w.devices) ≡ (device_now past old).awake
  one_listens old found =
      let was = stands_at node olds old found in
      let now = stands_there olds w.devices was.place old (go_same olds w.devices tie.go) was.stood in
      let lived : Lived (lived_by past) (brought old.node past) old now.device
      = tie.live was.place old now.device was.stood (ap (λ (n : ℕ). place_of n olds) was.own ∙ was.first) (λ is. apart (sym was.own ∙ is)) now.stands in
      let is_now : IsNow (device_now past old) now.device = lived_is_now (lived_by past) (brought old.node past) old now.device lived in
      ap (λ (place : Option ℕ). is_some (awake_at w.devices place)) (same_place node olds w.devices (go_same olds w.devices tie.go) ∙ was.first)
      ∙ (ap (λ (found : Option State). is_some (if awake_of found then Some was.place else None)) now.stands ∙ (awake_is was.place now.device.awake ∙ is_now.awake))

  pub listens_as_shown : is_some (listener_of node w.devices) ≡ is_awake past (device_of node olds)
  listens_as_shown = by (device_of node olds) refl
    where
      by : (found : Option State) → device_of node olds ≡ found → is_some (listener_of node w.devices) ≡ is_awake past found
      by None is = none_listens is
      by (Some old) is = one_listens old is

-- where a frame arrives, once the number of the tick is entered
pub arriving_listens : (olds : List State) (past : List Entry) (m : Machine) (node : ℕ) → node ≢ controller → InTick Simply olds 0 past m → KnownNumber past m
    → is_some (listener_of node m.outside.devices) ≡ is_awake (past ++ ticked_entry m.outside.outer) (device_of node olds)
arriving_listens olds past m node apart known number =
    let w : Outside = m.outside in
    let later : List Entry = past ++ ticked_entry w.outer in
    let lived : lived_by later ≡ w.outer.clock - 1 = lived_ticking past w number.0 in
    listens_as_shown olds later w node apart
    (tie_still Simply olds (lived_in 0 w.outer.clock) (λ place. lived_by later) past later w w refl (λ place. lived ∙ sym (lived_none w.outer.clock place))
    (λ place old first other. still_brought old.node past (ticked_entry w.outer) (number_quiet w.outer)) (λ place old events other came ticked also. tt) known.tie)

-- where a frame is to be repeated, directly after the words of the line
pub repeating_listens : (olds : List State) (past : List Entry) (m : Machine) (frame : ℕ) (left : List Event) (node : ℕ) → node ≢ controller → KnowTime (Doing (lines.Repeat frame) left) past m
    → Acts olds (lines.Repeat frame) left past m → is_some (listener_of node m.outside.devices) ≡ is_awake past (device_of node olds)
repeating_listens olds past m frame left node apart time acts =
    let w : Outside = m.outside in
    let clock = time.0.0.clock in
    let asked : ticks_asked (lines_run past) ≡ w.outer.clock = omega (arith, clock) in
    let lived : lived_by past ≡ w.outer.clock
    = ap (λ (b : Bool). if b then ticks_asked (lines_run past) else time_of past - 1) (repeats_said Simply olds frame past m acts.0.0) ∙ asked in
    listens_as_shown olds past w node apart
    (tie_still Simply olds (λ place. w.outer.clock) (λ place. lived_by past) past past w w refl (λ place. lived) (λ place old first other. refl)
    (λ place old events other came ticked also. tt) (after_words Simply olds JoinsAny (simply_keep olds) (lines.Repeat frame) past m acts.0.0 (λ other ticks. refl)))
