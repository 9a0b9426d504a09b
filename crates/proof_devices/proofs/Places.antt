-- The first device of each node stays at its place, and what is known of all goes on where one of them has an event.
use Rattle.std.proofs.Common.{◌≡◌, ◌≢◌, ℕ, zero, suc, ◌+◌, ◌==◌, Bool, true, false, if◌then◌else◌, List, [], ◌∷◌, ◌++◌, refl, sym, ap, subst, ◌∙◌, inr, arith}
use Rattle.std.proofs.lemmas.Bool.{eqb-true, eq-eqb}
use Rattle.std.specs.Prelude.{Option, Some, slice_get, slice_set}
use Rattle.std.specs.Option.{option_map}
use Rattle.device_sim.specs.State.{State}
use Rattle.device_sim.specs.Event.{DeviceEvent, device_after}
use Rattle.mesh_sim.specs.Fates.{place_of}
use Rattle.zw_text.specs.declared.entry.Entry.{Entry}
use Rattle.law_transcript.specs.Devices.{after_events, coming_of, ticks_in, ticks_lived, comings, brought}
use Rattle.law_transcript.specs.Nodes.{controller}
use Rattle.outside_model.specs.State.{Outside}
use Rattle.proof_air.specs.proof_device.GoingOn.{GoOn, AreSame}
use Rattle.proof_air.proofs.DevicePlaces.{go_one, go_then, go_same}
use Rattle.proof_air.proofs.ChangesOutside.{get_set, place_is}
use Rattle.proof_devices.specs.Living.{Keeping, LivedWith, Tie}
use Rattle.proof_devices.proofs.Shown.{lived_on, lived_as}

get_other : (devices : List State) (place at : ℕ) (other : State) → at ≢ place → slice_get (slice_set devices place other) at ≡ slice_get devices at
get_other [] place at other apart = refl
get_other (first ∷ devices) zero zero other apart = absurd (apart refl)
get_other (first ∷ devices) zero (suc at) other apart = refl
get_other (first ∷ devices) (suc place) zero other apart = refl
get_other (first ∷ devices) (suc place) (suc at) other apart = get_other devices place at other (λ e. apart (ap suc e))

-- ---- devices that stay the same

pub same_place : (node : ℕ) (olds news : List State) → AreSame olds news → place_of node news ≡ place_of node olds
same_place node [] [] same = refl
same_place node [] (new ∷ news) same = absurd same
same_place node (old ∷ olds) [] same = absurd same
same_place node (old ∷ olds) (new ∷ news) same =
    ap (λ (n : ℕ). if n == node then Some 0 else option_map suc (place_of node news)) same.0.node
    ∙ ap (λ (o : Option ℕ). if old.node == node then Some 0 else option_map suc o) (same_place node olds news same.1)

pub same_at : (olds news : List State) (place : ℕ) (old new : State) → AreSame olds news → slice_get olds place ≡ Some old → slice_get news place ≡ Some new → new.node ≡ old.node
same_at [] news place old new same stood stands = absurd cc
same_at (o ∷ olds) [] place old new same stood stands = absurd same
same_at (o ∷ olds) (n ∷ news) zero old new same stood stands =
    let was : o ≡ old = cc in
    let is : n ≡ new = cc in
    ap (λ (s : State). s.node) (sym is) ∙ (same.0.node ∙ ap (λ (s : State). s.node) was)
same_at (o ∷ olds) (n ∷ news) (suc place) old new same stood stands = same_at olds news place old new same.1 stood stands

-- ---- one has an event

-- what else is kept of the first device of each node goes from these entries to those
abbrev pub AlsoGoes : Keeping → List State → (ℕ → ℕ) → List Entry → List Entry → Type 0
AlsoGoes Also olds ticks past later =
    (place : ℕ) (old : State) (events : List DeviceEvent) → old.node ≢ controller → comings events ≡ brought old.node past → ticks_lived events ≡ ticks place
    → Also past old events → Also later old events

-- the entries are the same
pub also_same : (Also : Keeping) (olds : List State) (ticks : ℕ → ℕ) (past : List Entry) → AlsoGoes Also olds ticks past past
also_same Also olds ticks past = λ place old events apart came ticked also. also

-- nothing changes but what is told
pub tie_still : (Also : Keeping) (olds : List State) (ticks now : ℕ → ℕ) (past later : List Entry) (w v : Outside) → v.devices ≡ w.devices
    → ((place : ℕ) → now place ≡ ticks place) → ((place : ℕ) (old : State) → place_of old.node olds ≡ Some place → old.node ≢ controller → brought old.node later ≡ brought old.node past)
    → AlsoGoes Also olds ticks past later → Tie Also olds ticks past w → Tie Also olds now later v
tie_still Also olds ticks now past later w v same alike shown also tie = record {
  go = subst (GoOn olds) (sym same) tie.go;
  live = λ place old new stood first apart stands.
      lived_as (Also past old) (Also later old) (ticks place) (now place) (brought old.node past) (brought old.node later) old new (alike place) (shown place old first apart)
      (λ events came ticked was. also place old events apart came ticked was)
      (tie.live place old new stood first apart (ap (λ (l : List State). slice_get l place) (sym same) ∙ stands));
}

-- it keeps it in its event
abbrev pub AlsoDoes : Keeping → ℕ → ℕ → List Entry → List Entry → State → DeviceEvent → State → Type 0
AlsoDoes Also ticks now past later device event old =
    (events : List DeviceEvent) → device ≡ after_events old events → comings events ≡ brought old.node past → ticks_lived events ≡ ticks
    → comings (events ++ event ∷ []) ≡ brought old.node later → ticks_lived (events ++ event ∷ []) ≡ now → Also past old events → Also later old (events ++ event ∷ [])

-- the device at a place has an event, which is shown, and ticks are counted by places
pub tie_set : (Also : Keeping) (olds : List State) (ticks now : ℕ → ℕ) (past later : List Entry) (w v : Outside) (place : ℕ) (device : State) (event : DeviceEvent)
    → slice_get w.devices place ≡ Some device → v.devices ≡ slice_set w.devices place (device_after device event)
    → now place ≡ ticks place + ticks_in event → ((other : ℕ) → other ≢ place → now other ≡ ticks other)
    → ((old : State) → slice_get olds place ≡ Some old → place_of old.node olds ≡ Some place → old.node ≢ controller →
    (brought old.node later ≡ brought old.node past ++ coming_of (ticks place) event) × AlsoDoes Also (ticks place) (now place) past later device event old)
    → ((other : ℕ) (old : State) → other ≢ place → slice_get olds other ≡ Some old → place_of old.node olds ≡ Some other → old.node ≢ controller →
    (brought old.node later ≡ brought old.node past)
    × ((events : List DeviceEvent) → comings events ≡ brought old.node past → ticks_lived events ≡ ticks other → Also past old events → Also later old events))
    → Tie Also olds ticks past w → Tie Also olds now later v
tie_set Also olds ticks now past later w v place device event stood set here others shown elsewhere tie = record {
  go = go_then olds w.devices v.devices tie.go (go_one w.devices v.devices (inr (record { place = place; device = device; event = event; stood = stood; stands = set })));
  live = λ at old new was first apart stands. by at old new was first apart (ap (λ (l : List State). slice_get l at) (sym set) ∙ stands) (at == place) refl;
}
  where
    at_place : (old : State) → slice_get olds place ≡ Some old → place_of old.node olds ≡ Some place → old.node ≢ controller
        → LivedWith (Also later old) (now place) (brought old.node later) old (device_after device event)
    at_place old was first apart =
        let told = shown old was first apart in
        let on : LivedWith (Also later old) (ticks place + ticks_in event) (brought old.node past ++ coming_of (ticks place) event) old (device_after device event)
        = lived_on (Also past old) (Also later old) (ticks place) (brought old.node past) old device event
        (λ events runs came lived comes ticked also. told.1 events runs came lived (comes ∙ sym told.0) (ticked ∙ sym here) also) (tie.live place old device was first apart stood) in
        lived_as (Also later old) (Also later old) (ticks place + ticks_in event) (now place) (brought old.node past ++ coming_of (ticks place) event) (brought old.node later) old
        (device_after device event) here told.0 (λ events came ticked also. also) on

    by : (at : ℕ) (old new : State) → slice_get olds at ≡ Some old → place_of old.node olds ≡ Some at → old.node ≢ controller
        → slice_get (slice_set w.devices place (device_after device event)) at ≡ Some new → (b : Bool) → (at == place) ≡ b → LivedWith (Also later old) (now at) (brought old.node later) old new
    by at old new was first apart stands true is =
        let same : at ≡ place = eqb-true at place is in
        let is_new : Some (device_after device event) ≡ Some new
        = sym (get_set w.devices place device (device_after device event) stood) ∙ (ap (λ (k : ℕ). slice_get (slice_set w.devices place (device_after device event)) k) (sym same) ∙ stands) in
        let one : device_after device event ≡ new = cc in
        let was_here : slice_get olds place ≡ Some old = ap (λ (k : ℕ). slice_get olds k) (sym same) ∙ was in
        let first_here : place_of old.node olds ≡ Some place = first ∙ ap (λ (k : ℕ). Some k) same in
        subst (λ (s : State). LivedWith (Also later old) (now at) (brought old.node later) old s) one
        (subst (λ (k : ℕ). LivedWith (Also later old) (now k) (brought old.node later) old (device_after device event)) (sym same) (at_place old was_here first_here apart))
    by at old new was first apart stands false is =
        let other : at ≢ place = λ same. (let none : true ≡ false = sym (eq-eqb at place same) ∙ is in cc) in
        let told = elsewhere at old other was first apart in
        lived_as (Also past old) (Also later old) (ticks at) (now at) (brought old.node past) (brought old.node later) old new (others at other) told.0 told.1
        (tie.live at old new was first apart (sym (get_other w.devices place at (device_after device event) other) ∙ stands))

-- the first device of a node has an event that brings it something, and no other anything
pub tie_first : (Also : Keeping) (olds : List State) (ticks : ℕ) (past later : List Entry) (w v : Outside) (node place : ℕ) (device : State) (event : DeviceEvent)
    → place_of node w.devices ≡ Some place → slice_get w.devices place ≡ Some device → v.devices ≡ slice_set w.devices place (device_after device event) → ticks_in event ≡ 0
    → ((old : State) → old.node ≡ node → node ≢ controller → (brought node later ≡ brought node past ++ coming_of ticks event) × AlsoDoes Also ticks ticks past later device event old)
    → ((other : State) → other.node ≢ node → other.node ≢ controller → (brought other.node later ≡ brought other.node past)
    × ((events : List DeviceEvent) → comings events ≡ brought other.node past → ticks_lived events ≡ ticks → Also past other events → Also later other events))
    → Tie Also olds (λ at. ticks) past w → Tie Also olds (λ at. ticks) later v
tie_first Also olds ticks past later w v node place device event first stood set none shown elsewhere tie =
    tie_set Also olds (λ at. ticks) (λ at. ticks) past later w v place device event stood set (omega (arith, none)) (λ other apart. refl)
    (λ old was is apart.
    let same : old.node ≡ node = sym (node_here old was) in
    let told = shown old same (λ is_controller. apart (same ∙ is_controller)) in
    (subst (λ (n : ℕ). brought n later ≡ brought n past ++ coming_of ticks event) (sym same) told.0, told.1))
    (λ at old other was is apart. elsewhere old (λ same. other (is_place at old is same)) apart) tie
  where
    first_before : place_of node olds ≡ Some place
    first_before = sym (same_place node olds w.devices (go_same olds w.devices tie.go)) ∙ first

    node_here : (old : State) → slice_get olds place ≡ Some old → node ≡ old.node
    node_here old was = sym (place_is node olds place old first_before was)

    is_place : (at : ℕ) (old : State) → place_of old.node olds ≡ Some at → old.node ≡ node → at ≡ place
    is_place at old is same = let both : Some at ≡ Some place = sym is ∙ (ap (λ (n : ℕ). place_of n olds) same ∙ first_before) in cc
