-- A device of a kind that listens stays awake, and hears each frame for it.
use Rattle.std.proofs.Common.{◌≡◌, ℕ, zero, suc, ◌==◌, Bool, true, false, if◌then◌else◌, List, [], ◌∷◌, refl, sym, ap, ◌∙◌, subst, arith}
use Rattle.std.specs.Prelude.{Option, Some, None, option_map, slice_get}
use Rattle.std.specs.List.{AllZip}
use Rattle.route_table.specs.Network.{Network}
use Rattle.air_frames.specs.declared.frame.Heading.{Heading}
use Rattle.air_frames.specs.declared.frame.Heading.TheVariants.{Outward}
use Rattle.air_frames.specs.Flown.{Flown}
use Rattle.device_kinds.specs.declared.kind.Kind.{Kind}
use Rattle.device_kinds.specs.Kind.{listens}
use Rattle.device_sim.specs.Event.{DeviceEvent, device_after}
use Rattle.device_sim.specs.State.{State}
use Rattle.law_transcript.specs.Devices.{after_events}
use Rattle.mesh_sim.specs.Fates.{dead_hop_of, fate_by, fate_of, listener_of, place_of, awake_at, is_awake}
use Rattle.mesh_sim.specs.declared.fate.Fate.TheVariants.{AtDevice, Lost}
use Rattle.proof_device.specs.GoingOn.{AreSame, GoOn, GoesOn, IsSame}
use Rattle.proof_calm.specs.Live.{IsLive}
use Rattle.law_time.proofs.Listening.{event_up}
use Rattle.proof_answered.specs.Listening.{HasListener, IsUp}
use Rattle.proof_answered.specs.Sleepers.{HasSleeper}

-- ---- what it hears

pub fate_so : (lost : Bool) (dead : Option (ℕ × ℕ)) (heading : Heading) (listener : Option ℕ) (place : ℕ) → lost ≡ false → dead ≡ None → heading ≡ Outward → listener ≡ Some place
    → (if lost then Lost else fate_by dead heading listener) ≡ AtDevice place
fate_so lost dead heading listener place kept live out there = rw kept (rw live (rw out (rw there refl)))

pub listener_hears : (net : Network) (devices : List State) (frame : Flown) (is : HasListener frame.node devices) → frame.heading ≡ Outward → IsLive net frame → fate_of net devices frame ≡ AtDevice is.place
listener_hears net devices frame is out live = fate_so frame.lost (dead_hop_of net frame) frame.heading (listener_of frame.node devices) is.place live.0 live.1 out there
  where
    awake : is_awake (slice_get devices is.place) ≡ true
    awake = ap is_awake is.stands ∙ is.is_up.awake

    there : listener_of frame.node devices ≡ Some is.place
    there = ap (λ (place : Option ℕ). awake_at devices place) is.first ∙ ap (λ (b : Bool). if b then Some is.place else None) awake

-- ---- over events

-- devices that go on stand where they stood
pub stands_now : (Now : State → State → Type 0) (olds news : List State) → AllZip Now olds news → (place : ℕ) (device : State) → slice_get olds place ≡ Some device → (new : State) × ((slice_get news place ≡ Some new) × Now device new)
stands_now Now [] [] are place device stood = absurd (grind arith)
stands_now Now [] (new ∷ news) are place device stood = absurd are
stands_now Now (old ∷ olds) [] are place device stood = absurd are
stands_now Now (old ∷ olds) (new ∷ news) are zero device stood = let is : old ≡ device = cc in (new, (refl, subst (λ (d : State). Now d new) is are.0))
stands_now Now (old ∷ olds) (new ∷ news) are (suc place) device stood = stands_now Now olds news are.1 place device stood

pub same_place : (node : ℕ) (olds news : List State) → AreSame olds news → place_of node news ≡ place_of node olds
same_place node [] [] same = refl
same_place node [] (new ∷ news) same = absurd same
same_place node (old ∷ olds) [] same = absurd same
same_place node (old ∷ olds) (new ∷ news) same =
    ap (λ (b : Bool). if b then Some 0 else option_map suc (place_of node news)) (ap (λ (n : ℕ). n == node) same.0.node)
    ∙ ap (λ (place : Option ℕ). if old.node == node then Some 0 else option_map suc place) (same_place node olds news same.1)

events_up : (device : State) (events : List DeviceEvent) → IsUp device → IsUp (after_events device events)
events_up device [] up = up
events_up device (event ∷ events) up = events_up (device_after device event) events (event_up device event up)

pub all_stay : (node : ℕ) (olds news : List State) → GoOn olds news → AreSame olds news → HasListener node olds → HasListener node news
all_stay node olds news go same is =
    let later = stands_now GoesOn olds news go is.place is.device is.stands in
    record {
      place = is.place;
      device = later.0;
      first = same_place node olds news same ∙ is.first;
      stands = later.1.0;
      is_up = subst IsUp (sym later.1.1.1) (events_up is.device later.1.1.0 is.is_up);
    }

-- and one of a kind that sleeps is still one
pub sleeper_stays : (node : ℕ) (olds news : List State) → AreSame olds news → HasSleeper node olds → HasSleeper node news
sleeper_stays node olds news same is =
    let later = stands_now IsSame olds news same is.place is.device is.stands in
    record {
      place = is.place;
      device = later.0;
      first = same_place node olds news same ∙ is.first;
      stands = later.1.0;
      sleeps = ap (λ (kind : Kind). listens kind) later.1.1.kind ∙ is.sleeps;
    }
