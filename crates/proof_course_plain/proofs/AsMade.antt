-- A device as its maker left it, and its place in the list.
use Rattle.std.proofs.Common.{◌≡◌, ℕ, suc, ◌<◌, ◌==◌, Bool, true, false, if◌then◌else◌, List, [], ◌∷◌, Some, option_map, slice_get, refl, sym, ap, subst, ◌∙◌, arith}
use Rattle.std.specs.List.{AllByRecursion}
use Rattle.zw_base.proofs.Each.{all-get}
use Rattle.proof_course.specs.Sessions.{first_course}
use Rattle.device_kinds.specs.Kind.{lists}
use Rattle.device_kinds.specs.declared.kind.Kind.{Kind}
use Rattle.device_kinds.specs.declared.kind.Kind.TheVariants.{Relay, Switch, Dimmer, Lock, Sensor, Thermostat, Strip, Configurable}
use Rattle.device_sim.specs.State.{State, fresh}
use Rattle.mesh_sim.specs.Fates.{place_of}
use Rattle.law_transcript.specs.Headline.{IsAsMade}
use Rattle.law_transcript.specs.Nodes.{device_of}
use Rattle.proof_traffic.proofs.ChangesOutside.{place_is}
use Rattle.proof_once.specs.proof_messages.Asking.{takes_openly}
use Rattle.proof_course_plain.specs.Device.{AtDevice, IsIdle, OthersAreIdle}
use Rattle.proof_course_plain.specs.Mesh.{HasDevice}

-- ---- kinds

pub opens : (kind : Kind) → lists kind 0x6C ≡ true → lists kind 0x98 ≡ false → takes_openly kind ≡ true
opens Relay supervised unsealed = absurd cc
opens Lock supervised unsealed = absurd cc
opens Switch supervised unsealed = refl
opens Dimmer supervised unsealed = refl
opens Sensor supervised unsealed = refl
opens Thermostat supervised unsealed = refl
opens Strip supervised unsealed = refl
opens Configurable supervised unsealed = refl

-- ---- the place of a device

-- the first device of a node stands at a place
pub record Stands (node : ℕ) (devices : List State) (device : State) : Type 0 where
  pub place : ℕ
  pub first : place_of node devices ≡ Some place
  pub stands : slice_get devices place ≡ Some device

by_hit : (hit : Bool) (node : ℕ) (device : State) (devices : List State) (found : State) → (device.node == node) ≡ hit → (device_of node devices ≡ Some found → Stands node devices found)
    → (if hit then Some device else device_of node devices) ≡ Some found → Stands node (device ∷ devices) found
by_hit true node device devices found is more e =
    let same : device ≡ found = cc in record { place = 0; first = ap (λ (b : Bool). if b then Some 0 else option_map suc (place_of node devices)) is; stands = ap (λ (d : State). Some d) same }
by_hit false node device devices found is more e =
    let later = more e in
    record { place = suc later.place; first = ap (λ (b : Bool). if b then Some 0 else option_map suc (place_of node devices)) is ∙ ap (option_map suc) later.first; stands = later.stands }

pub finds : (node : ℕ) (devices : List State) (found : State) → device_of node devices ≡ Some found → Stands node devices found
finds node [] found e = absurd cc
finds node (device ∷ devices) found e = by_hit (device.node == node) node device devices found refl (finds node devices found) e

-- ---- what its maker left

within : (key : List ℕ) (one : State) → IsAsMade key one → one.node < 233
within key one made = let most = made.to_max in omega (arith, most)

-- the first device of a node as its maker left it, and its place; the others of the node are idle
pub record StandsAsMade (key : List ℕ) (node : ℕ) (devices : List State) (device : State) : Type 0 where
  pub within : node < 233
  pub place : ℕ
  pub first : place_of node devices ≡ Some place
  pub stands : slice_get devices place ≡ Some device
  pub made : device ≡ fresh device.node device.kind key
  pub others : OthersAreIdle node devices place
  pub nodes : (other : ℕ) (one : State) → slice_get devices other ≡ Some one → one.node < 233

module _ (idle : (node : ℕ) (kind : Kind) (key : List ℕ) → IsIdle (fresh node kind key)) where
  pub idle_as_made : (key : List ℕ) (one : State) → IsAsMade key one → IsIdle one
  idle_as_made key one made = subst IsIdle (sym made.made) (idle one.node one.kind key)

  pub stand_as_made : (key : List ℕ) (devices : List State) (node : ℕ) (device : State) → AllByRecursion (IsAsMade key) devices → device_of node devices ≡ Some device → StandsAsMade key node devices device
  stand_as_made key devices node device all found =
      let at = finds node devices device found in
      let made = all-get (IsAsMade key) devices at.place device all at.stands in
      record {
        within = subst (λ (n : ℕ). n < 233) (place_is node devices at.place device at.first at.stands) (within key device made);
        place = at.place;
        first = at.first;
        stands = at.stands;
        made = made.made;
        others = λ other one is own away. idle_as_made key one (all-get (IsAsMade key) devices other one all is);
        nodes = λ other one is. within key one (all-get (IsAsMade key) devices other one all is);
      }

  module _ (begins : (node : ℕ) (kind : Kind) (key : List ℕ) → takes_openly kind ≡ true → AtDevice first_course (fresh node kind key)) where
    pub begins_course : (key : List ℕ) (devices : List State) (node : ℕ) (device : State) → AllByRecursion (IsAsMade key) devices → device_of node devices ≡ Some device
        → lists device.kind 0x6C ≡ true → lists device.kind 0x98 ≡ false → (node < 233) × ((has : HasDevice node first_course devices) × (has.device ≡ device))
    begins_course key devices node device all found supervised unsealed =
        let at = stand_as_made key devices node device all found in (
          at.within,
          (
            record {
              device = device;
              place = at.place;
              first = at.first;
              stands = at.stands;
              at = subst (AtDevice first_course) (sym at.made) (begins device.node device.kind key (opens device.kind supervised unsealed));
              others = at.others;
              nodes = at.nodes;
            },
            refl,
          ),
        )
