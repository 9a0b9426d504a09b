-- The device of a node that takes segments is in step with the host and listens: so it takes the segments of the attempt that runs, and it is the one that hears what is for the node.
use Rattle.std.proofs.Common.{◌≡◌, ◌≤◌, ℕ, true, refl, subst}
use Rattle.std.specs.Prelude.{Some}
use Rattle.supervision.specs.Host.{begun_of}
use Rattle.chip_functions.specs.Field.{IsNode}
use Rattle.mesh_sim.specs.Fates.{fate_of, place_of}
use Rattle.mesh_sim.specs.declared.fate.Fate.TheVariants.{AtDevice}
use Rattle.route_table.specs.Network.{Network}
use Rattle.air_frames.specs.Flown.{Flown}
use Rattle.device_kinds.specs.Kind.{lists}
use Rattle.device_kinds.specs.declared.kind.Kind.{Kind}
use Rattle.device_kinds.specs.declared.kind.Kind.TheVariants.{Relay, Switch, Dimmer, Lock, Sensor, Thermostat, Strip, Configurable}
use Rattle.device_sim.specs.State.{State}
use Rattle.host_model.specs.State.{node_of}
use Rattle.world_model.specs.State.{Machine}
use Rattle.proof_course_plain.proofs.Replies.{one_place, one_stands}
use Rattle.proof_answered.specs.Listening.{HasListener}
use Rattle.proof_answered.proofs.Speaking.{hears_at}
use Rattle.proof_in_time.specs.InStep.{HasInStep}
use Rattle.proof_in_time.proofs.PartsArriving.{TakesParts}

-- one kind takes segments
pub only_kind : (kind : Kind) → lists kind 0x55 ≡ true → kind ≡ Configurable
only_kind Relay cut = absurd cc
only_kind Switch cut = absurd cc
only_kind Dimmer cut = absurd cc
only_kind Lock cut = absurd cc
only_kind Sensor cut = absurd cc
only_kind Thermostat cut = absurd cc
only_kind Strip cut = absurd cc
only_kind Configurable cut = refl

module _ (n : ℕ) (m : Machine) (step : HasInStep n m) where
  pub takes_parts : IsNode n → lists step.device.kind 0x55 ≡ true → HasListener n m.outside.devices → 1 ≤ begun_of (node_of m.host.state n).book → TakesParts n (begun_of (node_of m.host.state n).book) m
  takes_parts node cut listens some = record {
    stands = record { place = step.place; device = step.device; first = step.first; stands = step.stands };
    awake = subst (λ (d : State). d.awake ≡ true) same listens.is_up.awake;
    kind = only_kind step.device.kind cut;
    step = step.step some;
    at = step.plain.at;
    keeps = step.keeps;
    untold = step.untold node;
  }
    where
      same : listens.device ≡ step.device
      same = one_stands m.outside.devices listens.place step.place listens.device step.device listens.stands step.stands (one_place n m.outside.devices listens.place step.place listens.first step.first)

  -- what hears a frame for the node is this one
  pub hears_there : (net : Network) (frame : Flown) (place : ℕ) → frame.node ≡ n → fate_of net m.outside.devices frame ≡ AtDevice place → fate_of net m.outside.devices frame ≡ AtDevice step.place
  hears_there net frame place own is =
      let first : place_of n m.outside.devices ≡ Some place = subst (λ (k : ℕ). place_of k m.outside.devices ≡ Some place) own (hears_at net m.outside.devices frame place is) in
      subst (λ (k : ℕ). fate_of net m.outside.devices frame ≡ AtDevice k) (one_place n m.outside.devices place step.place first step.first) is
