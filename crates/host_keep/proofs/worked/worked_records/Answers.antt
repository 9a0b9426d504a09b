use Rattle.std.proofs.Common.{refl}
use Rattle.host_orders.specs.Classes.{lists, actuator_of}
use Rattle.host_orders.specs.Refusals.{first_refusal, known_refusal}
use Rattle.host_keep.specs.Kept.{first_nodes, after_all}
use Rattle.host_keep.specs.Legal.{first_illegal}
use Rattle.host_keep.proofs.worked.worked_records.Goals as goal

pub returns : goal.returns
unfolding lists actuator_of first_refusal known_refusal first_nodes after_all first_illegal
returns c = record {
  exchange = refl;
  confirmed = refl;
  overtaken = refl;
  hurried = refl;
  cancelled_twice = refl;
  two_nonces = refl;
  counted_twice = refl;
  two_live = refl;
  unknown_node = refl;
  controller = refl;
  joined_twice = refl;
}
