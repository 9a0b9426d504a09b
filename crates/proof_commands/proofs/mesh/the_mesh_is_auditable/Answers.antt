-- What is assumed of devices holds of each of the mesh, and the keeper is new.
use Rattle.std.proofs.Common.{List, sym, subst, arith}
use Rattle.std.specs.List.{AllByRecursion}
use Rattle.device_sim.specs.State.{State}
use Rattle.law_transcript.specs.Headline.{IsAsMade}
use Rattle.law_transcript.specs.Nodes.{first_node}
use Rattle.proof_device.specs.Showing.{AreApart}
use Rattle.proof_audit.specs.Books.{IsOfItsKind}
use Rattle.proof_audit.specs.Headline.{IsSupervisedNode}
use Rattle.proof_commands.proofs.Meshed.{all_made, all_apart, all_of_their_kind, first_supervised}
use Rattle.proof_commands.proofs.mesh.the_mesh_is_auditable.Goals as goal

pub returns : goal.returns
returns c = λ key old story devices records. record {
  world = record {
    run = record {
      told = λ restarts. records;
      made = subst (λ (l : List State). AllByRecursion (IsAsMade key) l) (sym devices) (all_made key 2 231 (omega arith) (omega arith));
    };
    apart = subst AreApart (sym devices) (all_apart key 2 231);
  };
  kinds = subst (λ (l : List State). AllByRecursion IsOfItsKind l) (sym devices) (all_of_their_kind key 2 231);
  first = subst (λ (l : List State). IsSupervisedNode l first_node) (sym devices) (first_supervised key 230);
}
