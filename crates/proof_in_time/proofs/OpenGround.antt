-- A count of ticks over lines for one node alone, whose messages may go in segments: the host listens to it.
use Rattle.std.proofs.Common.{◌≡◌, ℕ, Bool, true, List, [], subst}
use Rattle.host_model.specs.State.{node_of}
use Rattle.world_model.specs.State.{Machine}
use Rattle.proof_answered.specs.proof_calm.proof_work.Phases.{AsksNothing}
use Rattle.proof_answered.specs.proof_calm.proof_work.proof_walk.Phases.{Between, Phase}
use Rattle.proof_answered.specs.proof_calm.proof_work.proof_walk.Walk.{WalkWhere}
use Rattle.proof_answered.specs.Sleepers.{IsAlone}
use Rattle.proof_answered.proofs.HeardCalls.{rests_heard}
use Rattle.proof_answered.proofs.Walking.{begins_known}
use Rattle.proof_in_time.specs.InStep.{AreInStep}
use Rattle.proof_in_time.specs.Open.{IsOpenly, IsReadyOpenly, KnowOpenFirst, OpenAt, OpenCounts}
use Rattle.proof_in_time.proofs.Counting.{Ground, alone_ground}
use Rattle.proof_in_time.proofs.OpenWaits.{open_empty, open_in_time}

-- as a stretch begins
pub open_begins : (these : List Bool) (m : Machine) → IsReadyOpenly these m → KnowOpenFirst these Between [] m
open_begins these m ready =
    ((λ kept. (((λ stretched. (begins_known m ready.tied ready.few, rests_heard m ready.tied.rests), λ stretched. ready.knows), record { lines = tt; speak = ready.speak }), ready.openly)), λ kept. ready.first)

module _ (these : List Bool) (n : ℕ) (alone : IsAlone these n) where
  -- it is the one that is known of
  at_of : (here : Phase) (m : Machine) → IsOpenly these here m → OpenAt these n 23 here m
  at_of here m o = subst (λ (k : ℕ). OpenAt these k 23 here m) (alone.only o.n o.alone.marked) o.at

  listens_of : (here : Phase) (m : Machine) → IsOpenly these here m → (node_of m.host.state n).listens ≡ true
  listens_of here m o = subst (λ (k : ℕ). (node_of m.host.state k).listens ≡ true) (alone.only o.n o.alone.marked) o.served

  pub open_ground : OpenCounts these n → WalkWhere (AreInStep these) AsksNothing (KnowOpenFirst these) → Ground these n 23 true (AreInStep these) (KnowOpenFirst these) (OpenAt these n)
  open_ground counts walk =
      alone_ground these n 23 (AreInStep these) (KnowOpenFirst these) (OpenAt these n)
      (record {
        lines = record {
          walk = walk;
          workers = λ here past m kept known. (known.0 kept).0;
          in_time = λ here past m event kept known. open_in_time these here past m event kept known.0;
        };
        listens = λ here past m kept known. listens_of here m (known.0 kept).1;
        at = λ here past m kept known. at_of here m (known.0 kept).1;
        empty = λ here m rests at. open_empty these n 23 here m rests at;
        some = counts.some;
        later = λ here next past m event step most at. counts.later here next past m event step.goes step.may step.up step.kept step.was.0 step.then_is.0 most at;
        turned = λ here next past m turn most at. counts.turned here next past m turn.turns turn.kept turn.was.0 turn.then_is.0 most at;
        said = counts.said;
      })
