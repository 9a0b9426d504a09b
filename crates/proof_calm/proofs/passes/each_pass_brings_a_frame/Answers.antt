-- Both parts of a pass.
use Rattle.proof_waking.proofs.proof_traffic_Parts.{Airs}
use Rattle.proof_calm.proofs.ChipTurns.{chip_turns}
use Rattle.proof_calm.proofs.HostTurns.{host_turns}
use Rattle.proof_calm.proofs.passes.each_pass_brings_a_frame.Goals as goal

pub returns-clause-to_host : goal.returns-clause-to_host
returns-clause-to_host c = λ m unit units host turn frames rest items events plain few line may. host_turns airs m unit units host turn frames rest items events plain few line may
  where
    airs : Airs
    airs = record {
      goes = c.frames_fly_in_order.ensures.goes;
      next = c.frames_fly_in_order.ensures.next;
      lands = c.frames_fly_in_order.ensures.lands;
      count = c.frames_fly_in_order.ensures.count;
      begins = c.frames_fly_in_order.ensures.begins;
    }

pub returns-clause-to_chip : goal.returns-clause-to_chip
returns-clause-to_chip c = λ m host turn frames rest ways line may. chip_turns m host turn frames rest ways line may
