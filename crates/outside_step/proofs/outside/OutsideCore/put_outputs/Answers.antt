use Rattle.outside_step.proofs.Items.{each_item}
use Rattle.outside_step.proofs.outside.OutsideCore.put_outputs.Goals as goal

pub loop-output-preserved : goal.loop-output-preserved
loop-output-preserved c =
    each_item _ _ _ _ c.as_slice-output-items.ensures c.loop-output-test.true c.output-item.is _ _ _ _ _ _ _ c.loop-output.invariant c.in_ok-put_output.ensures
