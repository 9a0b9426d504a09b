use Rattle.outside_step.proofs.Items.{each_item}
use Rattle.outside_calls.proofs.dealing.deal_all.Goals as goal

pub loop-event-preserved : goal.loop-event-preserved
loop-event-preserved g c =
    each_item _ _ _ _ c.as_slice-event-items.ensures c.loop-event-test.true c.event-item.is _ _ _ _ _ _ _ c.loop-event.invariant c.in_ok-deal.ensures
