use Rattle.outside_step.proofs.Answered.{map_ok_both, map_err_both}
use Rattle.outside_calls.proofs.Moves.{set_runs, set_stops}
use Rattle.outside_calls.proofs.outside.Outside.local.Goals as goal

pub returns-clause-ok : goal.returns-clause-ok
returns-clause-ok g c = map_ok_both c.act_by_hand.result _ _ _ (set_runs _ _ _ _ _ _ _ _) c.act_by_hand.ensures.devices c.act_by_hand.ensures.ok

pub returns-clause-err : goal.returns-clause-err
returns-clause-err g c = map_err_both c.act_by_hand.result _ _ _ (set_stops _ _ _ _ _ _ _) c.act_by_hand.ensures.err c.act_by_hand.ensures.no_entries
