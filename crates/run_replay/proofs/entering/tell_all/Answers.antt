use Rattle.run_replay.proofs.Hosting.{told_more}
use Rattle.run_replay.proofs.entering.tell_all.Goals as goal

pub loop-one-preserved : goal.loop-one-preserved
loop-one-preserved c = told_more c.args.told.now.items c.loop-one.told.items c.push.new.self.items c.loop-one.yielded c.in-Some.one _ c.loop-one.invariant c.in_ok-entry_of.ensures c.in_ok-push.ensures.ok
