-- The values are shown.
use Rattle.run_replay.specs.contracts.replay.Replay.{the_view}
use Rattle.run_replay.proofs.Asking.{shows_values}
use Rattle.run_replay.proofs.replay.Replay.store.Goals as goal

pub returns-clause-ok : goal.returns-clause-ok
returns-clause-ok c =
    let w = the_view c.self.inside in
    rw (← c.self.view_is) (shows_values c.push.result c.args.node c.in_ok-text.text w.host w.clock c.args.out.now.items c.push.new.self.items c.in_ok-text.ensures c.push.ensures.ok)
