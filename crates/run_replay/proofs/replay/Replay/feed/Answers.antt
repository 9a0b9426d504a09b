-- Bytes of the chip are taken, and what the host puts out is entered.
use Rattle.run_replay.specs.contracts.replay.Replay.{the_view}
use Rattle.run_replay.proofs.Hosting.{bytes_taken, bytes_stop, bytes_cut}
use Rattle.run_replay.proofs.replay.Replay.feed.Goals as goal

pub returns-in_err-feed-clause-err : goal.returns-in_err-feed-clause-err
returns-in_err-feed-clause-err g c =
    let w = the_view c.self.inside in
    rw (← c.self.view_is) (bytes_cut c.from_residual.result c.args.bytes.now w.host c.feed.new.self w.clock (g.P.Keeper.shelf c.args.keeper.now).records (g.P.Keeper.shelf c.feed.new.keeper).records c.new-outs.result.items c.feed.new.out.items c.args.out.now.items (g.P.Keeper.shelf c.args.keeper.now).faults (g.P.Keeper.shelf c.feed.new.keeper).faults c.new-outs.ensures c.in_err-feed.ensures.err)

pub returns-clause-ok : goal.returns-clause-ok
returns-clause-ok g c =
    let w = the_view c.self.inside in
    rw (← c.self.view_is) (bytes_taken c.enter.result c.args.bytes.now w.host c.feed.new.self w.clock (g.P.Keeper.shelf c.args.keeper.now).records (g.P.Keeper.shelf c.feed.new.keeper).records c.new-outs.result.items c.feed.new.out.items c.args.out.now.items c.enter.new.out.items (g.P.Keeper.shelf c.args.keeper.now).faults (g.P.Keeper.shelf c.feed.new.keeper).faults c.new-outs.ensures c.in_ok-feed.ensures.ok c.enter.ensures.ok)

pub returns-clause-err : goal.returns-clause-err
returns-clause-err g c =
    let w = the_view c.self.inside in
    rw (← c.self.view_is) (bytes_stop c.enter.result c.args.bytes.now w.host c.feed.new.self w.clock (g.P.Keeper.shelf c.args.keeper.now).records (g.P.Keeper.shelf c.feed.new.keeper).records c.new-outs.result.items c.feed.new.out.items c.args.out.now.items c.enter.new.out.items (g.P.Keeper.shelf c.args.keeper.now).faults (g.P.Keeper.shelf c.feed.new.keeper).faults c.new-outs.ensures c.in_ok-feed.ensures.ok c.enter.ensures.err)
