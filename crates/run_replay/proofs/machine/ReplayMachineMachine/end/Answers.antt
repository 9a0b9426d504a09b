-- The table, and its pieces.
use Rattle.std.proofs.Common.{subst}
use Rattle.run_lines.proofs.Growing.{on_ok}
use Rattle.run_replay.specs.Machine.{ReplayState}
use Rattle.run_replay.specs.Replay.{IsTable, point_of}
use Rattle.run_replay.proofs.ReplayRun.{is_table}
use Rattle.run_replay.proofs.machine.ReplayMachineMachine.end.Goals as goal

pub returns : goal.returns
returns g c = record {
  ok = on_ok c.add_entries.result _ _
      (λ is. subst (λ (w : ReplayState). IsTable (point_of w (g.P.Keeper.shelf c.args._second.now)) c.add_entries.new.out.items) c.self.view_is
      (is_table c.self.inside.replay c.new-entries.result.items c.table.new.out.items c.as_slice.result.now c.args.out.now.items c.add_entries.new.out.items
      c.new-entries.ensures c.requires.empty c.in_ok-table.ensures c.as_slice.ensures is (g.P.Keeper.shelf c.args._second.now)))
      c.add_entries.ensures.ok;
}
