-- The words of a line, its run, and its pieces.
use Rattle.std.proofs.Common.{map}
use Rattle.run_lines.proofs.Pieces.{OnErr-always}
use Rattle.run_lines.specs.Pieces.{pieces_of}
use Rattle.std.proofs.lemmas.Result.{on_err_weaker}
use Rattle.run_lines.proofs.Growing.{prefix_any, on_ok}
use Rattle.run_sim.specs.Sim.{point_of}
use Rattle.run_sim.proofs.SimRun.{not_run, begun_by, answers_line, stops_line, added_in_part}
use Rattle.run_sim.proofs.simulation.Simulation.run_one.Goals as goal

pub returns-in_err-said_entry-clause-err : goal.returns-in_err-said_entry-clause-err
returns-in_err-said_entry-clause-err g c = OnErr-always _ _ (not_run c.args.self.now.quiet c.args.text.now c.args.line.now _ _ c.requires.empty)

pub returns-in_err-push-clause-err : goal.returns-in_err-push-clause-err
returns-in_err-push-clause-err g c = OnErr-always _ _ (not_run c.args.self.now.quiet c.args.text.now c.args.line.now _ _ c.requires.empty)

pub returns-in_err-stepped-clause-err : goal.returns-in_err-stepped-clause-err
returns-in_err-stepped-clause-err g c =
    OnErr-always _ _ (stops_line c.args.self.now.quiet c.args.text.now c.args.line.now
    (point_of c.args.self.now.world (map (λ d. (goal.Device-dyn g (d.vtable, d.value)).state d.value) c.args.devices.now.items) (g.P.Keeper.shelf c.args.keeper.now) (g.P.Keeper.number c.args.keeper.now) (g.P.Keeper.reads c.args.keeper.now))
    (point_of c.step-stepped.new.self (map (λ d. (goal.Device-dyn g (d.vtable, d.value)).state d.value) c.step-stepped.new.devices.items) (g.P.Keeper.shelf c.step-stepped.new.keeper) (g.P.Keeper.number c.step-stepped.new.keeper) (g.P.Keeper.reads c.step-stepped.new.keeper))
    c.push.new.self.items c.step-stepped.new.out.items c.as_slice-told.result.now c.args.out.now.items c.add_entries-added.new.out.items
    (begun_by c.args.text.now c.args.line.now c.clear.ensures.items c.in_ok-push.ensures.ok c.in_ok-said_entry.ensures) c.as_slice-told.ensures c.requires.empty c.in_err-stepped.ensures.err c.step-stepped.ensures.goes_on
    (prefix_any c.add_entries-added.result c.args.out.now.items (pieces_of c.args.self.now.quiet c.as_slice-told.result.now) c.add_entries-added.new.out.items
    c.add_entries-added.ensures.ok c.add_entries-added.ensures.prefix))

pub returns-clause-ok : goal.returns-clause-ok
returns-clause-ok g c =
    on_ok _ _ _ (λ is. answers_line c.args.self.now.quiet c.args.text.now c.args.line.now
    (point_of c.args.self.now.world (map (λ d. (goal.Device-dyn g (d.vtable, d.value)).state d.value) c.args.devices.now.items) (g.P.Keeper.shelf c.args.keeper.now) (g.P.Keeper.number c.args.keeper.now) (g.P.Keeper.reads c.args.keeper.now))
    (point_of c.step-stepped.new.self (map (λ d. (goal.Device-dyn g (d.vtable, d.value)).state d.value) c.step-stepped.new.devices.items) (g.P.Keeper.shelf c.step-stepped.new.keeper) (g.P.Keeper.number c.step-stepped.new.keeper) (g.P.Keeper.reads c.step-stepped.new.keeper))
    c.push.new.self.items c.step-stepped.new.out.items c.as_slice-told.result.now c.args.out.now.items c.add_entries-added.new.out.items
    (begun_by c.args.text.now c.args.line.now c.clear.ensures.items c.in_ok-push.ensures.ok c.in_ok-said_entry.ensures) c.as_slice-told.ensures c.requires.empty c.entries_in_range.ensures c.in_ok-stepped.ensures.ok c.step-stepped.ensures.goes_on c.in_ok-stepped.ensures.keeps is)
    c.add_entries-added.ensures.ok

pub returns-clause-err : goal.returns-clause-err
returns-clause-err g c =
    on_err_weaker _ (λ prefix. added_in_part c.args.self.now.quiet c.args.text.now c.args.line.now
    (point_of c.args.self.now.world (map (λ d. (goal.Device-dyn g (d.vtable, d.value)).state d.value) c.args.devices.now.items) (g.P.Keeper.shelf c.args.keeper.now) (g.P.Keeper.number c.args.keeper.now) (g.P.Keeper.reads c.args.keeper.now))
    (point_of c.step-stepped.new.self (map (λ d. (goal.Device-dyn g (d.vtable, d.value)).state d.value) c.step-stepped.new.devices.items) (g.P.Keeper.shelf c.step-stepped.new.keeper) (g.P.Keeper.number c.step-stepped.new.keeper) (g.P.Keeper.reads c.step-stepped.new.keeper))
    c.push.new.self.items c.step-stepped.new.out.items c.as_slice-told.result.now c.args.out.now.items c.add_entries-added.new.out.items
    (begun_by c.args.text.now c.args.line.now c.clear.ensures.items c.in_ok-push.ensures.ok c.in_ok-said_entry.ensures) c.as_slice-told.ensures c.requires.empty c.in_ok-stepped.ensures.ok c.step-stepped.ensures.goes_on prefix)
    c.add_entries-added.ensures.prefix
