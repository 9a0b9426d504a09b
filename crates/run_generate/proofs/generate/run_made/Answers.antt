-- The scenario, its run, its table and its summary.
use Rattle.std.proofs.Common.{map, ◌∙◌}
use Rattle.std.proofs.lemmas.Result.{IfOk-weaker}
use Rattle.run_generate.proofs.Summing.{all_done, cut_at_err, not_begun_at_err, sums_up}
use Rattle.run_generate.proofs.generate.run_made.Goals as goal

pub returns-clause-ok : goal.returns-clause-ok
returns-clause-ok g c = IfOk-weaker c.summary.result _ _
    (λ text is key first. sums_up c.args.hundreds key (map (λ d. (goal.Device-dyn g (d.vtable, d.value)).state d.value) c.args.devices.now.items)
    (map (λ d. (goal.Device-dyn g (d.vtable, d.value)).state d.value) c.run_all.new.devices.items)
    (g.P.Keeper.shelf c.args.keeper.now) (g.P.Keeper.shelf c.run_all.new.keeper)
    c.args.world.now c.run_all.new.world c.in_ok-lines.lines.items c.as_slice.result.now c.new-entries.result.items c.run_all.new.entries.items c.as_slice-2.result.now
    c.new-table.result.items c.table.new.out.items c.as_slice-3.result.now
    c.in_ok-lines.ensures c.as_slice.ensures first c.new-entries.ensures c.in_ok-run_all.ensures.ok c.new-table.ensures c.in_ok-table.ensures c.as_slice-2.ensures c.as_slice-3.ensures text is)
    c.summary.ensures

pub returns-in_err-lines-clause-err : goal.returns-in_err-lines-clause-err
returns-in_err-lines-clause-err g c = not_begun_at_err _ c.args.hundreds _ _ c.args.world.now

pub returns-in_err-run_all-clause-err : goal.returns-in_err-run_all-clause-err
returns-in_err-run_all-clause-err g c =
    cut_at_err _ c.args.hundreds _ _ c.args.world.now _ _ c.run_all.new.world c.as_slice.result.now c.new-entries.result.items c.run_all.new.entries.items
    (c.as_slice.ensures ∙ c.in_ok-lines.ensures) c.new-entries.ensures c.in_err-run_all.ensures.err

pub returns-in_err-table-clause-err : goal.returns-in_err-table-clause-err
returns-in_err-table-clause-err g c =
    cut_at_err _ c.args.hundreds _ _ c.args.world.now _ _ c.run_all.new.world c.as_slice.result.now c.new-entries.result.items c.run_all.new.entries.items
    (c.as_slice.ensures ∙ c.in_ok-lines.ensures) c.new-entries.ensures (all_done _ _ _ c.in_ok-run_all.ensures.ok)

pub returns-clause-err : goal.returns-clause-err
returns-clause-err g c =
    cut_at_err _ c.args.hundreds _ _ c.args.world.now _ _ c.run_all.new.world c.as_slice.result.now c.new-entries.result.items c.run_all.new.entries.items
    (c.as_slice.ensures ∙ c.in_ok-lines.ensures) c.new-entries.ensures (all_done _ _ _ c.in_ok-run_all.ensures.ok)
