-- The table, and its pieces.
use Rattle.std.proofs.Common.{map}
use Rattle.run_lines.proofs.Growing.{on_ok}
use Rattle.run_sim.proofs.SimRun.{is_table}
use Rattle.run_sim.proofs.simulation.Simulation.add_table.Goals as goal

pub returns : goal.returns
returns g c = on_ok c.add_entries.result _ _
    (is_table c.args.self.now.world (map (λ d. (goal.Device-dyn g (d.vtable, d.value)).state d.value) c.args.devices.now.items)
    c.new-entries.result.items c.table.new.out.items c.as_slice-told.result.now c.args.out.now.items c.add_entries.new.out.items
    c.new-entries.ensures c.requires.empty c.in_ok-table.ensures c.as_slice-told.ensures c.entries_in_range.ensures)
    c.add_entries.ensures.ok
