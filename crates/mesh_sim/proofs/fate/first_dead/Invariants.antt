use Rattle.std.proofs.Common.{◌≡◌, drop}
use Rattle.mesh_sim.specs.Fates.{dead_hop}
use Rattle.mesh_sim.proofs.fate.first_dead.Given as goal

abbrev pub invariant-loop-hop : goal.invariant-loop-hop
invariant-loop-hop l = dead_hop l.table l.at (drop l.hop-index l.repeaters) l.to ≡ dead_hop l.fn.table l.fn.from l.fn.repeaters l.fn.to
