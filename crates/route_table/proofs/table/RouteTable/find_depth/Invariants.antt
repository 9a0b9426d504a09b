use Rattle.std.proofs.Common.{◌≡◌, ℕ, ◌<◌, get_or, length}
use Rattle.route_table.specs.RouteTable.{nobody}
use Rattle.route_table.specs.Levels.{Reaches, ShowsLevel, OnlyNodes}
use Rattle.route_table.proofs.table.RouteTable.find_depth.Given as goal

abbrev pub invariant-loop-depth : goal.invariant-loop-depth
invariant-loop-depth l = record {
  long : length l.levels ≡ 5;
  only : OnlyNodes l.level;
  shown : ShowsLevel l.self l.fn.to l.depth l.level;
  kept : (k : ℕ) → k < l.depth → ShowsLevel l.self l.fn.to k (get_or l.levels k nobody);
  kept_nodes : (k : ℕ) → k < l.depth → OnlyNodes (get_or l.levels k nobody);
  fewest : (k : ℕ) → k < l.depth → ¬ Reaches l.self l.fn.to k 1;
}
