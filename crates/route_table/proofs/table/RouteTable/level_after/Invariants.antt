use Rattle.std.proofs.Common.{ℕ, ◌<◌, IsTrue}
use Rattle.route_table.specs.NodeSet.{has}
use Rattle.route_table.specs.RouteTable.{hears}
use Rattle.route_table.proofs.table.RouteTable.level_after.Given as goal

abbrev pub invariant-loop-n : goal.invariant-loop-n
invariant-loop-n l = record {
  heard : (q : ℕ) → IsTrue (has l.next q) → (m : ℕ) × (m < l.n) × IsTrue (has l.level m) × IsTrue (hears l.self-inside.rows m q);
  complete : (m q : ℕ) → m < l.n → IsTrue (has l.level m) → IsTrue (hears l.self-inside.rows m q) → IsTrue (has l.next q);
}
