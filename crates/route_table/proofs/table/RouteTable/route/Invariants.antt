use Rattle.std.proofs.Common.{◌≡◌, ℕ, ◌≤◌, ◌-◌, get_or, take, length}
use Rattle.std.specs.List.{All}
use Rattle.route_table.specs.Levels.{Reaches}
use Rattle.route_table.proofs.Search.{Goes}
use Rattle.route_table.proofs.table.RouteTable.route.Given as goal

abbrev pub invariant-loop-place : goal.invariant-loop-place
invariant-loop-place l = record {
  long : length l.hops ≡ 4;
  goes : Goes l.self l.fn.to 1 l.depth (take l.place l.hops) l.at;
  reaches : Reaches l.self l.fn.to (l.depth - l.place) l.at;
  node : (1 ≤ l.at) × (l.at ≤ 232);
  nodes : All (λ n. (1 ≤ n) × (n ≤ 232)) (take l.place l.hops);
  zeros : (k : ℕ) → l.place ≤ k → get_or l.hops k 0 ≡ 0;
}
