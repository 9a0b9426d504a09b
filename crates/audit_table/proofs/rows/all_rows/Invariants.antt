use Rattle.std.proofs.Common.{◌≡◌, ◌≤◌, ℕ}
use Rattle.std.specs.List.{flat_map}
use Rattle.audit_books.specs.Ending.{ending_in}
use Rattle.audit_table.specs.Knowing.{lines_of_node, nodes_marked, values_of}
use Rattle.audit_table.proofs.Marks.{IsLeft}
use Rattle.audit_table.proofs.rows.all_rows.Given as goal

-- what is left goes on from here, and what was heard of it is as it was
abbrev pub invariant-loop-place : goal.invariant-loop-place
invariant-loop-place l = record {
  rows : IsLeft (lines_of_node l.fn.heard (ending_in l.endings) l.orders l.sessions) l.joined l.place l.rows.items
      (flat_map (lines_of_node l.fn.heard (ending_in l.endings) l.orders l.sessions) (nodes_marked l.joined));
  heard : (node : ℕ) → l.place ≤ node → values_of l.heard node ≡ values_of l.fn.heard node;
}
