use Rattle.std.proofs.Common.{◌≡◌, ◌++◌}
use Rattle.std.specs.List.{flat_map}
use Rattle.audit_table.specs.Knowing.{known_line, known_lines}
use Rattle.audit_table.proofs.rows.add_values.Given as goal

-- what is left goes on from here
abbrev pub invariant-loop-property : goal.invariant-loop-property
invariant-loop-property l =
    l.rows.items ++ flat_map (known_line l.node l.known.entries) l.property-iterator ≡ l.fn.rows.items ++ known_lines l.node l.known.entries
