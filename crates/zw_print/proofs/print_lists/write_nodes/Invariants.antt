use Rattle.std.proofs.Common.{◌≡◌, ◌∷◌, ◌++◌, decimal, string_bytes, take}
use Rattle.std.specs.List.{flat_map}
use Rattle.zw_print.proofs.print_lists.write_nodes.Given as goal

-- the first number, and a space and the number for each of the others so far
abbrev pub invariant-loop-node : goal.invariant-loop-node
invariant-loop-node l =
    string_bytes l.text ≡ string_bytes l.fn.text ++ (decimal l.first ++ flat_map (λ m. 32 ∷ decimal m) (take l.node-index l.rest))
