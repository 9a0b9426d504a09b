use Rattle.std.proofs.Common.{◌≡◌, ◌∙◌, ◌++◌, ℕ, List, refl}
use Rattle.run_lines.proofs.Pieces.{OnErr-always}
use Rattle.run_lines.specs.Pieces.{piece_of, pieces_of}
use Rattle.run_lines.proofs.Growing.{prefix_of_flat}
use Rattle.run_lines.proofs.entries.add_entries.Goals as goal

-- without room for a text nothing is added
pub returns-in_err-scratch-clause-prefix : goal.returns-in_err-scratch-clause-prefix
returns-in_err-scratch-clause-prefix c =
    let all = pieces_of c.args.quiet c.args.entries.now in
    let none : (rest : List (List ℕ)) × (c.args.out.now.items ++ all ≡ c.args.out.now.items ++ rest) = (all, refl) in
    OnErr-always _ _ none

pub returns-in_err-add_entry-clause-prefix : goal.returns-in_err-add_entry-clause-prefix
returns-in_err-add_entry-clause-prefix c =
    OnErr-always _ _ (prefix_of_flat (piece_of c.args.quiet) c.args.out.now.items c.add_entry.new.out.items c.args.entries.now c.loop-entry.entry-index (c.in_err-add_entry.ensures.err ∙ c.loop-entry.invariant))
