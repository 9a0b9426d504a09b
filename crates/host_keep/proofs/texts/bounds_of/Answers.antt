-- The text at a place stands between its ends.
use Rattle.std.proofs.Common.{◌≤◌, ℕ, Some, get_or, sym, ap, ◌∙◌, subst}
use Rattle.std.specs.Prelude.{slice_range}
use Rattle.host_keep.proofs.Packing.{ends_at, text_at}
use Rattle.host_keep.proofs.texts.bounds_of.Goals as goal

pub returns-clause-in_order : goal.returns-clause-in_order
returns-clause-in_order c =
    subst (λ (from : ℕ). from ≤ get_or c.args.ends.now c.args.at 0) (sym c.begin_at.ensures)
    (ends_at c.args.bytes.now 0 c.args.ends.now c.args.at c.requires.packed c.requires.within).0

pub returns-clause-to_end : goal.returns-clause-to_end
returns-clause-to_end c = (ends_at c.args.bytes.now 0 c.args.ends.now c.args.at c.requires.packed c.requires.within).1

pub returns-clause-text : goal.returns-clause-text
returns-clause-text c =
    text_at c.args.bytes.now 0 c.args.ends.now c.args.at c.requires.within
    ∙ ap (λ (from : ℕ). Some (slice_range c.args.bytes.now from (get_or c.args.ends.now c.args.at 0))) (sym c.begin_at.ensures)
