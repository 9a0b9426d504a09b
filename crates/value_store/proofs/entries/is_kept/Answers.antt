-- A key with an entry at a place is kept.
use Rattle.std.proofs.Common.{is_some, sym, ap, ◌∙◌}
use Rattle.value_store.specs.Values.{no_value}
use Rattle.value_store.proofs.Kept.{find_at}
use Rattle.value_store.proofs.entries.is_kept.Goals as goal

pub returns-then-is_at : goal.returns-then-is_at
returns-then-is_at c =
    c.if-is_at.true ∙ sym (ap is_some (find_at _ c.requires _ _ (c.is_at.ensures c.if-is_at.true) (c.args.key.now, no_value)))
