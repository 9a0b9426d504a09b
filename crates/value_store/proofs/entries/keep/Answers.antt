use Rattle.std.proofs.Common.{sym, ◌∙◌, subst}
use Rattle.value_store.proofs.Kept.{keeping_at, keeping_gap}
use Rattle.value_store.proofs.Reserved.{order-keeping}
use Rattle.value_store.specs.Values.{no_value}
use Rattle.value_store.specs.Entries.{IsInOrder}
use Rattle.value_store.proofs.entries.keep.Goals as goal

-- a key that has the place that is looked at first stays
pub returns-then-is_at-clause-items : goal.returns-then-is_at-clause-items
returns-then-is_at-clause-items c =
    keeping_at _ c.requires.order _ _ (rw c.deref.ensures.value at (c.is_at.ensures c.if-is_at.true)) (c.args.key, no_value)

-- a key in a gap is put
pub returns-in-Err-clause-items : goal.returns-in-Err-clause-items
returns-in-Err-clause-items c =
    c.insert_reserved.ensures.items
    ∙ rw c.none.ensures (keeping_gap _ c.requires.order _ _ (rw c.deref-2.ensures.value at c.in-Err.ensures.absent))

pub returns-in-Err-clause-order : goal.returns-in-Err-clause-order
returns-in-Err-clause-order c = subst IsInOrder (sym (returns-in-Err-clause-items c)) (order-keeping _ _ c.requires.order)

-- a key that has a place stays
pub returns-in_default-clause-items : goal.returns-in_default-clause-items
returns-in_default-clause-items c = keeping_at _ c.requires.order _ _ (rw c.deref-2.ensures.value at c.in_default.ensures.found) (c.args.key, no_value)
