use Rattle.std.proofs.Common.{sym}
use Rattle.value_store.proofs.Kept.{find_at, find_gap}
use Rattle.value_store.proofs.entries.stored_at.Goals as goal

-- the entry at the place has what is kept
pub returns-in-Ok : goal.returns-in-Ok
returns-in-Ok c = sym (find_at _ c.requires _ _ c.in-Ok.ensures.found c.index-entries-at.result)

-- nothing is kept where there is a gap
pub returns-in-Err : goal.returns-in-Err
returns-in-Err c = sym (find_gap _ c.requires _ _ c.in-Err.ensures.absent)
