use Rattle.std.proofs.Common.{sym, ap, ◌∙◌, is_some, set, true≢false}
use Rattle.value_store.specs.declared.stored.Stored.{Stored}
use Rattle.value_store.specs.Values.{Key}
use Rattle.value_store.proofs.Kept.{find_gap, put_at}
use Rattle.value_store.proofs.entries.write.Goals as goal

-- the value is put at its place
pub returns-in-Ok : goal.returns-in-Ok
returns-in-Ok c =
    let place = rw c.deref.ensures.value at c.in-Ok.ensures.found in
    let done = put_at _ c.requires.order c.args.key.now c.in-Ok.at place c.index_mut.result.now c.args.stored in
    ap (λ (e : Key × Stored). set c.args.entries.now.items c.in-Ok.at (e.0, c.args.stored)) c.index_mut.ensures.value ∙ done

-- there is a place
pub returns-in-Err : goal.returns-in-Err
returns-in-Err c =
    let gap = rw c.deref.ensures.value at c.in-Err.ensures.absent in
    let none = find_gap _ c.requires.order _ _ gap in
    absurd (true≢false (sym c.requires.kept ∙ ap is_some none))
