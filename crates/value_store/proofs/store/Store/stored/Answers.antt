use Rattle.value_store.proofs.Seen.{stored-seen}
use Rattle.value_store.proofs.store.Store.stored.Goals as goal

pub returns : goal.returns
returns c =
    let known = stored-seen c.self.inside.entries.items c.self.invariant.0 c.args.key.now.0 c.args.key.now.1 in
    rw (← c.self.view_is) (cc (known, c.unwrap_or.ensures, c.stored_at.ensures, c.none.ensures, c.deref.ensures.value))
