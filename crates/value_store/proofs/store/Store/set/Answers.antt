use Rattle.std.proofs.Common.{◌∙◌, ap, sym, subst, is_some}
use Rattle.std.specs.FinMap as map
use Rattle.value_store.specs.Values.{Values}
use Rattle.value_store.specs.Entries.{Entries, IsInOrder, IsWithinLimit}
use Rattle.value_store.proofs.Seen.{get-seen, limit-put, order-put, seen, seen-put}
use Rattle.value_store.proofs.store.Store.set.Goals as goal

-- the key is among the entries
pub write-self-inside-requires-clause-kept : goal.write-self-inside-requires-clause-kept
write-self-inside-requires-clause-kept c =
    let found = get-seen c.self.inside.entries.items c.self.invariant.0 c.args.key.now in
    ap is_some (sym found) ∙ ap (λ (v : Values). is_some (map.get v c.args.key.now)) c.self.view_is ∙ c.requires

-- a value that is put leaves the order and the numbers of properties
pub invariant_of-self : goal.invariant_of-self
invariant_of-self c =
    let es = c.self.inside.entries.items in
    let found = get-seen es c.self.invariant.0 c.args.key.now in
    let kept = ap is_some (sym found) ∙ ap (λ (v : Values). is_some (map.get v c.args.key.now)) c.self.view_is ∙ c.requires in
    subst (λ (es : Entries). IsInOrder es × IsWithinLimit es) (sym c.write-self-inside.ensures)
    (order-put es c.self.invariant.0 _ _, limit-put es c.self.invariant.0 _ _ kept c.self.invariant.1)

-- putting it is inserting it
pub returns : goal.returns
returns c =
    ap seen c.write-self-inside.ensures ∙ seen-put c.self.inside.entries.items c.self.invariant.0 _ _
    ∙ ap (λ (v : Values). map.insert v c.args.key.now c.args.stored) c.self.view_is
