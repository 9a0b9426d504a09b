-- A binary search ends at the key, or in the gap for it.
use Rattle.std.proofs.Common.{rules}
use Rattle.std.proofs.lemmas.Fn.{always_returns_same}
use Rattle.value_store.specs.Values.{key_cmp}
use Rattle.value_store.proofs.Places.{searched}
use Rattle.value_store.proofs.entries.place_of.Goals as goal

pub returns : goal.returns
returns c =
    let facts = c.binary_search_by.ensures in
    searched c.args.entries.now c.requires c.args.key.now c.binary_search_by.result facts.bound
    (facts.position (λ e. key_cmp e.0 c.args.key.now) (always_returns_same _ _ _ (λ a r g called. search rules)))
