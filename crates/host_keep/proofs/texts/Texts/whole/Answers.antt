-- The texts are the whole.
use Rattle.std.proofs.Common.{ℕ, List, sym, ap, ◌∙◌}
use Rattle.std.specs.List.{flat_map}
use Rattle.host_keep.proofs.Packing.{all_texts}
use Rattle.host_keep.proofs.texts.Texts.whole.Goals as goal

pub returns : goal.returns
returns c =
    c.as_slice.ensures.value ∙ sym (all_texts c.self.inside.bytes.items 0 c.self.inside.ends.items c.self.invariant)
    ∙ ap (λ (texts : List (List ℕ)). flat_map (λ text. text) texts) c.self.view_is
