-- There are as many texts as ends.
use Rattle.std.proofs.Common.{ℕ, List, length, sym, ap, ◌∙◌}
use Rattle.host_keep.proofs.Packing.{as_many}
use Rattle.host_keep.proofs.texts.Texts.len.Goals as goal

pub returns : goal.returns
returns c =
    ap length c.as_slice.ensures.value ∙ sym (as_many c.self.inside.bytes.items 0 c.self.inside.ends.items)
    ∙ ap (λ (texts : List (List ℕ)). length texts) c.self.view_is
