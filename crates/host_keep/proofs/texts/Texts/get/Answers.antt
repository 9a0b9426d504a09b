-- The bytes between two places.
use Rattle.std.proofs.Common.{◌<◌, ℕ, List, length, Some, sym, ap, ◌∙◌, subst}
use Rattle.std.specs.Prelude.{slice_get, slice_range}
use Rattle.host_keep.specs.Packed.{texts_of}
use Rattle.host_keep.proofs.Packing.{as_many}
use Rattle.host_keep.proofs.texts.Texts.get.Goals as goal

-- there is an end at that place
pub bounds_of-from-requires-clause-within : goal.bounds_of-from-requires-clause-within
bounds_of-from-requires-clause-within c =
    subst (λ (n : ℕ). c.args.at < n)
    (ap (λ (texts : List (List ℕ)). length texts) (sym c.self.view_is) ∙ as_many c.self.inside.bytes.items 0 c.self.inside.ends.items ∙ ap length (sym c.as_slice-2.ensures.value))
    c.requires

pub returns : goal.returns
returns c =
    ap (λ (texts : List (List ℕ)). slice_get texts c.args.at) (sym c.self.view_is)
    ∙ ap (λ (bytes : List ℕ). slice_get (texts_of bytes 0 c.self.inside.ends.items) c.args.at) (sym c.as_slice.ensures.value)
    ∙ ap (λ (ends : List ℕ). slice_get (texts_of c.as_slice.result.now 0 ends) c.args.at) (sym c.as_slice-2.ensures.value)
    ∙ c.bounds_of-from.ensures.text
    ∙ ap (λ (bytes : List ℕ). Some (slice_range bytes c.bounds_of-from.result.0 c.bounds_of-from.result.1)) (c.as_slice.ensures.value ∙ sym c.deref.ensures.value)
