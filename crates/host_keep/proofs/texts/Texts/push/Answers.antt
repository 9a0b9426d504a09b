-- One text more, and its end.
use Rattle.std.proofs.Common.{◌≡◌, [], ◌∷◌, ◌++◌, ◌+◌, length, ℕ, List, sym, ap, ◌∙◌, subst}
use Rattle.std.proofs.lemmas.List.{length-append}
use Rattle.host_keep.specs.Packed.{IsPacked, texts_of}
use Rattle.host_keep.proofs.Packing.{one_more, packed_more}
use Rattle.host_keep.proofs.texts.Texts.push.Goals as goal
use Rattle.host_keep.proofs.texts.Texts.push.Goals.{After-push_reserved}

-- the ends after it
ends_after : (c : After-push_reserved) → c.push_reserved.new.self.items ≡ c.self.inside.ends.items ++ (length c.self.inside.bytes.items + length c.args.text.now) ∷ []
ends_after c =
    c.push_reserved.ensures.items ∙ ap (λ (es : List ℕ). es ++ length c.as_slice-end.result.now ∷ []) c.in_ok-reserve.ensures.items
    ∙ ap (λ (n : ℕ). c.self.inside.ends.items ++ n ∷ [])
    (ap length (c.as_slice-end.ensures.value ∙ c.in_ok-extend_from_slice.ensures.items) ∙ length-append c.self.inside.bytes.items c.args.text.now)

-- all are packed again
pub invariant_of-self-2 : goal.invariant_of-self-2
invariant_of-self-2 c =
    subst (λ (bytes : List ℕ). IsPacked bytes 0 c.push_reserved.new.self.items) (sym c.in_ok-extend_from_slice.ensures.items)
    (subst (λ (ends : List ℕ). IsPacked (c.self.inside.bytes.items ++ c.args.text.now) 0 ends) (sym (ends_after c))
    (packed_more c.self.inside.bytes.items c.args.text.now 0 c.self.inside.ends.items c.self.invariant))

-- the texts are those before and this one
pub returns-clause-ok : goal.returns-clause-ok
returns-clause-ok c =
    ap (λ (bytes : List ℕ). texts_of bytes 0 c.push_reserved.new.self.items) c.in_ok-extend_from_slice.ensures.items
    ∙ ap (λ (ends : List ℕ). texts_of (c.self.inside.bytes.items ++ c.args.text.now) 0 ends) (ends_after c)
    ∙ one_more c.self.inside.bytes.items c.args.text.now 0 c.self.inside.ends.items c.self.invariant
    ∙ ap (λ (texts : List (List ℕ)). texts ++ c.args.text.now ∷ []) c.self.view_is
