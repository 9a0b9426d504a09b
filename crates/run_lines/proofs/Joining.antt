-- Words that are joined by spaces, one more at the end.
use Rattle.std.proofs.Common.{◌≡◌, ℕ, List, [], ◌∷◌, ◌++◌, refl, sym, ap, ◌∙◌, append_assoc}
use Rattle.std.specs.List.{join_with_byte}

-- one word more
pub join-snoc : (first : List ℕ) (prefix : List (List ℕ)) (last : List ℕ)
    → join_with_byte 32 (first ∷ (prefix ++ last ∷ [])) ≡ (join_with_byte 32 (first ∷ prefix) ++ 32 ∷ []) ++ last
join-snoc first [] last = sym (append_assoc first (32 ∷ []) last)
join-snoc first (word ∷ prefix) last =
    ap (λ (rest : List ℕ). first ++ 32 ∷ rest) (join-snoc word prefix last)
    ∙ sym (append_assoc first (32 ∷ (join_with_byte 32 (word ∷ prefix) ++ 32 ∷ [])) last)
    ∙ ap (λ (xs : List ℕ). xs ++ last) (sym (append_assoc first (32 ∷ join_with_byte 32 (word ∷ prefix)) (32 ∷ [])))
