-- The words of a frame's entry, joined.
use Rattle.std.proofs.Common.{◌≡◌, ℕ, List, [], ◌∷◌, ◌++◌, codes, decimal, ap, append_assoc}
use Rattle.std.specs.List.{join_with_byte}
use Rattle.zw_text.specs.Entry.{ends_word}

pub join-frame :
    (i a b : ℕ) (p : List ℕ)
    → join_with_byte 32 (codes "frame" ∷ decimal i ∷ ends_word a b ∷ p ∷ [])
    ≡ codes "frame " ++ (decimal i ++ (32 ∷ (decimal a ++ (62 ∷ (decimal b ++ (32 ∷ p))))))
join-frame i a b p = ap (λ t. codes "frame " ++ (decimal i ++ (32 ∷ t))) (append_assoc (decimal a) (codes ">" ++ decimal b) (32 ∷ p))
