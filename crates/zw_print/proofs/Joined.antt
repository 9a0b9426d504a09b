-- Lists of numbers among the words of an entry.
use Rattle.std.proofs.Common.{◌≡◌, ℕ, List, [], ◌∷◌, ◌++◌, codes, decimal, ap, refl, ◌∙◌, sym, append_assoc, append-nil}
use Rattle.std.specs.Prelude.{map}
use Rattle.std.specs.List.{flat_map, join_with_byte}
use Rattle.zw_print.specs.Lists.{list_text}
use Rattle.zw_text.specs.Entry.{ends_word, number_words}

-- what follows the first of some words
abbrev after : List (List ℕ) → List ℕ
after [] = []
after (w ∷ ws) = 32 ∷ join_with_byte 32 (w ∷ ws)

-- a word and what follows it
join-cons : (w : List ℕ) (ws : List (List ℕ)) → join_with_byte 32 (w ∷ ws) ≡ w ++ after ws
join-cons w [] = sym (append-nil w)
join-cons w (v ∷ ws) = refl

-- numbers with a space before each, and then other words
join-more : (ns : List ℕ) (rest : List (List ℕ)) → after (map decimal ns ++ rest) ≡ flat_map (λ m. 32 ∷ decimal m) ns ++ after rest
join-more [] rest = refl
join-more (n ∷ ns) rest =
    ap (λ t. 32 ∷ t)
    (join-cons (decimal n) (map decimal ns ++ rest)
    ∙ ap (λ t. decimal n ++ t) (join-more ns rest)
    ∙ sym (append_assoc (decimal n) (flat_map (λ m. 32 ∷ decimal m) ns) (after rest)))

-- some numbers, and then other words
join-numbers : (ns : List ℕ) (rest : List (List ℕ)) → join_with_byte 32 (number_words ns rest) ≡ list_text ns ++ after rest
join-numbers [] rest = join-cons (codes "-") rest
join-numbers (n ∷ ns) rest =
    join-cons (decimal n) (map decimal ns ++ rest)
    ∙ ap (λ t. decimal n ++ t) (join-more ns rest)
    ∙ sym (append_assoc (decimal n) (flat_map (λ m. 32 ∷ decimal m) ns) (after rest))

-- numbers come after a space
after-numbers : (ns : List ℕ) (rest : List (List ℕ)) → after (number_words ns rest) ≡ 32 ∷ join_with_byte 32 (number_words ns rest)
after-numbers [] rest = refl
after-numbers (n ∷ ns) rest = refl

-- a word that is followed by numbers
join-numbered : (v : List ℕ) (ns : List ℕ) (rest : List (List ℕ)) → join_with_byte 32 (v ∷ number_words ns rest) ≡ v ++ (32 ∷ (list_text ns ++ after rest))
join-numbered v ns rest =
    join-cons v (number_words ns rest) ∙ ap (λ t. v ++ t) (after-numbers ns rest ∙ ap (λ t. 32 ∷ t) (join-numbers ns rest))

-- a word, a node and numbers
pub join-list : (word : List ℕ) (n : ℕ) (s : List ℕ) → join_with_byte 32 (word ∷ decimal n ∷ number_words s []) ≡ word ++ (32 ∷ (decimal n ++ (32 ∷ list_text s)))
join-list word n s =
    ap (λ t. word ++ (32 ∷ t)) (join-numbered (decimal n) s [] ∙ ap (λ t. decimal n ++ (32 ∷ t)) (append-nil (list_text s)))

-- the words of a node in the table
pub join-sessions : (n : ℕ) (s : List ℕ) → join_with_byte 32 (codes "node" ∷ decimal n ∷ codes "sessions" ∷ number_words s []) ≡ codes "node " ++ (decimal n ++ (codes " sessions " ++ list_text s))
join-sessions n s =
    ap (λ t. codes "node " ++ (decimal n ++ (32 ∷ t))) (join-numbered (codes "sessions") s [] ∙ ap (λ t. codes "sessions " ++ t) (append-nil (list_text s)))

-- the words of a frame
pub join-air :
    (i a b : ℕ) (r p : List ℕ)
    → join_with_byte 32 (codes "air" ∷ decimal i ∷ ends_word a b ∷ codes "via" ∷ number_words r (p ∷ []))
    ≡ codes "air " ++ (decimal i ++ (32 ∷ (decimal a ++ (62 ∷ (decimal b ++ (codes " via " ++ (list_text r ++ (32 ∷ p))))))))
join-air i a b r p =
    let rest = codes " via " ++ (list_text r ++ (32 ∷ p)) in
    ap (λ t. codes "air " ++ (decimal i ++ (32 ∷ (ends_word a b ++ (32 ∷ t))))) (join-numbered (codes "via") r (p ∷ []))
    ∙ ap (λ t. codes "air " ++ (decimal i ++ (32 ∷ t))) (append_assoc (decimal a) (codes ">" ++ decimal b) rest)
