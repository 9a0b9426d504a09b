-- How bytes and their lines go together.
use Rattle.std.proofs.Common.{◌≡◌, ◌≢◌, ℕ, zero, suc, ◌+◌, ◌<◌, ◌≤◌, List, [], ◌∷◌, ◌++◌, length, take, get_or, refl, sym, ap, ◌∙◌, subst, arith, add-one, append_assoc}
use Rattle.std.specs.List.{Contains}
use Rattle.std.proofs.Math.Seq.{take-suc}
use Rattle.std.proofs.lemmas.List.{flat_map_more, append-nil, take_all}
use Rattle.file_keeper.specs.Lines.{IsOneLine, AreLines, IsSplit, line_of, lines_of}

-- no line feed is found in one line
pub one_line_has_no_feed : (xs : List ℕ) → IsOneLine xs → Contains xs 10 → ⊥
one_line_has_no_feed [] one (k, below, at) = absurd (omega (arith, below))
one_line_has_no_feed (x ∷ xs) one (zero, below, at) = one.0 at
one_line_has_no_feed (x ∷ xs) one (suc k, below, at) = one_line_has_no_feed xs one.1 (k, omega (arith, below), at)

-- and where none is found there is one line
pub no_feed_is_one_line : (xs : List ℕ) → (Contains xs 10 → ⊥) → IsOneLine xs
no_feed_is_one_line [] not = tt
no_feed_is_one_line (x ∷ xs) not = (λ e. not (0, omega arith, e), no_feed_is_one_line xs (λ has. not (suc has.0, omega (arith, has.1), has.2)))

-- a byte more, which is no line feed
pub one_line-more : (xs : List ℕ) (b : ℕ) → IsOneLine xs → b ≢ 10 → IsOneLine (xs ++ b ∷ [])
one_line-more [] b one not = (not, tt)
one_line-more (x ∷ xs) b one not = (one.0, one_line-more xs b one.1 not)

-- a line more
pub lines-more : (ls : List (List ℕ)) (l : List ℕ) → AreLines ls → IsOneLine l → AreLines (ls ++ l ∷ [])
lines-more [] l are one = (one, tt)
lines-more (x ∷ xs) l are one = (are.0, lines-more xs l are.1 one)

-- and the text of all of them
pub lines_of-more : (ls : List (List ℕ)) (l : List ℕ) → lines_of (ls ++ l ∷ []) ≡ lines_of ls ++ line_of l
unfolding lines_of
lines_of-more ls l = sym (flat_map_more line_of [] ls l)

-- nothing is split into nothing
pub split_nothing : IsSplit [] [] []
unfolding lines_of
split_nothing = record { parts = refl; each = tt; unfinished = tt }

-- a byte more belongs to the end
pub split_byte : (bytes : List ℕ) (ls : List (List ℕ)) (t : List ℕ) (b : ℕ) → IsSplit bytes ls t → b ≢ 10 → IsSplit (bytes ++ b ∷ []) ls (t ++ b ∷ [])
split_byte bytes ls t b s not = record {
  parts = ap (λ x. x ++ b ∷ []) s.parts ∙ append_assoc (lines_of ls) t (b ∷ []);
  each = s.each;
  unfinished = one_line-more t b s.unfinished not;
}

-- a line feed more makes the end a line
pub split_line : (bytes : List ℕ) (ls : List (List ℕ)) (t : List ℕ) → IsSplit bytes ls t → IsSplit (bytes ++ 10 ∷ []) (ls ++ t ∷ []) []
split_line bytes ls t s = record {
  parts = ap (λ x. x ++ 10 ∷ []) s.parts ∙ append_assoc (lines_of ls) t (10 ∷ []) ∙ sym (lines_of-more ls t) ∙ sym (append-nil (lines_of (ls ++ t ∷ [])));
  each = lines-more ls t s.each s.unfinished;
  unfinished = tt;
}

-- the bytes before the next place
pub split_next : (bytes : List ℕ) (ls ms : List (List ℕ)) (t u : List ℕ) (i : ℕ) → i < length bytes
    → ((prefix : List ℕ) → IsSplit prefix ls t → IsSplit (prefix ++ get_or bytes i 0 ∷ []) ms u) → IsSplit (take i bytes) ls t → IsSplit (take (i + 1) bytes) ms u
split_next bytes ls ms t u i inside goes s = subst (λ l. IsSplit l ms u) (sym (rw add-one (take-suc bytes i 0 inside))) (goes (take i bytes) s)

-- and all of them
pub split_whole : (bytes : List ℕ) (ls : List (List ℕ)) (t : List ℕ) (i : ℕ) → length bytes ≤ i → IsSplit (take i bytes) ls t → IsSplit bytes ls t
split_whole bytes ls t i past s = subst (λ l. IsSplit l ls t) (take_all i bytes past) s

-- a line is cut off in one way
cut_once : (x y r s : List ℕ) → IsOneLine x → IsOneLine y → x ++ 10 ∷ r ≡ y ++ 10 ∷ s → (x ≡ y) × (r ≡ s)
cut_once [] [] r s one one' e = (refl, cc)
cut_once [] (y ∷ ys) r s one one' e = absurd (one'.0 cc)
cut_once (x ∷ xs) [] r s one one' e = absurd (one.0 cc)
cut_once (x ∷ xs) (y ∷ ys) r s one one' e =
    let rest : xs ++ 10 ∷ r ≡ ys ++ 10 ∷ s = cc in
    let same = cut_once xs ys r s one.1 one'.1 rest in
    let head : x ≡ y = cc in
    (cc, same.1)

-- no line feed is in one line
no_feed : (t x r : List ℕ) → IsOneLine t → t ≡ x ++ 10 ∷ r → ⊥
no_feed [] [] r one e = cc
no_feed [] (x ∷ xs) r one e = cc
no_feed (b ∷ t) [] r one e = one.0 cc
no_feed (b ∷ t) (x ∷ xs) r one e = no_feed t xs r one.1 cc

-- the first line, and all after it
first_line : (l rest end : List ℕ) → (line_of l ++ rest) ++ end ≡ l ++ 10 ∷ (rest ++ end)
first_line l rest end = append_assoc (line_of l) rest end ∙ append_assoc l (10 ∷ []) (rest ++ end)

same_split : (ls ms : List (List ℕ)) (t u : List ℕ) → AreLines ls → AreLines ms → IsOneLine t → IsOneLine u → lines_of ls ++ t ≡ lines_of ms ++ u → (ls ≡ ms) × (t ≡ u)
unfolding lines_of
same_split [] [] t u are are' one one' e = (refl, e)
same_split [] (m ∷ ms) t u are are' one one' e = absurd (no_feed t m (lines_of ms ++ u) one (e ∙ first_line m (lines_of ms) u))
same_split (l ∷ ls) [] t u are are' one one' e = absurd (no_feed u l (lines_of ls ++ t) one' (sym e ∙ first_line l (lines_of ls) t))
same_split (l ∷ ls) (m ∷ ms) t u are are' one one' e =
    let cut = cut_once l m (lines_of ls ++ t) (lines_of ms ++ u) are.0 are'.0 (sym (first_line l (lines_of ls) t) ∙ e ∙ first_line m (lines_of ms) u) in
    let rest = same_split ls ms t u are.1 are'.1 one one' cut.1 in
    let head : l ≡ m = cut.0 in
    let tail : ls ≡ ms = rest.0 in
    (cc, rest.1)

-- bytes are split in one way
pub split_once : (bytes : List ℕ) (ls ms : List (List ℕ)) (t u : List ℕ) → IsSplit bytes ls t → IsSplit bytes ms u → (ls ≡ ms) × (t ≡ u)
split_once bytes ls ms t u s s' = same_split ls ms t u s.each s'.each s.unfinished s'.unfinished (sym s.parts ∙ s'.parts)
