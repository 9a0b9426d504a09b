-- The words of a text, cut off from its prefix.
use Rattle.std.proofs.Common.{◌≡◌, ℕ, zero, suc, ◌+◌, ◌<◌, ◌≤◌, true, false, cond, List, [], ◌∷◌, ◌++◌, length, get_or, take, drop, arith, ap, refl, ◌∙◌, sym, subst, add-one, drop-cons}
use Rattle.std.specs.Prelude.{All, filter}
use Rattle.std.specs.List.{slice_split}
use Rattle.std.proofs.lemmas.List.{get_or_default, get_or-take, length-take-le, take-append-drop}
use Rattle.std.proofs.lemmas.List.Splits.{slice_split-cons_yes, slice_split_at, slice_split_none}
use Rattle.zw_words.specs.Words.{is_blank, is_word, words}

-- a text that begins with a blank
pub words-blank : (b : ℕ) (bs : List ℕ) → is_blank b ≡ true → words (b ∷ bs) ≡ words bs
unfolding words
words-blank b bs blank = ap (filter is_word) (slice_split-cons_yes is_blank b bs blank)

-- no text, no word
pub words-none : words [] ≡ []
unfolding words
words-none = refl

-- a blank more is passed over
pub words-pass : (text : List ℕ) (i : ℕ) → i < length text → is_blank (get_or text i 0) ≡ true → words (drop i text) ≡ words (drop (i + 1) text)
words-pass text i below blank =
    rw (add-one i) (ap words (drop-cons text i 0 below) ∙ words-blank (get_or text i 0) (drop (suc i) text) blank)

-- after the last byte there is none
pub words-end : (text : List ℕ) (i : ℕ) → length text ≤ i → words (drop i text) ≡ []
words-end [] zero over = words-none
words-end [] (suc i) over = words-none
words-end (b ∷ bs) zero over = absurd (omega (arith, over))
words-end (b ∷ bs) (suc i) over = words-end bs i (omega (arith, over))

-- bytes without a blank among them
abbrev pub IsSolid : List ℕ → Type 0
IsSolid text = All (λ b. is_blank b ≡ false) text

solid-below : (text : List ℕ) (i : ℕ) → i ≤ length text → ((k : ℕ) → k < i → is_blank (get_or text k 0) ≡ false) → IsSolid (take i text)
solid-below text i within none k d below =
    let short : k < i = omega (arith, below, length-take-le i text within) in
    let P : ℕ → Type 0 = λ b. is_blank b ≡ false in
    subst P (sym (get_or-take i text k d short) ∙ refl) (subst P (sym (get_or_default text k d 0 (omega arith)) ∙ refl) (none k short))

-- a word that is followed by a blank
first_word : (word : List ℕ) (b : ℕ) (bs : List ℕ) → IsSolid word → is_word word ≡ true → is_blank b ≡ true → words (word ++ (b ∷ bs)) ≡ word ∷ words bs
unfolding words
first_word word b bs solid some blank =
    ap (filter is_word) (slice_split_at is_blank word b bs solid blank)
    ∙ ap (λ t. cond t (word ∷ filter is_word (slice_split is_blank bs)) (filter is_word (slice_split is_blank bs))) some

-- a word alone
only_word : (word : List ℕ) → IsSolid word → is_word word ≡ true → words word ≡ word ∷ []
unfolding words
only_word word solid some =
    ap (filter is_word) (slice_split_none is_blank word solid) ∙ ap (λ t. cond t (word ∷ []) []) some

word_of_some : (text : List ℕ) → 0 < length text → is_word text ≡ true
word_of_some [] some = absurd (omega (arith, some))
word_of_some (b ∷ bs) some = refl

-- the first word ends at the first blank
pub words-cut :
    (text : List ℕ) (i : ℕ) → i < length text → is_blank (get_or text 0 0) ≡ false → is_blank (get_or text i 0) ≡ true
    → ((k : ℕ) → k < i → is_blank (get_or text k 0) ≡ false)
    → words text ≡ take i text ∷ words (drop i text)
words-cut text zero below prefix blank none = absurd (yes_no (get_or text 0 0) blank prefix)
  where
    yes_no : (b : ℕ) → is_blank b ≡ true → is_blank b ≡ false → ⊥
    yes_no b e f = cc
words-cut text (suc i) below prefix blank none =
    let long : length (take (suc i) text) ≡ suc i = length-take-le (suc i) text (omega (arith, below)) in
    let rest : drop (suc i) text ≡ get_or text (suc i) 0 ∷ drop (suc (suc i)) text = drop-cons text (suc i) 0 below in
    ap words (sym (take-append-drop (suc i) text) ∙ ap (λ r. take (suc i) text ++ r) rest)
    ∙ first_word (take (suc i) text) (get_or text (suc i) 0) (drop (suc (suc i)) text) (solid-below text (suc i) (omega (arith, below)) none) (word_of_some (take (suc i) text) (omega (arith, long))) blank
    ∙ ap (λ ws. take (suc i) text ∷ ws) (sym (words-blank (get_or text (suc i) 0) (drop (suc (suc i)) text) blank) ∙ sym (ap words rest))

-- a text without a blank
pub words-whole :
    (text : List ℕ) → 0 < length text → ((k : ℕ) → k < length text → is_blank (get_or text k 0) ≡ false) → words text ≡ text ∷ words []
words-whole text some none =
    only_word text (λ k d below. subst (λ b. is_blank b ≡ false) (get_or_default text k 0 d below) (none k below)) (word_of_some text some)
    ∙ ap (λ ws. text ∷ ws) (sym words-none)
