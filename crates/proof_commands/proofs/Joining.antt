-- Words that are joined by one space are split into the same words, are one line, and are no longer than the text that they came from.
use Rattle.std.proofs.Common.{◌≡◌, ℕ, zero, suc, ◌+◌, ◌-◌, ◌≤◌, eqb, ltb, Bool, true, false, cond, not, ◌||◌, List, [], ◌∷◌, length, get_or, take, arith, ap, refl, ◌∙◌, ne_eqb, length-append}
use Rattle.std.specs.Prelude.{filter}
use Rattle.std.specs.List.{AllByRecursion, join_with_byte, list_all, onto_first, slice_split}
use Rattle.std.proofs.lemmas.Bool.{and_from, and_parts, ltb-true}
use Rattle.std.proofs.lemmas.List.{length-take-le}
use Rattle.std.proofs.lemmas.List.Elements.{All-from_recursion}
use Rattle.std.proofs.lemmas.List.Splits.{slice_split_at, slice_split_none}
use Rattle.zw_words.specs.Words.{is_blank, is_remark, is_word, without_return, words}
use Rattle.zw_text.specs.Fits.{feeds}
use Rattle.zw_parse.proofs.Pieces.{Solid, lacks-append, weaker}
use Rattle.zw_parse.proofs.EntryLaws.{feeds-none as none_counted}

-- a word of bytes above the space
pub record IsSolidWord (word : List ℕ) : Type 0 where
  pub some : is_word word ≡ true
  pub solid : Solid word

-- ---- the same words

not_blank : (b : ℕ) → ltb 32 b ≡ true → is_blank b ≡ false
not_blank b above =
    let high = ltb-true 32 b above in
    ap (λ (t : Bool). t || eqb b 9) (ne_eqb b 32 (λ same. omega (arith, high, same))) ∙ ne_eqb b 9 (λ same. omega (arith, high, same))

no_blanks : (word : List ℕ) → Solid word → AllByRecursion (λ b. is_blank b ≡ false) word
no_blanks [] solid = tt
no_blanks (b ∷ bs) solid =
    let halves = and_parts (ltb 32 b) (list_all (λ x. ltb 32 x) bs) solid in
    (not_blank b halves.0, no_blanks bs halves.1)

pub words-joined : (word : List ℕ) (more : List (List ℕ)) → AllByRecursion IsSolidWord (word ∷ more) → words (join_with_byte 32 (word ∷ more)) ≡ word ∷ more
unfolding words
words-joined word [] all =
    ap (filter is_word) (slice_split_none is_blank word (All-from_recursion (λ b. is_blank b ≡ false) word (no_blanks word all.0.solid)))
    ∙ ap (λ t. cond t (word ∷ []) []) all.0.some
words-joined word (next ∷ more) all =
    let rest = join_with_byte 32 (next ∷ more) in
    ap (filter is_word) (slice_split_at is_blank word 32 rest (All-from_recursion (λ b. is_blank b ≡ false) word (no_blanks word all.0.solid)) refl)
    ∙ (ap (λ t. cond t (word ∷ filter is_word (slice_split is_blank rest)) (filter is_word (slice_split is_blank rest))) all.0.some
    ∙ ap (λ (ws : List (List ℕ)). word ∷ ws) (words-joined next more all.1))

-- ---- no longer

-- the bytes of words, and one more for each
abbrev room : List (List ℕ) → ℕ
room [] = 0
room (word ∷ more) = length word + 1 + room more

room_of_joined : (word : List ℕ) (more : List (List ℕ)) → length (join_with_byte 32 (word ∷ more)) + 1 ≡ room (word ∷ more)
room_of_joined word [] = omega arith
room_of_joined word (next ∷ more) =
    let later = room_of_joined next more in
    let both = length-append word (32 ∷ join_with_byte 32 (next ∷ more)) in
    omega (arith, later, both)

room_onto : (x : ℕ) (parts : List (List ℕ)) (n : ℕ) → room parts ≡ n + 1 → room (onto_first x parts) ≡ n + 2
room_onto x [] n e = absurd (omega (arith, e))
room_onto x (part ∷ parts) n e = omega (arith, e)

room_of_choice : (b : Bool) (x : ℕ) (parts : List (List ℕ)) (n : ℕ) → room parts ≡ n + 1 → room (cond b ([] ∷ parts) (onto_first x parts)) ≡ n + 2
room_of_choice true x parts n e = omega (arith, e)
room_of_choice false x parts n e = room_onto x parts n e

room_of_split : (text : List ℕ) → room (slice_split is_blank text) ≡ length text + 1
room_of_split [] = refl
room_of_split (b ∷ bs) =
    let here = room_of_choice (is_blank b) b (slice_split is_blank bs) (length bs) (room_of_split bs) in
    omega (arith, here)

room_kept : (b : Bool) (word : List ℕ) (kept all : List (List ℕ)) → room kept ≤ room all → room (cond b (word ∷ kept) kept) ≤ room (word ∷ all)
room_kept true word kept all e = omega (arith, e)
room_kept false word kept all e = omega (arith, e)

room_of_some : (parts : List (List ℕ)) → room (filter is_word parts) ≤ room parts
room_of_some [] = omega arith
room_of_some (part ∷ parts) = room_kept (is_word part) part (filter is_word parts) parts (room_of_some parts)

pub joined_are_short : (text word : List ℕ) (more : List (List ℕ)) → words text ≡ word ∷ more → length (join_with_byte 32 (word ∷ more)) ≤ length text
unfolding words
joined_are_short text word more are =
    let joined = room_of_joined word more in
    let same : room (filter is_word (slice_split is_blank text)) ≡ room (word ∷ more) = ap room are in
    let some = room_of_some (slice_split is_blank text) in
    let split = room_of_split text in
    omega (arith, joined, same, some, split)

cut_is_short : (b : Bool) (text : List ℕ) → length (cond b (take (length text - 1) text) text) ≤ length text
cut_is_short true text = let cut = length-take-le (length text - 1) text (omega arith) in omega (arith, cut)
cut_is_short false text = omega arith

pub without_return_is_short : (text : List ℕ) → length (without_return text) ≤ length text
without_return_is_short text = cut_is_short (eqb (get_or text (length text - 1) 0) 13) text

-- ---- no carriage return

above : (b : ℕ) → ltb 32 b ≡ true → ltb 31 b ≡ true
above b e = grind (arith, ltb-true 32 b e)

word_passes : (word : List ℕ) → Solid word → list_all (λ b. ltb 31 b) word ≡ true
word_passes word solid = weaker (λ b. ltb 32 b) (λ b. ltb 31 b) above word solid

joined_pass : (word : List ℕ) (more : List (List ℕ)) → AllByRecursion IsSolidWord (word ∷ more) → list_all (λ b. ltb 31 b) (join_with_byte 32 (word ∷ more)) ≡ true
joined_pass word [] all = word_passes word all.0.solid
joined_pass word (next ∷ more) all =
    lacks-append (λ b. ltb 31 b) word (32 ∷ join_with_byte 32 (next ∷ more)) (word_passes word all.0.solid)
    (and_from true (list_all (λ b. ltb 31 b) (join_with_byte 32 (next ∷ more))) refl (joined_pass next more all.1))

-- a byte of a text that passes is no carriage return; past its end there is 0
at_passes : (text : List ℕ) (i : ℕ) → list_all (λ b. ltb 31 b) text ≡ true → eqb (get_or text i 0) 13 ≡ false
at_passes [] i pass = refl
at_passes (b ∷ bs) zero pass =
    let halves = and_parts (ltb 31 b) (list_all (λ x. ltb 31 x) bs) pass in
    let high = ltb-true 31 b halves.0 in
    ne_eqb b 13 (λ same. omega (arith, high, same))
at_passes (b ∷ bs) (suc i) pass = at_passes bs i (and_parts (ltb 31 b) (list_all (λ x. ltb 31 x) bs) pass).1

pub joined_has_no_return : (word : List ℕ) (more : List (List ℕ)) → AllByRecursion IsSolidWord (word ∷ more) → without_return (join_with_byte 32 (word ∷ more)) ≡ join_with_byte 32 (word ∷ more)
joined_has_no_return word more all =
    let text = join_with_byte 32 (word ∷ more) in
    ap (λ (t : Bool). cond t (take (length text - 1) text) text) (at_passes text (length text - 1) (joined_pass word more all))

-- ---- no line feed

no_feed : (b : ℕ) → ltb 31 b ≡ true → not (eqb b 10) ≡ true
no_feed b above =
    let high = ltb-true 31 b above in
    ap not (ne_eqb b 10 (λ same. omega (arith, high, same)))

pub joined_has_no_feed : (word : List ℕ) (more : List (List ℕ)) → AllByRecursion IsSolidWord (word ∷ more) → feeds (join_with_byte 32 (word ∷ more)) ≡ 0
joined_has_no_feed word more all =
    let text = join_with_byte 32 (word ∷ more) in
    none_counted text (weaker (λ b. ltb 31 b) (λ b. not (eqb b 10)) no_feed text (joined_pass word more all))

-- ---- no remark

pub joined_begins : (word : List ℕ) (more : List (List ℕ)) → is_word word ≡ true → is_remark (join_with_byte 32 (word ∷ more)) ≡ is_remark word
joined_begins [] more some = absurd cc
joined_begins (b ∷ bs) [] some = refl
joined_begins (b ∷ bs) (next ∷ more) some = refl
