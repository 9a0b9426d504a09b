-- Texts of lines: what is read is the text's line, and a line's text is read as that line.
use Rattle.std.proofs.Common.{◌≡◌, ℕ, Option, Some, None, Result, Ok, Err, List, [], ◌∷◌, decimal, ap, refl, ◌∙◌, sym, subst, arith}
use Rattle.std.specs.Prelude.{IfOk, MatchOption, bytes_eq}
use Rattle.std.proofs.lemmas.Slice.Eq.{bytes_eq-Decides}
use Rattle.zw_words.specs.declared.fault.LineFault.TheVariants.{Unknown}
use Rattle.zw_words.specs.declared.fault.ReadLineFault.{ReadLineFault}
use Rattle.zw_words.specs.Words.{line_words}
use Rattle.zw_words.specs.Forms.{between_in}
use Rattle.zw_words.specs.Fields.{◌>>=◌, Gives, last, make, of_words}
use Rattle.zw_words.proofs.Choices.{bind_ok, made_of, not_ok, ok_is, some}
use Rattle.zw_text.specs.Line.{IsIn, IsNoLine}
use Rattle.zw_text.proofs.Fields.{last_number, number_last}
use Rattle.include_text.specs.declared.line.IncludeLine.{IncludeLine}
use Rattle.include_text.specs.declared.line.IncludeLine.TheVariants.{Add, Reset, Lose, Repeat, Tick}
use Rattle.include_text.specs.declared.line.IncludeWord.{IncludeWord}
use Rattle.include_text.specs.declared.line.IncludeWord.TheVariants.{Add as WAdd, Reset as WReset, Lose as WLose, Repeat as WRepeat, Tick as WTick}
use Rattle.include_text.specs.Line.{IncludeText, all_words, first_word, least_of, line_at, line_by, line_from, line_of, line_of_word, most_of, number_in, word_in, word_text}
use Rattle.zw_text.proofs.TextLaws.{found_passes, opens, Opened, opened, no_words, some_words}

-- ---- first words

word_takes : (bytes : List ℕ) (w : IncludeWord) → word_in bytes ≡ Some w → bytes ≡ word_text w
unfolding word_in
word_takes bytes w e = (bytes_eq-Decides bytes (word_text w)).0 (found_passes (λ v. bytes_eq bytes (word_text v)) all_words w e)

word_again : (w : IncludeWord) → word_in (word_text w) ≡ Some w
unfolding word_in
word_again WAdd = refl
word_again WReset = refl
word_again WLose = refl
word_again WRepeat = refl
word_again WTick = refl

-- ---- lines

-- the words of a line
record From (w : List ℕ) (rest : List (List ℕ)) (line : IncludeLine) : Type 0 where
  range : IsIn (least_of (first_word line)) (most_of (first_word line)) (number_in line)
  word_is : w ≡ word_text (first_word line)
  rest_is : rest ≡ decimal (number_in line) ∷ []

-- the word and the number of the line that is made of them
made_word : (v : IncludeWord) (n : ℕ) → first_word (line_of v n) ≡ v
made_word WAdd n = refl
made_word WReset n = refl
made_word WLose n = refl
made_word WRepeat n = refl
made_word WTick n = refl

made_number : (v : IncludeWord) (n : ℕ) → number_in (line_of v n) ≡ n
made_number WAdd n = refl
made_number WReset n = refl
made_number WLose n = refl
made_number WRepeat n = refl
made_number WTick n = refl

of_parts : (line : IncludeLine) → line_of (first_word line) (number_in line) ≡ line
of_parts (Add n) = refl
of_parts (Reset n) = refl
of_parts (Lose n) = refl
of_parts (Repeat n) = refl
of_parts (Tick n) = refl

from_parts : (v : IncludeWord) (n : ℕ) (w : List ℕ) (rest : List (List ℕ)) → IsIn (least_of v) (most_of v) n → w ≡ word_text v → rest ≡ decimal n ∷ [] → From w rest (line_of v n)
from_parts v n w rest range word_is rest_is = record {
  range = subst (λ (u : IncludeWord). IsIn (least_of u) (most_of u) (number_in (line_of v n))) (sym (made_word v n)) (subst (λ (k : ℕ). IsIn (least_of v) (most_of v) k) (sym (made_number v n)) range);
  word_is = word_is ∙ ap word_text (sym (made_word v n));
  rest_is = rest_is ∙ ap (λ (k : ℕ). let ws : List (List ℕ) = decimal k ∷ [] in ws) (sym (made_number v n));
}

by_word : (o : Option IncludeWord) (w : List ℕ) (rest : List (List ℕ)) (line : IncludeLine) → ((v : IncludeWord) → o ≡ some v → w ≡ word_text v) → line_of_word o rest ≡ Ok line → From w rest line
unfolding line_by
by_word None w rest line is e = absurd (not_ok Unknown line e)
by_word (Some v) w rest line is e =
    let a = made_of (line_of v) (last (between_in (least_of v) (most_of v)) rest) line e in
    let z = last_number (least_of v) (most_of v) rest a.0 a.1 in
    subst (From w rest) a.2 (from_parts v a.0 w rest z.range (is v refl) z.words_are)

from_takes : (w : List ℕ) (rest : List (List ℕ)) (line : IncludeLine) → line_from w rest ≡ Ok line → From w rest line
from_takes w rest line e = by_word (word_in w) w rest line (word_takes w) e

-- each range is below what a number can be
by_again : (v : IncludeWord) (n : ℕ) → IsIn (least_of v) (most_of v) n → line_by v (decimal n ∷ []) ≡ Ok (line_of v n)
unfolding line_by
by_again WAdd n range = ap (make Add) (number_last 2 232 n range (omega arith))
by_again WReset n range = ap (make Reset) (number_last 2 232 n range (omega arith))
by_again WLose n range = ap (make Lose) (number_last 1 1000 n range (omega arith))
by_again WRepeat n range = ap (make Repeat) (number_last 1 999999999 n range (omega arith))
by_again WTick n range = ap (make Tick) (number_last 1 100000 n range (omega arith))

from_again : (line : IncludeLine) → IsIn (least_of (first_word line)) (most_of (first_word line)) (number_in line) → line_from (word_text (first_word line)) (decimal (number_in line) ∷ []) ≡ Ok line
from_again line range =
    ap (λ o. line_of_word o (decimal (number_in line) ∷ [])) (word_again (first_word line)) ∙ by_again (first_word line) (number_in line) range ∙ ap Ok (of_parts line)

line_found : (text : List ℕ) (ws : List (List ℕ)) (found : Option IncludeLine) → Opened text ws → of_words line_from ws ≡ Ok found → MatchOption found (IsNoLine text) (λ line. IncludeText text line)
line_found text [] found o e = subst (λ (f : Option IncludeLine). MatchOption f (IsNoLine text) (λ line. IncludeText text line)) (ok_is None found e) (no_words text o)
line_found text (w ∷ rest) found o e =
    let made = made_of Some (line_from w rest) found e in
    let row = from_takes w rest made.0 made.1 in
    let line = some_words text w rest o in
    subst (λ (f : Option IncludeLine). MatchOption f (IsNoLine text) (λ line. IncludeText text line)) made.2
    (record { may_be = line.0; range = row.range; words_are = line.1 ∙ ap (λ (v : List ℕ). v ∷ rest) row.word_is ∙ ap (λ (r : List (List ℕ)). word_text (first_word made.0) ∷ r) row.rest_is })

line_takes : (text : List ℕ) (found : Option IncludeLine) → line_at text ≡ Ok found → MatchOption found (IsNoLine text) (λ line. IncludeText text line)
line_takes text found e =
    let a = bind_ok (line_words text) (of_words line_from) found e in line_found text a.0 found (opened text a.0 a.1) a.2

pub line_again : (text : List ℕ) (line : IncludeLine) → IncludeText text line → line_at text ≡ Ok (Some line)
line_again text line t =
    ap (λ r. r >>= of_words line_from) (opens text (word_text (first_word line) ∷ decimal (number_in line) ∷ []) t.may_be t.words_are)
    ∙ ap (make Some) (from_again line t.range)

-- what a reader that gives this answers
pub line_answer : (text : List ℕ) (r : Result (Option IncludeLine) ReadLineFault) → Gives r (line_at text) → IfOk r (λ found. MatchOption found (IsNoLine text) (λ line. IncludeText text line))
line_answer text (Ok found) gives = line_takes text found gives
line_answer text (Err fault) gives = tt
