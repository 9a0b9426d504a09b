-- The words of the line are those of its text, and nothing else of the text counts. So what is entered of a line is read as it, and entered so again.
use Rattle.std.proofs.Common.{◌≡◌, ℕ, false, List, ◌∷◌, length, Ok, Some, arith, ap, refl, sym, subst, ◌∙◌}
use Rattle.std.specs.List.{AllByRecursion, join_with_byte}
use Rattle.std.proofs.lemmas.Bool.{le-ltb}
use Rattle.zw_words.specs.Words.{is_remark, line_words, without_return, words}
use Rattle.zw_text.specs.Fits.{feeds}
use Rattle.zw_text.specs.Line.{LineText, MayBeLine, first_word, line_at, word_text}
use Rattle.zw_text.specs.declared.line.Line.{Line}
use Rattle.zw_text.proofs.TextLaws.{line_again, line_takes}
use Rattle.zw_parse.specs.Said.{SaysLine}
use Rattle.run_lines.specs.Pieces.{joined_in, said_text}
use Rattle.proof_audit.specs.Legible.{AreOfLine}
use Rattle.proof_commands.proofs.Joining.{IsSolidWord, joined_are_short, joined_begins, joined_has_no_feed, joined_has_no_return, without_return_is_short, words-joined}
use Rattle.proof_commands.proofs.Solid.{all_solid, first_word_is, line_solid}

-- the words of a text that may be a line
pub words_read : (text : List ℕ) (ws : List (List ℕ)) → MayBeLine text → words (without_return text) ≡ ws → line_words text ≡ Ok ws
unfolding line_words
words_read text ws may are = rw (le-ltb 1024 (length text) may.short, may.no_remark, are) refl

-- joined, they are words of a text that may be one
pub record AreJoined (word : List ℕ) (rest : List (List ℕ)) : Type 0 where
  pub may_be : MayBeLine (join_with_byte 32 (word ∷ rest))
  pub words_are : words (without_return (join_with_byte 32 (word ∷ rest))) ≡ word ∷ rest

pub are_joined : (text word : List ℕ) (rest : List (List ℕ)) → MayBeLine text → words (without_return text) ≡ word ∷ rest → AllByRecursion IsSolidWord (word ∷ rest) → is_remark word ≡ false
    → AreJoined word rest
are_joined text word rest may are all no_remark =
    let short = joined_are_short (without_return text) word rest are in
    let cut = without_return_is_short text in
    let most = may.short in
    record {
      may_be = record { short = omega (arith, short, cut, most); no_remark = joined_begins word rest all.0.some ∙ no_remark };
      words_are = ap words (joined_has_no_return word rest all) ∙ words-joined word rest all;
    }

-- the words of the text of a line
words_are : (text : List ℕ) (line : Line) (t : LineText text line) → line_words text ≡ Ok (word_text (first_word line) ∷ t.rest)
words_are text line t = words_read text (word_text (first_word line) ∷ t.rest) t.may_be t.words_are

solid_words : (text : List ℕ) (line : Line) (t : LineText text line) → AllByRecursion IsSolidWord (word_text (first_word line) ∷ t.rest)
solid_words text line t =
    all_solid (without_return text) (word_text (first_word line) ∷ t.rest) t.words_are ((first_word_is (first_word line)).solid, line_solid line t.rest t.stands)

said : (text : List ℕ) (line : Line) (t : LineText text line) → LineText (join_with_byte 32 (word_text (first_word line) ∷ t.rest)) line
said text line t =
    let word = word_text (first_word line) in
    let are = are_joined text word t.rest t.may_be t.words_are (solid_words text line t) (first_word_is (first_word line)).no_remark in
    record { may_be = are.may_be; rest = t.rest; stands = t.stands; words_are = are.words_are }

module _ (text : List ℕ) (line : Line) (is : line_at text ≡ Ok (Some line)) where
  abbrev t : LineText text line
  t = line_takes text (Some line) is

  abbrev joined : List ℕ
  joined = join_with_byte 32 (word_text (first_word line) ∷ t.rest)

  said_is : said_text text ≡ joined
  said_is = ap joined_in (words_are text line t)

  pub read_again : line_at (said_text text) ≡ Ok (Some line)
  read_again = subst (λ (s : List ℕ). line_at s ≡ Ok (Some line)) (sym said_is) (line_again joined line (said text line t))

  says_line : SaysLine (said_text text)
  unfolding said
  says_line = record {
    line = line;
    read = subst (λ (s : List ℕ). LineText s line) (sym said_is) (said text line t);
    joined = ap said_text said_is ∙ (ap joined_in (words_are joined line (said text line t)) ∙ sym said_is);
  }

  pub are_of_line : AreOfLine (said_text text)
  are_of_line = record {
    says = says_line;
    one_line = ap feeds said_is ∙ joined_has_no_feed (word_text (first_word line)) t.rest (solid_words text line t);
  }
