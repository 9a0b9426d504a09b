-- The texts of a run of `host` are lines that speak to its host, and their words, with one space between two, are read as these lines.
use Rattle.std.proofs.Common.{◌≡◌, ℕ, Bool, true, false, if◌then◌else◌, inl, inr, List, [], ◌∷◌, map, Ok, Err, Some, None, codes, ap, refl, sym, ◌∙◌}
use Rattle.std.specs.Prelude.{Option, Result, bytes_eq}
use Rattle.std.specs.List.{AllByRecursion}
use Rattle.zw_words.proofs.Choices.{bind_ok, chosen, made_of, not_ok, not_some, ok_is, some_is}
use Rattle.zw_words.specs.Fields.{◌>>=◌, last, make, of_words}
use Rattle.zw_words.specs.Forms.{between_in}
use Rattle.zw_words.specs.Words.{line_words}
use Rattle.zw_words.specs.declared.fault.LineFault.{LineFault}
use Rattle.zw_words.specs.declared.fault.LineFault.TheVariants.{Missing, Unknown}
use Rattle.zw_text.specs.Line.{first_word, line_at, line_from, line_of_word, line_word_in}
use Rattle.zw_text.specs.Transcript.{read_as}
use Rattle.zw_text.specs.declared.line.Line.{Line}
use Rattle.zw_text.specs.declared.word.LineWord.{LineWord}
use Rattle.zw_text.proofs.LineTakes.{by_takes}
use Rattle.run_lines.specs.Pieces.{said_text}
use Rattle.run_all.specs.port_run.Lines.{AreRead, is_served, port_at, port_from, served_word, wanted, wanted_at}
use Rattle.run_all.specs.port_run.declared.line.PortLine.{PortLine}
use Rattle.run_all.specs.port_run.declared.line.PortLine.TheVariants.{Plain, Wait}
use Rattle.proof_replay.specs.HostSteps.{IsServedLine}
use Rattle.proof_commands.proofs.SaidWords.{read_again}

-- ---- one text

-- a line of `host` that a scenario has too
record IsPlainLine (text : List ℕ) (line : Line) : Type 0 where
  read : line_at text ≡ Ok (Some line)
  served : is_served (first_word line) ≡ true

-- its words are its line, and its first word is one of those that `host` takes
record IsPlainFrom (word : List ℕ) (rest : List (List ℕ)) (line : Line) : Type 0 where
  from : line_from word rest ≡ Ok line
  served : is_served (first_word line) ≡ true

a_wait : (ticks : ℕ) (line : Line) → Wait ticks ≡ Plain line → ⊥
a_wait ticks line is = cc

plain_is : (one line : Line) → Plain one ≡ Plain line → one ≡ line
plain_is one line is = cc

by_word : (o : Option LineWord) (rest : List (List ℕ)) (line : Line) → line_of_word (served_word o) rest ≡ Ok line
    → (line_of_word o rest ≡ Ok line) × (is_served (first_word line) ≡ true)
by_word None rest line e = absurd (not_ok Unknown line e)
by_word (Some word) rest line e = by_test (is_served word) refl e
  where
    by_test : (test : Bool) → is_served word ≡ test → line_of_word (if test then Some word else None) rest ≡ Ok line → (line_of_word (Some word) rest ≡ Ok line) × (is_served (first_word line) ≡ true)
    by_test true served e = (e, ap is_served (by_takes word rest line e).first ∙ served)
    by_test false unserved e = absurd (not_ok Unknown line e)

from_word : (word : List ℕ) (rest : List (List ℕ)) (line : Line) → port_from word rest ≡ Ok (Plain line) → IsPlainFrom word rest line
from_word word rest line e =
    elim (chosen (bytes_eq word (codes "wait")) _ _ _ e) [
      | inl wait ↦ let made = made_of Wait (last (between_in 1 100000) rest) (Plain line) wait.1 in absurd (a_wait made.0 line made.2)
      | inr other ↦
          let made = made_of Plain (line_of_word (served_word (line_word_in word)) rest) (Plain line) other.1 in
          let got = by_word (line_word_in word) rest made.0 made.1 in
          let same = plain_is made.0 line made.2 in
          record { from = got.0 ∙ ap (λ (l : Line). Ok l) same; served = ap (λ (l : Line). is_served (first_word l)) (sym same) ∙ got.1 }
    ]

by_words : (text : List ℕ) (ws : List (List ℕ)) (line : Line) → line_words text ≡ Ok ws → of_words port_from ws ≡ Ok (Some (Plain line)) → IsPlainLine text line
by_words text [] line are e = absurd (not_some (Plain line) (ok_is None (Some (Plain line)) e))
by_words text (word ∷ rest) line are e =
    let made = made_of Some (port_from word rest) (Some (Plain line)) e in
    let row = from_word word rest line (made.1 ∙ ap (λ (l : PortLine). Ok l) (some_is made.0 (Plain line) made.2)) in
    record { read = ap (λ r. r >>= of_words line_from) are ∙ ap (make Some) row.from; served = row.served }

plain_line : (text : List ℕ) (line : Line) → port_at text ≡ Ok (Some (Plain line)) → IsPlainLine text line
plain_line text line e =
    let opened = bind_ok (line_words text) (of_words port_from) (Some (Plain line)) e in by_words text opened.0 line opened.1 opened.2

-- ---- all of them

was_wanted : (found : Result (Option PortLine) LineFault) (line : PortLine) → wanted found ≡ Ok line → found ≡ Ok (Some line)
was_wanted (Ok (Some one)) line e = ap (λ (l : PortLine). Ok (Some l)) (ok_is one line e)
was_wanted (Ok None) line e = absurd (not_ok Missing line e)
was_wanted (Err fault) line e = absurd (not_ok fault line e)

served_line : (text : List ℕ) (line : PortLine) → wanted_at text ≡ Ok line → IsServedLine line
served_line text (Plain line) e =
    let got = plain_line text line (was_wanted (port_at text) (Plain line) e) in (said_text text, ap read_as (read_again text line got.read), got.served)
served_line text (Wait ticks) e = tt

abbrev Read : Type 0
Read = Result PortLine LineFault

first_is : (x y : Read) (xs ys : List Read) → x ∷ xs ≡ y ∷ ys → x ≡ y
first_is x y xs ys e = cc

rest_is : (x y : Read) (xs ys : List Read) → x ∷ xs ≡ y ∷ ys → xs ≡ ys
rest_is x y xs ys e = cc

pub served_lines : (texts : List (List ℕ)) (lines : List PortLine) → AreRead texts lines → AllByRecursion IsServedLine lines
served_lines texts [] are = tt
served_lines [] (line ∷ lines) are = absurd cc
served_lines (text ∷ texts) (line ∷ lines) are = (
  served_line text line (first_is (wanted_at text) (Ok line) (map wanted_at texts) (map (λ (l : PortLine). Ok l) lines) are),
  served_lines texts lines (rest_is (wanted_at text) (Ok line) (map wanted_at texts) (map (λ (l : PortLine). Ok l) lines) are),
)
