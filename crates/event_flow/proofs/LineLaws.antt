-- Texts of lines: what is read is the text's line, and a line's text is read as that line.
use Rattle.std.proofs.Common.{◌≡◌, ℕ, ◌≤◌, true, Option, Some, None, Result, Ok, Err, List, [], ◌∷◌, codes, decimal, ap, refl, ◌∙◌, sym, subst, inl, inr, lit<, arith}
use Rattle.std.specs.Prelude.{IfOk, MatchOption, bytes_eq}
use Rattle.std.proofs.lemmas.Slice.Eq.{bytes_eq-Decides}
use Rattle.zw_words.specs.declared.fault.LineFault.TheVariants.{Unknown}
use Rattle.zw_words.specs.declared.fault.ReadLineFault.{ReadLineFault}
use Rattle.zw_words.specs.Words.{line_words}
use Rattle.zw_words.specs.Forms.{between_in}
use Rattle.zw_words.specs.Fields.{◌>>=◌, Gives, last, make, next, of_words}
use Rattle.zw_words.proofs.Choices.{bind_ok, chosen, made_of, not_ok, ok_is, some, some_is}
use Rattle.zw_text.specs.Line.{IsNoLine}
use Rattle.zw_text.proofs.Fields.{last_number, next_number, number_last, number_next}
use Rattle.event_flow.specs.declared.line.EventLine.{EventLine}
use Rattle.event_flow.specs.declared.line.EventLine.TheVariants.{Event, Again, Deliver}
use Rattle.event_flow.specs.Line.{EventText, IsEventLine, again_by, deliver_by, event_at, event_by, event_from, event_line_words}
use Rattle.zw_text.proofs.TextLaws.{opens, Opened, opened, no_words, some_words}

-- the words are those of the line, whose numbers are in their ranges
record IsRead (ws : List (List ℕ)) (line : EventLine) : Type 0 where
  ranges : IsEventLine line
  words_are : ws ≡ event_line_words line

-- ---- what was read stands there

event_takes : (ws : List (List ℕ)) (line : EventLine) → event_by ws ≡ Ok line → IsRead (codes "event" ∷ ws) line
unfolding event_by
event_takes ws line e =
    let a = bind_ok (next (between_in 2 232) ws) _ line e in
    let an = next_number 2 232 ws a.0 a.1 in
    let b = bind_ok (next (between_in 0 255) a.0.rest) _ line a.2 in
    let bn = next_number 0 255 a.0.rest b.0 b.1 in
    let z = made_of (Event a.0.value b.0.value) (last (between_in 0 255) b.0.rest) line b.2 in
    let zn = last_number 0 255 b.0.rest z.0 z.1 in
    let prefix = λ (rest : List (List ℕ)). codes "event" ∷ rest in
    let following = λ (rest : List (List ℕ)). codes "event" ∷ decimal a.0.value ∷ rest in
    let last_word = λ (rest : List (List ℕ)). codes "event" ∷ decimal a.0.value ∷ decimal b.0.value ∷ rest in
    subst (IsRead (codes "event" ∷ ws)) z.2
    (record { ranges = (an.range, bn.range.1, zn.range.1); words_are = ap prefix an.words_are ∙ ap following bn.words_are ∙ ap last_word zn.words_are })

again_takes : (ws : List (List ℕ)) (line : EventLine) → again_by ws ≡ Ok line → IsRead (codes "again" ∷ ws) line
unfolding again_by
again_takes ws line e =
    let z = made_of Again (last (between_in 2 232) ws) line e in
    let zn = last_number 2 232 ws z.0 z.1 in
    subst (IsRead (codes "again" ∷ ws)) z.2 (record { ranges = zn.range; words_are = ap (λ (rest : List (List ℕ)). codes "again" ∷ rest) zn.words_are })

deliver_takes : (ws : List (List ℕ)) (line : EventLine) → deliver_by ws ≡ Ok line → IsRead (codes "deliver" ∷ ws) line
unfolding deliver_by
deliver_takes ws line e =
    let z = made_of Deliver (last (between_in 1 999999999) ws) line e in
    let zn = last_number 1 999999999 ws z.0 z.1 in
    subst (IsRead (codes "deliver" ∷ ws)) z.2 (record { ranges = zn.range; words_are = ap (λ (rest : List (List ℕ)). codes "deliver" ∷ rest) zn.words_are })

-- the first word is this one
is_word : (w text : List ℕ) (rest : List (List ℕ)) (line : EventLine) → bytes_eq w text ≡ true → IsRead (text ∷ rest) line → IsRead (w ∷ rest) line
is_word w text rest line e r =
    record { ranges = r.ranges; words_are = ap (λ (v : List ℕ). v ∷ rest) ((bytes_eq-Decides w text).0 e) ∙ r.words_are }

from_takes : (w : List ℕ) (rest : List (List ℕ)) (line : EventLine) → event_from w rest ≡ Ok line → IsRead (w ∷ rest) line
from_takes w rest line e =
    elim (chosen (bytes_eq w (codes "event")) _ _ _ e) [
      | inl is ↦ is_word w (codes "event") rest line is.0 (event_takes rest line is.1)
      | inr other ↦
          elim (chosen (bytes_eq w (codes "again")) _ _ _ other.1) [
            | inl is ↦ is_word w (codes "again") rest line is.0 (again_takes rest line is.1)
            | inr third ↦
                elim (chosen (bytes_eq w (codes "deliver")) _ _ _ third.1) [
                  | inl is ↦ is_word w (codes "deliver") rest line is.0 (deliver_takes rest line is.1)
                  | inr unknown ↦ absurd (not_ok Unknown line unknown.1)
                ]
          ]
    ]

-- ---- what stands there is read

from_zero : (most n : ℕ) → n ≤ most → (0 ≤ n) × (n ≤ most)
from_zero most n high = (omega arith, high)

event_again : (node kind level : ℕ) → IsEventLine (Event node kind level) → event_by (decimal node ∷ decimal kind ∷ decimal level ∷ []) ≡ Ok (Event node kind level)
unfolding event_by
event_again node kind level ranges =
    rw (
      number_next 2 232 node (decimal kind ∷ decimal level ∷ []) ranges.0 (lit< tt),
      number_next 0 255 kind (decimal level ∷ []) (from_zero 255 kind ranges.1) (lit< tt),
      number_last 0 255 level (from_zero 255 level ranges.2) (lit< tt),
    ) refl

again_again : (node : ℕ) → IsEventLine (Again node) → again_by (decimal node ∷ []) ≡ Ok (Again node)
unfolding again_by
again_again node range = ap (make Again) (number_last 2 232 node range (lit< tt))

deliver_again : (frame : ℕ) → IsEventLine (Deliver frame) → deliver_by (decimal frame ∷ []) ≡ Ok (Deliver frame)
unfolding deliver_by
deliver_again frame range = ap (make Deliver) (number_last 1 999999999 frame range (lit< tt))

-- the words of a line are read as that line
pub record Again_read (line : EventLine) : Type 0 where
  pub word : List ℕ
  pub rest : List (List ℕ)
  pub words_are : event_line_words line ≡ word ∷ rest
  pub read : event_from word rest ≡ Ok line

words_again : (line : EventLine) → IsEventLine line → Again_read line
words_again (Event node kind level) ranges =
    record { word = codes "event"; rest = decimal node ∷ decimal kind ∷ decimal level ∷ []; words_are = refl; read = event_again node kind level ranges }
words_again (Again node) range =
    record { word = codes "again"; rest = decimal node ∷ []; words_are = refl; read = again_again node range }
words_again (Deliver frame) range =
    record { word = codes "deliver"; rest = decimal frame ∷ []; words_are = refl; read = deliver_again frame range }

-- ---- texts

-- what was found is the text's line, or the text is none
abbrev IsFound : List ℕ → Option EventLine → Type 0
IsFound text found = MatchOption found (IsNoLine text) (λ line. EventText text line)

found_in : (text : List ℕ) (ws : List (List ℕ)) (found : Option EventLine) → Opened text ws → of_words event_from ws ≡ Ok found → IsFound text found
found_in text [] found o e = subst (IsFound text) (ok_is None found e) (no_words text o)
found_in text (w ∷ rest) found o e =
    let made = made_of some (event_from w rest) found e in
    let row = from_takes w rest made.0 made.1 in
    let line = some_words text w rest o in
    subst (IsFound text) made.2 (record { may_be = line.0; ranges = row.ranges; words_are = line.1 ∙ row.words_are })

pub line_takes : (text : List ℕ) (found : Option EventLine) → event_at text ≡ Ok found → IsFound text found
line_takes text found e =
    let a = bind_ok (line_words text) (of_words event_from) found e in found_in text a.0 found (opened text a.0 a.1) a.2

pub line_again : (text : List ℕ) (line : EventLine) → EventText text line → event_at text ≡ Ok (Some line)
line_again text line t =
    let again = words_again line t.ranges in
    ap (λ r. r >>= of_words event_from) (opens text (again.word ∷ again.rest) t.may_be (t.words_are ∙ again.words_are)) ∙ ap (make Some) again.read

-- what a reader that answers this gives
pub answers : (r : Result (Option EventLine) ReadLineFault) (text : List ℕ) (line : EventLine) → Gives r (event_at text) → EventText text line → Gives r (Ok (Some line))
answers r text line gives t = subst (Gives r) (line_again text line t) gives

-- no text is that of two lines
pub one_line : (text : List ℕ) (first second : EventLine) → EventText text first → EventText text second → first ≡ second
one_line text first second a b = some_is first second (ok_is (some first) (some second) (sym (line_again text first a) ∙ line_again text second b))

pub found_answer : (text : List ℕ) (r : Result (Option EventLine) ReadLineFault) → Gives r (event_at text) → IfOk r (λ found. MatchOption found (IsNoLine text) (λ line. EventText text line))
found_answer text (Ok found) gives = line_takes text found gives
found_answer text (Err fault) gives = tt
