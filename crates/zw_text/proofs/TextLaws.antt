-- Texts of lines: what is read is the text's line, and a line's text is read as that line.
use Rattle.std.proofs.Common.{◌≡◌, ℕ, ◌≤◌, Bool, true, false, cond, ltb, Option, Some, None, Result, Ok, Err, List, [], ◌∷◌, length, codes, ap, refl, ◌∙◌, sym, subst, ◌⊎◌, inl, inr}
use Rattle.std.specs.Prelude.{IfOk, MatchOption, bytes_eq, find}
use Rattle.std.proofs.lemmas.Bool.{le-ltb, ltb-false}
use Rattle.std.proofs.lemmas.Slice.Eq.{bytes_eq-Decides}
use Rattle.zw_words.specs.declared.fault.LineFault.TheVariants.{Unknown, TooLong}
use Rattle.zw_words.specs.declared.fault.ReadLineFault.{ReadLineFault}
use Rattle.zw_words.specs.Words.{is_remark, line_words, without_return, words}
use Rattle.zw_words.specs.Forms.{hex_in}
use Rattle.zw_words.specs.Fields.{◌>>=◌, Gives, last, make, of_words}
use Rattle.zw_words.proofs.Choices.{bind_ok, chosen, made_of, not_ok, ok_is, some, some_is, not_some}
use Rattle.zw_text.specs.declared.line.Line.{Line}
use Rattle.zw_text.specs.declared.line.ReplayLine.{ReplayLine}
use Rattle.zw_text.specs.declared.line.ReplayLine.TheVariants.{Plain, Chip}
use Rattle.zw_text.specs.declared.word.LineWord.{LineWord}
use Rattle.zw_text.specs.declared.word.LineWord.TheVariants.{Set as WSet, Mode as WMode, Setpoint as WSetpoint, Comfort as WComfort, Config as WConfig, Bulk as WBulk, Assoc as WAssoc, Unassoc as WUnassoc, Interval as WInterval, Tick as WTick, Cut as WCut, Stall as WStall, Drop as WDrop, Garble as WGarble, Collide as WCollide, Send as WSend, Get as WGet, Join as WJoin, Interview as WInterview, Lose as WLose, LoseAck as WLoseAck, Repeat as WRepeat, Wake as WWake, Cancel as WCancel, Link as WLink, Unlink as WUnlink, Discover as WDiscover, Neighbours as WNeighbours, Failed as WFailed, Probe as WProbe, Local as WLocal, Show as WShow, Store as WStore, Restart as WRestart}
use Rattle.zw_text.specs.Line.{IsNoLine, LineText, LineWords, MayBeLine, ReplayText, first_word, is_replayed, line_at, line_from, line_of_word, line_word_in, line_words_all, replay_at, replay_from, replay_word, word_text}
use Rattle.zw_text.proofs.Fields.{hex_last, last_hex}
use Rattle.zw_text.proofs.LineTakes.{by_takes}
use Rattle.zw_text.proofs.LineAgain.{by_again}

-- ---- first words

-- what a search found passes
pub found_passes : {A : Type 0} (p : A → Bool) (xs : List A) (x : A) → find p xs ≡ some x → p x ≡ true
found_passes p [] x e = absurd (not_some x e)
found_passes p (y ∷ ys) x e =
    elim (chosen (p y) (some y) (find p ys) (some x) e) [
      | inl here ↦ ap p (sym (some_is y x here.1)) ∙ here.0
      | inr there ↦ found_passes p ys x there.1
    ]

word_takes : (bytes : List ℕ) (w : LineWord) → line_word_in bytes ≡ Some w → bytes ≡ word_text w
unfolding line_word_in
word_takes bytes w e = (bytes_eq-Decides bytes (word_text w)).0 (found_passes (λ v. bytes_eq bytes (word_text v)) line_words_all w e)

word_again : (w : LineWord) → line_word_in (word_text w) ≡ Some w
unfolding line_word_in
word_again WSet = refl
word_again WMode = refl
word_again WSetpoint = refl
word_again WComfort = refl
word_again WConfig = refl
word_again WBulk = refl
word_again WAssoc = refl
word_again WUnassoc = refl
word_again WInterval = refl
word_again WTick = refl
word_again WCut = refl
word_again WStall = refl
word_again WDrop = refl
word_again WGarble = refl
word_again WCollide = refl
word_again WSend = refl
word_again WGet = refl
word_again WJoin = refl
word_again WInterview = refl
word_again WLose = refl
word_again WLoseAck = refl
word_again WRepeat = refl
word_again WWake = refl
word_again WCancel = refl
word_again WLink = refl
word_again WUnlink = refl
word_again WDiscover = refl
word_again WNeighbours = refl
word_again WFailed = refl
word_again WProbe = refl
word_again WLocal = refl
word_again WShow = refl
word_again WStore = refl
word_again WRestart = refl

-- ---- the words of a text

-- the words of a text that is short enough
pub record Opened (text : List ℕ) (ws : List (List ℕ)) : Type 0 where
  pub short : length text ≤ 1024
  pub either : ((is_remark text ≡ true) × ([] ≡ ws)) ⊎ ((is_remark text ≡ false) × (words (without_return text) ≡ ws))

pub opened : (text : List ℕ) (ws : List (List ℕ)) → line_words text ≡ Ok ws → Opened text ws
unfolding line_words
opened text ws e =
    elim (chosen (ltb 1024 (length text)) _ _ _ e) [
      | inl long ↦ absurd (not_ok TooLong ws long.1)
      | inr short ↦
          elim (chosen (is_remark text) _ _ _ short.1) [
            | inl remark ↦ record { short = ltb-false _ _ short.0; either = inl (remark.0, ok_is [] ws remark.1) }
            | inr line ↦ record { short = ltb-false _ _ short.0; either = inr (line.0, ok_is (words (without_return text)) ws line.1) }
          ]
    ]

pub opens : (text : List ℕ) (ws : List (List ℕ)) → MayBeLine text → words (without_return text) ≡ ws → line_words text ≡ Ok ws
unfolding line_words
opens text ws may are = rw (le-ltb 1024 (length text) may.short, may.no_remark, are) refl

-- a text without words
pub no_words : (text : List ℕ) → Opened text [] → IsNoLine text
no_words text o = record { short = o.short; empty = elim o.either [ inl remark ↦ inl remark.0 | inr line ↦ inr line.1 ] }

-- a text with words may be a line
pub some_words : (text w : List ℕ) (rest : List (List ℕ)) → Opened text (w ∷ rest) → MayBeLine text × (words (without_return text) ≡ w ∷ rest)
some_words text w rest o =
    elim o.either [ inl remark ↦ absurd (nil_cons w rest remark.1) | inr line ↦ (record { short = o.short; no_remark = line.0 }, line.1) ]
  where
    nil_cons : (w : List ℕ) (rest : List (List ℕ)) → [] ≡ w ∷ rest → ⊥
    nil_cons w rest e = cc

-- ---- lines

-- the words of a line
record From (w : List ℕ) (rest : List (List ℕ)) (line : Line) : Type 0 where
  stands : LineWords line rest
  word_is : w ≡ word_text (first_word line)

by_word : (o : Option LineWord) (w : List ℕ) (rest : List (List ℕ)) (line : Line) → ((v : LineWord) → o ≡ some v → w ≡ word_text v) → line_of_word o rest ≡ Ok line → From w rest line
by_word None w rest line is e = absurd (not_ok Unknown line e)
by_word (Some v) w rest line is e =
    let row = by_takes v rest line e in record { stands = row.stands; word_is = is v refl ∙ ap word_text (sym row.first) }

from_takes : (w : List ℕ) (rest : List (List ℕ)) (line : Line) → line_from w rest ≡ Ok line → From w rest line
from_takes w rest line e = by_word (line_word_in w) w rest line (word_takes w) e

from_again : (line : Line) (rest : List (List ℕ)) → LineWords line rest → line_from (word_text (first_word line)) rest ≡ Ok line
from_again line rest stands = ap (λ o. line_of_word o rest) (word_again (first_word line)) ∙ by_again line rest stands

line_found : (text : List ℕ) (ws : List (List ℕ)) (found : Option Line) → Opened text ws → of_words line_from ws ≡ Ok found → MatchOption found (IsNoLine text) (λ line. LineText text line)
line_found text [] found o e = subst (λ (f : Option Line). MatchOption f (IsNoLine text) (λ line. LineText text line)) (ok_is None found e) (no_words text o)
line_found text (w ∷ rest) found o e =
    let made = made_of Some (line_from w rest) found e in
    let row = from_takes w rest made.0 made.1 in
    let line = some_words text w rest o in
    subst (λ (f : Option Line). MatchOption f (IsNoLine text) (λ line. LineText text line)) made.2
    (record { may_be = line.0; rest = rest; stands = row.stands; words_are = line.1 ∙ ap (λ (v : List ℕ). v ∷ rest) row.word_is })

pub line_takes : (text : List ℕ) (found : Option Line) → line_at text ≡ Ok found → MatchOption found (IsNoLine text) (λ line. LineText text line)
line_takes text found e =
    let a = bind_ok (line_words text) (of_words line_from) found e in line_found text a.0 found (opened text a.0 a.1) a.2

pub line_again : (text : List ℕ) (line : Line) → LineText text line → line_at text ≡ Ok (Some line)
line_again text line t =
    ap (λ r. r >>= of_words line_from) (opens text (word_text (first_word line) ∷ t.rest) t.may_be t.words_are)
    ∙ ap (make Some) (from_again line t.rest t.stands)

pub one_line : (text : List ℕ) (first second : Line) → LineText text first → LineText text second → first ≡ second
one_line text first second a b = some_is first second (ok_is (some first) (some second) (sym (line_again text first a) ∙ line_again text second b))

-- what a reader that gives this answers
pub line_answer : (text : List ℕ) (r : Result (Option Line) ReadLineFault) → Gives r (line_at text) → IfOk r (λ found. MatchOption found (IsNoLine text) (λ line. LineText text line))
line_answer text (Ok found) gives = line_takes text found gives
line_answer text (Err fault) gives = tt

-- ---- lines of `replay`

replayed : (o : Option LineWord) (v : LineWord) → replay_word o ≡ some v → (o ≡ some v) × (is_replayed v ≡ true)
replayed None v e = absurd (not_some v e)
replayed (Some u) v e =
    elim (chosen (is_replayed u) (some u) None (some v) e) [
      | inl yes_way ↦ let same = some_is u v yes_way.1 in (ap some same, ap is_replayed (sym same) ∙ yes_way.0)
      | inr no_way ↦ absurd (not_some v no_way.1)
    ]

plain_word : (o : Option LineWord) (w : List ℕ) (rest : List (List ℕ)) (line : Line) → ((v : LineWord) → o ≡ some v → (w ≡ word_text v) × (is_replayed v ≡ true)) → line_of_word o rest ≡ Ok line → From w rest line × (is_replayed (first_word line) ≡ true)
plain_word None w rest line is e = absurd (not_ok Unknown line e)
plain_word (Some v) w rest line is e =
    let row = by_takes v rest line e in
    let known = is v refl in
    (record { stands = row.stands; word_is = known.0 ∙ ap word_text (sym row.first) }, ap is_replayed row.first ∙ known.1)

replay_row : (text w : List ℕ) (rest : List (List ℕ)) (line : ReplayLine) → MayBeLine text → words (without_return text) ≡ w ∷ rest → replay_from w rest ≡ Ok line → ReplayText text line
replay_row text w rest line may are e =
    elim (chosen (bytes_eq w (codes "chip")) _ _ _ e) [
      | inl chip ↦
          let made = made_of Chip (last (hex_in 1 508) rest) line chip.1 in
          let h = last_hex 1 508 rest made.0 made.1 in
          let word : w ≡ codes "chip" = (bytes_eq-Decides w (codes "chip")).0 chip.0 in
          subst (ReplayText text) made.2 (may, h.low, h.high, (h.hex, h.stands, are ∙ ap (λ (v : List ℕ). v ∷ rest) word ∙ ap (λ (r : List (List ℕ)). codes "chip" ∷ r) h.words_are))
      | inr other ↦
          let made = made_of Plain (line_of_word (replay_word (line_word_in w)) rest) line other.1 in
          let row = plain_word (replay_word (line_word_in w)) w rest made.0 (λ v e. let known = replayed (line_word_in w) v e in (word_takes w v known.0, known.1)) made.1 in
          subst (ReplayText text) made.2 (record { may_be = may; rest = rest; stands = row.0.stands; words_are = are ∙ ap (λ (v : List ℕ). v ∷ rest) row.0.word_is }, row.1)
    ]

replay_found : (text : List ℕ) (ws : List (List ℕ)) (found : Option ReplayLine) → Opened text ws → of_words replay_from ws ≡ Ok found → MatchOption found (IsNoLine text) (λ line. ReplayText text line)
replay_found text [] found o e = subst (λ (f : Option ReplayLine). MatchOption f (IsNoLine text) (λ line. ReplayText text line)) (ok_is None found e) (no_words text o)
replay_found text (w ∷ rest) found o e =
    let made = made_of Some (replay_from w rest) found e in
    let line = some_words text w rest o in
    subst (λ (f : Option ReplayLine). MatchOption f (IsNoLine text) (λ line. ReplayText text line)) made.2
    (replay_row text w rest made.0 line.0 line.1 made.1)

pub replay_takes : (text : List ℕ) (found : Option ReplayLine) → replay_at text ≡ Ok found → MatchOption found (IsNoLine text) (λ line. ReplayText text line)
replay_takes text found e =
    let a = bind_ok (line_words text) (of_words replay_from) found e in replay_found text a.0 found (opened text a.0 a.1) a.2

-- no line's word is `chip`
not_chip : (w : LineWord) → bytes_eq (word_text w) (codes "chip") ≡ false
not_chip WSet = refl
not_chip WMode = refl
not_chip WSetpoint = refl
not_chip WComfort = refl
not_chip WConfig = refl
not_chip WBulk = refl
not_chip WAssoc = refl
not_chip WUnassoc = refl
not_chip WInterval = refl
not_chip WTick = refl
not_chip WCut = refl
not_chip WStall = refl
not_chip WDrop = refl
not_chip WGarble = refl
not_chip WCollide = refl
not_chip WSend = refl
not_chip WGet = refl
not_chip WJoin = refl
not_chip WInterview = refl
not_chip WLose = refl
not_chip WLoseAck = refl
not_chip WRepeat = refl
not_chip WWake = refl
not_chip WCancel = refl
not_chip WLink = refl
not_chip WUnlink = refl
not_chip WDiscover = refl
not_chip WNeighbours = refl
not_chip WFailed = refl
not_chip WProbe = refl
not_chip WLocal = refl
not_chip WShow = refl
not_chip WStore = refl
not_chip WRestart = refl

replay_from_again : (text : List ℕ) (line : ReplayLine) → ReplayText text line → (w : List ℕ) × (rest : List (List ℕ)) × MayBeLine text × (words (without_return text) ≡ w ∷ rest) × (replay_from w rest ≡ Ok line)
replay_from_again text (Plain line) t =
    let w = word_text (first_word line) in (
      w,
      t.0.rest,
      t.0.may_be,
      t.0.words_are,
      ap (λ b. cond b (make Chip (last (hex_in 1 508) t.0.rest)) (make Plain (line_of_word (replay_word (line_word_in w)) t.0.rest))) (not_chip (first_word line))
          ∙ ap (λ o. make Plain (line_of_word (replay_word o) t.0.rest)) (word_again (first_word line))
          ∙ ap (λ b. make Plain (line_of_word (cond b (Some (first_word line)) None) t.0.rest)) t.1
          ∙ ap (make Plain) (by_again line t.0.rest t.0.stands),
    )
replay_from_again text (Chip bytes) t =
    (codes "chip", t.3.0 ∷ [], t.0, t.3.2, ap (make Chip) (hex_last 1 508 t.3.0 bytes t.3.1 t.1 t.2))

pub replay_again : (text : List ℕ) (line : ReplayLine) → ReplayText text line → replay_at text ≡ Ok (Some line)
replay_again text line t =
    let row = replay_from_again text line t in
    ap (λ r. r >>= of_words replay_from) (opens text (row.0 ∷ row.1) row.2 row.3) ∙ ap (make Some) row.4

pub one_replay : (text : List ℕ) (first second : ReplayLine) → ReplayText text first → ReplayText text second → first ≡ second
one_replay text first second a b = some_is first second (ok_is (some first) (some second) (sym (replay_again text first a) ∙ replay_again text second b))

pub replay_answer : (text : List ℕ) (r : Result (Option ReplayLine) ReadLineFault) → Gives r (replay_at text) → IfOk r (λ found. MatchOption found (IsNoLine text) (λ line. ReplayText text line))
replay_answer text (Ok found) gives = replay_takes text found gives
replay_answer text (Err fault) gives = tt
