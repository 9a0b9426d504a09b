-- The words of a line have no byte that is a space or below.
use Rattle.std.proofs.Common.{◌≡◌, ℕ, ◌<◌, ◌≤◌, ◌^◌, eqb, ltb, Bool, true, false, cond, Ok, List, [], ◌∷◌, ◌++◌, get_or, codes, decimal, arith, refl, sym, subst}
use Rattle.std.specs.Prelude.{filter}
use Rattle.std.specs.List.{AllByRecursion, slice_split}
use Rattle.std.proofs.lemmas.List.Sums.{list_all-from_AllPass}
use Rattle.hex.specs.Hex.{decode_of, is_hex_digit}
use Rattle.hex.proofs.HexLemmas.{decode_of-ok}
use Rattle.zw_base.specs.declared.order.What.{What}
use Rattle.zw_base.specs.declared.order.What.TheVariants.{Value, Mode, Setpoint, Config, Bulk, Associate, Dissociate, Interval, Comfort}
use Rattle.zw_base.specs.declared.order.Word.{Word}
use Rattle.zw_base.specs.declared.order.Word.TheVariants.{On, Off, Level}
use Rattle.zw_words.specs.Words.{is_blank, is_remark, is_word, words}
use Rattle.zw_words.specs.Texts.{side_word, target_word, value_word}
use Rattle.zw_text.specs.declared.line.Line.{Line}
use Rattle.zw_text.specs.declared.line.Line.TheVariants.{Command, Tick, Cut, Stall, Drop, Garble, Collide, Send, Get, Join, Interview, Lose, LoseAck, Repeat, Wake, Cancel, Link, Unlink, Discover, Neighbours, Failed, Probe, Local, Show, Store, Restart}
use Rattle.zw_text.specs.declared.word.LineWord.{LineWord}
use Rattle.zw_text.specs.declared.word.LineWord.TheVariants.{Set as WSet, Mode as WMode, Setpoint as WSetpoint, Comfort as WComfort, Config as WConfig, Bulk as WBulk, Assoc as WAssoc, Unassoc as WUnassoc, Interval as WInterval, Tick as WTick, Cut as WCut, Stall as WStall, Drop as WDrop, Garble as WGarble, Collide as WCollide, Send as WSend, Get as WGet, Join as WJoin, Interview as WInterview, Lose as WLose, LoseAck as WLoseAck, Repeat as WRepeat, Wake as WWake, Cancel as WCancel, Link as WLink, Unlink as WUnlink, Discover as WDiscover, Neighbours as WNeighbours, Failed as WFailed, Probe as WProbe, Local as WLocal, Show as WShow, Store as WStore, Restart as WRestart}
use Rattle.zw_text.specs.Line.{EndStands, IsValue, LineWords, WhatWords, word_text}
use Rattle.zw_parse.proofs.Pieces.{Solid, lacks-append, number-solid}
use Rattle.zw_parse.proofs.Words.{side-solid}
use Rattle.proof_commands.proofs.Joining.{IsSolidWord}

-- ---- first words

-- a first word is solid, and begins no remark
pub record IsFirstWord (text : List ℕ) : Type 0 where
  pub solid : Solid text
  pub no_remark : is_remark text ≡ false

pub first_word_is : (word : LineWord) → IsFirstWord (word_text word)
first_word_is WSet = record { solid = refl; no_remark = refl }
first_word_is WMode = record { solid = refl; no_remark = refl }
first_word_is WSetpoint = record { solid = refl; no_remark = refl }
first_word_is WComfort = record { solid = refl; no_remark = refl }
first_word_is WConfig = record { solid = refl; no_remark = refl }
first_word_is WBulk = record { solid = refl; no_remark = refl }
first_word_is WAssoc = record { solid = refl; no_remark = refl }
first_word_is WUnassoc = record { solid = refl; no_remark = refl }
first_word_is WInterval = record { solid = refl; no_remark = refl }
first_word_is WTick = record { solid = refl; no_remark = refl }
first_word_is WCut = record { solid = refl; no_remark = refl }
first_word_is WStall = record { solid = refl; no_remark = refl }
first_word_is WDrop = record { solid = refl; no_remark = refl }
first_word_is WGarble = record { solid = refl; no_remark = refl }
first_word_is WCollide = record { solid = refl; no_remark = refl }
first_word_is WSend = record { solid = refl; no_remark = refl }
first_word_is WGet = record { solid = refl; no_remark = refl }
first_word_is WJoin = record { solid = refl; no_remark = refl }
first_word_is WInterview = record { solid = refl; no_remark = refl }
first_word_is WLose = record { solid = refl; no_remark = refl }
first_word_is WLoseAck = record { solid = refl; no_remark = refl }
first_word_is WRepeat = record { solid = refl; no_remark = refl }
first_word_is WWake = record { solid = refl; no_remark = refl }
first_word_is WCancel = record { solid = refl; no_remark = refl }
first_word_is WLink = record { solid = refl; no_remark = refl }
first_word_is WUnlink = record { solid = refl; no_remark = refl }
first_word_is WDiscover = record { solid = refl; no_remark = refl }
first_word_is WNeighbours = record { solid = refl; no_remark = refl }
first_word_is WFailed = record { solid = refl; no_remark = refl }
first_word_is WProbe = record { solid = refl; no_remark = refl }
first_word_is WLocal = record { solid = refl; no_remark = refl }
first_word_is WShow = record { solid = refl; no_remark = refl }
first_word_is WStore = record { solid = refl; no_remark = refl }
first_word_is WRestart = record { solid = refl; no_remark = refl }

-- ---- the words after it

number : (n most : ℕ) → n ≤ most → most < 2 ^ 64 → Solid (decimal n)
number n most below short = number-solid n (omega (arith, below, short))

-- a hex digit of either case
digit_solid : (c : ℕ) → is_hex_digit c ≡ true → ltb 32 c ≡ true
digit_solid c e = grind (arith, e)

pub hex : (text bytes : List ℕ) → decode_of text ≡ Ok bytes → Solid text
hex text bytes e = list_all-from_AllPass (λ b. ltb 32 b) text (λ k d below. digit_solid (get_or text k d) ((decode_of-ok text bytes e).1 k d below))

value : (word : Word) → IsValue word → Solid (value_word word)
value On stands = refl
value Off stands = refl
value (Level level) stands = number level 99 stands (omega arith)

target_by : (b : Bool) (node end : ℕ) → node ≤ 232 → end ≤ 127 → Solid (cond b (decimal node) (decimal node ++ (codes "." ++ decimal end)))
target_by true node end low near = number node 232 low (omega arith)
target_by false node end low near =
    lacks-append (λ b. ltb 32 b) (decimal node) (codes "." ++ decimal end) (number node 232 low (omega arith)) (number end 127 near (omega arith))

target : (node end : ℕ) → node ≤ 232 → end ≤ 127 → Solid (target_word node end)
target node end low near = target_by (eqb end 0) node end low near

-- words, one after another
one : (ws : List (List ℕ)) (a : List ℕ) → ws ≡ a ∷ [] → Solid a → AllByRecursion Solid ws
one ws a are first = subst (AllByRecursion Solid) (sym are) (first, tt)

two : (ws : List (List ℕ)) (a b : List ℕ) → ws ≡ a ∷ b ∷ [] → Solid a → Solid b → AllByRecursion Solid ws
two ws a b are first second = subst (AllByRecursion Solid) (sym are) (first, (second, tt))

three : (ws : List (List ℕ)) (a b c : List ℕ) → ws ≡ a ∷ b ∷ c ∷ [] → Solid a → Solid b → Solid c → AllByRecursion Solid ws
three ws a b c are first second third = subst (AllByRecursion Solid) (sym are) (first, (second, (third, tt)))

none : (ws : List (List ℕ)) → ws ≡ [] → AllByRecursion Solid ws
none ws are = subst (AllByRecursion Solid) (sym are) tt

what_solid : (what : What) (ws : List (List ℕ)) → WhatWords what ws → AllByRecursion Solid ws
what_solid (Value word) ws s = one ws (value_word word) s.1 (value word s.0)
what_solid (Mode mode) ws s = one ws (decimal mode) s.1 (number mode 255 s.0 (omega arith))
what_solid (Setpoint kind tenths) ws s = two ws (decimal kind) (decimal tenths) s.2 (number kind 15 s.0 (omega arith)) (number tenths 65535 s.1 (omega arith))
what_solid (Config parameter given) ws s = two ws (decimal parameter) (decimal given) s.2 (number parameter 255 s.0 (omega arith)) (number given 999999999 s.1 (omega arith))
what_solid (Bulk offset values) ws s = two ws (decimal offset) s.3.0 s.3.2 (number offset 255 s.0 (omega arith)) (hex s.3.0 values s.3.1)
what_solid (Associate group member) ws s = two ws (decimal group) (decimal member) s.2 (number group 255 s.0.1 (omega arith)) (number member 232 s.1.1 (omega arith))
what_solid (Dissociate group member) ws s = two ws (decimal group) (decimal member) s.2 (number group 255 s.0.1 (omega arith)) (number member 232 s.1.1 (omega arith))
what_solid (Interval seconds) ws s = one ws (decimal seconds) s.1 (number seconds 999999999 s.0 (omega arith))
what_solid (Comfort mode kind tenths) ws s =
    three ws (decimal mode) (decimal kind) (decimal tenths) s.3 (number mode 255 s.0 (omega arith)) (number kind 15 s.1 (omega arith)) (number tenths 65535 s.2 (omega arith))

end_near : (what : What) (end : ℕ) → EndStands what end → end ≤ 127
end_near (Value word) end s = s
end_near (Mode mode) end s = omega (arith, s)
end_near (Setpoint kind tenths) end s = omega (arith, s)
end_near (Config parameter given) end s = omega (arith, s)
end_near (Bulk offset values) end s = omega (arith, s)
end_near (Associate group member) end s = omega (arith, s)
end_near (Dissociate group member) end s = omega (arith, s)
end_near (Interval seconds) end s = omega (arith, s)
end_near (Comfort mode kind tenths) end s = omega (arith, s)

pub line_solid : (line : Line) (ws : List (List ℕ)) → LineWords line ws → AllByRecursion Solid ws
line_solid (Command order) ws s =
    subst (AllByRecursion Solid) (sym s.2.2) (target order.node order.end s.0.1 (end_near order.what order.end s.1), what_solid order.what s.2.0 s.2.1)
line_solid (Tick count) ws s = one ws (decimal count) s.1 (number count 100000 s.0.1 (omega arith))
line_solid (Cut size) ws s = one ws (decimal size) s.1 (number size 4096 s.0 (omega arith))
line_solid (Stall ticks) ws s = one ws (decimal ticks) s.1 (number ticks 1000 s.0.1 (omega arith))
line_solid (Drop from) ws s = one ws (side_word from) s (side-solid from)
line_solid (Garble from place mask) ws s =
    three ws (side_word from) (decimal place) (decimal mask) s.2 (side-solid from) (number place 255 s.0 (omega arith)) (number mask 255 s.1.1 (omega arith))
line_solid Collide ws s = none ws s
line_solid (Send node word) ws s = two ws (decimal node) (value_word word) s.2 (number node 232 s.0.1 (omega arith)) (value word s.1)
line_solid (Get node end) ws s = one ws (target_word node end) s.2 (target node end s.0.1 s.1)
line_solid (Join node) ws s = one ws (decimal node) s.1 (number node 232 s.0.1 (omega arith))
line_solid (Interview node) ws s = one ws (decimal node) s.1 (number node 232 s.0.1 (omega arith))
line_solid (Lose count) ws s = one ws (decimal count) s.1 (number count 1000 s.0.1 (omega arith))
line_solid (LoseAck count) ws s = one ws (decimal count) s.1 (number count 1000 s.0.1 (omega arith))
line_solid (Repeat frame) ws s = one ws (decimal frame) s.1 (number frame 999999999 s.0.1 (omega arith))
line_solid (Wake node) ws s = one ws (decimal node) s.1 (number node 232 s.0.1 (omega arith))
line_solid (Cancel command) ws s = one ws (decimal command) s.1 (number command 999999999 s.0.1 (omega arith))
line_solid (Link first second) ws s = two ws (decimal first) (decimal second) s.2 (number first 232 s.0.1 (omega arith)) (number second 232 s.1.1 (omega arith))
line_solid (Unlink first second) ws s = two ws (decimal first) (decimal second) s.2 (number first 232 s.0.1 (omega arith)) (number second 232 s.1.1 (omega arith))
line_solid Discover ws s = none ws s
line_solid (Neighbours node) ws s = one ws (decimal node) s.1 (number node 232 s.0.1 (omega arith))
line_solid (Failed node) ws s = one ws (decimal node) s.1 (number node 232 s.0.1 (omega arith))
line_solid Probe ws s = none ws s
line_solid (Local node given) ws s = two ws (decimal node) (decimal given) s.2 (number node 232 s.0.1 (omega arith)) (number given 255 s.1 (omega arith))
line_solid (Show node) ws s = one ws (decimal node) s.1 (number node 232 s.0.1 (omega arith))
line_solid (Store node) ws s = one ws (decimal node) s.1 (number node 232 s.0.1 (omega arith))
line_solid Restart ws s = none ws s

-- ---- words of a text have a byte each

kept_are_words : (b : Bool) (part : List ℕ) (more : List (List ℕ)) → is_word part ≡ b → AllByRecursion (λ w. is_word w ≡ true) more → AllByRecursion (λ w. is_word w ≡ true) (cond b (part ∷ more) more)
kept_are_words true part more is all = (is, all)
kept_are_words false part more is all = all

all_words : (parts : List (List ℕ)) → AllByRecursion (λ w. is_word w ≡ true) (filter is_word parts)
all_words [] = tt
all_words (part ∷ parts) = kept_are_words (is_word part) part (filter is_word parts) refl (all_words parts)

words_some : (text : List ℕ) → AllByRecursion (λ w. is_word w ≡ true) (words text)
unfolding words
words_some text = all_words (slice_split is_blank text)

both : (ws : List (List ℕ)) → AllByRecursion (λ w. is_word w ≡ true) ws → AllByRecursion Solid ws → AllByRecursion IsSolidWord ws
both [] some solid = tt
both (w ∷ ws) some solid = (record { some = some.0; solid = solid.0 }, both ws some.1 solid.1)

pub all_solid : (text : List ℕ) (ws : List (List ℕ)) → words text ≡ ws → AllByRecursion Solid ws → AllByRecursion IsSolidWord ws
all_solid text ws are solid = both ws (subst (AllByRecursion (λ w. is_word w ≡ true)) are (words_some text)) solid
