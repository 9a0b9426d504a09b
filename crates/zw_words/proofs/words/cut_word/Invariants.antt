use Rattle.std.proofs.Common.{◌≡◌, drop}
use Rattle.zw_words.specs.Words.{words}
use Rattle.zw_words.proofs.words.cut_word.Given as goal

-- only blanks so far
abbrev pub invariant-loop-i : goal.invariant-loop-i
invariant-loop-i l = words l.text ≡ words (drop l.i l.text)
