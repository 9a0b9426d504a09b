use Rattle.std.proofs.Common.{◌≡◌, ◌<◌, ◌^◌, drop}
use Rattle.zw_words.specs.Forms.{digits_in}
use Rattle.zw_words.proofs.forms.digits_of.Given as goal

-- the digits so far make the number, and the others go on from it
abbrev pub invariant-loop-digit : goal.invariant-loop-digit
invariant-loop-digit l = record {
  so_far : digits_in 0 l.word ≡ digits_in l.number (drop l.digit-index l.word);
  small : l.number < 2 ^ 64;
}
