-- A blank more is passed over, and at the end there is no word.
use Rattle.std.proofs.Common.{◌≡◌, true, get_or, ◌∙◌, sym}
use Rattle.zw_words.specs.Words.{is_blank}
use Rattle.zw_words.proofs.WordLemmas.{words-pass, words-end}
use Rattle.zw_words.proofs.words.cut_word.Goals as goal

pub loop-i-preserved : goal.loop-i-preserved
loop-i-preserved c =
    let blank : is_blank (get_or c.args.text.now c.loop-i.i 0) ≡ true = sym c.is_blank_byte.ensures ∙ c.if-not-is_blank_byte.false in
    c.loop-i.invariant ∙ words-pass c.args.text.now c.loop-i.i c.loop-i-test.true blank

pub returns-clause-none : goal.returns-clause-none
returns-clause-none c = c.loop-i.invariant ∙ words-end c.args.text.now c.loop-i.i c.loop-i-test.false
