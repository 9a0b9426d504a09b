-- The first blank ends the word, or nothing does.
use Rattle.std.proofs.Common.{◌≡◌, true, get_or, ◌∙◌, sym, arith}
use Rattle.zw_words.specs.Words.{is_blank}
use Rattle.zw_words.proofs.WordLemmas.{words-cut, words-whole}
use Rattle.zw_words.proofs.words.cut_blank.Goals as goal

pub returns-then-is_blank_byte : goal.returns-then-is_blank_byte
returns-then-is_blank_byte c =
    let blank : is_blank (get_or c.args.text.now c.loop-i.i 0) ≡ true = sym c.is_blank_byte.ensures ∙ c.if-is_blank_byte.true in
    rw (c.split_at.ensures.front, c.split_at.ensures.back) (words-cut c.args.text.now c.loop-i.i c.loop-i-test.true c.requires.word blank c.loop-i.invariant)

pub returns : goal.returns
returns c = words-whole c.args.text.now c.requires.some (λ k below. c.loop-i.invariant k (omega (arith, below, c.loop-i-test.false)))
