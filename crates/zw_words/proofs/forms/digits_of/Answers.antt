-- A digit more goes on from the number; another byte, or a number that is too great, ends it.
use Rattle.std.proofs.Common.{◌≡◌, ◌+◌, ◌*◌, ◌-◌, ◌≤◌, ◌^◌, true, false, get_or, drop, ap, ◌∙◌, sym, arith}
use Rattle.std.specs.Char.{is_ascii_digit}
use Rattle.zw_words.specs.Forms.{digits_in}
use Rattle.zw_words.proofs.NumberLemmas.{digits-next, digits-stop, digits-great, digits-end}
use Rattle.zw_words.proofs.forms.digits_of.Goals as goal

pub returns-then-not-is_ascii_digit : goal.returns-then-not-is_ascii_digit
returns-then-not-is_ascii_digit c =
    let other : is_ascii_digit (get_or c.args.word.now c.loop-digit.digit-index 0) ≡ false = sym c.is_ascii_digit.ensures.value ∙ c.if-not-is_ascii_digit.true in
    sym (c.loop-digit.invariant.so_far ∙ digits-stop c.args.word.now c.loop-digit.number c.loop-digit.digit-index c.loop-digit-test.true other)

pub returns-in_err-number : goal.returns-in_err-number
returns-in_err-number c =
    let digit : is_ascii_digit (get_or c.args.word.now c.loop-digit.digit-index 0) ≡ true = sym c.is_ascii_digit.ensures.value ∙ c.if-not-is_ascii_digit.false in
    let great : 2 ^ 64 ≤ c.loop-digit.number * 10 + (get_or c.args.word.now c.loop-digit.digit-index 0 - 48) = omega (arith, c.in_err-number.ensures) in
    c.from_residual.ensures ∙ sym (c.loop-digit.invariant.so_far ∙ digits-great c.args.word.now c.loop-digit.number c.loop-digit.digit-index c.loop-digit-test.true digit great)

pub loop-digit-preserved : goal.loop-digit-preserved
loop-digit-preserved c =
    let digit : is_ascii_digit (get_or c.args.word.now c.loop-digit.digit-index 0) ≡ true = sym c.is_ascii_digit.ensures.value ∙ c.if-not-is_ascii_digit.false in
    record {
      so_far = c.loop-digit.invariant.so_far
          ∙ digits-next c.args.word.now c.loop-digit.number c.loop-digit.digit-index c.loop-digit-test.true digit
          ∙ ap (λ n. digits_in n (drop (c.loop-digit.digit-index + 1) c.args.word.now)) (sym c.in_ok-number.ensures.1);
      small = omega (arith, c.in_ok-number.ensures);
    }

pub returns : goal.returns
returns c = sym (c.loop-digit.invariant.so_far ∙ digits-end c.args.word.now c.loop-digit.number c.loop-digit.digit-index c.loop-digit-test.false c.loop-digit.invariant.small)
