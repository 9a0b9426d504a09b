use Rattle.std.proofs.Common.{arith}
use Rattle.zw_base.proofs.DigitLemmas.{put_last}
use Rattle.zw_base.proofs.digits.push_short.Goals as goal

pub returns : goal.returns
returns c = put_last c.push_digit-2.result _ _ _ c.args.n (omega (arith, c.if-n-lt100.false)) (omega (arith, c.requires)) c.in_ok-push_two.ensures c.push_digit-2.ensures
