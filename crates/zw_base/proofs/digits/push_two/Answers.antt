use Rattle.std.proofs.Common.{arith}
use Rattle.zw_base.proofs.DigitLemmas.{put_last}
use Rattle.zw_base.proofs.digits.push_two.Goals as goal

pub returns : goal.returns
returns c = put_last c.push_digit-2.result _ _ _ c.args.n c.requires.above (omega (arith, c.requires.below)) c.in_ok-push_digit.ensures c.push_digit-2.ensures
