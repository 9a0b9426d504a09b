use Rattle.zw_base.proofs.DigitLemmas.{put_digit}
use Rattle.zw_base.proofs.digits.push_digit.Goals as goal

pub returns : goal.returns
returns c = put_digit c.push.result _ _ _ _ _ c.requires c.from.ensures c.push.ensures.ascii c.push.ensures.bytes
