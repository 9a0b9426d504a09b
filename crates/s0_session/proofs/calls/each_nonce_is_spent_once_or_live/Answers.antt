use Rattle.s0_session.proofs.CallLemmas.{live_all}
use Rattle.s0_session.proofs.calls.each_nonce_is_spent_once_or_live.Goals as goal

pub returns : goal.returns
returns c = live_all
