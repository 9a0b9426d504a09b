use Rattle.s0_session.proofs.CallLemmas.{given_all}
use Rattle.s0_session.proofs.calls.new_nonces_are_counted.Goals as goal

pub returns : goal.returns
returns c = given_all
