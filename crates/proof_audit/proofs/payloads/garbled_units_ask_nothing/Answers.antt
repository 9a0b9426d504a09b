-- By computing: nothing was asked for.
use Rattle.std.proofs.lemmas.Bool.{true≢false}
use Rattle.law_transcript.proofs.Computing.{computing}
use Rattle.proof_audit.proofs.payloads.garbled_units_ask_nothing.Goals as goal

pub returns : goal.returns
unfolding computing
returns c = λ keeps. true≢false keeps.1.1.0
