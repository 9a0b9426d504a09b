-- By the run that tells what was heard, of a host with that network key.
use Rattle.std.proofs.Common.{[], subst}
use Rattle.std.specs.Prelude.{Some}
use Rattle.s0_crypto.specs.declared.key_pair.Keys.{Keys}
use Rattle.proof_asking.specs.proof_requests.law_host.Heard.{heard_by_host}
use Rattle.world_model.specs.State.{first_machine}
use Rattle.world_lines.specs.Spoken.{after_all, transcript_of}
use Rattle.proof_replay.specs.Laws.{IsHeardAlone}
use Rattle.proof_replay.proofs.sim.lines_that_ran_are_legal.Goals as goal

pub returns : goal.returns
returns c = λ keys devices lines whole are all key same.
    let heard = heard_by_host (transcript_of (first_machine keys (Some []) devices) lines) in
    let told = (after_all (first_machine keys (Some []) devices) lines).records in
    c.hosts_are_legal.ensures key whole heard told (subst (λ (k : Keys). IsHeardAlone k whole heard told) same (c.lines_are_heard_alone.ensures keys devices lines whole are all))
