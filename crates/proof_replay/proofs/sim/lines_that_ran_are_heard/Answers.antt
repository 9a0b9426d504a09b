-- By the run that tells what was heard.
use Rattle.std.proofs.Common.{[]}
use Rattle.std.specs.Prelude.{Some}
use Rattle.proof_asking.specs.proof_requests.law_host.Heard.{heard_by_host}
use Rattle.world_model.specs.State.{first_machine}
use Rattle.world_lines.specs.Spoken.{after_all, transcript_of}
use Rattle.proof_replay.proofs.sim.lines_that_ran_are_heard.Goals as goal

pub returns : goal.returns
returns c = λ keys devices lines whole are all.
    c.hosts_keep_laws.ensures keys whole (heard_by_host (transcript_of (first_machine keys (Some []) devices) lines)) (after_all (first_machine keys (Some []) devices) lines).records
    (c.lines_are_heard_alone.ensures keys devices lines whole are all)
