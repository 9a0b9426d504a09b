-- Each run is read so far, and where it rests its last request has no notes to come.
use Rattle.std.proofs.Common.{◌≡◌, false, true}
use Rattle.std.specs.Prelude.{is_none}
use Rattle.s0_crypto.specs.declared.key_pair.Keys.{Keys}
use Rattle.proof_rests.specs.proof_requests.proof_alone.Phases.{Resting}
use Rattle.proof_rests.specs.proof_attempts.Asleep.{KnowsSleep}
use Rattle.proof_rests.specs.proof_attempts.Since.{AlongRuns}
use Rattle.proof_rests.proofs.Lasting.{along}
use Rattle.proof_ends.specs.Ends.Reads.{Starts}
use Rattle.proof_ends.proofs.Walking.{KnowsReads, read_at, reads_walk, rests_waits}
use Rattle.proof_ends.proofs.ends.hosts_note_ends.Goals as goal

module _ (c : goal.After-hosts_show_open_sessions) (keys : Keys) where
  reads_along : AlongRuns keys KnowsReads
  reads_along = along keys KnowsSleep KnowsReads (c.hosts_tell_of_sleep.ensures keys) (reads_walk c.hosts_show_open_sessions.ensures.opened c.hosts_tell_of_ends.ensures.walk) Starts

pub returns-clause-told : goal.returns-clause-told
returns-clause-told c = λ keys told run.
    let (over, reads) = read_at run.0 told run.1 (reads_along c keys run.0 told run.1 run.2) in
    record { over = over; reads = reads; in_the_end = λ (whole : false ≡ true). absurd cc }

pub returns-clause-whole : goal.returns-clause-whole
returns-clause-whole c = λ keys told m run left.
    record {
      over = is_none m.state.requests.under_way;
      reads = reads_along c keys Resting told m run;
      in_the_end = λ whole. rests_waits c.hosts_show_open_sessions.ensures.opened c.hosts_tell_of_ends.ensures.walk told m left (c.hosts_tell_of_sleep.ensures keys Resting told m run);
    }
