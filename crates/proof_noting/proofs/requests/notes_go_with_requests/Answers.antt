-- By what is known along the run where it submits, and where it starts again.
use Rattle.s0_crypto.specs.Sealing.{keys_of}
use Rattle.proof_hearing.proofs.Queued.{PayloadsBring}
use Rattle.proof_hearing.specs.proof_queue.proof_attempts.proof_requests.proof_alone.Phases.{Submitting}
use Rattle.proof_noting.proofs.NewRequests.{requests_go}
use Rattle.proof_noting.proofs.StartsAgain.{starts_again}
use Rattle.proof_noting.proofs.requests.notes_go_with_requests.Goals as goal

brings : goal.After-texts_give_one_thing → PayloadsBring
brings c = let laws = c.attempts_have_what_they_give.ensures in record { starts = laws.first_payload; segments = laws.segment_payload; texts = laws.text_payload }

pub returns-clause-submits : goal.returns-clause-submits
returns-clause-submits c = λ key taken from along past told m event is sure step may known.
    requests_go c.hosts_show_open_sessions.ensures.opened key taken from past m (along Submitting past m sure) known (λ n node late. c.hosts_have_points.ensures key taken Submitting past m sure.run tt n late)
    (c.hosts_seal_once.ensures.known (keys_of key) Submitting past m sure.run).0 (brings c) event told is may.0.0 may.1 may.2 may.3

pub returns-clause-starts : goal.returns-clause-starts
returns-clause-starts c = λ key taken from along next past m state. starts_again c.texts_give_one_thing.ensures.one key taken from along next past m state
