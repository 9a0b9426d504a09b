-- The course of the host's requests, where the line rests.
use Rattle.proof_calm.proofs.Sending.{rests_few, lines_follow}
use Rattle.proof_calm.proofs.calls.the_chip_sends_one.Goals as goal

pub returns-clause-rests : goal.returns-clause-rests
returns-clause-rests c = λ t log up down m follows line. rests_few t log up down m follows line

pub returns-clause-first : goal.returns-clause-first
returns-clause-first c = λ keys records devices nodes.
    record { course = _; log = _; up = _; down = _; follows = c.lines_make_requests.ensures.first keys records devices nodes }

pub returns-clause-lines : goal.returns-clause-lines
returns-clause-lines c = λ m lines are whole served asks quiet rests followed.
    let later = lines_follow c.lines_make_requests.ensures.line m lines are whole served asks followed in
    (rests_few later.course later.log later.up later.down _ later.follows (c.the_line_rests.ensures.lines m lines are whole served quiet rests), later)
