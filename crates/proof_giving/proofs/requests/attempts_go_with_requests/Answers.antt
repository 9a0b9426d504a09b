-- By the request that is submitted.
use Rattle.std.proofs.Common.{arith}
use Rattle.proof_giving.proofs.Asking.{asks_goes}
use Rattle.proof_giving.proofs.requests.attempts_go_with_requests.Goals as goal

pub returns : goal.returns
returns c = λ taken past told m event n is may ground waits to so shows others showing.
    let laws = c.attempts_have_what_they_give.ensures in
    let all = ground.0.0.0.0.0.0.facts.host.nodes.places in
    asks_goes taken past told m may.3 ground.0 ground.1 waits n (omega (arith, all, to)) so shows
    (record { starts = laws.first_payload; segments = laws.segment_payload; texts = laws.text_payload }) event is may.0.0 may.1 may.2 others showing
