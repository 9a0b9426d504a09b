use Rattle.audit.proofs.Passes.{broken-line}
use Rattle.audit.proofs.pass.take_line.Goals as goal

pub returns-in-Some-2-clause-broken : goal.returns-in-Some-2-clause-broken
returns-in-Some-2-clause-broken c past are some =
    let next = rw c.in-Some.is at c.in_ok-entry.ensures in
    let judged = rw c.in-Some-2.is at c.in_ok-broken.ensures.judged past are next.is.fits in
    broken-line past c.args.text.now c.in-Some-2.broken c.in-Some.entry c.in-Some.rest.now (rw c.in-Some-2.is at c.in_ok-broken.ensures.no_text) next judged
