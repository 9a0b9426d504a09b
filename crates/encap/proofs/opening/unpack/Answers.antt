use Rattle.encap.proofs.ExactLemmas.{opened_only, opened_all}
use Rattle.encap.proofs.OpenedLemmas.{opens_exactly}
use Rattle.encap.proofs.opening.unpack.Goals as goal

pub returns-clause-only : goal.returns-clause-only
returns-clause-only c = λ plan commands related.
    opened_only c.take_apart.result c.args.bytes.now c.take_apart.ensures.wraps c.take_apart.ensures.seen plan commands related

pub returns-clause-always : goal.returns-clause-always
returns-clause-always c = λ plan commands related.
    opened_all c.take_apart.result c.args.bytes.now c.take_apart.ensures.fault plan commands related

pub returns-clause-exact : goal.returns-clause-exact
returns-clause-exact c =
    opens_exactly c.take_apart.result c.args.bytes.now c.take_apart.ensures.wraps
    (λ plan commands related. opened_only c.take_apart.result c.args.bytes.now c.take_apart.ensures.wraps c.take_apart.ensures.seen plan commands related)
    (λ plan commands related. opened_all c.take_apart.result c.args.bytes.now c.take_apart.ensures.fault plan commands related)
