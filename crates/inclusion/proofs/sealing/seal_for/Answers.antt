use Rattle.std.proofs.Common.{Ok, sym, ap, ◌∙◌}
use Rattle.inclusion.proofs.SealingLemmas.{sent_is}
use Rattle.inclusion.proofs.sealing.seal_for.Goals as goal

pub returns-clause-sent : goal.returns-clause-sent
returns-clause-sent c =
    sent_is c.args.sealer.now c.keys.result c.args.key c.args.nonce c.args.drawn c.in-Some-2.bytes c.in-Some.seen (sym c.in_ok-seen.ensures.ok ∙ c.in-Some.is)
    c.keys.ensures (c.in_ok-bytes.ensures.sealed c.in-Some-2.bytes (ap Ok c.in-Some-2.is))
