-- The next segment.
use Rattle.std.proofs.Common.{rules, ap}
use Rattle.host_model.specs.State.{HostParts}
use Rattle.host_core.proofs.Served.{segment_given}
use Rattle.host_core.proofs.pumping.give_segment.Goals as goal

pub returns-clause-ok : goal.returns-clause-ok
returns-clause-ok c =
    segment_given c.args.core.now.state c.args.node _ c.unwrap-payload.result c.give_segment.new.self.state c.args.out.now.items c.give_segment.new.out.items (search rules)
    (ap (λ (p : HostParts). p.state) c.in_ok-give_segment.ensures.state) c.in_ok-give_segment.ensures.outs
