-- The attempt starts.
use Rattle.std.proofs.Common.{rules, ap}
use Rattle.host_model.specs.State.{HostParts}
use Rattle.host_core.proofs.Served.{attempt_started}
use Rattle.host_core.proofs.pumping.start.Goals as goal

pub returns-clause-ok : goal.returns-clause-ok
returns-clause-ok c =
    attempt_started c.args.core.now.state c.args.node _ _ _ c.start.new.self.state c.args.out.now.items c.start.new.out.items (search rules)
    (ap (λ (p : HostParts). p.state) c.in_ok-start.ensures.state) c.in_ok-start.ensures.outs
