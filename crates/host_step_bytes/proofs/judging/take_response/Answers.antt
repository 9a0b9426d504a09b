-- The request under way hears of it.
use Rattle.std.proofs.Common.{ap}
use Rattle.host_model.specs.State.{HostParts}
use Rattle.host_step_bytes.proofs.Followed.{responded_alone, unread_response}
use Rattle.host_step_bytes.proofs.judging.take_response.Goals as goal

pub returns-in_ok-responded-in-Ok-clause-ok : goal.returns-in_ok-responded-in-Ok-clause-ok
returns-in_ok-responded-in-Ok-clause-ok c =
    responded_alone c.in-Ok.response _ c.args.core.now.state c.responded.new.self.state c.args.out.now.items c.responded.new.out.items c.in-Ok.ensures.exact
    (ap (λ (p : HostParts). p.state) c.in_ok-responded-in-Ok.ensures.state) c.in_ok-responded-in-Ok.ensures.outs

pub returns-in-Err-clause-ok : goal.returns-in-Err-clause-ok
returns-in-Err-clause-ok c =
    unread_response c.unread.result c.in-Err.fault _ c.args.core.now.state c.args.out.now.items c.unread.ensures.ok c.in-Err.ensures.exact
