-- The message waits.
use Rattle.std.proofs.Common.{ap, ◌∙◌}
use Rattle.host_model.specs.State.{HostParts}
use Rattle.host_requests.specs.declared.task.Task.TheVariants.{Plain}
use Rattle.host_model.specs.Events.{Queues}
use Rattle.host_model.specs.After.{after}
use Rattle.host_core.proofs.Asked.{queued_alone}
use Rattle.host_core.proofs.host.Host.get.Goals as goal

pub returns-clause-ok : goal.returns-clause-ok
returns-clause-ok c =
    queued_alone c.args.self.now.state c.queue.new.self.state c.args.node c.in_ok-payload.payload _ c.in_ok-payload.ensures.text c.in_ok-payload.ensures.some c.in_ok-payload.ensures.room (ap (λ (p : HostParts). p.state) c.queue.ensures ∙ ap (λ (p : HostParts). after p.state (Queues (Plain c.args.node c.in_ok-payload.payload))) c.self.view_is)
