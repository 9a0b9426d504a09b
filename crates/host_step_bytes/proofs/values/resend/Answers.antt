-- The segment is sent again.
use Rattle.std.proofs.Common.{ℕ, ◌/◌, ap, sym, ◌∙◌, arith}
use Rattle.std.specs.Prelude.{Option}
use Rattle.host_node.specs.State.{NodeState}
use Rattle.supervision.specs.Host.{open_session}
use Rattle.host_model.specs.Sessions.{open_segment}
use Rattle.host_model.specs.State.{HostParts, node_of}
use Rattle.host_step_bytes.proofs.OneValue.{resent_alone}
use Rattle.host_step_bytes.proofs.values.resend.Goals as goal

pub resend-requires : goal.resend-requires
resend-requires c = (
  c.args.offset / 39,
  ap (λ (o : Option ℕ). open_segment c.args.core.now.state (node_of c.args.core.now.state c.args.node) o (c.args.offset / 39)) (ap (λ (s : NodeState). open_session s.book) (sym c.node.ensures.value) ∙ sym c.current.ensures ∙ c.in-Some.is) ∙ sym c.in_ok-payload.ensures ∙ c.in-Some-2.is,
)

pub returns-clause-ok : goal.returns-clause-ok
returns-clause-ok c =
    resent_alone c.args.core.now.state c.resend.new.self.state c.args.node c.in-Some.session c.args.id c.args.offset c.in-Some-2.payload c.args.out.now.items c.resend.new.out.items (ap (λ (s : NodeState). open_session s.book) (sym c.node.ensures.value) ∙ sym c.current.ensures ∙ c.in-Some.is) (omega arith) (omega arith)
    (sym c.in_ok-payload.ensures ∙ c.in-Some-2.is) (ap (λ (p : HostParts). p.state) c.in_ok-resend.ensures.state) c.in_ok-resend.ensures.outs
