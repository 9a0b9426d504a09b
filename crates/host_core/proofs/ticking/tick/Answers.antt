-- A prefix of the ticks of line, request and nodes, or all of them.
use Rattle.std.proofs.Common.{[], ◌∷◌, ap, ◌∙◌}
use Rattle.zw_base.proofs.Results.{on_err}
use Rattle.host_model.specs.State.{HostParts}
use Rattle.host_model.specs.Events.{Line_ticks}
use Rattle.host_model.specs.Ticking.{first_ticks}
use Rattle.host_step_bytes.specs.Calls.{Are}
use Rattle.host_core.proofs.Loops.{line_alone, first_two, whole_tick}
use Rattle.host_step_bytes.proofs.CallLists.{stops_alone, alone_then_stops}
use Rattle.host_core.proofs.ticking.tick.Goals as goal

pub returns-in_err-tick_line-clause-err : goal.returns-in_err-tick_line-clause-err
returns-in_err-tick_line-clause-err c =
    on_err c.from_residual.result
    (stops_alone c.args.core.now.state c.tick_line.new.self.state c.args.out.now.items c.tick_line.new.out.items (ap (λ (p : HostParts). p.state) c.in_err-tick_line.ensures.err.0) c.in_err-tick_line.ensures.err.1)

pub returns-in_err-tick_request-clause-err : goal.returns-in_err-tick_request-clause-err
returns-in_err-tick_request-clause-err c =
    on_err c.from_residual-in_err-tick_request.result
    (alone_then_stops (Are (Line_ticks ∷ [])) c.args.core.now.state c.tick_line.new.self.state c.tick_request.new.self.state c.args.out.now.items c.tick_line.new.out.items c.tick_request.new.out.items
    (line_alone c.args.core.now.state c.tick_line.new.self.state c.args.out.now.items c.tick_line.new.out.items (ap (λ (p : HostParts). p.state) c.in_ok-tick_line.ensures.state) c.in_ok-tick_line.ensures.outs)
    (stops_alone c.tick_line.new.self.state c.tick_request.new.self.state c.tick_line.new.out.items c.tick_request.new.out.items (ap (λ (p : HostParts). p.state) c.in_err-tick_request.ensures.err.0) c.in_err-tick_request.ensures.err.1))

pub returns-in_err-tick_nodes-clause-err : goal.returns-in_err-tick_nodes-clause-err
returns-in_err-tick_nodes-clause-err c =
    on_err c.from_residual-in_err-tick_nodes.result
    (alone_then_stops (Are first_ticks) c.args.core.now.state c.tick_request.new.self.state c.tick_nodes.new.core.state c.args.out.now.items c.tick_request.new.out.items c.tick_nodes.new.out.items
    (first_two c.args.core.now.state c.tick_line.new.self.state c.tick_request.new.self.state c.args.out.now.items c.tick_line.new.out.items c.tick_request.new.out.items
    (ap (λ (p : HostParts). p.state) c.in_ok-tick_line.ensures.state) c.in_ok-tick_line.ensures.outs (ap (λ (p : HostParts). p.state) c.in_ok-tick_request.ensures.state) c.in_ok-tick_request.ensures.outs)
    c.in_err-tick_nodes.ensures.err)

pub returns-clause-ok : goal.returns-clause-ok
returns-clause-ok c =
    whole_tick c.args.core.now.state c.tick_line.new.self.state c.tick_request.new.self.state c.tick_nodes.new.core.state c.args.out.now.items c.tick_line.new.out.items c.tick_request.new.out.items c.tick_nodes.new.out.items
    (ap (λ (p : HostParts). p.state) c.in_ok-tick_line.ensures.state) c.in_ok-tick_line.ensures.outs (ap (λ (p : HostParts). p.state) c.in_ok-tick_request.ensures.state) c.in_ok-tick_request.ensures.outs
    c.in_ok-tick_nodes.ensures.ok

pub returns-clause-decoder : goal.returns-clause-decoder
returns-clause-decoder c =
    c.in_ok-tick_nodes.ensures.decoder ∙ ap (λ (p : HostParts). p.decoder) c.in_ok-tick_request.ensures.state ∙ ap (λ (p : HostParts). p.decoder) c.in_ok-tick_line.ensures.state
