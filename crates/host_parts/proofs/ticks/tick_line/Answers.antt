use Rattle.std.proofs.Common.{◌≡◌, ◌++◌, true, false, sym, ap, subst, ◌∙◌}
use Rattle.serial_link.specs.State.{LinkState, tick_side, turn_ticked, copy_due}
use Rattle.serial_link.specs.declared.turn.Turn.{Turn}
use Rattle.host_requests.specs.State.{RequestsState}
use Rattle.host_model.specs.State.{HostState}
use Rattle.host_model.specs.After.{is_busy, gives_up}
use Rattle.host_model.specs.Outs.{copy_out}
use Rattle.host_parts.proofs.Ending.{given_up, line_failed, line_outs}
use Rattle.host_parts.proofs.ticks.tick_line.Goals as goal

pub returns-clause-state : goal.returns-clause-state
returns-clause-state c = λ (h : HostState).
    let k : HostState = record h { side = c.args.link.now.side; requests = c.args.requests.now; nodes = c.args.nodes.now; commands = c.args.commands.now.items } in
    let was : is_busy c.args.link.now.side.turn ≡ true = sym c.if-not-was_busy.ensures in
    let now : is_busy c.ticked.new.self.side.turn ≡ false = sym c.if-is_busy.ensures in
    let same : c.ticked.new.self.side.turn ≡ turn_ticked c.args.link.now.side.turn = ap (λ (l : LinkState). l.side.turn) c.ticked.ensures in
    let gave : gives_up c.args.link.now.side.turn (turn_ticked c.args.link.now.side.turn) ≡ true = given_up c.args.link.now.side.turn (turn_ticked c.args.link.now.side.turn) was (subst (λ (t : Turn). is_busy t ≡ false) same now) in
    ap (λ (l : LinkState). let s : HostState = record h { side = l.side; requests = c.failed-end.new.self; nodes = c.end_request.new.nodes; commands = c.end_request.new.commands.items } in s) c.ticked.ensures
    ∙ ap (λ (r : RequestsState). let s : HostState = record h { side = tick_side c.args.link.now.side; requests = r; nodes = c.end_request.new.nodes; commands = c.end_request.new.commands.items } in s) c.failed-end.ensures.state
    ∙ sym (line_failed k c.failed-end.result c.end_request.new.nodes c.end_request.new.commands.items gave c.failed-end.ensures.end c.end_request.ensures.state)

pub returns-clause-outs : goal.returns-clause-outs
returns-clause-outs c = λ (h : HostState).
    let k : HostState = record h { side = c.args.link.now.side; requests = c.args.requests.now; nodes = c.args.nodes.now; commands = c.args.commands.now.items } in
    let was : is_busy c.args.link.now.side.turn ≡ true = sym c.if-not-was_busy.ensures in
    let now : is_busy c.ticked.new.self.side.turn ≡ false = sym c.if-is_busy.ensures in
    let same : c.ticked.new.self.side.turn ≡ turn_ticked c.args.link.now.side.turn = ap (λ (l : LinkState). l.side.turn) c.ticked.ensures in
    let gave : gives_up c.args.link.now.side.turn (turn_ticked c.args.link.now.side.turn) ≡ true = given_up c.args.link.now.side.turn (turn_ticked c.args.link.now.side.turn) was (subst (λ (t : Turn). is_busy t ≡ false) same now) in
    let written : c.write_copy.new.out.items ≡ c.args.out.now.items ++ copy_out (copy_due c.args.link.now.side.turn)
    = c.write_copy.ensures.outs ∙ ap (λ xs. xs ++ copy_out c.in_ok-copy.copy) c.in_ok-reserve.ensures.items ∙ ap (λ o. c.args.out.now.items ++ copy_out o) c.in_ok-copy.ensures in
    line_outs k c.failed-end.result c.args.out.now.items c.write_copy.new.out.items c.end_request.new.out.items gave c.failed-end.ensures.end written c.end_request.ensures.outs
