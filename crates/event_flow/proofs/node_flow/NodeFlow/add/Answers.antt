-- Fewer than 16 events have no session yet, so there is room for that many and one more.
use Rattle.std.proofs.Common.{◌≡◌, ◌<◌, ◌≤◌, ◌+◌, length, ap, arith, length-append, ◌∙◌}
use Rattle.supervision.specs.Host.{begun_of}
use Rattle.event_flow.specs.State.{known_count, unknown_count}
use Rattle.event_flow.specs.Inside.{state_of}
use Rattle.event_flow.proofs.Ends.{known_count-le}
use Rattle.event_flow.proofs.node_flow.NodeFlow.add.Goals as goal

pub invariant_of-self-2 : goal.invariant_of-self-2
invariant_of-self-2 c =
    let count : unknown_count (state_of c.self.inside) ≡ unknown_count c.args.self.now = ap unknown_count c.self.view_is in
    let few : unknown_count (state_of c.self.inside) < 16 = omega (arith, count, c.requires) in
    let known : known_count (state_of c.self.inside) ≤ begun_of c.self.inside.device.book = known_count-le (state_of c.self.inside) in
    let more : length c.put.new.self.items ≡ length c.self.inside.queued.items + 1 = ap length (c.put.ensures.items) ∙ length-append c.reserve.new.self.items _ ∙ ap (λ xs. length xs + 1) c.in_ok-reserve.ensures.items in
    let same : begun_of c.reserve_for.new.self.book ≡ begun_of c.self.inside.device.book = ap begun_of c.in_ok-reserve_for.ensures.book in
    record {
      begun = omega (arith, more, same, c.self.invariant.begun);
      room = omega (arith, more, same, few, known, c.in_ok-reserve_for.ensures.ok);
      counted = c.self.invariant.counted;
    }
