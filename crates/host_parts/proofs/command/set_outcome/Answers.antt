use Rattle.std.proofs.Common.{arith, sym, ◌∙◌, subst, ◌≤◌, ◌≡◌, ◌-◌, length, slice_set}
use Rattle.host_model.specs.State.{Command, with_outcome}
use Rattle.host_parts.proofs.Outcomes.{set_past, set_one, with_number}
use Rattle.host_parts.proofs.command.set_outcome.Goals as goal

pub returns-then-at-len : goal.returns-then-at-len
returns-then-at-len c =
    let from : 1 ≤ c.args.number = omega arith in
    subst (λ (x : Command). slice_set c.args.commands.now.items (c.args.number - 1) x ≡ with_outcome c.args.commands.now.items c.args.number c.args.outcome) (sym c.set_outcome.ensures)
    (set_one c.args.commands.now.items (c.args.number - 1) c.args.outcome c.index_mut.result.now (omega arith) c.index_mut.ensures.value ∙ sym (with_number c.args.commands.now.items c.args.number c.args.outcome from))

pub returns-else-at-len : goal.returns-else-at-len
returns-else-at-len c =
    let from : 1 ≤ c.args.number = omega arith in
    let past : length c.args.commands.now.items ≤ c.args.number - 1 = omega arith in
    sym (with_number c.args.commands.now.items c.args.number c.args.outcome from ∙ set_past c.args.commands.now.items (c.args.number - 1) c.args.outcome past)
