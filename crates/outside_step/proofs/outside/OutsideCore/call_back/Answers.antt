use Rattle.std.proofs.Common.{rules, ◌∙◌}
use Rattle.chip_sim.specs.Events.{OwesCall}
use Rattle.outside_step.specs.contracts.outside.OutsideCore.{the_view}
use Rattle.outside_step.proofs.Doings.{called}
use Rattle.outside_step.proofs.outside.OutsideCore.call_back.Goals as goal

pub returns : goal.returns
returns c =
    let owes : OwesCall c.self.inside.chip.state = search (rules, c.owes_call.ensures) in
    called c.put_outputs.result c.args.self.now (the_view c.self.inside) _ c.args.status _ _ _ _ _ (c.self.view_is ∙ c.drop_call.ensures) owes
    c.in_ok-done.ensures.decoder c.in_ok-done.ensures.state c.new-outputs.ensures c.in_ok-done.ensures.outs c.put_outputs.ensures
