use Rattle.std.proofs.Common.{rules, ◌≤◌, ℕ, List, length, subst, OnOk}
use Rattle.outside_model.specs.State.{Does}
use Rattle.outside_model.specs.Air.{to_chip}
use Rattle.outside_step.specs.contracts.outside.OutsideCore.{the_view}
use Rattle.outside_step.proofs.Doings.{reached_ok}
use Rattle.outside_step.proofs.outside.OutsideCore.reach_chip.Goals as goal

pub returns : goal.returns
returns c =
    let low : 1 ≤ length c.bytes-bytes.result.now = search rules in
    let high : length c.bytes-bytes.result.now ≤ 46 = search rules in
    subst (λ (p : List ℕ). OnOk c.put_outputs.result (Does (to_chip c.args.self.now c.args.from p) c.put_outputs.new.self c.args.told.now.items c.put_outputs.new.told.items)) c.bytes-bytes.ensures.value
    (rw (← c.self.view_is) (reached_ok c.put_outputs.result (the_view c.self.inside) _ _ c.bytes-bytes.result.now _ _ _ _ _ low high
    c.in_ok-heard.ensures.decoder c.in_ok-heard.ensures.state c.new-outputs.ensures c.in_ok-heard.ensures.outs c.put_outputs.ensures))
