use Rattle.std.proofs.Common.{[], None, refl}
use Rattle.zw_base.proofs.Results.{on_err}
use Rattle.mesh_sim.proofs.StepLists.{blank, chip_again, device_again, device_again_cut, not_refused}
use Rattle.mesh_sim.proofs.air.Air.repeat.Goals as goal

pub returns-in_ok-enter_at_chip-in-Homeward-clause-ok : goal.returns-in_ok-enter_at_chip-in-Homeward-clause-ok
returns-in_ok-enter_at_chip-in-Homeward-clause-ok g c =
    (blank, None, chip_again c.args.self.now.state c.args.self.now.state _ _ c.args.frame _ _ _ _ blank None c.args.out.now.items c.enter_at_chip.new.out.items c.in_ok-heading.ensures c.in-Homeward.is refl refl c.in_ok-enter_at_chip-in-Homeward.ensures.outs)

pub returns-in_ok-repeat_outward-in-Outward-clause-ok : goal.returns-in_ok-repeat_outward-in-Outward-clause-ok
returns-in_ok-repeat_outward-in-Outward-clause-ok g c =
    let heard = c.in_ok-repeat_outward-in-Outward.ensures.ok in
    (heard.0, heard.1, device_again c.args.self.now.state c.repeat_outward.new.self.state _ _ c.args.frame _ _ _ _ heard.0 heard.1 c.args.out.now.items c.repeat_outward.new.out.items c.in_ok-heading.ensures c.in-Outward.is heard.2)

pub returns-in_err-repeat_outward-in-Outward-clause-cut : goal.returns-in_err-repeat_outward-in-Outward-clause-cut
returns-in_err-repeat_outward-in-Outward-clause-cut g c =
    on_err _ (device_again_cut c.args.self.now.state c.repeat_outward.new.self.state _ _ c.args.frame _ _ _ _ [] None c.args.out.now.items c.repeat_outward.new.out.items c.in_ok-heading.ensures c.in-Outward.is c.in_err-repeat_outward-in-Outward.ensures.cut)

pub returns-in_ok-repeat_outward-in-Outward-clause-still : goal.returns-in_ok-repeat_outward-in-Outward-clause-still
returns-in_ok-repeat_outward-in-Outward-clause-still g c = λ refusal is. not_refused _ _ _ refusal c.in_ok-heading.ensures.allowed is

pub returns-in_err-repeat_outward-in-Outward-clause-still : goal.returns-in_err-repeat_outward-in-Outward-clause-still
returns-in_err-repeat_outward-in-Outward-clause-still g c = λ refusal is. not_refused _ _ _ refusal c.in_ok-heading.ensures.allowed is
