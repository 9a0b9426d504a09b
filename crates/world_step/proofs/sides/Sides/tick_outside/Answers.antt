-- Frames arrive, results are given, devices and chip tick.
use Rattle.std.proofs.Common.{refl, arith}
use Rattle.std.proofs.lemmas.List.{length-map}
use Rattle.world_model.specs.Did.{Nothing}
use Rattle.zw_base.proofs.Results.{on_err}
use Rattle.world_step.proofs.Scenes.{ok_then, err_then, stopped_still}
use Rattle.world_step.proofs.Turns.{delivered, given_due, devices_ticked, chip_ticked, delivered_some, given_some, ticked_some, outside_ticked, stopped_one, stopped_two, stopped_three, stopped_four}
use Rattle.world_step.proofs.sides.Sides.tick_outside.Goals as goal

pub returns-in_err-deliver-clause-err : goal.returns-in_err-deliver-clause-err
returns-in_err-deliver-clause-err g c = on_err c.from_residual.result
    (λ keys r f. stopped_one _ _ (delivered_some keys c.args.self.now.host r f c.args.self.now.outer c.deliver.new.self _ _ c.args.out.now.items c.deliver.new.out.items c.in_err-deliver.ensures.err))

pub returns-in_err-give_due-clause-err : goal.returns-in_err-give_due-clause-err
returns-in_err-give_due-clause-err g c = on_err c.from_residual-in_err-give_due.result
    (λ keys r f.
    stopped_two _ _ _ (delivered keys c.args.self.now.host r f c.args.self.now.outer c.deliver.new.self _ _ c.args.out.now.items c.deliver.new.out.items c.in_ok-deliver.ensures.ok)
    (given_some keys c.args.self.now.host r f c.deliver.new.self c.give_due.new.self _ c.deliver.new.out.items c.give_due.new.out.items c.in_err-give_due.ensures.err))

pub returns-in_err-tick_devices-clause-err : goal.returns-in_err-tick_devices-clause-err
returns-in_err-tick_devices-clause-err g c = on_err c.from_residual-in_err-tick_devices.result
    (λ keys r f.
    stopped_three _ _ _ _ (delivered keys c.args.self.now.host r f c.args.self.now.outer c.deliver.new.self _ _ c.args.out.now.items c.deliver.new.out.items c.in_ok-deliver.ensures.ok)
    (given_due keys c.args.self.now.host r f c.deliver.new.self c.give_due.new.self _ c.deliver.new.out.items c.give_due.new.out.items c.in_ok-give_due.ensures.ok)
    (ticked_some keys c.args.self.now.host r f _ c.give_due.new.self c.tick_devices.new.self _ _ c.give_due.new.out.items c.tick_devices.new.out.items (length-map _ _) c.in_err-tick_devices.ensures.err))

pub returns-clause-ok : goal.returns-clause-ok
returns-clause-ok g c = ok_then c.tick_chip.result c.tick_chip.ensures.ok
    (λ goes keys r f.
    outside_ticked _ _ _ _ _ (delivered keys c.args.self.now.host r f c.args.self.now.outer c.deliver.new.self _ _ c.args.out.now.items c.deliver.new.out.items c.in_ok-deliver.ensures.ok)
    (given_due keys c.args.self.now.host r f c.deliver.new.self c.give_due.new.self _ c.deliver.new.out.items c.give_due.new.out.items c.in_ok-give_due.ensures.ok)
    (devices_ticked keys c.args.self.now.host r f _ c.give_due.new.self c.tick_devices.new.self _ _ c.give_due.new.out.items c.tick_devices.new.out.items (length-map _ _) c.in_ok-tick_devices.ensures.ok)
    (chip_ticked keys c.args.self.now.host r f c.tick_devices.new.self c.tick_chip.new.self _ c.tick_devices.new.out.items c.tick_chip.new.out.items goes))

pub returns-clause-err : goal.returns-clause-err
returns-clause-err g c = err_then c.tick_chip.result c.tick_chip.ensures.no_entries
    (λ same keys r f.
    stopped_four _ _ _ _ _ (delivered keys c.args.self.now.host r f c.args.self.now.outer c.deliver.new.self _ _ c.args.out.now.items c.deliver.new.out.items c.in_ok-deliver.ensures.ok)
    (given_due keys c.args.self.now.host r f c.deliver.new.self c.give_due.new.self _ c.deliver.new.out.items c.give_due.new.out.items c.in_ok-give_due.ensures.ok)
    (devices_ticked keys c.args.self.now.host r f _ c.give_due.new.self c.tick_devices.new.self _ _ c.give_due.new.out.items c.tick_devices.new.out.items (length-map _ _) c.in_ok-tick_devices.ensures.ok)
    (stopped_still Nothing keys keys c.args.self.now.host c.args.self.now.host c.tick_devices.new.self c.tick_chip.new.self _ r r c.tick_devices.new.out.items c.tick_chip.new.out.items f f refl refl same (omega arith)))
