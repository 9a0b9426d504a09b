-- Each line is its one event.
use Rattle.std.proofs.Common.{refl}
use Rattle.std.specs.Prelude.{true, false}
use Rattle.outside_model.specs.Events.{Cuts, Stalls, Marks_loss, Marks_change, Collides_next, Loses, Loses_acks, Links}
use Rattle.world_step.proofs.Scenes.{ok_then, did_quiet}
use Rattle.zw_world.specs.contracts.world.World.{the_view}
use Rattle.zw_world.proofs.Steps.{effect_plain, no_setting}
use Rattle.zw_world.proofs.world.World.set.Goals as goal

pub returns-in-Cut : goal.returns-in-Cut
returns-in-Cut c =
    let w = the_view c.self.inside in
    record { ok = rw (← c.self.view_is) (λ ds r before f. effect_plain _ _ _ _ c.in-Cut.is (did_quiet (Cuts _) w.keys w.host w.outer c.cut.new.self ds r before f refl c.cut.ensures)) }

pub returns-in-Link : goal.returns-in-Link
returns-in-Link c =
    let w = the_view c.self.inside in
    record { ok = rw (← c.self.view_is) (λ ds r before f. effect_plain _ _ _ _ c.in-Link.is (did_quiet (Links _ _ true) w.keys w.host w.outer c.set_link.new.self ds r before f refl c.set_link.ensures)) }

pub returns-in-Unlink : goal.returns-in-Unlink
returns-in-Unlink c =
    let w = the_view c.self.inside in
    record { ok = rw (← c.self.view_is) (λ ds r before f. effect_plain _ _ _ _ c.in-Unlink.is (did_quiet (Links _ _ false) w.keys w.host w.outer c.set_link-in-Unlink.new.self ds r before f refl c.set_link-in-Unlink.ensures)) }

pub returns-in-Stall : goal.returns-in-Stall
returns-in-Stall c =
    let w = the_view c.self.inside in
    record {
      ok = rw (← c.self.view_is) (ok_then c.stall.result c.stall.ensures.ok
          (λ goes ds r before f. effect_plain _ _ _ _ c.in-Stall.is (did_quiet (Stalls _) w.keys w.host w.outer c.stall.new.self ds r before f refl goes)));
    }

pub returns-in-Drop : goal.returns-in-Drop
returns-in-Drop c =
    let w = the_view c.self.inside in
    record {
      ok = rw (← c.self.view_is) (ok_then c.mark_loss.result c.mark_loss.ensures.ok
          (λ goes ds r before f. effect_plain _ _ _ _ c.in-Drop.is (did_quiet (Marks_loss _) w.keys w.host w.outer c.mark_loss.new.self ds r before f refl goes)));
    }

pub returns-in-Garble : goal.returns-in-Garble
returns-in-Garble c =
    let w = the_view c.self.inside in
    record {
      ok = rw (← c.self.view_is) (ok_then c.mark_change.result c.mark_change.ensures.ok
          (λ goes ds r before f. effect_plain _ _ _ _ c.in-Garble.is (did_quiet (Marks_change _ _) w.keys w.host w.outer c.mark_change.new.self ds r before f refl goes)));
    }

pub returns-in-Collide : goal.returns-in-Collide
returns-in-Collide c =
    let w = the_view c.self.inside in
    record {
      ok = rw (← c.self.view_is) (ok_then c.collide.result c.collide.ensures.ok
          (λ goes ds r before f. effect_plain _ _ _ _ c.in-Collide.is (did_quiet (Collides_next) w.keys w.host w.outer c.collide.new.self ds r before f refl goes)));
    }

pub returns-in-Lose : goal.returns-in-Lose
returns-in-Lose c =
    let w = the_view c.self.inside in
    record {
      ok = rw (← c.self.view_is) (ok_then c.lose.result c.lose.ensures.ok
          (λ goes ds r before f. effect_plain _ _ _ _ c.in-Lose.is (did_quiet (Loses _) w.keys w.host w.outer c.lose.new.self ds r before f refl goes)));
    }

pub returns-in-LoseAck : goal.returns-in-LoseAck
returns-in-LoseAck c =
    let w = the_view c.self.inside in
    record {
      ok = rw (← c.self.view_is) (ok_then c.lose_ack.result c.lose_ack.ensures.ok
          (λ goes ds r before f. effect_plain _ _ _ _ c.in-LoseAck.is (did_quiet (Loses_acks _) w.keys w.host w.outer c.lose_ack.new.self ds r before f refl goes)));
    }

pub unreachable-requires : goal.unreachable-requires
unreachable-requires c = no_setting c.args.line.now c.requires c.in_default.not-Cut c.in_default.not-Stall c.in_default.not-Drop c.in_default.not-Garble c.in_default.not-Collide c.in_default.not-Lose c.in_default.not-LoseAck c.in_default.not-Link c.in_default.not-Unlink
