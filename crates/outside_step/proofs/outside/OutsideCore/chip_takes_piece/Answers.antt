use Rattle.std.proofs.Common.{◌≡◌, ◌<◌, false, length, sym, subst}
use Rattle.outside_model.specs.State.{OuterState, is_stalled}
use Rattle.outside_step.specs.contracts.outside.OutsideCore.{the_view}
use Rattle.outside_step.proofs.Taking.{fed_good, piece_read}
use Rattle.outside_step.proofs.outside.OutsideCore.chip_takes_piece.Goals as goal

pub put_outputs-requires : goal.put_outputs-requires
put_outputs-requires c = fed_good _ _ _ _ _ c.new-outputs.ensures c.in_ok-feed.ensures.ok

pub returns : goal.returns
returns c =
    rw (← c.self.view_is) (piece_read c.put_outputs.result (the_view c.self.inside) _ _ _ _ _ _ _ _ _
    (subst (λ (o : OuterState). is_stalled o ≡ false) (sym c.self.view_is) c.requires.moves)
    (subst (λ (o : OuterState). 0 < length o.to_chip.bytes) (sym c.self.view_is) c.requires.some)
    c.new-outputs.ensures c.most_at_once-most.ensures.some c.take_into-piece.ensures.read c.take_into-piece.ensures.way c.in_ok-feed.ensures.ok c.put_outputs.ensures)
