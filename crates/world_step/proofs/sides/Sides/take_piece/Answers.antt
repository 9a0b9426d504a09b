-- A piece is taken and fed to the host.
use Rattle.world_step.proofs.Scenes.{ok_then}
use Rattle.world_step.proofs.Bytes.{piece_takes}
use Rattle.world_step.proofs.sides.Sides.take_piece.Goals as goal

pub returns-clause-ok : goal.returns-clause-ok
returns-clause-ok g c = ok_then c.feed.result c.feed.ensures.ok
    (λ fed.
    piece_takes c.args.self.now.host c.feed.new.self c.args.self.now.outer c.take_into-piece.new.outer c.take_into-piece.result.now c.args.outs.now.items c.feed.new.out.items
    (g.P.Keeper.shelf c.args.keeper.now) (g.P.Keeper.shelf c.feed.new.keeper)
    c.take_into-piece.ensures.some c.take_into-piece.ensures.within c.take_into-piece.ensures.read c.take_into-piece.ensures.goes fed)
