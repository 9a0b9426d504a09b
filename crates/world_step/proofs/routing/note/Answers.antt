-- The air learns of a session that begins, and then the entry is entered.
use Rattle.world_step.proofs.Scenes.{ok_then}
use Rattle.world_step.proofs.Routes.{noted}
use Rattle.world_step.proofs.routing.note.Goals as goal

pub returns : goal.returns
returns c = ok_then c.note.result c.note.ensures.ok
    (λ goes. noted c.args.entry c.args.outer.now c.begin.new.outer c.note.new.self c.args.told.now.items c.note.new.out.items c.begin.ensures goes)
