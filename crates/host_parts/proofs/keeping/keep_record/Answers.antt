-- A record more, or none.
use Rattle.host_parts.proofs.Answered.{never_fewer}
use Rattle.host_parts.proofs.keeping.keep_record.Goals as goal

pub returns-clause-never_fewer : goal.returns-clause-never_fewer
returns-clause-never_fewer g c = never_fewer c.keep.result (g.P.Keeper.number c.args.keeper.now) (g.P.Keeper.number c.keep.new.keeper) c.keep.ensures.added c.keep.ensures.not_added
