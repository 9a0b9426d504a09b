use Rattle.zw_base.proofs.Results.{on_err}
use Rattle.include_world.proofs.DoneEvents.{nothing_at, line_of_calls, stopped_ticking}
use Rattle.include_world.proofs.world.IncludeWorld.run_line.Goals as goal

pub returns-in_err-say-clause-err : goal.returns-in_err-say-clause-err
returns-in_err-say-clause-err g c = nothing_at _ _ _ _ _ c.in_err-say.ensures.err c.in_err-say.ensures.no_outs

pub returns-in_err-ticks-clause-err : goal.returns-in_err-ticks-clause-err
returns-in_err-ticks-clause-err g c = on_err _ (stopped_ticking c.args.line.now c.drawn_by-drawn.result _ _ _ _ _ _ c.drawn_by-drawn.ensures.eight c.in_ok-say.ensures.ok c.in_ok-say.ensures.outs c.in_err-ticks.ensures.err)

pub returns-clause-ok : goal.returns-clause-ok
returns-clause-ok g c = line_of_calls c.args.line.now c.drawn_by-drawn.result c.ticks_of.result _ _ _ _ _ _ c.drawn_by-drawn.ensures.eight c.ticks_of.ensures c.in_ok-say.ensures.ok c.in_ok-say.ensures.outs c.in_ok-ticks.ensures.ok
