-- Both pipes are cleared.
use Rattle.std.proofs.Common.{List, [], ◌∷◌, sym, subst, inl, inr}
use Rattle.zw_words.specs.declared.side.Side.TheVariants as side
use Rattle.zw_text.specs.declared.entry.Entry.{Entry}
use Rattle.outside_model.specs.Events.{Clears_pipe}
use Rattle.outside_model.specs.Did.{Goes}
use Rattle.zw_base.proofs.Results.{on_err}
use Rattle.world_step.proofs.Scenes.{ok_then, err_then}
use Rattle.zw_world.specs.contracts.world.World.{the_view}
use Rattle.zw_world.proofs.Restarts.{clears_both}
use Rattle.zw_world.proofs.world.World.go_on_with.Goals as goal

pub returns-in_err-clear-clause-err : goal.returns-in_err-clear-clause-err
returns-in_err-clear-clause-err c = on_err c.from_residual.result (inl c.in_err-clear.ensures.no_entries)

pub returns-clause-ok : goal.returns-clause-ok
returns-clause-ok c =
    let w = the_view c.self.inside in
    rw (← c.self.view_is) (ok_then c.clear-2.result c.clear-2.ensures.ok
    (λ goes. clears_both (Clears_pipe side.Host) (Clears_pipe side.Chip) w.outer c.clear.new.self c.clear-2.new.self c.args.out.now.items c.clear.new.out.items c.clear-2.new.out.items c.in_ok-clear.ensures.ok goes))

pub returns-clause-err : goal.returns-clause-err
returns-clause-err c =
    let w = the_view c.self.inside in
    rw (← c.self.view_is) (err_then c.clear-2.result c.clear-2.ensures.no_entries
    (λ same. inr (c.clear.new.self, subst (λ (l : List Entry). Goes (Clears_pipe side.Host ∷ []) w.outer c.clear.new.self c.args.out.now.items l) (sym same) c.in_ok-clear.ensures.ok)))
