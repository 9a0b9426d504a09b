use Rattle.std.proofs.Common.{sym, ◌∙◌}
use Rattle.mesh_sim.proofs.Lists.{seen_at}
use Rattle.outside_calls.proofs.Giving.{shown_none, shown_at}
use Rattle.outside_calls.proofs.outside.Outside.show.Goals as goal

pub returns-in_default-clause-ok : goal.returns-in_default-clause-ok
returns-in_default-clause-ok g c =
    rw (← c.self.view_is) (shown_none c.refuse.result c.self.inside.core _ _ _ _ c.args.node (sym c.place_in.ensures.value ∙ c.in_default.is) c.refuse.ensures.ok)

pub returns-clause-ok : goal.returns-clause-ok
returns-clause-ok g c =
    rw (← c.self.view_is) (shown_at c.enter.result c.self.inside.core _ _ _ _ c.args.node c.in-Some.place _ _ _ (sym c.place_in.ensures.value ∙ c.in-Some.is)
    (seen_at _ c.args.devices.now.items c.in-Some.place c.index.result.now c.in-Some.ensures.within c.index.ensures)
    c.new-told.ensures c.in_ok-tell_device.ensures c.enter.ensures.outer c.enter.ensures.entered)
