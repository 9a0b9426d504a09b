use Rattle.std.proofs.Common.{◌≡◌, subst, sym, [], ◌∙◌}
use Rattle.include_world.specs.World.{WorldState}
use Rattle.include_world.specs.Added.{Reached}
use Rattle.run_include.proofs.IncludeRun.{include_ran, no_world}
use Rattle.run_include.proofs.run.run_include.Goals as goal

pub returns-in_default-clause-ran : goal.returns-in_default-clause-ran
returns-in_default-clause-ran g c = no_world c.args.key _ _ c.start.ensures.sixteen c.what_is_said_is_so.ensures

pub returns-clause-ran : goal.returns-clause-ran
returns-clause-ran g c =
    include_ran c.args.key (λ T world r. c.what_is_said_is_so.ensures c.args.key T world r) _ _ _ _ _ _ _ c.run_scenario.ensures.ran (c.new-machine.ensures ∙ c.in-Ok.ensures.first)
    (subst (λ (w : WorldState). Reached c.args.key [] w) (sym c.new-machine.ensures) c.in-Ok.ensures.reached)
