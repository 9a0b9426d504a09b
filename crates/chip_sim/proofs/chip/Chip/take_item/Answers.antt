use Rattle.std.proofs.Common.{List, ◌++◌, refl, ap, sym, ◌∙◌, subst}
use Rattle.chip_sim.specs.State.{ChipParts}
use Rattle.chip_sim.specs.Did.{Fed}
use Rattle.chip_sim.proofs.Feeding.{fed_judged}
use Rattle.chip_sim.proofs.chip.Chip.take_item.Goals as goal

pub returns-in-Ok-clause-takes : goal.returns-in-Ok-clause-takes
returns-in-Ok-clause-takes c =
    let found = rw c.in-Some.is at c.in_ok-found.ensures.feeds in
    let shorter = rw c.in-Some.is at c.in_ok-found.ensures.shorter in (
      found.0,
      found.1,
      shorter,
      subst (λ (s : ChipParts). Fed s found.0 c.judge.new.self c.args.out.now.items c.judge.new.out.items) c.self.view_is
          (fed_judged c.self.inside c.next_item.new.self c.judge.new.self found.0 c.args.out.now.items c.judge.new.out.items c.in-Some.item c.in-Ok._way found.2 found.3
          c.in_ok-found.ensures.port c.in-Ok.ensures.decoder c.in-Ok.ensures.may c.in-Ok.ensures.state c.in-Ok.ensures.outs),
    )
