use Rattle.std.proofs.Common.{◌≡◌, ◌<◌, false, length, sym, ◌∙◌, arith}
use Rattle.outside_model.specs.State.{is_stalled}
use Rattle.outside_calls.proofs.Taking.{taken_all}
use Rattle.outside_calls.proofs.outside.Outside.chip_takes.Goals as goal

pub returns-clause-ok : goal.returns-clause-ok
returns-clause-ok c =
    let flows : is_stalled c.self.inside.core ≡ false = sym c.is_stalled.ensures ∙ c.if-is_stalled.false in
    let some : 0 < length c.self.inside.core.to_chip.bytes = omega arith in
    rw (← c.self.view_is) (taken_all c.self.inside.core _ _ _ _ _ _ flows some c.new-told.ensures c.in_ok-chip_takes_all.ensures c.in_ok-enter.ensures.outer c.in_ok-enter.ensures.entered)
