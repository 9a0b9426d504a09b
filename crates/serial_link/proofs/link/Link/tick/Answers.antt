use Rattle.std.proofs.Common.{List, [], ◌∷◌, ap, subst}
use Rattle.serial_frame.specs.Stream.{mark, GoesOn}
use Rattle.serial_frame.specs.declared.item.Item.{Item}
use Rattle.serial_link.specs.State.{LinkState}
use Rattle.serial_link.specs.Rules.{KeepsRules}
use Rattle.serial_link.specs.Calls.{tick_steps, aborted_at}
use Rattle.serial_link.proofs.RulesKept.{keeps_ticked, aborted_same}
use Rattle.serial_link.proofs.link.Link.tick.Goals as goal

pub returns-clause-rules : goal.returns-clause-rules
returns-clause-rules c =
    let old : LinkState = record { decoder = c.self.inside.decoder; side = record { turn = c.self.inside.turn; collisions = c.self.inside.collisions } } in
    let new : LinkState = record { decoder = c.tick.new.self; side = record { turn = c.tick-2.new.turn; collisions = c.self.inside.collisions } } in
    let same = aborted_same c.tick.result c.self.inside.decoder c.tick.ensures.aborts.0 c.tick.ensures.aborts.1 in
    subst (λ (l : LinkState). KeepsRules l (mark ∷ []) (tick_steps l.side (aborted_at l.decoder)) new) c.self.view_is
    (keeps_ticked old new
    (subst (λ (t : List Item). GoesOn old.decoder (mark ∷ []) new.decoder t) same c.tick.ensures.stream)
    (ap (λ t. record { turn = t; collisions = c.self.inside.collisions }) c.tick-2.ensures.turn))
