use Rattle.std.proofs.Common.{◌≡◌, ◌+◌, [], ◌∷◌, refl, ap, sym, subst}
use Rattle.serial_frame.specs.Stream.{Rest, GoesOn}
use Rattle.serial_link.specs.State.{LinkState}
use Rattle.serial_link.specs.Rules.{asked, KeepsRules}
use Rattle.serial_link.proofs.RulesKept.{keeps, side_asks, quiet_line}
use Rattle.serial_link.proofs.link.Link.collide.Goals as goal

-- from the fields as they were
keeps_asked : (old new : LinkState) → new.decoder ≡ old.decoder → new.side.turn ≡ old.side.turn → new.side.collisions ≡ old.side.collisions + 1
    → KeepsRules old [] (record { event = asked; outs = [] } ∷ []) new
keeps_asked old new decoder turn more =
    keeps old [] _ new (subst (λ (d : Rest). GoesOn old.decoder [] d []) (sym decoder) (quiet_line old.decoder)) refl
    (λ h obeys. side_asks h old.side new.side turn more obeys)

pub returns-clause-rules : goal.returns-clause-rules
returns-clause-rules c =
    keeps_asked c.args.self.now _
    (ap (λ (l : LinkState). l.decoder) c.self.view_is)
    (ap (λ (l : LinkState). l.side.turn) c.self.view_is)
    (ap (λ (l : LinkState). l.side.collisions + 1) c.self.view_is)
