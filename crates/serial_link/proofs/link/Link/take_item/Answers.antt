use Rattle.std.proofs.Common.{List, ◌++◌, refl, ap, ◌∙◌, subst}
use Rattle.serial_frame.specs.Stream.{Rest, IsRest}
use Rattle.serial_link.specs.State.{LinkState, hear_outs}
use Rattle.serial_link.specs.Calls.{Takes}
use Rattle.serial_link.specs.declared.out.LinkOut.{LinkOut}
use Rattle.zw_base.proofs.Results.{on_err}
use Rattle.serial_link.proofs.Taking.{takes_nothing, takes_none, takes_item}
use Rattle.serial_link.proofs.link.Link.take_item.Goals as goal

pub returns-in_err-reserve-clause-err : goal.returns-in_err-reserve-clause-err
returns-in_err-reserve-clause-err c =
    on_err c.from_residual.result
    (takes_nothing c.args.self.now c.args.self.now c.args.out.now.items c.reserve.new.self.items
    (subst (λ (l : LinkState). IsRest l.decoder) c.self.view_is c.self.invariant.decoder) refl c.in_err-reserve.ensures.items)

pub returns-in_err-found-clause-err : goal.returns-in_err-found-clause-err
returns-in_err-found-clause-err c =
    on_err c.from_residual-in_err-found.result
    (takes_nothing c.args.self.now _ c.args.out.now.items c.reserve.new.self.items
    (subst (λ (l : LinkState). IsRest l.decoder) c.self.view_is c.self.invariant.decoder)
    (ap (λ (d : Rest). record { decoder = d; side = record { turn = c.self.inside.turn; collisions = c.self.inside.collisions } }) c.in_err-found.ensures.err ∙ c.self.view_is)
    c.in_ok-reserve.ensures.items)

pub returns-in_default-clause-takes : goal.returns-in_default-clause-takes
returns-in_default-clause-takes c =
    let found = rw c.in_default.is at c.in_ok-found.ensures.feeds in
    let old : LinkState = record { decoder = c.self.inside.decoder; side = record { turn = c.self.inside.turn; collisions = c.self.inside.collisions } } in
    let new : LinkState = record { decoder = c.next_item.new.self; side = record { turn = c.self.inside.turn; collisions = c.self.inside.collisions } } in
    subst (λ (l : LinkState). Takes l c.args.piece.now new c.args.out.now.items c.reserve.new.self.items) c.self.view_is
    (takes_none old c.args.piece.now new c.args.out.now.items c.reserve.new.self.items found.1 found.2 refl c.in_ok-reserve.ensures.items)

pub returns-clause-takes : goal.returns-clause-takes
returns-clause-takes c =
    let found = rw c.in-Some.is at c.in_ok-found.ensures.feeds in
    let shorter = rw c.in-Some.is at c.in_ok-found.ensures.shorter in
    let old : LinkState = record { decoder = c.self.inside.decoder; side = record { turn = c.self.inside.turn; collisions = c.self.inside.collisions } } in
    let new : LinkState = record { decoder = c.next_item.new.self; side = record { turn = c.hear.new.turn; collisions = c.hear.new.collisions } } in (
      found.0,
      found.1,
      shorter,
      subst (λ (l : LinkState). Takes l found.0 new c.args.out.now.items c.hear.new.out.items) c.self.view_is
          (takes_item old found.0 new c.args.out.now.items c.hear.new.out.items c.in-Some.item found.2 found.3 c.hear.ensures.turn c.hear.ensures.collisions
          (c.hear.ensures.outs ∙ ap (λ (t : List LinkOut). t ++ hear_outs old.side c.in-Some.item) c.in_ok-reserve.ensures.items)),
    )
