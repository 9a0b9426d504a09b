use Rattle.std.proofs.Common.{ℕ, List, [], ◌++◌, refl, ap, sym, ◌∙◌, subst, append_assoc}
use Rattle.std.proofs.lemmas.List.{append-nil}
use Rattle.serial_link.specs.State.{LinkState}
use Rattle.serial_link.specs.Calls.{Takes}
use Rattle.serial_link.specs.declared.out.LinkOut.{LinkOut}
use Rattle.zw_base.proofs.Results.{on_err}
use Rattle.serial_link.proofs.Taking.{takes-append, only_takes}
use Rattle.serial_link.proofs.link.Link.feed.Goals as goal

pub loop-rest-init : goal.loop-rest-init
loop-rest-init c = ([], refl, λ bytes new after takes. takes)

pub returns-in_err-rest-clause-err : goal.returns-in_err-rest-clause-err
returns-in_err-rest-clause-err c =
    let inv = c.loop-rest.invariant in
    on_err c.from_residual.result
    (record {
      prefix = inv.0 ++ [];
      left = c.loop-rest.left.now;
      parts = inv.1 ∙ ap (λ (t : List ℕ). t ++ c.loop-rest.left.now) (sym (append-nil inv.0));
      takes = inv.2 [] c.take_item.new.self c.take_item.new.out.items c.in_err-rest.ensures.err;
    })

pub loop-rest-preserved : goal.loop-rest-preserved
loop-rest-preserved c =
    let inv = c.loop-rest.invariant in
    let one = rw c.in-Some.is at c.in_ok-rest.ensures.takes in (
      inv.0 ++ one.0,
      inv.1 ∙ ap (λ (t : List ℕ). inv.0 ++ t) one.1 ∙ sym (append_assoc inv.0 one.0 c.in-Some.rest.now),
      λ (bytes : List ℕ) (new : LinkState) (after : List LinkOut) takes.
          subst (λ (t : List ℕ). Takes c.args.self.now t new c.args.out.now.items after) (sym (append_assoc inv.0 one.0 bytes))
          (inv.2 (one.0 ++ bytes) new after
          (takes-append c.loop-rest.self one.0 c.take_item.new.self bytes new c.loop-rest.out.items c.take_item.new.out.items after one.3 takes)),
    )

pub returns-clause-ok : goal.returns-clause-ok
returns-clause-ok c =
    let inv = c.loop-rest.invariant in
    let all = rw c.in_default.is at c.in_ok-rest.ensures.takes in
    subst (λ (t : List ℕ). Takes c.args.self.now t c.take_item.new.self c.args.out.now.items c.take_item.new.out.items) (sym inv.1)
    (inv.2 c.loop-rest.left.now c.take_item.new.self c.take_item.new.out.items all)

pub returns-clause-only : goal.returns-clause-only
returns-clause-only c = only_takes c.args.self.now c.args.piece.now c.take_item.new.self c.args.out.now.items c.take_item.new.out.items (returns-clause-ok c)
