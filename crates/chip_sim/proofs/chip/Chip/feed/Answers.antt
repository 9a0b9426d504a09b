use Rattle.std.proofs.Common.{ℕ, List, [], ◌++◌, refl, ap, sym, ◌∙◌, subst, append_assoc}
use Rattle.std.proofs.lemmas.List.{append-nil}
use Rattle.zw_base.proofs.Results.{on_err}
use Rattle.chip_sim.specs.State.{ChipParts}
use Rattle.chip_sim.specs.Did.{Fed}
use Rattle.chip_sim.specs.declared.out.ChipOut.{ChipOut}
use Rattle.chip_sim.proofs.Feeding.{fed-append}
use Rattle.chip_sim.proofs.chip.Chip.feed.Goals as goal

pub loop-rest-init : goal.loop-rest-init
loop-rest-init c = ([], refl, λ bytes new all fed. fed)

pub returns-in_err-rest-clause-err : goal.returns-in_err-rest-clause-err
returns-in_err-rest-clause-err c =
    let inv = c.loop-rest.invariant in
    on_err c.from_residual.result
    (record {
      prefix = inv.0 ++ [];
      left = c.loop-rest.left.now;
      parts = inv.1 ∙ ap (λ (t : List ℕ). t ++ c.loop-rest.left.now) (sym (append-nil inv.0));
      fed = inv.2 [] c.take_item.new.self c.take_item.new.out.items c.in_err-rest.ensures.err;
    })

pub loop-rest-preserved : goal.loop-rest-preserved
loop-rest-preserved c =
    let inv = c.loop-rest.invariant in
    let one = rw c.in-Some.is at c.in_ok-rest.ensures.takes in (
      inv.0 ++ one.0,
      inv.1 ∙ ap (λ (t : List ℕ). inv.0 ++ t) one.1 ∙ sym (append_assoc inv.0 one.0 c.in-Some.rest.now),
      λ (bytes : List ℕ) (new : ChipParts) (all : List ChipOut) fed.
          subst (λ (t : List ℕ). Fed c.args.self.now t new c.args.out.now.items all) (sym (append_assoc inv.0 one.0 bytes))
          (inv.2 (one.0 ++ bytes) new all
          (fed-append c.loop-rest.self one.0 c.take_item.new.self bytes new c.loop-rest.out.items c.take_item.new.out.items all one.3 fed)),
    )

pub returns-clause-ok : goal.returns-clause-ok
returns-clause-ok c =
    let inv = c.loop-rest.invariant in
    let all = rw c.in_default.is at c.in_ok-rest.ensures.takes in
    subst (λ (t : List ℕ). Fed c.args.self.now t c.take_item.new.self c.args.out.now.items c.take_item.new.out.items) (sym inv.1)
    (inv.2 c.loop-rest.left.now c.take_item.new.self c.take_item.new.out.items all)
