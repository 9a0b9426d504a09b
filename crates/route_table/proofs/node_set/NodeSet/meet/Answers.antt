use Rattle.std.proofs.Common.{◌≤◌, bit_and, inl, inr, refl, length, arith}
use Rattle.std.proofs.lemmas.Bool.{cases_lt}
use Rattle.route_table.proofs.Masks.{is_set-and, no_word}
use Rattle.route_table.proofs.node_set.NodeSet.meet.Goals as goal

pub returns : goal.returns
returns c =
    is_set-and _ _ _ (λ k.
    elim (cases_lt k c.loop-i.i) [
      | inl before ↦ c.loop-i.invariant.done k before
      | inr after ↦
          let mine : length c.args.self.now.words ≤ k = omega arith in
          let its : length c.args.other.now.words ≤ k = omega arith in
          rw (c.loop-i.invariant.left k after) (no_word bit_and refl _ _ k mine its)
    ])
