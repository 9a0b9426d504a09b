use Rattle.std.proofs.Common.{◌≤◌, bit_or, inl, inr, refl, length, arith}
use Rattle.std.proofs.lemmas.Bool.{cases_lt}
use Rattle.route_table.proofs.Masks.{is_set-or, no_word}
use Rattle.route_table.proofs.node_set.NodeSet.join.Goals as goal

pub returns : goal.returns
returns c =
    is_set-or _ _ _ (λ k.
    elim (cases_lt k c.loop-i.i) [
      | inl before ↦ c.loop-i.invariant.done k before
      | inr after ↦
          let mine : length c.args.self.now.words ≤ k = omega arith in
          let its : length c.args.other.now.words ≤ k = omega arith in
          rw (c.loop-i.invariant.left k after) (no_word bit_or refl _ _ k mine its)
    ])
