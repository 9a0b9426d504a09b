use Rattle.std.proofs.Common.{◌≤◌, inl, inr, length, arith}
use Rattle.std.proofs.lemmas.List.{get_or_past}
use Rattle.std.proofs.lemmas.Bool.{cases_lt}
use Rattle.route_table.proofs.Masks.{is_set-zeros, first_bit}
use Rattle.route_table.proofs.node_set.NodeSet.first.Goals as goal

pub returns-then-word-ne0 : goal.returns-then-word-ne0
returns-then-word-ne0 c =
    let it = first_bit c.args.self.now.words c.loop-i.i c.loop-i.invariant (omega arith) (omega arith) in record { held = it.0; lowest = it.1 }

pub returns : goal.returns
returns c = is_set-zeros _ (λ k. elim (cases_lt k c.loop-i.i) [
  | inl before ↦ c.loop-i.invariant k before
  | inr after ↦ let past : length c.args.self.now.words ≤ k = omega arith in get_or_past _ _ _ past
])
