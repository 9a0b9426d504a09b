use Rattle.std.proofs.Common.{◌≡◌, ◌+◌, ◌-◌, ◌++◌, ◌∷◌, length, take, refl, ap, sym, ◌∙◌, arith, length-append, length-take-le}
use Rattle.std.specs.Prelude.{bit_xor}
use Rattle.serial_frame.specs.Frame.{xor_all}
use Rattle.serial_frame.proofs.Sums.{sum_in_parts}
use Rattle.serial_frame.proofs.search.find_end.Goals as goal

pub returns-then-piece-missing : goal.returns-then-piece-missing
returns-then-piece-missing c =
    let len = length-append c.args.counted.now c.args.piece.now in (
      (refl, c.requires.long, omega arith),
      sum_in_parts 255 _ _ (c.args.size ∷ c.args.counted.now) c.args.piece.now c.requires.sum c.xor_all.ensures,
      omega arith,
    )

pub judge-requires-clause-sum : goal.judge-requires-clause-sum
judge-requires-clause-sum c =
    let last = take (c.args.size - length c.args.counted.now - 1) c.args.piece.now in
    let got = length-append c.args.counted.now last in
    let len : length last ≡ c.args.size - length c.args.counted.now - 1 = length-take-le _ c.args.piece.now (omega arith) in
    let size : length (c.args.counted.now ++ last) + 1 ≡ c.args.size = omega arith in
    sum_in_parts 255 _ _ (c.args.size ∷ c.args.counted.now) last c.requires.sum c.xor_all-2.ensures ∙ ap (λ n. xor_all (bit_xor 255 n) (c.args.counted.now ++ last)) (sym size)
