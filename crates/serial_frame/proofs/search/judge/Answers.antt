use Rattle.std.proofs.Common.{◌++◌, ◌∙◌, arith}
use Rattle.serial_frame.proofs.Sums.{bad_kind}
use Rattle.serial_frame.proofs.search.judge.Goals as goal

pub returns-in_default : goal.returns-in_default
returns-in_default c =
    bad_kind (c.args.counted.now ++ c.args.last.now) _ _ c.requires.counted c.byte_at.ensures (omega arith) (c.if-got-want.false ∙ c.requires.sum)
