use Rattle.std.proofs.Common.{sym, ◌∙◌}
use Rattle.chip_functions.proofs.FieldLaws.{ok_is}
use Rattle.chip_functions.proofs.NoticeLaws.{notice_only}
use Rattle.chip_functions.proofs.laws.one_notice.Goals as goal

pub returns : goal.returns
returns c = λ func body v w p q. ok_is v w (sym (notice_only func body v p) ∙ notice_only func body w q)
