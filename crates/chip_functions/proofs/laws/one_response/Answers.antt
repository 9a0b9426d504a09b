use Rattle.std.proofs.Common.{sym, ◌∙◌}
use Rattle.chip_functions.proofs.FieldLaws.{ok_is}
use Rattle.chip_functions.proofs.ResponseLaws.{response_only}
use Rattle.chip_functions.proofs.laws.one_response.Goals as goal

pub returns : goal.returns
returns c = λ func body v w p q. ok_is v w (sym (response_only func body v p) ∙ response_only func body w q)
