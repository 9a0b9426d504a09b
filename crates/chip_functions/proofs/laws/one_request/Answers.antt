use Rattle.std.proofs.Common.{sym, ◌∙◌}
use Rattle.chip_functions.proofs.FieldLaws.{ok_is}
use Rattle.chip_functions.proofs.RequestLaws.{request_only}
use Rattle.chip_functions.proofs.laws.one_request.Goals as goal

pub returns : goal.returns
returns c = λ func body v w p q. ok_is v w (sym (request_only func body v p) ∙ request_only func body w q)
