-- By the law of lists.
use Rattle.zw_text.proofs.Views.{quiet-append}
use Rattle.zw_text.proofs.laws.quiet_grows.Goals as goal

pub returns : goal.returns
returns c before added = quiet-append before added
