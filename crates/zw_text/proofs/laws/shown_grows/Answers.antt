-- By the law of lists.
use Rattle.zw_text.proofs.Views.{shown-append}
use Rattle.zw_text.proofs.laws.shown_grows.Goals as goal

pub returns : goal.returns
returns g c view before added = shown-append view before added
