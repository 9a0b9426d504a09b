-- Entry by entry.
use Rattle.zw_text.proofs.Views.{folded-append}
use Rattle.zw_text.proofs.laws.folded_grows.Goals as goal

pub returns : goal.returns
returns g c step start before added = folded-append step start before added
