use Rattle.std.proofs.Common.{List, ap, ◌∙◌, length, refl, Bool, true, false, cond, ◌≡◌, ℕ}
use Rattle.std.specs.Prelude.{Option, Some, None}
use Rattle.serial_frame.specs.Frame.{FrameParts}
use Rattle.serial_frame.specs.declared.item.Item.{Item}
use Rattle.chip_functions.specs.declared.request.Request.{Request}
use Rattle.route_table.specs.declared.route.Route.{Route}
use Rattle.chip_sim.specs.State.{ChipState}
use Rattle.chip_sim.specs.Requests.{heard, reply_if, asked}
use Rattle.chip_sim.specs.Rules.{listed, judged_posts}
use Rattle.chip_sim.proofs.laws.rules_of_events.Goals as goal

pub returns-clause-replies : goal.returns-clause-replies
returns-clause-replies c = λ s item way f request passes asks.
    ap (λ (o : Option FrameParts). judged_posts o (heard s item)) passes ∙ ap (λ (r : Option Request). listed (reply_if (heard s item) r)) asks
