use Rattle.std.proofs.Common.{Some, sym, ap, ◌∙◌, refl}
use Rattle.outside_calls.proofs.Giving.{gives_none, gives_no_route, none_due, head_of}
use Rattle.outside_calls.proofs.results.give_first.Goals as goal

pub returns-in_default : goal.returns-in_default
returns-in_default g c = gives_none c.args.core.now _ _ _ (none_due _ (sym c.next_due.ensures ∙ c.in_default.is)) refl

pub returns-in-NoRoute : goal.returns-in-NoRoute
returns-in-NoRoute g c =
    gives_no_route c.give_no_route.result c.args.core.now _ _ _ _ _ (head_of _ _ (sym c.next_due.ensures ∙ (c.in-Some.is ∙ ap (λ d. Some d) c.in-NoRoute.is))) c.give_no_route.ensures
