-- Bytes that are taken item by item.
use Rattle.host_model.proofs.Feeding.{judged-append, fed-append, fed_prefix-append, fed_none, fed_item, fed_nothing}
use Rattle.host_model.proofs.lists.pieces_go_on.Goals as goal

pub returns-clause-judged : goal.returns-clause-judged
returns-clause-judged c = judged-append

pub returns-clause-fed : goal.returns-clause-fed
returns-clause-fed c = λ old mid new p q before some all first mid_shelf last. fed-append old p mid q new before some all first mid_shelf last

pub returns-clause-prefix : goal.returns-clause-prefix
returns-clause-prefix c = λ old mid new p q before some all first mid_shelf last. fed_prefix-append old p mid q new before some all first mid_shelf last

pub returns-clause-nothing : goal.returns-clause-nothing
returns-clause-nothing c = fed_nothing

pub returns-clause-none : goal.returns-clause-none
returns-clause-none c = λ old new bytes. fed_none old bytes new

pub returns-clause-item : goal.returns-clause-item
returns-clause-item c = λ old new bytes. fed_item old bytes new
