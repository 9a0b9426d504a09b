-- Each clause is a lemma, over what the host sends beside orders.
use Rattle.proof_once.specs.proof_messages.Others.{IsOther}
use Rattle.proof_course_plain.proofs.HeardPayloads.{lines_end}
use Rattle.proof_course_plain.proofs.PlainOrders.{text_names, events_end, events_plain}
use Rattle.proof_course_plain.proofs.world.lines_ask_plainly.Goals as goal

pub returns-clause-text : goal.returns-clause-text
returns-clause-text c = text_names

pub returns-clause-ends : goal.returns-clause-ends
returns-clause-ends c node lines m events are =
    events_end ⊥ IsOther node events (lines_end ⊥ IsOther c.others_are_no_messages.ensures.send c.others_are_no_messages.ensures.get node lines (λ none. absurd none) m events are)

pub returns-clause-plain : goal.returns-clause-plain
returns-clause-plain c node lines m events names are =
    events_plain node events (lines_end (Unit {0}) IsOther c.others_are_no_messages.ensures.send c.others_are_no_messages.ensures.get node lines (λ near. names) m events are)
