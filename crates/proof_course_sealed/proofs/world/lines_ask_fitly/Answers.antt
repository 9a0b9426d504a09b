-- Each clause is a lemma, over what the host sends beside orders.
use Rattle.proof_course_sealed.proofs.UnsealedMessages.{others_leave}
use Rattle.proof_course_sealed.proofs.OtherAsks.{lines_hear, lines_fitly}
use Rattle.host_orders.specs.Errands.{send_text, get_text}
use Rattle.proof_course_sealed.proofs.world.lines_ask_fitly.Goals as goal

pub returns-clause-hears : goal.returns-clause-hears
returns-clause-hears c node lines m events are =
    lines_hear (λ classes word. (c.others_carry_no_nonce.ensures.send classes word, others_leave c.others_are_no_messages.ensures.left (send_text classes word) (c.others_are_no_messages.ensures.send classes word)))
    (λ classes end near. (c.others_carry_no_nonce.ensures.get classes end, others_leave c.others_are_no_messages.ensures.left (get_text classes end) (c.others_are_no_messages.ensures.get classes end near))) node lines m events are

pub returns-clause-fit : goal.returns-clause-fit
returns-clause-fit c node lines m events names are =
    lines_fitly (λ classes word. (c.others_carry_no_nonce.ensures.send classes word, others_leave c.others_are_no_messages.ensures.left (send_text classes word) (c.others_are_no_messages.ensures.send classes word)))
    (λ classes end near. (c.others_carry_no_nonce.ensures.get classes end, others_leave c.others_are_no_messages.ensures.left (get_text classes end) (c.others_are_no_messages.ensures.get classes end near))) node lines m events names are
