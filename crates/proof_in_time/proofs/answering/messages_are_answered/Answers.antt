-- Each clause is a lemma on a device that hears, or works.
use Rattle.device_sim.specs.Event.{Hears, device_after}
use Rattle.proof_in_time.proofs.Answered.{done_ticks_on, message_answered, still_at_work, work_ticks_on}
use Rattle.proof_in_time.proofs.answering.messages_are_answered.Goals as goal

pub returns-clause-heard : goal.returns-clause-heard
returns-clause-heard c = λ device drawn carriage order session fit end awake takes is.
    message_answered device drawn carriage order session (c.messages_open.ensures.opened carriage order session fit end) (c.messages_open.ensures.target order.end)
    (c.messages_do_what_is_asked.ensures.asked device carriage order fit.good) awake takes is

pub returns-clause-still : goal.returns-clause-still
returns-clause-still c = λ device payload drawn working. still_at_work device (device_after device (Hears payload drawn)) (c.when_changes_come.ensures.heard device payload drawn) working

pub returns-clause-works : goal.returns-clause-works
returns-clause-works c = λ device drawn can work. work_ticks_on device drawn can.answer work

pub returns-clause-rests : goal.returns-clause-rests
returns-clause-rests c = done_ticks_on
