-- Each clause is a lemma on a lock, by what is said of locks and of what they seal.
use Rattle.class_info.specs.InfoSpelling.{form}
use Rattle.class_info.specs.declared.message.InfoMessage.TheVariants.{NonceGet}
use Rattle.device_sim.specs.Event.{Hears, device_after, device_replies}
use Rattle.proof_in_time.proofs.LockAnswers.{message_taken, nonce_offered, report_said}
use Rattle.proof_in_time.proofs.sealed.locks_are_asked.Goals as goal

pub returns-clause-asked : goal.returns-clause-asked
returns-clause-asked c = λ device drawn is.
    nonce_offered drawn device (device_after device (Hears (form NonceGet) drawn)) (device_replies device (Hears (form NonceGet) drawn)) (c.locks_hear_by_numbers.ensures.asked device drawn is)

pub returns-clause-sealed : goal.returns-clause-sealed
returns-clause-sealed c = λ past courses device session payload drawn at sealed step.
    message_taken (record {
      ended = c.devices_end_sessions.ensures.kept;
      spends = c.locks_hear_by_numbers.ensures.sealed;
      heard = c.sealed_messages_do_what_is_asked.ensures.heard;
      answered = c.sealed_messages_do_what_is_asked.ensures.answered;
      asks = c.sealed_messages_do_what_is_asked.ensures.asks;
    }) past courses device session drawn at payload sealed step

pub returns-clause-offered : goal.returns-clause-offered
returns-clause-offered c = λ past n session courses text tasks h device payload drawn at at_host facts stands offers waits eight.
    report_said (record { offer = c.locks_hear_by_numbers.ensures.offer; says = c.locks_answer_sealed_messages.ensures.says; taken = c.exchanges_go_on.ensures.offered })
    past n session courses text tasks h device payload drawn at at_host facts stands offers waits eight
