-- What it writes has its reason by the tables, and the tables are what the transcript shows.
use Rattle.s0_crypto.specs.Sealing.{keys_of}
use Rattle.host_model.specs.Outs.{outs}
use Rattle.proof_air.specs.law_transcript.Lists.{Has}
use Rattle.proof_sending.proofs.Dues.{puts_due}
use Rattle.proof_sending.proofs.reasons.hosts_ask_what_is_due.Goals as goal

pub returns : goal.returns
returns c = λ heard listing key past h event shows begun carried facts may reason is.
    puts_due (Has heard) listing key past shows c.callback_ids.ensures.from_one c.callback_ids.ensures.to_max h begun carried (outs h event)
    (c.hosts_send_for_reasons.ensures.written heard (keys_of key) h event facts may reason is)
