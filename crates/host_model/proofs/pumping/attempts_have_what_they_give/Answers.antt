-- The command of the open session is found, and is sound.
use Rattle.host_model.proofs.Pumps.{due_starts, start_fits, segment_goes_on}
use Rattle.host_model.proofs.Payloads.{start_is_short, open_segment_short, text_has_bytes}
use Rattle.host_model.proofs.pumping.attempts_have_what_they_give.Goals as goal

pub returns-clause-starts : goal.returns-clause-starts
returns-clause-starts c = due_starts

pub returns-clause-fits : goal.returns-clause-fits
returns-clause-fits c = start_fits

pub returns-clause-segment : goal.returns-clause-segment
returns-clause-segment c = segment_goes_on

pub returns-clause-first_payload : goal.returns-clause-first_payload
returns-clause-first_payload c = start_is_short

pub returns-clause-segment_payload : goal.returns-clause-segment_payload
returns-clause-segment_payload c = open_segment_short

pub returns-clause-text_payload : goal.returns-clause-text_payload
returns-clause-text_payload c = text_has_bytes
