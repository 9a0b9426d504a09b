-- Each is read off the acknowledgement.
use Rattle.proof_following.proofs.Acks.{ack_after, frame_next_is, judges_payload, judges_request}
use Rattle.proof_following.proofs.following.frames_are_judged.Goals as goal

pub returns-clause-next : goal.returns-clause-next
returns-clause-next c = λ past f rest tie. frame_next_is past f rest tie

pub returns-clause-after : goal.returns-clause-after
returns-clause-after c = λ heeds past rest frame course later fits comes none well next. ack_after heeds past frame rest course later fits comes none well next

pub returns-clause-request : goal.returns-clause-request
returns-clause-request c = λ heeds past later frame course none. judges_request heeds past frame later course none

pub returns-clause-payload : goal.returns-clause-payload
returns-clause-payload c = λ heeds past later frame carried course one none. judges_payload heeds past frame later carried course one none
