-- An end in a tick is as the course has it.
use Rattle.proof_following.proofs.LateEnds.{ends_in_tick}
use Rattle.proof_following.proofs.following.ticks_make_notes.Goals as goal

pub returns : goal.returns
returns c = λ heeds past now g p how id course time running of late e gone. ends_in_tick heeds past now g p id course time running of how late e gone
