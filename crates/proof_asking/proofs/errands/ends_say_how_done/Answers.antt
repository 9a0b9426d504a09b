-- Each entry says it as it may.
use Rattle.proof_asking.proofs.SaidDone.{says_how_done}
use Rattle.proof_asking.proofs.errands.ends_say_how_done.Goals as goal

pub returns : goal.returns
returns c = λ listing key told sends tells. says_how_done listing key (c.lines_ask_for_what_is_queued.ensures.stays listing) told sends tells
