-- Each is read off the tick.
use Rattle.proof_following.proofs.TickNotes.{node_goes, tick_first}
use Rattle.proof_following.proofs.Ticking.{nodes_grow, nodes_over, nodes_rest}
use Rattle.proof_following.proofs.following.ticks_go_by_nodes.Goals as goal

pub returns-clause-first : goal.returns-clause-first
returns-clause-first c = λ heeds past rest notes e course is fits none late well due. tick_first heeds past e rest notes course is fits none late well due

pub returns-clause-node : goal.returns-clause-node
returns-clause-node c = λ heeds past told now n front back mid none gone. node_goes heeds past now front back n mid told none gone

pub returns-clause-grows : goal.returns-clause-grows
returns-clause-grows c = λ heeds past now nodes mid. let more = nodes_grow heeds past now nodes mid in (more.0, more.1, nodes_rest heeds past now nodes mid, nodes_over heeds past now nodes mid)
