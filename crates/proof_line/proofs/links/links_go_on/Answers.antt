-- The walk over both links, beside time; at first neither did anything.
use Rattle.proof_line.proofs.LinkWalk.{links_first, links_walk, nothing_did}
use Rattle.proof_line.proofs.links.links_go_on.Goals as goal

pub returns-clause-walk : goal.returns-clause-walk
returns-clause-walk c = let obey = c.hosts_obey_the_line.ensures in links_walk obey.each obey.units obey.opened c.time_goes_on.ensures.walk

pub returns-clause-first : goal.returns-clause-first
returns-clause-first c = λ keys records devices. (c.time_goes_on.ensures.first keys records devices, (nothing_did, links_first keys records devices (c.hosts_obey_the_line.ensures.first keys)))
