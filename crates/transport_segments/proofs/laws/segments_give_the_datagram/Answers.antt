use Rattle.transport_segments.proofs.RunLemmas.{gives_whole}
use Rattle.transport_segments.proofs.laws.segments_give_the_datagram.Goals as goal

pub returns : goal.returns
returns c = λ datagram id segments fed answers is small parts among takes. gives_whole datagram id segments fed answers is small parts among takes
