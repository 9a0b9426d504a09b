use Rattle.transport_segments.proofs.PartLemmas.{are_parts}
use Rattle.transport_segments.proofs.laws.segments_are_parts.Goals as goal

pub returns : goal.returns
returns c = λ datagram segment id segments is small parts among. are_parts datagram segment id segments is small parts among
