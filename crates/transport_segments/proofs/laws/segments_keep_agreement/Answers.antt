use Rattle.transport_segments.proofs.AgreeLemmas.{keeps_agreement}
use Rattle.transport_segments.proofs.laws.segments_keep_agreement.Goals as goal

pub returns : goal.returns
returns c = λ datagram segment id kept next taken part agrees takes. keeps_agreement datagram segment id kept next taken part agrees takes
