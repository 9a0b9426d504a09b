-- By the bytes of the offset.
use Rattle.proof_giving.proofs.Segments.{segment_inner}
use Rattle.proof_giving.proofs.ends.segments_tell_what_follows.Goals as goal

pub returns : goal.returns
returns c = segment_inner
