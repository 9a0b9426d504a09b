-- A segment is of the next session of the device, or of its last.
use Rattle.proof_in_time.proofs.PartsAnswered.{PartLaws, part_answered}
use Rattle.proof_in_time.proofs.answering.segments_are_answered.Goals as goal

laws_of : (c : goal.After-segments_tell) → PartLaws
laws_of c = record {
  heard = c.messages_are_answered.ensures.heard;
  part = c.segments_tell.ensures.part;
  takes_slice = c.segments_tell.ensures.takes_slice;
  again = c.segments_tell.ensures.again;
}

pub returns : goal.returns
returns c = λ orders commands device drawn payload session is awake kind step keeps. part_answered (laws_of c) orders commands device drawn payload session is awake kind step keeps
