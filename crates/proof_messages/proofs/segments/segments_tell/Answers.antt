-- Each clause is a lemma on a segment that is heard.
use Rattle.proof_messages.proofs.SegmentParts.{is_part}
use Rattle.proof_messages.proofs.DeviceSegments.{next_segment, part_taken, other_segment, segment_again, other_says, segment_elsewhere, part_no_get}
use Rattle.proof_messages.proofs.DeviceSlices.{keeps_slices, slice_taken}
use Rattle.proof_messages.proofs.DeviceReports.{complete_none, request_told}
use Rattle.proof_messages.proofs.segments.segments_tell.Goals as goal

pub returns-clause-part : goal.returns-clause-part
returns-clause-part c = is_part

pub returns-clause-next : goal.returns-clause-next
returns-clause-next c = next_segment

pub returns-clause-takes : goal.returns-clause-takes
returns-clause-takes c = part_taken

pub returns-clause-slices : goal.returns-clause-slices
returns-clause-slices c = keeps_slices

pub returns-clause-other : goal.returns-clause-other
returns-clause-other c = other_segment

pub returns-clause-elsewhere : goal.returns-clause-elsewhere
returns-clause-elsewhere c = segment_elsewhere

pub returns-clause-other_says : goal.returns-clause-other_says
returns-clause-other_says c = other_says

pub returns-clause-no_get : goal.returns-clause-no_get
returns-clause-no_get c = part_no_get

pub returns-clause-takes_slice : goal.returns-clause-takes_slice
returns-clause-takes_slice c = slice_taken

pub returns-clause-again : goal.returns-clause-again
returns-clause-again c = segment_again

pub returns-clause-asks : goal.returns-clause-asks
returns-clause-asks c = request_told

pub returns-clause-acknowledged : goal.returns-clause-acknowledged
returns-clause-acknowledged c = complete_none
