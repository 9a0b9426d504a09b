-- No two transcripts have one text.
use Rattle.zw_parse.proofs.EntryLaws.{one-transcript}
use Rattle.zw_parse.proofs.laws.one_transcript_each.Goals as goal

pub returns : goal.returns
returns c = one-transcript
