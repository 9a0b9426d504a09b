use Rattle.host_keep.proofs.RowTexts.{read_as, read_is_not_none, utf8_as, not_true}
use Rattle.host_keep.proofs.reading.parse.Goals as goal

pub returns-in-Ok-clause-row : goal.returns-in-Ok-clause-row
returns-in-Ok-clause-row c = λ numbers e long. read_as c.args.bytes.now numbers _ c.in-Ok.ensures.ok.1 e long

pub returns-in-Err-2-clause-bad : goal.returns-in-Err-2-clause-bad
returns-in-Err-2-clause-bad c = λ numbers e long same.
    read_is_not_none c.args.bytes.now numbers
    (c.in-Err.ensures.err (λ memory. not_true (c.if-is_memory.ensures.1 memory)) (utf8_as c.args.bytes.now numbers e long)) e long
