use Rattle.std.proofs.Common.{length, ap, arith, length-append}
use Rattle.chip_functions.specs.Notice.{notice_body}
use Rattle.chip_functions.proofs.NoticeLaws.{row_of_notice}
use Rattle.test_bytes.proofs.functions.notice_again.Goals as goal

pub write_notice-requires-clause-row : goal.write_notice-requires-clause-row
write_notice-requires-clause-row c = row_of_notice c.in_ok-value.value c.in_ok-value.ensures.found.row

pub write_notice-requires-clause-fits : goal.write_notice-requires-clause-fits
write_notice-requires-clause-fits c = let all = ap length c.in_ok-value.ensures.found.text in omega (arith, all, length-append (notice_body c.in_ok-value.value) c.in_ok-value.ensures.found.tail, c.requires)
