use Rattle.std.proofs.Common.{ℕ, List, ◌≤◌, length, subst}
use Rattle.chip_functions.proofs.RequestLaws.{row_of_request}
use Rattle.test_bytes.proofs.functions.request_again.Goals as goal

pub write_request-requires-clause-row : goal.write_request-requires-clause-row
write_request-requires-clause-row c = row_of_request c.in_ok-value.value c.in_ok-value.ensures.found.row

pub write_request-requires-clause-fits : goal.write_request-requires-clause-fits
write_request-requires-clause-fits c = subst (λ (text : List ℕ). length text ≤ 252) c.in_ok-value.ensures.found.text c.requires
