use Rattle.std.proofs.Common.{◌≡◌, take}
use Rattle.zw_text.specs.Fits.{feeds}
use Rattle.audit_books.proofs.line.cut_line.Given as goal

abbrev pub invariant-loop-at : goal.invariant-loop-at
invariant-loop-at l = feeds (take l.at l.text) ≡ 0
