-- The first line is that of the entry that was read, and of no other; or it is no entry.
use Rattle.std.proofs.Common.{sym, ◌∙◌}
use Rattle.audit_books.proofs.Cuts.{cut-once}
use Rattle.audit_books.proofs.line.next_entry.Goals as goal

pub returns-in-Err-Bad : goal.returns-in-Err-Bad
returns-in-Err-Bad c = λ entry rest is none same.
    let cut = c.in-Some.ensures in
    let line = cut-once _ _ _ _ cut.1 none (sym cut.0 ∙ same) in
    rw c.in-Err-Bad.field-0-is at (c.in-Err-Bad.ensures.each entry is line)

pub returns-in-Ok : goal.returns-in-Ok
returns-in-Ok c =
    let cut = c.in-Some.ensures in
    let found = c.in-Ok.ensures.found in
    record {
      line = rw (← found) cut.0;
      feeds_none = rw (← found) cut.1;
      is = record { fits = c.entry_in_range.ensures; shows = c.in-Ok.ensures.shows };
      only = λ other is same. c.in-Ok.ensures.each other is (found ∙ same);
    }
