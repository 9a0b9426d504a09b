-- Ends are as the course has them.
use Rattle.std.proofs.Common.{◌++◌, ap, sym, ◌∙◌, append_assoc}
use Rattle.zw_text.specs.declared.entry.Entry.{Entry}
use Rattle.std.specs.Prelude.{List}
use Rattle.proof_following.specs.Ended.{answer_entries, errand_entries, failed_entries, outcome_entries, sleep_entries}
use Rattle.proof_following.proofs.Ending.{ends_by_it, ends_late, entries_are}
use Rattle.proof_following.proofs.following.ends_make_notes.Goals as goal

pub returns-clause-by_frame : goal.returns-clause-by_frame
returns-clause-by_frame c = λ heeds past g id p how now course frame of ends fail gone. ends_by_it heeds past g id p how now course frame of ends fail gone

pub returns-clause-late : goal.returns-clause-late
returns-clause-late c = λ heeds past g id p how now course late of gone. ends_late heeds past g id p how now course late of gone

pub returns-clause-entries : goal.returns-clause-entries
returns-clause-entries c = λ g p how course.
    ap (λ (l : List Entry). course.due ++ l) (entries_are g p how)
    ∙ sym (append_assoc course.due ((errand_entries p how ++ (sleep_entries g p ++ answer_entries p how)) ++ failed_entries p) (outcome_entries g p how))
