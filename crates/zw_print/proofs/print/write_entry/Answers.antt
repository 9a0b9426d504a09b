-- The words of an entry.
use Rattle.zw_text.specs.Entry.{entry_text}
use Rattle.zw_print.proofs.print.write_entry.Goals as goal

pub returns-in-Interviewed : goal.returns-in-Interviewed
unfolding entry_text
returns-in-Interviewed c = rw c.in-Interviewed.is (rw c.number-in-Interviewed.ensures at c.print_count-in-Interviewed.ensures)
