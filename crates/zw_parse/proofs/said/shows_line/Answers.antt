-- The words of the entry are judged.
use Rattle.zw_parse.proofs.said.shows_line.Goals as goal

pub returns-in-Said : goal.returns-in-Said
returns-in-Said c = rw c.in-Said.is (rw c.as_slice.ensures at c.says_line.ensures)
