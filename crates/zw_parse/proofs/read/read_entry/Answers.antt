-- What the text is taken for is the one entry that has it, and then it is printed as the text, and shows a line if it shows one.
use Rattle.std.proofs.Common.{◌≡◌, not, ap, ◌∙◌, sym, subst, true≢false}
use Rattle.std.proofs.lemmas.Slice.Eq.{bytes_eq-Decides}
use Rattle.zw_parse.specs.Said.{ShowsLine}
use Rattle.zw_parse.proofs.EntryLaws.{read-again, read-printed}
use Rattle.zw_parse.proofs.read.read_entry.Goals as goal

pub returns-then-ne-clause-each : goal.returns-then-ne-clause-each
returns-then-ne-clause-each c = λ entry is same.
    let printed : c.in-Ok-print_entry.printed ≡ c.args.text.now = read-printed c.args.text.now c.in-Ok-print_entry.printed c.in-Ok.entry entry c.in-Ok.ensures c.in-Ok-print_entry.ensures is.fits same in
    let equal : c.as_slice.result.now ≡ c.args.text.now = c.as_slice.ensures ∙ printed in
    true≢false (sym c.if-ne.true ∙ c.ne.ensures ∙ ap not ((bytes_eq-Decides c.as_slice.result.now c.args.text.now).1 equal))

pub returns-then-shows-clause-each : goal.returns-then-shows-clause-each
returns-then-shows-clause-each c = λ entry is same. read-again c.args.text.now c.in-Ok.entry entry c.in-Ok.ensures is.fits same

pub returns-else-shows-clause-each : goal.returns-else-shows-clause-each
returns-else-shows-clause-each c = λ entry is same.
    let found : c.in-Ok.entry ≡ entry = read-again c.args.text.now c.in-Ok.entry entry c.in-Ok.ensures is.fits same in
    true≢false (sym (c.in-Ok-shows_line.ensures.1 (subst ShowsLine (sym found) is.shows)) ∙ c.if-shows.false)
