use Rattle.std.proofs.Common.{◌≡◌, ◌∙◌, Ok, Err}
use Rattle.std.proofs.lemmas.Result.{err_from_is_err_and}
use Rattle.host_keep.specs.Rows.{numbers_of}
use Rattle.host_keep.proofs.RowsBack.{numbers_long, not_bad, gives_kept, written_again, never_differ}
use Rattle.host_keep.proofs.reading.find_record.Goals as goal

pub returns-in_err-value-clause-only : goal.returns-in_err-value-clause-only
returns-in_err-value-clause-only c = λ kept t.
    let p = err_from_is_err_and c.from_residual.result c.from_residual.ensures.1 in
    rw (p.1, p.2) (not_bad _ kept (c.in_err-value.ensures.bad (numbers_of kept) t.text (numbers_long kept t.in_range)))

pub returns-in_err-numbers-clause-only : goal.returns-in_err-numbers-clause-only
returns-in_err-numbers-clause-only c = λ kept t.
    let p = err_from_is_err_and c.from_residual-in_err-numbers.result c.from_residual-in_err-numbers.ensures.1 in
    let row = c.in_ok-value.ensures.row (numbers_of kept) t.text (numbers_long kept t.in_range) in
    rw (p.1, p.2) (not_bad _ kept (c.in_err-numbers.ensures.bad (numbers_of kept) row))

pub returns-in_err-found-clause-only : goal.returns-in_err-found-clause-only
returns-in_err-found-clause-only c = λ kept t.
    let p = err_from_is_err_and c.from_residual-in_err-found.result c.from_residual-in_err-found.ensures.1 in
    let row = c.in_ok-value.ensures.row (numbers_of kept) t.text (numbers_long kept t.in_range) in
    rw (p.1, p.2) (gives_kept (Err c.in_err-found.field-0.0) kept c.as_slice.result.now t.in_range (c.as_slice.ensures.value ∙ c.in_ok-numbers.ensures.row (numbers_of kept) row) c.in_err-found.ensures)

pub returns-then-eq-clause-only : goal.returns-then-eq-clause-only
returns-then-eq-clause-only c = λ kept t.
    let row = c.in_ok-value.ensures.row (numbers_of kept) t.text (numbers_long kept t.in_range) in
    gives_kept (Ok c.in_ok-found.found) kept c.as_slice.result.now t.in_range (c.as_slice.ensures.value ∙ c.in_ok-numbers.ensures.row (numbers_of kept) row) c.in_ok-found.ensures

pub returns-clause-only : goal.returns-clause-only
returns-clause-only c = λ kept t.
    let row = c.in_ok-value.ensures.row (numbers_of kept) t.text (numbers_long kept t.in_range) in
    let same = written_again c.in_ok-found.found kept c.as_slice.result.now c.in_ok-text.text c.args.bytes.now t (c.as_slice.ensures.value ∙ c.in_ok-numbers.ensures.row (numbers_of kept) row) c.in_ok-found.ensures c.in_ok-text.ensures in
    let equal : c.as_slice-2.result.now ≡ c.args.bytes.now = c.as_slice-2.ensures ∙ same in
    absurd (never_differ c.as_slice-2.result.now c.args.bytes.now equal c.if-eq.ensures)
