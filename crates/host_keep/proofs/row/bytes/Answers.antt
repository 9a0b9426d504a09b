use Rattle.std.proofs.Common.{ℕ, ◌+◌, List, refl, sym, subst}
use Rattle.std.proofs.lemmas.Result.{err_from_is_err_and}
use Rattle.host_keep.specs.RowReading.{bytes_at}
use Rattle.host_keep.proofs.BytesSoFar.{IsSoFar, so_far_begin, so_far_one, so_far_bad, so_far_end, bad_given}
use Rattle.host_keep.proofs.row.bytes.Goals as goal

pub loop-i-init : goal.loop-i-init
loop-i-init c = subst (λ (l : List ℕ). IsSoFar c.args.at c.args.numbers.now l c.args.at) (sym c.new-bytes.ensures) (so_far_begin c.args.at c.args.numbers.now)

pub loop-i-preserved : goal.loop-i-preserved
loop-i-preserved c =
    subst (λ (l : List ℕ). IsSoFar c.args.at c.args.numbers.now l (c.loop-i.i + 1)) (sym c.in_ok-push.ensures.ok)
    (so_far_one c.args.at c.args.numbers.now c.loop-i.bytes c.loop-i.i c.in_ok-byte.byte c.loop-i-test.true (sym c.in_ok-byte.ensures) c.loop-i.invariant)

pub returns-in_err-byte : goal.returns-in_err-byte
unfolding bytes_at
returns-in_err-byte c =
    let p = err_from_is_err_and c.from_residual.result c.from_residual.ensures.1 in
    rw (p.1, p.2) (bad_given _ _ _ c.in_err-byte.ensures (λ e. so_far_bad c.args.at c.args.numbers.now c.loop-i.bytes c.loop-i.i c.loop-i-test.true e c.loop-i.invariant))

pub returns : goal.returns
unfolding bytes_at
returns c = so_far_end c.args.at c.args.numbers.now c.loop-i.bytes c.loop-i.i c.loop-i-test.false c.loop-i.invariant
