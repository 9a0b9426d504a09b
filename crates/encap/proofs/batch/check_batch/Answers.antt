use Rattle.std.proofs.Common.{◌≡◌, ℕ, ◌+◌, ◌≤◌, List, [], ◌∷◌, ◌++◌, length, ap, sym, ◌∙◌, arith, length-append}
use Rattle.std.specs.Prelude.{slice_index}
use Rattle.encap.specs.Wraps.{listed}
use Rattle.encap.proofs.BatchLemmas.{fit-push, listed-push}
use Rattle.encap.proofs.batch.check_batch.Goals as goal

pub loop-count-preserved : goal.loop-count-preserved
loop-count-preserved c =
    let kept = c.loop-count.invariant in
    let commands : List (List ℕ) = kept.0 in
    let command : List ℕ = c.in-Some.field-0-0.now in
    let split = c.in-Some.ensures.split in
    let count : length (kept.0 ++ c.in-Some.field-0-0.now ∷ []) ≡ c.loop-count._count + 1 = length-append kept.0 (c.in-Some.field-0-0.now ∷ []) ∙ ap (λ (n : ℕ). n + 1) kept.2 in
    let shorter : length c.in-Some.after.now ≤ length c.loop-count.rest.now =
    omega (arith, ap length split, length-append c.in-Some.field-0-0.now c.in-Some.after.now) in
    let within : length c.loop-count.rest.now ≤ length c.args.bytes.now = kept.4 in (
      kept.0 ++ c.in-Some.field-0-0.now ∷ [],
      fit-push kept.0 c.in-Some.field-0-0.now kept.1 c.in-Some.ensures.fits,
      count,
      kept.3 ∙ ap (λ (x : List ℕ). 143 ∷ 1 ∷ slice_index c.args.bytes.now 2 ∷ x)
          (ap (λ (x : List ℕ). listed kept.0 ++ x) split ∙ sym (listed-push kept.0 c.in-Some.field-0-0.now c.in-Some.after.now)),
      omega arith,
    )
