use Rattle.std.proofs.Common.{◌≡◌, ◌≤◌, ◌%◌, List, ℕ, length, Some, sym, ap, ◌∙◌, subst}
use Rattle.std.specs.Prelude.{slice_get}
use Rattle.host_parts.proofs.Answered.{some_there}
use Rattle.host_parts.proofs.Cut.{found_at, part_is_short, segment_there}
use Rattle.host_parts.proofs.starts.segment_in.Goals as goal

pub returns-in-Some : goal.returns-in-Some
returns-in-Some c =
    let segments : List (List ℕ) = c.in_ok-segments.segments.items in
    let found : slice_get segments c.args.at ≡ Some c.in-Some.segment.now = found_at c.as_slice.result.now segments c.args.at c.in-Some.segment.now c.as_slice.ensures c.in-Some.ensures.lookup.3.0 c.in-Some.ensures.lookup.1 in
    let short = part_is_short c.args.message.now (c.args.session % 16) segments c.args.at c.in-Some.segment.now c.in_ok-segments.ensures found in
    let fits : length c.as_slice-in-Some.result.now ≤ 46 = subst (λ (s : List ℕ). length s ≤ 46) (sym c.as_slice-in-Some.ensures) short.1 in
    some_there c.of.result (length c.as_slice-in-Some.result.now ≤ 46) c.as_slice-in-Some.result.now c.of.ensures fits
    ∙ ap (λ (s : List ℕ). Some s) c.as_slice-in-Some.ensures
    ∙ segment_there c.args.message.now c.args.session c.args.at segments c.in-Some.segment.now c.in_ok-segments.ensures found
