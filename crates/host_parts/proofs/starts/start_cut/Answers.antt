use Rattle.std.proofs.Common.{◌≡◌, ◌≤◌, ◌%◌, List, ℕ, length, Option, Some, refl, sym, ap, ◌∙◌, subst}
use Rattle.std.specs.Prelude.{slice_get, IsSome}
use Rattle.host_parts.proofs.Answered.{some_there}
use Rattle.host_parts.proofs.Cut.{first_found, part_is_short, first_is}
use Rattle.host_parts.proofs.starts.start_cut.Goals as goal

pub unwrap-requires : goal.unwrap-requires
unwrap-requires c =
    let segments : List (List ℕ) = c.in_ok-segments.segments.items in
    let found : slice_get segments 0 ≡ Some c.index-as_slice-0.result = first_found c.args.message.now c.args.session c.as_slice.result.now segments c.index-as_slice-0.result c.as_slice.ensures c.in_ok-segments.ensures c.requires.0 c.index-as_slice-0.is in
    let short = part_is_short c.args.message.now (c.args.session % 16) segments 0 c.index-as_slice-0.result c.in_ok-segments.ensures found in
    let fits : length c.as_slice-2.result.now ≤ 46 = subst (λ (s : List ℕ). length s ≤ 46) (sym c.as_slice-2.ensures) short.1 in
    subst (λ (o : Option (List ℕ)). IsSome o) (sym (some_there c.of.result (length c.as_slice-2.result.now ≤ 46) c.as_slice-2.result.now c.of.ensures fits)) refl

pub returns-clause-payload : goal.returns-clause-payload
returns-clause-payload c =
    let segments : List (List ℕ) = c.in_ok-segments.segments.items in
    let found : slice_get segments 0 ≡ Some c.index-as_slice-0.result = first_found c.args.message.now c.args.session c.as_slice.result.now segments c.index-as_slice-0.result c.as_slice.ensures c.in_ok-segments.ensures c.requires.0 c.index-as_slice-0.is in
    let short = part_is_short c.args.message.now (c.args.session % 16) segments 0 c.index-as_slice-0.result c.in_ok-segments.ensures found in
    let fits : length c.as_slice-2.result.now ≤ 46 = subst (λ (s : List ℕ). length s ≤ 46) (sym c.as_slice-2.ensures) short.1 in
    first_is c.args.message.now c.args.session segments c.index-as_slice-0.result c.unwrap.result c.in_ok-segments.ensures c.requires.0 found
    (sym c.unwrap.ensures ∙ some_there c.of.result (length c.as_slice-2.result.now ≤ 46) c.as_slice-2.result.now c.of.ensures fits ∙ ap (λ (s : List ℕ). Some s) c.as_slice-2.ensures)
