use Rattle.std.proofs.Common.{◌≡◌, ℕ, List, map, Option, Some, option_and_then, ap, ◌∙◌}
use Rattle.serde_json.specs.Find.{as_number, as_u64}
use Rattle.serde_json.specs.View.{view}
use Rattle.host_keep.specs.RecordText.{number_data}
use Rattle.host_keep.proofs.NumbersFound.{row_items, number_there, found_more, found_all, none_number, same_number}
use Rattle.host_keep.proofs.reading.numbers_in.Goals as goal

pub returns-in_default-as_u64-clause-bad : goal.returns-in_default-as_u64-clause-bad
returns-in_default-as_u64-clause-bad c = λ numbers row same.
    let rows = ap (map view) c.deref-item-items.ensures.value ∙ row_items (view c.args.value.now) (map view c.in-Some.items.now.items) numbers c.in-Some.ensures row in
    let there = number_there view c.deref-item-items.result.now numbers c.loop-item.item-index c.item-item.result rows c.loop-item-test.true in
    none_number _ (c.in_default-as_u64.ensures ∙ ap (λ v. option_and_then as_u64 (as_number (view v))) c.item-item.is ∙ there)

pub loop-item-preserved : goal.loop-item-preserved
loop-item-preserved c = λ ns rows.
    let there = number_there view c.deref-item-items.result.now ns c.loop-item.item-index c.item-item.result rows c.loop-item-test.true in
    let is = same_number _ _ (c.in-Some-as_u64.ensures ∙ ap (λ v. option_and_then as_u64 (as_number (view v))) c.item-item.is ∙ there) in
    c.in_ok-push.ensures.items
    ∙ found_more view c.deref-item-items.result.now ns c.loop-item.numbers.items c.loop-item.item-index c.in-Some-as_u64.number rows c.loop-item-test.true (c.loop-item.invariant ns rows) is

pub returns-clause-row : goal.returns-clause-row
returns-clause-row c = λ numbers row.
    let rows = ap (map view) c.deref-item-items.ensures.value ∙ row_items (view c.args.value.now) (map view c.in-Some.items.now.items) numbers c.in-Some.ensures row in
    c.loop-item.invariant numbers rows ∙ found_all view c.deref-item-items.result.now numbers c.loop-item.item-index rows c.loop-item-test.false
