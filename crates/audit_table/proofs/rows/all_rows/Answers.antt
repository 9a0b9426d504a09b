use Rattle.std.proofs.Common.{◌++◌, arith, ap, refl, ◌∙◌}
use Rattle.audit_books.specs.Ending.{ending_in}
use Rattle.audit_table.specs.Knowing.{lines_of_node, values_of}
use Rattle.audit_table.proofs.Marks.{lines-same, rows-end, rows-first, rows-marked, rows-unmarked}
use Rattle.audit_table.proofs.rows.all_rows.Goals as goal
use Rattle.audit_table.proofs.rows.all_rows.Goals.{then-joined-place+in-Some+in_ok-add_node, then-joined-place+in_default, else-joined-place}

pub loop-place-init : goal.loop-place-init
loop-place-init c = record {
  rows =
      rows-first (lines_of_node c.args.heard.now (ending_in c.args.endings.now) c.args.orders.now c.args.sessions.now) c.args.joined.now c.new-rows.result.items
      c.new-rows.ensures.items;
  heard = λ node low. refl;
}

pub loop-place-preserved : goal.loop-place-preserved
loop-place-preserved c =
    let lines = lines_of_node c.args.heard.now (ending_in c.args.endings.now) c.args.orders.now c.args.sessions.now in
    let place = c.loop-place.place in
    let rows = c.loop-place.rows.items in
    elim c.if-joined-place.branch [
      | then-joined-place+in-Some+in_ok-add_node w ↦ record {
        rows =
            rows-marked lines c.args.joined.now place rows c.if-joined-place.rows.items _ c.loop-place-test.true c.loop-place.invariant.rows w.if-joined-place.true
            (ap (λ made. made.items) w.rows-is ∙ w.in_ok-add_node.ensures.rows
            ∙ ap (λ more. rows ++ more)
            (lines-same c.loop-place.heard c.args.heard.now (ending_in c.args.endings.now) c.args.orders.now c.args.sessions.now w.in-Some.node place (w.in-Some.ensures.1)
            (c.loop-place.invariant.heard place (omega arith))));
        heard = λ node low.
            ap (λ heard. values_of heard node) w.heard-is ∙ w.in_ok-add_node.ensures.rest node (λ same. omega (arith, same, low, w.in-Some.ensures.1))
            ∙ c.loop-place.invariant.heard node (omega (arith, low));
      }
      | then-joined-place+in_default w ↦ absurd (w.in_default.ensures (c.loop-place.auto.place, omega (arith, c.loop-place-test.true)))
      | else-joined-place w ↦ record {
        rows =
            rows-unmarked lines c.args.joined.now place rows c.if-joined-place.rows.items _ c.loop-place-test.true c.loop-place.invariant.rows w.if-joined-place.false
            (ap (λ made. made.items) w.rows-is);
        heard = λ node low. ap (λ heard. values_of heard node) w.heard-is ∙ c.loop-place.invariant.heard node (omega (arith, low));
      }
    ]

pub returns : goal.returns
returns c =
    rows-end (lines_of_node c.args.heard.now (ending_in c.args.endings.now) c.args.orders.now c.args.sessions.now) c.args.joined.now c.loop-place.place c.loop-place.rows.items _
    c.loop-place-test.false c.loop-place.invariant.rows
