use Rattle.std.proofs.Common.{ap, not, ◌∙◌}
use Rattle.std.specs.Prelude.{option_map}
use Rattle.std.specs.List.{flat_map}
use Rattle.audit_books.specs.Ending.{ending_in}
use Rattle.audit_table.specs.Knowing.{Closing, all_rows, ends_with, lines_of_node, nodes_marked}
use Rattle.audit_table.proofs.Marks.{ends-begin, none-mapped}
use Rattle.audit_table.proofs.closing.Closing.end.Goals as goal
use Rattle.audit_table.proofs.closing.Closing.end.Goals.{in-Some-1, in-None-1}

pub returns-in_ok-self-inside : goal.returns-in_ok-self-inside
returns-in_ok-self-inside c =
    let s = c.self.inside in
    let closing : Closing = record { joined = s.joined.items; heard = s.heard; made = s.made; rows = option_map (λ rows. rows.items) s.rows; shown = s.shown } in
    let lines = lines_of_node s.heard (ending_in c.args.endings.now) c.args.orders.now c.args.sessions.now in
    let begun =
    ends-begin closing c.in_ok-self-inside.field-0 c.in_ok-rows.rows.items (all_rows closing (ending_in c.args.endings.now) c.args.orders.now c.args.sessions.now)
    (none-mapped (λ rows. rows.items) s.rows (c.is_none.ensures ∙ ap not c.if-is_none.true)) c.in_ok-self-inside.ensures
    (c.in_ok-rows.ensures ∙ ap (λ marks. flat_map lines (nodes_marked marks)) c.as_slice-joined.ensures.value)
    ∙ ap (λ (k : Closing). ends_with k k.rows (all_rows k (ending_in c.args.endings.now) c.args.orders.now c.args.sessions.now)) c.self.view_is in
    elim c.match-self.branch [
      | in-Some-1 w ↦ w.self-is ∙ begun
      | in-None-1 w ↦ w.self-is ∙ begun
    ]
