-- The words of the entry, joined.
use Rattle.std.proofs.Common.{codes}
use Rattle.zw_print.proofs.Joined.{join-list}
use Rattle.zw_print.proofs.print_lists.print_neighbours.Goals as goal

pub returns : goal.returns
returns c = cc (join-list (codes "neighbours") c.args.node c.args.list.now, c.in_ok-write_list.ensures)
