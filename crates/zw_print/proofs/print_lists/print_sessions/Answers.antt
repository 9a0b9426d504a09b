-- The words of the entry, joined.
use Rattle.zw_print.proofs.Joined.{join-sessions}
use Rattle.zw_print.proofs.print_lists.print_sessions.Goals as goal

pub returns : goal.returns
returns c = cc (join-sessions c.args.node c.args.sessions.now, c.in_ok-write_sessions.ensures)
