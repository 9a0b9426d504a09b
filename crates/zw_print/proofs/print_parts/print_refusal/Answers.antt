-- The words of each refusal.
use Rattle.zw_print.proofs.print_parts.print_refusal.Goals as goal

pub returns-in-AlreadyJoined : goal.returns-in-AlreadyJoined
returns-in-AlreadyJoined c = rw c.in-AlreadyJoined.is c.print_word-in-AlreadyJoined.ensures

pub returns-in-KeeperFault : goal.returns-in-KeeperFault
returns-in-KeeperFault c = rw c.in-KeeperFault.is c.print_word-in-KeeperFault.ensures

pub returns-in-NotWaiting : goal.returns-in-NotWaiting
returns-in-NotWaiting c = rw c.in-NotWaiting.is (rw c.from-in-NotWaiting.ensures at c.print_count-in-NotWaiting.ensures)
