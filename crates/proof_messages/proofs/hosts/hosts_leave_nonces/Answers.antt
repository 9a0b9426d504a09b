-- Each clause is a lemma on events.
use Rattle.proof_messages.proofs.HostNonces.{node_leaves, aside_leaves, gives_own, spends_own, starts_own, seals_own, sends_own, accounts_kept}
use Rattle.proof_messages.proofs.hosts.hosts_leave_nonces.Goals as goal

pub returns-clause-node : goal.returns-clause-node
returns-clause-node c = node_leaves

pub returns-clause-aside : goal.returns-clause-aside
returns-clause-aside c = aside_leaves

pub returns-clause-gives : goal.returns-clause-gives
returns-clause-gives c = gives_own

pub returns-clause-spends : goal.returns-clause-spends
returns-clause-spends c = spends_own

pub returns-clause-starts : goal.returns-clause-starts
returns-clause-starts c = starts_own

pub returns-clause-seals : goal.returns-clause-seals
returns-clause-seals c = seals_own

pub returns-clause-sends : goal.returns-clause-sends
returns-clause-sends c = sends_own

pub returns-clause-keeps : goal.returns-clause-keeps
returns-clause-keeps c = accounts_kept
