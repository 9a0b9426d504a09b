-- The table is what was said, and stores follow from it.
use Rattle.std.proofs.Common.{[], refl}
use Rattle.proof_transcript.specs.law_time.Moments.{Allows}
use Rattle.proof_transcript.specs.law_time.Waking.{may_wake}
use Rattle.proof_transcript.specs.law_host.Heard.{listing_heard}
use Rattle.proof_waking.proofs.Running.{over, run_keeps}
use Rattle.proof_transcript.proofs.StoredValues.{stores_confirmed}
use Rattle.proof_known.specs.Known.{KnowsNodes, KnowsOrders, KnowsSaid}
use Rattle.proof_known.proofs.Saying.{said_walk}
use Rattle.proof_known.proofs.known.hosts_keep_what_is_said.Goals as goal

pub returns-clause-walk : goal.returns-clause-walk
returns-clause-walk c =
    over KnowsNodes (Allows may_wake) (Allows may_wake) KnowsSaid c.hosts_know_what_nodes_list.ensures.walk
    (said_walk c.tables_keep_orders.ensures.host c.restarts_go_on.ensures.each)

pub returns-clause-table : goal.returns-clause-table
returns-clause-table c = λ keys here told m run node.
    let known =
    (run_keeps (Allows may_wake) KnowsOrders (returns-clause-walk c) [] run (c.hosts_know_what_nodes_list.ensures.first keys, tt)).1 in
    c.tables_are_what_was_said.ensures listing_heard told m.state node known.0.0.0.0.facts known.1

pub returns-clause-stores : goal.returns-clause-stores
returns-clause-stores c = λ keys told whole run.
    let shown = c.hosts_keep_their_tables.ensures.tables keys run.0 told run.1 run.2 in
    let stores = stores_confirmed listing_heard run.1.state told (returns-clause-table c keys run.0 told run.1 run.2) shown.0 shown.1 in
    record { asked = stores.asked; all = λ is. stores.all refl; following = stores.following }
