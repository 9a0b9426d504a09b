-- One walk over another.
use Rattle.proof_transcript.specs.law_time.Moments.{Allows}
use Rattle.proof_transcript.specs.law_time.Waking.{may_wake}
use Rattle.host_keep.specs.Kept.{first_kept}
use Rattle.proof_waking.specs.host_model.State.{first_host}
use Rattle.proof_transcript.proofs.PlacesKept.{HostsKeep}
use Rattle.proof_transcript.proofs.StoredPlaces.{alone_keeps}
use Rattle.proof_waking.proofs.Running.{over}
use Rattle.proof_known.specs.Known.{KnowsAll, KnowsNodes, KnowsOrders, KnowsPlaces, KnowsSaid, KnowsTold}
use Rattle.proof_known.proofs.Answering.{places_walk}
use Rattle.proof_known.proofs.Events.{beyond}
use Rattle.proof_known.proofs.Places.{has_places}
use Rattle.proof_known.proofs.Telling.{first_told, told_walk}
use Rattle.proof_known.proofs.known.hosts_know_what_was_told.Goals as goal

keep : goal.After-texts_give_one_thing → HostsKeep
keep c = record {
  facts = c.facts_are_kept.ensures.each;
  orders = c.tables_keep_orders.ensures.host;
  opened_alone = c.a_restart_keeps_what_is_held.ensures.opened;
  opened_facts = c.a_restart_keeps_what_is_held.ensures.opened_facts;
}

pub returns-clause-walk : goal.returns-clause-walk
returns-clause-walk c =
    over KnowsAll (Allows may_wake) (Allows may_wake) KnowsPlaces
    (over KnowsOrders (Allows may_wake) (Allows may_wake) KnowsTold c.hosts_keep_what_is_said.ensures.walk
    (beyond KnowsNodes KnowsSaid (Allows may_wake) (Allows may_wake) KnowsTold
    (told_walk c.a_restart_needs_the_records_alone.ensures.others c.texts_give_one_thing.ensures.one c.a_restart_keeps_what_is_held.ensures.opened c.restarts_go_on.ensures.each)))
    (places_walk (keep c))

pub returns-clause-first : goal.returns-clause-first
returns-clause-first c = λ keys.
    (((c.hosts_know_what_nodes_list.ensures.first keys, tt), first_told keys), has_places (first_host keys) (alone_keeps (first_host keys) first_kept (c.a_host_begins_with_what_is_kept.ensures keys)))
