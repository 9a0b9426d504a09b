-- What interviews tell, and what is known at first.
use Rattle.std.proofs.Common.{ℕ, List, [], Some}
use Rattle.law_transcript.specs.Nodes.{listing_of}
use Rattle.world_model.specs.State.{first_machine}
use Rattle.host_model.specs.State.{first_host}
use Rattle.proof_spoken.proofs.Classes.{classes_of}
use Rattle.proof_course_sealed.specs.Plain.{OrdersPlain}
use Rattle.proof_headline.specs.Plain.{IsOpenList}
use Rattle.proof_headline.proofs.Knowing.{all_hold}
use Rattle.proof_headline.proofs.Opening.{event_plain, first_open, listing_open}
use Rattle.proof_headline.proofs.plain_nodes.orders_go_plain.Goals as goal

pub returns : goal.returns
returns c = λ keys devices lines events node device are may found plain.
    let listing : ℕ → List ℕ = listing_of devices in
    all_hold c.a_restart_needs_the_records_alone.ensures.others listing node IsOpenList (listing_open devices node device found plain) (OrdersPlain node) (event_plain node) (first_machine keys (Some []) devices) events may
    (c.interviews_tell_what_nodes_list.ensures.tell keys devices lines events are may)
    (first_open node (classes_of (first_host keys).nodes node) (c.interviews_give_what_is_known.ensures.first listing keys node))
