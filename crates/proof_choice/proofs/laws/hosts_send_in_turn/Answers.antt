-- What goes by the queue, and what is chosen where nothing waits.
use Rattle.std.proofs.Common.{[]}
use Rattle.std.specs.Prelude.{Some}
use Rattle.law_time.specs.Moments.{Allows}
use Rattle.proof_giving.specs.proof_queue.proof_attempts.proof_requests.law_host.Heard.{heeds_alone}
use Rattle.proof_giving.specs.proof_queue.proof_attempts.proof_requests.proof_alone.State.{first_alone}
use Rattle.proof_giving.specs.proof_queue.proof_attempts.proof_requests.proof_alone.Runs.{both_know}
use Rattle.proof_giving.specs.proof_queue.proof_attempts.Waking.{KnowsWork}
use Rattle.proof_giving.proofs.Queued.{PayloadsBring}
use Rattle.proof_choice.specs.Choosing.{may_choose}
use Rattle.proof_choice.specs.Turning.{ChoosingGround, KnowsAll}
use Rattle.proof_choice.specs.Waits.{AskingGround}
use Rattle.proof_choice.proofs.Along.{both_along, every_along, law_along, so_along}
use Rattle.proof_choice.proofs.Choosing.{choosing_walk}
use Rattle.proof_choice.proofs.InTurn.{all_send}
use Rattle.proof_choice.proofs.laws.hosts_send_in_turn.Goals as goal

brings : goal.After-attempts_grow_by_entries → PayloadsBring
brings c = let laws = c.attempts_have_what_they_give.ensures in record { starts = laws.first_payload; segments = laws.segment_payload; texts = laws.text_payload }

pub returns : goal.returns
returns c = λ keys taken here told m run careful sure as_told.
    let start = first_alone keys (Some []) in
    let heeds = heeds_alone taken in
    let laws = c.attempts_grow_by_entries.ensures in
    let known = c.hosts_know_what_they_choose.ensures keys taken here told m run careful sure as_told in
    let ground = both_along start KnowsWork (both_know (AskingGround heeds) (KnowsAll heeds)) run (every_along start KnowsWork (c.hosts_know_their_work.ensures keys) run) known in
    all_send laws.requests taken [] told (c.hosts_queue_as_told.ensures.goes keys taken here told m run careful sure)
    (law_along start (ChoosingGround heeds) (Allows (may_choose heeds)) (choosing_walk laws.node laws.each laws.requests taken (brings c)) run
    (so_along start (both_know KnowsWork (both_know (AskingGround heeds) (KnowsAll heeds))) (ChoosingGround heeds) (λ here told m all. ((all.0, all.1.0), all.1.1)) run ground))
