-- By what is known along each run of a host, its keys and which nodes listen.
use Rattle.std.specs.Prelude.{List, [], ◌∷◌}
use Rattle.s0_crypto.specs.Sealing.{keys_of}
use Rattle.zw_text.specs.declared.entry.Entry.{Entry}
use Rattle.proof_choice.specs.proof_ends.proof_nonces.proof_known.Known.{KnowsTold, TieTold}
use Rattle.proof_choice.specs.proof_ends.proof_requests.proof_alone.Phases.{Asked, Phase}
use Rattle.proof_choice.specs.proof_ends.proof_requests.proof_alone.State.{HostMachine}
use Rattle.proof_choice.specs.proof_ends.proof_requests.law_host.Heard.{listing_heard}
use Rattle.proof_choice.proofs.AnswerFacts.{count_is}
use Rattle.proof_choice.proofs.Noting.{Rooms}
use Rattle.proof_choice.proofs.proof_notes_Along.{host_along}
use Rattle.proof_choice.proofs.proof_notes_Walking.{ties_so}
use Rattle.proof_choice.proofs.proof_sending_Grounds.{carried_so}
use Rattle.proof_hearing.specs.Hearing.{NotAsked}
use Rattle.proof_hearing.proofs.points.hosts_have_points.Goals as goal

module _ (c : goal.After-laws_follow) where
  rooms : Rooms
  rooms = λ past m tie knows said told places n p.
      count_is listing_heard past m.state tie.facts (c.laws_follow.ensures.tables past m.state tie.facts) told.joined told.heard knows
      (λ node. c.tables_are_what_was_said.ensures listing_heard past m.state node tie.facts said) places n (p ∷ [])

told_at : (here : Phase) (past : List Entry) (m : HostMachine) → NotAsked here → KnowsTold here past m → TieTold past m.state
told_at (Asked line) past m other known = absurd other
told_at here past m other known = known

pub returns : goal.returns
returns c = λ key taken here told m run other n late.
    let ground = host_along (keys_of key) c.hosts_know_what_was_told.ensures.walk (c.hosts_know_what_was_told.ensures.first (keys_of key)) (c.hosts_listen_as_told.ensures.run (keys_of key)) here told m run in
    let known = ground.0.0 in
    let ties =
    ties_so (keys_of key) c.hosts_show_open_sessions.ensures.opened (λ past h n facts said. c.tables_are_what_was_said.ensures listing_heard past h n facts said) (rooms c) told m known.0.0.0.0.0.0
    known.0.0.0.1 known.0.0.1 (told_at here told m other known.0.1) known.1 ground.1 in
    record {
      ties = ties;
      same_keys = ground.0.1.1;
      carried = carried_so c.laws_follow.ensures.laws c.orders_are_carried_as_said.ensures listing_heard told m.state ties.facts known.0.0.1;
      late = late;
    }
