-- The walk over the notes of payloads, and over which nodes count as awake.
use Rattle.std.proofs.Common.{[], ◌∷◌}
use Rattle.proof_attempts.specs.proof_host.Laws.{MayStand}
use Rattle.proof_known.proofs.AnswerFacts.{count_is}
use Rattle.proof_attempts.specs.Since.{KnowsSince}
use Rattle.proof_attempts.specs.Waking.{CountsAwake}
use Rattle.proof_attempts.proofs.Lasting.{law_along}
use Rattle.proof_known.specs.law_host.Heard.{listing_heard}
use Rattle.proof_known.specs.proof_alone.Runs.{both_know}
use Rattle.proof_known.specs.proof_alone.Tables.{KnowsTables}
use Rattle.proof_known.proofs.Noting.{Nothing, Rooms}
use Rattle.proof_known.proofs.Running.{run_keeps}
use Rattle.proof_notes.specs.Unkept.{MayLack}
use Rattle.proof_notes.proofs.Along.{host_along, notes_along}
use Rattle.proof_notes.proofs.Lacking.{KnowsAll, lack_walk}
use Rattle.proof_notes.proofs.Walking.{ShowsTables}
use Rattle.proof_notes.proofs.unkept.hosts_say_what_is_not_kept.Goals as goal

module _ (c : goal.After-laws_follow) where
  rooms : Rooms
  rooms = λ past m tie knows said told places n p.
      count_is listing_heard past m.state tie.facts (c.laws_follow.ensures.tables past m.state tie.facts) told.joined told.heard knows
      (λ node. c.tables_are_what_was_said.ensures listing_heard past m.state node tie.facts said) places n (p ∷ [])

  said : ShowsTables
  said = λ past h n facts these. c.tables_are_what_was_said.ensures listing_heard past h n facts these

pub returns : goal.returns
returns c = λ keys told run.
    let walk = c.hosts_know_what_was_told.ensures.walk in
    let first = c.hosts_know_what_was_told.ensures.first keys in
    let listening = c.hosts_listen_as_told.ensures.run keys in
    (law_along keys (KnowsAll keys) Nothing
    (λ here past m these. (
      (
        host_along keys walk first listening here past m these,
        (notes_along keys walk first listening c.hosts_show_open_sessions.ensures.opened (said c) (rooms c) here past m these).1,
      ),
      (run_keeps MayStand (both_know KnowsTables (KnowsSince CountsAwake)) c.hosts_count_awake.ensures.walk [] these (c.hosts_count_awake.ensures.first keys)).1.1,
    ))
    (MayLack keys) (lack_walk keys c.hosts_show_open_sessions.ensures.told c.hosts_show_open_sessions.ensures.opened (said c) (rooms c)) tt run.0 told run.1 run.2).0
