-- The walk over what is known of the host, its keys and which nodes listen.
use Rattle.std.proofs.Common.{◌≡◌, false, true, List, [], ◌∷◌}
use Rattle.std.specs.Prelude.{Some}
use Rattle.s0_crypto.specs.declared.key_pair.Keys.{Keys}
use Rattle.zw_text.specs.declared.entry.Entry.{Entry}
use Rattle.zw_text.specs.declared.entry.Entry.TheVariants.{Said}
use Rattle.law_transcript.specs.Lists.{EachAfter}
use Rattle.proof_known.proofs.AnswerFacts.{count_is}
use Rattle.proof_known.specs.law_host.Heard.{listing_heard}
use Rattle.proof_known.specs.proof_alone.State.{HostMachine, first_alone}
use Rattle.proof_known.specs.proof_alone.Phases.{Phase, Resting}
use Rattle.proof_known.specs.proof_alone.Runs.{Run}
use Rattle.proof_known.proofs.Noting.{Rooms}
use Rattle.proof_notes.specs.Full.{MayGoOn}
use Rattle.proof_notes.proofs.Along.{notes_along}
use Rattle.proof_notes.proofs.ByEntry.{whole_may}
use Rattle.proof_notes.proofs.Walking.{KnowsNotes}
use Rattle.proof_notes.proofs.notes.hosts_note_in_full.Goals as goal

module _ (c : goal.After-laws_follow) where
  rooms : Rooms
  rooms = λ past m tie knows said told places n p.
      count_is listing_heard past m.state tie.facts (c.laws_follow.ensures.tables past m.state tie.facts) told.joined told.heard knows
      (λ node. c.tables_are_what_was_said.ensures listing_heard past m.state node tie.facts said) places n (p ∷ [])

  keeps : (keys : Keys) (here : Phase) (told : List Entry) (m : HostMachine) → Run (first_alone keys (Some [])) here told m → EachAfter (MayGoOn keys) [] told × KnowsNotes keys here told m
  keeps keys here told m run =
      notes_along keys c.hosts_know_what_was_told.ensures.walk (c.hosts_know_what_was_told.ensures.first keys) (c.hosts_listen_as_told.ensures.run keys) c.hosts_show_open_sessions.ensures.opened
      (λ past h n facts said. c.tables_are_what_was_said.ensures listing_heard past h n facts said) rooms here told m run

pub returns-clause-told : goal.returns-clause-told
returns-clause-told c = λ keys told run. record { between = (keeps c keys run.0 told run.1 run.2).0; in_the_end = λ (is : false ≡ true). absurd cc }

pub returns-clause-whole : goal.returns-clause-whole
returns-clause-whole c = λ keys told run.
    let known = keeps c keys Resting told run.0 run.1 in record { between = known.0; in_the_end = λ is. whole_may keys told (Said []) tt known.1 }
