-- What is entered at each step of the walk is allowed.
use Rattle.std.proofs.Common.{List, [], ◌∷◌, refl}
use Rattle.std.specs.Prelude.{Some}
use Rattle.s0_crypto.specs.declared.key_pair.Keys.{Keys}
use Rattle.zw_text.specs.declared.entry.Entry.{Entry}
use Rattle.proof_transcript.specs.law_transcript.Lists.{EachAfter}
use Rattle.proof_transcript.specs.law_time.Moments.{Allows}
use Rattle.proof_transcript.specs.law_time.Waking.{may_wake}
use Rattle.proof_transcript.specs.law_host.Heard.{listing_heard}
use Rattle.proof_transcript.proofs.AnswerFacts.{count_is}
use Rattle.proof_transcript.proofs.Lists.{each-weaker}
use Rattle.proof_waking.specs.proof_alone.State.{first_alone}
use Rattle.proof_waking.specs.proof_alone.Runs.{both_know, Told as HasTold}
use Rattle.proof_waking.proofs.Running.{over, run_keeps}
use Rattle.proof_known.specs.Known.{KnowsKeys, KnowsWhole}
use Rattle.proof_known.specs.Noted.{MayOpen, may_note}
use Rattle.proof_known.proofs.KeptKeys.{Anything, keys_walk}
use Rattle.proof_known.proofs.Noting.{MayStand, Nothing, Rooms, noted_walk}
use Rattle.proof_known.proofs.noted.hosts_note_what_was_told.Goals as goal

rooms : goal.After-a_restart_needs_the_records_alone → Rooms
rooms c = λ past m tie knows said told places n p.
    count_is listing_heard past m.state tie.facts (c.laws_follow.ensures.tables past m.state tie.facts) told.joined told.heard knows
    (λ node. c.tables_are_what_was_said.ensures listing_heard past m.state node tie.facts said) places n (p ∷ [])

-- both laws stand along each run
stands : goal.After-a_restart_needs_the_records_alone → (keys : Keys) (told : List Entry) → HasTold (first_alone keys (Some [])) told → EachAfter (MayStand keys) [] told
stands c keys told run =
    (run_keeps (MayStand keys) (both_know (both_know KnowsWhole (KnowsKeys keys)) Nothing)
    (over (both_know KnowsWhole (KnowsKeys keys)) Anything (MayStand keys) Nothing
    (over KnowsWhole (Allows may_wake) Anything (KnowsKeys keys) c.hosts_know_what_was_told.ensures.walk (keys_walk keys (Allows may_wake)))
    (noted_walk keys c.a_restart_needs_the_records_alone.ensures.others (rooms c) c.hosts_judge_as_told.ensures.brought Anything)) [] run.2
    ((c.hosts_know_what_was_told.ensures.first keys, (refl, refl)), tt)).0

pub returns-clause-told : goal.returns-clause-told
returns-clause-told c = λ keys told run. each-weaker (MayStand keys) (Allows may_note) (λ past e stands. stands.0) [] told (stands c keys told run)

pub returns-clause-opened : goal.returns-clause-opened
returns-clause-opened c = λ keys told run. each-weaker (MayStand keys) (MayOpen keys) (λ past e stands. stands.1) [] told (stands c keys told run)
