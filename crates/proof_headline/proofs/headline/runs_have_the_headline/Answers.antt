use Rattle.std.proofs.Common.{ℕ, [], inl, inr}
use Rattle.law_transcript.specs.Nodes.{listing_of}
use Rattle.world_model.specs.State.{first_machine}
use Rattle.proof_spoken.specs.proof_once.InSessions.{ChangesInSessions}
use Rattle.proof_spoken.proofs.Headline.{of_device}
use Rattle.world_lines.specs.Spoken.{after_all, transcript_of}
use Rattle.proof_headline.specs.Truly.{LinesAreTrue}
use Rattle.proof_headline.proofs.Heading.{lines_still}
use Rattle.proof_headline.proofs.Unasked.{askable_or}
use Rattle.proof_headline.proofs.headline.runs_have_the_headline.Goals as goal

pub returns-clause-one : goal.returns-clause-one
returns-clause-one c = λ keys records devices lines further node device unchanged are tells is knows tied.
    let m = first_machine keys records devices in
    let end = after_all m lines in
    let known = c.interviews_give_what_is_known.ensures.lines (listing_of devices) [] m lines are tells (c.interviews_give_what_is_known.ensures.first (listing_of devices) keys) in
    let (facts, said) = c.answers_stand_after_their_lines.ensures.lines (listing_of devices) [] m lines (c.the_machine_keeps_facts.ensures.first keys records devices) tt known are in
    let still = lines_still c.devices_go_on.ensures.all c.devices_change_in_sessions.ensures.all m further (c.devices_change_in_sessions.ensures.unchanged devices unchanged) in
    c.headlines_follow.ensures.one (transcript_of m lines) end.host.state devices node device facts tied knows (of_device ChangesInSessions node (after_all m further).outside.devices device still is)
    (c.runs_have_their_tables.ensures (listing_of devices) keys records devices lines node are tells)

pub returns-clause-whole : goal.returns-clause-whole
returns-clause-whole c = λ keys records devices lines further unchanged are true tells tied.
    let m = first_machine keys records devices in
    let end = after_all m lines in
    let all_true : (node : ℕ) → LinesAreTrue node m lines = λ node. elim (askable_or devices node) [
      | inl askable ↦ true node askable
      | inr other ↦ c.others_are_told_nothing.ensures keys records devices lines node are tells other
    ] in
    let knows = c.interviews_give_what_is_known.ensures.lines (listing_of devices) [] m lines are tells (c.interviews_give_what_is_known.ensures.first (listing_of devices) keys) in
    let (facts, said) = c.answers_stand_after_their_lines.ensures.lines (listing_of devices) [] m lines (c.the_machine_keeps_facts.ensures.first keys records devices) tt knows are in
    c.headlines_follow.ensures.whole (transcript_of m lines) end.host.state devices (after_all m further).outside.devices facts
    (c.runs_report_after_the_change.ensures.all keys records devices lines unchanged are all_true) tied
    (lines_still c.devices_go_on.ensures.all c.devices_change_in_sessions.ensures.all m further (c.devices_change_in_sessions.ensures.unchanged devices unchanged))
    (λ node. c.runs_have_their_tables.ensures (listing_of devices) keys records devices lines node are tells)
