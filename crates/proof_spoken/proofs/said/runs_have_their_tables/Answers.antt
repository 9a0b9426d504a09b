use Rattle.std.proofs.Common.{[]}
use Rattle.proof_once.specs.law_transcript.Nodes.{always}
use Rattle.proof_once.specs.world_model.State.{first_machine}
use Rattle.proof_world.specs.world_lines.Spoken.{after_all, transcript_of}
use Rattle.proof_spoken.proofs.said.runs_have_their_tables.Goals as goal

pub returns : goal.returns
returns c = λ listing keys records devices lines node are tells.
    let m = first_machine keys records devices in
    let knows = c.interviews_give_what_is_known.ensures.lines listing [] m lines are tells (c.interviews_give_what_is_known.ensures.first listing keys) in
    let (facts, said) = c.answers_stand_after_their_lines.ensures.lines listing [] m lines (c.the_machine_keeps_facts.ensures.first keys records devices) tt knows are in
    c.tables_are_what_was_said.ensures (always listing) (transcript_of m lines) (after_all m lines).host.state node facts said
