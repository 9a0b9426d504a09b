-- The marks of the machine are those of the transcript, kind by kind.
use Rattle.std.proofs.Common.{◌≡◌, ◌+◌, ◌==◌, ◌&&◌, Bool, true, false, List, [], sym, ◌∙◌}
use Rattle.std.proofs.lemmas.Bool.{and_parts, eqb-true}
use Rattle.std.specs.Prelude.{Some}
use Rattle.zw_words.specs.declared.side.Side.TheVariants.{Host, Chip}
use Rattle.zw_text.specs.declared.entry.Entry.{Entry}
use Rattle.law_wire.specs.Marks.{MayCollide, cans, collisions, marks_of}
use Rattle.law_wire.specs.Results.{ack_marks}
use Rattle.law_wire.specs.law_transcript.Fates.{marks_left}
use Rattle.law_wire.specs.law_transcript.Lists.{EachAfter}
use Rattle.law_time.specs.Calm.{acks_from, are_used_up, collide_of, collided_at, drop_of, dropped_at, garble_of, garbled_at, no_marks}
use Rattle.proof_chip.specs.proof_line.outside_model.State.{OuterState, is_stalled}
use Rattle.proof_chip.specs.proof_line.world_model.State.{first_machine}
use Rattle.proof_chip.specs.proof_world.world_lines.Spoken.{after_all, transcript_of}
use Rattle.proof_chip.specs.proof_line.Collisions.{KnowCollisions}
use Rattle.proof_chip.specs.proof_line.Marks.{KnowMarks, MayMark, marks_at}
use Rattle.proof_chip.proofs.Lines.{lines_lead}
use Rattle.proof_devices.specs.Living.{MayAny}
use Rattle.proof_in_time.specs.proof_answered.proof_calm.Marks.{HasNoMarks}
use Rattle.proof_ready.proofs.Counted.{acks_same, none_collides}
use Rattle.proof_ready.proofs.Grounds.{KnowAcked, acked_walk}
use Rattle.proof_ready.proofs.Marked.{used_up, way_unmarked}
use Rattle.proof_ready.proofs.Stalled.{stalls_end}
use Rattle.proof_ready.proofs.unmarked.calm_machines_are_unmarked.Goals as goal

-- what a transcript without marks says, kind by kind
record AreUsedUp (past : List Entry) : Type 0 where
  drops : are_used_up drop_of dropped_at past ≡ true
  changes : are_used_up garble_of garbled_at past ≡ true
  collide : are_used_up collide_of collided_at past ≡ true
  frames : marks_left past ≡ 0
  acks : acks_from [] 0 past ≡ 0

kinds : (past : List Entry) → no_marks past ≡ true → AreUsedUp past
kinds past none =
    let d : Bool = are_used_up drop_of dropped_at past in
    let g : Bool = are_used_up garble_of garbled_at past in
    let k : Bool = are_used_up collide_of collided_at past in
    let f : Bool = marks_left past == 0 in
    let four = and_parts (d && g && k && f) (acks_from [] 0 past == 0) none in
    let three = and_parts (d && g && k) f four.0 in
    let two = and_parts (d && g) k three.0 in
    let one = and_parts d g two.0 in
    record { drops = one.0; changes = one.1; collide = two.1; frames = eqb-true (marks_left past) 0 three.1; acks = eqb-true (acks_from [] 0 past) 0 four.1 }

unmarked : (past : List Entry) (o : OuterState) → no_marks past ≡ true → EachAfter MayMark [] past → marks_of Host past ≡ marks_at o.to_chip → marks_of Chip past ≡ marks_at o.to_host
    → cans past + (o.chip.state.port.side.collisions + 0) ≡ collisions past → marks_left past ≡ o.air.losing → ack_marks past ≡ o.air.ack_losing → is_stalled o ≡ false → HasNoMarks o
unmarked past o none may up down collide losing acks moves =
    let kinds = kinds past none in
    let used = used_up past may kinds.drops kinds.changes in record {
      to_chip = way_unmarked o.to_chip (marks_of Host past) up (used.drops Host) (used.changes Host);
      to_host = way_unmarked o.to_host (marks_of Chip past) down (used.drops Chip) (used.changes Chip);
      frames = sym losing ∙ kinds.frames;
      acknowledgements = sym acks ∙ (sym (acks_same [] 0 past) ∙ kinds.acks);
      link = none_collides past o.chip.state.port.side.collisions collide kinds.collide;
      moves = moves;
    }

pub returns : goal.returns
returns c = λ keys devices lines are whole none moves.
    let m = first_machine keys (Some []) devices in
    let past = transcript_of m lines in
    let marked = lines_lead MayMark KnowMarks c.marks_go_on.ensures.walk [] m lines are whole (c.marks_go_on.ensures.first keys (Some []) devices) in
    let collided = lines_lead MayCollide KnowCollisions c.collisions_go_on.ensures.walk [] m lines are whole (c.collisions_go_on.ensures.first keys (Some []) devices) in
    let history = c.history_goes_on.ensures.first keys (Some []) devices in
    let time = c.time_goes_on.ensures.first keys (Some []) devices in
    let known =
    lines_lead MayAny (KnowAcked devices)
    (acked_walk devices c.history_goes_on.ensures.walk c.time_goes_on.ensures.walk (c.networks_go_on.ensures.walk devices) (c.frames_go_on.ensures.walk devices) (c.devices_live_on.ensures.walk devices)
    (c.acks_go_on.ensures.walk devices))
    [] m lines are whole (
      (((history, time), c.devices_live_on.ensures.first keys (Some []) devices), (c.networks_go_on.ensures.first keys [] devices, c.frames_go_on.ensures.first keys [] devices)),
      c.acks_go_on.ensures.first keys (Some []) devices,
    ) in
    unmarked past (after_all m lines).outside.outer none marked.0 (marked.1.0.0 Host) (marked.1.0.0 Chip) collided.1.0 known.1.0.1.1.1 known.1.1
    (stalls_end c.time_goes_on.ensures.walk keys devices time lines are whole moves)
