-- Each command of a node at work has a final outcome; and the node is such that it is the one that is due.
use Rattle.std.proofs.Common.{◌≡◌, ◌≤◌, ◌&&◌, true, inl, inr, ◌++◌, length, not, nat_le, ◌∙◌}
use Rattle.std.proofs.lemmas.Bool.{and_parts, cases_Bool}
use Rattle.std.specs.List.{flat_map, list_all}
use Rattle.zw_text.specs.Transcript.{joined, lines_run}
use Rattle.law_wire.specs.law_transcript.Nodes.{is_joined}
use Rattle.law_time.specs.Requests.{are_none}
use Rattle.law_time.specs.Stretches.{commands_in, is_quiet_line, is_woken_so, knows_node, lists_security, woken_by, workers}
use Rattle.law_time.specs.Verdicts.{is_answered}
use Rattle.proof_in_time.specs.Judging.{IsJudgedOver, Locked, Openly}
use Rattle.proof_rests.specs.world_lines.Done.{events_of}
use Rattle.proof_in_time.proofs.Spoken.{whole_parts}
use Rattle.proof_ready.specs.Stretch.{first_of, moment, told_before, told_in}
use Rattle.proof_ready.proofs.Each.{all_that_has, any_that_has}
use Rattle.proof_ready.proofs.Marks.{marked_is}
use Rattle.proof_ready.proofs.Reading.{in_filter}
use Rattle.proof_ready.proofs.ends.still_nodes_are_answered.Goals as goal

pub returns : goal.returns
returns c = λ key keys devices before lines n text well works long.
    let past = told_before keys devices before in
    let told = told_in keys devices before lines in
    let now = (moment keys devices before).outside.devices in
    let began = whole_parts (first_of keys devices) before lines text.done text.whole in
    let quiet : list_all is_quiet_line (lines_run told) ≡ true =
    (and_parts (list_all is_quiet_line (lines_run told)) (nat_le (length (workers past told)) 16)
    (and_parts (list_all is_quiet_line (lines_run told) && nat_le (length (workers past told)) 16) (list_all (λ node. knows_node key now past node) (workers past told))
    (and_parts (list_all is_quiet_line (lines_run told) && nat_le (length (workers past told)) 16 && list_all (λ node. knows_node key now past node) (workers past told))
    (list_all (is_woken_so past told) (joined past ++ flat_map woken_by (lines_run told))) text.stretch.quiet).0).0).0 in
    let listed = any_that_has (workers past told) n works in
    let there : is_joined past n ≡ true = (in_filter (λ one. not (are_none (commands_in past told one))) (joined past) n listed).0 in
    let within : n ≤ 232 = (c.joined_nodes_are_there.ensures keys devices before began.0 began.1 n there).to in
    let marked = marked_is (workers past told) n within ∙ listed in
    let judged : IsJudgedOver keys devices (events_of (before ++ lines)) n =
    elim (cases_Bool (lists_security devices n)) [
      | inl sealed ↦ Locked (c.workers_are_plain.ensures.sealed key keys devices before lines text n marked sealed)
      | inr unsealed ↦ Openly (c.workers_are_plain.ensures.openly key keys devices before lines text n marked unsealed)
    ] in
    all_that_has (λ command. is_answered now past told n command) (commands_in past told n)
    (λ command has.
    c.stretches_end_as_judged.ensures n command keys devices before lines judged text.done quiet has
    (c.still_stretches_end_in_time.ensures key keys devices before lines n command text well there has long))
