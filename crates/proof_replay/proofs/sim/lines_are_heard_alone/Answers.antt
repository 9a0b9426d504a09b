-- What a host heard of lines is told by a run of a host alone, which leads to the same machine; and its link kept the rules over that.
use Rattle.std.proofs.Common.{◌≡◌, Bool, true, false, List, [], refl}
use Rattle.std.specs.Prelude.{Some}
use Rattle.s0_crypto.specs.declared.key_pair.Keys.{Keys}
use Rattle.device_sim.specs.State.{State}
use Rattle.zw_words.specs.declared.side.Side.TheVariants.{Host}
use Rattle.law_transcript.specs.Answers.{refusals_to}
use Rattle.law_transcript.specs.Nodes.{always, listing_of}
use Rattle.law_wire.specs.Links.{KeepsLink}
use Rattle.law_wire.specs.Serial.{ended}
use Rattle.proof_asking.specs.proof_requests.law_host.Heard.{heard_by_host}
use Rattle.world_model.specs.State.{first_machine}
use Rattle.world_lines.specs.Spoken.{Spoken, after_all, transcript_of}
use Rattle.world_lines.specs.Done.{AreDone}
use Rattle.world_lines.specs.Whole.{AreWhole}
use Rattle.proof_asking.specs.proof_requests.proof_alone.State.{first_alone}
use Rattle.proof_asking.specs.proof_requests.proof_alone.Phases.{Resting}
use Rattle.proof_replay.specs.Laws.{IsHeardAlone}
use Rattle.proof_replay.proofs.Agreeing.{agrees_same}
use Rattle.proof_replay.proofs.HeardEvents.{stand_well}
use Rattle.proof_replay.proofs.HeardLink.{links_heard}
use Rattle.proof_replay.proofs.Words.{never}
use Rattle.proof_replay.proofs.sim.lines_are_heard_alone.Goals as goal

link_heard : goal.After-lines_mark_units → (keys : Keys) (devices : List State) (lines : List Spoken) (whole : Bool) → AreDone (first_machine keys (Some []) devices) lines
    → (whole ≡ true → AreWhole (first_machine keys (Some []) devices) lines) → KeepsLink Host (ended whole (heard_by_host (transcript_of (first_machine keys (Some []) devices) lines)))
link_heard c keys devices lines whole are all =
    let past = transcript_of (first_machine keys (Some []) devices) lines in
    let answers = (c.lines_are_answered.ensures.part keys devices lines are).between in
    let marks = c.lines_mark_units.ensures keys (Some []) devices lines false are (λ is. absurd (never is)) in
    let well = stand_well (always (listing_of devices)) (refusals_to devices) [] false [] past refl (λ changed marked. absurd marked) answers marks in
    links_heard whole past well (c.lines_clear_the_line.ensures.obeyed keys devices lines whole are all)

by_whole : goal.After-lines_mark_units → (keys : Keys) (devices : List State) (lines : List Spoken) (whole : Bool) → AreDone (first_machine keys (Some []) devices) lines
    → (whole ≡ true → AreWhole (first_machine keys (Some []) devices) lines)
    → IsHeardAlone keys whole (heard_by_host (transcript_of (first_machine keys (Some []) devices) lines)) (after_all (first_machine keys (Some []) devices) lines).records
by_whole c keys devices lines true are all =
    let start = first_alone keys (Some []) in
    let past = transcript_of (first_machine keys (Some []) devices) lines in
    let (m, run, same, over) = c.lines_are_a_hosts.ensures.rests keys devices lines are (all refl) in
    record {
      here = Resting;
      last = m;
      run = c.what_is_heard_is_a_hosts.ensures.carefully start Resting past m run;
      rests = λ is. (refl, over);
      agrees = λ is. agrees_same (after_all (first_machine keys (Some []) devices) lines).records m.records same;
      for_host = c.hosts_answer_lines.ensures.heard keys past (c.lines_are_a_hosts.ensures.told keys devices lines are);
      link = link_heard c keys devices lines true are all;
    }
by_whole c keys devices lines false are all =
    let start = first_alone keys (Some []) in
    let past = transcript_of (first_machine keys (Some []) devices) lines in
    let (here, last, run, careful) = c.lines_are_a_hosts.ensures.carefully keys devices lines are in
    record {
      here = here;
      last = last;
      run = c.what_is_heard_is_a_hosts.ensures.carefully start here past last (run, careful);
      rests = λ is. absurd (never is);
      agrees = λ is. absurd (never is);
      for_host = c.hosts_answer_lines.ensures.heard keys past (c.lines_are_a_hosts.ensures.told keys devices lines are);
      link = link_heard c keys devices lines false are all;
    }

pub returns : goal.returns
returns c = by_whole c
