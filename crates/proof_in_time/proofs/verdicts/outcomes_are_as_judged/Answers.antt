-- From the first machine the course of the node leads to where the stretch begins, and through it; then the table says what each command asked for.
use Rattle.std.proofs.Common.{◌≡◌, ℕ, true, List, [], ◌++◌, length, Some, refl, sym, subst}
use Rattle.std.specs.List.{AllByRecursion}
use Rattle.s0_crypto.specs.declared.key_pair.Keys.{Keys}
use Rattle.device_sim.specs.State.{State}
use Rattle.zw_text.specs.declared.entry.Entry.{Entry}
use Rattle.zw_text.specs.Transcript.{outcome, sessions, session_at}
use Rattle.zw_text.proofs.Views.{shown-append}
use Rattle.law_transcript.specs.Lists.{Has}
use Rattle.law_transcript.specs.Nodes.{always, listing_of}
use Rattle.law_transcript.proofs.Having.{all_has, has_right}
use Rattle.law_time.specs.Sessions.{is_final}
use Rattle.law_time.specs.Verdicts.{is_answered}
use Rattle.host_model.specs.State.{Command}
use Rattle.world_model.specs.Events.{Event}
use Rattle.world_model.specs.State.{Machine, first_machine}
use Rattle.world_lines.specs.Spoken.{Spoken, after_all, transcript_of}
use Rattle.world_lines.specs.Done.{AreDone, events_of}
use Rattle.proof_host.specs.Facts.{Facts}
use Rattle.proof_host.specs.Laws.{numbers_for}
use Rattle.proof_course.specs.Sessions.{first_course}
use Rattle.proof_course_plain.specs.Judged.{IsNoHand}
use Rattle.proof_course_sealed.specs.Courses.{first_courses}
use Rattle.proof_course_sealed.specs.Meaning.{first_past}
use Rattle.proof_spoken.specs.Said.{AreSaid}
use Rattle.proof_spoken.specs.proof_device.GoingOn.{GoOn}
use Rattle.proof_spoken.proofs.ShownChanges.{adds_by}
use Rattle.proof_spoken.proofs.SpokenLines.{all_after, all_lines, lines_of}
use Rattle.proof_in_time.proofs.Endings.{lines_keep_facts}
use Rattle.proof_in_time.proofs.JudgedOutcomes.{answered, device_stands, same_listing, sees_final}
use Rattle.proof_in_time.proofs.FromFirst.{Laws as FirstLaws, can_of, names_of}
use Rattle.proof_in_time.proofs.JudgedCourses.{GoesOn, Laws as CourseLaws, LockLaws, at_lock, at_open, leads, lock_goes, open_goes}
use Rattle.proof_in_time.proofs.JudgedRuns.{Laws, begins_tied, lines_tie}
use Rattle.proof_in_time.proofs.JudgedSessions.{At, Tie}
use Rattle.proof_in_time.specs.Judging.{IsJudgedOver, Locked, Openly}
use Rattle.proof_in_time.proofs.Spoken.{after_both, done_first, events_both, told_both}
use Rattle.proof_in_time.proofs.verdicts.outcomes_are_as_judged.Goals as goal

laws_of : (c : goal.After-the_machine_keeps_facts) → Laws
laws_of c = record {
  go = c.devices_go_on.ensures.each;
  same = c.devices_stay_the_same.ensures.all;
  keeps = c.tables_keep_orders.ensures.each;
  facts = c.the_machine_keeps_facts.ensures.each;
  aside = c.asides_keep_facts.ensures;
  adds = adds_by c.when_changes_come.ensures.heard c.when_changes_come.ensures.ticked c.when_changes_come.ensures.woken c.when_changes_come.ensures.by_hand;
}

-- where the course of the node goes on from the first machine
from_first : (c : goal.After-the_machine_keeps_facts) (n command : ℕ) (keys : Keys) (devices : List State) (before lines : List Spoken) (first : At n (first_machine keys (Some []) devices))
    → GoesOn n (first_machine keys (Some []) devices) first (events_of (before ++ lines)) → AllByRecursion (IsNoHand n) (events_of lines) → AreDone (first_machine keys (Some []) devices) (before ++ lines)
    → Has (sessions n (transcript_of (after_all (first_machine keys (Some []) devices) before) lines)) command
    → is_final (outcome command (transcript_of (first_machine keys (Some []) devices) (before ++ lines))) ≡ true
    → is_answered (after_all (first_machine keys (Some []) devices) before).outside.devices (transcript_of (first_machine keys (Some []) devices) before)
    (transcript_of (after_all (first_machine keys (Some []) devices) before) lines) n command ≡ true
from_first c n command keys devices before lines first on hand are begun over =
    let m : Machine = first_machine keys (Some []) devices in
    let all : List Spoken = before ++ lines in
    let start : Machine = after_all m before in
    let there = sym (all_after m before) in
    let led : (at : At n start) × GoesOn n start at (events_of lines) =
    subst (λ (x : Machine). (at : At n x) × GoesOn n x at (events_of lines)) there
    (leads n m (events_of before) (events_of lines) first (subst (λ (es : List Event). GoesOn n m first es) (events_both before lines) on)) in
    let at : At n start = led.0 in
    let T0 : List Entry = transcript_of m before in
    let T1 : List Entry = transcript_of start lines in
    let facts0 : Facts T0 start.host.state =
    lines_keep_facts c.asides_keep_facts.ensures c.the_machine_keeps_facts.ensures.all [] m before (c.lines_tell_what_nodes_list.ensures.spoken keys devices before (done_first m before lines are)) (c.the_machine_keeps_facts.ensures.first keys (Some []) devices) in
    let tied : (later : At n (after_all start lines)) × Tie n (length (sessions n T0)) at.device.kind at.device.journal T0 T1 (after_all start lines) later =
    lines_tie (laws_of c) n (length (sessions n T0)) at.device.kind at.device.journal T0 refl [] start lines at hand (begins_tied n T0 start at facts0) led.1 in
    let told : transcript_of m all ≡ T0 ++ T1 = told_both m before lines in
    let final_is : is_final (outcome command (T0 ++ T1)) ≡ true = subst (λ (T : List Entry). is_final (outcome command T) ≡ true) told over in
    let commands : List Command = (after_all start lines).host.state.commands in
    let sees = sees_final n (length (sessions n T0)) at.device.kind at.device.journal T0 T1 (after_all start lines) tied.0 tied.1 command final_is refl begun in
    let spoken = c.lines_tell_what_nodes_list.ensures.spoken keys devices all are in
    let tells = c.lines_tell_what_nodes_list.ensures.tell keys devices all are in
    let knows = c.interviews_give_what_is_known.ensures.lines (listing_of devices) [] m all spoken tells (c.interviews_give_what_is_known.ensures.first (listing_of devices) keys) in
    let answers = (c.answers_stand_after_their_lines.ensures.lines (listing_of devices) [] m all (c.the_machine_keeps_facts.ensures.first keys (Some []) devices) tt knows spoken).1 in
    let end_is : after_all m all ≡ after_all start lines = after_both m before lines in
    let are_said : AreSaid (always (listing_of devices)) commands (T0 ++ T1) =
    subst (λ (T : List Entry). AreSaid (always (listing_of devices)) commands T) told (subst (λ (x : Machine). AreSaid (always (listing_of devices)) x.host.state.commands (transcript_of m all)) end_is answers) in
    let laws_are = c.laws_follow.ensures.laws (T0 ++ T1) (after_all start lines).host.state tied.1.facts in
    let in_all : Has (sessions n (T0 ++ T1)) command = subst (λ (l : List ℕ). Has l command) (sym (shown-append (session_at n) T0 T1)) (has_right (sessions n T0) (sessions n T1) command begun) in
    let numbered : Has (numbers_for n (T0 ++ T1)) command = all_has (Has (numbers_for n (T0 ++ T1))) (sessions n (T0 ++ T1)) command (laws_are.accepted n) in_all in
    let carried = c.orders_are_carried_as_said.ensures (always (listing_of devices)) (T0 ++ T1) (after_all start lines).host.state n command sees.taken tied.1.facts are_said numbered sees.is in
    let same = c.devices_stay_the_same.ensures.all devices start.outside.devices (subst (λ (x : Machine). GoOn devices x.outside.devices) there (c.devices_go_on.ensures.all m (events_of before))) in
    answered (record { opened = c.messages_open.ensures.opened; target = c.messages_open.ensures.target }) n devices start.outside.devices T0 T1 commands command at.device
    (device_stands n start.outside.devices at.place at.device at.first at.stands) (same_listing n devices start.outside.devices same) sees carried.0 carried.1

lines_of_first : goal.After-the_machine_keeps_facts → FirstLaws
lines_of_first c = record {
  asks = c.lines_keep_and_ask_well.ensures;
  writes = c.hosts_write_well.ensures.run;
  stays = c.units_are_judged_whole.ensures.lines;
  few = c.at_most_two_are_on_the_air.ensures.always;
  held = c.restarts_go_on.ensures.first;
  names = c.lines_ask_plainly.ensures.text;
}

by_node : (c : goal.After-the_machine_keeps_facts) (n command : ℕ) (keys : Keys) (devices : List State) (before lines : List Spoken) → IsJudgedOver keys devices (events_of (before ++ lines)) n
    → AllByRecursion (IsNoHand n) (events_of lines) → AreDone (first_machine keys (Some []) devices) (before ++ lines)
    → Has (sessions n (transcript_of (after_all (first_machine keys (Some []) devices) before) lines)) command
    → is_final (outcome command (transcript_of (first_machine keys (Some []) devices) (before ++ lines))) ≡ true
    → is_answered (after_all (first_machine keys (Some []) devices) before).outside.devices (transcript_of (first_machine keys (Some []) devices) before)
    (transcript_of (after_all (first_machine keys (Some []) devices) before) lines) n command ≡ true
by_node c n command keys devices before lines (Openly openly) hand are begun over =
    let m : Machine = first_machine keys (Some []) devices in
    let all : List Spoken = before ++ lines in
    let whole = all_lines m all are in
    let follows = c.lines_have_a_course.ensures.first n keys (Some []) devices openly.within openly.at_first in
    from_first c n command keys devices before lines (at_open n [] first_course [] [] m follows)
    (open_goes laws n openly.within [] first_course [] [] m (events_of all) follows (can_of (lines_of_first c) keys devices all are openly.at_first.nodes)
    (c.lines_ask_plainly.ensures.plain n (lines_of all) m (events_of all) (names_of (lines_of_first c) keys devices all are) whole openly.orders) (c.lines_ask_plainly.ensures.ends n (lines_of all) m (events_of all) whole)) hand are begun over
  where
    laws : CourseLaws
    laws = record {
      course = record {
        event = c.worlds_follow_the_course.ensures.event;
        held = c.restarts_go_on.ensures.each;
        go = c.devices_go_on.ensures.each;
        same = c.devices_stay_the_same.ensures.all;
      };
      judged = c.devices_judge_what_is_asked.ensures.event;
    }
by_node c n command keys devices before lines (Locked lock) hand are begun over =
    let m : Machine = first_machine keys (Some []) devices in
    let all : List Spoken = before ++ lines in
    let whole = all_lines m all are in
    let follows = c.lines_have_courses.ensures.first n keys (Some []) devices lock.within lock.device in
    from_first c n command keys devices before lines (at_lock (first_past keys) n first_courses [] [] m follows)
    (lock_goes laws n lock.within (first_past keys) first_courses [] [] m (events_of all) follows (can_of (lines_of_first c) keys devices all are lock.device.nodes)
    (c.lines_ask_fitly.ensures.fit n (lines_of all) m (events_of all) (names_of (lines_of_first c) keys devices all are) whole) (c.lines_ask_fitly.ensures.hears n (lines_of all) m (events_of all) whole)) hand are begun over
  where
    laws : LockLaws
    laws = record { event = c.worlds_follow_the_courses.ensures.event; held = c.restarts_go_on.ensures.each; judged = c.locks_judge_what_is_asked.ensures }

pub returns : goal.returns
returns c = by_node c
