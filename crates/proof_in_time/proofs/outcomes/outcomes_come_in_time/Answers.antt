-- The facts of the host and its clock go with the lines: so the table says what was accepted, and the entries what has ended.
use Rattle.std.proofs.Common.{◌≡◌, ◌≤◌, ℕ, suc, ◌+◌, inl, inr, Bool, List, [], ◌∷◌, ◌++◌, length, length-append, Some, append_assoc, append-nil, sym, ap, subst, arith}
use Rattle.std.specs.Prelude.{◌⊎◌, filter}
use Rattle.s0_crypto.specs.declared.key_pair.Keys.{Keys}
use Rattle.zw_text.specs.declared.entry.Entry.{Entry}
use Rattle.zw_text.specs.Transcript.{accepted, lines_run, outcome, shown}
use Rattle.law_transcript.specs.Commands.{is_waiting, numbers_of, waiting}
use Rattle.law_transcript.specs.Lists.{Has}
use Rattle.law_transcript.specs.Nodes.{listing_of}
use Rattle.law_transcript.specs.Restarts.{ticks_asked}
use Rattle.law_transcript.proofs.Having.{has_either}
use Rattle.law_time.specs.Stretches.{accepted_for, commands_in}
use Rattle.device_sim.specs.State.{State}
use Rattle.host_model.specs.State.{node_of}
use Rattle.world_model.specs.State.{Machine, first_machine}
use Rattle.world_lines.specs.Spoken.{Spoken, after_all, transcript_of}
use Rattle.world_lines.specs.Done.{AreDone}
use Rattle.world_lines.specs.Whole.{AreWhole}
use Rattle.proof_host.specs.Facts.{Facts}
use Rattle.proof_host.specs.Laws.{numbers_for, waiting_for}
use Rattle.proof_in_time.specs.InHand.{Accepted_since, IsGiven, IsInHand, RestsBefore, Waited, ticks_begun, ticks_blocked, ticks_of_all}
use Rattle.proof_in_time.specs.Stretch.{In_segments, IsListeningFor, Sealed_messages, Whole_messages}
use Rattle.proof_in_time.proofs.Accepted.{all_most, blocked_most}
use Rattle.proof_in_time.proofs.Endings.{clock_is, ended_final, lines_keep_facts, rests_soon, stands_soon, table_has, waiting_is, waiting_soon}
use Rattle.proof_in_time.proofs.FewerWait.{waits_fewer}
use Rattle.proof_in_time.proofs.Spoken.{done_first, told_both, whole_parts}
use Rattle.proof_in_time.proofs.outcomes.outcomes_come_in_time.Goals as goal

-- the lines before the last of them were run whole
front : (keys : Keys) (devices : List State) (before first lines : List Spoken) → AreDone (first_machine keys (Some []) devices) (before ++ (first ++ lines)) → AreWhole (first_machine keys (Some []) devices) (before ++ (first ++ lines))
    → AreDone (first_machine keys (Some []) devices) (before ++ first) × AreWhole (first_machine keys (Some []) devices) (before ++ first)
front keys devices before first lines are whole =
    let start : Machine = first_machine keys (Some []) devices in
    let apart : before ++ (first ++ lines) ≡ (before ++ first) ++ lines = sym (append_assoc before first lines) in
    let parts = whole_parts start (before ++ first) lines (subst (AreDone start) apart are) (subst (AreWhole start) apart whole) in
    (parts.0, parts.1)

-- the facts of the host after lines, and its clock
module _ (c : goal.After-time_goes_on) (keys : Keys) (devices : List State) where
  abbrev start : Machine
  start = first_machine keys (Some []) devices

  facts : (lines : List Spoken) → AreDone start lines → Facts (transcript_of start lines) (after_all start lines).host.state
  facts lines are =
      lines_keep_facts c.asides_keep_facts.ensures c.the_machine_keeps_facts.ensures.all [] start lines (c.lines_tell_what_nodes_list.ensures.spoken keys devices lines are)
      (c.the_machine_keeps_facts.ensures.first keys (Some []) devices)

  numbers : (n : ℕ) (lines : List Spoken) → AreDone start lines → numbers_of (accepted n (transcript_of start lines)) ≡ numbers_for n (transcript_of start lines)
  numbers n lines are =
      (c.runs_have_their_tables.ensures (listing_of devices) keys (Some []) devices lines n (c.lines_tell_what_nodes_list.ensures.spoken keys devices lines are) (c.lines_tell_what_nodes_list.ensures.tell keys devices lines are)).numbers

  clock : (lines : List Spoken) → AreDone start lines → AreWhole start lines → ticks_begun (after_all start lines) ≡ ticks_asked (lines_run (transcript_of start lines))
  clock lines are whole = clock_is c.time_goes_on.ensures.walk start lines (c.time_goes_on.ensures.first keys (Some []) devices) are whole

  -- as many wait as the entries tell
  waiting_many : (n : ℕ) (lines : List Spoken) → AreDone start lines → length (node_of (after_all start lines).host.state n).waiting ≡ length (waiting n (transcript_of start lines))
  waiting_many n lines are = ap (λ (l : List ℕ). length l) (waiting_is n (transcript_of start lines) (after_all start lines).host.state (facts lines are) (numbers n lines are))

-- the commands that wait, by the numbers of those that were accepted
waiting_so : (n : ℕ) (past : List Entry) → numbers_of (accepted n past) ≡ numbers_for n past → waiting n past ≡ waiting_for n past
waiting_so n past same = ap (λ (l : List ℕ). filter (λ (k : ℕ). is_waiting (outcome k past)) l) same

-- what waits or was accepted, by the entries
given : (c : goal.After-time_goes_on) (keys : Keys) (devices : List State) (n command : ℕ) (before upto : List Spoken) → AreDone (first_machine keys (Some []) devices) before → AreDone (first_machine keys (Some []) devices) (before ++ upto)
    → Has (commands_in (transcript_of (first_machine keys (Some []) devices) before) (transcript_of (after_all (first_machine keys (Some []) devices) before) upto) n) command
    → IsGiven n command (after_all (first_machine keys (Some []) devices) before).host.state (after_all (first_machine keys (Some []) devices) (before ++ upto)).host.state
given c keys devices n command before upto began are has =
    by (has_either (waiting n (transcript_of m0 before)) (shown (accepted_for n) (transcript_of (after_all m0 before) upto)) command has)
  where
    m0 : Machine
    m0 = first_machine keys (Some []) devices

    by : Has (waiting n (transcript_of m0 before)) command ⊎ Has (shown (accepted_for n) (transcript_of (after_all m0 before) upto)) command → IsGiven n command (after_all m0 before).host.state (after_all m0 (before ++ upto)).host.state
    by (inl own) = let at = stands_soon n command (transcript_of m0 before) (after_all m0 before).host.state (facts c keys devices before began) (numbers c keys devices n before began) own in Waited at.more at.stands
    by (inr own) =
        let table = table_has n command (transcript_of m0 before) (transcript_of (after_all m0 before) upto) (after_all m0 (before ++ upto)).host.state
        (subst (λ (T : List Entry). Facts T (after_all m0 (before ++ upto)).host.state) (told_both m0 before upto) (facts c keys devices (before ++ upto) are)) own in
        let counted = (facts c keys devices before began).accepted.count in
        let above = table.0 in
        Accepted_since table.1.found table.1.is table.1.node (omega (arith, above, counted))

-- the lines of such a stretch were run whole
run_whole : (these : List Bool) (n : ℕ) (keys : Keys) (devices : List State) (before lines : List Spoken) (long : ℕ) → IsListeningFor these n keys devices before lines long
    → AreDone (first_machine keys (Some []) devices) (before ++ lines) × AreWhole (first_machine keys (Some []) devices) (before ++ lines)
run_whole these n keys devices before lines long (Whole_messages is listens six) = (is.done, is.whole)
run_whole these n keys devices before lines long (In_segments is many) = (is.done, is.whole)
run_whole these n keys devices before lines long (Sealed_messages is six) = (is.done, is.whole)

pub returns-clause-accepted : goal.returns-clause-accepted
returns-clause-accepted c = λ long these n command sessions keys devices before first lines is marked has waits enough.
    let start : Machine = first_machine keys (Some []) devices in
    let run = run_whole these n keys devices before (first ++ lines) long is in
    let parts = front keys devices before first lines run.0 run.1 in
    let began = whole_parts start before (first ++ lines) run.0 run.1 in
    let table = table_has n command (transcript_of start before) (transcript_of (after_all start before) first) (after_all start (before ++ first)).host.state
    (subst (λ (T : List Entry). Facts T (after_all start (before ++ first)).host.state) (told_both start before first) (facts c keys devices (before ++ first) parts.0)) has in
    let counted = (facts c keys devices before began.0).accepted.count in
    let above = table.0 in
    let one = blocked_most (node_of (after_all start (before ++ first)).host.state n) in
    let all = waiting_many c keys devices n (before ++ first) parts.0 in
    let then_clock = clock c keys devices (before ++ first) parts.0 parts.1 in
    let last_clock = clock c keys devices (before ++ (first ++ lines)) run.0 run.1 in
    ended_final n command (transcript_of start (before ++ (first ++ lines))) (after_all start (before ++ (first ++ lines))).host.state (facts c keys devices (before ++ (first ++ lines)) run.0)
    (c.commands_end_in_time.ensures.accepted long these n command sessions table.1.found keys devices before first lines is marked table.1.is table.1.node (omega (arith, above, counted)) (omega (arith, all, waits)) (omega (arith, one, enough, then_clock, last_clock)))

pub returns-clause-waiting : goal.returns-clause-waiting
returns-clause-waiting c = λ long these n command sessions keys devices before lines is marked has closed waits enough.
    let start : Machine = first_machine keys (Some []) devices in
    let run = run_whole these n keys devices before lines long is in
    let began = whole_parts start before lines run.0 run.1 in
    let soon = waiting_soon n command (transcript_of start before) (after_all start before).host.state (facts c keys devices before began.0) (numbers c keys devices n before began.0) has closed in
    let within = soon.within in
    let all = waiting_many c keys devices n before began.0 in
    let most = all_most long these (suc soon.more) sessions (omega (arith, within, all, waits)) in
    let then_clock = clock c keys devices before began.0 began.1 in
    let last_clock = clock c keys devices (before ++ lines) run.0 run.1 in
    let same : before ≡ before ++ [] = sym (append-nil before) in
    let one = blocked_most (node_of (after_all start before).host.state n) in
    let in_time : ticks_begun (after_all start before) + (ticks_blocked (node_of (after_all start before).host.state n) + ticks_of_all long these (suc soon.more)) ≤ ticks_begun (after_all start (before ++ lines)) =
    omega (arith, one, most, enough, then_clock, last_clock) in
    ended_final n command (transcript_of start (before ++ lines)) (after_all start (before ++ lines)).host.state (facts c keys devices (before ++ lines) run.0)
    (c.commands_end_in_time.ensures.in_hand long these n command soon.more keys devices before [] lines is marked (subst (λ (l : List Spoken). IsInHand command soon.more (node_of (after_all start l).host.state n)) same soon.hand)
    (subst (λ (l : List Spoken). ticks_begun (after_all start l) + (ticks_blocked (node_of (after_all start l).host.state n) + ticks_of_all long these (suc soon.more)) ≤ ticks_begun (after_all start (before ++ lines))) same in_time))

pub returns-clause-rests : goal.returns-clause-rests
returns-clause-rests c = λ long these n command keys devices before lines is marked has runs enough.
    let start : Machine = first_machine keys (Some []) devices in
    let run = run_whole these n keys devices before lines long is in
    let began = whole_parts start before lines run.0 run.1 in
    let soon = rests_soon n command (transcript_of start before) (after_all start before).host.state (facts c keys devices before began.0) (numbers c keys devices n before began.0) has runs in
    let within = soon.within in
    let all = waiting_many c keys devices n before began.0 in
    let wait = soon.wait in
    let most = all_most long these (suc (suc soon.more)) (suc (length (waiting n (transcript_of start before)))) (omega (arith, within, all)) in
    let then_clock = clock c keys devices before began.0 began.1 in
    let last_clock = clock c keys devices (before ++ lines) run.0 run.1 in
    let same : before ≡ before ++ [] = sym (append-nil before) in
    let in_time : ticks_begun (after_all start before) + ((node_of (after_all start before).host.state n).again_wait + (1 + ticks_of_all long these (suc (suc soon.more)))) ≤ ticks_begun (after_all start (before ++ lines)) =
    omega (arith, wait, most, enough, then_clock, last_clock) in
    ended_final n command (transcript_of start (before ++ lines)) (after_all start (before ++ lines)).host.state (facts c keys devices (before ++ lines) run.0)
    (c.commands_end_in_time.ensures.rests long these n command soon.more keys devices before [] lines is marked (subst (λ (l : List Spoken). RestsBefore command soon.more (node_of (after_all start l).host.state n)) same soon.rests)
    (subst (λ (l : List Spoken). ticks_begun (after_all start l) + ((node_of (after_all start l).host.state n).again_wait + (1 + ticks_of_all long these (suc (suc soon.more)))) ≤ ticks_begun (after_all start (before ++ lines))) same in_time))

pub returns-clause-few : goal.returns-clause-few
returns-clause-few c = λ n keys devices before are.
    let all = waiting_many c keys devices n before are in
    let most = ((facts c keys devices before are).host.nodes.facts n).waiting in
    omega (arith, all, most)

pub returns-clause-waits : goal.returns-clause-waits
returns-clause-waits c = λ n keys devices before first are.
    let start : Machine = first_machine keys (Some []) devices in
    let T0 : List Entry = transcript_of start before in
    let T1 : List Entry = transcript_of (after_all start before) first in
    let then_is : waiting n (T0 ++ T1) ≡ waiting_for n (T0 ++ T1) = waiting_so n (T0 ++ T1) (subst (λ (T : List Entry). numbers_of (accepted n T) ≡ numbers_for n T) (told_both start before first) (numbers c keys devices n (before ++ first) are)) in
    let first_is : waiting n T0 ≡ waiting_for n T0 = waiting_so n T0 (numbers c keys devices n before (done_first start before first are)) in
    let there = ap (λ (T : List Entry). length (waiting n T)) (told_both start before first) in
    let now = ap (λ (l : List ℕ). length l) then_is in
    let past = ap (λ (l : List ℕ). length l) first_is in
    let fewer = waits_fewer n T0 T1 in
    let all : length (commands_in T0 T1 n) ≡ length (waiting n T0) + length (shown (accepted_for n) T1) = length-append (waiting n T0) (shown (accepted_for n) T1) in
    omega (arith, there, now, past, fewer, all)

pub returns-clause-woken : goal.returns-clause-woken
returns-clause-woken c = λ these n command sessions keys devices before first wake lines is marked down wakes has waits enough.
    let m0 : Machine = first_machine keys (Some []) devices in
    let apart : first ++ wake ∷ lines ≡ (first ++ wake ∷ []) ++ lines = sym (append_assoc first (wake ∷ []) lines) in
    let parts = front keys devices before (first ++ wake ∷ []) lines (subst (λ (l : List Spoken). AreDone m0 (before ++ l)) apart is.done) (subst (λ (l : List Spoken). AreWhole m0 (before ++ l)) apart is.whole) in
    let began = whole_parts m0 before (first ++ wake ∷ lines) is.done is.whole in
    let all = waiting_many c keys devices n (before ++ (first ++ wake ∷ [])) parts.0 in
    let then_clock = clock c keys devices (before ++ (first ++ wake ∷ [])) parts.0 parts.1 in
    let last_clock = clock c keys devices (before ++ (first ++ wake ∷ lines)) is.done is.whole in
    ended_final n command (transcript_of m0 (before ++ (first ++ wake ∷ lines))) (after_all m0 (before ++ (first ++ wake ∷ lines))).host.state (facts c keys devices (before ++ (first ++ wake ∷ lines)) is.done)
    (c.commands_end_in_time.ensures.woken these n command sessions keys devices before first wake lines is marked down wakes (given c keys devices n command before (first ++ wake ∷ []) began.0 parts.0 has) (omega (arith, all, waits)) (omega (arith, enough, then_clock, last_clock)))
