-- For a command that was accepted in the stretch, the lines after the one that asked for it ask for ticks enough; for one that waited before, all lines do. Where
-- the node sleeps, the lines after its `wake` line do, for each.
use Rattle.std.proofs.Common.{◌≡◌, ◌≢◌, ◌≤◌, ℕ, suc, ◌+◌, ◌*◌, inl, inr, Bool, true, false, List, [], ◌∷◌, ◌++◌, length, length-append, Some, append_assoc, refl, sym, ap, ◌∙◌, subst, arith}
use Rattle.std.proofs.lemmas.List.Concat.{flat_map-append}
use Rattle.std.specs.Prelude.{◌⊎◌}
use Rattle.zw_text.specs.declared.entry.Entry.{Entry}
use Rattle.zw_text.specs.Transcript.{lines_run, outcome, shown}
use Rattle.s0_crypto.specs.declared.key_pair.Keys.{Keys}
use Rattle.chip_sim.specs.Nodes.{is_marked}
use Rattle.device_sim.specs.State.{State}
use Rattle.law_transcript.specs.Commands.{waiting}
use Rattle.law_transcript.specs.Lists.{EachAfter, Has}
use Rattle.law_transcript.specs.Nodes.{always, listing_of}
use Rattle.law_transcript.specs.Restarts.{ticks_asked}
use Rattle.law_transcript.proofs.Having.{has_either, has_left, has_right}
use Rattle.law_time.specs.Sessions.{is_final, is_open}
use Rattle.law_time.specs.Stretches.{accepted_for, commands_in, waited}
use Rattle.host_model.specs.State.{Command, node_of}
use Rattle.world_model.specs.State.{Machine, first_machine}
use Rattle.world_lines.specs.Spoken.{Spoken, after_all, transcript_of}
use Rattle.world_lines.specs.Done.{AreDone}
use Rattle.proof_host.proofs.Over.{each-right}
use Rattle.proof_spoken.specs.Said.{MayAnswer}
use Rattle.proof_in_time.specs.InHand.{ticks_of_all}
use Rattle.proof_in_time.specs.Waited.{waited_for}
use Rattle.proof_in_time.specs.Stretch.{In_segments, IsListeningFor, IsStretchFor, Sealed_messages, Whole_messages}
use Rattle.proof_in_time.proofs.LastOrder.{asked_at, none_accepted, spoken_later, ticks_alone, ticks_both, ticks_most, ticks_openly, waited_fewer, waited_most, woken_at}
use Rattle.proof_in_time.proofs.Spoken.{after_both, done_first, done_later, told_both}
use Rattle.proof_in_time.proofs.outcomes.stretches_end_in_time.Goals as goal

-- one that was accepted, or waits, was accepted before the line that wakes the node
upto_there : (n command : ℕ) (T0 T1 T2 : List Entry) → (Has (shown (accepted_for n) T2) command → ⊥) → Has (commands_in T0 (T1 ++ T2) n) command → Has (commands_in T0 T1 n) command
upto_there n command T0 T1 T2 none has = by (has_either (waiting n T0) (shown (accepted_for n) (T1 ++ T2)) command has)
  where
    later : Has (shown (accepted_for n) T1) command ⊎ Has (shown (accepted_for n) T2) command → Has (commands_in T0 T1 n) command
    later (inl own) = has_right (waiting n T0) (shown (accepted_for n) T1) command own
    later (inr own) = absurd (none own)

    by : Has (waiting n T0) command ⊎ Has (shown (accepted_for n) (T1 ++ T2)) command → Has (commands_in T0 T1 n) command
    by (inl own) = has_left (waiting n T0) (shown (accepted_for n) T1) command own
    by (inr own) = later (has_either (shown (accepted_for n) T1) (shown (accepted_for n) T2) command (subst (λ (l : List ℕ). Has l command) (flat_map-append (accepted_for n) T1 T2) own))

either : (C A B : Type 0) → (A → C) → (B → C) → A ⊎ B → C
either C A B first later (inl a) = first a
either C A B first later (inr b) = later b

-- as many commands or fewer are there up to a line of a stretch
commands_first : (n : ℕ) (m : Machine) (first later : List Spoken) (T0 : List Entry) → length (commands_in T0 (transcript_of m first) n) ≤ length (commands_in T0 (transcript_of m (first ++ later)) n)
commands_first n m first later T0 =
    let T1 : List Entry = transcript_of m first in
    let T2 : List Entry = transcript_of (after_all m first) later in
    let same = ap (λ (T : List Entry). length (commands_in T0 T n)) (told_both m first later) in
    let all : length (commands_in T0 (T1 ++ T2) n) ≡ length (waiting n T0) + length (shown (accepted_for n) (T1 ++ T2)) = length-append (waiting n T0) (shown (accepted_for n) (T1 ++ T2)) in
    let some : length (commands_in T0 T1 n) ≡ length (waiting n T0) + length (shown (accepted_for n) T1) = length-append (waiting n T0) (shown (accepted_for n) T1) in
    let parted = ap (λ (l : List ℕ). length l) (flat_map-append (accepted_for n) T1 T2) in
    let parts = length-append (shown (accepted_for n) T1) (shown (accepted_for n) T2) in
    omega (arith, same, all, some, parted, parts)

-- the host listens to the node, and the ticks of its sessions are among those that the stretch waits for: of so many sessions as it has commands, and one more, and of 17 at most
ended : (c : goal.After-the_machine_keeps_facts) (long : ℕ) (these : List Bool) (n command : ℕ) (keys : Keys) (devices : List State) (before lines : List Spoken) → AreDone (first_machine keys (Some []) devices) (before ++ lines)
    → IsListeningFor these n keys devices before lines long → is_marked these n ≡ true
    → (Has (waiting n (transcript_of (first_machine keys (Some []) devices) before)) command
    → (is_open n (transcript_of (first_machine keys (Some []) devices) before) ≡ false) ⊎ ((node_of (after_all (first_machine keys (Some []) devices) before).host.state n).again_wait ≢ 0))
    → Has (commands_in (transcript_of (first_machine keys (Some []) devices) before) (transcript_of (after_all (first_machine keys (Some []) devices) before) lines) n) command
    → ((sessions : ℕ) → sessions ≤ suc (length (commands_in (transcript_of (first_machine keys (Some []) devices) before) (transcript_of (after_all (first_machine keys (Some []) devices) before) lines) n)) → sessions ≤ 17
    → 102 + ticks_of_all long these sessions ≤ waited_for n (transcript_of (after_all (first_machine keys (Some []) devices) before) lines))
    → is_final (outcome command (transcript_of (first_machine keys (Some []) devices) (before ++ lines))) ≡ true
ended c long these n command keys devices before lines done is marked rests has enough =
    let start : Machine = first_machine keys (Some []) devices in
    let then_at : Machine = after_all start before in
    let T0 : List Entry = transcript_of start before in
    let T1 : List Entry = transcript_of then_at lines in
    let spoken = c.lines_tell_what_nodes_list.ensures.spoken keys devices (before ++ lines) done in
    let tells = c.lines_tell_what_nodes_list.ensures.tell keys devices (before ++ lines) done in
    let knows = c.interviews_give_what_is_known.ensures.lines (listing_of devices) [] start (before ++ lines) spoken tells (c.interviews_give_what_is_known.ensures.first (listing_of devices) keys) in
    let said = (c.answers_stand_after_their_lines.ensures.lines (listing_of devices) [] start (before ++ lines) (c.the_machine_keeps_facts.ensures.first keys (Some []) devices) tt knows spoken).1 in
    let commands : List Command = (after_all start (before ++ lines)).host.state.commands in
    let each : EachAfter (MayAnswer (always (listing_of devices)) commands) T0 T1 =
    each-right (MayAnswer (always (listing_of devices)) commands) [] T0 T1 (subst (λ (T : List Entry). EachAfter (MayAnswer (always (listing_of devices)) commands) [] T) (told_both start before lines) said) in
    let both = ticks_both start before lines in
    let most = waited_most n 0 (lines_run T1) in
    let all : length (commands_in T0 T1 n) ≡ length (waiting n T0) + length (shown (accepted_for n) T1) = length-append (waiting n T0) (shown (accepted_for n) T1) in
    let few = c.outcomes_come_in_time.ensures.few n keys devices before (done_first start before lines done) in
    let accepted : Has (shown (accepted_for n) T1) command → is_final (outcome command (transcript_of start (before ++ lines))) ≡ true = λ own.
    let asked = asked_at (always (listing_of devices)) commands n command T0 then_at lines (spoken_later start before lines spoken) each own in
    let stretch : IsListeningFor these n keys devices before (asked.first ++ asked.later) long = subst (λ (l : List Spoken). IsListeningFor these n keys devices before l long) asked.are is in
    let waits = asked.waits 0 in
    let parted : before ++ (asked.first ++ asked.later) ≡ (before ++ asked.first) ++ asked.later = sym (append_assoc before asked.first asked.later) in
    let split = ap (λ (l : List Spoken). ticks_asked (lines_run (transcript_of start l))) parted ∙ ticks_both start (before ++ asked.first) asked.later in
    let there = ap (λ (x : Machine). ticks_asked (lines_run (transcript_of x asked.later))) (after_both start before asked.first) in
    let sessions : ℕ = suc (length (waiting n (transcript_of start (before ++ asked.first)))) in
    let done_then = done_first start (before ++ asked.first) asked.later (subst (AreDone start) (ap (λ (l : List Spoken). before ++ l) asked.are ∙ parted) done) in
    let few_then = c.outcomes_come_in_time.ensures.few n keys devices (before ++ asked.first) done_then in
    let within = c.outcomes_come_in_time.ensures.waits n keys devices before asked.first done_then in
    let fewer = commands_first n then_at asked.first asked.later T0 in
    let same = ap (λ (l : List Spoken). length (commands_in T0 (transcript_of then_at l) n)) asked.are in
    let long_enough = enough sessions (omega (arith, within, fewer, same)) (omega (arith, few_then)) in
    subst (λ (l : List Spoken). is_final (outcome command (transcript_of start (before ++ l))) ≡ true) (sym asked.are)
    (c.outcomes_come_in_time.ensures.accepted long these n command sessions keys devices before asked.first asked.later stretch marked asked.has (omega arith) (omega (arith, long_enough, waits, split, there))) in
    let waited_before : Has (waiting n T0) command → is_final (outcome command (transcript_of start (before ++ lines))) ≡ true = λ own.
    either (is_final (outcome command (transcript_of start (before ++ lines))) ≡ true) (is_open n T0 ≡ false) ((node_of then_at.host.state n).again_wait ≢ 0)
    (λ closed. let long_enough = enough (length (waiting n T0)) (omega (arith, all)) (omega (arith, few)) in
    c.outcomes_come_in_time.ensures.waiting long these n command (length (waiting n T0)) keys devices before lines is marked own closed (omega arith) (omega (arith, long_enough, most, both)))
    (λ runs. let long_enough = enough (suc (length (waiting n T0))) (omega (arith, all)) (omega (arith, few)) in c.outcomes_come_in_time.ensures.rests long these n command keys devices before lines is marked own runs (omega (arith, long_enough, most, both)))
    (rests own) in
    either (is_final (outcome command (transcript_of start (before ++ lines))) ≡ true) (Has (waiting n T0) command) (Has (shown (accepted_for n) T1) command) waited_before accepted (has_either (waiting n T0) (shown (accepted_for n) T1) command has)

pub returns-clause-listening : goal.returns-clause-listening
returns-clause-listening c = λ these n command keys devices before lines is marked few listens rests has enough.
    let T0 : List Entry = transcript_of (first_machine keys (Some []) devices) before in
    let T1 : List Entry = transcript_of (after_all (first_machine keys (Some []) devices) before) lines in
    let w : ℕ = length (commands_in T0 T1 n) in
    let fewer : waited T1 ≤ waited_for n T1 = waited_fewer n 0 0 (lines_run T1) (omega arith) in
    ended c 6 these n command keys devices before lines is.done (Whole_messages is listens refl) marked rests has
    (λ sessions within most. let ticks = ticks_most these sessions few in
    either (102 + ticks_of_all 6 these sessions ≤ waited_for n T1) (500 ≤ waited T1) (101 + 24 * suc w ≤ waited_for n T1) (λ all. omega (arith, ticks, most, fewer, all)) (λ own. omega (arith, ticks, within, own)) enough)

pub returns-clause-openly : goal.returns-clause-openly
returns-clause-openly c = λ these n command keys devices before lines is marked rests has enough.
    let openly = is.ready.openly in
    let only : (k : ℕ) → is_marked these k ≡ true → k ≡ openly.n = openly.alone.only in
    ended c 23 these n command keys devices before lines is.done (In_segments is refl) marked rests has (λ sessions within most. let ticks = ticks_openly these openly.n sessions only in omega (arith, ticks, within, enough))

pub returns-clause-sealed : goal.returns-clause-sealed
returns-clause-sealed c = λ these n command keys devices before lines is marked rests has enough.
    let locked = is.ready.locked in
    let only : (k : ℕ) → is_marked these k ≡ true → k ≡ locked.n = locked.alone.only in
    ended c 6 these n command keys devices before lines is.done (Sealed_messages is refl) marked rests has (λ sessions within most. let ticks = ticks_alone these locked.n sessions only in omega (arith, ticks, within, enough))

pub returns-clause-sleeping : goal.returns-clause-sleeping
returns-clause-sleeping c = λ these n command keys devices before lines is marked few down last has enough.
    let m0 : Machine = first_machine keys (Some []) devices in
    let then_at : Machine = after_all m0 before in
    let at = woken_at n then_at lines (done_later m0 before lines is.done) last in
    let upto : List Spoken = at.first ++ at.wake ∷ [] in
    let apart : lines ≡ upto ++ at.later = at.are ∙ sym (append_assoc at.first (at.wake ∷ []) at.later) in
    let T0 : List Entry = transcript_of m0 before in
    let T1 : List Entry = transcript_of then_at upto in
    let T2 : List Entry = transcript_of (after_all then_at upto) at.later in
    let told : transcript_of then_at lines ≡ T1 ++ T2 = ap (transcript_of then_at) apart ∙ told_both then_at upto at.later in
    let spoken = c.lines_tell_what_nodes_list.ensures.spoken keys devices (before ++ lines) is.done in
    let tells = c.lines_tell_what_nodes_list.ensures.tell keys devices (before ++ lines) is.done in
    let knows = c.interviews_give_what_is_known.ensures.lines (listing_of devices) [] m0 (before ++ lines) spoken tells (c.interviews_give_what_is_known.ensures.first (listing_of devices) keys) in
    let said = (c.answers_stand_after_their_lines.ensures.lines (listing_of devices) [] m0 (before ++ lines) (c.the_machine_keeps_facts.ensures.first keys (Some []) devices) tt knows spoken).1 in
    let commands : List Command = (after_all m0 (before ++ lines)).host.state.commands in
    let each : EachAfter (MayAnswer (always (listing_of devices)) commands) T0 (T1 ++ T2) =
    each-right (MayAnswer (always (listing_of devices)) commands) [] T0 (T1 ++ T2)
    (subst (λ (T : List Entry). EachAfter (MayAnswer (always (listing_of devices)) commands) [] T) (told_both m0 before lines ∙ ap (λ (T : List Entry). T0 ++ T) told) said) in
    let later_each : EachAfter (MayAnswer (always (listing_of devices)) commands) (T0 ++ T1) T2 = each-right (MayAnswer (always (listing_of devices)) commands) T0 T1 T2 each in
    let done_then : AreDone (after_all then_at upto) at.later = done_later then_at upto at.later (subst (AreDone then_at) apart (done_later m0 before lines is.done)) in
    let own : Has (commands_in T0 T1 n) command = upto_there n command T0 T1 T2 (none_accepted n (always (listing_of devices)) commands command (T0 ++ T1) (after_all then_at upto) at.later done_then later_each at.none)
    (subst (λ (T : List Entry). Has (commands_in T0 T n) command) told has) in
    let waits = at.waits 0 in
    let sessions : ℕ = suc (length (waiting n (transcript_of m0 (before ++ upto)))) in
    let ticks = ticks_most these sessions few in
    let fewer_then = commands_first n then_at upto at.later T0 in
    let w : ℕ = length (commands_in T0 (transcript_of then_at lines) n) in
    let all_commands : w ≡ length (commands_in T0 (transcript_of then_at (upto ++ at.later)) n) = ap (λ (l : List Spoken). length (commands_in T0 (transcript_of then_at l) n)) apart in
    let all : before ++ lines ≡ (before ++ upto) ++ at.later = ap (λ (l : List Spoken). before ++ l) apart ∙ sym (append_assoc before upto at.later) in
    let done_upto = done_first m0 (before ++ upto) at.later (subst (AreDone m0) all is.done) in
    let few_then = c.outcomes_come_in_time.ensures.few n keys devices (before ++ upto) done_upto in
    let within = c.outcomes_come_in_time.ensures.waits n keys devices before upto done_upto in
    let fewer : waited (transcript_of then_at lines) ≤ waited_for n (transcript_of then_at lines) = waited_fewer n 0 0 (lines_run (transcript_of then_at lines)) (omega arith) in
    let long_enough : 2 + ticks_of_all 6 these sessions ≤ waited_for n (transcript_of then_at lines) =
    either (2 + ticks_of_all 6 these sessions ≤ waited_for n (transcript_of then_at lines)) (500 ≤ waited (transcript_of then_at lines)) (101 + 30 * suc w ≤ waited_for n (transcript_of then_at lines))
    (λ whole. omega (arith, ticks, few_then, fewer, whole)) (λ own. omega (arith, ticks, within, fewer_then, all_commands, own)) enough in
    let split = ap (λ (l : List Spoken). ticks_asked (lines_run (transcript_of m0 l))) all ∙ ticks_both m0 (before ++ upto) at.later in
    let there = ap (λ (x : Machine). ticks_asked (lines_run (transcript_of x at.later))) (after_both m0 before upto) in
    let same = ap (λ (l : List Spoken). ticks_asked (lines_run (transcript_of m0 (before ++ l)))) at.are in
    subst (λ (l : List Spoken). is_final (outcome command (transcript_of m0 (before ++ l))) ≡ true) (sym at.are)
    (c.outcomes_come_in_time.ensures.woken these n command sessions keys devices before at.first at.wake at.later (subst (IsStretchFor these keys devices before) at.are is) marked down at.wakes own (omega arith) (omega (arith, long_enough, waits, split, there, same)))
