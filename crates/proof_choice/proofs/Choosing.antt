-- At each step of a host alone what it submits, and the sessions that begin, are chosen in their turn.
use Rattle.std.proofs.Common.{◌≡◌, ℕ, ◌≤◌, ◌||◌, not, Bool, true, false, List, [], ◌∷◌, ◌++◌, map, refl, sym, ap, ◌∙◌, subst, append-nil}
use Rattle.std.specs.List.{AllByRecursion, flat_map, list_any}
use Rattle.std.proofs.lemmas.Bool.{or_left, or_right}
use Rattle.serial_frame.specs.Items.{unit_text}
use Rattle.serial_frame.specs.declared.item.Item.{Item}
use Rattle.serial_frame.specs.declared.unit.Unit.{Unit as LineUnit}
use Rattle.serial_frame.specs.declared.unit.Unit.TheVariants.{Ack, Nak, Framed}
use Rattle.chip_functions.specs.declared.request.Request.{Request}
use Rattle.zw_words.specs.declared.side.Side.TheVariants.{Host, Chip}
use Rattle.zw_text.specs.declared.entry.Entry.{Entry}
use Rattle.zw_text.specs.declared.entry.Entry.TheVariants as entry
use Rattle.zw_text.specs.Transcript.{joined}
use Rattle.host_heard.specs.declared.told.Told.{Told}
use Rattle.law_transcript.specs.Lists.{EachAfter}
use Rattle.law_transcript.specs.Units.{Carried, sending_in, sending_of}
use Rattle.law_time.specs.Attempts.{Serving, serving}
use Rattle.law_time.specs.Choice.{is_chosen, is_part, parts_of}
use Rattle.law_time.specs.Ends.{is_abort, is_abort_frame}
use Rattle.law_time.specs.Heeds.{Heeds}
use Rattle.law_time.specs.Moments.{Allows, clock}
use Rattle.law_time.specs.Queue.{queue_before, requests}
use Rattle.law_time.specs.Requests.{are_none, asked, is_new}
use Rattle.host_requests.specs.Frames.{frame_of}
use Rattle.host_requests.specs.State.{next_id}
use Rattle.host_requests.specs.declared.task.Purpose.{Purpose}
use Rattle.host_requests.specs.declared.task.Purpose.TheVariants.{Attempt, Abort}
use Rattle.host_requests.specs.declared.task.Task.{Task}
use Rattle.host_model.specs.State.{HostState, node_of}
use Rattle.host_model.specs.After.{task_purpose}
use Rattle.host_model.specs.Did.{MayAll}
use Rattle.host_model.specs.Events.{HostEvent, Accepts, Cancels, Submits_abort, Submits_front, Starts, Gives_text, Gives_segment, Begins, Begin_unkept}
use Rattle.host_model.specs.Facts.{HostFacts}
use Rattle.host_model.specs.May.{IsFree, IsServed, May as MayHost}
use Rattle.host_model.specs.Outs.{answer_to, answers, outs}
use Rattle.host_model.specs.Pumping.{IsNext}
use Rattle.host_model.specs.declared.out.HostOut.TheVariants.{Note, Write}
use Rattle.host_model.proofs.Submitted.{SleepersAre, next_is, no_more_is}
use Rattle.proof_giving.proofs.HostOuts.{SharedAre, outs_are}
use Rattle.proof_giving.specs.proof_queue.proof_attempts.proof_requests.law_host.Heard.{heeds_alone}
use Rattle.proof_giving.specs.proof_queue.proof_attempts.proof_requests.Asking.{doing_of}
use Rattle.proof_giving.specs.proof_queue.proof_attempts.proof_requests.Walking.{Ground as RequestsGround, IsRead, IsTied, ReadsAs}
use Rattle.proof_giving.specs.proof_queue.proof_attempts.proof_requests.proof_alone.State.{HostMachine}
use Rattle.proof_giving.specs.proof_queue.proof_attempts.proof_requests.proof_alone.Steps.{AreTold, DidNotCome, IsOfOthers, IsOfUnit, Step, Tells, Comes, Misses, Says, Says_nothing, Asks, Refuses, Shows, Restarts, Begins_tick, Numbers, Judges, Does, entries}
use Rattle.proof_giving.specs.proof_queue.proof_attempts.proof_requests.proof_alone.Phases.{Phase, Ticking, Behind, Sleeping, Submitting, IsNumbered, May}
use Rattle.proof_giving.specs.proof_queue.proof_attempts.proof_requests.proof_alone.Runs.{WalkOver}
use Rattle.proof_giving.specs.proof_queue.proof_attempts.Since.{InTick, IsOfItem, TicksAt}
use Rattle.proof_giving.proofs.Lasting.{by_else, rest_of}
use Rattle.proof_giving.proofs.Queued.{PayloadsBring, served_is_node}
use Rattle.proof_giving.proofs.Stepping.{IsSubmission, event_is_read, submissions, time_told}
use Rattle.proof_giving.proofs.Telling.{told_so}
use Rattle.proof_giving.proofs.proof_attempts_Walking.{is_fresh, written_told}
use Rattle.proof_giving.proofs.Wrote.{Wrote, writes}
use Rattle.proof_giving.proofs.Wrote.Wrote.{Quietly, Again, Anew}
use Rattle.proof_giving.proofs.proof_alone_Apart.{AreOfLine}
use Rattle.proof_giving.proofs.proof_requests_Telling.{IsQuiet}
use Rattle.proof_giving.proofs.proof_requests_Judging.{or_false}
use Rattle.proof_giving.proofs.proof_waking_Parts.{item_told}
use Rattle.proof_giving.specs.proof_queue.Waiting.{want_of_task}
use Rattle.proof_giving.specs.Told.{attempts_so_far}
use Rattle.proof_choice.specs.Choosing.{begins_well, may_choose}
use Rattle.proof_choice.specs.Nodes.{NodeKnown}
use Rattle.proof_choice.specs.Turning.{AllKnown, ChoosingGround}
use Rattle.proof_choice.specs.Waits.{WaitsAnew}
use Rattle.proof_choice.proofs.Choices.{begins_is, chosen_is, segment_runs, serving_is, text_runs}
use Rattle.proof_choice.proofs.Parts.{segment_chosen, start_chosen, text_chosen}

-- ---- entries that choose nothing

-- no session begins
abbrev pub IsNoBegin : Entry → Type 0
IsNoBegin (entry.Begin node session command) = ⊥
IsNoBegin e = Unit {0}

abbrev pub BeginsNone : HostEvent → Type 0
BeginsNone (Begins n session command) = ⊥
BeginsNone event = Unit {0}

line_none : AreOfLine IsNoBegin
line_none = record { written = λ side text. tt; dropped = λ side. tt; garbled = λ side text. tt; overrun = λ side. tt }

shared_none : SharedAre IsNoBegin
shared_none = record {
  unanswered = λ command. tt;
  asleep = λ n. tt;
  done = λ n how. tt;
  uninterviewed = λ n. tt;
  neighbours = λ n nodes. tt;
  failed = λ n is_failed. tt;
  stored = λ n setting. tt;
  held = λ n. tt;
  full = λ n. tt;
}

pub told_none : (h : HostState) (event : HostEvent) (told : List Entry) → BeginsNone event → AreTold (outs h event) told → AllByRecursion IsNoBegin told
told_none h (Begins n session command) told none are = absurd none
told_none h (Accepts order carriage) told none are = told_so IsNoBegin line_none [] told tt are
told_none h event told none are = told_so IsNoBegin line_none (outs h event) told (outs_are IsNoBegin shared_none h event tt) are

module _ (node_is : (heeds : Heeds) (n : ℕ) (past : List Entry) → (attempts_so_far heeds n past).node ≡ n)
    (each_is : (heeds : Heeds) (nodes : List ℕ) (past : List Entry) → (serving heeds nodes past).each ≡ map (λ n. attempts_so_far heeds n past) nodes)
    (requests_are : (heeds : Heeds) (nodes : List ℕ) (past : List Entry) → (serving heeds nodes past).requests ≡ requests heeds past) (taken : List Entry → Carried → List Told) (brings : PayloadsBring) where
  abbrev heeds : Heeds
  heeds = heeds_alone taken

  abbrev AllMay : List Entry → List Entry → Type 0
  AllMay past told = EachAfter (Allows (may_choose heeds)) past told

  -- a unit that is no new request
  old_may : (past : List Entry) (unit : List ℕ) → is_new (asked past) unit ≡ false → may_choose heeds past (entry.Written Host unit) ≡ true
  old_may past unit old =
      ap (λ (b : Bool). not b || is_abort_frame unit || not (are_none (queue_before heeds past (entry.Written Host unit)).wants) || list_any (is_chosen heeds past (serving heeds (joined past) past)) (sending_in unit)) old

  quiet_one : (past : List Entry) (e : Entry) → IsQuiet e → IsNoBegin e → may_choose heeds past e ≡ true
  quiet_one past (entry.Written Host unit) quiet none = old_may past unit (ap (λ (l : List ℕ). is_new (asked past) l) quiet)
  quiet_one past (entry.Written Chip unit) quiet none = refl
  quiet_one past (entry.Begin node session command) quiet none = absurd none
  quiet_one past e quiet none = refl

  quiet_may : (past told : List Entry) → AllByRecursion IsQuiet told → AllByRecursion IsNoBegin told → AllMay past told
  quiet_may past [] quiet none = tt
  quiet_may past (e ∷ told) quiet none = (quiet_one past e quiet.0 none.0, quiet_may (past ++ e ∷ []) told quiet.1 none.1)

  mark_one : (past : List Entry) (e : Entry) → IsOfUnit e → may_choose heeds past e ≡ true
  mark_one past (entry.Dropped Host) mark = refl
  mark_one past (entry.Garbled Host unit) mark = refl
  mark_one past (entry.Overrun Host) mark = refl
  mark_one past e mark = absurd mark

  marks_may : (past told : List Entry) → AllByRecursion IsOfUnit told → AllMay past told
  marks_may past [] all = tt
  marks_may past (e ∷ told) all = (mark_one past e all.0, marks_may (past ++ e ∷ []) told all.1)

  unit_may : (past told : List Entry) (unit : List ℕ) (rest : List Entry) → told ≡ entry.Written Host unit ∷ rest → AllByRecursion IsOfUnit rest → may_choose heeds past (entry.Written Host unit) ≡ true → AllMay past told
  unit_may past told unit rest is all first = subst (AllMay past) (sym is) (first, marks_may (past ++ entry.Written Host unit ∷ []) rest all)

  one_may : (past told : List Entry) (e : Entry) → AreTold (Note e ∷ []) told → may_choose heeds past e ≡ true → AllMay past told
  one_may past told e (rest, is, none) first = subst (AllMay past) (sym (is ∙ ap (λ (l : List Entry). e ∷ l) none)) (first, tt)

  -- ---- what is submitted

  module _ (past told : List Entry) (m : HostMachine) (numbered : IsNumbered m told) (ground : RequestsGround Submitting past m) (tie : IsTied past m) (waits : WaitsAnew heeds past m) (all : AllKnown heeds past m) where
    facts : HostFacts m.state
    facts = ground.0.0.0.0.0.facts.host

    abbrev id : ℕ
    id = next_id m.state.requests.last_id

    abbrev unit_of : Purpose → List ℕ
    unit_of purpose = unit_text (Framed (frame_of purpose id))

    abbrev Puts : Purpose → Type 0
    Puts purpose = AreTold (Write (Framed (frame_of purpose id)) ∷ []) told

    abbrev new_of : Purpose → Bool
    new_of purpose = not (is_new (asked past) (unit_of purpose))

    abbrev some_of : Purpose → Bool
    some_of purpose = not (are_none (queue_before heeds past (entry.Written Host (unit_of purpose))).wants)

    abbrev chosen_of : Purpose → Bool
    chosen_of purpose = list_any (is_chosen heeds past (serving heeds (joined past) past)) (sending_in (unit_of purpose))

    puts_may : (purpose : Purpose) → Puts purpose → may_choose heeds past (entry.Written Host (unit_of purpose)) ≡ true → AllMay past told
    puts_may purpose are first = let wrote = written_told (frame_of purpose id) told are in unit_may past told (unit_of purpose) wrote.rest wrote.are wrote.marks first

    abort_may : Puts Abort → ReadsAs m.state Abort → AllMay past told
    abort_may are read =
        puts_may Abort are
        (or_left (new_of Abort || is_abort_frame (unit_of Abort) || some_of Abort) (chosen_of Abort)
        (or_left (new_of Abort || is_abort_frame (unit_of Abort)) (some_of Abort) (or_right (new_of Abort) (is_abort_frame (unit_of Abort)) (ap (λ (l : List Request). list_any is_abort l) read))))

    wants : (purpose : Purpose) → IsFree m.state → Puts purpose → (queue_before heeds past (entry.Written Host (unit_of purpose))).wants ≡ map want_of_task m.state.requests.queue
    wants purpose free are =
        let wrote = written_told (frame_of purpose id) told are in
        waits (unit_of purpose) (is_fresh past m.clock m.came (doing_of m.state) (frame_of purpose id) free.free_line tie)
        (time_told Submitting past told m ground numbered (entry.Written Host (unit_of purpose)) wrote.rest wrote.are)

    some_wait : (purpose : Purpose) → IsFree m.state → Puts purpose → (queue : List Task) → m.state.requests.queue ≡ queue → (queue ≡ [] → ⊥) → some_of purpose ≡ true
    some_wait purpose free are [] is some = absurd (some refl)
    some_wait purpose free are (task ∷ rest) is some = ap (λ (l : List (List ℕ)). not (are_none l)) (wants purpose free are ∙ ap (λ (l : List Task). map want_of_task l) is)

    front_may : (purpose : Purpose) → IsFree m.state → Puts purpose → (m.state.requests.queue ≡ [] → ⊥) → AllMay past told
    front_may purpose free are some =
        puts_may purpose are
        (or_left (new_of purpose || is_abort_frame (unit_of purpose) || some_of purpose) (chosen_of purpose)
        (or_right (new_of purpose || is_abort_frame (unit_of purpose)) (some_of purpose) (some_wait purpose free are m.state.requests.queue refl some)))

    -- the nodes, at the time of the transcript
    nodes_at : clock past ≡ m.clock → (n : ℕ) → 1 ≤ n → n ≤ 232 → NodeKnown heeds past m.state (clock past) n
    nodes_at time n from to = subst (λ (t : ℕ). NodeKnown heeds past m.state t n) (sym time) (all.nodes n from to)

    part_may : (k : ℕ) (more : Bool) (payload : List ℕ) → Puts (Attempt k more payload) → ReadsAs m.state (Attempt k more payload) → IsServed m.state k
        → (NodeKnown heeds past m.state (clock past) k → list_any (is_part payload) (parts_of heeds past (asked past) (clock past) (attempts_so_far heeds k past)) ≡ true) → AllMay past told
    part_may k more payload are read served part =
        let purpose : Purpose = Attempt k more payload in
        let wrote = written_told (frame_of purpose id) told are in
        let time : clock past ≡ m.clock = time_told Submitting past told m ground numbered (entry.Written Host (unit_of purpose)) wrote.rest wrote.are in
        let is_node = served_is_node m.state k served.next in
        let chosen : chosen_of purpose ≡ true
        = ap (λ (l : List Request). list_any (is_chosen heeds past (serving heeds (joined past) past)) (flat_map sending_of l)) read
        ∙ or_false (is_chosen heeds past (serving heeds (joined past) past) (record { node = k; payload = payload }))
        ∙ ap (λ (s : Serving). is_chosen heeds past s (record { node = k; payload = payload })) (serving_is node_is each_is requests_are taken past m.state.served all.served)
        ∙ chosen_is node_is each_is requests_are taken past m.state facts (nodes_at time) all.range all.owners k payload served (part (nodes_at time k is_node.0 is_node.1)) in
        puts_may purpose are (or_right (new_of purpose || is_abort_frame (unit_of purpose) || some_of purpose) (chosen_of purpose) chosen)

    begins_may : (n session command : ℕ) → AreTold (Note (entry.Begin n session command) ∷ []) told → MayHost m.state (Begins n session command) → AllMay past told
    begins_may n session command are may =
        let is = are.1 in
        let time : clock past ≡ m.clock = time_told Submitting past told m ground numbered (entry.Begin n session command) are.0 is in
        one_may past told (entry.Begin n session command) are
        (ap (λ (s : Serving). begins_well heeds past s n command) (serving_is node_is each_is requests_are taken past m.state.served all.served)
        ∙ begins_is node_is each_is requests_are taken past m.state facts (nodes_at time) all.range all.owners n session command may)

    submits_may : (event : HostEvent) → IsSubmission event → IsNext m.state event → MayAll m.state (event ∷ []) → AreTold (outs m.state event) told → AllMay past told
    submits_may event sub next may are = by event sub next may are (event_is_read brings m.state event facts may.0 ground.1.0)
      where
        by : (event : HostEvent) → IsSubmission event → IsNext m.state event → MayAll m.state (event ∷ []) → AreTold (outs m.state event) told → IsRead m.state event → AllMay past told
        by Submits_abort sub next may are read = abort_may are read
        by Submits_front sub next may are read = front_may (task_purpose m.state.requests.queue) next.0 are may.0.2
        by (Starts n plan more payload) sub next may are read =
            part_may n more payload are read may.0.0 (λ known. start_chosen node_is taken past m.state (clock past) n facts known plan more payload may.0.2.0 may.0.1)
        by (Gives_text n payload) sub next may are read =
            part_may n false payload are read may.0.0
            (λ known. text_chosen node_is taken past m.state (clock past) n facts known payload (text_runs (node_of m.state n) (facts.nodes.facts n) payload may.0.1) may.0.1)
        by (Gives_segment n more payload) sub next may are read =
            part_may n more payload are read may.0.0
            (λ known. segment_chosen node_is taken past m.state (clock past) n facts known payload (segment_runs (node_of m.state n) (facts.nodes.facts n) may.0.4) may.0.2)
        by (Begins n session command) sub next may are read = begins_may n session command are may.0
        by (Begin_unkept n) sub next may are read = one_may past told (entry.Unkept n) are refl
        by event sub next may are read = absurd sub

  -- ---- the walk

  -- an item is answered
  answer_may : (past told : List Entry) (unit : LineUnit) → is_new (asked past) (unit_text unit) ≡ false → AreTold (Write unit ∷ []) told → AllMay past told
  answer_may past told unit old (marks, rest, is, all, none) =
      unit_may past told (unit_text unit) marks (is ∙ ap (λ (l : List Entry). entry.Written Host (unit_text unit) ∷ (marks ++ l)) none ∙ ap (λ (l : List Entry). entry.Written Host (unit_text unit) ∷ l) (append-nil marks)) all
      (old_may past (unit_text unit) old)

  item_may : (past told : List Entry) (item : Item) → AreTold (answer_to item) told → AllMay past told
  item_may past told item are = item_told (λ (l : List Entry). AllMay past l) (λ l is. answer_may past l Ack refl is) (λ l is. answer_may past l Nak refl is) tt item told are

  -- where none is submitted
  other_may : (here : Phase) (past told : List Entry) (m : HostMachine) (event : HostEvent) → (here ≡ Submitting → ⊥) → BeginsNone event → AreTold (outs m.state event) told → Wrote here past told m.state event → AllMay past told
  other_may here past told m event other none are (Quietly un quiet) = quiet_may past told quiet (told_none m.state event told none are)
  other_may here past told m event other none are (Again f rest un is old quiet) =
      let begun = told_none m.state event told none are in
      let more : AllByRecursion IsNoBegin (entry.Written Host (unit_text (Framed f)) ∷ rest) = subst (AllByRecursion IsNoBegin) is begun in
      subst (AllMay past) (sym is) (old_may past (unit_text (Framed f)) old, quiet_may (past ++ entry.Written Host (unit_text (Framed f)) ∷ []) rest quiet more.1)
  other_may here past told m event other none are (Anew purpose f marks at free is new units now) = absurd (other at)

  -- which events come there
  ticks_none : (h : HostState) (event : HostEvent) (left : List HostEvent) (clock : ℕ) → TicksAt (Ticking (event ∷ left)) h clock → BeginsNone event
  ticks_none h (Begins n session command) left clock ticks = absurd ticks.0
  ticks_none h event left clock ticks = tt

  item_none : (event : HostEvent) → IsOfItem event → BeginsNone event
  item_none (Begins n session command) item = absurd item
  item_none event item = tt

  sleepers_none : SleepersAre BeginsNone
  sleepers_none = record { queues = λ n. tt; drops = λ n. tt }

  ticking_not : (left : List HostEvent) → Ticking left ≡ Submitting → ⊥
  ticking_not left is = cc

  behind_not : (left : List HostEvent) → Behind left ≡ Submitting → ⊥
  behind_not left is = cc

  sleeping_not : Sleeping ≡ Submitting → ⊥
  sleeping_not is = cc

  does_may : (here next : Phase) (past told : List Entry) (m : HostMachine) (event : HostEvent) → May here m (Does event told) next → ChoosingGround heeds here past m → AllMay past told
  does_may here next past told m event may ground = by here may ground (rest_of InTick here past m (by_else here next m.state event may.0).0 ground.0.0.0.1) (writes here next past told m event may ground.0.1.0.0 ground.0.1.0.1)
    where
      by : (here : Phase) → May here m (Does event told) next → ChoosingGround heeds here past m → TicksAt here m.state m.clock → Wrote here past told m.state event → AllMay past told
      by (Ticking (first ∷ left)) may ground ticks wrote =
          other_may (Ticking (first ∷ left)) past told m event (ticking_not (first ∷ left)) (subst BeginsNone (sym may.0.0) (ticks_none m.state first left m.clock ticks)) may.2 wrote
      by (Behind (first ∷ left)) may ground ticks wrote =
          other_may (Behind (first ∷ left)) past told m event (behind_not (first ∷ left)) (subst BeginsNone (sym may.0.0) (item_none first ticks.0)) may.2 wrote
      by Sleeping may ground ticks wrote =
          let (node, wants, is, to_is) = may.0 in other_may Sleeping past told m event sleeping_not (subst BeginsNone (sym is) (no_more_is BeginsNone sleepers_none m.state node)) may.2 wrote
      by Submitting may ground ticks wrote =
          submits_may past told m may.3 ground.0.1.0.0 ground.0.1.0.1 ground.0.1.1 ground.1 event (next_is IsSubmission submissions m.state event may.0.0) may.0.0 may.1 may.2
      by here may ground ticks wrote = absurd may.0

  others_may : (past : List Entry) (e : Entry) → IsOfOthers e → may_choose heeds past e ≡ true
  others_may past (entry.Written side unit) others = absurd others
  others_may past (entry.Begin node session command) others = absurd others
  others_may past e others = refl

  missed_may : (past marks : List Entry) → DidNotCome marks → AllMay past marks
  missed_may past (entry.Dropped Chip ∷ []) did = (refl, tt)
  missed_may past (entry.Overrun Chip ∷ []) did = (refl, tt)
  missed_may past (entry.Garbled Chip unit ∷ []) did = (refl, tt)
  missed_may past (entry.Garbled Chip unit ∷ entry.Overrun Chip ∷ []) did = (refl, (refl, tt))
  missed_may past marks did = absurd did

  answers_may : (past : List Entry) (h : HostState) (event : HostEvent) → AllMay past (answers h event)
  answers_may past h (Accepts order carriage) = (refl, tt)
  answers_may past h (Cancels command) = (refl, tt)
  answers_may past h event = tt

  step_may : (here next : Phase) (past : List Entry) (m : HostMachine) (one : Step) → May here m one next → ChoosingGround heeds here past m → AllMay past (entries m one)
  step_may here next past m (Tells e) may ground = (others_may past e may.1, tt)
  step_may here next past m (Comes unit) may ground = (refl, tt)
  step_may here next past m (Misses text marks) may ground = (refl, missed_may (past ++ entry.Written Chip text ∷ []) marks may.1)
  step_may here next past m (Says words line) may ground = (refl, tt)
  step_may here next past m (Says_nothing words) may ground = (refl, tt)
  step_may here next past m (Asks event) may ground = answers_may past m.state event
  step_may here next past m (Refuses refusal) may ground = (refl, tt)
  step_may here next past m (Shows node) may ground = (refl, tt)
  step_may here next past m (Restarts state) may ground = tt
  step_may here next past m (Begins_tick left) may ground = tt
  step_may here next past m Numbers may ground = (refl, tt)
  step_may here next past m (Judges item rest behind told) may ground = item_may past told item may.1.told_so
  step_may here next past m (Does event told) may ground = does_may here next past told m event may ground

  pub choosing_walk : WalkOver (ChoosingGround heeds) (λ past e. Unit {0}) (Allows (may_choose heeds)) (λ here past m. Unit {0})
  choosing_walk = record {
    step = λ here next past m one may ground stand known. (step_may here next past m one may ground, tt);
    turn = λ here next past m turns ground known. tt;
  }
