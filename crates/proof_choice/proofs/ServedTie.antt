-- The node that was served last by the transcript is the one that the host served last, where what waits at its requests is as it is told.
use Rattle.std.proofs.Common.{◌≡◌, ℕ, Bool, true, false, Option, Some, None, List, [], ◌∷◌, ◌++◌, map, refl, sym, ap, ◌∙◌, subst, append-nil, append_assoc}
use Rattle.std.specs.Prelude.{IsSome}
use Rattle.std.specs.List.{AllByRecursion, flat_map}
use Rattle.zw_base.proofs.Each.{all-weaker}
use Rattle.serial_frame.specs.Items.{unit_text}
use Rattle.serial_frame.specs.declared.item.Item.{Item}
use Rattle.serial_frame.specs.declared.unit.Unit.{Unit as LineUnit}
use Rattle.serial_frame.specs.declared.unit.Unit.TheVariants.{Ack, Nak, Framed}
use Rattle.chip_functions.specs.declared.request.Request.{Request}
use Rattle.s0_crypto.specs.declared.key_pair.Keys.{Keys}
use Rattle.zw_words.specs.declared.side.Side.TheVariants.{Host, Chip}
use Rattle.zw_text.specs.declared.entry.Entry.{Entry}
use Rattle.zw_text.specs.declared.entry.Entry.TheVariants as entry
use Rattle.host_heard.specs.declared.told.Told.{Told}
use Rattle.law_transcript.specs.Lists.{last_or}
use Rattle.law_transcript.specs.Nodes.{controller}
use Rattle.law_transcript.specs.Units.{Carried, sending_of}
use Rattle.law_time.specs.Heeds.{Heeds}
use Rattle.law_time.specs.Queue.{queue_before}
use Rattle.law_time.specs.Requests.{are_none, asked, is_new}
use Rattle.host_keep.specs.declared.record.Record.{Record}
use Rattle.host_keep.specs.declared.record.Record.TheVariants as records
use Rattle.host_keep.specs.declared.final_status.FinalStatus.{FinalStatus}
use Rattle.host_requests.specs.Frames.{frame_of}
use Rattle.host_requests.specs.State.{next_id}
use Rattle.host_requests.specs.declared.task.Purpose.{Purpose}
use Rattle.host_requests.specs.declared.task.Purpose.TheVariants.{Attempt, Abort}
use Rattle.host_requests.specs.declared.task.Task.{Task}
use Rattle.host_model.specs.State.{HostState, first_host}
use Rattle.host_model.specs.After.{after, task_purpose}
use Rattle.host_model.specs.Did.{MayAll}
use Rattle.host_model.specs.Events.{HostEvent, Accepts, Cancels, Requests_do, Submits_abort, Submits_front, Starts, Gives_text, Gives_segment, Begins, Begin_unkept}
use Rattle.host_model.specs.May.{IsFree}
use Rattle.host_model.specs.Opening.{restored_all}
use Rattle.host_model.specs.Outs.{answer_to, answers, outs}
use Rattle.host_model.specs.Pumping.{IsNext}
use Rattle.host_model.specs.Restoring.{ending, restored}
use Rattle.host_model.specs.declared.out.HostOut.TheVariants.{Note, Write}
use Rattle.host_model.proofs.Submitted.{next_is}
use Rattle.proof_following.specs.proof_ends.proof_rests.proof_nonces.proof_work.proof_walk.ByLine.{IsAsked}
use Rattle.proof_giving.specs.proof_queue.proof_attempts.proof_requests.proof_alone.world_model.Events.{OpensFrom}
use Rattle.proof_giving.specs.proof_queue.proof_attempts.proof_requests.law_host.Heard.{heeds_alone}
use Rattle.proof_giving.specs.proof_queue.proof_attempts.proof_requests.Asking.{doing_of}
use Rattle.proof_giving.specs.proof_queue.proof_attempts.proof_requests.Walking.{Ground as RequestsGround, IsRead, IsTied, ReadsAs}
use Rattle.proof_giving.specs.proof_queue.proof_attempts.proof_requests.proof_alone.State.{HostMachine}
use Rattle.proof_giving.specs.proof_queue.proof_attempts.proof_requests.proof_alone.Steps.{AreTold, Does, IsOfUnit}
use Rattle.proof_giving.specs.proof_queue.proof_attempts.proof_requests.proof_alone.Phases.{Phase, Resting, Submitting, IsNumbered, May}
use Rattle.proof_giving.specs.proof_queue.proof_attempts.Since.{IsLoose, Lasts}
use Rattle.proof_giving.proofs.InOrder.{is_asked}
use Rattle.proof_giving.proofs.Keeping.{GivesNoPart, served_same as event_served}
use Rattle.proof_giving.proofs.Queued.{PayloadsBring}
use Rattle.proof_giving.proofs.Requested.{Unsubmitted}
use Rattle.proof_giving.proofs.Stepping.{IsSubmission, event_is_read, submissions, time_told}
use Rattle.proof_giving.proofs.proof_attempts_Walking.{is_fresh, written_told}
use Rattle.proof_giving.proofs.Wrote.{Wrote, writes}
use Rattle.proof_giving.proofs.Wrote.Wrote.{Quietly, Again, Anew}
use Rattle.proof_giving.proofs.proof_requests_Telling.{IsQuiet}
use Rattle.proof_giving.proofs.proof_waking_Parts.{item_told}
use Rattle.proof_giving.specs.proof_queue.Waiting.{want_of_task}
use Rattle.proof_choice.specs.Served.{ServedAsTold, served_so_far}
use Rattle.proof_choice.specs.Waits.{AskingGround, WaitsAnew}
use Rattle.proof_choice.proofs.Served.{LeavesServed, served_again, served_in_vain, served_left, served_said, served_sent, served_start, served_waited}

-- ---- the host

gives_none : (event : HostEvent) → Unsubmitted event → GivesNoPart event
gives_none (Starts n plan more payload) un = absurd un
gives_none (Gives_text n payload) un = absurd un
gives_none (Gives_segment n more payload) un = absurd un
gives_none event un = tt

pub served_same : (h : HostState) (event : HostEvent) → Unsubmitted event → (after h event).served ≡ h.served
served_same h event un = event_served h event (gives_none event un)

asked_unsubmitted : (event : HostEvent) → IsAsked event → Unsubmitted event
asked_unsubmitted (Requests_do event moment) asked = absurd asked
asked_unsubmitted Submits_abort asked = absurd asked
asked_unsubmitted Submits_front asked = absurd asked
asked_unsubmitted (Starts n plan more payload) asked = absurd asked
asked_unsubmitted (Gives_text n payload) asked = absurd asked
asked_unsubmitted (Gives_segment n more payload) asked = absurd asked
asked_unsubmitted event asked = tt

-- a host that starts has served none
final_served : (h : HostState) (n session : ℕ) (status : FinalStatus) (command : Option ℕ) → (ending h n session status command).served ≡ h.served
final_served h n session status None = refl
final_served h n session status (Some command) = refl

one_restored : (h : HostState) (one : Record) → (restored h one).served ≡ h.served
one_restored h (records.Accepted command order) = refl
one_restored h (records.Final n session status) = final_served h n session status _
one_restored h one = refl

all_restored : (h : HostState) (records : List Record) → (restored_all h records).served ≡ h.served
unfolding restored_all
all_restored h [] = refl
all_restored h (one ∷ more) = all_restored (restored h one) more ∙ one_restored h one

starts_served : (keys : Keys) (records : Option (List (List ℕ))) (state : HostState) → IsSome records → OpensFrom keys records state → state.served ≡ controller
starts_served keys None state some opens = absurd (let bad : false ≡ true = some in cc)
starts_served keys (Some texts) state some (records, are, legal, is) = ap (λ (h : HostState). h.served) is ∙ all_restored (first_host keys) records

-- ---- entries

loose_leaves : (e : Entry) → IsLoose e → LeavesServed e
loose_leaves (entry.Said words) loose = absurd loose
loose_leaves (entry.Refused refusal) loose = absurd loose
loose_leaves (entry.Written Host unit) loose = absurd loose
loose_leaves e loose = tt

mark_leaves : (e : Entry) → IsOfUnit e → LeavesServed e
mark_leaves (entry.Dropped Host) mark = tt
mark_leaves (entry.Garbled Host unit) mark = tt
mark_leaves (entry.Overrun Host) mark = tt
mark_leaves e mark = absurd mark

answers_leave : (h : HostState) (event : HostEvent) → AllByRecursion LeavesServed (answers h event)
answers_leave h (Accepts order carriage) = (tt, tt)
answers_leave h (Cancels command) = (tt, tt)
answers_leave h event = tt

module _ (taken : List Entry → Carried → List Told) where
  abbrev heeds : Heeds
  heeds = heeds_alone taken

  abbrev node_so : List Entry → ℕ
  node_so past = served_so_far heeds past

  quiet_one : (past : List Entry) (e : Entry) → IsQuiet e → node_so (past ++ e ∷ []) ≡ node_so past
  quiet_one past (entry.Said words) quiet = absurd quiet
  quiet_one past (entry.Refused refusal) quiet = absurd quiet
  quiet_one past (entry.Written Host unit) quiet = served_again taken past unit (ap (λ (l : List ℕ). is_new (asked past) l) quiet)
  quiet_one past (entry.Written Chip unit) quiet = served_left taken past (entry.Written Chip unit ∷ []) (tt, tt)
  quiet_one past e quiet = served_left taken past (e ∷ []) (tt, tt)

  quiet_served : (past told : List Entry) → AllByRecursion IsQuiet told → node_so (past ++ told) ≡ node_so past
  quiet_served past [] all = ap node_so (append-nil past)
  quiet_served past (e ∷ told) all = ap node_so (sym (append_assoc past (e ∷ []) told)) ∙ quiet_served (past ++ e ∷ []) told all.1 ∙ quiet_one past e all.0

  -- a unit of the host, and what became of it
  unit_served : (past told : List Entry) (unit : List ℕ) (rest : List Entry) → told ≡ entry.Written Host unit ∷ rest → AllByRecursion LeavesServed rest → node_so (past ++ told) ≡ node_so (past ++ entry.Written Host unit ∷ [])
  unit_served past told unit rest is all =
      ap (λ (l : List Entry). node_so (past ++ l)) is ∙ ap node_so (sym (append_assoc past (entry.Written Host unit ∷ []) rest)) ∙ served_left taken (past ++ entry.Written Host unit ∷ []) rest all

  -- an item is answered: by an acknowledgement, a denial, or not
  answered : (past told : List Entry) (unit : LineUnit) → is_new (asked past) (unit_text unit) ≡ false → AreTold (Write unit ∷ []) told → node_so (past ++ told) ≡ node_so past
  answered past told unit old (marks, rest, is, all, none) =
      unit_served past told (unit_text unit) marks (is ∙ ap (λ (l : List Entry). entry.Written Host (unit_text unit) ∷ (marks ++ l)) none ∙ ap (λ (l : List Entry). entry.Written Host (unit_text unit) ∷ l) (append-nil marks))
      (all-weaker IsOfUnit LeavesServed mark_leaves marks all) ∙ served_again taken past (unit_text unit) old

  answer_served : (past told : List Entry) (item : Item) → AreTold (answer_to item) told → node_so (past ++ told) ≡ node_so past
  answer_served past told item are =
      item_told (λ (l : List Entry). node_so (past ++ l) ≡ node_so past) (λ l is. answered past l Ack refl is) (λ l is. answered past l Nak refl is) (ap node_so (append-nil past)) item told are

  -- ---- what is submitted

  module _ (past told : List Entry) (m : HostMachine) (ground : RequestsGround Submitting past m) (tie : IsTied past m) (numbered : IsNumbered m told) (waits : WaitsAnew heeds past m) (known : ServedAsTold heeds Submitting past m.state m.clock) where
    abbrev id : ℕ
    id = next_id m.state.requests.last_id

    abbrev unit_of : Purpose → List ℕ
    unit_of purpose = unit_text (Framed (frame_of purpose id))

    abbrev Puts : Purpose → Type 0
    Puts purpose = AreTold (Write (Framed (frame_of purpose id)) ∷ []) told

    up_to : (purpose : Purpose) → Puts purpose → node_so (past ++ told) ≡ node_so (past ++ entry.Written Host (unit_of purpose) ∷ [])
    up_to purpose are =
        let wrote = written_told (frame_of purpose id) told are in unit_served past told (unit_of purpose) wrote.rest wrote.are (all-weaker IsOfUnit LeavesServed mark_leaves wrote.rest wrote.marks)

    fresh : (purpose : Purpose) → IsFree m.state → is_new (asked past) (unit_of purpose) ≡ true
    fresh purpose free = is_fresh past m.clock m.came (doing_of m.state) (frame_of purpose id) free.free_line tie

    wants : (purpose : Purpose) → IsFree m.state → Puts purpose → (queue_before heeds past (entry.Written Host (unit_of purpose))).wants ≡ map want_of_task m.state.requests.queue
    wants purpose free are =
        let wrote = written_told (frame_of purpose id) told are in
        waits (unit_of purpose) (fresh purpose free) (time_told Submitting past told m ground numbered (entry.Written Host (unit_of purpose)) wrote.rest wrote.are)

    -- one that has waited; one that sends nothing; and a part of an attempt
    some_wait : (purpose : Purpose) → IsFree m.state → Puts purpose → (queue : List Task) → m.state.requests.queue ≡ queue → (queue ≡ [] → ⊥) → are_none (queue_before heeds past (entry.Written Host (unit_of purpose))).wants ≡ false
    some_wait purpose free are [] is some = absurd (some refl)
    some_wait purpose free are (task ∷ rest) is some = ap are_none (wants purpose free are ∙ ap (λ (l : List Task). map want_of_task l) is)

    sends_waiting : (purpose : Purpose) → IsFree m.state → Puts purpose → (m.state.requests.queue ≡ [] → ⊥) → node_so (past ++ told) ≡ m.state.served
    sends_waiting purpose free are some =
        up_to purpose are ∙ served_waited taken past (unit_of purpose) (fresh purpose free) (some_wait purpose free are m.state.requests.queue refl some) ∙ known

    sends_none : IsFree m.state → Puts Abort → ReadsAs m.state Abort → node_so (past ++ told) ≡ m.state.served
    sends_none free are read = up_to Abort are ∙ by (are_none (queue_before heeds past (entry.Written Host (unit_of Abort))).wants) refl ∙ known
      where
        by : (b : Bool) → are_none (queue_before heeds past (entry.Written Host (unit_of Abort))).wants ≡ b → node_so (past ++ entry.Written Host (unit_of Abort) ∷ []) ≡ node_so past
        by true none =
            served_sent taken past (unit_of Abort) (fresh Abort free) none
            ∙ ap (λ (l : List Request). last_or (node_so past) (map (λ (carried : Carried). carried.node) (flat_map sending_of l))) read
        by false some = served_waited taken past (unit_of Abort) (fresh Abort free) some

    sends_part : (k : ℕ) (more : Bool) (payload : List ℕ) → IsFree m.state → m.state.requests.queue ≡ [] → Puts (Attempt k more payload) → ReadsAs m.state (Attempt k more payload) → node_so (past ++ told) ≡ k
    sends_part k more payload free none are read =
        let purpose : Purpose = Attempt k more payload in
        up_to purpose are
        ∙ served_sent taken past (unit_of purpose) (fresh purpose free) (ap are_none (wants purpose free are ∙ ap (λ (l : List Task). map want_of_task l) none))
        ∙ ap (λ (l : List Request). last_or (node_so past) (map (λ (carried : Carried). carried.node) (flat_map sending_of l))) read

    quiet_note : (e : Entry) → LeavesServed e → AreTold (Note e ∷ []) told → node_so (past ++ told) ≡ m.state.served
    quiet_note e leaves (rest, is, none) =
        ap (λ (l : List Entry). node_so (past ++ l)) (is ∙ ap (λ (l : List Entry). e ∷ l) none) ∙ served_left taken past (e ∷ []) (leaves, tt) ∙ known

    submits : PayloadsBring → (event : HostEvent) → IsSubmission event → IsNext m.state event → MayAll m.state (event ∷ []) → AreTold (outs m.state event) told → node_so (past ++ told) ≡ (after m.state event).served
    submits brings event sub next may are = by event sub next may are (event_is_read brings m.state event ground.0.0.0.0.0.facts.host may.0 ground.1.0)
      where
        by : (event : HostEvent) → IsSubmission event → IsNext m.state event → MayAll m.state (event ∷ []) → AreTold (outs m.state event) told → IsRead m.state event → node_so (past ++ told) ≡ (after m.state event).served
        by Submits_abort sub next may are read = sends_none next.0 are read
        by Submits_front sub next may are read = sends_waiting (task_purpose m.state.requests.queue) next.0 are may.0.2
        by (Starts n plan more payload) sub next may are read = sends_part n more payload next.0 may.0.0.no_task are read
        by (Gives_text n payload) sub next may are read = sends_part n false payload next.0 may.0.0.no_task are read
        by (Gives_segment n more payload) sub next may are read = sends_part n more payload next.0 may.0.0.no_task are read
        by (Begins n session command) sub next may are read = quiet_note (entry.Begin n session command) tt are
        by (Begin_unkept n) sub next may are read = quiet_note (entry.Unkept n) tt are
        by event sub next may are read = absurd sub

  -- ---- the tie lasts

  does_served : PayloadsBring → (here next : Phase) (past told : List Entry) (m : HostMachine) (event : HostEvent) → May here m (Does event told) next → AskingGround heeds here past m
      → node_so past ≡ m.state.served → node_so (past ++ told) ≡ (after m.state event).served
  does_served brings here next past told m event may ground tie = by (writes here next past told m event may ground.0.0 ground.0.1)
    where
      by : Wrote here past told m.state event → node_so (past ++ told) ≡ (after m.state event).served
      by (Quietly un quiet) = quiet_served past told quiet ∙ tie ∙ sym (served_same m.state event un)
      by (Again f rest un are old quiet) =
          ap (λ (l : List Entry). node_so (past ++ l)) are ∙ ap node_so (sym (append_assoc past (entry.Written Host (unit_text (Framed f)) ∷ []) rest))
          ∙ quiet_served (past ++ entry.Written Host (unit_text (Framed f)) ∷ []) rest quiet ∙ served_again taken past (unit_text (Framed f)) old ∙ tie ∙ sym (served_same m.state event un)
      by (Anew purpose f marks at free are new units now) =
          let goes = subst (λ (p : Phase). May p m (Does event told) next) at may in
          let known : AskingGround heeds Submitting past m = subst (λ (p : Phase). AskingGround heeds p past m) at ground in
          submits past told m known.0.0 known.0.1 goes.3 known.1 tie brings event (next_is IsSubmission submissions m.state event goes.0.0) goes.0.0 goes.1 goes.2

  pub served_lasts : PayloadsBring → Lasts (AskingGround heeds) (ServedAsTold heeds)
  served_lasts brings = record {
    loose = λ here at past told m all numbered ground tie. served_left taken past told (all-weaker IsLoose LeavesServed loose_leaves told all) ∙ tie;
    numbers = λ here past m other ground later tie. served_left taken past (entry.Time m.clock ∷ []) (tt, tt) ∙ tie;
    said = λ past words m none ground goes_on tie. served_said taken past words goes_on ∙ tie;
    refused = λ past words line refusal m none ground later tie. served_in_vain taken past words refusal ∙ tie;
    asked = λ line past m event is may numbered ground later tie.
        served_left taken past (answers m.state event) (answers_leave m.state event) ∙ tie ∙ sym (served_same m.state event (asked_unsubmitted event (is_asked line m.state event is)));
    starts = λ before words m state opens anew ground later.
        served_start taken before words anew ∙ sym (starts_served m.keys m.records state ground.0.0.0.0.0.0.0.told opens);
    opens = λ past h clock tie. tie;
    rises = λ past m ground tie. tie;
    judges = λ past m item rest behind told now ground later tie. answer_served past told item now.told_so ∙ tie;
    does = λ here next past m event told may ground later tie. does_served brings here next past told m event may ground tie;
    turn = λ here next past m other turns ground tie. tie;
  }

-- at first
pub first_served : (h : Heeds) (keys : Keys) → ServedAsTold h Resting [] (first_host keys) 0
first_served h keys = refl
