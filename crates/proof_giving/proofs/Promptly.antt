-- At each step of a host alone, and along its runs, a third attempt that the frame that was judged ends is given up directly after it.
use Rattle.std.proofs.Common.{◌≡◌, ◌⊎◌, ℕ, ◌≤◌, not, Bool, true, false, inl, inr, List, [], ◌∷◌, ◌++◌, Option, Some, None, refl, sym, ap, ◌∙◌, subst, append-nil, append_assoc}
use Rattle.std.specs.Prelude.{IsSome, is_some}
use Rattle.std.specs.List.{AllByRecursion}
use Rattle.std.proofs.lemmas.Bool.{both_ways, or_right}
use Rattle.zw_base.proofs.Each.{all-append, all-weaker}
use Rattle.serial_frame.specs.Items.{unit_text}
use Rattle.serial_frame.specs.declared.item.Item.{Item}
use Rattle.serial_frame.specs.declared.item.Item.TheVariants.{Good, Refused as refused_item}
use Rattle.serial_frame.specs.declared.item.Refusal.TheVariants.{Stray, BadLength, BadSum, BadKind, Aborted}
use Rattle.serial_frame.specs.declared.unit.Unit.{Unit as LineUnit}
use Rattle.serial_frame.specs.declared.unit.Unit.TheVariants.{Ack, Nak, Can, Framed}
use Rattle.zw_words.specs.declared.side.Side.TheVariants.{Host, Chip}
use Rattle.chip_functions.specs.declared.notice.Update.{Update}
use Rattle.chip_functions.specs.declared.notice.Update.TheVariants.{Received, RequestFailed}
use Rattle.zw_text.specs.declared.line.Line.TheVariants as lines
use Rattle.zw_text.specs.declared.entry.Ended.TheVariants as ended
use Rattle.zw_text.specs.declared.entry.Entry.{Entry}
use Rattle.zw_text.specs.declared.entry.Entry.TheVariants as entry
use Rattle.host_heard.specs.declared.told.Told.{Told}
use Rattle.law_transcript.specs.Lists.{EachAfter}
use Rattle.law_transcript.specs.Units.{Carried}
use Rattle.law_time.specs.Heeds.{Heeds}
use Rattle.law_time.specs.Judged.{directly_step, is_acknowledgement, is_directly_after, is_mark}
use Rattle.law_time.specs.Moments.{clock}
use Rattle.law_time.specs.Unanswered.{may_give_up, owes_giving_up}
use Rattle.host_requests.specs.Events.{RequestsEvent, end_at, interviewed_by, interviewed_from}
use Rattle.host_requests.specs.Events.RequestsEvent.{CallsBack, Responds, Ticks, Updates}
use Rattle.host_requests.specs.State.{RequestsState}
use Rattle.host_requests.specs.declared.end.End.{End}
use Rattle.host_requests.specs.declared.end.How.{How}
use Rattle.host_requests.specs.declared.task.Purpose.{Purpose}
use Rattle.host_requests.specs.declared.task.Purpose.TheVariants.{Abort, Attempt, Housekeeping}
use Rattle.host_requests.specs.declared.under_way.UnderWay.{UnderWay}
use Rattle.host_node.specs.Steps.{attempt_end}
use Rattle.host_node.specs.declared.attempt.AttemptEnd.{AttemptEnd}
use Rattle.host_node.specs.declared.attempt.AttemptEnd.TheVariants.{Again, NoneRan, Unanswered}
use Rattle.host_node.specs.declared.attempt.Moment.{Moment}
use Rattle.host_node.specs.declared.attempt.Moment.TheVariants.{BeforeItsTick}
use Rattle.host_node.specs.State.{is_idle}
use Rattle.supervision.specs.Host.{open_session}
use Rattle.host_model.specs.State.{HostState, node_of}
use Rattle.host_model.specs.Sessions.{open_command}
use Rattle.host_model.specs.After.{requests_do}
use Rattle.host_model.specs.Ends.{Bad, Good as part_good, PartEnd, Passed_over, asleep_entry, attempt_entries, end_entries, end_entries_if, part_end, part_entries}
use Rattle.host_model.specs.Events.{HostEvent, Accepts, Cancels, Interview_unkept, Interviews, Line_ticks, Node_ticks, Requests_do}
use Rattle.host_model.specs.May.{May as May_event}
use Rattle.host_model.specs.Outs.{answers, outs, request_entries}
use Rattle.host_model.specs.Pumping.{no_more_event}
use Rattle.host_model.specs.Ticking.{tick_events}
use Rattle.host_model.specs.Taking.{InterviewEvents, told_requests}
use Rattle.host_model.specs.declared.out.HostOut.{HostOut}
use Rattle.host_model.specs.declared.out.HostOut.TheVariants.{Note, Write}
use Rattle.proof_host.specs.Facts.{Facts}
use Rattle.proof_host.proofs.Lists.{each-append}
use Rattle.proof_queue.specs.Heeding.{AllSteps, HeedsAs, HeedsSo}
use Rattle.proof_queue.specs.proof_attempts.proof_requests.Ends.{AreToldOf, KnowsEnds, TellsNoEnd}
use Rattle.proof_queue.specs.proof_attempts.proof_requests.Walking.{KnowsTick}
use Rattle.proof_queue.specs.proof_attempts.proof_requests.law_host.Heard.{heeds_alone}
use Rattle.proof_queue.specs.proof_attempts.proof_requests.proof_alone.Careful.{Careful}
use Rattle.proof_queue.specs.proof_attempts.proof_requests.proof_alone.Phases.{Phase, Resting, Asked, Risen, Ticking, Open, Behind, Sleeping, Submitting, IsBetween, IsJudgedNow, May, Turns}
use Rattle.proof_queue.specs.proof_attempts.proof_requests.proof_alone.Runs.{Run}
use Rattle.proof_queue.specs.proof_attempts.proof_requests.proof_alone.Runs.Run.{Begins as run_begins, Turned, Stepped}
use Rattle.proof_queue.specs.proof_attempts.proof_requests.proof_alone.State.{HostMachine, done}
use Rattle.proof_queue.specs.proof_attempts.proof_requests.proof_alone.Steps.{AreTold, DidNotCome, IsOfOthers, IsOfUnit, Step, Tells, Comes, Misses, Says, Says_nothing, Asks, Refuses, Shows, Restarts, Begins_tick, Numbers, Judges, Does, entries, happens}
use Rattle.proof_queue.specs.proof_attempts.proof_work.Doing.{IsTold}
use Rattle.proof_queue.proofs.Holding.{clock_now}
use Rattle.proof_queue.proofs.HostOuts.{OutsAre, OwnIs, SharedAre, outs_are}
use Rattle.proof_queue.proofs.Opening.{OpenLast, open_last}
use Rattle.proof_queue.proofs.Stepping.{behind_notes, first_same, not_awaiting}
use Rattle.proof_queue.proofs.proof_waking_Parts.{HearsNothing, IsFrameOr, IsNote as IsNoted, puts_frames_or, next_nothing, no_more_nothing, noted_told}
use Rattle.proof_queue.proofs.proof_waking_Settling.{directly_one}
use Rattle.proof_queue.proofs.Wrote.{chip_told}
use Rattle.proof_giving.specs.Tie.{AttemptsAs, is_for}
use Rattle.proof_giving.specs.Walking.{Grounds, KnowsAttempts, gives_sign}
use Rattle.proof_giving.proofs.Along.{is_opened}
use Rattle.proof_giving.proofs.GivesUp.{IsUnanswered, Well, ends_third}
use Rattle.proof_giving.proofs.Interviewed.{ends_other}
use Rattle.proof_giving.proofs.Prompt.{behind_free, other_free, owes_apart}
use Rattle.proof_giving.proofs.Requesting.{event_ends}
use Rattle.proof_giving.proofs.Walked.{ground}

-- ---- entries that stand apart from a frame

abbrev IsStill : Entry → Type 0
IsStill (entry.Written Host unit) = is_acknowledgement unit ≡ false
IsStill e = Unit {0}

abbrev IsNoMark : Entry → Type 0
IsNoMark (entry.Dropped Host) = ⊥
IsNoMark (entry.Garbled Host unit) = ⊥
IsNoMark (entry.Overrun Host) = ⊥
IsNoMark e = Unit {0}

abbrev Stops : List Entry → Type 0
Stops [] = Unit {0}
Stops (e ∷ more) = IsNoMark e × IsStill e × AllByRecursion IsStill more

stops_still : (told : List Entry) → Stops told → AllByRecursion IsStill told
stops_still [] stops = tt
stops_still (e ∷ told) stops = (stops.1, stops.2)

stop_first : (b : Bool) (e : Entry) → IsNoMark e → IsStill e → directly_step b e ≡ false
stop_first b (entry.Written Host unit) mark still = still
stop_first b (entry.Dropped Host) mark still = absurd mark
stop_first b (entry.Garbled Host unit) mark still = absurd mark
stop_first b (entry.Overrun Host) mark still = absurd mark
stop_first b e mark still = refl

stop_next : (e : Entry) → IsStill e → directly_step false e ≡ false
stop_next (entry.Written Host unit) still = still
stop_next (entry.Dropped Host) still = refl
stop_next (entry.Dropped Chip) still = refl
stop_next (entry.Garbled Host unit) still = refl
stop_next (entry.Garbled Chip unit) still = refl
stop_next (entry.Overrun Host) still = refl
stop_next (entry.Overrun Chip) still = refl
stop_next e still = refl

module _ (heeds : Heeds) where
  abbrev MayGive : List Entry → Entry → Type 0
  MayGive past e = may_give_up heeds past e ≡ true

  abbrev IsFree : List Entry → Type 0
  IsFree past = owes_giving_up heeds past ≡ false

  may_one : (past : List Entry) (e : Entry) → Well heeds past e → IsFree past → MayGive past e
  may_one past (entry.Said words) well free = well
  may_one past (entry.Time tick) well free = well
  may_one past (entry.Out command ended.Unanswered) well free = well
  may_one past e well free = or_right (is_mark e) (not (owes_giving_up heeds past)) (ap not free)

  rest_may : (past told : List Entry) → is_directly_after past ≡ false → EachAfter (Well heeds) past told → AllByRecursion IsStill told → EachAfter MayGive past told × (is_directly_after (past ++ told) ≡ false)
  rest_may past [] apart well still = (tt, ap is_directly_after (append-nil past) ∙ apart)
  rest_may past (e ∷ told) apart well still =
      let more = rest_may (past ++ e ∷ []) told (directly_one past e ∙ ap (λ (b : Bool). directly_step b e) apart ∙ stop_next e still.0) well.1 still.1 in
      ((may_one past e well.0 (owes_apart heeds past apart), more.0), ap is_directly_after (sym (append_assoc past (e ∷ []) told)) ∙ more.1)

  nothing_may : (past told : List Entry) → told ≡ [] → IsFree (past ++ told) → EachAfter MayGive past told × IsFree (past ++ told)
  nothing_may past told is free = (subst (EachAfter MayGive past) (sym is) tt, free)

  first_may : (past : List Entry) (e : Entry) (told : List Entry) → MayGive past e → directly_step (is_directly_after past) e ≡ false → EachAfter (Well heeds) (past ++ e ∷ []) told → AllByRecursion IsStill told
      → EachAfter MayGive past (e ∷ told) × IsFree (past ++ e ∷ told)
  first_may past e told may stops well still =
      let more = rest_may (past ++ e ∷ []) told (directly_one past e ∙ stops) well still in
      ((may, more.0), owes_apart heeds (past ++ e ∷ told) (ap is_directly_after (sym (append_assoc past (e ∷ []) told)) ∙ more.1))

  all_may : (past told : List Entry) → IsFree past → EachAfter (Well heeds) past told → Stops told → EachAfter MayGive past told × IsFree (past ++ told)
  all_may past [] free well stops = (tt, ap (λ (l : List Entry). owes_giving_up heeds l) (append-nil past) ∙ free)
  all_may past (e ∷ told) free well stops = first_may past e told (may_one past e well.0 free) (stop_first (is_directly_after past) e stops.0 stops.1) well.1 stops.2

  marks_may : (past marks : List Entry) → AllByRecursion IsOfUnit marks → EachAfter MayGive past marks
  marks_may past [] all = tt
  marks_may past (entry.Dropped Host ∷ marks) all = (refl, marks_may (past ++ entry.Dropped Host ∷ []) marks all.1)
  marks_may past (entry.Garbled Host unit ∷ marks) all = (refl, marks_may (past ++ entry.Garbled Host unit ∷ []) marks all.1)
  marks_may past (entry.Overrun Host ∷ marks) all = (refl, marks_may (past ++ entry.Overrun Host ∷ []) marks all.1)
  marks_may past (e ∷ marks) all = absurd all.0

-- ---- what the host puts out

abbrev IsNote : Entry → Type 0
IsNote (entry.Written side unit) = ⊥
IsNote (entry.Dropped side) = ⊥
IsNote (entry.Garbled side unit) = ⊥
IsNote (entry.Overrun side) = ⊥
IsNote e = Unit {0}

shared_notes : SharedAre IsNote
shared_notes = record {
  unanswered = λ command. tt;
  asleep = λ n. tt;
  done = λ n how. tt;
  uninterviewed = λ n. tt;
  neighbours = λ n nodes. tt;
  failed = λ n is_failed. tt;
  stored = λ n setting. tt;
  held = λ n. tt;
  full = λ n. tt;
}

own_notes : (event : HostEvent) → OwnIs IsNote event
own_notes (Accepts order carriage) = λ number. tt
own_notes event = tt

note_stops : (e : Entry) → IsNote e → IsNoMark e × IsStill e
note_stops (entry.Written side unit) note = absurd note
note_stops (entry.Dropped side) note = absurd note
note_stops (entry.Garbled side unit) note = absurd note
note_stops (entry.Overrun side) note = absurd note
note_stops e note = (tt, tt)

-- no acknowledgement
abbrev IsNoAck : HostOut → Type 0
IsNoAck (Write Ack) = ⊥
IsNoAck out = Unit {0}

frame_no_ack : (put : HostOut) → IsFrameOr IsNote put → IsNoAck put
frame_no_ack (Write Ack) is = absurd is
frame_no_ack put is = tt

no_acks : (h : HostState) (event : HostEvent) → HearsNothing event → AllByRecursion IsNoAck (outs h event)
no_acks h event nothing =
    all-weaker (IsFrameOr IsNote) IsNoAck frame_no_ack (outs h event) (puts_frames_or IsNote h event nothing (outs_are IsNote shared_notes h event (own_notes event)))

mark_still : (e : Entry) → IsOfUnit e → IsStill e
mark_still (entry.Dropped Host) mark = tt
mark_still (entry.Garbled Host unit) mark = tt
mark_still (entry.Overrun Host) mark = tt
mark_still e mark = absurd mark

unit_still : (unit : LineUnit) → IsNoAck (Write unit) → is_acknowledgement (unit_text unit) ≡ false
unit_still Ack no_ack = absurd no_ack
unit_still Nak no_ack = refl
unit_still Can no_ack = refl
unit_still (Framed f) no_ack = refl

stops_told : (puts : List HostOut) (told : List Entry) → OutsAre IsNote puts → AllByRecursion IsNoAck puts → AreTold puts told → Stops told
stops_told [] told notes no_ack is = subst Stops (sym is) tt
stops_told (Note e ∷ puts) told notes no_ack (rest, is, more) =
    let stops = note_stops e notes.0 in subst Stops (sym is) (stops.0, stops.1, stops_still rest (stops_told puts rest notes.1 no_ack.1 more))
stops_told (Write unit ∷ puts) told notes no_ack (marks, rest, is, marked, more) =
    subst Stops (sym is) (tt, unit_still unit no_ack.0, all-append IsStill marks rest (all-weaker IsOfUnit IsStill mark_still marks marked) (stops_still rest (stops_told puts rest notes.1 no_ack.1 more)))

noted_acks : (puts : List HostOut) → AllByRecursion IsNoted puts → AllByRecursion IsNoAck puts
noted_acks [] all = tt
noted_acks (Note e ∷ puts) all = (tt, noted_acks puts all.1)
noted_acks (Write unit ∷ puts) all = absurd all.0

event_stops : (h : HostState) (event : HostEvent) (told : List Entry) → HearsNothing event → AreTold (outs h event) told → Stops told
event_stops h event told nothing are = stops_told (outs h event) told (outs_are IsNote shared_notes h event (own_notes event)) (no_acks h event nothing) are

others_stop : (e : Entry) → IsOfOthers e → Stops (e ∷ [])
others_stop (entry.Written side unit) of = absurd of
others_stop (entry.Dropped side) of = absurd of
others_stop (entry.Garbled side unit) of = absurd of
others_stop (entry.Overrun side) of = absurd of
others_stop e of = (tt, tt, tt)

missed_still : (marks : List Entry) → DidNotCome marks → AllByRecursion IsStill marks
missed_still (entry.Dropped Chip ∷ []) did = (tt, tt)
missed_still (entry.Overrun Chip ∷ []) did = (tt, tt)
missed_still (entry.Garbled Chip unit ∷ []) did = (tt, tt)
missed_still (entry.Garbled Chip unit ∷ entry.Overrun Chip ∷ []) did = (tt, (tt, tt))
missed_still marks did = absurd did

answers_stop : (h : HostState) (event : HostEvent) → Stops (answers h event)
answers_stop h (Accepts order carriage) = (tt, tt, tt)
answers_stop h (Cancels command) = (tt, tt, tt)
answers_stop h event = tt

-- events at which nothing is judged
hears_not : (first event : HostEvent) → HearsNothing first → event ≡ first → HearsNothing event
hears_not first event nothing is = subst HearsNothing (sym is) nothing

ticks_not : (first : HostEvent) (left : List HostEvent) (past : List Entry) (m : HostMachine) → KnowsTick (first ∷ left) past m → HearsNothing first
ticks_not first left past m (inl (nodes, is, all, known)) = subst HearsNothing (sym (first_same first Line_ticks left _ is)) tt
ticks_not first left past m (inr (inl (nodes, is, all, known))) = subst HearsNothing (sym (first_same first (Requests_do Ticks BeforeItsTick) left nodes is)) tt
ticks_not (Node_ticks k) left past m (inr (inr (all, tied))) = tt
ticks_not first left past m (inr (inr (all, tied))) = absurd all.0

-- ---- what is pending behind an item

abbrev IsPending : List HostEvent → Type 0
IsPending (Requests_do event moment ∷ left) = Unit {0}
IsPending (Interviews n listens classes update ∷ left) = Unit {0}
IsPending (Interview_unkept n update ∷ left) = Unit {0}
IsPending left = ⊥

failed_none : (first : Option ℕ) (o : Option UnderWay) (c : ℕ) → interviewed_from first RequestFailed o ≡ Some c → ⊥
failed_none first None c is = let bad : ◌≡◌ {A = Option ℕ} None (Some c) = is in cc
failed_none first (Some u) c is = let bad : ◌≡◌ {A = Option ℕ} None (Some c) = is in cc

told_pending : (event : RequestsEvent) (left : List HostEvent) → left ≡ told_requests event → IsPending left
told_pending event left is = subst IsPending (sym is) tt

interview_pending : (s : RequestsState) (update : Update) (left : List HostEvent) (o : Option ℕ) → interviewed_by s update ≡ o → InterviewEvents update o left → IsPending left
interview_pending s (Received n basic generic specific classes) left (Some capability) is (inl kept) = subst IsPending (sym kept) tt
interview_pending s (Received n basic generic specific classes) left (Some capability) is (inr unkept) = subst IsPending (sym unkept) tt
interview_pending s RequestFailed left (Some capability) is events = absurd (failed_none s.first s.under_way capability is)
interview_pending s (Received n basic generic specific classes) left None is events = told_pending (Updates (Received n basic generic specific classes)) left events
interview_pending s RequestFailed left None is events = told_pending (Updates RequestFailed) left events

frame_pending : (h : HostState) (event : RequestsEvent) (left : List HostEvent) → AreToldOf h event left → IsPending left
frame_pending h (Responds response) left is = told_pending (Responds response) left is
frame_pending h (CallsBack id status) left is = told_pending (CallsBack id status) left is
frame_pending h (Updates update) left is = interview_pending h.requests update left (interviewed_by h.requests update) refl is
frame_pending h event left is = absurd is

-- ---- phases

module _ (taken : List Entry → Carried → List Told) where
  abbrev heeds : Heeds
  heeds = heeds_alone taken

  abbrev Know : Phase → List Entry → HostMachine → Type 0
  Know here past m = KnowsAttempts heeds here past m

  abbrev Ground : Phase → List Entry → HostMachine → Type 0
  Ground here past m = Grounds heeds here past m

  -- no giving up is owed, but behind an item what the host still has to hear of
  abbrev pub Owes : Phase → List Entry → HostMachine → Type 0
  Owes (Behind left) past m = IsFree heeds past ⊎ ((m.awaits ≡ false) × IsPending left)
  Owes here past m = IsFree heeds past

  abbrev Leads : Phase → List Entry → HostMachine → Step → Type 0
  Leads next past m one = EachAfter (MayGive heeds) past (entries m one) × Owes next (past ++ entries m one) (happens m one)

  facts_at : (here : Phase) (past : List Entry) (m : HostMachine) → Ground here past m → Facts past m.state
  facts_at here past m g = g.sleep.0.0.0.1.0.0.0.0.0.0.facts

  clock_at : (here : Phase) (past : List Entry) (m : HostMachine) → Ground here past m → m.awaits ≡ false → clock past ≡ m.clock
  clock_at here past m g numbered = sym (clock_now past m (ground here past m g).0.0.0.1 numbered)

  owes_to : (next here : Phase) (past : List Entry) (m : HostMachine) → next ≡ here → Owes here past m → Owes next past m
  owes_to next here past m is owes = subst (λ (p : Phase). Owes p past m) (sym is) owes

  owes_at : (here is : Phase) (past : List Entry) (m : HostMachine) → here ≡ is → Owes here past m → Owes is past m
  owes_at here is past m same owes = subst (λ (p : Phase). Owes p past m) same owes

  ground_at : (here is : Phase) (past : List Entry) (m : HostMachine) → here ≡ is → Ground here past m → Ground is past m
  ground_at here is past m same g = subst (λ (p : Phase). Ground p past m) same g

  know_at : (here is : Phase) (past : List Entry) (m : HostMachine) → here ≡ is → Know here past m → Know is past m
  know_at here is past m same known = subst (λ (p : Phase). Know p past m) same known

  -- where nothing is pending behind an item
  free_behind : (left : List HostEvent) (past : List Entry) (m : HostMachine) → Ground (Behind left) past m → Know (Behind left) past m → m.awaits ≡ false → AllByRecursion TellsNoEnd left → IsFree heeds past
  free_behind left past m g known numbered tells =
      behind_free taken past m.state (facts_at (Behind left) past m g) g.shows left m.clock m.came tells known.1 g.sleep.0.0.0.1.1 (clock_at (Behind left) past m g numbered) (λ n. gives_sign n m.state left) known.0

  -- ---- an item

  frame_owes : (behind : List HostEvent) (past : List Entry) (m : HostMachine) → Ground (Behind behind) past m → Know (Behind behind) past m → m.awaits ≡ false → Owes (Behind behind) past m
  frame_owes behind past m g known numbered = by g.sleep.0.1
    where
      by : KnowsEnds (Behind behind) past m → Owes (Behind behind) past m
      by (inl apart) = inl (free_behind behind past m g known numbered apart.0)
      by (inr (inl frame)) = inr (numbered, frame_pending m.state frame.event behind frame.told)
      by (inr (inr line)) = inr (numbered, told_pending line.event behind line.told)

  no_frame : (past told : List Entry) (puts : List HostOut) (behind : List HostEvent) (m : HostMachine) → OutsAre IsNote puts → AllByRecursion IsNoAck puts → AreTold puts told → IsFree heeds past → EachAfter (Well heeds) past told
      → EachAfter (MayGive heeds) past told × Owes (Behind behind) (past ++ told) m
  no_frame past told puts behind m notes no_ack are free well = let all = all_may heeds past told free well (stops_told puts told notes no_ack are) in (all.0, inl all.1)

  judged : (item : Item) (rest : List LineUnit) (behind : List HostEvent) (past told : List Entry) (m : HostMachine) → IsJudgedNow m item rest behind told → Ground (Behind behind) (past ++ told) (happens m (Judges item rest behind told))
      → Know (Behind behind) (past ++ told) (happens m (Judges item rest behind told)) → IsFree heeds past → EachAfter (Well heeds) past told → Leads (Behind behind) past m (Judges item rest behind told)
  judged (Good (Framed f)) rest behind past told m now later knew free well = by now.told_so
    where
      by : AreTold (Write Ack ∷ []) told → Leads (Behind behind) past m (Judges (Good (Framed f)) rest behind told)
      by (marks, more, is, marked, none) =
          let became : AllByRecursion IsOfUnit (marks ++ more) = all-append IsOfUnit marks more marked (subst (AllByRecursion IsOfUnit) (sym none) tt) in
          let numbered : m.awaits ≡ false = not_awaiting m.awaits (entry.Written Host (unit_text Ack)) told (marks ++ more) now.numbered is in (
            subst (EachAfter (MayGive heeds) past) (sym is)
                (may_one heeds past (entry.Written Host (unit_text Ack)) refl free, marks_may heeds (past ++ entry.Written Host (unit_text Ack) ∷ []) (marks ++ more) became),
            frame_owes behind (past ++ told) (happens m (Judges (Good (Framed f)) rest behind told)) later knew numbered,
          )
  judged (Good Ack) rest behind past told m now later knew free well = no_frame past told [] behind (happens m (Judges (Good Ack) rest behind told)) tt tt now.told_so free well
  judged (Good Nak) rest behind past told m now later knew free well = no_frame past told [] behind (happens m (Judges (Good Nak) rest behind told)) tt tt now.told_so free well
  judged (Good Can) rest behind past told m now later knew free well = no_frame past told [] behind (happens m (Judges (Good Can) rest behind told)) tt tt now.told_so free well
  judged (refused_item (BadSum want got)) rest behind past told m now later knew free well =
      no_frame past told (Write Nak ∷ []) behind (happens m (Judges (refused_item (BadSum want got)) rest behind told)) (tt, tt) (tt, tt) now.told_so free well
  judged (refused_item (BadKind x)) rest behind past told m now later knew free well =
      no_frame past told (Write Nak ∷ []) behind (happens m (Judges (refused_item (BadKind x)) rest behind told)) (tt, tt) (tt, tt) now.told_so free well
  judged (refused_item (Stray x)) rest behind past told m now later knew free well = no_frame past told [] behind (happens m (Judges (refused_item (Stray x)) rest behind told)) tt tt now.told_so free well
  judged (refused_item (BadLength n)) rest behind past told m now later knew free well = no_frame past told [] behind (happens m (Judges (refused_item (BadLength n)) rest behind told)) tt tt now.told_so free well
  judged (refused_item Aborted) rest behind past told m now later knew free well = no_frame past told [] behind (happens m (Judges (refused_item Aborted) rest behind told)) tt tt now.told_so free well

  -- ---- an event behind an item

  abbrev Ends_well : List Entry → List Entry → Type 0
  Ends_well past told = EachAfter (MayGive heeds) past told × IsFree heeds (past ++ told)

  -- the request ends by the frame that was judged
  module _ (past told : List Entry) (m : HostMachine) (event : RequestsEvent) (moment : Moment) (g : Ground (Behind (Requests_do event moment ∷ [])) past m) (known : Know (Behind (Requests_do event moment ∷ [])) past m)
      (numbered : m.awaits ≡ false) (later : Ground (Behind []) (past ++ told) (done m (Requests_do event moment))) (knew : Know (Behind []) (past ++ told) (done m (Requests_do event moment)))
      (are : AreTold (outs m.state (Requests_do event moment)) told) (well : EachAfter (Well heeds) past told) where
    abbrev pending_at : Phase
    pending_at = Behind (Requests_do event moment ∷ [])

    stop_all : Stops told
    stop_all = event_stops m.state (Requests_do event moment) told tt are

    none_told : told ≡ [] → Ends_well past told
    none_told is = nothing_may heeds past told is (free_behind [] (past ++ told) (done m (Requests_do event moment)) later knew numbered tt)

    other : (u : UnderWay) → m.state.requests.under_way ≡ Some u → ((n : ℕ) → is_for n u.purpose ≡ false) → Ends_well past told
    other u under none =
        all_may heeds past told
        (other_free taken past m.state (facts_at pending_at past m g) g.shows m.clock (clock_at pending_at past m g numbered) (λ n. gives_sign n m.state (Requests_do event moment ∷ [])) known.0 u under none) well stop_all

    attempt : (k : ℕ) (end : AttemptEnd) → attempt_end (node_of m.state k) ≡ end → (command : Option ℕ) → open_command (node_of m.state k) ≡ command → told ≡ attempt_entries k end command → Ends_well past told
    attempt k NoneRan is command opened all = none_told all
    attempt k Again is command opened all = none_told all
    attempt k (Unanswered fell) is (Some c) opened all =
        let wells : EachAfter (Well heeds) past (entry.Out c ended.Unanswered ∷ asleep_entry fell k) = subst (EachAfter (Well heeds) past) all well in
        let still : AllByRecursion IsStill (entry.Out c ended.Unanswered ∷ asleep_entry fell k) = subst (AllByRecursion IsStill) all (stops_still told stop_all) in
        subst (Ends_well past) (sym all) (first_may heeds past (entry.Out c ended.Unanswered) (asleep_entry fell k) wells.0 refl wells.1 still.1)
    attempt k (Unanswered fell) is None opened all = absurd (not_open (open_last (node_of m.state k)))
      where
        opens : (session : ℕ) × (open_session (node_of m.state k).book ≡ Some session)
        opens = is_opened (node_of m.state k) ((facts_at pending_at past m g).host.nodes.facts k) (ap is_idle (ends_third (node_of m.state k) (subst IsUnanswered (sym is) tt)).0)

        not_open : ((open_session (node_of m.state k).book ≡ None) × (open_command (node_of m.state k) ≡ None)) ⊎ OpenLast (node_of m.state k) → ⊥
        not_open (inl none) = let no = none.0 in let one = opens.1 in let bad : ◌≡◌ {A = Option ℕ} None (Some opens.0) = sym no ∙ one in cc
        not_open (inr at) = let one = at.opened in let bad : ◌≡◌ {A = Option ℕ} None (Some at.command) = sym opened ∙ one in cc

    part : (k : ℕ) (end : PartEnd) → told ≡ part_entries (requests_do m.state event) k end → Ends_well past told
    part k part_good all = none_told all
    part k Passed_over all = none_told all
    part k Bad all = attempt k (attempt_end (node_of m.state k)) refl (open_command (node_of m.state k)) refl all

    ended_by : (u : UnderWay) → m.state.requests.under_way ≡ Some u → (how : How) (p : Purpose) → u.purpose ≡ p → told ≡ end_entries (requests_do m.state event) (record { purpose = p; how = how }) → Ends_well past told
    ended_by u under how (Attempt k more payload) is all = part k (part_end more how) all
    ended_by u under how (Housekeeping task) is all = other u under (λ n. ap (λ (p : Purpose). is_for n p) is)
    ended_by u under how Abort is all = other u under (λ n. ap (λ (p : Purpose). is_for n p) is)

    hears_well : IsTold event → Ends_well past told
    hears_well of_told = by (end_at m.state.requests event) refl (noted_told (request_entries m.state event) told are)
      where
        by : (o : Option End) → end_at m.state.requests event ≡ o → told ≡ end_entries_if (requests_do m.state event) o → Ends_well past told
        by None is all = none_told all
        by (Some end) is all =
            let e = event_ends m.state.requests event end of_told is in
            ended_by e.u e.under e.how e.u.purpose refl (all ∙ ap (λ (x : End). end_entries (requests_do m.state event) x) e.is)

  -- an interview ends
  interview_well : (past told : List Entry) (m : HostMachine) (event : HostEvent) (left : List HostEvent) (update : Update) → IsSome (interviewed_by m.state.requests update) → Ground (Behind (event ∷ left)) past m
      → ((n : ℕ) → 1 ≤ n → n ≤ 232 → AttemptsAs (gives_sign n m.state (event ∷ left)) heeds n past m.state m.clock m.clock) → m.awaits ≡ false → EachAfter (Well heeds) past told → Stops told → Ends_well past told
  interview_well past told m event left update some g tie numbered well stops =
      let interview = ends_other m.state.requests update some in
      all_may heeds past told
      (other_free taken past m.state (facts_at (Behind (event ∷ left)) past m g) g.shows m.clock (clock_at (Behind (event ∷ left)) past m g numbered) (λ n. gives_sign n m.state (event ∷ left)) tie interview.u interview.under interview.other)
      well stops

  behind_well : (first : HostEvent) (left : List HostEvent) (past told : List Entry) (m : HostMachine) → AreTold (outs m.state first) told → May_event m.state first → Ground (Behind (first ∷ left)) past m → Know (Behind (first ∷ left)) past m
      → Ground (Behind left) (past ++ told) (done m first) → Know (Behind left) (past ++ told) (done m first) → EachAfter (Well heeds) past told → Owes (Behind (first ∷ left)) past m → Ends_well past told
  behind_well first left past told m are may g known later knew well (inl free) =
      all_may heeds past told free well
      (stops_told (outs m.state first) told (outs_are IsNote shared_notes m.state first (own_notes first)) (noted_acks (outs m.state first) (behind_notes first left past m (ground (Behind (first ∷ left)) past m g).0.0.1)) are)
  behind_well (Requests_do event moment) left past told m are may g known later knew well (inr (numbered, pending)) =
      let none : left ≡ [] = known.1.0 in
      hears_well past told m event moment (subst (λ (l : List HostEvent). Ground (Behind (Requests_do event moment ∷ l)) past m) none g)
      (subst (λ (l : List HostEvent). Know (Behind (Requests_do event moment ∷ l)) past m) none known) numbered
      (subst (λ (l : List HostEvent). Ground (Behind l) (past ++ told) (done m (Requests_do event moment))) none later)
      (subst (λ (l : List HostEvent). Know (Behind l) (past ++ told) (done m (Requests_do event moment))) none knew) are well
      (chip_told event (ground (Behind (Requests_do event moment ∷ left)) past m g).1.1.0)
  behind_well (Interviews n listens classes update) left past told m are may g known later knew well (inr (numbered, pending)) =
      interview_well past told m (Interviews n listens classes update) left update (ap (λ (o : Option ℕ). is_some o) may.1.brought) g known.0 numbered well
      (event_stops m.state (Interviews n listens classes update) told tt are)
  behind_well (Interview_unkept n update) left past told m are may g known later knew well (inr (numbered, pending)) =
      interview_well past told m (Interview_unkept n update) left update may g known.0 numbered well (event_stops m.state (Interview_unkept n update) told tt are)
  behind_well first left past told m are may g known later knew well (inr (numbered, pending)) = absurd pending

  -- ---- steps

  does_well : (here next : Phase) (past : List Entry) (m : HostMachine) (event : HostEvent) (told : List Entry) → May here m (Does event told) next → Ground here past m → Know here past m
      → Ground next (past ++ told) (done m event) → Know next (past ++ told) (done m event) → EachAfter (Well heeds) past told → Owes here past m → Leads next past m (Does event told)
  does_well (Ticking (first ∷ left)) next past m event told may g known later knew well owes =
      let all = all_may heeds past told owes well (event_stops m.state event told (hears_not first event (ticks_not first left past m g.sleep.0.0.0.1.1) may.0.0) may.2) in (all.0, owes_to next (Ticking left) (past ++ told) (done m event) may.0.1 all.1)
  does_well (Behind (first ∷ left)) next past m event told may g known later knew well owes =
      let all = behind_well first left past told m (subst (λ (e : HostEvent). AreTold (outs m.state e) told) may.0.0 may.2) (subst (λ (e : HostEvent). May_event m.state e) may.0.0 may.1.0) g known
      (subst (λ (e : HostEvent). Ground (Behind left) (past ++ told) (done m e)) may.0.0 (ground_at next (Behind left) (past ++ told) (done m event) may.0.1 later))
      (subst (λ (e : HostEvent). Know (Behind left) (past ++ told) (done m e)) may.0.0 (know_at next (Behind left) (past ++ told) (done m event) may.0.1 knew)) well owes in
      (all.0, owes_to next (Behind left) (past ++ told) (done m event) may.0.1 (inl all.1))
  does_well Sleeping next past m event told may g known later knew well owes =
      let (node, wants, is, next_sleeps) = may.0 in
      let all = all_may heeds past told owes well
      (event_stops m.state (no_more_event m.state node) told (no_more_nothing m.state node) (subst (λ (e : HostEvent). AreTold (outs m.state e) told) is may.2)) in
      (all.0, owes_to next Sleeping (past ++ told) (done m event) next_sleeps all.1)
  does_well Submitting next past m event told may g known later knew well owes =
      let all = all_may heeds past told owes well (event_stops m.state event told (next_nothing m.state event may.0.0) may.2) in (all.0, owes_to next Submitting (past ++ told) (done m event) may.0.1 all.1)
  does_well (Ticking []) next past m event told may g known later knew well owes = absurd may.0
  does_well (Behind []) next past m event told may g known later knew well owes = absurd may.0
  does_well Resting next past m event told may g known later knew well owes = absurd may.0
  does_well (Asked line) next past m event told may g known later knew well owes = absurd may.0
  does_well Risen next past m event told may g known later knew well owes = absurd may.0
  does_well Open next past m event told may g known later knew well owes = absurd may.0

  between_free : (here : Phase) (past : List Entry) (m : HostMachine) → IsBetween here → Owes here past m → IsFree heeds past
  between_free Resting past m between owes = owes
  between_free Risen past m between owes = owes
  between_free Open past m between owes = owes
  between_free here past m between owes = absurd between

  free_between : (here : Phase) (past : List Entry) (m : HostMachine) → IsBetween here → IsFree heeds past → Owes here past m
  free_between Resting past m between free = free
  free_between Risen past m between free = free
  free_between Open past m between free = free
  free_between here past m between free = absurd between

  between_well : (here next : Phase) (past told : List Entry) (m later : HostMachine) → IsBetween here → next ≡ here → Owes here past m → EachAfter (Well heeds) past told → Stops told
      → EachAfter (MayGive heeds) past told × Owes next (past ++ told) later
  between_well here next past told m later between is owes well stops =
      let all = all_may heeds past told (between_free here past m between owes) well stops in (all.0, owes_to next here (past ++ told) later is (free_between here (past ++ told) later between all.1))

  number_well : (here : Phase) (past told : List Entry) (m later : HostMachine) → m.awaits ≡ true → EachAfter (Well heeds) past told → Stops told → Owes here past m → EachAfter (MayGive heeds) past told × Owes here (past ++ told) later
  number_well (Behind left) past told m later awaits well stops (inl free) = let all = all_may heeds past told free well stops in (all.0, inl all.1)
  number_well (Behind left) past told m later awaits well stops (inr (numbered, pending)) = absurd (both_ways m.awaits numbered awaits)
  number_well Resting past told m later awaits well stops owes = all_may heeds past told owes well stops
  number_well (Asked line) past told m later awaits well stops owes = all_may heeds past told owes well stops
  number_well Risen past told m later awaits well stops owes = all_may heeds past told owes well stops
  number_well (Ticking left) past told m later awaits well stops owes = all_may heeds past told owes well stops
  number_well Open past told m later awaits well stops owes = all_may heeds past told owes well stops
  number_well Sleeping past told m later awaits well stops owes = all_may heeds past told owes well stops
  number_well Submitting past told m later awaits well stops owes = all_may heeds past told owes well stops

  to_free : (next here : Phase) (past told : List Entry) (m later : HostMachine) → next ≡ here → ((free : IsFree heeds (past ++ told)) → Owes here (past ++ told) later) → IsFree heeds past → EachAfter (Well heeds) past told → Stops told
      → EachAfter (MayGive heeds) past told × Owes next (past ++ told) later
  to_free next here past told m later is leads free well stops = let all = all_may heeds past told free well stops in (all.0, owes_to next here (past ++ told) later is (leads all.1))

  step_well : (here next : Phase) (past : List Entry) (m : HostMachine) (one : Step) → May here m one next → Ground here past m → Know here past m → Ground next (past ++ entries m one) (happens m one)
      → Know next (past ++ entries m one) (happens m one) → EachAfter (Well heeds) past (entries m one) → Owes here past m → Leads next past m one
  step_well here next past m (Tells e) may g known later knew well owes = between_well here next past (e ∷ []) m m may.0 may.3 owes well (others_stop e may.1)
  step_well here next past m (Comes unit) may g known later knew well owes = between_well here next past (entries m (Comes unit)) m (happens m (Comes unit)) may.0 may.2 owes well (tt, tt, tt)
  step_well here next past m (Misses text marks) may g known later knew well owes =
      between_well here next past (entry.Written Chip text ∷ marks) m m may.0 may.3 owes well (tt, tt, missed_still marks may.1)
  step_well here next past m (Says words line) may g known later knew well owes =
      to_free next (Asked line) past (entry.Said words ∷ []) m (happens m (Says words line)) may.3 (λ free. free) (owes_at here Resting past m may.0 owes) well (tt, tt, tt)
  step_well here next past m (Says_nothing words) may g known later knew well owes =
      to_free next Resting past (entry.Said words ∷ []) m (happens m (Says_nothing words)) (may.3 ∙ may.0) (λ free. free) (owes_at here Resting past m may.0 owes) well (tt, tt, tt)
  step_well here next past m (Asks event) (line, here_is, is, may, numbered, next_opens) g known later knew well owes =
      to_free next Open past (answers m.state event) m (done m event) next_opens (λ free. free) (owes_at here (Asked line) past m here_is owes) well (answers_stop m.state event)
  step_well here next past m (Refuses refusal) (line, here_is, why, numbered, next_opens) g known later knew well owes =
      to_free next Open past (entry.Refused refusal ∷ []) m m next_opens (λ free. free) (owes_at here (Asked line) past m here_is owes) well (tt, tt, tt)
  step_well here next past m (Shows node) may g known later knew well owes =
      to_free next Open past (entries m (Shows node)) m m may.2 (λ free. free) (owes_at here (Asked (lines.Store node)) past m may.0 owes) well (tt, tt, tt)
  step_well here next past m (Restarts state) may g known later knew well owes =
      to_free next Open past [] m (happens m (Restarts state)) may.2 (λ free. free) (owes_at here (Asked lines.Restart) past m may.0 owes) well tt
  step_well here next past m (Begins_tick left) may g known later knew well owes =
      to_free next Risen past [] m (happens m (Begins_tick left)) may.2 (λ free. free) (owes_at here Resting past m may.0 owes) well tt
  step_well here next past m Numbers may g known later knew well owes =
      let all = number_well here past (entry.Time m.clock ∷ []) m (happens m Numbers) may.0 well (tt, tt, tt) owes in (all.0, owes_to next here (past ++ entry.Time m.clock ∷ []) (happens m Numbers) may.1 all.1)
  step_well here next past m (Judges item rest behind told) may g known later knew well owes =
      let all = judged item rest behind past told m may.1 (ground_at next (Behind behind) (past ++ told) (happens m (Judges item rest behind told)) may.2 later)
      (know_at next (Behind behind) (past ++ told) (happens m (Judges item rest behind told)) may.2 knew) (owes_at here Open past m may.0 owes) well in
      (all.0, owes_to next (Behind behind) (past ++ told) (happens m (Judges item rest behind told)) may.2 all.1)
  step_well here next past m (Does event told) may g known later knew well owes = does_well here next past m event told may g known later knew well owes

  turn_well : (here next : Phase) (past : List Entry) (m : HostMachine) → Turns here m next → Owes here past m → Owes next past m
  turn_well Resting next past m is owes = owes_to next Open past m is owes
  turn_well (Asked line) next past m (inl (nothing, is)) owes = owes_to next Open past m is owes
  turn_well (Asked line) next past m (inr (ticks, line_is, is)) owes = owes_to next Resting past m is owes
  turn_well Risen next past m is owes = owes_to next (Ticking (tick_events m.state)) past m is owes
  turn_well (Ticking []) next past m is owes = owes_to next Open past m is owes
  turn_well (Ticking (first ∷ left)) next past m is owes = absurd is
  turn_well Open next past m is owes = owes_to next Sleeping past m is owes
  turn_well (Behind []) next past m is (inl free) = owes_to next Open past m is free
  turn_well (Behind []) next past m is (inr (numbered, pending)) = absurd pending
  turn_well (Behind (first ∷ left)) next past m is owes = absurd is
  turn_well Sleeping next past m is owes = owes_to next Submitting past m is.1 owes
  turn_well Submitting next past m is owes = owes_to next Resting past m is.1 owes

  -- ---- along a run

  module _ (start : HostMachine) (grounds : (here : Phase) (told : List Entry) (m : HostMachine) → Run start here told m → Ground here told m)
      (counts : (here : Phase) (told : List Entry) (m : HostMachine) → (run : Run start here told m) → Careful run → AllSteps (HeedsSo heeds) run → AllSteps (HeedsAs heeds) run → Know here told m)
      (wells : (here next : Phase) (told : List Entry) (m : HostMachine) (step : Step) → May here m step next → (run : Run start here told m) → Careful run → AllSteps (HeedsSo heeds) run → AllSteps (HeedsAs heeds) run
      → EachAfter (Well heeds) told (entries m step)) where
    pub all_prompt : {here : Phase} {told : List Entry} {m : HostMachine} → (run : Run start here told m) → Careful run → AllSteps (HeedsSo heeds) run → AllSteps (HeedsAs heeds) run
        → EachAfter (MayGive heeds) [] told × Owes here told m
    all_prompt run_begins careful sure heeded = (tt, refl)
    all_prompt {here = next} {told = told} {m = m} (Turned {here = here} turns run) careful sure heeded =
        let got = all_prompt run careful.0 sure heeded in (got.0, turn_well here next told m turns got.1)
    all_prompt {here = next} {m = later} (Stepped {here = here} {told = told} {m = m} step may all_is later_is run) careful sure heeded =
        let got = all_prompt run careful.0 sure.0 heeded.0 in
        let here_on : Run start next (told ++ entries m step) (happens m step) = Stepped step may refl refl run in
        let one = step_well here next told m step may (grounds here told m run) (counts here told m run careful.0 sure.0 heeded.0) (grounds next (told ++ entries m step) (happens m step) here_on)
        (counts next (told ++ entries m step) (happens m step) here_on careful sure heeded) (wells here next told m step may run careful.0 sure.0 heeded.0) got.1 in
        subst (λ (l : List Entry). EachAfter (MayGive heeds) [] l × Owes next l later) (sym all_is) (
          each-append (MayGive heeds) [] told (entries m step) got.0 one.0,
          subst (λ (k : HostMachine). Owes next (told ++ entries m step) k) (sym later_is) one.1,
        )
