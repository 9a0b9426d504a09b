-- A node falls asleep where its third attempt or its No More Information has ended, and wherever one of the two has: along each run of a host alone.
use Rattle.std.proofs.Common.{◌≡◌, ◌⊎◌, ℕ, ◌+◌, ◌-◌, ◌==◌, ◌&&◌, ◌||◌, not, nat_lt, Bool, true, false, if◌then◌else◌, inl, inr, List, [], ◌∷◌, ◌++◌, filter, Option, Some, None, refl, sym, ap, ◌∙◌, ap₂, subst, append-nil, append_assoc, arith}
use Rattle.std.specs.Prelude.{Result, Ok, Err}
use Rattle.std.specs.List.{AllByRecursion, list_all, list_any}
use Rattle.std.proofs.lemmas.Bool.{and_from, and_left, and_right, both_ways, eq-eqb, eqb-true, or_left, or_parts, or_right, or_from}
use Rattle.zw_base.proofs.Each.{all-right, all-weaker}
use Rattle.serial_frame.specs.Frame.{FrameParts}
use Rattle.serial_frame.specs.Items.{unit_text}
use Rattle.serial_frame.specs.declared.item.Item.{Item}
use Rattle.serial_frame.specs.declared.item.Item.TheVariants.{Good, Refused as refused_item}
use Rattle.serial_frame.specs.declared.item.Refusal.TheVariants.{Stray, BadLength, BadSum, BadKind, Aborted}
use Rattle.serial_frame.specs.declared.unit.TheConstants.{ACK, NAK}
use Rattle.serial_frame.specs.declared.unit.Unit.{Unit as LineUnit}
use Rattle.serial_frame.specs.declared.unit.Unit.TheVariants.{Ack, Nak, Can, Framed}
use Rattle.serial_link.specs.State.{pause_after, turn_ticked}
use Rattle.serial_link.specs.declared.turn.Turn.{Turn}
use Rattle.serial_link.specs.declared.turn.Turn.TheVariants.{Idle, Copied, Paused}
use Rattle.chip_functions.specs.Field.{IsNode}
use Rattle.chip_functions.specs.declared.fault.BodyFault.{BodyFault}
use Rattle.chip_functions.specs.declared.notice.Update.{Update}
use Rattle.chip_functions.specs.declared.notice.Update.TheVariants.{Received, RequestFailed}
use Rattle.chip_functions.specs.declared.notice.TransmitStatus.{TransmitStatus}
use Rattle.chip_functions.specs.declared.request.Request.{Request}
use Rattle.chip_functions.specs.declared.response.Response.{Response}
use Rattle.chip_functions.specs.declared.request.Request.TheVariants.{SendDataAbort}
use Rattle.chip_functions.specs.Request.{request_of as read_request}
use Rattle.zw_words.specs.declared.side.Side.TheVariants.{Host, Chip}
use Rattle.zw_text.specs.declared.line.Line.{Line}
use Rattle.zw_text.specs.declared.entry.Entry.{Entry}
use Rattle.zw_text.specs.declared.entry.Entry.TheVariants as entry
use Rattle.proof_work.specs.law_transcript.Units.{body_in, function_in, is_frame, read_well}
use Rattle.proof_work.specs.law_time.Ends.{ending, has_ended, is_abort, is_answered_here, is_before_failing, is_called_back, is_called_back_badly, is_ended_by_frame, is_ended_here, is_ending_here, is_given_up, is_refused_here, is_silent, calls_back, refuses}
use Rattle.proof_work.specs.law_time.Interviews.{listens}
use Rattle.proof_work.specs.law_time.Judged.{acknowledged, directly_step, is_directly_after, is_following, judged_here, notices_here}
use Rattle.proof_work.specs.law_time.Moments.{Allows, clock, now_at}
use Rattle.proof_work.specs.law_time.Requests.{Judging, are_none, asked, is_response_to, request_last}
use Rattle.proof_work.specs.law_time.Waking.{counts_awake, given_up_at, has_slept, is_awake_sleeper, is_still_awake, is_told, may_sleep, moves_on, nodes_told, owes_no_sleep, owes_sleep, owes_sleep_to_given_up, owes_sleep_to_told}
use Rattle.host_requests.specs.Events.{RequestsEvent, interviewed_by, interviewed_from}
use Rattle.host_requests.specs.Events.RequestsEvent.{CallsBack, Fails, IsSent, Responds, Ticks as request_ticks, Updates}
use Rattle.host_requests.specs.Next.{at_callback, at_response, at_sent, at_tick, at_update, end_from, end_of, purpose_ends_at_update, sent_from}
use Rattle.host_requests.specs.State.{RequestsState}
use Rattle.host_requests.specs.declared.end.How.{How}
use Rattle.host_requests.specs.declared.end.How.TheVariants.{LinkFailed}
use Rattle.host_requests.specs.declared.next.Next.{Next}
use Rattle.host_requests.specs.declared.next.Next.TheVariants.{Ends, GoesOn}
use Rattle.host_requests.specs.declared.task.Purpose.{Purpose}
use Rattle.host_requests.specs.declared.task.Purpose.TheVariants.{Housekeeping, Attempt, Abort}
use Rattle.host_requests.specs.declared.task.Task.TheVariants.{NoMore}
use Rattle.host_requests.specs.declared.under_way.Progress.{Progress}
use Rattle.host_requests.specs.declared.under_way.Progress.TheVariants.{Submitted, Sent, Answered}
use Rattle.host_requests.specs.declared.under_way.UnderWay.{UnderWay}
use Rattle.host_keep.specs.declared.final_status.FinalStatus.{FinalStatus}
use Rattle.host_keep.specs.declared.final_status.FinalStatus.TheVariants as final
use Rattle.host_node.specs.declared.attempt.Moment.TheVariants.{BeforeItsTick, BetweenTicks}
use Rattle.host_node.specs.Steps.{tick_end}
use Rattle.proof_requests.specs.host_model.State.{HostState, node_of}
use Rattle.proof_requests.specs.host_model.Sessions.{open_command}
use Rattle.proof_requests.specs.host_model.Ends.{attempt_entries, end_entries_if}
use Rattle.proof_requests.specs.host_model.After.{after, gives_up, is_full, line_ticked, requests_do}
use Rattle.proof_requests.specs.host_model.Did.{after_all}
use Rattle.proof_requests.specs.host_model.Events.{HostEvent, Accepts, Cancels, Queues, Hears, Requests_do, Interviews, Interview_unkept, Unreads, Is_unkept, Reports_old, Finishes, Offers, Gives, Spends_unread, Notifies, Resends, Hears_value, Has_no_room, Line_ticks, Node_ticks, Queues_no_more, Drops_no_more, Submits_abort, Submits_front, Starts, Gives_text, Gives_segment, Begins, Begin_unkept}
use Rattle.proof_requests.specs.host_model.Outs.{answer_to, answers, copy_out, ended_of, failing_entries, noted, outs, request_entries}
use Rattle.proof_requests.specs.host_model.Taking.{InterviewEvents, told_requests}
use Rattle.proof_requests.proofs.Submitted.{next_is}
use Rattle.proof_work.specs.world_model.Events.{shown_values}
use Rattle.proof_work.specs.proof_host.Facts.{Facts}
use Rattle.proof_requests.specs.proof_alone.State.{HostMachine}
use Rattle.proof_requests.specs.proof_alone.Steps.{AreFrames, AreTold, DidNotCome, IsOfOthers, IsOfUnit, Step, Tells, Comes, Misses, Says, Says_nothing, Asks, Refuses, Shows, Restarts, Begins_tick, Numbers, Judges, Does, entries}
use Rattle.proof_requests.specs.proof_alone.Phases.{Phase, Resting, Asked, Risen, Ticking, Open, Behind, Sleeping, Submitting, IsBetween, IsJudgedNow, IsNumbered, May}
use Rattle.proof_requests.specs.proof_alone.Runs.{WalkOver, both_know}
use Rattle.proof_requests.specs.proof_waking.Judged.{IsOfRequest, KnowsJudged, TieFrames}
use Rattle.proof_requests.proofs.HostOuts.{MayPut, outs_put}
use Rattle.proof_requests.proofs.proof_waking_Followed.{MayFollow, frame_all}
use Rattle.proof_requests.proofs.proof_waking_Parts.{NotesAlone, alone_writes, noted_told, notes_told, writes_nothing}
use Rattle.proof_requests.specs.Asking.{Doing, TieAsked, TieUnderWay, doing_of}
use Rattle.proof_requests.specs.Ends.{AreToldOf, EndsBy, EndsFrom, EndsHere, GivenUp, KnowsEnds, LineEnds, TellsNoEnd, next_at}
use Rattle.proof_requests.specs.Standing.{failing_in, standing_of, wait_in}
use Rattle.proof_requests.specs.Saying.{frame_next}
use Rattle.proof_work.specs.Work.{told_at}
use Rattle.proof_requests.specs.Walking.{Ground as RequestsGround, IsNodeTick, KnowsAsked, KnowsTick}
use Rattle.proof_requests.proofs.Doing.{IsBeside, beside_same}
use Rattle.proof_requests.proofs.EndsHere.{frame_ends_so}
use Rattle.proof_requests.proofs.EndsTold.{given_up_at as line_gives_up, silent_at}
use Rattle.proof_requests.proofs.Stepping.{IsSubmission, submissions, time_told}
use Rattle.proof_requests.proofs.Untold.{directly_one}
use Rattle.proof_requests.proofs.Walking.{line_outs}
use Rattle.proof_attempts.specs.Asleep.{IsFresh, KnowsSleep, KnowsSlept, OwesNone, TicksNode}
use Rattle.proof_attempts.specs.Carried.{CarriesOthers, UnderWayWell, nodes_of}
use Rattle.proof_attempts.specs.Since.{IsElse}
use Rattle.proof_attempts.specs.Slept.{KnowsTelling, SleepsIfTold, TieSlept}
use Rattle.proof_attempts.specs.Waking.{CountsAwake, KnowsWork}
use Rattle.proof_attempts.proofs.Counting.{told_wordless}
use Rattle.proof_attempts.proofs.Lasting.{numbered_else, rest_of}
use Rattle.proof_attempts.proofs.Late.{unended_at}
use Rattle.proof_attempts.proofs.Owing.{ArePlain, Goes, IsPlain, IsStill, Law, calm_may, first_go, given_none, mark_still, marks_may, may_stand, nothing_go, one_rested, owes_by, plain_go, untold}
use Rattle.proof_attempts.proofs.Requested.{Unsubmitted}
use Rattle.proof_attempts.proofs.Sleeping.{Known, attempt_go, ended_so, purpose_go, tick_so}
use Rattle.proof_attempts.proofs.Slept.{NoneSleeps, On, frame_tells, item_on, none_slept, on_frame, on_slept, purpose_told, tells_it, told_by}
use Rattle.proof_attempts.proofs.Wrote.{Wrote, first_same, paused_old, writes}
use Rattle.proof_attempts.proofs.Wrote.Wrote.{Quietly, Again, Anew}

-- ---- the ground

module _ (here : Phase) (past : List Entry) (m : HostMachine) (ground : KnowsSleep here past m) where
  pub telling : KnowsTelling here past m
  telling = ground.0.0.0

  pub work_of : KnowsWork here past m
  work_of = telling.0.0.0.0

  pub tables : Facts past m.state
  tables = work_of.0.0.0.0.facts

  pub requested : RequestsGround here past m
  requested = telling.1.0

  pub asks_of : KnowsAsked here past m
  asks_of = telling.1.1

  module _ (other : IsElse here) where
    pub slept : TieSlept past m.state.requests
    slept = rest_of SleepsIfTold here past m other ground.0.0.1

    pub well : UnderWayWell m.state.requests.under_way
    well = (rest_of CarriesOthers here past m other telling.0.1).asks.under_way

    known_of : Known past m.state
    known_of = record {
      begun = λ n. tables.begun n;
      owns = λ n. (tables.host.owns n).sessions;
      facts = λ n. tables.host.nodes.facts n;
      awake = λ n from to. rest_of CountsAwake here past m other telling.0.0.1 n from to;
      hears = λ n to. telling.0.0.0.1 n to;
    }

    tells_so : (u : UnderWay) → m.state.requests.under_way ≡ Some u → nodes_told (asked past).frame ≡ nodes_of u.purpose
    tells_so u is = frame_tells past m.state.requests u is well (slept.request u is)

-- ---- some of some

none_of : (test : ℕ → Bool) (l : List ℕ) → AllByRecursion IsNode l → ((n : ℕ) → IsNode n → list_any (λ one. one == n) l ≡ true → test n ≡ false) → list_any test l ≡ false
none_of test [] all each = refl
none_of test (n ∷ l) all each =
    ap (λ (b : Bool). b || list_any test l) (each n all.0 (or_left (n == n) (list_any (λ one. one == n) l) (eq-eqb n n refl)))
    ∙ none_of test l all.1 (λ k is has. each k is (or_right (n == k) (list_any (λ one. one == k) l) has))

is_node : (n : ℕ) (l : List ℕ) → AllByRecursion IsNode l → list_any (λ one. one == n) l ≡ true → IsNode n
is_node n [] all has = absurd (let bad : false ≡ true = has in cc)
is_node n (k ∷ l) all has = by (k == n) refl has (λ rest. is_node n l all.1 rest)
  where
    by : (b : Bool) → (k == n) ≡ b → (b || list_any (λ one. one == n) l) ≡ true → (list_any (λ one. one == n) l ≡ true → IsNode n) → IsNode n
    by true is has more = subst IsNode (eqb-true k n is) all.0
    by false is has more = more has

-- ---- where no node that is told is owed its sleep

not_ending : (past : List Entry) → is_ending_here past ≡ false → is_ended_by_frame past ≡ false
not_ending past none =
    let called = λ (code : ℕ). and_right (calls_back code (request_last past) (notices_here past)) (is_ending_here past) none in
    let refused = and_right (list_any refuses (judged_here past)) (is_answered_here past) (and_right (list_any (is_response_to (asked past).frame) (judged_here past)) (is_ending_here past) none) in
    or_from (is_called_back 0 past || is_called_back_badly past) (is_refused_here past)
    (or_from (is_called_back 0 past) (is_called_back_badly past) (called 0)
    (or_from (is_called_back 1 past || is_called_back 2 past || is_called_back 3 past) (is_called_back 4 past)
    (or_from (is_called_back 1 past || is_called_back 2 past) (is_called_back 3 past) (or_from (is_called_back 1 past) (is_called_back 2 past) (called 1) (called 2)) (called 3)) (called 4)))
    refused

untold_by : (past : List Entry) → (is_directly_after past ≡ true → is_ending_here past ≡ true → list_any (λ node. is_awake_sleeper node past) (nodes_told (asked past).frame) ≡ false)
    → owes_sleep_to_told past ≡ false
untold_by past none = by (is_directly_after past) (is_ending_here past) refl refl
  where
    by : (a b : Bool) → is_directly_after past ≡ a → is_ending_here past ≡ b → owes_sleep_to_told past ≡ false
    by false b directly ends = untold past directly
    by true false directly ends =
        and_left (is_directly_after past && is_ended_by_frame past) (list_any (λ node. is_awake_sleeper node past) (nodes_told (asked past).frame))
        (and_right (is_directly_after past) (is_ended_by_frame past) (not_ending past ends))
    by true true directly ends =
        and_right (is_directly_after past && is_ended_by_frame past) (list_any (λ node. is_awake_sleeper node past) (nodes_told (asked past).frame)) (none directly ends)

contrary : {A : Type 0} (b : Bool) → b ≡ false → b ≡ true → A
contrary b none is = absurd (both_ways b none is)

ends_none : (past : List Entry) → ending (asked past) ≡ [] → is_ending_here past ≡ false
ends_none past none = and_right (is_following past) (list_any (λ one. one.place == acknowledged past) (ending (asked past))) (ap (λ (l : List Judging). list_any (λ one. one.place == acknowledged past) l) none)

-- once the request is over each has slept, or listens
none_awake : (past : List Entry) (requests : RequestsState) → TieSlept past requests → requests.under_way ≡ None
    → list_any (λ node. is_awake_sleeper node past && not (has_slept node (asked past).following)) (nodes_told (asked past).frame) ≡ false
none_awake past requests tie none = none_of (λ node. is_awake_sleeper node past && not (has_slept node (asked past).following)) (nodes_told (asked past).frame) tie.nodes each
  where
    by : (n : ℕ) → (has_slept n (asked past).following ≡ true) ⊎ (listens n past ≡ true) → (is_awake_sleeper n past && not (has_slept n (asked past).following)) ≡ false
    by n (inl has) = and_right (is_awake_sleeper n past) (not (has_slept n (asked past).following)) (ap not has)
    by n (inr hears) =
        and_left (is_awake_sleeper n past) (not (has_slept n (asked past).following)) (and_right (counts_awake n past) (not (listens n past)) (ap not hears))

    each : (n : ℕ) → IsNode n → list_any (λ one. one == n) (nodes_told (asked past).frame) ≡ true → (is_awake_sleeper n past && not (has_slept n (asked past).following)) ≡ false
    each n is told = by n ((tie.each n is.0 is.1).over none told)

-- and none has, where a frame ends it here
none_fresh : (past : List Entry) (requests : RequestsState) → TieSlept past requests → requests.under_way ≡ None → IsFresh past → is_directly_after past ≡ true → is_ending_here past ≡ true
    → list_any (λ node. is_awake_sleeper node past) (nodes_told (asked past).frame) ≡ false
none_fresh past requests tie none fresh directly ends = none_of (λ node. is_awake_sleeper node past) (nodes_told (asked past).frame) tie.nodes each
  where
    by : (n : ℕ) → has_slept n (asked past).following ≡ false → (has_slept n (asked past).following ≡ true) ⊎ (listens n past ≡ true) → is_awake_sleeper n past ≡ false
    by n awake (inl has) = contrary (has_slept n (asked past).following) awake has
    by n awake (inr hears) = and_right (counts_awake n past) (not (listens n past)) (ap not hears)

    each : (n : ℕ) → IsNode n → list_any (λ one. one == n) (nodes_told (asked past).frame) ≡ true → is_awake_sleeper n past ≡ false
    each n is told = by n (fresh directly ends n told) ((tie.each n is.0 is.1).over none told)

-- so none is owed where no request that tells is ended here by the host's own
quiet_by : (past : List Entry) (requests : RequestsState) → TieSlept past requests → OwesNone past
    → ((u : UnderWay) → requests.under_way ≡ Some u → (is_ending_here past ≡ false) ⊎ (nodes_told (asked past).frame ≡ [])) → owes_sleep past ≡ false
quiet_by past requests tie none each = owes_by past (by requests.under_way refl) none.1
  where
    under : (u : UnderWay) → (is_ending_here past ≡ false) ⊎ (nodes_told (asked past).frame ≡ []) → owes_sleep_to_told past ≡ false
    under u (inl unended) = untold_by past (λ directly ends. contrary (is_ending_here past) unended ends)
    under u (inr nobody) = untold_by past (λ directly ends. ap (λ (l : List ℕ). list_any (λ node. is_awake_sleeper node past) l) nobody)

    by : (o : Option UnderWay) → requests.under_way ≡ o → owes_sleep_to_told past ≡ false
    by None is = untold_by past (none_fresh past requests tie is none.0)
    by (Some u) is = under u (each u is)

-- ---- while a request is under way no frame has ended it

abbrev Elsewhere : Phase → Type 0
Elsewhere (Behind left) = ⊥
Elsewhere (Asked line) = ⊥
Elsewhere here = Unit {0}

pub record Tied (past : List Entry) (came : List LineUnit) (h : HostState) : Type 0 where
  pub line_now : ℕ
  pub now : ℕ
  pub tie : TieAsked past line_now now came (doing_of h)

tied_at : (past : List Entry) (came : List LineUnit) (h : HostState) (line_now now : ℕ) → TieAsked past line_now now came (doing_of h) → Tied past came h
tied_at past came h line_now now tie = record { line_now = line_now; now = now; tie = tie }

tied : (here : Phase) (past : List Entry) (m : HostMachine) → Elsewhere here → KnowsAsked here past m → Tied past m.came m.state
tied Resting past m other known = tied_at past m.came m.state m.clock m.clock known
tied Risen past m other known = tied_at past m.came m.state known.before known.before known.tie
tied (Ticking left) past m other (inl (nodes, are, all, known)) = tied_at past m.came m.state known.before known.before known.tie
tied (Ticking left) past m other (inr (inl (nodes, are, all, known))) = tied_at past m.came m.state m.clock known.before known.tie
tied (Ticking left) past m other (inr (inr (all, known))) = tied_at past m.came m.state m.clock m.clock known
tied Open past m other known = tied_at past m.came m.state m.clock m.clock known
tied Sleeping past m other known = tied_at past m.came m.state m.clock m.clock known
tied Submitting past m other known = tied_at past m.came m.state m.clock m.clock known
tied (Behind left) past m other known = absurd other
tied (Asked line) past m other known = absurd other

unended_by : (past : List Entry) (line_now now : ℕ) (came : List LineUnit) (d : Doing) (u : UnderWay) → d.under_way ≡ Some u → TieAsked past line_now now came d → ending (asked past) ≡ []
unended_by past line_now now came d u is (inl none) = absurd (let nothing = none.none in let bad : None ≡ Some u = sym nothing ∙ is in cc)
unended_by past line_now now came d u is (inr (was, asks)) =
    let s = standing_of (asked past) in
    let under = subst (λ (o : Option UnderWay). TieUnderWay s line_now now (acknowledged past) d.turn d.id d.leaving o) is asks.under_way in
    ap (λ (l : List Judging). filter (λ one. list_all (nat_lt one.tick) (wait_in s) && list_all (is_before_failing one) (failing_in s)) l) under.0.unended

elsewhere_else : (here : Phase) → Elsewhere here → IsElse here
elsewhere_else (Asked line) other = absurd other
elsewhere_else here other = tt

quiet_else : (here : Phase) (past : List Entry) (m : HostMachine) → Elsewhere here → KnowsSleep here past m → OwesNone past → owes_sleep past ≡ false
quiet_else here past m other ground none =
    let it = tied here past m other (asks_of here past m ground) in
    quiet_by past m.state.requests (slept here past m ground (elsewhere_else here other)) none
    (λ u is. inl (ends_none past (unended_by past it.line_now it.now m.came (doing_of m.state) u is it.tie)))

between_elsewhere : (here : Phase) → IsBetween here → Elsewhere here
between_elsewhere Resting between = tt
between_elsewhere Risen between = tt
between_elsewhere Open between = tt
between_elsewhere (Asked line) between = absurd between
between_elsewhere (Ticking left) between = absurd between
between_elsewhere (Behind left) between = absurd between
between_elsewhere Sleeping between = absurd between
between_elsewhere Submitting between = absurd between

-- where a line is asked its words stand last
quiet_asked : (here : Phase) (line : Line) (past : List Entry) (m : HostMachine) → here ≡ Asked line → KnowsSleep here past m → OwesNone past → owes_sleep past ≡ false
quiet_asked here line past m same ground none =
    let said = subst (λ (p : Phase). KnowsAsked p past m) same (asks_of here past m ground) in
    owes_by past (untold past (ap is_directly_after said.are ∙ directly_one said.before (entry.Said said.words))) none.1

-- ---- a line, and the number of a tick

still_none : (past : List Entry) (now : ℕ) (requests : RequestsState) → TieSlept past requests → ((u : UnderWay) → requests.under_way ≡ Some u → has_ended (asked past) now ≡ false) → is_still_awake past now ≡ false
still_none past now requests tie unended = by requests.under_way refl
  where
    by : (o : Option UnderWay) → requests.under_way ≡ o → is_still_awake past now ≡ false
    by None is =
        and_right (has_ended (asked past) now) (list_any (λ node. is_awake_sleeper node past && not (has_slept node (asked past).following)) (nodes_told (asked past).frame))
        (none_awake past requests tie is)
    by (Some u) is =
        and_left (has_ended (asked past) now) (list_any (λ node. is_awake_sleeper node past && not (has_slept node (asked past).following)) (nodes_told (asked past).frame)) (unended u is)

moves_go : (past : List Entry) (e : Entry) → ((b : Bool) → directly_step b e ≡ false) → given_up_at e ≡ [] → Law past e → Goes past (e ∷ [])
moves_go past e breaks none law = first_go past e [] law (one_rested past e breaks none) tt

said_go : (here : Phase) (past : List Entry) (m : HostMachine) (words : List ℕ) → here ≡ Resting → m.left ≡ 0 → KnowsSleep here past m → OwesNone past → Goes past (entry.Said words ∷ [])
said_go here past m words same left ground none =
    let at = subst (λ (p : Phase). KnowsSleep p past m) same ground in
    let time = (work_of Resting past m at).0.0.1 in
    let now : now_at past (entry.Said words) ≡ m.clock = let all = time.asked in omega (arith, all, left) in
    let still = still_none past m.clock m.state.requests (slept Resting past m at tt) (unended_at past m.clock m.came m.state (requested Resting past m at).0.1 (asks_of Resting past m at)) in
    moves_go past (entry.Said words) (λ b. refl) refl
    (may_stand past (entry.Said words) (quiet_else Resting past m tt at none) (ap (λ (n : ℕ). is_still_awake past n) now ∙ still))

none_list : {A : Type 0} (l : List A) → not (are_none l) ≡ false → l ≡ []
none_list [] none = refl
none_list (x ∷ l) none = absurd (let bad : true ≡ false = none in cc)

not_ended : (past : List Entry) (now : ℕ) → has_ended (asked past) now ≡ false → ending (asked past) ≡ []
not_ended past now none = none_list (ending (asked past)) (or_parts _ _ (or_parts _ _ (or_parts _ _ none).0).0).0

number_go : (here : Phase) (past : List Entry) (m : HostMachine) → m.awaits ≡ true → KnowsSleep here past m → OwesNone past → Goes past (entry.Time m.clock ∷ [])
number_go here past m awaits ground none =
    let tie = slept here past m ground (numbered_else SleepsIfTold here past m awaits ground.0.0.1) in
    let unended = ground.1.0 awaits in
    let quiet = quiet_by past m.state.requests tie none (λ u is. inl (ends_none past (not_ended past (m.clock - 1) (unended u is)))) in
    moves_go past (entry.Time m.clock) (λ b. refl) refl (may_stand past (entry.Time m.clock) quiet (still_none past (m.clock - 1) m.state.requests tie unended))

-- ---- an item is judged

abort_untold : (b : Bool) (read : Result Request BodyFault) → list_any is_abort (if b then read_well read else []) ≡ true → told_by (if b then read_well read else []) ≡ []
abort_untold true (Ok SendDataAbort) is = refl
abort_untold true (Ok request) is = absurd (let bad : false ≡ true = is in cc)
abort_untold true (Err fault) is = refl
abort_untold false read is = refl

mark_given : (e : Entry) → IsOfUnit e → given_up_at e ≡ []
mark_given (entry.Dropped Host) mark = refl
mark_given (entry.Garbled Host unit) mark = refl
mark_given (entry.Overrun Host) mark = refl
mark_given e mark = absurd mark

given_marks : (past marks : List Entry) → AllByRecursion IsOfUnit marks → owes_sleep_to_given_up past ≡ false → owes_sleep_to_given_up (past ++ marks) ≡ false
given_marks past [] all none = ap owes_sleep_to_given_up (append-nil past) ∙ none
given_marks past (e ∷ marks) all none =
    ap owes_sleep_to_given_up (sym (append_assoc past (e ∷ []) marks)) ∙ given_marks (past ++ e ∷ []) marks all.1 (given_none past e (mark_given e all.0))

module _ (past marks : List Entry) (m : HostMachine) (f : FrameParts) (rest : List LineUnit) (marked : AllByRecursion IsOfUnit marks) (on : On past (entry.Written Host (ACK ∷ []) ∷ marks))
    (awake : AllByRecursion NoneSleeps (entry.Written Host (ACK ∷ []) ∷ marks)) (tie : TieSlept past m.state.requests) (carries : UnderWayWell m.state.requests.under_way)
    (ends : EndsFrom (past ++ entry.Written Host (ACK ∷ []) ∷ marks) m.state.requests.last_id (frame_next m.state.requests.last_id m.state.requests.first f) m.state.requests.under_way) where
  abbrev judged_past : List Entry
  judged_past = past ++ entry.Written Host (ACK ∷ []) ∷ marks

  fresh_by : (o : Option UnderWay) → m.state.requests.under_way ≡ o → EndsFrom judged_past m.state.requests.last_id (frame_next m.state.requests.last_id m.state.requests.first f) o
      → is_ending_here judged_past ≡ true → (n : ℕ) → is_told n (asked judged_past).frame ≡ true → has_slept n (asked judged_past).following ≡ false
  fresh_by None is (inl unended) here n told = contrary (is_ending_here judged_past) unended here
  fresh_by None is (inr abort) here n told =
      let frame : List ℕ = (asked judged_past).frame in
      let nobody : nodes_told frame ≡ [] = abort_untold (is_frame frame 0) (read_request (function_in frame) (body_in frame)) abort in
      absurd (let bad : false ≡ true = sym (ap (λ (l : List ℕ). list_any (λ one. one == n) l) nobody) ∙ told in cc)
  fresh_by (Some u) is by_frame here n told =
      let told_then : is_told n (asked past).frame ≡ true = ap (λ (frame : List ℕ). is_told n frame) (sym (on_frame past (entry.Written Host (ACK ∷ []) ∷ marks) on)) ∙ told in
      let node = is_node n (nodes_told (asked past).frame) tie.nodes told_then in
      let purpose = tells_it past m.state.requests n u is carries (tie.request u is) told_then in
      let during = (tie.each n node.0 node.1).during (ap (λ (o : Option UnderWay). told_at n o) is ∙ purpose_told n u purpose) in
      on_slept n past (entry.Written Host (ACK ∷ []) ∷ marks) on ∙ ap₂ (λ (a b : Bool). a || b) during (none_slept n (entry.Written Host (ACK ∷ []) ∷ marks) awake)

  frame_go : owes_sleep past ≡ false → Goes past (entry.Written Host (ACK ∷ []) ∷ marks)
  frame_go owes = (
    (calm_may past (entry.Written Host (ACK ∷ [])) refl owes, marks_may (past ++ entry.Written Host (ACK ∷ []) ∷ []) marks marked),
    (
      λ directly here. fresh_by m.state.requests.under_way refl ends here,
      ap owes_sleep_to_given_up (sym (append_assoc past (entry.Written Host (ACK ∷ []) ∷ []) marks))
          ∙ given_marks (past ++ entry.Written Host (ACK ∷ []) ∷ []) marks marked (given_none past (entry.Written Host (ACK ∷ [])) refl),
    ),
  )

nak_go : (past told : List Entry) → AreTold (answer_to (refused_item (BadKind 0))) told → owes_sleep past ≡ false → Goes past told
nak_go past told (marks, rest, is, all, none) owes =
    let are : told ≡ entry.Written Host (NAK ∷ []) ∷ marks = is ∙ ap (λ (l : List Entry). entry.Written Host (NAK ∷ []) ∷ (marks ++ l)) none
    ∙ ap (λ (l : List Entry). entry.Written Host (NAK ∷ []) ∷ l) (append-nil marks) in
    subst (Goes past) (sym are)
    (first_go past (entry.Written Host (NAK ∷ [])) marks (calm_may past (entry.Written Host (NAK ∷ [])) refl owes) (one_rested past (entry.Written Host (NAK ∷ [])) (λ b. refl) refl)
    (all-weaker IsOfUnit IsStill mark_still marks all))

judges_go : (past : List Entry) (m : HostMachine) (item : Item) (rest : List LineUnit) (behind : List HostEvent) (told : List Entry) → IsJudgedNow m item rest behind told → KnowsSleep Open past m → OwesNone past
    → Goes past told
judges_go past m (Good (Framed f)) rest behind told now ground none =
    let (marks, more, is, all, nothing) = now.told_so in
    let are : told ≡ entry.Written Host (ACK ∷ []) ∷ marks = is ∙ ap (λ (l : List Entry). entry.Written Host (ACK ∷ []) ∷ (marks ++ l)) nothing
    ∙ ap (λ (l : List Entry). entry.Written Host (ACK ∷ []) ∷ l) (append-nil marks) in
    let own = item_on past (Good (Framed f)) told (told_wordless m.state (Hears (Good (Framed f))) told now.told_so) now.told_so in
    let frames = subst (TieFrames past) now.takes (requested Open past m ground).0.0.1.frames in
    let time = time_told Open past told m (requested Open past m ground) now.numbered (entry.Written Host (ACK ∷ [])) marks are in
    let asks = subst (λ (l : List LineUnit). TieAsked past m.clock m.clock l (doing_of m.state)) now.takes (asks_of Open past m ground) in
    subst (Goes past) (sym are)
    (frame_go past marks m f rest all (subst (On past) are own.0) (subst (AllByRecursion NoneSleeps) are own.1) (slept Open past m ground tt) (well Open past m ground tt)
    (frame_ends_so past marks f rest m.clock (doing_of m.state) all frames time asks) (quiet_else Open past m tt ground none))
judges_go past m (Good Ack) rest behind told now ground none = nothing_go past told now.told_so none
judges_go past m (Good Nak) rest behind told now ground none = nothing_go past told now.told_so none
judges_go past m (Good Can) rest behind told now ground none = nothing_go past told now.told_so none
judges_go past m (refused_item (BadSum want got)) rest behind told now ground none = nak_go past told now.told_so (quiet_else Open past m tt ground none)
judges_go past m (refused_item (BadKind x)) rest behind told now ground none = nak_go past told now.told_so (quiet_else Open past m tt ground none)
judges_go past m (refused_item (Stray x)) rest behind told now ground none = nothing_go past told now.told_so none
judges_go past m (refused_item (BadLength n)) rest behind told now ground none = nothing_go past told now.told_so none
judges_go past m (refused_item Aborted) rest behind told now ground none = nothing_go past told now.told_so none

-- ---- what a host notes but of an end

out_plain : (command : ℕ) (status : FinalStatus) → IsPlain (entry.Out command (ended_of status))
out_plain command final.NoSupport = (tt, λ b. refl)
out_plain command final.Fail = (tt, λ b. refl)
out_plain command final.Success = (tt, λ b. refl)

plain_put : (event : HostEvent) → NotesAlone event → MayPut IsPlain event
plain_put (Requests_do event moment) alone = absurd alone
plain_put Line_ticks alone = absurd alone
plain_put (Node_ticks n) alone = absurd alone
plain_put (Interviews n listens classes update) alone = (tt, λ b. refl)
plain_put (Interview_unkept n update) alone = (tt, λ b. refl)
plain_put (Unreads n payload) alone = (tt, λ b. refl)
plain_put (Is_unkept n) alone = (tt, λ b. refl)
plain_put (Reports_old n id) alone = (tt, λ b. refl)
plain_put (Finishes n session id command status wake) alone = (out_plain command status, (λ setting. (tt, λ b. refl)), (tt, λ b. refl))
plain_put (Offers n) alone = (tt, λ b. refl)
plain_put (Gives n drawn) alone = (tt, λ b. refl)
plain_put (Spends_unread n payload) alone = (tt, λ b. refl)
plain_put (Notifies n) alone = (tt, λ b. refl)
plain_put (Resends n payload) alone = (tt, λ b. refl)
plain_put (Hears_value n setting) alone = (tt, λ b. refl)
plain_put (Has_no_room n property) alone = (tt, λ b. refl)
plain_put (Drops_no_more n) alone = (tt, λ b. refl)
plain_put (Begins n session command) alone = (tt, λ b. refl)
plain_put (Begin_unkept n) alone = (tt, λ b. refl)
plain_put event alone = tt

else_go : (past told : List Entry) (h : HostState) (event : HostEvent) → NotesAlone event → AreTold (outs h event) told → owes_sleep past ≡ false → OwesNone past → Goes past told
else_go past told h event alone are owes rest =
    plain_go past told (notes_told IsPlain (outs h event) told (writes_nothing h event (alone_writes event alone)) (outs_put IsPlain h event (plain_put event alone)) are) owes rest

-- ---- a request ends

-- it may be that nothing is told, and then the number of the tick may not stand
abbrev WhereTold : List Entry → List Entry → Type 0
WhereTold past told = (e : Entry) (more : List Entry) → told ≡ e ∷ more → is_ended_here past ≡ true

module _ (past told : List Entry) (h : HostState) (tie : TieSlept past h.requests) (carries : UnderWayWell h.requests.under_way) (none : OwesNone past) where
  abbrev EndsSo : (UnderWay → Next) → Type 0
  EndsSo next = (u : UnderWay) (how : How) → h.requests.under_way ≡ Some u → next u ≡ Ends how → (n : ℕ) → u.purpose ≡ Housekeeping (NoMore n) → WhereTold past told

  module _ (g : HostState) (known : Known past g) (next : UnderWay → Next) (ends : EndsSo next) where
    next_go : (u : UnderWay) → h.requests.under_way ≡ Some u → (n : Next) → next u ≡ n → told ≡ end_entries_if g (end_of u n) → Goes past told
    next_go u is (GoesOn progress) same are = nothing_go past told are none
    next_go u is (Ends how) same are =
        purpose_go past g known told u.purpose how (subst UnderWayWell is carries) (frame_tells past h.requests u is carries (tie.request u is)) (λ n purpose. ends u how is same n purpose) none are

    end_go : (o : Option UnderWay) → h.requests.under_way ≡ o → told ≡ end_entries_if g (end_from next o) → Goes past told
    end_go None is are = nothing_go past told are none
    end_go (Some u) is are = next_go u is (next u) refl are

requests_known : (past : List Entry) (h : HostState) (requests : RequestsState) → Known past h → Known past (record h { requests = requests })
requests_known past h requests known = record { begun = known.begun; owns = known.owns; facts = known.facts; awake = known.awake; hears = known.hears }

ticked_known : (past : List Entry) (h : HostState) → Known past h → Known past (line_ticked h)
ticked_known past h known = record { begun = known.begun; owns = known.owns; facts = known.facts; awake = known.awake; hears = known.hears }

as_told : (past : List Entry) (id n : ℕ) (how : How) (purpose : Purpose) → purpose ≡ Housekeeping (NoMore n) → EndsHere past id purpose how → is_ended_here past ≡ true
as_told past id n how purpose is ends = ended_so past id n how (subst (λ (p : Purpose). EndsHere past id p how) is ends)

-- ---- in a tick

module _ (first : HostEvent) (left : List HostEvent) (past told : List Entry) (m : HostMachine) (ground : KnowsSleep (Ticking (first ∷ left)) past m) (none : OwesNone past) (numbered : IsNumbered m told) where
  quiet_tick : owes_sleep past ≡ false
  quiet_tick = quiet_else (Ticking (first ∷ left)) past m tt ground none

  time_tick : (e : Entry) (more : List Entry) → told ≡ e ∷ more → clock past ≡ m.clock
  time_tick e more are = time_told (Ticking (first ∷ left)) past told m (requested (Ticking (first ∷ left)) past m ground) numbered e more are

  tie_tick : TieSlept past m.state.requests
  tie_tick = slept (Ticking (first ∷ left)) past m ground tt

  well_tick : UnderWayWell m.state.requests.under_way
  well_tick = well (Ticking (first ∷ left)) past m ground tt

  known_tick : Known past m.state
  known_tick = known_of (Ticking (first ∷ left)) past m ground tt

  line_asks : (more : List HostEvent) → first ∷ left ≡ Line_ticks ∷ more → both_know RequestsGround KnowsAsked (Ticking (Line_ticks ∷ more)) past m
  line_asks more is =
      subst (λ (l : List HostEvent). both_know RequestsGround KnowsAsked (Ticking l) past m) is (requested (Ticking (first ∷ left)) past m ground, asks_of (Ticking (first ∷ left)) past m ground)

  fails_go : (more : List HostEvent) → first ∷ left ≡ Line_ticks ∷ more → (b : Bool) → gives_up m.state.side.turn (turn_ticked m.state.side.turn) ≡ b → told ≡ failing_entries b (line_ticked m.state) → Goes past told
  fails_go more is false gives are = nothing_go past told are none
  fails_go more is true gives are =
      end_go past told m.state tie_tick well_tick none (requests_do (line_ticked m.state) Fails) (requests_known past (line_ticked m.state) _ (ticked_known past m.state known_tick)) (λ u. Ends LinkFailed)
      (λ u how under same n purpose e rest told_is.
      as_told past m.state.requests.last_id n LinkFailed u.purpose purpose (line_gives_up past m more u (line_asks more is) (time_tick e rest told_is) under gives))
      m.state.requests.under_way refl are

  copied_go : (before : ℕ) → AreFrames m.came → TieAsked past before before m.came (doing_of m.state) → (f : FrameParts) (copies ticks : ℕ) → m.state.side.turn ≡ Paused f copies ticks
      → AreTold (line_outs m.state (Paused f copies ticks)) told → Goes past told
  copied_go before frames tie f copies ticks turn_is are = by (ticks + 1 == pause_after copies) are
    where
      by : (b : Bool)
          → AreTold (copy_out (if b then Some f else None) ++ noted (failing_entries (gives_up (Paused f copies ticks) (if b then Copied f (copies + 1) 0 else Paused f copies (ticks + 1))) (line_ticked m.state))) told
          → Goes past told
      by true (marks, rest, is, all, nothing) =
          let unit : List ℕ = unit_text (Framed f) in
          let are : told ≡ entry.Written Host unit ∷ marks = is ∙ ap (λ (l : List Entry). entry.Written Host unit ∷ (marks ++ l)) nothing
          ∙ ap (λ (l : List Entry). entry.Written Host unit ∷ l) (append-nil marks) in
          let old = paused_old (Ticking (first ∷ left)) past told m before frames tie f copies ticks turn_is in
          subst (Goes past) (sym are)
          (first_go past (entry.Written Host unit) marks
          (may_stand past (entry.Written Host unit) quiet_tick (and_left (moves_on past (entry.Written Host unit)) (is_still_awake past (now_at past (entry.Written Host unit))) old))
          (one_rested past (entry.Written Host unit) (λ b. refl) refl) (all-weaker IsOfUnit IsStill mark_still marks all))
      by false is = nothing_go past told is none

  line_go : (more : List HostEvent) → first ∷ left ≡ Line_ticks ∷ more → (before : ℕ) → AreFrames m.came → TieAsked past before before m.came (doing_of m.state) → (turn : Turn) → m.state.side.turn ≡ turn
      → AreTold (line_outs m.state turn) told → Goes past told
  line_go more is before frames tie Idle turn_is are = nothing_go past told are none
  line_go more is before frames tie (Copied f copies ticks) turn_is are =
      let gives : Bool = gives_up (Copied f copies ticks) (turn_ticked (Copied f copies ticks)) in
      fails_go more is gives (ap (λ (t : Turn). gives_up t (turn_ticked t)) turn_is) (noted_told (failing_entries gives (line_ticked m.state)) told are)
  line_go more is before frames tie (Paused f copies ticks) turn_is are = copied_go before frames tie f copies ticks turn_is are

  silent_go : (more : List HostEvent) → first ∷ left ≡ Requests_do request_ticks BeforeItsTick ∷ more → AreTold (outs m.state (Requests_do request_ticks BeforeItsTick)) told → Goes past told
  silent_go more is are =
      end_go past told m.state tie_tick well_tick none (requests_do m.state request_ticks) (requests_known past m.state _ known_tick) at_tick
      (λ u how under same n purpose e rest told_is.
      as_told past m.state.requests.last_id n how u.purpose purpose
      (silent_at past m more u how (subst (λ (l : List HostEvent). KnowsAsked (Ticking l) past m) is (asks_of (Ticking (first ∷ left)) past m ground)) (time_tick e rest told_is) under same))
      m.state.requests.under_way refl (noted_told (request_entries m.state request_ticks) told are)

  node_go : (event : HostEvent) → IsNodeTick event → TicksNode event → AreTold (outs m.state event) told → Goes past told
  node_go (Node_ticks n) node is are =
      attempt_go past m.state known_tick told n (tick_end (node_of m.state n)) is quiet_tick none (tick_so (node_of m.state n))
      (noted_told (attempt_entries n (tick_end (node_of m.state n)) (open_command (node_of m.state n))) told are)
  node_go event node is are = absurd node

  tick_go : (event : HostEvent) → event ≡ first → AreTold (outs m.state event) told → KnowsTick (first ∷ left) past m → Goes past told
  tick_go event is are (inl (nodes, these, all, known)) =
      let line_is : event ≡ Line_ticks = is ∙ first_same first Line_ticks left (Requests_do request_ticks BeforeItsTick ∷ nodes) these in
      line_go (Requests_do request_ticks BeforeItsTick ∷ nodes) these known.before (requested (Ticking (first ∷ left)) past m ground).0.1 known.tie m.state.side.turn refl
      (subst (λ (e : HostEvent). AreTold (outs m.state e) told) line_is are)
  tick_go event is are (inr (inl (nodes, these, all, known))) =
      let request_is : event ≡ Requests_do request_ticks BeforeItsTick = is ∙ first_same first (Requests_do request_ticks BeforeItsTick) left nodes these in
      silent_go nodes these (subst (λ (e : HostEvent). AreTold (outs m.state e) told) request_is are)
  tick_go event is are (inr (inr (all, known))) = node_go event (subst IsNodeTick (sym is) all.0) (subst TicksNode (sym is) ground.1.1.0) are

-- ---- behind an item

-- an event that leaves the request, and at which no sleep is told
abbrev IsQuietly : HostEvent → Type 0
IsQuietly event = IsBeside event × NotesAlone event

quietly_of : (unit : List ℕ) (event : HostEvent) → MayFollow unit event → TellsNoEnd event → IsQuietly event
quietly_of unit (Hears item) follows none = absurd none
quietly_of unit (Requests_do event moment) follows none = absurd none
quietly_of unit (Interviews n listens classes update) follows none = absurd none
quietly_of unit (Interview_unkept n update) follows none = absurd none
quietly_of unit Line_ticks follows none = absurd none
quietly_of unit (Queues task) follows none = absurd follows
quietly_of unit (Node_ticks n) follows none = absurd follows
quietly_of unit Submits_abort follows none = absurd follows
quietly_of unit Submits_front follows none = absurd follows
quietly_of unit (Starts n plan more payload) follows none = absurd follows
quietly_of unit (Gives_text n payload) follows none = absurd follows
quietly_of unit (Gives_segment n more payload) follows none = absurd follows
quietly_of unit event follows none = (tt, tt)

all_quietly : (unit : List ℕ) (left : List HostEvent) → AllByRecursion (MayFollow unit) left → AllByRecursion TellsNoEnd left → AllByRecursion IsQuietly left
all_quietly unit [] follow none = tt
all_quietly unit (event ∷ left) follow none = (quietly_of unit event follow.0 none.0, all_quietly unit left follow.1 none.1)

not_of_request : (event : HostEvent) → IsOfRequest event → TellsNoEnd event → ⊥
not_of_request (Requests_do event moment) requests none = none
not_of_request event requests none = requests

none_requests : (left : List HostEvent) → AllByRecursion IsOfRequest left → AllByRecursion TellsNoEnd left → AllByRecursion IsQuietly left
none_requests [] requests none = tt
none_requests (event ∷ left) requests none = absurd (not_of_request event requests.0 none.0)

behind_quietly : (left : List HostEvent) (past : List Entry) (m : HostMachine) → KnowsJudged (Behind left) past m → AllByRecursion TellsNoEnd left → AllByRecursion IsQuietly left
behind_quietly left past m (frames, inl behind) none =
    let unit : List ℕ = unit_text (Framed behind.frame.frame) in
    all_quietly unit left (all-right (MayFollow unit) behind.frame.gone left (frame_all behind.frame.first behind.frame.frame (behind.frame.gone ++ left) behind.frame.followed)) none
behind_quietly left past m (frames, inr (requests, settled)) none = none_requests left requests none

beside_all : (h : HostState) (left : List HostEvent) → AllByRecursion IsQuietly left → doing_of (after_all h left) ≡ doing_of h
beside_all h [] all = refl
beside_all h (event ∷ left) all = beside_all (after h event) left all.1 ∙ beside_same h event all.0.0

-- which task a purpose that tells is
nobody_by : (p : Purpose) → ((n : ℕ) → p ≡ Housekeeping (NoMore n) → ⊥) → nodes_of p ≡ []
nobody_by (Housekeeping (NoMore n)) none = absurd (none n refl)
nobody_by (Housekeeping task) none = refl
nobody_by (Attempt n more payload) none = refl
nobody_by Abort none = refl

-- an interview that ends well ends no request that tells
untold_update : (first : Option ℕ) (update : Update) (u : UnderWay) (n capability : ℕ) → u.purpose ≡ Housekeeping (NoMore n) → interviewed_from first update (Some u) ≡ Some capability → ⊥
untold_update first RequestFailed u n capability is brought = let bad = brought in cc
untold_update first (Received from basic generic specific classes) u n capability is brought =
    let none : (if purpose_ends_at_update (Received from basic generic specific classes) u.purpose then first else None) ≡ None
    = ap (λ (p : Purpose). if purpose_ends_at_update (Received from basic generic specific classes) p then first else None) is in
    let bad : None ≡ Some capability = sym none ∙ brought in cc

-- the frame of one that tells is acknowledged, and it goes on
sent_goes : (n : ℕ) (progress : Progress) (how : How) → sent_from (Housekeeping (NoMore n)) progress ≡ Ends how → ⊥
sent_goes n Submitted how is = let bad = is in cc
sent_goes n (Sent left) how is = let bad = is in cc
sent_goes n (Answered sent left) how is = let bad = is in cc

sent_ends_none : (u : UnderWay) (n : ℕ) (how : How) → u.purpose ≡ Housekeeping (NoMore n) → at_sent u ≡ Ends how → ⊥
sent_ends_none u n how is ends = sent_goes n u.progress how (subst (λ (p : Purpose). sent_from p u.progress ≡ Ends how) is ends)

given_up_so : (past : List Entry) (now id n : ℕ) (purpose : Purpose) → clock past ≡ now → GivenUp past now id purpose → is_ended_here past ≡ true
given_up_so past now id n purpose time it =
    or_right (is_ended_by_frame past || is_silent past) (is_given_up past)
    (ap (λ (l : List ℕ). list_any (λ tick. tick == clock past) l) it.gives_up ∙ ap (λ (b : Bool). b || false) (eq-eqb now (clock past) (sym time)))

module _ (first : HostEvent) (left : List HostEvent) (past told : List Entry) (m : HostMachine) (ground : KnowsSleep (Behind (first ∷ left)) past m) (none : OwesNone past) (numbered : IsNumbered m told)
    (are : AreTold (outs m.state first) told) where
  tie_behind : TieSlept past m.state.requests
  tie_behind = slept (Behind (first ∷ left)) past m ground tt

  well_behind : UnderWayWell m.state.requests.under_way
  well_behind = well (Behind (first ∷ left)) past m ground tt

  known_behind : Known past m.state
  known_behind = known_of (Behind (first ∷ left)) past m ground tt

  time_behind : (e : Entry) (more : List Entry) → told ≡ e ∷ more → clock past ≡ m.clock
  time_behind e more is = time_told (Behind (first ∷ left)) past told m (requested (Behind (first ∷ left)) past m ground) numbered e more is

  told_at_first : (event : HostEvent) → first ≡ event → AreTold (outs m.state event) told
  told_at_first event is = subst (λ (e : HostEvent). AreTold (outs m.state e) told) is are

  -- nothing of a request
  apart_go : AllByRecursion TellsNoEnd (first ∷ left) → Goes past told
  apart_go all =
      let quietly = behind_quietly (first ∷ left) past m (requested (Behind (first ∷ left)) past m ground).0.0.1 all in
      let tie : TieAsked past m.clock m.clock m.came (doing_of m.state) =
      subst (TieAsked past m.clock m.clock m.came) (beside_all m.state (first ∷ left) quietly) (asks_of (Behind (first ∷ left)) past m ground) in
      else_go past told m.state first quietly.0.1 are
      (quiet_by past m.state.requests tie_behind none (λ u is. inl (ends_none past (unended_by past m.clock m.clock m.came (doing_of m.state) u is tie)))) none

  abbrev ByEvent : (UnderWay → Next) → Type 0
  ByEvent next = EndsFrom past m.state.requests.last_id next m.state.requests.under_way

  ends_by : (next : UnderWay → Next) → ByEvent next → EndsSo past told m.state tie_behind well_behind none next
  ends_by next ends u how under same n purpose e more told_is =
      as_told past m.state.requests.last_id n how u.purpose purpose
      (subst (EndsBy past m.state.requests.last_id u) same (subst (EndsFrom past m.state.requests.last_id next) under ends))

  responds_go : (r : Response) → first ≡ Requests_do (Responds r) BetweenTicks → ByEvent (at_response r) → Goes past told
  responds_go r is ends =
      end_go past told m.state tie_behind well_behind none (requests_do m.state (Responds r)) (requests_known past m.state _ known_behind) (at_response r) (ends_by (at_response r) ends)
      m.state.requests.under_way refl (noted_told (request_entries m.state (Responds r)) told (told_at_first (Requests_do (Responds r) BetweenTicks) is))

  calls_go : (id : ℕ) (status : TransmitStatus) → first ≡ Requests_do (CallsBack id status) BetweenTicks → ByEvent (at_callback m.state.requests.last_id id status) → Goes past told
  calls_go id status is ends =
      end_go past told m.state tie_behind well_behind none (requests_do m.state (CallsBack id status)) (requests_known past m.state _ known_behind) (at_callback m.state.requests.last_id id status)
      (ends_by (at_callback m.state.requests.last_id id status) ends) m.state.requests.under_way refl
      (noted_told (request_entries m.state (CallsBack id status)) told (told_at_first (Requests_do (CallsBack id status) BetweenTicks) is))

  updates_go : (update : Update) → first ≡ Requests_do (Updates update) BetweenTicks → ByEvent (at_update m.state.requests.first update) → Goes past told
  updates_go update is ends =
      end_go past told m.state tie_behind well_behind none (requests_do m.state (Updates update)) (requests_known past m.state _ known_behind) (at_update m.state.requests.first update)
      (ends_by (at_update m.state.requests.first update) ends) m.state.requests.under_way refl
      (noted_told (request_entries m.state (Updates update)) told (told_at_first (Requests_do (Updates update) BetweenTicks) is))

  -- an interview ends
  interview_go : (event : HostEvent) (update : Update) (capability : ℕ) → first ≡ event → NotesAlone event → interviewed_by m.state.requests update ≡ Some capability → Goes past told
  interview_go event update capability is tells brought =
      else_go past told m.state event tells (told_at_first event is)
      (quiet_by past m.state.requests tie_behind none (λ u under.
      inr (tells_so (Behind (first ∷ left)) past m ground tt u under
      ∙ nobody_by u.purpose (λ n purpose. untold_update m.state.requests.first update u n capability purpose
      (subst (λ (o : Option UnderWay). interviewed_from m.state.requests.first update o ≡ Some capability) under brought))))) none

  informed_go : (update : Update) (brought : Option ℕ) → interviewed_by m.state.requests update ≡ brought → InterviewEvents update brought (first ∷ left) → ByEvent (at_update m.state.requests.first update)
      → Goes past told
  informed_go (Received n basic generic specific classes) (Some capability) is (inl these) ends =
      interview_go _ (Received n basic generic specific classes) capability (first_same first _ left [] these) tt is
  informed_go (Received n basic generic specific classes) (Some capability) is (inr these) ends =
      interview_go _ (Received n basic generic specific classes) capability (first_same first _ left [] these) tt is
  informed_go RequestFailed (Some capability) is these ends = absurd (let bad : first ∷ left ≡ [] = these in cc)
  informed_go (Received n basic generic specific classes) None is these ends = updates_go (Received n basic generic specific classes) (first_same first _ left [] these) ends
  informed_go RequestFailed None is these ends = updates_go RequestFailed (first_same first _ left [] these) ends

  framed_go : (event : RequestsEvent) → AreToldOf m.state event (first ∷ left) → EndsFrom past m.state.requests.last_id (next_at m.state.requests event) m.state.requests.under_way → Goes past told
  framed_go (Responds r) these ends = responds_go r (first_same first _ left [] these) ends
  framed_go (CallsBack id status) these ends = calls_go id status (first_same first _ left [] these) ends
  framed_go (Updates update) these ends = informed_go update (interviewed_by m.state.requests update) refl these ends
  framed_go event these ends = absurd these

  -- the line tells
  fails_so : (o : Option UnderWay) → m.state.requests.under_way ≡ o → LineEnds past m.clock m.state.requests.last_id Fails o → EndsSo past told m.state tie_behind well_behind none (λ u. Ends LinkFailed)
  fails_so None is ends u how under same n purpose e more told_is = absurd (let bad : None ≡ Some u = sym is ∙ under in cc)
  fails_so (Some v) is ends u how under same n purpose e more told_is = given_up_so past m.clock m.state.requests.last_id n v.purpose (time_behind e more told_is) ends

  lined_go : (event : RequestsEvent) → first ∷ left ≡ told_requests event → LineEnds past m.clock m.state.requests.last_id event m.state.requests.under_way → Goes past told
  lined_go IsSent these ends =
      end_go past told m.state tie_behind well_behind none (requests_do m.state IsSent) (requests_known past m.state _ known_behind) at_sent
      (λ u how under same n purpose e more told_is. absurd (sent_ends_none u n how purpose same)) m.state.requests.under_way refl
      (noted_told (request_entries m.state IsSent) told (told_at_first (Requests_do IsSent BetweenTicks) (first_same first _ left [] these)))
  lined_go Fails these ends =
      end_go past told m.state tie_behind well_behind none (requests_do m.state Fails) (requests_known past m.state _ known_behind) (λ u. Ends LinkFailed)
      (fails_so m.state.requests.under_way refl ends) m.state.requests.under_way refl
      (noted_told (request_entries m.state Fails) told (told_at_first (Requests_do Fails BetweenTicks) (first_same first _ left [] these)))
  lined_go event these ends = absurd ends

  behind_go : KnowsEnds (Behind (first ∷ left)) past m → Goes past told
  behind_go (inl (all, owes)) = apart_go all
  behind_go (inr (inl by_frame)) = framed_go by_frame.event by_frame.told by_frame.ends
  behind_go (inr (inr by_line)) = lined_go by_line.event by_line.told by_line.ends

-- ---- in a pump

sleeper_quiet : (full : Bool) (n : ℕ) → NotesAlone (if full then Drops_no_more n else Queues_no_more n)
sleeper_quiet true n = tt
sleeper_quiet false n = tt

begins_quiet : (event : HostEvent) → IsSubmission event → Unsubmitted event → NotesAlone event
begins_quiet (Begins n session command) sub un = tt
begins_quiet (Begin_unkept n) sub un = tt
begins_quiet Submits_abort sub un = absurd un
begins_quiet Submits_front sub un = absurd un
begins_quiet (Starts n plan more payload) sub un = absurd un
begins_quiet (Gives_text n payload) sub un = absurd un
begins_quiet (Gives_segment n more payload) sub un = absurd un
begins_quiet event sub un = absurd sub

submit_go : (past told : List Entry) (m : HostMachine) (event : HostEvent) → IsSubmission event → AreTold (outs m.state event) told → KnowsSleep Submitting past m → OwesNone past
    → Wrote Submitting past told m.state event → Goes past told
submit_go past told m event sub are ground none (Quietly un quiet) = else_go past told m.state event (begins_quiet event sub un) are (quiet_else Submitting past m tt ground none) none
submit_go past told m event sub are ground none (Again f rest un is old quiet) = else_go past told m.state event (begins_quiet event sub un) are (quiet_else Submitting past m tt ground none) none
submit_go past told m event sub are ground none (Anew purpose f marks here_is free is new all now) =
    let e : Entry = entry.Written Host (unit_text (Framed f)) in
    let still = still_none past (now_at past e) m.state.requests (slept Submitting past m ground tt)
    (λ u under. absurd (let idle = free.none_under_way in let bad : None ≡ Some u = sym idle ∙ under in cc)) in
    subst (Goes past) (sym is)
    (first_go past e marks (may_stand past e (quiet_else Submitting past m tt ground none) (and_right (moves_on past e) (is_still_awake past (now_at past e)) still))
    (one_rested past e (λ b. refl) refl) (all-weaker IsOfUnit IsStill mark_still marks all))

-- ---- each step

does_sleep : (here next : Phase) (past told : List Entry) (m : HostMachine) (event : HostEvent) → May here m (Does event told) next → KnowsSleep here past m → OwesNone past → Goes past told
does_sleep (Ticking (first ∷ left)) next past told m event may ground none = tick_go first left past told m ground none may.3 event may.0.0 may.2 (asks_of (Ticking (first ∷ left)) past m ground)
does_sleep (Behind (first ∷ left)) next past told m event may ground none =
    behind_go first left past told m ground none may.3 (subst (λ (e : HostEvent). AreTold (outs m.state e) told) may.0.0 may.2) ground.0.1
does_sleep Sleeping next past told m event may ground none =
    let (node, wants, is, to_is) = may.0 in
    else_go past told m.state event (subst NotesAlone (sym is) (sleeper_quiet (is_full m.state) node)) may.2 (quiet_else Sleeping past m tt ground none) none
does_sleep Submitting next past told m event may ground none =
    submit_go past told m event (next_is IsSubmission submissions m.state event may.0.0) may.2 ground none
    (writes Submitting next past told m event may (requested Submitting past m ground) (asks_of Submitting past m ground))
does_sleep here next past told m event may ground none = absurd may.0

others_plain : (e : Entry) → IsOfOthers e → IsPlain e
others_plain (entry.Air frame sender receiver repeaters payload) others = (tt, λ b. refl)
others_plain (entry.Heard frame) others = (tt, λ b. refl)
others_plain (entry.Lost frame) others = (tt, λ b. refl)
others_plain (entry.Unheard frame) others = (tt, λ b. refl)
others_plain (entry.Dev node by setting) others = (tt, λ b. refl)
others_plain (entry.Device node setting) others = (tt, λ b. refl)
others_plain (entry.Forget first second) others = (tt, λ b. refl)
others_plain entry.ChipFull others = (tt, λ b. refl)
others_plain (entry.Cleared side count) others = (tt, λ b. refl)
others_plain e others = absurd others

missed_plain : (text : List ℕ) (marks : List Entry) → DidNotCome marks → ArePlain (entry.Written Chip text ∷ marks)
missed_plain text (entry.Dropped Chip ∷ []) did = ((tt, λ b. refl), ((tt, λ b. refl), tt))
missed_plain text (entry.Overrun Chip ∷ []) did = ((tt, λ b. refl), ((tt, λ b. refl), tt))
missed_plain text (entry.Garbled Chip unit ∷ []) did = ((tt, λ b. refl), ((tt, λ b. refl), tt))
missed_plain text (entry.Garbled Chip unit ∷ entry.Overrun Chip ∷ []) did = ((tt, λ b. refl), ((tt, λ b. refl), ((tt, λ b. refl), tt)))
missed_plain text marks did = absurd did

answers_plain : (h : HostState) (event : HostEvent) → ArePlain (answers h event)
answers_plain h (Accepts order carriage) = ((tt, λ b. refl), tt)
answers_plain h (Cancels command) = ((tt, λ b. refl), tt)
answers_plain h event = tt

step_sleep : (here next : Phase) (past : List Entry) (m : HostMachine) (one : Step) → May here m one next → KnowsSleep here past m → OwesNone past → Goes past (entries m one)
step_sleep here next past m (Tells e) may ground none = plain_go past (e ∷ []) (others_plain e may.1, tt) (quiet_else here past m (between_elsewhere here may.0) ground none) none
step_sleep here next past m (Comes unit) may ground none =
    plain_go past (entries m (Comes unit)) ((tt, λ b. refl), tt) (quiet_else here past m (between_elsewhere here may.0) ground none) none
step_sleep here next past m (Misses text marks) may ground none =
    plain_go past (entry.Written Chip text ∷ marks) (missed_plain text marks may.1) (quiet_else here past m (between_elsewhere here may.0) ground none) none
step_sleep here next past m (Says words line) may ground none = said_go here past m words may.0 may.1 ground none
step_sleep here next past m (Says_nothing words) may ground none = said_go here past m words may.0 may.1 ground none
step_sleep here next past m (Asks event) may ground none = plain_go past (answers m.state event) (answers_plain m.state event) (quiet_asked here may.0 past m may.1 ground none) none
step_sleep here next past m (Refuses refusal) may ground none = plain_go past (entry.Refused refusal ∷ []) ((tt, λ b. refl), tt) (quiet_asked here may.0 past m may.1 ground none) none
step_sleep here next past m (Shows node) may ground none = plain_go past (shown_values m.state node ∷ []) ((tt, λ b. refl), tt) (quiet_asked here _ past m may.0 ground none) none
step_sleep here next past m (Restarts state) may ground none = nothing_go past [] refl none
step_sleep here next past m (Begins_tick left) may ground none = nothing_go past [] refl none
step_sleep here next past m Numbers may ground none = number_go here past m may.0 ground none
step_sleep here next past m (Judges item rest behind told) may ground none =
    judges_go past m item rest behind told may.1 (subst (λ (p : Phase). KnowsSleep p past m) may.0 ground) none
step_sleep here next past m (Does event told) may ground none = does_sleep here next past told m event may ground none

pub sleep_walk : (First : List Entry → Entry → Type 0) → WalkOver KnowsSleep First (Allows may_sleep) KnowsSlept
sleep_walk First = record {
  step = λ here next past m one may ground stand known. step_sleep here next past m one may ground known;
  turn = λ here next past m turns ground known. known;
}

pub first_sleep : OwesNone []
first_sleep = (λ directly. absurd (let bad : false ≡ true = directly in cc), refl)

-- at rest, with no tick of the line to come, no node owes its sleep
pub rests_asleep : (past : List Entry) (m : HostMachine) → m.left ≡ 0 → KnowsSleep Resting past m → OwesNone past → owes_no_sleep past (entry.Said []) ≡ true
rests_asleep past m left ground none =
    let time = (work_of Resting past m ground).0.0.1 in
    let now : now_at past (entry.Said []) ≡ m.clock = let all = time.asked in omega (arith, all, left) in
    let still = still_none past m.clock m.state.requests (slept Resting past m ground tt)
    (unended_at past m.clock m.came m.state (requested Resting past m ground).0.1 (asks_of Resting past m ground)) in
    and_from (not (owes_sleep past)) (not (is_still_awake past (now_at past (entry.Said [])))) (ap not (quiet_else Resting past m tt ground none))
    (ap not (ap (λ (n : ℕ). is_still_awake past n) now ∙ still))
