-- At each step of a host alone no end of a request is to be told, but where the event that tells it is next; and that tells it as the transcript has it.
use Rattle.std.proofs.Common.{◌≡◌, ◌⊎◌, ℕ, ◌+◌, Bool, true, false, if◌then◌else◌, inl, inr, List, [], ◌∷◌, ◌++◌, refl, sym, ap, ◌∙◌, subst, append-nil}
use Rattle.std.specs.Prelude.{◌==◌, Option, Some, None, Result, Ok, Err}
use Rattle.std.specs.List.{AllByRecursion, list_any}
use Rattle.std.proofs.lemmas.Bool.{both_ways, eq-eqb, eqb-true}
use Rattle.serial_frame.specs.Frame.{FrameParts}
use Rattle.serial_frame.specs.Items.{unit_text}
use Rattle.serial_frame.specs.declared.frame.Kind.{Kind}
use Rattle.serial_frame.specs.declared.frame.Kind.TheVariants as kind
use Rattle.serial_frame.specs.declared.item.Item.{Item}
use Rattle.serial_frame.specs.declared.item.Item.TheVariants.{Good, Refused as refused_item}
use Rattle.serial_frame.specs.declared.item.Refusal.TheVariants.{Stray, BadLength, BadSum, BadKind, Aborted}
use Rattle.serial_frame.specs.declared.unit.TheConstants.{ACK}
use Rattle.serial_frame.specs.declared.unit.Unit.{Unit as LineUnit}
use Rattle.serial_frame.specs.declared.unit.Unit.TheVariants.{Ack, Nak, Can, Framed}
use Rattle.serial_link.specs.State.{pause_after, turn_refused, turn_ticked}
use Rattle.serial_link.specs.declared.turn.Turn.{Turn}
use Rattle.serial_link.specs.declared.turn.Turn.TheVariants.{Idle, Copied, Paused}
use Rattle.zw_words.specs.declared.side.Side.TheVariants.{Host, Chip}
use Rattle.zw_text.specs.declared.entry.Entry.{Entry}
use Rattle.zw_text.specs.declared.entry.Entry.TheVariants as entry
use Rattle.chip_functions.specs.declared.fault.BodyFault.{BodyFault}
use Rattle.chip_functions.specs.declared.notice.Notice.{Notice}
use Rattle.chip_functions.specs.declared.notice.Notice.TheVariants.{ApplicationCommandHandler, SendData, ApplicationUpdate, AddNode}
use Rattle.chip_functions.specs.declared.notice.TransmitStatus.{TransmitStatus}
use Rattle.chip_functions.specs.declared.notice.Update.{Update}
use Rattle.chip_functions.specs.declared.notice.Update.TheVariants.{Received, RequestFailed}
use Rattle.chip_functions.specs.declared.response.Response.{Response}
use Rattle.chip_functions.specs.declared.response.Response.TheVariants as responses
use Rattle.chip_functions.specs.Notice.{notice_of}
use Rattle.chip_functions.specs.Response.{response_function, response_of}
use Rattle.proof_waking.specs.law_transcript.Lists.{EachAfter}
use Rattle.proof_waking.specs.law_transcript.Units.{request_in}
use Rattle.proof_waking.specs.law_time.Moments.{clock}
use Rattle.proof_waking.specs.law_time.Judged.{is_data}
use Rattle.proof_waking.specs.law_time.Requests.{Asked as TheAsked, asked}
use Rattle.host_heard.specs.Telling.{heard_at}
use Rattle.host_requests.specs.Events.{RequestsEvent, interviewed_by, interviewed_from}
use Rattle.host_requests.specs.Events.RequestsEvent.{CallsBack as request_calls_back, Fails as request_fails, IsSent as request_is_sent, Responds as request_responds, Ticks as request_ticks, Updates as request_updates}
use Rattle.host_requests.specs.Frames.{function_of}
use Rattle.host_requests.specs.Next.{at_callback, at_response, at_tick, at_update, counted_down, end_from, end_of, ends_at_update, is_answered, judged as judged_by, on_with, purpose_ends_at_update, sent_from}
use Rattle.host_requests.specs.declared.end.How.{How}
use Rattle.host_requests.specs.declared.end.How.TheVariants.{AtCallback, AtResponse, AtUpdate, Refused, Silent, LinkFailed, AbortSent}
use Rattle.host_requests.specs.declared.next.Next.{Next}
use Rattle.host_requests.specs.declared.next.Next.TheVariants.{Ends, GoesOn}
use Rattle.host_requests.specs.declared.task.Task.TheVariants.{Plain, Segment, Second, Neighbours, IsFailed}
use Rattle.host_requests.specs.declared.task.Purpose.{Purpose}
use Rattle.host_requests.specs.declared.task.Purpose.TheVariants.{Housekeeping, Attempt, Abort}
use Rattle.host_requests.specs.declared.under_way.Progress.{Progress}
use Rattle.host_requests.specs.declared.under_way.Progress.TheVariants.{Submitted, Sent, Answered}
use Rattle.host_requests.specs.declared.under_way.UnderWay.{UnderWay}
use Rattle.host_node.specs.declared.attempt.Moment.TheVariants.{BeforeItsTick, BetweenTicks}
use Rattle.proof_messages.specs.host_model.State.{HostState}
use Rattle.proof_messages.specs.host_model.After.{after, gives_up, is_busy, line_ticked, requests_do}
use Rattle.proof_messages.specs.host_model.Ends.{done_of, end_entries, end_entries_if, failed_entry, neighbours_entry}
use Rattle.proof_messages.specs.host_model.Events.{HostEvent, Accepts, Cancels, Hears, Line_ticks, Node_ticks, Requests_do}
use Rattle.proof_messages.specs.host_model.Outs.{answer_to, answers, copy_out, failing_entries, noted, outs, request_entries}
use Rattle.proof_messages.specs.host_model.Taking.{FrameEvents, InterviewEvents, NoticeEvents, ResponseEvents, told_if, told_requests}
use Rattle.proof_messages.proofs.Submitted.{SleepersAre, SubmittedAre, next_is, no_more_is}
use Rattle.proof_waking.specs.proof_alone.State.{HostMachine, done}
use Rattle.proof_waking.specs.proof_alone.Steps.{AreFrames, AreTold, DidNotCome, IsOfOthers, IsOfUnit, Step, Tells, Comes, Misses, Says, Says_nothing, Asks, Refuses, Shows, Restarts, Begins_tick, Numbers, Judges, Does, entries, happens}
use Rattle.proof_waking.specs.proof_alone.Phases.{Phase, Resting, Asked, Risen, Ticking, Open, Behind, Sleeping, Submitting, IsBetween, IsJudgedNow, IsNumbered, May, Turns}
use Rattle.proof_waking.specs.proof_alone.Runs.{WalkOver, both_know}
use Rattle.proof_waking.specs.Judged.{TieFrames}
use Rattle.proof_waking.proofs.Followed.{FollowersAre, payload_all}
use Rattle.proof_requests.specs.Standing.{giving_up_in, prior_of, standing_of, with_entries}
use Rattle.proof_requests.specs.Asking.{FollowsFirst, TieAsked, doing_of}
use Rattle.proof_requests.specs.Saying.{frame_next, kind_next, notice_next, response_next}
use Rattle.proof_requests.specs.Walking.{Ground, IsNodeTick, KnowsAsked, KnowsTick}
use Rattle.proof_requests.specs.Ends.{AreToldOf, BringsNone, ByFrame, ByLine, EndsBy, EndsFrom, EndsHere, EndsNone, GivenUp, IsUntold, KnowsEnds, LineEnds, OwesNoEnd, TellsEnd, TellsNoEnd, next_at, IsLate}
use Rattle.proof_requests.specs.Ends.OwesNoEnd.{Aborted as an_abort, Apart, Unended, Untold}
use Rattle.proof_requests.proofs.EndsHere.{answers_it, cannot_end, ends_if, ends_same, frame_ends_so}
use Rattle.proof_requests.proofs.EndsLate.{denied_here, given_up_here, silent_here, silent_so}
use Rattle.proof_requests.proofs.Events.{failed_none}
use Rattle.proof_requests.proofs.Growing.{asked_on}
use Rattle.proof_requests.proofs.Judging.{or_false}
use Rattle.proof_requests.proofs.Standing.{stands_aside}
use Rattle.proof_requests.proofs.Stepping.{first_same, not_awaiting, time_told}
use Rattle.proof_requests.proofs.Untold.{AreQuiet, Breaks, IsPlain, OutQuiet, breaks_after, copy_quiet, end_plain, event_quiet_out, marks_told, noted_quiet, other_told, quiet_go, quiet_told}
use Rattle.proof_requests.proofs.Walking.{line_outs}

-- ---- lines of entries

abbrev Goes : List Entry → List Entry → Type 0
Goes past told = EachAfter TellsEnd past told × OwesNoEnd (past ++ told)

one_goes : (past : List Entry) (e : Entry) → Breaks e → TellsEnd past e → Goes past (e ∷ [])
one_goes past e breaks law = ((law, tt), Apart (breaks_after past e breaks))

nothing_goes : (past told : List Entry) → OwesNoEnd past → told ≡ [] → Goes past told
nothing_goes past told none is = subst (Goes past) (sym is) (tt, subst OwesNoEnd (sym (append-nil past)) none)

-- just one entry is told
told_one : (past told rest : List Entry) (e : Entry) → told ≡ e ∷ rest → rest ≡ [] → Goes past (e ∷ []) → Goes past told
told_one past told rest e are none goes = subst (Goes past) (sym (are ∙ ap (λ (l : List Entry). e ∷ l) none)) goes

-- ---- an end is told

wrong : false ≡ true → ⊥
wrong is = cc

no_abort : (n : ℕ) → Housekeeping (Neighbours n) ≡ Abort → ⊥
no_abort n is = cc

none_aborted : (n : ℕ) → Housekeeping (IsFailed n) ≡ Abort → ⊥
none_aborted n is = cc

module _ (past : List Entry) (h : HostState) (id : ℕ) where
  untold_goes : (purpose : Purpose) (how : How) (told : List Entry) → IsUntold purpose → EndsHere past id purpose how → AreTold (noted (end_entries h (record { purpose = purpose; how = how }))) told
      → Goes past told
  untold_goes purpose how told untold e is =
      quiet_go past told (quiet_told (noted (end_entries h (record { purpose = purpose; how = how }))) told (noted_quiet (end_entries h (record { purpose = purpose; how = how })) (end_plain h purpose how untold)) is)
      (Untold purpose id e.request untold)

  neighbours_go : (n : ℕ) (how : How) (told : List Entry) → EndsHere past id (Housekeeping (Neighbours n)) how → (IsLate how → OwesNoEnd past) → AreTold (noted (neighbours_entry n how)) told → Goes past told
  neighbours_go n (AtResponse (responses.GetRoutingInfo nodes)) told e late (rest, are, none) =
      told_one past told rest (entry.Neighbours n nodes) are none (one_goes past (entry.Neighbours n nodes) tt (id, e))
  neighbours_go n (AtResponse response) told e late is = absurd (wrong e.so.0)
  neighbours_go n (AtCallback status) told e late is = absurd (wrong e.so.0)
  neighbours_go n (AtUpdate update first) told e late is = absurd (wrong e.so.0)
  neighbours_go n Refused told e late is = absurd (wrong e.so.0)
  neighbours_go n Silent told e late is = nothing_goes past told (late tt) is
  neighbours_go n LinkFailed told e late is = nothing_goes past told (late tt) is
  neighbours_go n AbortSent told e late is = absurd (no_abort n e.so)

  failed_go : (n : ℕ) (how : How) (told : List Entry) → EndsHere past id (Housekeeping (IsFailed n)) how → (IsLate how → OwesNoEnd past) → AreTold (noted (failed_entry n how)) told → Goes past told
  failed_go n (AtResponse (responses.IsFailedNode failed)) told e late (rest, are, none) =
      told_one past told rest (entry.Failed n failed) are none (one_goes past (entry.Failed n failed) tt (id, e))
  failed_go n (AtResponse response) told e late is = absurd (wrong e.so.0)
  failed_go n (AtCallback status) told e late is = absurd (wrong e.so.0)
  failed_go n (AtUpdate update first) told e late is = absurd (wrong e.so.0)
  failed_go n Refused told e late is = absurd (wrong e.so.0)
  failed_go n Silent told e late is = nothing_goes past told (late tt) is
  failed_go n LinkFailed told e late is = nothing_goes past told (late tt) is
  failed_go n AbortSent told e late is = absurd (none_aborted n e.so)

  end_goes : (purpose : Purpose) (how : How) (told : List Entry) → EndsHere past id purpose how → BringsNone how → (IsLate how → OwesNoEnd past)
      → AreTold (noted (end_entries h (record { purpose = purpose; how = how }))) told → Goes past told
  end_goes (Housekeeping (Plain n payload)) how told e brings late (rest, are, none) =
      told_one past told rest (entry.Done n (done_of how)) are none (one_goes past (entry.Done n (done_of how)) tt (payload, how, refl, (id, e)))
  end_goes (Housekeeping (Second n)) how told e brings late (rest, are, none) =
      told_one past told rest (entry.InterviewFailed n) are none (one_goes past (entry.InterviewFailed n) tt (how, brings, (id, e)))
  end_goes (Housekeeping (Neighbours n)) how told e brings late is = neighbours_go n how told e late is
  end_goes (Housekeeping (IsFailed n)) how told e brings late is = failed_go n how told e late is
  end_goes (Housekeeping (Segment n payload)) how told e brings late is = untold_goes (Housekeeping (Segment n payload)) how told e.carries e is
  end_goes (Housekeeping task) how told e brings late is = untold_goes (Housekeeping task) how told tt e is
  end_goes (Attempt n more payload) how told e brings late is = untold_goes (Attempt n more payload) how told e.carries e is
  end_goes Abort how told e brings late is = untold_goes Abort how told tt e is

  -- at a frame that was judged
  abbrev AtOnce : Next → Type 0
  AtOnce next = (how : How) → next ≡ Ends how → BringsNone how × (IsLate how → ⊥)

  next_goes : (u : UnderWay) (next : Next) (told : List Entry) → EndsBy past id u next → AtOnce next → AreTold (noted (end_entries_if h (end_of u next))) told → Goes past told
  next_goes u (GoesOn progress) told none at_once is = nothing_goes past told (Unended none) is
  next_goes u (Ends how) told e at_once is = let so = at_once how refl in end_goes u.purpose how told e so.0 (λ late. absurd (so.1 late)) is

  owes_none : EndsNone past → OwesNoEnd past
  owes_none (inl none) = Unended none
  owes_none (inr aborts) = an_abort aborts

  from_goes : (next : UnderWay → Next) (o : Option UnderWay) (told : List Entry) → EndsFrom past id next o → ((u : UnderWay) → o ≡ Some u → AtOnce (next u))
      → AreTold (noted (end_entries_if h (end_from next o))) told → Goes past told
  from_goes next None told none at_once is = nothing_goes past told (owes_none none) is
  from_goes next (Some u) told ends at_once is = next_goes u (next u) told ends (at_once u refl) is

  -- at a wait, or where the line gives it up
  abbrev AtLast : List Entry → UnderWay → Next → Type 0
  AtLast told u next = (e : Entry) (more : List Entry) → told ≡ e ∷ more → (how : How) → next ≡ Ends how → EndsHere past id u.purpose how × BringsNone how

  late_next : (u : UnderWay) (next : Next) (told : List Entry) → OwesNoEnd past → AtLast told u next → AreTold (noted (end_entries_if h (end_of u next))) told → Goes past told
  late_next u (GoesOn progress) told none at_last is = nothing_goes past told none is
  late_next u (Ends how) [] none at_last is = nothing_goes past [] none refl
  late_next u (Ends how) (e ∷ more) none at_last is = let so = at_last e more refl how refl in end_goes u.purpose how (e ∷ more) so.0 so.1 (λ late. none) is

  late_goes : (next : UnderWay → Next) (o : Option UnderWay) (told : List Entry) → OwesNoEnd past → ((u : UnderWay) → o ≡ Some u → AtLast told u (next u))
      → AreTold (noted (end_entries_if h (end_from next o))) told → Goes past told
  late_goes next None told none at_last is = nothing_goes past told none is
  late_goes next (Some u) told none at_last is = late_next u (next u) told none (at_last u refl) is

  -- its frame is acknowledged: an abort ends, and nothing is told
  sent_goes : (p : Purpose) (progress : Progress) (told : List Entry) → OwesNoEnd past
      → AreTold (noted (end_entries_if h (end_of (record { purpose = p; progress = progress }) (sent_from p progress)))) told → Goes past told
  sent_goes Abort Submitted told none is = nothing_goes past told none is
  sent_goes (Housekeeping task) Submitted told none is = nothing_goes past told none is
  sent_goes (Attempt n more payload) Submitted told none is = nothing_goes past told none is
  sent_goes p (Sent left) told none is = nothing_goes past told none is
  sent_goes p (Answered sent left) told none is = nothing_goes past told none is

  sent_from_goes : (o : Option UnderWay) (told : List Entry) → OwesNoEnd past → AreTold (noted (end_entries_if h (end_from (λ u. sent_from u.purpose u.progress) o))) told → Goes past told
  sent_from_goes None told none is = nothing_goes past told none is
  sent_from_goes (Some u) told none is = sent_goes u.purpose u.progress told none is

-- ---- how it ends at a frame

loud : (how other : How) → other ≡ how → (IsLate other → ⊥) → IsLate how → ⊥
loud how other is none late = none (subst IsLate (sym is) late)

judged_at_once : (r : Response) (u : UnderWay) (how : How) → judged_by r u ≡ Ends how → BringsNone how × (IsLate how → ⊥)
judged_at_once (responses.SendData answer) u how so = let by = ends_if (answer == 0) Refused how _ so in (subst BringsNone by.1 tt, loud how Refused by.1 (λ late. late))
judged_at_once (responses.RequestNodeInfo answer) u how so = let by = ends_if (answer == 0) Refused how _ so in (subst BringsNone by.1 tt, loud how Refused by.1 (λ late. late))
judged_at_once r u how so = let is = ends_same (AtResponse r) how so in (subst BringsNone is tt, loud how (AtResponse r) is (λ late. late))

response_at_once : (r : Response) (u : UnderWay) (how : How) → at_response r u ≡ Ends how → BringsNone how × (IsLate how → ⊥)
response_at_once r u how so = judged_at_once r u how (answers_it (is_answered u.progress) (response_function r == function_of u.purpose) r u how so).1

callback_at_once : (last id : ℕ) (status : TransmitStatus) (u : UnderWay) (how : How) → at_callback last id status u ≡ Ends how → BringsNone how × (IsLate how → ⊥)
callback_at_once last id status u how so =
    let by = ends_if _ (AtCallback status) how u.progress so in (subst BringsNone by.1 tt, loud how (AtCallback status) by.1 (λ late. late))

-- an update that interviews no node brings nothing
update_at_once : (update : Update) (first : Option ℕ) (u : UnderWay) (how : How) → interviewed_from first update (Some u) ≡ None → at_update first update u ≡ Ends how → BringsNone how × (IsLate how → ⊥)
update_at_once (Received n basic generic specific classes) first u how none so =
    let update : Update = Received n basic generic specific classes in
    let by = ends_if (ends_at_update update u) (AtUpdate update first) how u.progress so in
    (subst BringsNone by.1 (sym (ap (λ (b : Bool). if b then first else None) by.0) ∙ none), loud how (AtUpdate update first) by.1 (λ late. late))
update_at_once RequestFailed first u how none so =
    let by = ends_if (ends_at_update RequestFailed u) (AtUpdate RequestFailed first) how u.progress so in
    (subst BringsNone by.1 tt, loud how (AtUpdate RequestFailed first) by.1 (λ late. late))

-- a tick
tick_silent : (o : Option Progress) (how : How) → on_with o ≡ Ends how → Silent ≡ how
tick_silent (Some progress) how is = absurd (cannot_end progress how is)
tick_silent None how is = silent_so how is

-- ---- an interview

-- a node's information ends the question for it
pub record Informs (o : Option UnderWay) (first : Option ℕ) (update : Update) (capability : ℕ) : Type 0 where
  pub u : UnderWay
  pub under_way : o ≡ Some u
  pub ends : ends_at_update update u ≡ true
  pub brought : first ≡ Some capability

none_is : (capability : ℕ) → None ≡ Some capability → ⊥
none_is capability is = cc

pub asked_so : (first : Option ℕ) (update : Update) (o : Option UnderWay) (capability : ℕ) → interviewed_from first update o ≡ Some capability → Informs o first update capability
asked_so first (Received n basic generic specific classes) (Some u) capability is = by (ends_at_update (Received n basic generic specific classes) u) refl is
  where
    by : (b : Bool) → ends_at_update (Received n basic generic specific classes) u ≡ b → (if b then first else None) ≡ Some capability
        → Informs (Some u) first (Received n basic generic specific classes) capability
    by true ends is = record { u = u; under_way = refl; ends = ends; brought = is }
    by false ends is = absurd (none_is capability is)
asked_so first (Received n basic generic specific classes) None capability is = absurd (none_is capability is)
asked_so first RequestFailed (Some u) capability is = absurd (none_is capability is)
asked_so first RequestFailed None capability is = absurd (none_is capability is)

pub second_is : (p : Purpose) (n basic generic specific : ℕ) (classes : List ℕ) → purpose_ends_at_update (Received n basic generic specific classes) p ≡ true → p ≡ Housekeeping (Second n)
second_is (Housekeeping (Second m)) n basic generic specific classes is = ap (λ (k : ℕ). Housekeeping (Second k)) (sym (eqb-true n m is))
second_is (Housekeeping task) n basic generic specific classes is = absurd (wrong is)
second_is (Attempt m more payload) n basic generic specific classes is = absurd (wrong is)
second_is Abort n basic generic specific classes is = absurd (wrong is)

first_is : (first these : HostEvent) (left : List HostEvent) → first ∷ left ≡ these ∷ [] → first ≡ these
first_is first these left is = cc

rest_none : (first these : HostEvent) (left : List HostEvent) → first ∷ left ≡ these ∷ [] → left ≡ []
rest_none first these left is = cc

-- the end of an interview that ends well
interview_ends : (past : List Entry) (id : ℕ) (first : Option ℕ) (o : Option UnderWay) (n basic generic specific : ℕ) (classes : List ℕ) (capability : ℕ)
    → EndsFrom past id (at_update first (Received n basic generic specific classes)) o → interviewed_from first (Received n basic generic specific classes) o ≡ Some capability
    → EndsHere past id (Housekeeping (Second n)) (AtUpdate (Received n basic generic specific classes) (Some capability))
interview_ends past id first o n basic generic specific classes capability ends so =
    let update : Update = Received n basic generic specific classes in
    let asked = asked_so first update o capability so in
    let here : EndsBy past id asked.u (at_update first update asked.u) = subst (EndsFrom past id (at_update first update)) asked.under_way ends in
    let ended : EndsHere past id asked.u.purpose (AtUpdate update first) =
    subst (EndsBy past id asked.u) (ap (λ (b : Bool). if b then Ends (AtUpdate update first) else GoesOn asked.u.progress) asked.ends) here in
    let brought : EndsHere past id asked.u.purpose (AtUpdate update (Some capability)) = subst (λ (f : Option ℕ). EndsHere past id asked.u.purpose (AtUpdate update f)) asked.brought ended in
    subst (λ (p : Purpose). EndsHere past id p (AtUpdate update (Some capability))) (second_is asked.u.purpose n basic generic specific classes asked.ends) brought

-- ---- behind a frame

abbrev TellsThen : List Entry → HostState → HostEvent → List HostEvent → List Entry → Type 0
TellsThen past h first left told = AreTold (outs h first) told → Goes past told × (left ≡ [])

interview_does : (past : List Entry) (h : HostState) (update : Update) (brought : Option ℕ) (first : HostEvent) (left : List HostEvent) (told : List Entry) → interviewed_by h.requests update ≡ brought
    → InterviewEvents update brought (first ∷ left) → EndsFrom past h.requests.last_id (at_update h.requests.first update) h.requests.under_way → TellsThen past h first left told
interview_does past h (Received n basic generic specific classes) (Some capability) first left told so (inl is) ends tells =
    let e = interview_ends past h.requests.last_id h.requests.first h.requests.under_way n basic generic specific classes capability ends so in
    let (rest, are, none) = subst (λ (event : HostEvent). AreTold (outs h event) told) (first_is first _ left is) tells in
    (told_one past told rest (entry.Interviewed n) are none (one_goes past (entry.Interviewed n) tt ((basic, generic, specific), classes, capability, (h.requests.last_id, e))), rest_none first _ left is)
interview_does past h (Received n basic generic specific classes) (Some capability) first left told so (inr is) ends tells =
    let e = interview_ends past h.requests.last_id h.requests.first h.requests.under_way n basic generic specific classes capability ends so in
    let (rest, are, none) = subst (λ (event : HostEvent). AreTold (outs h event) told) (first_is first _ left is) tells in
    (told_one past told rest (entry.Unkept n) are none (one_goes past (entry.Unkept n) tt (inr (AtUpdate (Received n basic generic specific classes) (Some capability), (h.requests.last_id, e)))), rest_none first _ left is)
interview_does past h RequestFailed (Some capability) first left told so is ends tells = absurd (let bad : first ∷ left ≡ [] = is in cc)
interview_does past h update None first left told so is ends tells = (
  from_goes past (requests_do h (request_updates update)) h.requests.last_id (at_update h.requests.first update) h.requests.under_way told ends
      (λ u under_way how ends_so. update_at_once update h.requests.first u how (sym (ap (interviewed_from h.requests.first update) under_way) ∙ so) ends_so)
      (subst (λ (event : HostEvent). AreTold (outs h event) told) (first_is first (Requests_do (request_updates update) BetweenTicks) left (none_told update is)) tells),
  rest_none first (Requests_do (request_updates update) BetweenTicks) left (none_told update is),
)
  where
    none_told : (update : Update) → InterviewEvents update None (first ∷ left) → first ∷ left ≡ told_requests (request_updates update)
    none_told (Received n basic generic specific classes) is = is
    none_told RequestFailed is = is

frame_does : (past : List Entry) (h : HostState) (event : RequestsEvent) (first : HostEvent) (left : List HostEvent) (told : List Entry) → AreToldOf h event (first ∷ left)
    → EndsFrom past h.requests.last_id (next_at h.requests event) h.requests.under_way → TellsThen past h first left told
frame_does past h (request_responds r) first left told is ends tells = (
  from_goes past (requests_do h (request_responds r)) h.requests.last_id (at_response r) h.requests.under_way told ends (λ u under_way how so. response_at_once r u how so)
      (subst (λ (event : HostEvent). AreTold (outs h event) told) (first_is first (Requests_do (request_responds r) BetweenTicks) left is) tells),
  rest_none first (Requests_do (request_responds r) BetweenTicks) left is,
)
frame_does past h (request_calls_back id status) first left told is ends tells = (
  from_goes past (requests_do h (request_calls_back id status)) h.requests.last_id (at_callback h.requests.last_id id status) h.requests.under_way told ends
      (λ u under_way how so. callback_at_once h.requests.last_id id status u how so)
      (subst (λ (event : HostEvent). AreTold (outs h event) told) (first_is first (Requests_do (request_calls_back id status) BetweenTicks) left is) tells),
  rest_none first (Requests_do (request_calls_back id status) BetweenTicks) left is,
)
frame_does past h (request_updates update) first left told is ends tells = interview_does past h update (interviewed_by h.requests update) first left told refl is ends tells
frame_does past h event first left told is ends tells = absurd is

-- ---- behind an answer of the chip

pub given_so : (past : List Entry) (now id : ℕ) (purpose : Purpose) → clock past ≡ now → GivenUp past now id purpose → EndsHere past id purpose LinkFailed
given_so past now id purpose time gone = record {
  request = gone.request;
  follows = gone.follows;
  carries = gone.carries;
  so = ap (λ (l : List ℕ). list_any (λ tick. tick == clock past) l) gone.gives_up ∙ or_false (now == clock past) ∙ eq-eqb now (clock past) (sym time);
}

failed_so : (how : How) → Ends LinkFailed ≡ Ends how → LinkFailed ≡ how
failed_so how is = cc

fails_at_last : (past told : List Entry) (id : ℕ) (u : UnderWay) (how : How) → Ends LinkFailed ≡ Ends how → EndsHere past id u.purpose LinkFailed → EndsHere past id u.purpose how × BringsNone how
fails_at_last past told id u how so e = (subst (EndsHere past id u.purpose) (failed_so how so) e, subst BringsNone (failed_so how so) tt)

line_some : (past : List Entry) (now id : ℕ) (o : Option UnderWay) (u : UnderWay) → o ≡ Some u → LineEnds past now id request_fails o → GivenUp past now id u.purpose
line_some past now id o u is ends = subst (LineEnds past now id request_fails) is ends

line_does : (past : List Entry) (now : ℕ) (h : HostState) (event : RequestsEvent) (first : HostEvent) (left : List HostEvent) (told : List Entry) → first ∷ left ≡ told_requests event → OwesNoEnd past
    → LineEnds past now h.requests.last_id event h.requests.under_way → ((e : Entry) (more : List Entry) → told ≡ e ∷ more → clock past ≡ now) → TellsThen past h first left told
line_does past now h request_is_sent first left told is none ends time tells = (
  sent_from_goes past (requests_do h request_is_sent) h.requests.last_id h.requests.under_way told none
      (subst (λ (event : HostEvent). AreTold (outs h event) told) (first_is first (Requests_do request_is_sent BetweenTicks) left is) tells),
  rest_none first (Requests_do request_is_sent BetweenTicks) left is,
)
line_does past now h request_fails first left told is none ends time tells = (
  late_goes past (requests_do h request_fails) h.requests.last_id (λ u. Ends LinkFailed) h.requests.under_way told none
      (λ u under_way e more are how so. fails_at_last past told h.requests.last_id u how so
      (given_so past now h.requests.last_id u.purpose (time e more are) (line_some past now h.requests.last_id h.requests.under_way u under_way ends)))
      (subst (λ (event : HostEvent). AreTold (outs h event) told) (first_is first (Requests_do request_fails BetweenTicks) left is) tells),
  rest_none first (Requests_do request_fails BetweenTicks) left is,
)
line_does past now h event first left told is none ends time tells = absurd ends

-- with the number of a tick
given_timed : (past : List Entry) (now id tick : ℕ) (purpose : Purpose) → GivenUp past now id purpose → GivenUp (past ++ entry.Time tick ∷ []) now id purpose
given_timed past now id tick purpose gone =
    let on : asked (past ++ entry.Time tick ∷ []) ≡ with_entries (asked past) (entry.Time tick ∷ []) = asked_on past (entry.Time tick ∷ []) refl (tt, tt) in record {
      framed = ap (λ (a : TheAsked). is_data a.frame) on ∙ gone.framed;
      request = ap (λ (a : TheAsked). request_in a.frame) on ∙ gone.request;
      follows = subst (λ (a : TheAsked). FollowsFirst (prior_of a.before) purpose) (sym on) gone.follows;
      carries = gone.carries;
      gives_up = ap giving_up_in (ap standing_of on ∙ stands_aside (asked past) (entry.Time tick ∷ []) gone.framed (tt, tt)) ∙ gone.gives_up;
    }

line_timed : (past : List Entry) (now id tick : ℕ) (event : RequestsEvent) (o : Option UnderWay) → LineEnds past now id event o → LineEnds (past ++ entry.Time tick ∷ []) now id event o
line_timed past now id tick request_is_sent o ends = tt
line_timed past now id tick request_fails None ends = tt
line_timed past now id tick request_fails (Some u) ends = given_timed past now id tick u.purpose ends
line_timed past now id tick event o ends = absurd ends

-- ---- which events follow an item

followers : (n : ℕ) → FollowersAre TellsNoEnd n
followers n = record {
  unread = λ payload. tt;
  unkept = tt;
  old = λ id. tt;
  works = λ id. tt;
  finishes = λ session id command status wake. tt;
  offers = tt;
  gives = λ drawn. tt;
  spends = tt;
  in_vain = λ payload. tt;
  takes = λ seen text. tt;
  resends = λ payload. tt;
  hears = λ setting. tt;
  no_room = λ property. tt;
}

none_follow : (events : List HostEvent) → events ≡ [] → AllByRecursion TellsNoEnd events
none_follow events is = subst (AllByRecursion TellsNoEnd) (sym is) tt

-- ---- a frame is judged

ends_as : (past : List Entry) (id : ℕ) (next other : UnderWay → Next) (o : Option UnderWay) → ((u : UnderWay) → next u ≡ other u) → EndsFrom past id next o → EndsFrom past id other o
ends_as past id next other None same ends = ends
ends_as past id next other (Some u) same ends = subst (EndsBy past id u) (same u) ends

goes_on_none : (past : List Entry) (id : ℕ) (o : Option UnderWay) → EndsFrom past id (λ u. GoesOn u.progress) o → OwesNoEnd past
goes_on_none past id None (inl none) = Unended none
goes_on_none past id None (inr aborts) = an_abort aborts
goes_on_none past id (Some u) none = Unended none

module _ (past marks : List Entry) (m : HostMachine) (f : FrameParts) (rest : List LineUnit) (behind : List HostEvent) (marked : AllByRecursion IsOfUnit marks)
    (frames : TieFrames past (Framed f ∷ rest)) (time : clock past ≡ m.clock) (tie : TieAsked past m.clock m.clock (Framed f ∷ rest) (doing_of m.state)) (unnumbered : m.awaits ≡ false) where
  abbrev next_past : List Entry
  next_past = past ++ entry.Written Host (ACK ∷ []) ∷ marks

  abbrev heard_host : HostState
  heard_host = after m.state (Hears (Good (Framed f)))

  abbrev Then : Type 0
  Then = (AllByRecursion TellsNoEnd behind × OwesNoEnd next_past) ⊎ (ByFrame next_past heard_host m.awaits behind ⊎ ByLine next_past m.clock heard_host behind)

  ends_now : EndsFrom next_past m.state.requests.last_id (frame_next m.state.requests.last_id m.state.requests.first f) m.state.requests.under_way
  ends_now = frame_ends_so past marks f rest m.clock (doing_of m.state) marked frames time tie

  ends_at : (other : UnderWay → Next) → ((u : UnderWay) → frame_next m.state.requests.last_id m.state.requests.first f u ≡ other u)
      → EndsFrom next_past m.state.requests.last_id other m.state.requests.under_way
  ends_at other same = ends_as next_past m.state.requests.last_id (frame_next m.state.requests.last_id m.state.requests.first f) other m.state.requests.under_way same ends_now

  -- nothing is told
  none_then : ((u : UnderWay) → frame_next m.state.requests.last_id m.state.requests.first f u ≡ GoesOn u.progress) → AllByRecursion TellsNoEnd behind → Then
  none_then same none = inl (none, goes_on_none next_past m.state.requests.last_id m.state.requests.under_way (ends_at (λ u. GoesOn u.progress) same))

  told_then : (event : RequestsEvent) → AreToldOf heard_host event behind → EndsFrom next_past m.state.requests.last_id (next_at m.state.requests event) m.state.requests.under_way → Then
  told_then event told so = inr (inl (record { unnumbered = unnumbered; event = event; told = told; ends = so }))

  response_so : (read : Result Response BodyFault) (u : UnderWay) → f.kind ≡ kind.Response → response_of f.func f.body ≡ read
      → frame_next m.state.requests.last_id m.state.requests.first f u ≡ response_next read u
  response_so read u kind_is reads =
      ap (λ (k : Kind). kind_next m.state.requests.last_id m.state.requests.first k f u) kind_is ∙ ap (λ (x : Result Response BodyFault). response_next x u) reads

  notice_so : (read : Result Notice BodyFault) (u : UnderWay) → f.kind ≡ kind.Request → notice_of f.func f.body ≡ read
      → frame_next m.state.requests.last_id m.state.requests.first f u ≡ notice_next m.state.requests.last_id m.state.requests.first read u
  notice_so read u kind_is reads =
      ap (λ (k : Kind). kind_next m.state.requests.last_id m.state.requests.first k f u) kind_is
      ∙ ap (λ (x : Result Notice BodyFault). notice_next m.state.requests.last_id m.state.requests.first x u) reads

  response_then : (read : Result Response BodyFault) → f.kind ≡ kind.Response → response_of f.func f.body ≡ read → ResponseEvents read behind → Then
  response_then (Ok r) kind_is reads is = told_then (request_responds r) is (ends_at (at_response r) (λ u. response_so (Ok r) u kind_is reads))
  response_then (Err fault) kind_is reads is = none_then (λ u. response_so (Err fault) u kind_is reads) (none_follow behind is)

  notice_then : (read : Result Notice BodyFault) → f.kind ≡ kind.Request → notice_of f.func f.body ≡ read → NoticeEvents heard_host read behind → Then
  notice_then (Ok (ApplicationCommandHandler status source payload)) kind_is reads is =
      none_then (λ u. notice_so (Ok (ApplicationCommandHandler status source payload)) u kind_is reads)
      (payload_all TellsNoEnd source (followers source) heard_host payload (heard_at payload) behind (λ tells. tt) is)
  notice_then (Ok (SendData id status)) kind_is reads is =
      told_then (request_calls_back id status) is (ends_at (at_callback m.state.requests.last_id id status) (λ u. notice_so (Ok (SendData id status)) u kind_is reads))
  notice_then (Ok (ApplicationUpdate update)) kind_is reads is =
      told_then (request_updates update) is (ends_at (at_update m.state.requests.first update) (λ u. notice_so (Ok (ApplicationUpdate update)) u kind_is reads))
  notice_then (Ok (AddNode callback status said)) kind_is reads is = none_then (λ u. notice_so (Ok (AddNode callback status said)) u kind_is reads) (none_follow behind is)
  notice_then (Err fault) kind_is reads is = none_then (λ u. notice_so (Err fault) u kind_is reads) (none_follow behind is)

  kind_then : (k : Kind) → f.kind ≡ k → FrameEvents heard_host k f.func f.body behind → Then
  kind_then kind.Response kind_is is = response_then (response_of f.func f.body) kind_is refl is
  kind_then kind.Request kind_is is = notice_then (notice_of f.func f.body) kind_is refl is

  frame_goes : OwesNoEnd past → FrameEvents heard_host f.kind f.func f.body behind → EachAfter TellsEnd past (entry.Written Host (ACK ∷ []) ∷ marks) × Then
  frame_goes owes followed =
      ((other_told past (entry.Written Host (ACK ∷ [])) tt owes, marks_told (past ++ entry.Written Host (ACK ∷ []) ∷ []) marks marked), kind_then f.kind refl followed)

-- ---- steps

ends_to : (next phase : Phase) (past : List Entry) (m : HostMachine) → next ≡ phase → KnowsEnds phase past m → KnowsEnds next past m
ends_to next phase past m is known = subst (λ (p : Phase). KnowsEnds p past m) (sym is) known

at_phase : (here phase : Phase) (past : List Entry) (m : HostMachine) → here ≡ phase → KnowsEnds here past m → KnowsEnds phase past m
at_phase here phase past m is known = subst (λ (p : Phase). KnowsEnds p past m) is known

-- where no part of the host runs
owes_at : (here : Phase) (past : List Entry) (m : HostMachine) → IsBetween here → KnowsEnds here past m → OwesNoEnd past
owes_at Resting past m is known = known
owes_at Risen past m is known = known
owes_at Open past m is known = known
owes_at (Asked line) past m is known = absurd is
owes_at (Ticking left) past m is known = absurd is
owes_at (Behind left) past m is known = absurd is
owes_at Sleeping past m is known = absurd is
owes_at Submitting past m is known = absurd is

knows_at : (here : Phase) (past : List Entry) (m : HostMachine) → IsBetween here → OwesNoEnd past → KnowsEnds here past m
knows_at Resting past m is owes = owes
knows_at Risen past m is owes = owes
knows_at Open past m is owes = owes
knows_at (Asked line) past m is owes = absurd is
knows_at (Ticking left) past m is owes = absurd is
knows_at (Behind left) past m is owes = absurd is
knows_at Sleeping past m is owes = absurd is
knows_at Submitting past m is owes = absurd is

others_plain : (e : Entry) → IsOfOthers e → IsPlain e
others_plain (entry.Air frame sender receiver repeaters payload) others = (tt, tt)
others_plain (entry.Heard frame) others = (tt, tt)
others_plain (entry.Lost frame) others = (tt, tt)
others_plain (entry.Unheard frame) others = (tt, tt)
others_plain (entry.Dev node by setting) others = (tt, tt)
others_plain (entry.Device node setting) others = (tt, tt)
others_plain (entry.Forget first second) others = (tt, tt)
others_plain entry.ChipFull others = (tt, tt)
others_plain (entry.Cleared side count) others = (tt, tt)
others_plain e others = absurd others

missed_quiet : (text : List ℕ) (marks : List Entry) → DidNotCome marks → AreQuiet (entry.Written Chip text ∷ marks)
missed_quiet text (entry.Dropped Chip ∷ []) none = ((tt, tt), ((tt, tt), tt))
missed_quiet text (entry.Overrun Chip ∷ []) none = ((tt, tt), ((tt, tt), tt))
missed_quiet text (entry.Garbled Chip unit ∷ []) none = ((tt, tt), ((tt, tt), tt))
missed_quiet text (entry.Garbled Chip unit ∷ entry.Overrun Chip ∷ []) none = ((tt, tt), ((tt, tt), ((tt, tt), tt)))
missed_quiet text marks none = absurd none

answers_quiet : (h : HostState) (event : HostEvent) → AreQuiet (answers h event)
answers_quiet h (Accepts order carriage) = ((tt, tt), tt)
answers_quiet h (Cancels command) = ((tt, tt), tt)
answers_quiet h event = tt

sleepers_none : SleepersAre TellsNoEnd
sleepers_none = record { queues = λ n. tt; drops = λ n. tt }

submitted_none : SubmittedAre TellsNoEnd
submitted_none = record {
  abort = tt;
  front = tt;
  starts = λ n plan more payload. tt;
  text = λ n payload. tt;
  segment = λ n more payload. tt;
  begins = λ n session command. tt;
  unkept = λ n. tt;
}

item_told : (past told : List Entry) (item : Item) → AllByRecursion OutQuiet (answer_to item) → AreTold (answer_to item) told → OwesNoEnd past → Goes past told
item_told past told item quiet is owes = quiet_go past told (quiet_told (answer_to item) told quiet is) owes

event_goes : (past told : List Entry) (h : HostState) (event : HostEvent) → TellsNoEnd event → AreTold (outs h event) told → OwesNoEnd past → Goes past told
event_goes past told h event none is owes = quiet_go past told (quiet_told (outs h event) told (event_quiet_out h event none) is) owes

abbrev Leads : Phase → List Entry → HostMachine → Step → Type 0
Leads next past m one = EachAfter TellsEnd past (entries m one) × KnowsEnds next (past ++ entries m one) (happens m one)

-- ---- a tick

node_none : (event : HostEvent) → IsNodeTick event → TellsNoEnd event
node_none (Node_ticks n) is = tt
node_none event is = absurd is

module _ (past told : List Entry) (before : ℕ) (m : HostMachine) (next : m.clock ≡ before + 1) (owes : OwesNoEnd past) (time : (e : Entry) (more : List Entry) → told ≡ e ∷ more → clock past ≡ m.clock) where
  copied_goes : AreFrames m.came → TieAsked past before before m.came (doing_of m.state) → (gives : Bool) → gives_up m.state.side.turn (turn_ticked m.state.side.turn) ≡ gives
      → AreTold (noted (failing_entries gives (line_ticked m.state))) told → Goes past told
  copied_goes frames tie false gives_is is = nothing_goes past told owes is
  copied_goes frames tie true gives_is is =
      late_goes past (requests_do (line_ticked m.state) request_fails) m.state.requests.last_id (λ u. Ends LinkFailed) m.state.requests.under_way told owes
      (λ u under_way e more are how so. fails_at_last past told m.state.requests.last_id u how so
      (given_up_here past before m.clock m.came (doing_of m.state) next (time e more are) frames gives_is tie u under_way)) is

  line_goes : AreFrames m.came → TieAsked past before before m.came (doing_of m.state) → (turn : Turn) → m.state.side.turn ≡ turn → AreTold (line_outs m.state turn) told → Goes past told
  line_goes frames tie Idle is tells = nothing_goes past told owes tells
  line_goes frames tie (Copied f copies ticks) is tells =
      copied_goes frames tie (gives_up (Copied f copies ticks) (turn_ticked (Copied f copies ticks))) (ap (λ (t : Turn). gives_up t (turn_ticked t)) is) tells
  line_goes frames tie (Paused f copies ticks) is tells = by (ticks + 1 == pause_after copies) tells
    where
      by : (b : Bool) → AreTold (copy_out (if b then Some f else None) ++ noted (failing_entries (gives_up (Paused f copies ticks) (if b then Copied f (copies + 1) 0 else Paused f copies (ticks + 1))) (line_ticked m.state))) told
          → Goes past told
      by true tells = quiet_go past told (quiet_told (copy_out (Some f)) told (copy_quiet (Some f)) tells) owes
      by false tells = nothing_goes past told owes tells

  request_goes : TieAsked past m.clock before m.came (doing_of m.state) → AreTold (noted (request_entries m.state request_ticks)) told → Goes past told
  request_goes tie is =
      late_goes past (requests_do m.state request_ticks) m.state.requests.last_id at_tick m.state.requests.under_way told owes
      (λ u under_way e more are how so. (
        silent_here past before m.clock m.came (doing_of m.state) next (time e more are) tie u under_way how so,
        subst BringsNone (tick_silent (counted_down u.progress) how so) tt,
      )) is

tick_goes : (first : HostEvent) (left : List HostEvent) (past : List Entry) (m : HostMachine) (event : HostEvent) (told : List Entry) → event ≡ first → AreTold (outs m.state event) told → IsNumbered m told
    → Ground (Ticking (first ∷ left)) past m → KnowsTick (first ∷ left) past m → OwesNoEnd past → Goes past told
tick_goes first left past m event told event_is is numbered ground (inl (nodes, are, all, known)) owes =
    line_goes past told known.before m known.next owes (time_told (Ticking (first ∷ left)) past told m ground numbered) ground.0.1 known.tie m.state.side.turn refl
    (subst (λ (e : HostEvent). AreTold (outs m.state e) told) (event_is ∙ first_same first Line_ticks left (Requests_do request_ticks BeforeItsTick ∷ nodes) are) is)
tick_goes first left past m event told event_is is numbered ground (inr (inl (nodes, are, all, known))) owes =
    request_goes past told known.before m known.next owes (time_told (Ticking (first ∷ left)) past told m ground numbered) known.tie
    (subst (λ (e : HostEvent). AreTold (outs m.state e) told) (event_is ∙ first_same first (Requests_do request_ticks BeforeItsTick) left nodes are) is)
tick_goes first left past m event told event_is is numbered ground (inr (inr (all, known))) owes =
    event_goes past told m.state event (node_none event (subst IsNodeTick (sym event_is) all.0)) is owes

-- ---- events

behind_leads : (next : Phase) (left : List HostEvent) (past : List Entry) (m : HostMachine) (event : HostEvent) (told : List Entry) → next ≡ Behind left → Goes past told × (left ≡ [])
    → Leads next past m (Does event told)
behind_leads next left past m event told next_is goes =
    (goes.0.0, ends_to next (Behind left) (past ++ told) (done m event) next_is (inl (subst (AllByRecursion TellsNoEnd) (sym goes.1) tt, goes.0.1)))

same_outs : (h : HostState) (event first : HostEvent) (told : List Entry) → event ≡ first → AreTold (outs h event) told → AreTold (outs h first) told
same_outs h event first told is tells = subst (λ (e : HostEvent). AreTold (outs h e) told) is tells

does : (here next : Phase) (past : List Entry) (m : HostMachine) (event : HostEvent) (told : List Entry) → May here m (Does event told) next → both_know Ground KnowsAsked here past m → KnowsEnds here past m
    → Leads next past m (Does event told)
does (Ticking (first ∷ left)) next past m event told may ground known =
    let goes = tick_goes first left past m event told may.0.0 may.2 may.3 ground.0 ground.1 known in
    (goes.0, ends_to next (Ticking left) (past ++ told) (done m event) may.0.1 goes.1)
does (Behind (first ∷ left)) next past m event told may ground (inl (none, owes)) =
    let goes = event_goes past told m.state event (subst TellsNoEnd (sym may.0.0) none.0) may.2 owes in
    (goes.0, ends_to next (Behind left) (past ++ told) (done m event) may.0.1 (inl (none.1, goes.1)))
does (Behind (first ∷ left)) next past m event told may ground (inr (inl known)) =
    behind_leads next left past m event told may.0.1 (frame_does past m.state known.event first left told known.told known.ends (same_outs m.state event first told may.0.0 may.2))
does (Behind (first ∷ left)) next past m event told may ground (inr (inr known)) =
    behind_leads next left past m event told may.0.1
    (line_does past m.clock m.state known.event first left told known.told known.none known.ends (time_told (Behind (first ∷ left)) past told m ground.0 may.3) (same_outs m.state event first told may.0.0 may.2))
does Sleeping next past m event told may ground known =
    let (node, wants, is, next_phase) = may.0 in
    let goes = event_goes past told m.state event (subst TellsNoEnd (sym is) (no_more_is TellsNoEnd sleepers_none m.state node)) may.2 known in
    (goes.0, ends_to next Sleeping (past ++ told) (done m event) next_phase goes.1)
does Submitting next past m event told may ground known =
    let goes = event_goes past told m.state event (next_is TellsNoEnd submitted_none m.state event may.0.0) may.2 known in
    (goes.0, ends_to next Submitting (past ++ told) (done m event) may.0.1 goes.1)
does (Ticking []) next past m event told may ground known = absurd may.0
does (Behind []) next past m event told may ground known = absurd may.0
does Resting next past m event told may ground known = absurd may.0
does (Asked line) next past m event told may ground known = absurd may.0
does Risen next past m event told may ground known = absurd may.0
does Open next past m event told may ground known = absurd may.0

-- ---- items

abbrev Judged : List Entry → HostMachine → Item → List HostEvent → List Entry → Type 0
Judged past m item behind told =
    EachAfter TellsEnd past told
    × ((AllByRecursion TellsNoEnd behind × OwesNoEnd (past ++ told)) ⊎ (ByFrame (past ++ told) (after m.state (Hears item)) m.awaits behind ⊎ ByLine (past ++ told) m.clock (after m.state (Hears item)) behind))

-- one that is no unit
judges_refused : (past told : List Entry) (m : HostMachine) (item : Item) (behind : List HostEvent) → AllByRecursion OutQuiet (answer_to item) → behind ≡ [] → AreTold (answer_to item) told
    → OwesNoEnd past → Judged past m item behind told
judges_refused past told m item behind quiet none is owes = let goes = item_told past told item quiet is owes in (goes.0, inl (none_follow behind none, goes.1))

-- an answer of the chip
after_none : (P : List Entry → Type 0) (past told : List Entry) → told ≡ [] → P past → P (past ++ told)
after_none P past told is so = subst (λ (l : List Entry). P (past ++ l)) (sym is) (subst P (sym (append-nil past)) so)

judges_answer : (past told : List Entry) (m : HostMachine) (item : Item) (behind : List HostEvent) (b : Bool) (event : RequestsEvent) → told ≡ [] → behind ≡ told_if b event → OwesNoEnd past
    → (b ≡ true → LineEnds past m.clock (after m.state (Hears item)).requests.last_id event (after m.state (Hears item)).requests.under_way) → Judged past m item behind told
judges_answer past told m item behind true event none is owes ends = (
  subst (EachAfter TellsEnd past) (sym none) tt,
  inr (inr (record {
    event = event;
    told = is;
    none = after_none OwesNoEnd past told none owes;
    ends = after_none (λ (l : List Entry). LineEnds l m.clock (after m.state (Hears item)).requests.last_id event (after m.state (Hears item)).requests.under_way) past told none (ends refl);
  })),
)
judges_answer past told m item behind false event none is owes ends =
    (subst (EachAfter TellsEnd past) (sym none) tt, inl (none_follow behind is, after_none OwesNoEnd past told none owes))

fails_of : (past : List Entry) (now id : ℕ) (o : Option UnderWay) → ((u : UnderWay) → o ≡ Some u → GivenUp past now id u.purpose) → LineEnds past now id request_fails o
fails_of past now id None ends = tt
fails_of past now id (Some u) ends = ends u refl

judges : (past : List Entry) (m : HostMachine) (item : Item) (rest : List LineUnit) (behind : List HostEvent) (told : List Entry) → IsJudgedNow m item rest behind told → both_know Ground KnowsAsked Open past m
    → OwesNoEnd past → Judged past m item behind told
judges past m (Good (Framed f)) rest behind told now ground owes =
    let (marks, more, is, all, none) = now.told_so in
    let are : told ≡ entry.Written Host (ACK ∷ []) ∷ marks = is ∙ ap (λ (l : List Entry). entry.Written Host (ACK ∷ []) ∷ (marks ++ l)) none
    ∙ ap (λ (l : List Entry). entry.Written Host (ACK ∷ []) ∷ l) (append-nil marks) in
    subst (Judged past m (Good (Framed f)) behind) (sym are)
    (frame_goes past marks m f rest behind all (subst (TieFrames past) now.takes ground.0.0.0.1.frames)
    (time_told Open past told m ground.0 now.numbered (entry.Written Host (ACK ∷ [])) marks are)
    (subst (λ (l : List LineUnit). TieAsked past m.clock m.clock l (doing_of m.state)) now.takes ground.1)
    (not_awaiting m.awaits (entry.Written Host (ACK ∷ [])) told marks now.numbered are) owes now.followed)
judges past m (Good Ack) rest behind told now ground owes =
    judges_answer past told m (Good Ack) behind (is_busy m.state.side.turn) request_is_sent now.told_so now.followed owes (λ busy. tt)
judges past m (Good Nak) rest behind told now ground owes =
    judges_answer past told m (Good Nak) behind (gives_up m.state.side.turn (turn_refused m.state.side.turn)) request_fails now.told_so now.followed owes
    (λ gives. fails_of past m.clock m.state.requests.last_id m.state.requests.under_way
    (denied_here Nak (unit_text Nak) refl past m.clock rest (doing_of m.state) refl gives (subst (λ (l : List LineUnit). TieAsked past m.clock m.clock l (doing_of m.state)) now.takes ground.1)))
judges past m (Good Can) rest behind told now ground owes =
    judges_answer past told m (Good Can) behind (gives_up m.state.side.turn (turn_refused m.state.side.turn)) request_fails now.told_so now.followed owes
    (λ gives. fails_of past m.clock m.state.requests.last_id m.state.requests.under_way
    (denied_here Can (unit_text Can) refl past m.clock rest (doing_of m.state) refl gives (subst (λ (l : List LineUnit). TieAsked past m.clock m.clock l (doing_of m.state)) now.takes ground.1)))
judges past m (refused_item (BadSum want got)) rest behind told now ground owes = judges_refused past told m (refused_item (BadSum want got)) behind (refl, tt) now.followed now.told_so owes
judges past m (refused_item (BadKind x)) rest behind told now ground owes = judges_refused past told m (refused_item (BadKind x)) behind (refl, tt) now.followed now.told_so owes
judges past m (refused_item (Stray x)) rest behind told now ground owes = judges_refused past told m (refused_item (Stray x)) behind tt now.followed now.told_so owes
judges past m (refused_item (BadLength n)) rest behind told now ground owes = judges_refused past told m (refused_item (BadLength n)) behind tt now.followed now.told_so owes
judges past m (refused_item Aborted) rest behind told now ground owes = judges_refused past told m (refused_item Aborted) behind tt now.followed now.told_so owes

plain_leads : (next phase : Phase) (past told : List Entry) (later : HostMachine) → next ≡ phase → IsBetween phase → AreQuiet told → OwesNoEnd past → EachAfter TellsEnd past told × KnowsEnds next (past ++ told) later
plain_leads next phase past told later is between quiet owes =
    let goes = quiet_go past told quiet owes in (goes.0, ends_to next phase (past ++ told) later is (knows_at phase (past ++ told) later between goes.1))

-- the number of a tick
numbered : (here : Phase) (past : List Entry) (m : HostMachine) → KnowsEnds here past m → m.awaits ≡ true
    → EachAfter TellsEnd past (entry.Time m.clock ∷ []) × KnowsEnds here (past ++ entry.Time m.clock ∷ []) (happens m Numbers)
numbered (Behind left) past m (inl (none, owes)) awaits = let goes = quiet_go past (entry.Time m.clock ∷ []) ((tt, tt), tt) owes in (goes.0, inl (none, goes.1))
numbered (Behind left) past m (inr (inl known)) awaits = absurd (both_ways m.awaits known.unnumbered awaits)
numbered (Behind left) past m (inr (inr known)) awaits =
    let goes = quiet_go past (entry.Time m.clock ∷ []) ((tt, tt), tt) known.none in (
      goes.0,
      inr (inr (record {
        event = known.event;
        told = known.told;
        none = goes.1;
        ends = line_timed past m.clock m.state.requests.last_id m.clock known.event m.state.requests.under_way known.ends;
      })),
    )
numbered Resting past m owes awaits = quiet_go past (entry.Time m.clock ∷ []) ((tt, tt), tt) owes
numbered Risen past m owes awaits = quiet_go past (entry.Time m.clock ∷ []) ((tt, tt), tt) owes
numbered Open past m owes awaits = quiet_go past (entry.Time m.clock ∷ []) ((tt, tt), tt) owes
numbered (Asked line) past m owes awaits = quiet_go past (entry.Time m.clock ∷ []) ((tt, tt), tt) owes
numbered (Ticking left) past m owes awaits = quiet_go past (entry.Time m.clock ∷ []) ((tt, tt), tt) owes
numbered Sleeping past m owes awaits = quiet_go past (entry.Time m.clock ∷ []) ((tt, tt), tt) owes
numbered Submitting past m owes awaits = quiet_go past (entry.Time m.clock ∷ []) ((tt, tt), tt) owes

step_goes : (here next : Phase) (past : List Entry) (m : HostMachine) (one : Step) → May here m one next → both_know Ground KnowsAsked here past m → KnowsEnds here past m → Leads next past m one
step_goes here next past m (Tells e) may ground known = plain_leads next here past (e ∷ []) m may.3 may.0 (others_plain e may.1, tt) (owes_at here past m may.0 known)
step_goes here next past m (Comes unit) may ground known =
    plain_leads next here past (entries m (Comes unit)) (happens m (Comes unit)) may.2 may.0 ((tt, tt), tt) (owes_at here past m may.0 known)
step_goes here next past m (Misses text marks) may ground known =
    plain_leads next here past (entries m (Misses text marks)) m may.3 may.0 (missed_quiet text marks may.1) (owes_at here past m may.0 known)
step_goes here next past m (Says words line) may ground known =
    let goes = quiet_go past (entry.Said words ∷ []) ((tt, tt), tt) (at_phase here Resting past m may.0 known) in
    (goes.0, ends_to next (Asked line) (past ++ entry.Said words ∷ []) (happens m (Says words line)) may.3 goes.1)
step_goes here next past m (Says_nothing words) may ground known =
    plain_leads next Resting past (entry.Said words ∷ []) (happens m (Says_nothing words)) (may.3 ∙ may.0) tt ((tt, tt), tt) (at_phase here Resting past m may.0 known)
step_goes here next past m (Asks event) may ground known =
    plain_leads next Open past (answers m.state event) (happens m (Asks event)) may.5 tt (answers_quiet m.state event) (at_phase here (Asked may.0) past m may.1 known)
step_goes here next past m (Refuses refusal) may ground known =
    plain_leads next Open past (entry.Refused refusal ∷ []) m may.4 tt ((tt, tt), tt) (at_phase here (Asked may.0) past m may.1 known)
step_goes here next past m (Shows node) may ground known =
    plain_leads next Open past (entries m (Shows node)) m may.2 tt ((tt, tt), tt) (at_phase here (Asked _) past m may.0 known)
step_goes here next past m (Restarts state) may ground known =
    plain_leads next Open past [] (happens m (Restarts state)) may.2 tt tt (at_phase here (Asked _) past m may.0 known)
step_goes here next past m (Begins_tick left) may ground known =
    plain_leads next Risen past [] (happens m (Begins_tick left)) may.2 tt tt (at_phase here Resting past m may.0 known)
step_goes here next past m Numbers may ground known =
    let got = numbered here past m known may.0 in (got.0, ends_to next here (past ++ entry.Time m.clock ∷ []) (happens m Numbers) may.1 got.1)
step_goes here next past m (Judges item rest behind told) may ground known =
    let got = judges past m item rest behind told may.1 (subst (λ (p : Phase). both_know Ground KnowsAsked p past m) may.0 ground) (at_phase here Open past m may.0 known) in
    (got.0, ends_to next (Behind behind) (past ++ told) (happens m (Judges item rest behind told)) may.2 got.1)
step_goes here next past m (Does event told) may ground known = does here next past m event told may ground known

-- behind a frame of which the request hears an event is to come
frame_left : (h : HostState) (event : RequestsEvent) → AreToldOf h event [] → ⊥
frame_left h (request_responds r) is = let bad : [] ≡ told_requests (request_responds r) = is in cc
frame_left h (request_calls_back id status) is = let bad : [] ≡ told_requests (request_calls_back id status) = is in cc
frame_left h (request_updates update) is = by update (interviewed_by h.requests update) refl is
  where
    by : (update : Update) (brought : Option ℕ) → interviewed_by h.requests update ≡ brought → InterviewEvents update brought [] → ⊥
    by (Received n basic generic specific classes) (Some capability) so (inl is) = let bad = is in cc
    by (Received n basic generic specific classes) (Some capability) so (inr is) = let bad = is in cc
    by RequestFailed (Some capability) so is = failed_none h.requests.first h.requests.under_way capability so
    by (Received n basic generic specific classes) None so is = let bad = is in cc
    by RequestFailed None so is = let bad = is in cc
frame_left h event is = is

turn_goes : (here next : Phase) (past : List Entry) (m : HostMachine) → Turns here m next → KnowsEnds here past m → KnowsEnds next past m
turn_goes Resting next past m is known = ends_to next Open past m is known
turn_goes (Asked line) next past m (inl (nothing, is)) known = ends_to next Open past m is known
turn_goes (Asked line) next past m (inr (ticks, line_is, is)) known = ends_to next Resting past m is known
turn_goes Risen next past m is known = ends_to next (Ticking _) past m is known
turn_goes (Ticking []) next past m is known = ends_to next Open past m is known
turn_goes (Ticking (first ∷ left)) next past m is known = absurd is
turn_goes Open next past m is known = ends_to next Sleeping past m is known
turn_goes (Behind []) next past m is (inl (none, owes)) = ends_to next Open past m is owes
turn_goes (Behind []) next past m is (inr (inl known)) = absurd (frame_left m.state known.event known.told)
turn_goes (Behind []) next past m is (inr (inr known)) = absurd (let bad : [] ≡ told_requests known.event = known.told in cc)
turn_goes (Behind (first ∷ left)) next past m is known = absurd is
turn_goes Sleeping next past m is known = ends_to next Submitting past m is.1 known
turn_goes Submitting next past m is known = ends_to next Resting past m is.1 known

pub ends_walk : (First : List Entry → Entry → Type 0) → WalkOver (both_know Ground KnowsAsked) First TellsEnd KnowsEnds
ends_walk First = record {
  step = λ here next past m one may ground stand known. step_goes here next past m one may ground known;
  turn = λ here next past m turns ground known. turn_goes here next past m turns known;
}

-- nothing was judged at first
pub first_ends : OwesNoEnd []
first_ends = Apart refl

-- ---- what a tick ends

pub silent_at : (past : List Entry) (m : HostMachine) (left : List HostEvent) (u : UnderWay) (how : How) → KnowsAsked (Ticking (Requests_do request_ticks BeforeItsTick ∷ left)) past m → clock past ≡ m.clock
    → m.state.requests.under_way ≡ Some u → at_tick u ≡ Ends how → EndsHere past m.state.requests.last_id u.purpose how
silent_at past m left u how (inl (nodes, are, all, known)) time is ends = absurd (let bad = first_same (Requests_do request_ticks BeforeItsTick) Line_ticks left (Requests_do request_ticks BeforeItsTick ∷ nodes) are in cc)
silent_at past m left u how (inr (inl (nodes, are, all, known))) time is ends = silent_here past known.before m.clock m.came (doing_of m.state) known.next time known.tie u is how ends
silent_at past m left u how (inr (inr (all, known))) time is ends = absurd all.0

pub given_up_at : (past : List Entry) (m : HostMachine) (left : List HostEvent) (u : UnderWay) → both_know Ground KnowsAsked (Ticking (Line_ticks ∷ left)) past m → clock past ≡ m.clock
    → m.state.requests.under_way ≡ Some u → gives_up m.state.side.turn (turn_ticked m.state.side.turn) ≡ true → EndsHere past m.state.requests.last_id u.purpose LinkFailed
given_up_at past m left u (ground, inl (nodes, are, all, known)) time is gives =
    given_up_here past known.before m.clock m.came (doing_of m.state) known.next time ground.0.1 gives known.tie u is
given_up_at past m left u (ground, inr (inl (nodes, are, all, known))) time is gives = absurd (let bad = first_same Line_ticks (Requests_do request_ticks BeforeItsTick) left nodes are in cc)
given_up_at past m left u (ground, inr (inr (all, known))) time is gives = absurd all.0
