-- A host alone asks for one thing after another, numbers its messages, and begins each session with its unit: what each step enters may follow, and leaves the id that it gave last known.
use Rattle.std.proofs.Common.{◌≡◌, ◌⊎◌, ℕ, ◌+◌, ◌==◌, ◌&&◌, ◌||◌, not, Bool, true, false, if◌then◌else◌, inl, inr, List, [], ◌∷◌, ◌++◌, refl, sym, ap, ap₂, ◌∙◌, subst, append-nil, append_assoc}
use Rattle.std.specs.Prelude.{Option, Some, None, is_none, nat_le, slice_index}
use Rattle.std.specs.List.{AllByRecursion, flat_map, list_all, list_any}
use Rattle.std.proofs.lemmas.Bool.{and_from, both_ways, eq-eqb, le-leb, or_right}
use Rattle.std.proofs.lemmas.Grind.{flat_map-append}
use Rattle.zw_base.proofs.Each.{all-weaker}
use Rattle.serial_frame.specs.Frame.{FrameParts}
use Rattle.serial_frame.specs.Items.{unit_text}
use Rattle.serial_frame.specs.declared.item.Item.{Item}
use Rattle.serial_frame.specs.declared.unit.Unit.{Unit as LineUnit}
use Rattle.serial_frame.specs.declared.unit.Unit.TheVariants.{Ack, Nak, Framed}
use Rattle.serial_link.specs.State.{pause_after, turn_ticked}
use Rattle.serial_link.specs.declared.turn.Turn.{Turn}
use Rattle.serial_link.specs.declared.turn.Turn.TheVariants.{Idle, Copied, Paused}
use Rattle.chip_functions.specs.declared.request.Request.{Request}
use Rattle.chip_functions.specs.Request.{request_of as read_request}
use Rattle.zw_words.specs.declared.side.Side.TheVariants.{Host, Chip}
use Rattle.zw_text.specs.declared.line.Line.{Line}
use Rattle.zw_text.specs.declared.line.Line.TheVariants as lines
use Rattle.zw_text.specs.declared.entry.Refusal.{Refusal}
use Rattle.zw_text.specs.declared.entry.Entry.{Entry}
use Rattle.zw_text.specs.declared.entry.Entry.TheVariants as entry
use Rattle.zw_text.specs.Transcript.{line_of, unit_at, written}
use Rattle.zw_text.proofs.Views.{shown-append}
use Rattle.law_transcript.specs.Lists.{EachAfter, last_or}
use Rattle.law_transcript.specs.Restarts.{is_restart, since_restart}
use Rattle.law_transcript.specs.Payloads.{FollowsBegin, GoesTo}
use Rattle.law_transcript.specs.Units.{body_in, function_in, read_well, request_in, sending_in, sending_of}
use Rattle.law_time.specs.Moments.{KeepsAfter, clock}
use Rattle.law_time.specs.Judged.{acknowledged, is_data}
use Rattle.law_time.specs.Requests.{Asked as LastAsked, Failing, are_none, asked, failing, is_copy, is_new, sent_at}
use Rattle.law_time.specs.Ends.{has_ended, is_line_free, is_over}
use Rattle.law_time.specs.Choice.{id_of, is_numbered, last_id, may_follow, may_number}
use Rattle.host_requests.specs.Events.RequestsEvent.{Ticks as request_ticks}
use Rattle.host_requests.specs.Frames.{frame_of, no_more_information, nonce_report, request_of, send}
use Rattle.host_requests.specs.State.{id_after, next_id}
use Rattle.host_requests.specs.declared.end.How.TheVariants.{LinkFailed}
use Rattle.host_requests.specs.declared.next.Next.{Next}
use Rattle.host_requests.specs.declared.next.Next.TheVariants.{Ends, GoesOn}
use Rattle.host_requests.specs.declared.task.Task.TheVariants.{Plain, Offer, Segment, NoMore, First, Second, Members, Neighbours, IsFailed, Version, MemoryId, Capabilities}
use Rattle.host_requests.specs.declared.task.Purpose.{Purpose}
use Rattle.host_requests.specs.declared.task.Purpose.TheVariants.{Attempt, Abort, Housekeeping}
use Rattle.host_requests.specs.declared.under_way.UnderWay.{UnderWay}
use Rattle.host_node.specs.declared.attempt.Moment.TheVariants.{BeforeItsTick}
use Rattle.host_node.specs.declared.attempt.Plan.{Plan}
use Rattle.host_model.specs.State.{HostState, first_host}
use Rattle.host_model.specs.After.{after, gives_up, is_full}
use Rattle.host_model.specs.Did.{MayAll}
use Rattle.host_model.specs.Events.{HostEvent, Accepts, Cancels, Hears, Requests_do, Interviews, Interview_unkept, Line_ticks, Queues, Queues_interview, Node_ticks, Queues_no_more, Drops_no_more, Submits_abort, Submits_front, Starts, Gives_text, Gives_segment, Begins, Begin_unkept}
use Rattle.host_model.specs.May.{IsFree}
use Rattle.host_model.specs.Outs.{answer_to, answers, outs}
use Rattle.host_model.specs.Pumping.{IsNext, IsPumped}
use Rattle.host_model.specs.declared.out.HostOut.{HostOut}
use Rattle.host_model.specs.declared.out.HostOut.TheVariants.{Write}
use Rattle.proof_known.proofs.AttemptStarts.{IsNoBegin, after_free, follows_last}
use Rattle.proof_known.proofs.ServedNodes.{begun_so, due_starts, not_pumped}
use Rattle.proof_requests.specs.proof_alone.State.{HostMachine, done}
use Rattle.proof_requests.specs.proof_alone.Steps.{AreFrames, AreTold, DidNotCome, IsOfOthers, IsOfUnit, Step, Tells, Comes, Misses, Says, Says_nothing, Asks, Refuses, Shows, Restarts, Begins_tick, Numbers, Judges, Does, entries, happens}
use Rattle.proof_requests.specs.proof_alone.Phases.{Phase, Resting, Asked, Risen, Ticking, Open, Behind, Sleeping, Submitting, IsBetween, IsNumbered, May, Turns}
use Rattle.proof_requests.specs.proof_alone.Runs.{WalkOver, both_know}
use Rattle.proof_requests.specs.proof_waking.Judged.{KnowsJudged}
use Rattle.proof_requests.proofs.proof_waking_Apart.{IsWordless, said_anew, said_in_vain, said_on, wordless_fresh, wordless_more}
use Rattle.proof_requests.proofs.proof_waking_Followed.{MayFollow}
use Rattle.proof_requests.proofs.HostOuts.{OwnIs, SharedAre, outs_are}
use Rattle.proof_requests.proofs.proof_waking_Parts.{IsNote, notes_told, unit_told, item_told}
use Rattle.proof_requests.proofs.proof_waking_Settling.{behind_follows}
use Rattle.proof_requests.specs.Standing.{GoesOn as EntryGoesOn, standing_of}
use Rattle.proof_requests.specs.Asking.{Doing, IsPaused, TieAsked, TieLine, doing_after, doing_from, doing_next, doing_of}
use Rattle.proof_asking.specs.Numbers.{Awaits, CountsBefore, CountsIds, KnowsRequests, MaySend, Rests, ids_in}
use Rattle.proof_requests.specs.Walking.{AddsWell, Ground, IsNodeTick, IsOfChip, KnowsAsked, KnowsTick}
use Rattle.proof_requests.proofs.Doing.{beside_same, same_asks}
use Rattle.proof_requests.proofs.Ended.{gave_up}
use Rattle.proof_requests.proofs.Ending.{told_of_host}
use Rattle.proof_requests.proofs.Events.{chip_does, updates_does}
use Rattle.proof_requests.proofs.Growing.{asked_anew, asked_copy, asked_in_vain, asked_new, asked_on, asked_said}
use Rattle.proof_requests.proofs.OnLine.{copies_now}
use Rattle.proof_requests.proofs.Queued.{PayloadsBring}
use Rattle.proof_requests.proofs.Queueing.{opened_asks}
use Rattle.proof_requests.proofs.Stepping.{IsBeginning, Submits, asked_beside, behind_notes, asked_on as event_on, event_is_read, first_same, node_notes, none_on, not_awaiting, submitted_is, time_told}
use Rattle.proof_requests.proofs.Walking.{IsWritten, copy_line, is_fresh, is_old, line_does, line_notes, line_outs, noted_notes, turn_idle, written_told}

-- ---- entries that ask for nothing

abbrev pub AsksNone : Entry → Type 0
AsksNone (entry.Said words) = ⊥
AsksNone (entry.Refused refusal) = ⊥
AsksNone (entry.Begin node session command) = ⊥
AsksNone (entry.Written Host unit) = is_data unit ≡ false
AsksNone e = Unit {0}

goes_on : (e : Entry) → AsksNone e → EntryGoesOn e
goes_on (entry.Said words) none = none
goes_on (entry.Written Host unit) none = none
goes_on e none = tt

wordless : (e : Entry) → AsksNone e → IsWordless e
wordless (entry.Said words) none = none
wordless (entry.Refused refusal) none = none
wordless e none = tt

no_data : (unit : List ℕ) (new : Bool) (rest : Bool) → is_data unit ≡ false → not (is_data unit && new) || rest ≡ true
no_data unit new rest none = ap (λ (b : Bool). not (b && new) || rest) none

may_stand : (past : List Entry) → Rests past → (e : Entry) → AsksNone e → MaySend past e
may_stand past rests (entry.Begin node session command) none = absurd none
may_stand past rests (entry.Written Host unit) none = (
  no_data unit (not (is_copy (asked past) unit)) (is_over (asked past) (clock past)) none,
  no_data unit (not (is_copy (asked past) unit)) (list_all (is_numbered (last_id past)) (request_in unit)) none,
  rests (entry.Written Host unit),
)
may_stand past rests e none = (refl, refl, rests e)

begins_none : (e : Entry) → AsksNone e → IsNoBegin e
begins_none (entry.Begin node session command) none = none
begins_none e none = tt

rests_after : (past : List Entry) (e : Entry) → IsNoBegin e → Rests (past ++ e ∷ [])
rests_after past e none entry = follows_last past e entry (after_free e entry none)

rests_all : (past told : List Entry) → Rests past → AllByRecursion AsksNone told → Rests (past ++ told)
rests_all past [] rests all = subst Rests (sym (append-nil past)) rests
rests_all past (e ∷ told) rests all = subst Rests (append_assoc past (e ∷ []) told) (rests_all (past ++ e ∷ []) told (rests_after past e (begins_none e all.0)) all.1)

all_stand : (past told : List Entry) → Rests past → AllByRecursion AsksNone told → EachAfter MaySend past told
all_stand past [] rests all = tt
all_stand past (e ∷ told) rests all = (may_stand past rests e all.0, all_stand (past ++ e ∷ []) told (rests_after past e (begins_none e all.0)) all.1)

-- ---- the ids that were asked with

abbrev sent_ids : List Entry → List ℕ
sent_ids told = flat_map id_of (flat_map request_in (written Host told))

ids_joined : (start told : List Entry) → sent_ids (start ++ told) ≡ sent_ids start ++ sent_ids told
ids_joined start told =
    ap (λ (l : List (List ℕ)). flat_map id_of (flat_map request_in l)) (shown-append (unit_at Host) start told)
    ∙ ap (λ (l : List Request). flat_map id_of l) (flat_map-append request_in (written Host start) (written Host told))
    ∙ flat_map-append id_of (flat_map request_in (written Host start)) (flat_map request_in (written Host told))

last_joined : (first : ℕ) (ids more : List ℕ) → last_or first (ids ++ more) ≡ last_or (last_or first ids) more
last_joined first [] more = refl
last_joined first (id ∷ ids) more = last_joined id ids more

last_more : (past later told : List Entry) → since_restart later ≡ since_restart past ++ told → last_id later ≡ last_or (last_id past) (sent_ids told)
last_more past later told since =
    ap (λ (s : List Entry). last_or 0 (sent_ids s)) since ∙ ap (λ (l : List ℕ). last_or 0 l) (ids_joined (since_restart past) told)
    ∙ last_joined 0 (sent_ids (since_restart past)) (sent_ids told)

unit_none : (unit : List ℕ) → is_data unit ≡ false → ids_in unit ≡ []
unit_none unit none = ap (λ (b : Bool). flat_map id_of (if b && (slice_index unit 2 == 0) then read_well (read_request (function_in unit) (body_in unit)) else [])) none

none_sent : (told : List Entry) → AllByRecursion AsksNone told → sent_ids told ≡ []
none_sent [] all = refl
none_sent (entry.Written Host unit ∷ told) all =
    flat_map-append id_of (request_in unit) (flat_map request_in (written Host told)) ∙ ap₂ (λ (first rest : List ℕ). first ++ rest) (unit_none unit all.0) (none_sent told all.1)
none_sent (e ∷ told) all = none_sent told all.1

one_sent : (unit : List ℕ) → sent_ids (entry.Written Host unit ∷ []) ≡ ids_in unit
one_sent unit = ap (λ (l : List Request). flat_map id_of l) (append-nil (request_in unit))

same_last : (given : ℕ) (ids : List ℕ) → AllByRecursion (λ id. id ≡ given) ids → last_or given ids ≡ given
same_last given [] all = refl
same_last given (id ∷ ids) all = ap (λ (n : ℕ). last_or n ids) all.0 ∙ same_last given ids all.1

-- how they are known after one entry more, or some
abbrev OfIds : ℕ → List ℕ → Type 0
OfIds given unit = AllByRecursion (λ id. id ≡ given) (ids_in unit)

counts_on : (past later : List Entry) (given : ℕ) → last_id later ≡ last_id past → (asked later).frame ≡ (asked past).frame → CountsIds past given → CountsIds later given
counts_on past later given last frame counts = record { last = last ∙ counts.last; latest = subst (OfIds given) (sym frame) counts.latest }

counts_none : (past told : List Entry) (given : ℕ) → AllByRecursion EntryGoesOn told → AllByRecursion IsWordless told → sent_ids told ≡ [] → CountsIds past given → CountsIds (past ++ told) given
counts_none past told given goes words none =
    counts_on past (past ++ told) given (last_more past (past ++ told) told (wordless_more past told words) ∙ ap (λ (l : List ℕ). last_or (last_id past) l) none)
    (ap (λ (a : LastAsked). a.frame) (asked_on past told (wordless_fresh told words) goes))

pub counts_quiet : (past told : List Entry) (given : ℕ) → AllByRecursion AsksNone told → CountsIds past given → CountsIds (past ++ told) given
counts_quiet past told given all =
    counts_none past told given (all-weaker AsksNone EntryGoesOn goes_on told all) (all-weaker AsksNone IsWordless wordless told all) (none_sent told all)

counts_copied : (past : List Entry) (unit : List ℕ) (given : ℕ) → is_new (asked past) unit ≡ false → unit ≡ (asked past).frame → CountsIds past given → CountsIds (past ++ entry.Written Host unit ∷ []) given
counts_copied past unit given old is counts =
    counts_on past (past ++ entry.Written Host unit ∷ []) given
    (last_more past (past ++ entry.Written Host unit ∷ []) (entry.Written Host unit ∷ []) (wordless_more past (entry.Written Host unit ∷ []) (tt, tt))
    ∙ ap₂ (λ (n : ℕ) (l : List ℕ). last_or n l) counts.last (one_sent unit) ∙ same_last given (ids_in unit) (subst (OfIds given) (sym is) counts.latest) ∙ sym counts.last)
    (ap (λ (a : LastAsked). a.frame) (asked_copy past unit old)) counts

counts_new : (past : List Entry) (unit : List ℕ) (given next : ℕ) → is_new (asked past) unit ≡ true → OfIds next unit → last_or given (ids_in unit) ≡ next → CountsIds past given
    → CountsIds (past ++ entry.Written Host unit ∷ []) next
counts_new past unit given next new ids last counts = record {
  last = last_more past (past ++ entry.Written Host unit ∷ []) (entry.Written Host unit ∷ []) (wordless_more past (entry.Written Host unit ∷ []) (tt, tt))
      ∙ ap₂ (λ (n : ℕ) (l : List ℕ). last_or n l) counts.last (one_sent unit) ∙ last;
  latest = subst (OfIds next) (sym (ap (λ (a : LastAsked). a.frame) (asked_new past unit new))) ids;
}

-- words of a line that does not start the host anew; of one that does; and of one that is refused
counts_said : (past : List Entry) (words : List ℕ) (given : ℕ) → is_restart (line_of (entry.Said words)) ≡ false → CountsIds past given → CountsIds (past ++ entry.Said words ∷ []) given
counts_said past words given goes =
    counts_on past (past ++ entry.Said words ∷ []) given (last_more past (past ++ entry.Said words ∷ []) (entry.Said words ∷ []) (said_on past words goes))
    (ap (λ (a : LastAsked). a.frame) (asked_said past words goes))

counts_anew : (past : List Entry) (words : List ℕ) → is_restart (line_of (entry.Said words)) ≡ true → CountsIds (past ++ entry.Said words ∷ []) 0
counts_anew past words anew = record {
  last = ap (λ (s : List Entry). last_or 0 (sent_ids s)) (said_anew past words anew);
  latest = subst (λ (a : LastAsked). OfIds 0 a.frame) (sym (asked_anew past words anew)) tt;
}

counts_in_vain : (past : List Entry) (words : List ℕ) (refusal : Refusal) (given : ℕ) → CountsIds past given → CountsIds (past ++ entry.Said words ∷ (entry.Refused refusal ∷ [])) given
counts_in_vain past words refusal given =
    let told : List Entry = entry.Said words ∷ (entry.Refused refusal ∷ []) in
    counts_on past (past ++ told) given (last_more past (past ++ told) told (said_in_vain past words refusal)) (ap (λ (a : LastAsked). a.frame) (asked_in_vain past words refusal))

-- ---- the id that the host gave last

id_from : (d : Doing) (next : UnderWay → Next) (o : Option UnderWay) → (doing_from d next o).id ≡ d.id
id_from d next None = refl
id_from d next (Some u) = by (next u)
  where
    by : (n : Next) → (doing_next d u n).id ≡ d.id
    by (GoesOn progress) = refl
    by (Ends how) = refl

same_after : (d e : Doing) (next : UnderWay → Next) → e ≡ doing_after d next → e.id ≡ d.id
same_after d e next is = ap (λ (x : Doing). x.id) is ∙ id_from d next d.under_way

line_id : (h : HostState) → (after h Line_ticks).requests.last_id ≡ h.requests.last_id
line_id h = ap (λ (x : Doing). x.id) (line_does h) ∙ by (gives_up h.side.turn (turn_ticked h.side.turn))
  where
    ticked : Doing
    ticked = record (doing_of h) { turn = turn_ticked h.side.turn }

    by : (b : Bool) → (if b then doing_after ticked (λ u. Ends LinkFailed) else ticked).id ≡ h.requests.last_id
    by true = id_from ticked (λ u. Ends LinkFailed) ticked.under_way
    by false = refl

-- what the request under way hears is of the chip, the line or a tick
abbrev HearsChip : HostEvent → Type 0
HearsChip (Requests_do event moment) = IsOfChip event
HearsChip event = Unit {0}

well_hears : (event : HostEvent) → AddsWell event → HearsChip event
well_hears (Requests_do event moment) well = well
well_hears event well = tt

note_id : (h : HostState) (event : HostEvent) → AllByRecursion IsNote (outs h event) → HearsChip event → (after h event).requests.last_id ≡ h.requests.last_id
note_id h (Hears item) notes hears = refl
note_id h (Requests_do event moment) notes hears =
    let (next, does) = chip_does h event moment hears in same_after (doing_of h) (doing_of (after h (Requests_do event moment))) next does
note_id h (Interviews n listens classes update) notes hears = same_after (doing_of h) (doing_of (after h (Interviews n listens classes update))) _ (updates_does h update)
note_id h (Interview_unkept n update) notes hears = same_after (doing_of h) (doing_of (after h (Interview_unkept n update))) _ (updates_does h update)
note_id h Line_ticks notes hears = line_id h
note_id h (Queues task) notes hears = refl
note_id h (Queues_interview n) notes hears = refl
note_id h Submits_abort notes hears = absurd notes.0
note_id h Submits_front notes hears = absurd notes.0
note_id h (Starts n plan more payload) notes hears = absurd notes.0
note_id h (Gives_text n payload) notes hears = absurd notes.0
note_id h (Gives_segment n more payload) notes hears = absurd notes.0
note_id h event notes hears = ap (λ (d : Doing). d.id) (beside_same h event tt)

-- ---- what is told

none_shared : SharedAre AsksNone
none_shared = record {
  unanswered = λ command. tt;
  asleep = λ n. tt;
  done = λ n how. tt;
  uninterviewed = λ n. tt;
  neighbours = λ n nodes. tt;
  failed = λ n is_failed. tt;
  stored = λ n setting. tt;
  held = λ n. tt;
  full = λ n. tt;
}

abbrev BeginsNone : HostEvent → Type 0
BeginsNone (Begins n session command) = ⊥
BeginsNone event = Unit {0}

own_none : (event : HostEvent) → BeginsNone event → OwnIs AsksNone event
own_none (Begins n session command) none = absurd none
own_none (Accepts order carriage) none = λ number. tt
own_none event none = tt

event_none : (h : HostState) (event : HostEvent) (told : List Entry) → BeginsNone event → AllByRecursion IsNote (outs h event) → AreTold (outs h event) told → AllByRecursion AsksNone told
event_none h event told begins notes is = notes_told AsksNone (outs h event) told notes (outs_are AsksNone none_shared h event (own_none event begins)) is

mark_none : (e : Entry) → IsOfUnit e → AsksNone e
mark_none (entry.Dropped Host) mark = tt
mark_none (entry.Garbled Host unit) mark = tt
mark_none (entry.Overrun Host) mark = tt
mark_none e mark = absurd mark

marks_none : (marks : List Entry) → AllByRecursion IsOfUnit marks → AllByRecursion AsksNone marks
marks_none marks all = all-weaker IsOfUnit AsksNone mark_none marks all

other_none : (e : Entry) → IsOfOthers e → AsksNone e
other_none (entry.Said words) others = absurd others
other_none (entry.Refused refusal) others = absurd others
other_none (entry.Begin node session command) others = absurd others
other_none (entry.Written side unit) others = absurd others
other_none e others = tt

missed_none : (marks : List Entry) → DidNotCome marks → AllByRecursion AsksNone marks
missed_none (entry.Dropped Chip ∷ []) did = (tt, tt)
missed_none (entry.Overrun Chip ∷ []) did = (tt, tt)
missed_none (entry.Garbled Chip unit ∷ []) did = (tt, tt)
missed_none (entry.Garbled Chip unit ∷ entry.Overrun Chip ∷ []) did = (tt, (tt, tt))
missed_none marks did = absurd did

-- what answers an item is no frame
answer_none : (unit : LineUnit) (told : List Entry) → is_data (unit_text unit) ≡ false → AreTold (Write unit ∷ []) told → AllByRecursion AsksNone told
answer_none unit told none are = unit_told AsksNone mark_none unit told none are

item_none : (item : Item) (told : List Entry) → AreTold (answer_to item) told → AllByRecursion AsksNone told
item_none item told are = item_told (AllByRecursion AsksNone) (λ l is. answer_none Ack l refl is) (λ l is. answer_none Nak l refl is) tt item told are

-- ---- the last request is over

over_so : (past : List Entry) (now : ℕ) (came : List LineUnit) (d : Doing) → AreFrames came → d.turn ≡ Idle → d.under_way ≡ None → TieAsked past now now came d → is_over (asked past) now ≡ true
over_so past now came d frames idle none (inl nothing) =
    ap (λ (l : List ℕ). are_none l || (is_line_free (asked past) now && has_ended (asked past) now)) nothing.unasked
over_so past now came d frames idle none (inr (was, asks)) =
    or_right (are_none (asked past).frame) (is_line_free (asked past) now && has_ended (asked past) now)
    (and_from (is_line_free (asked past) now) (has_ended (asked past) now) (free (subst (TieLine (standing_of (asked past)) now (acknowledged past) came) idle asks.line))
    ((told_of_host past now came d (inr (was, asks))).ended was frames ∙ ap (λ (o : Option UnderWay). is_none o) none))
  where
    free : TieLine (standing_of (asked past)) now (acknowledged past) came Idle → is_line_free (asked past) now ≡ true
    free (inl sent) = ap (λ (l : List ℕ). not (are_none l) || list_any (λ fails. nat_le fails.tick now) (failing (asked past))) sent.sent
    free (inr given_up) =
        let gave = gave_up (standing_of (asked past)) now (acknowledged past) given_up in
        or_right (not (are_none (sent_at (asked past)))) (list_any (λ fails. nat_le fails.tick now) (failing (asked past)))
        (ap (λ (l : List Failing). list_any (λ fails. nat_le fails.tick now) l) gave.failing ∙ ap (λ (b : Bool). b || false) (le-leb gave.fails.tick now gave.by_now))

-- ---- what is submitted

sent_numbered : (last node : ℕ) (payload : List ℕ) → (is_numbered last (send node payload (next_id last)) && true) ≡ true
sent_numbered last node payload = ap (λ (b : Bool). (b && true) && true) (eq-eqb (next_id last) (next_id last) refl)

-- the request of a purpose has the next id, where it is a message, and that is the one given then
record IsNumberedSo (purpose : Purpose) (last : ℕ) : Type 0 where
  numbered : list_all (is_numbered last) (request_of purpose (next_id last) ∷ []) ≡ true
  ids : AllByRecursion (λ id. id ≡ id_after last purpose) (flat_map id_of (request_of purpose (next_id last) ∷ []))
  given : last_or last (flat_map id_of (request_of purpose (next_id last) ∷ [])) ≡ id_after last purpose

purpose_numbered : (purpose : Purpose) (last : ℕ) → IsNumberedSo purpose last
purpose_numbered (Housekeeping (Plain n payload)) last = record { numbered = sent_numbered last n payload; ids = (refl, tt); given = refl }
purpose_numbered (Housekeeping (Offer n nonce)) last = record { numbered = sent_numbered last n (nonce_report nonce); ids = (refl, tt); given = refl }
purpose_numbered (Housekeeping (Segment n payload)) last = record { numbered = sent_numbered last n payload; ids = (refl, tt); given = refl }
purpose_numbered (Housekeeping (NoMore n)) last = record { numbered = sent_numbered last n no_more_information; ids = (refl, tt); given = refl }
purpose_numbered (Housekeeping (First n)) last = record { numbered = refl; ids = tt; given = refl }
purpose_numbered (Housekeeping (Second n)) last = record { numbered = refl; ids = tt; given = refl }
purpose_numbered (Housekeeping Members) last = record { numbered = refl; ids = tt; given = refl }
purpose_numbered (Housekeeping (Neighbours n)) last = record { numbered = refl; ids = tt; given = refl }
purpose_numbered (Housekeeping (IsFailed n)) last = record { numbered = refl; ids = tt; given = refl }
purpose_numbered (Housekeeping Version) last = record { numbered = refl; ids = tt; given = refl }
purpose_numbered (Housekeeping MemoryId) last = record { numbered = refl; ids = tt; given = refl }
purpose_numbered (Housekeeping Capabilities) last = record { numbered = refl; ids = tt; given = refl }
purpose_numbered (Attempt n more payload) last = record { numbered = sent_numbered last n payload; ids = (refl, tt); given = refl }
purpose_numbered Abort last = record { numbered = refl; ids = tt; given = refl }

-- each may stand, the id given last is known after them, and anything may stand next
abbrev Stands : List Entry → List Entry → ℕ → Type 0
Stands past told given = EachAfter MaySend past told × CountsIds (past ++ told) given × Rests (past ++ told)

-- a unit, and what became of it
with_marks : (past : List Entry) (unit : List ℕ) (told : List Entry) (wrote : IsWritten unit told) (given : ℕ) → MaySend past (entry.Written Host unit)
    → CountsIds (past ++ entry.Written Host unit ∷ []) given → Stands past told given
with_marks past unit told wrote given stands counts =
    let one : List Entry = past ++ entry.Written Host unit ∷ [] in
    let none = marks_none wrote.rest wrote.marks in
    let rests : Rests one = rests_after past (entry.Written Host unit) tt in
    subst (λ (l : List Entry). Stands past l given) (sym wrote.are) (
      (stands, all_stand one wrote.rest rests none),
      subst (λ (l : List Entry). CountsIds l given) (append_assoc past (entry.Written Host unit ∷ []) wrote.rest) (counts_quiet one wrote.rest given none counts),
      subst Rests (append_assoc past (entry.Written Host unit ∷ []) wrote.rest) (rests_all one wrote.rest rests none),
    )

none_stands : (past told : List Entry) (given : ℕ) → AllByRecursion AsksNone told → Rests past → CountsIds past given → Stands past told given
none_stands past told given all rests counts = (all_stand past told rests all, counts_quiet past told given all counts, rests_all past told rests all)

given_on : (past told : List Entry) (given next : ℕ) → next ≡ given → Stands past told given → Stands past told next
given_on past told given next is stands = subst (Stands past told) (sym is) stands

submits : (past told : List Entry) (m : HostMachine) (event : HostEvent) (s : Submits past m.state event) → AreFrames m.came → IsFree m.state
    → ((e : Entry) (more : List Entry) → told ≡ e ∷ more → clock past ≡ m.clock) → AreTold (outs m.state event) told → TieAsked past m.clock m.clock m.came (doing_of m.state)
    → FollowsBegin past (entry.Written Host (unit_text (Framed (frame_of s.purpose (next_id m.state.requests.last_id))))) → CountsIds past m.state.requests.last_id
    → Stands past told (after m.state event).requests.last_id
submits past told m event s frames free time is tie follows counts =
    let last : ℕ = m.state.requests.last_id in
    let f : FrameParts = frame_of s.purpose (next_id last) in
    let unit : List ℕ = unit_text (Framed f) in
    let wrote = written_told f told (subst (λ (l : List HostOut). AreTold l told) s.puts is) in
    let so = purpose_numbered s.purpose last in
    let over = ap (λ (n : ℕ). is_over (asked past) n) (time (entry.Written Host unit) wrote.rest wrote.are) ∙ over_so past m.clock m.came (doing_of m.state) frames (turn_idle m.state.side.turn free.free_line) free.none_under_way tie in
    let numbered : list_all (is_numbered (last_id past)) (request_in unit) ≡ true =
    ap₂ (λ (n : ℕ) (l : List Request). list_all (is_numbered n) l) counts.last s.read ∙ so.numbered in
    given_on past told (id_after last s.purpose) (after m.state event).requests.last_id (ap (λ (d : Doing). d.id) s.does)
    (with_marks past unit told wrote (id_after last s.purpose) (
      or_right (not (is_new (asked past) unit)) (is_over (asked past) (clock past)) over,
      or_right (not (is_new (asked past) unit)) (list_all (is_numbered (last_id past)) (request_in unit)) numbered,
      follows,
    )
    (counts_new past unit last (id_after last s.purpose) (is_fresh past m.clock m.came (doing_of m.state) f free.free_line tie)
    (subst (λ (l : List Request). AllByRecursion (λ id. id ≡ id_after last s.purpose) (flat_map id_of l)) (sym s.read) so.ids)
    (ap (λ (l : List Request). last_or last (flat_map id_of l)) s.read ∙ so.given) counts))

-- what a pump submits stands, and the unit of a session that begins is still to come
abbrev Submitted : List Entry → List Entry → HostMachine → Type 0
Submitted past told m = EachAfter MaySend past told × CountsIds (past ++ told) m.state.requests.last_id × (Rests (past ++ told) ⊎ Awaits (past ++ told) m)

stands_so : (past told : List Entry) (m : HostMachine) → Stands past told m.state.requests.last_id → Submitted past told m
stands_so past told m stands = (stands.0, stands.1, inl stands.2)

begins : (past told : List Entry) (m : HostMachine) (event : HostEvent) → IsBeginning event → IsNext m.state event → AreFrames m.came → Ground Submitting past m → IsNumbered m told
    → AreTold (outs m.state event) told → TieAsked past m.clock m.clock m.came (doing_of m.state) → Rests past → CountsIds past m.state.requests.last_id → Submitted past told (done m event)
begins past told m (Begins n session command) is next frames ground numbered (rest, are, none) tie rests counts =
    let begun : Entry = entry.Begin n session command in
    let told_is : told ≡ begun ∷ [] = are ∙ ap (λ (l : List Entry). begun ∷ l) none in
    let begins_so = begun_so m.state n session command next in
    let time = time_told Submitting past told m ground numbered begun rest are in
    subst (λ (l : List Entry). Submitted past l (done m (Begins n session command))) (sym told_is) (
      (
        (
          ap (λ (t : ℕ). is_over (asked past) t) time
              ∙ over_so past m.clock m.came (doing_of m.state) frames (turn_idle m.state.side.turn next.0.free_line) next.0.none_under_way tie,
          refl,
          rests begun,
        ),
        tt,
      ),
      counts_none past (begun ∷ []) m.state.requests.last_id (tt, tt) (tt, tt) refl counts,
      inr (record {
        node = n;
        goes = λ unit goes. follows_last past begun (entry.Written Host unit) goes;
        served = begins_so.served;
        due = begins_so.due;
        numbered = not_awaiting m.awaits begun told rest numbered are;
      }),
    )
begins past told m (Begin_unkept n) is next frames ground numbered so tie rests counts =
    stands_so past told (done m (Begin_unkept n)) (none_stands past told m.state.requests.last_id (event_none m.state (Begin_unkept n) told tt (tt, tt) so) rests counts)
begins past told m event is next frames ground numbered so tie rests counts = absurd is

-- ---- a tick of the line

module _ (past told : List Entry) (m : HostMachine) (before : ℕ) (frames : AreFrames m.came) (is : AreTold (outs m.state Line_ticks) told) (rests : Rests past) (counts : CountsIds past m.state.requests.last_id) where
  quiet_line : copies_now m.state.side.turn ≡ false → Stands past told m.state.requests.last_id
  quiet_line none = none_stands past told m.state.requests.last_id (event_none m.state Line_ticks told tt (line_notes m.state m.state.side.turn none) is) rests counts

  line_by : (turn : Turn) → m.state.side.turn ≡ turn → ((f : FrameParts) (copies ticks : ℕ) → turn ≡ Paused f copies ticks → IsPaused (standing_of (asked past)) before (acknowledged past) m.came f copies)
      → Stands past told m.state.requests.last_id
  line_by Idle turn_is line = quiet_line (ap copies_now turn_is)
  line_by (Copied f copies ticks) turn_is line = quiet_line (ap copies_now turn_is)
  line_by (Paused f copies ticks) turn_is line = by (ticks + 1 == pause_after copies) refl
    where
      unit : List ℕ
      unit = unit_text (Framed f)

      by : (b : Bool) → (ticks + 1 == pause_after copies) ≡ b → Stands past told m.state.requests.last_id
      by true due =
          let paused = line f copies ticks refl in
          let old = is_old past before m.came f copies ticks frames paused in
          with_marks past unit told (copy_line m.state f copies ticks told due (subst (λ (t : Turn). AreTold (line_outs m.state t) told) turn_is is)) m.state.requests.last_id
          (ap (λ (b : Bool). not b || is_over (asked past) (clock past)) old, ap (λ (b : Bool). not b || list_all (is_numbered (last_id past)) (request_in unit)) old, rests (entry.Written Host unit))
          (counts_copied past unit m.state.requests.last_id old (sym paused.frame) counts)
      by false due = quiet_line (ap copies_now turn_is ∙ due)

  line_told : TieAsked past before before m.came (doing_of m.state) → Stands past told m.state.requests.last_id
  line_told (inl none) = quiet_line (ap copies_now none.idle)
  line_told (inr (was, asks)) =
      line_by m.state.side.turn refl
      (λ f copies ticks turn_is. subst (λ (t : Turn). TieLine (standing_of (asked past)) before (acknowledged past) m.came t) turn_is asks.line)

-- ---- steps

abbrev Know : Phase → List Entry → HostMachine → Type 0
Know = both_know Ground KnowsAsked

known_to : (next phase : Phase) (past : List Entry) (m : HostMachine) → next ≡ phase → KnowsRequests phase past m → KnowsRequests next past m
known_to next phase past m is known = subst (λ (p : Phase). KnowsRequests p past m) (sym is) known

known_at : (here phase : Phase) (past : List Entry) (m : HostMachine) → here ≡ phase → KnowsRequests here past m → KnowsRequests phase past m
known_at here phase past m is known = subst (λ (p : Phase). KnowsRequests p past m) is known

abbrev Leads : Phase → List Entry → HostMachine → Step → Type 0
Leads next past m one = EachAfter MaySend past (entries m one) × KnowsRequests next (past ++ entries m one) (happens m one)

-- where no part of the host runs
abbrev Counts : List Entry → HostMachine → Type 0
Counts past m = CountsIds past m.state.requests.last_id × Rests past

counts_at : (here : Phase) (past : List Entry) (m : HostMachine) → IsBetween here → KnowsRequests here past m → Counts past m
counts_at Resting past m is known = known
counts_at Risen past m is known = known
counts_at Open past m is known = known
counts_at (Asked line) past m is known = absurd is
counts_at (Ticking left) past m is known = absurd is
counts_at (Behind left) past m is known = absurd is
counts_at Sleeping past m is known = absurd is
counts_at Submitting past m is known = absurd is

knows_at : (here : Phase) (past : List Entry) (m : HostMachine) → IsBetween here → Counts past m → KnowsRequests here past m
knows_at Resting past m is counts = counts
knows_at Risen past m is counts = counts
knows_at Open past m is counts = counts
knows_at (Asked line) past m is counts = absurd is
knows_at (Ticking left) past m is counts = absurd is
knows_at (Behind left) past m is counts = absurd is
knows_at Sleeping past m is counts = absurd is
knows_at Submitting past m is counts = absurd is

-- which lines do not start the host anew
on_words : (line : Line) (past : List Entry) (given : ℕ) → is_restart (line ∷ []) ≡ false → CountsBefore line past given → CountsIds past given
on_words line past given goes known =
    subst (λ (l : List Entry). CountsIds l given) (sym known.are) (counts_said known.before known.words given (ap is_restart known.read ∙ goes) known.counts)

ticking_none : (event : HostEvent) → IsNodeTick event → BeginsNone event
ticking_none (Node_ticks n) is = tt
ticking_none event is = absurd is

node_hears : (event : HostEvent) → IsNodeTick event → HearsChip event
node_hears (Node_ticks n) is = tt
node_hears event is = absurd is

-- an event that notes at most
notes_stand : (past told : List Entry) (h : HostState) (event : HostEvent) → BeginsNone event → HearsChip event → AllByRecursion IsNote (outs h event) → AreTold (outs h event) told
    → Rests past → CountsIds past h.requests.last_id → Stands past told (after h event).requests.last_id
notes_stand past told h event begins hears notes is rests counts =
    given_on past told h.requests.last_id (after h event).requests.last_id (note_id h event notes hears) (none_stands past told h.requests.last_id (event_none h event told begins notes is) rests counts)

tick_does : (first : HostEvent) (left : List HostEvent) (past : List Entry) (m : HostMachine) (event : HostEvent) (told : List Entry) → event ≡ first → AreTold (outs m.state event) told
    → AreFrames m.came → KnowsTick (first ∷ left) past m → Rests past → CountsIds past m.state.requests.last_id → Stands past told (after m.state event).requests.last_id
tick_does first left past m event told event_is is frames (inl (nodes, are, all, known)) rests counts =
    let line_is : event ≡ Line_ticks = event_is ∙ first_same first Line_ticks left (Requests_do request_ticks BeforeItsTick ∷ nodes) are in
    subst (λ (e : HostEvent). Stands past told (after m.state e).requests.last_id) (sym line_is)
    (given_on past told m.state.requests.last_id (after m.state Line_ticks).requests.last_id (line_id m.state)
    (line_told past told m known.before frames (subst (λ (e : HostEvent). AreTold (outs m.state e) told) line_is is) rests counts known.tie))
tick_does first left past m event told event_is is frames (inr (inl (nodes, are, all, known))) rests counts =
    let request_is : event ≡ Requests_do request_ticks BeforeItsTick = event_is ∙ first_same first (Requests_do request_ticks BeforeItsTick) left nodes are in
    subst (λ (e : HostEvent). Stands past told (after m.state e).requests.last_id) (sym request_is)
    (notes_stand past told m.state (Requests_do request_ticks BeforeItsTick) tt tt (noted_notes _) (subst (λ (e : HostEvent). AreTold (outs m.state e) told) request_is is) rests counts)
tick_does first left past m event told event_is is frames (inr (inr (all, known))) rests counts =
    let node : IsNodeTick event = subst IsNodeTick (sym event_is) all.0 in
    notes_stand past told m.state event (ticking_none event node) (node_hears event node) (node_notes m.state event node) is rests counts

follows_none : (unit : List ℕ) (event : HostEvent) → MayFollow unit event → BeginsNone event
follows_none unit (Begins n session command) may = may
follows_none unit event may = tt

behind_none : (first : HostEvent) (left : List HostEvent) (past : List Entry) (m : HostMachine) → KnowsJudged (Behind (first ∷ left)) past m → BeginsNone first
behind_none first left past m judged = let (unit, may) = behind_follows first left past m judged.1 in follows_none unit first may

sleep_stands : (full : Bool) (past told : List Entry) (h : HostState) (n : ℕ) → AreTold (outs h (if full then Drops_no_more n else Queues_no_more n)) told → Rests past → CountsIds past h.requests.last_id
    → Stands past told (after h (if full then Drops_no_more n else Queues_no_more n)).requests.last_id
sleep_stands true past told h n is rests counts = notes_stand past told h (Drops_no_more n) tt tt (tt, tt) is rests counts
sleep_stands false past told h n is rests counts = notes_stand past told h (Queues_no_more n) tt tt tt is rests counts

-- the unit of an attempt goes to its node
attempt_goes : (n : ℕ) (more : Bool) (payload : List ℕ) (last : ℕ) (f : FrameParts) → f ≡ frame_of (Attempt n more payload) (next_id last)
    → request_in (unit_text (Framed (frame_of (Attempt n more payload) (next_id last)))) ≡ request_of (Attempt n more payload) (next_id last) ∷ [] → GoesTo n (sending_in (unit_text (Framed f)))
attempt_goes n more payload last f is read =
    subst (λ (g : FrameParts). GoesTo n (sending_in (unit_text (Framed g)))) (sym is) (subst (λ (l : List Request). GoesTo n (flat_map sending_of l)) (sym read) refl)

frame_same : (f g : FrameParts) → Write (Framed f) ∷ [] ≡ Write (Framed g) ∷ [] → g ≡ f
frame_same f g is = cc

module _ (brings : PayloadsBring) (past told : List Entry) (m : HostMachine) (numbered : IsNumbered m told) (ground : Know Submitting past m) (counts : CountsIds past m.state.requests.last_id) where
  abbrev Submits_so : HostEvent → Type 0
  Submits_so event = Submitted past told (done m event)

  rest_stands : (event : HostEvent) → IsNext m.state event → MayAll m.state (event ∷ []) → AreTold (outs m.state event) told → Rests past → Submits_so event
  rest_stands event next may is rests = by (submitted_is brings past m ground.0 ground.1 event next may)
    where
      by : Submits past m.state event ⊎ IsBeginning event → Submits_so event
      by (inl s) =
          stands_so past told (done m event)
          (submits past told m event s ground.0.0.1 next.0 (time_told Submitting past told m ground.0 numbered) is ground.1 (rests (entry.Written Host _)) counts)
      by (inr first) = begins past told m event first next ground.0.0.1 ground.0 numbered is ground.1 rests counts

  -- the attempt of a session that has just begun starts
  start_stands : (n : ℕ) (plan : Plan) (more : Bool) (payload : List ℕ) → IsNext m.state (Starts n plan more payload) → MayAll m.state (Starts n plan more payload ∷ [])
      → AreTold (outs m.state (Starts n plan more payload)) told → ((unit : List ℕ) → GoesTo n (sending_in unit) → FollowsBegin past (entry.Written Host unit)) → Submits_so (Starts n plan more payload)
  start_stands n plan more payload next may is goes = by (submitted_is brings past m ground.0 ground.1 event next may)
    where
      event : HostEvent
      event = Starts n plan more payload

      by : Submits past m.state event ⊎ IsBeginning event → Submits_so event
      by (inl s) =
          let last : ℕ = m.state.requests.last_id in
          let f : FrameParts = frame_of s.purpose (next_id last) in
          let read = event_is_read brings m.state event ground.0.0.0.0.0.0.facts.host may.0 ground.0.1.0 in
          stands_so past told (done m event)
          (submits past told m event s ground.0.0.1 next.0 (time_told Submitting past told m ground.0 numbered) is ground.1
          (goes (unit_text (Framed f)) (attempt_goes n more payload last f (frame_same (frame_of (Attempt n more payload) (next_id last)) f s.puts) read)) counts)
      by (inr first) = absurd first

  submit_stands : (event : HostEvent) → IsNext m.state event → MayAll m.state (event ∷ []) → AreTold (outs m.state event) told → Rests past ⊎ Awaits past m → Submits_so event
  submit_stands event next may is (inl rests) = rest_stands event next may is rests
  submit_stands event next may is (inr awaits) =
      let starts = due_starts m.state awaits.node event awaits.served awaits.due next in
      subst Submits_so (sym starts.is)
      (start_stands awaits.node starts.plan starts.more starts.payload (subst (IsNext m.state) starts.is next) (subst (λ (e : HostEvent). MayAll m.state (e ∷ [])) starts.is may)
      (subst (λ (e : HostEvent). AreTold (outs m.state e) told) starts.is is) awaits.goes)

does : PayloadsBring → (here next : Phase) (past : List Entry) (m : HostMachine) (event : HostEvent) (told : List Entry) → May here m (Does event told) next → Know here past m → KnowsRequests here past m
    → Leads next past m (Does event told)
does brings (Ticking (first ∷ left)) next past m event told may ground known =
    let goes = tick_does first left past m event told may.0.0 may.2 ground.0.0.1 ground.1 known.1 known.0 in
    (goes.0, known_to next (Ticking left) (past ++ told) (done m event) may.0.1 (goes.1, goes.2))
does brings (Behind (first ∷ left)) next past m event told may ground known =
    let goes = subst (λ (e : HostEvent). Stands past told (after m.state e).requests.last_id) (sym may.0.0)
    (notes_stand past told m.state first (behind_none first left past m ground.0.0.0.1) (well_hears first ground.0.1.1.0) (behind_notes first left past m ground.0.0.0.1)
    (subst (λ (e : HostEvent). AreTold (outs m.state e) told) may.0.0 may.2) known.1 known.0) in
    (goes.0, known_to next (Behind left) (past ++ told) (done m event) may.0.1 (goes.1, goes.2))
does brings Sleeping next past m event told may ground known =
    let (node, wants, is, next_phase) = may.0 in
    let goes = subst (λ (e : HostEvent). Stands past told (after m.state e).requests.last_id) (sym is)
    (sleep_stands (is_full m.state) past told m.state node (subst (λ (e : HostEvent). AreTold (outs m.state e) told) is may.2) known.1 known.0) in
    (goes.0, known_to next Sleeping (past ++ told) (done m event) next_phase (goes.1, goes.2))
does brings Submitting next past m event told may ground known =
    let goes = submit_stands brings past told m may.3 ground known.0 event may.0.0 may.1 may.2 known.1 in
    (goes.0, known_to next Submitting (past ++ told) (done m event) may.0.1 (goes.1, goes.2))
does brings (Ticking []) next past m event told may ground known = absurd may.0
does brings (Behind []) next past m event told may ground known = absurd may.0
does brings Resting next past m event told may ground known = absurd may.0
does brings (Asked line) next past m event told may ground known = absurd may.0
does brings Risen next past m event told may ground known = absurd may.0
does brings Open next past m event told may ground known = absurd may.0

-- the number of a tick
number_stands : (past : List Entry) (m : HostMachine) → Counts past m → EachAfter MaySend past (entry.Time m.clock ∷ []) × Counts (past ++ entry.Time m.clock ∷ []) (happens m Numbers)
number_stands past m known = let goes = none_stands past (entry.Time m.clock ∷ []) m.state.requests.last_id (tt, tt) known.1 known.0 in (goes.0, (goes.1, goes.2))

numbers : (here : Phase) (past : List Entry) (m : HostMachine) → m.awaits ≡ true → Know here past m → KnowsRequests here past m
    → EachAfter MaySend past (entry.Time m.clock ∷ []) × KnowsRequests here (past ++ entry.Time m.clock ∷ []) (happens m Numbers)
numbers (Asked line) past m awaits ground known = absurd (both_ways m.awaits ground.0.0.0.1.unnumbered awaits)
numbers Resting past m awaits ground known = number_stands past m known
numbers Open past m awaits ground known = number_stands past m known
numbers Risen past m awaits ground known = number_stands past m known
numbers Sleeping past m awaits ground known = number_stands past m known
numbers (Behind left) past m awaits ground known = number_stands past m known
numbers (Ticking left) past m awaits ground known = number_stands past m known
numbers Submitting past m awaits ground (counts, inl rests) = let goes = number_stands past m (counts, rests) in (goes.0, (goes.1.0, inl goes.1.1))
numbers Submitting past m awaits ground (counts, inr begun) = absurd (both_ways m.awaits begun.numbered awaits)

between : (next here : Phase) (past told : List Entry) (m later : HostMachine) → next ≡ here → IsBetween here → later.state.requests.last_id ≡ m.state.requests.last_id → AllByRecursion AsksNone told
    → Counts past m → EachAfter MaySend past told × KnowsRequests next (past ++ told) later
between next here past told m later is at given all counts =
    let goes = given_on past told m.state.requests.last_id later.state.requests.last_id given (none_stands past told m.state.requests.last_id all counts.1 counts.0) in
    (goes.0, known_to next here (past ++ told) later is (knows_at here (past ++ told) later at (goes.1, goes.2)))

answers_none : (h : HostState) (event : HostEvent) → AllByRecursion AsksNone (answers h event)
answers_none h (Accepts order carriage) = (tt, tt)
answers_none h (Cancels command) = (tt, tt)
answers_none h event = tt

refuses : (line : Line) (past : List Entry) (refusal : Refusal) (given : ℕ) → CountsBefore line past given → CountsIds (past ++ entry.Refused refusal ∷ []) given
refuses line past refusal given known =
    subst (λ (l : List Entry). CountsIds (l ++ entry.Refused refusal ∷ []) given) (sym known.are)
    (subst (λ (l : List Entry). CountsIds l given) (sym (append_assoc known.before (entry.Said known.words ∷ []) (entry.Refused refusal ∷ [])))
    (counts_in_vain known.before known.words refusal given known.counts))

restarts : (past : List Entry) (m : HostMachine) (state : HostState) → doing_of state ≡ doing_of (first_host m.keys) → CountsBefore lines.Restart past m.state.requests.last_id
    → CountsIds past state.requests.last_id
restarts past m state fresh known =
    subst (λ (l : List Entry). CountsIds l state.requests.last_id) (sym known.are)
    (subst (CountsIds (known.before ++ entry.Said known.words ∷ [])) (sym (ap (λ (d : Doing). d.id) fresh)) (counts_anew known.before known.words (ap is_restart known.read)))

step_goes : PayloadsBring → (here next : Phase) (past : List Entry) (m : HostMachine) (one : Step) → May here m one next → Know here past m → KnowsRequests here past m → Leads next past m one
step_goes brings here next past m (Tells e) may ground known = between next here past (e ∷ []) m m may.3 may.0 refl (other_none e may.1, tt) (counts_at here past m may.0 known)
step_goes brings here next past m (Comes unit) may ground known =
    between next here past (entries m (Comes unit)) m (happens m (Comes unit)) may.2 may.0 refl (tt, tt) (counts_at here past m may.0 known)
step_goes brings here next past m (Misses text marks) may ground known =
    between next here past (entries m (Misses text marks)) m m may.3 may.0 refl (tt, missed_none marks may.1) (counts_at here past m may.0 known)
step_goes brings here next past m (Says words line) may ground known =
    let rest = known_at here Resting past m may.0 known in (
      ((refl, refl, rest.1 (entry.Said words)), tt),
      known_to next (Asked line) (past ++ entry.Said words ∷ []) (happens m (Says words line)) may.3
          (record { before = past; words = words; are = refl; read = may.2; counts = rest.0 }, rests_after past (entry.Said words) tt),
    )
step_goes brings here next past m (Says_nothing words) may ground known =
    let rest = known_at here Resting past m may.0 known in (
      ((refl, refl, rest.1 (entry.Said words)), tt),
      known_to next Resting (past ++ entry.Said words ∷ []) (happens m (Says_nothing words)) (may.3 ∙ may.0)
          (counts_said past words m.state.requests.last_id (ap is_restart may.2) rest.0, rests_after past (entry.Said words) tt),
    )
step_goes brings here next past m (Asks event) may ground known =
    let at = known_at here (Asked may.0) past m may.1 known in
    between next Open past (answers m.state event) m (happens m (Asks event)) may.5 tt (ap (λ (d : Doing). d.id) (beside_same m.state event (asked_beside may.0 m.state event may.2)))
    (answers_none m.state event) (on_words may.0 past m.state.requests.last_id (event_on may.0 m.state event may.2) at.0, at.1)
step_goes brings here next past m (Refuses refusal) may ground known =
    let at = known_at here (Asked may.0) past m may.1 known in (
      ((refl, refl, at.1 (entry.Refused refusal)), tt),
      known_to next Open (past ++ entry.Refused refusal ∷ []) m may.4 (refuses may.0 past refusal m.state.requests.last_id at.0, rests_after past (entry.Refused refusal) tt),
    )
step_goes brings here next past m (Shows node) may ground known =
    let at = known_at here (Asked (lines.Store node)) past m may.0 known in
    between next Open past (entries m (Shows node)) m m may.2 tt refl (tt, tt) (on_words (lines.Store node) past m.state.requests.last_id refl at.0, at.1)
step_goes brings here next past m (Restarts state) may ground known =
    let fresh = same_asks state (first_host m.keys) (opened_asks m.keys m.records state ground.0.0.0.0.0.0.told may.1) in
    let at = known_at here (Asked lines.Restart) past m may.0 known in (
      tt,
      known_to next Open (past ++ []) (happens m (Restarts state)) may.2
          (subst (λ (l : List Entry). CountsIds l state.requests.last_id × Rests l) (sym (append-nil past)) (restarts past m state fresh at.0, at.1)),
    )
step_goes brings here next past m (Begins_tick left) may ground known =
    between next Risen past [] m (happens m (Begins_tick left)) may.2 tt refl tt (known_at here Resting past m may.0 known)
step_goes brings here next past m Numbers may ground known =
    let goes = numbers here past m may.0 ground known in (goes.0, known_to next here (past ++ entry.Time m.clock ∷ []) (happens m Numbers) may.1 goes.1)
step_goes brings here next past m (Judges item rest behind told) may ground known =
    let at = known_at here Open past m may.0 known in
    let goes = none_stands past told m.state.requests.last_id (item_none item told may.1.told_so) at.1 at.0 in
    (goes.0, known_to next (Behind behind) (past ++ told) (happens m (Judges item rest behind told)) may.2 (goes.1, goes.2))
step_goes brings here next past m (Does event told) may ground known = does brings here next past m event told may ground known

-- a part is over: where a pump is, no unit of a session is still to come
pumped_rests : (past : List Entry) (m : HostMachine) → IsPumped m.state → Rests past ⊎ Awaits past m → Rests past
pumped_rests past m pumped (inl rests) = rests
pumped_rests past m pumped (inr awaits) = absurd (not_pumped m.state awaits.node awaits.served pumped)

turn_goes : (here next : Phase) (past : List Entry) (m : HostMachine) → Turns here m next → KnowsRequests here past m → KnowsRequests next past m
turn_goes Resting next past m is known = known_to next Open past m is known
turn_goes (Asked line) next past m (inl (nothing, is)) known = known_to next Open past m is (on_words line past m.state.requests.last_id (none_on line nothing) known.0, known.1)
turn_goes (Asked line) next past m (inr (ticks, line_is, is)) known =
    known_to next Resting past m is (on_words line past m.state.requests.last_id (ap (λ (l : Line). is_restart (l ∷ [])) line_is) known.0, known.1)
turn_goes Risen next past m is known = known_to next (Ticking _) past m is known
turn_goes (Ticking []) next past m is known = known_to next Open past m is known
turn_goes (Ticking (first ∷ left)) next past m is known = absurd is
turn_goes Open next past m is known = known_to next Sleeping past m is known
turn_goes (Behind []) next past m is known = known_to next Open past m is known
turn_goes (Behind (first ∷ left)) next past m is known = absurd is
turn_goes Sleeping next past m is known = known_to next Submitting past m is.1 (known.0, inl known.1)
turn_goes Submitting next past m is known = known_to next Resting past m is.1 (known.0, pumped_rests past m is.0 known.1)

pub requests_walk : PayloadsBring → (Before : List Entry → Entry → Type 0) → WalkOver (both_know Ground KnowsAsked) Before MaySend KnowsRequests
requests_walk brings Before = record {
  step = λ here next past m one may ground stand known. step_goes brings here next past m one may ground known;
  turn = λ here next past m turns ground known. turn_goes here next past m turns known;
}

-- each law of a transcript that keeps all at each entry
pub all_kept : (past told : List Entry) → EachAfter MaySend past told → KeepsAfter past may_follow told × KeepsAfter past may_number told × EachAfter FollowsBegin past told
all_kept past [] all = (tt, tt, tt)
all_kept past (e ∷ told) all = let rest = all_kept (past ++ e ∷ []) told all.1 in ((all.0.0, rest.0), (all.0.1, rest.1), (all.0.2, rest.2))
