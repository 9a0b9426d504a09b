-- At each step of a host alone what it asks is tied to its transcript.
use Rattle.std.proofs.Common.{◌≡◌, ℕ, ◌+◌, ◌==◌, ◌&&◌, not, Bool, true, false, if◌then◌else◌, inl, inr, List, [], ◌∷◌, ◌++◌, length, refl, sym, ap, ◌∙◌, subst, append-nil, append_assoc, length-append, arith}
use Rattle.std.specs.Prelude.{Option, Some, None, nat_le, nat_lt}
use Rattle.std.specs.List.{AllByRecursion, list_any}
use Rattle.std.specs.Str.{bytes_eq}
use Rattle.std.proofs.lemmas.Bool.{both_ways, lt-ltb}
use Rattle.std.proofs.lemmas.Slice.Eq.{bytes_eq-Decides}
use Rattle.zw_base.proofs.Each.{all-append, all-weaker}
use Rattle.serial_frame.specs.Frame.{FrameParts}
use Rattle.serial_frame.specs.Items.{unit_text}
use Rattle.serial_frame.specs.declared.item.Item.TheVariants.{Good}
use Rattle.serial_frame.specs.declared.unit.Unit.{Unit as LineUnit}
use Rattle.serial_frame.specs.declared.unit.Unit.TheVariants.{Ack, Nak, Can, Framed}
use Rattle.serial_link.specs.State.{IsBusy, copy_due, pause_after, turn_refused, turn_ticked}
use Rattle.serial_link.specs.declared.turn.Turn.{Turn}
use Rattle.serial_link.specs.declared.turn.Turn.TheVariants.{Idle, Copied, Paused}
use Rattle.zw_words.specs.declared.side.Side.TheVariants.{Host, Chip}
use Rattle.zw_text.specs.declared.entry.Entry.{Entry}
use Rattle.zw_text.specs.declared.entry.Entry.TheVariants as entry
use Rattle.chip_functions.specs.declared.request.Request.{Request}
use Rattle.chip_functions.specs.declared.request.Request.TheVariants.{GetNodeProtocolInfo}
use Rattle.proof_waking.specs.law_transcript.Units.{request_in}
use Rattle.proof_waking.specs.law_time.Moments.{clock}
use Rattle.proof_waking.specs.law_time.Judged.{acknowledged, frames_come, is_acknowledgement, is_data}
use Rattle.proof_waking.specs.law_time.Ends.{ending, is_sending}
use Rattle.proof_waking.specs.law_time.Requests.{Answer, Judging, are_none, asked, copies as copies_of, is_answer, is_copy, is_new, sent_at}
use Rattle.host_requests.specs.Events.RequestsEvent.{Fails as request_fails, IsSent as request_is_sent, Ticks as request_ticks}
use Rattle.host_requests.specs.Facts.{first_asked, second_of}
use Rattle.host_requests.specs.Next.{at_sent, at_tick}
use Rattle.host_requests.specs.Frames.{frame_of, request_frame, request_of}
use Rattle.host_requests.specs.State.{id_after, next_id}
use Rattle.host_requests.specs.declared.end.How.TheVariants.{LinkFailed}
use Rattle.host_requests.specs.declared.next.Next.{Next}
use Rattle.host_requests.specs.declared.next.Next.TheVariants.{Ends}
use Rattle.host_requests.specs.declared.task.Task.{Task}
use Rattle.host_requests.specs.declared.task.Task.TheVariants.{Second}
use Rattle.host_requests.specs.declared.task.Purpose.{Purpose}
use Rattle.host_requests.specs.declared.task.Purpose.TheVariants.{Housekeeping}
use Rattle.host_requests.specs.declared.under_way.Progress.TheVariants.{Submitted}
use Rattle.host_requests.specs.declared.under_way.UnderWay.{UnderWay}
use Rattle.host_node.specs.declared.attempt.Moment.TheVariants.{BeforeItsTick, BetweenTicks}
use Rattle.proof_messages.specs.host_model.State.{HostState}
use Rattle.proof_messages.specs.host_model.After.{after, failing_if, gives_up, is_busy, line_ticked}
use Rattle.proof_messages.specs.host_model.Did.{after_all}
use Rattle.proof_messages.specs.host_model.Events.{HostEvent, Hears, Line_ticks, Requests_do}
use Rattle.proof_messages.specs.host_model.Outs.{copy_out, failing_entries, noted, outs, request_entries}
use Rattle.proof_messages.specs.host_model.Taking.{IsFollowed, told_if}
use Rattle.proof_messages.specs.host_model.declared.out.HostOut.{HostOut}
use Rattle.proof_messages.specs.host_model.declared.out.HostOut.TheVariants.{Write}
use Rattle.proof_waking.specs.proof_walk.Outside.{IsHostNote}
use Rattle.proof_waking.proofs.HostNotes.{NoteOuts}
use Rattle.proof_waking.specs.proof_alone.Steps.{AreFrames, AreTold, IsOfOthers, IsOfUnit}
use Rattle.proof_waking.specs.Judged.{TieFrames, frames_of}
use Rattle.proof_waking.proofs.Apart.{acknowledged_frames}
use Rattle.proof_waking.proofs.Parts.{IsNote, notes_told}
pub use Rattle.proof_waking.proofs.Parts.{event_notes as event_hosts, noted_notes}
use Rattle.proof_requests.specs.Standing.{Prior, brought_before, brought_of, prior_of, Standing, first_standing, owes_abort_in, responses_in, silence_in, standing_of, with_answer, with_copy}
use Rattle.proof_requests.specs.Carrying.{CarriesSo}
use Rattle.proof_requests.specs.Asking.{FollowsFirst, IsDue, Leaving, AsksNothing, AsksSo, Doing, IsPaused, TieAsked, TieLine, TieUnderWay, WasAsked, doing_after, doing_from, doing_of, frames_among, to_come}
use Rattle.proof_requests.specs.Saying.{frame_next}
use Rattle.proof_requests.proofs.Ending.{over_so}
use Rattle.proof_requests.proofs.Moving.{acknowledgement_moves, answer_moves, denial_moves, doing_ticked, frame_comes, frame_moves, line_tick_moves, request_tick_moves, submitted_moves}
use Rattle.proof_requests.proofs.OnLine.{IsAnswer, coming, copies_now, paused_unsent, standing_ticked}
use Rattle.proof_requests.proofs.Events.{fails_does, frame_does, request_kept, sent_does, ticks_does}
use Rattle.proof_requests.proofs.Standing.{data_acknowledges_none}
use Rattle.proof_requests.proofs.Telling.{IsQuiet, clock_same, mark_quiet, tie_answered, tie_copied, tie_judged, tie_new, tie_quiet}

-- ---- entries that its rules do not look at

pub note_quiet : (e : Entry) → IsHostNote e → IsQuiet e
note_quiet (entry.Said words) note = absurd note
note_quiet (entry.Refused refusal) note = absurd note
note_quiet (entry.Written side unit) note = absurd note
note_quiet (entry.Dropped side) note = absurd note
note_quiet (entry.Overrun side) note = absurd note
note_quiet e note = tt

pub others_quiet : (e : Entry) → IsOfOthers e → IsQuiet e
others_quiet (entry.Said words) others = absurd others
others_quiet (entry.Refused refusal) others = absurd others
others_quiet (entry.Written side unit) others = absurd others
others_quiet (entry.Dropped side) others = absurd others
others_quiet (entry.Overrun side) others = absurd others
others_quiet e others = tt

pub marks_quiet : (marks : List Entry) → AllByRecursion IsOfUnit marks → AllByRecursion IsQuiet marks
marks_quiet marks all = all-weaker IsOfUnit IsQuiet mark_quiet marks all

-- where nothing is written what is told is quiet
quiet_told : (puts : List HostOut) (told : List Entry) → AllByRecursion IsNote puts → NoteOuts puts → AreTold puts told → AllByRecursion IsQuiet told
quiet_told puts told notes hosts is = all-weaker IsHostNote IsQuiet note_quiet told (notes_told IsHostNote puts told notes hosts is)

pub event_quiet : (h : HostState) (event : HostEvent) (told : List Entry) → AllByRecursion IsNote (outs h event) → AreTold (outs h event) told → AllByRecursion IsQuiet told
event_quiet h event told notes is = quiet_told (outs h event) told notes (event_hosts h event) is

-- ---- where nothing was asked

nothing_after : (past : List Entry) (d : Doing) (next : UnderWay → Next) → AsksNothing past d → AsksNothing past (doing_after d next)
nothing_after past d next none =
    subst (λ (o : Option UnderWay). AsksNothing past (doing_from d next o)) (sym none.none) (record { unasked = none.unasked; idle = none.idle; none = refl; paid = none.paid; undue = none.undue })

-- the same, where what it does is the same
pub same_doing : (past : List Entry) (line_now now : ℕ) (came : List LineUnit) (d e : Doing) → e ≡ d → TieAsked past line_now now came d → TieAsked past line_now now came e
same_doing past line_now now came d e is tie = subst (TieAsked past line_now now came) (sym is) tie

pub at_end : (past : List Entry) (line_now now : ℕ) (came : List LineUnit) (d : Doing) → TieAsked past line_now now came d → TieAsked (past ++ []) line_now now came d
at_end past line_now now came d tie = subst (λ (l : List Entry). TieAsked l line_now now came d) (sym (append-nil past)) tie

-- ---- an item is judged

-- a frame
pub judges_frame : (past : List Entry) (now : ℕ) (h : HostState) (f : FrameParts) (rest : List LineUnit) (behind : List HostEvent) (marks : List Entry) → clock past ≡ now
    → IsFollowed (after h (Hears (Good (Framed f)))) h.side.turn (Good (Framed f)) behind → AllByRecursion IsOfUnit marks → TieFrames past (Framed f ∷ rest)
    → TieAsked past now now (Framed f ∷ rest) (doing_of h)
    → TieAsked (past ++ entry.Written Host (unit_text Ack) ∷ marks) now now rest (doing_of (after_all (after h (Hears (Good (Framed f)))) behind))
judges_frame past now h f rest behind marks time followed all frames tie =
    let heard : HostState = after h (Hears (Good (Framed f))) in
    let acked = acknowledged_frames past (Framed f ∷ rest) rest (unit_text (Framed f)) (unit_text Ack) refl refl frames in
    let next : UnderWay → Next = frame_next h.requests.last_id h.requests.first f in
    let first : TieAsked (past ++ entry.Written Host (unit_text Ack) ∷ []) now now rest (doing_after (doing_of h) next) =
    tie_judged past (unit_text (Framed f)) now (Framed f ∷ rest) rest (doing_of h) (doing_after (doing_of h) next) acked.last (nothing_after past (doing_of h) next)
    (λ s asks. frame_moves s (record { unit = unit_text (Framed f); tick = clock past; place = acknowledged past + 1 }) now (acknowledged past) rest f (doing_of h) h.requests.first time refl refl asks) tie in
    subst (λ (l : List Entry). TieAsked l now now rest (doing_of (after_all heard behind))) (append_assoc past (entry.Written Host (unit_text Ack) ∷ []) marks)
    (tie_quiet (past ++ entry.Written Host (unit_text Ack) ∷ []) marks now now rest (doing_of (after_all heard behind)) (marks_quiet marks all)
    (same_doing (past ++ entry.Written Host (unit_text Ack) ∷ []) now now rest (doing_after (doing_of h) next) (doing_of (after_all heard behind)) (frame_does heard f behind followed) first))

-- an acknowledgement
acknowledged_then : (h : HostState) (turn : Turn) → h.side.turn ≡ turn → (behind : List HostEvent) → behind ≡ told_if (is_busy turn) request_is_sent
    → doing_of (after_all (after h (Hears (Good Ack))) behind)
    ≡ (if is_busy turn then doing_after (record (doing_of h) { turn = Idle }) at_sent else record (doing_of h) { turn = Idle })
acknowledged_then h Idle is behind are = ap (λ (l : List HostEvent). doing_of (after_all (after h (Hears (Good Ack))) l)) are
acknowledged_then h (Copied f copies ticks) is behind are =
    ap (λ (l : List HostEvent). doing_of (after_all (after h (Hears (Good Ack))) l)) are ∙ sent_does (after h (Hears (Good Ack))) BetweenTicks
acknowledged_then h (Paused f copies ticks) is behind are =
    ap (λ (l : List HostEvent). doing_of (after_all (after h (Hears (Good Ack))) l)) are ∙ sent_does (after h (Hears (Good Ack))) BetweenTicks

acknowledged_asks : (s : Standing) (now count : ℕ) (rest : List LineUnit) (d : Doing) (turn : Turn) → d.turn ≡ turn → AsksSo s now now count (Ack ∷ rest) d
    → AsksSo s now now count rest (if is_busy turn then doing_after (record d { turn = Idle }) at_sent else record d { turn = Idle })
acknowledged_asks s now count rest d Idle is asks =
    record { line = subst (TieLine s now count (Ack ∷ rest)) is asks.line; under_way = subst (λ (t : Turn). TieUnderWay s now now count t d.id d.leaving d.under_way) is asks.under_way; due = asks.due }
acknowledged_asks s now count rest d (Copied f copies ticks) is asks = acknowledgement_moves s now count rest d (subst IsBusy (sym is) tt) asks
acknowledged_asks s now count rest d (Paused f copies ticks) is asks = acknowledgement_moves s now count rest d (subst IsBusy (sym is) tt) asks

pub judges_acknowledgement : (past : List Entry) (now : ℕ) (h : HostState) (rest : List LineUnit) (behind : List HostEvent) → behind ≡ told_if (is_busy h.side.turn) request_is_sent
    → TieAsked past now now (Ack ∷ rest) (doing_of h) → TieAsked past now now rest (doing_of (after_all (after h (Hears (Good Ack))) behind))
judges_acknowledgement past now h rest behind are tie =
    same_doing past now now rest _ (doing_of (after_all (after h (Hears (Good Ack))) behind)) (acknowledged_then h h.side.turn refl behind are) (by tie)
  where
    by : TieAsked past now now (Ack ∷ rest) (doing_of h)
        → TieAsked past now now rest (if is_busy h.side.turn then doing_after (record (doing_of h) { turn = Idle }) at_sent else record (doing_of h) { turn = Idle })
    by (inl none) =
        inl (subst (λ (t : Turn). AsksNothing past (if is_busy t then doing_after (record (doing_of h) { turn = Idle }) at_sent else record (doing_of h) { turn = Idle })) (sym none.idle)
        (record { unasked = none.unasked; idle = refl; none = none.none; paid = none.paid; undue = none.undue }))
    by (inr (was, asks)) = inr (was, acknowledged_asks (standing_of (asked past)) now (acknowledged past) rest (doing_of h) h.side.turn refl asks)

-- a denial
abbrev denied_doing : Doing → Turn → Doing
denied_doing d turn = if gives_up turn (turn_refused turn) then doing_after (record d { turn = turn_refused turn }) (λ u. Ends LinkFailed) else record d { turn = turn_refused turn }

denied_then : (heard : HostState) (b : Bool) (behind : List HostEvent) → behind ≡ told_if b request_fails
    → doing_of (after_all heard behind) ≡ (if b then doing_after (doing_of heard) (λ u. Ends LinkFailed) else doing_of heard)
denied_then heard true behind are = ap (λ (l : List HostEvent). doing_of (after_all heard l)) are ∙ fails_does heard BetweenTicks
denied_then heard false behind are = ap (λ (l : List HostEvent). doing_of (after_all heard l)) are

denial_tie : (past : List Entry) (now : ℕ) (unit : LineUnit) (text : List ℕ) (rest : List LineUnit) (d : Doing) → is_acknowledgement text ≡ false
    → ((count : ℕ) → to_come now count (unit ∷ rest) ≡ record { unit = text; tick = now; frames = count } ∷ to_come now count rest)
    → TieAsked past now now (unit ∷ rest) d → TieAsked past now now rest (denied_doing d d.turn)
denial_tie past now unit text rest d denies first (inl none) =
    inl (subst (λ (t : Turn). AsksNothing past (denied_doing d t)) (sym none.idle) (record { unasked = none.unasked; idle = refl; none = none.none; paid = none.paid; undue = none.undue }))
denial_tie past now unit text rest d denies first (inr (was, asks)) =
    inr (was, denial_moves unit text denies (standing_of (asked past)) now (acknowledged past) rest d (first (acknowledged past)) asks d.turn refl asks.line asks.under_way)

pub judges_nak : (past : List Entry) (now : ℕ) (h : HostState) (rest : List LineUnit) (behind : List HostEvent) → behind ≡ told_if (gives_up h.side.turn (turn_refused h.side.turn)) request_fails
    → TieAsked past now now (Nak ∷ rest) (doing_of h) → TieAsked past now now rest (doing_of (after_all (after h (Hears (Good Nak))) behind))
judges_nak past now h rest behind are tie =
    same_doing past now now rest _ (doing_of (after_all (after h (Hears (Good Nak))) behind)) (denied_then (after h (Hears (Good Nak))) (gives_up h.side.turn (turn_refused h.side.turn)) behind are)
    (denial_tie past now Nak (unit_text Nak) rest (doing_of h) refl (λ count. refl) tie)

pub judges_can : (past : List Entry) (now : ℕ) (h : HostState) (rest : List LineUnit) (behind : List HostEvent) → behind ≡ told_if (gives_up h.side.turn (turn_refused h.side.turn)) request_fails
    → TieAsked past now now (Can ∷ rest) (doing_of h) → TieAsked past now now rest (doing_of (after_all (after h (Hears (Good Can))) behind))
judges_can past now h rest behind are tie =
    same_doing past now now rest _ (doing_of (after_all (after h (Hears (Good Can))) behind)) (denied_then (after h (Hears (Good Can))) (gives_up h.side.turn (turn_refused h.side.turn)) behind are)
    (denial_tie past now Can (unit_text Can) rest (doing_of h) refl (λ count. refl) tie)

-- ---- a tick

pub line_does : (h : HostState) → doing_of (after h Line_ticks) ≡ doing_ticked (doing_of h) h.side.turn
line_does h = by (gives_up h.side.turn (turn_ticked h.side.turn))
  where
    by : (b : Bool) → doing_of (failing_if b (line_ticked h))
        ≡ (if b then doing_after (record (doing_of h) { turn = turn_ticked h.side.turn }) (λ u. Ends LinkFailed) else record (doing_of h) { turn = turn_ticked h.side.turn })
    by true = fails_does (line_ticked h) BeforeItsTick
    by false = refl

pub request_ticks_tie : (past told : List Entry) (before now : ℕ) (came : List LineUnit) (h : HostState) → now ≡ before + 1 → AreTold (outs h (Requests_do request_ticks BeforeItsTick)) told
    → TieAsked past now before came (doing_of h) → TieAsked (past ++ told) now now came (doing_of (after h (Requests_do request_ticks BeforeItsTick)))
request_ticks_tie past told before now came h next is tie =
    tie_quiet past told now now came (doing_of (after h (Requests_do request_ticks BeforeItsTick)))
    (event_quiet h (Requests_do request_ticks BeforeItsTick) told (noted_notes (request_entries h request_ticks)) is)
    (same_doing past now now came (doing_after (doing_of h) at_tick) (doing_of (after h (Requests_do request_ticks BeforeItsTick))) (ticks_does h BeforeItsTick) (by tie))
  where
    by : TieAsked past now before came (doing_of h) → TieAsked past now now came (doing_after (doing_of h) at_tick)
    by (inl none) = inl (nothing_after past (doing_of h) at_tick none)
    by (inr (was, asks)) = inr (was, request_tick_moves (standing_of (asked past)) before now (acknowledged past) came (doing_of h) next asks)

-- ---- the line's tick

-- told of a host that writes a frame, and of what became of it
pub record IsWritten (text : List ℕ) (told : List Entry) : Type 0 where
  pub rest : List Entry
  pub are : told ≡ entry.Written Host text ∷ rest
  pub marks : AllByRecursion IsOfUnit rest
  pub quiet : AllByRecursion IsQuiet rest

pub written_told : (f : FrameParts) (told : List Entry) → AreTold (Write (Framed f) ∷ []) told → IsWritten (unit_text (Framed f)) told
written_told f told (marks, rest, is, all, none) =
    let became = all-append IsOfUnit marks rest all (subst (AllByRecursion IsOfUnit) (sym none) tt) in
    record { rest = marks ++ rest; are = is; marks = became; quiet = marks_quiet (marks ++ rest) became }

-- what is written at it, by the side of the line
abbrev pub line_outs : HostState → Turn → List HostOut
line_outs h turn = copy_out (copy_due turn) ++ noted (failing_entries (gives_up turn (turn_ticked turn)) (line_ticked h))

pub line_notes : (h : HostState) (turn : Turn) → copies_now turn ≡ false → AllByRecursion IsNote (line_outs h turn)
line_notes h Idle none = tt
line_notes h (Copied f copies ticks) none = noted_notes (failing_entries (gives_up (Copied f copies ticks) (turn_ticked (Copied f copies ticks))) (line_ticked h))
line_notes h (Paused f copies ticks) none = by (ticks + 1 == pause_after copies) none
  where
    by : (b : Bool) → b ≡ false
        → AllByRecursion IsNote (copy_out (if b then Some f else None) ++ noted (failing_entries (gives_up (Paused f copies ticks) (if b then Copied f (copies + 1) 0 else Paused f copies (ticks + 1))) (line_ticked h)))
    by true none = absurd (let bad : true ≡ false = none in cc)
    by false none = tt

pub quiet_line : (h : HostState) (turn : Turn) (told : List Entry) → copies_now turn ≡ false → NoteOuts (line_outs h turn) → AreTold (line_outs h turn) told → AllByRecursion IsQuiet told
quiet_line h turn told none hosts is = quiet_told (line_outs h turn) told (line_notes h turn none) hosts is

pub copy_line : (h : HostState) (f : FrameParts) (copies ticks : ℕ) (told : List Entry) → (ticks + 1 == pause_after copies) ≡ true → AreTold (line_outs h (Paused f copies ticks)) told
    → IsWritten (unit_text (Framed f)) told
copy_line h f copies ticks told now is = by (ticks + 1 == pause_after copies) now is
  where
    by : (b : Bool) → b ≡ true → AreTold (copy_out (if b then Some f else None) ++ noted (failing_entries (gives_up (Paused f copies ticks) (if b then Copied f (copies + 1) 0 else Paused f copies (ticks + 1))) (line_ticked h))) told
        → IsWritten (unit_text (Framed f)) told
    by true now is = written_told f told is
    by false now is = absurd (let bad : false ≡ true = now in cc)

-- a copy is no new request
and_all : (a b c : Bool) → a ≡ true → b ≡ true → c ≡ true → (a && b && c) ≡ true
and_all true true true a b c = refl
and_all false b c is so thus = absurd (let bad : false ≡ true = is in cc)
and_all true false c is so thus = absurd (let bad : false ≡ true = so in cc)
and_all true true false is so thus = absurd (let bad : false ≡ true = thus in cc)

and_not : (a b : Bool) → b ≡ true → (a && not b) ≡ false
and_not true b is = ap not is
and_not false b is = refl

pub is_old : (past : List Entry) (before : ℕ) (came : List LineUnit) (f : FrameParts) (copies ticks : ℕ) → AreFrames came → IsPaused (standing_of (asked past)) before (acknowledged past) came f copies
    → is_new (asked past) (unit_text (Framed f)) ≡ false
is_old past before came f copies ticks frames line =
    and_not (is_data (unit_text (Framed f))) (is_copy (asked past) (unit_text (Framed f)))
    (and_all (bytes_eq (unit_text (Framed f)) (asked past).frame) (are_none (sent_at (asked past))) (nat_lt (copies_of (asked past)) 4)
    ((bytes_eq-Decides (unit_text (Framed f)) (asked past).frame).1 (sym line.frame))
    (ap (λ (l : List ℕ). are_none l) (paused_unsent (standing_of (asked past)) before (acknowledged past) came f copies frames line))
    (lt-ltb (copies_of (asked past)) 4 (let are = line.copies_are in let few = line.few in omega (arith, are, few))))

module _ (past told : List Entry) (before now : ℕ) (came : List LineUnit) (h : HostState) (next : now ≡ before + 1) (frames : AreFrames came) (time : ((e : Entry) (more : List Entry) → told ≡ e ∷ more → clock past ≡ now)) where
  copied_tie : (f : FrameParts) (copies ticks : ℕ) → h.side.turn ≡ Paused f copies ticks → (ticks + 1 == pause_after copies) ≡ true → AreTold (line_outs h (Paused f copies ticks)) told
      → WasAsked past → IsPaused (standing_of (asked past)) before (acknowledged past) came f copies
      → AsksSo (standing_ticked (Paused f copies ticks) (standing_of (asked past)) now) now before (acknowledged past) came (doing_ticked (doing_of h) h.side.turn)
      → TieAsked (past ++ told) now before came (doing_ticked (doing_of h) h.side.turn)
  copied_tie f copies ticks turn_is due is was line asks =
      let wrote = copy_line h f copies ticks told due is in
      let unit : List ℕ = unit_text (Framed f) in
      let e : Entry = entry.Written Host unit in
      let d : Doing = doing_ticked (doing_of h) h.side.turn in
      let at : clock (past ++ e ∷ []) ≡ now = clock_same past (e ∷ []) (tt, tt) ∙ time e wrote.rest wrote.are in
      let so : AsksSo (with_copy (standing_of (asked past)) now) now before (acknowledged past) came d
      = subst (λ (b : Bool). AsksSo (if b then with_copy (standing_of (asked past)) now else standing_of (asked past)) now before (acknowledged past) came d) due asks in
      let first : TieAsked (past ++ e ∷ []) now before came d =
      tie_copied past unit now before came d (data_acknowledges_none unit refl) (is_old past before came f copies ticks frames line)
      ((bytes_eq-Decides unit (asked past).frame).1 (sym line.frame)) was
      (subst (λ (n : ℕ). AsksSo (with_copy (standing_of (asked past)) n) now before (acknowledged past) came d) (sym at) so) in
      subst (λ (l : List Entry). TieAsked (past ++ l) now before came d) (sym wrote.are)
      (subst (λ (l : List Entry). TieAsked l now before came d) (append_assoc past (e ∷ []) wrote.rest)
      (tie_quiet (past ++ e ∷ []) wrote.rest now before came d wrote.quiet first))

  ticked_by : (turn : Turn) → h.side.turn ≡ turn → AreTold (line_outs h turn) told → NoteOuts (line_outs h turn) → WasAsked past → TieLine (standing_of (asked past)) before (acknowledged past) came turn
      → AsksSo (standing_ticked turn (standing_of (asked past)) now) now before (acknowledged past) came (doing_ticked (doing_of h) h.side.turn)
      → TieAsked (past ++ told) now before came (doing_ticked (doing_of h) h.side.turn)
  ticked_by Idle is so hosts was line asks =
      tie_quiet past told now before came (doing_ticked (doing_of h) h.side.turn) (quiet_line h Idle told refl hosts so) (inr (was, asks))
  ticked_by (Copied f copies ticks) is so hosts was line asks =
      tie_quiet past told now before came (doing_ticked (doing_of h) h.side.turn) (quiet_line h (Copied f copies ticks) told refl hosts so) (inr (was, asks))
  ticked_by (Paused f copies ticks) is so hosts was line asks = by (ticks + 1 == pause_after copies) refl
    where
      by : (b : Bool) → (ticks + 1 == pause_after copies) ≡ b → TieAsked (past ++ told) now before came (doing_ticked (doing_of h) h.side.turn)
      by true due = copied_tie f copies ticks is due so was line asks
      by false due =
          tie_quiet past told now before came (doing_ticked (doing_of h) h.side.turn) (quiet_line h (Paused f copies ticks) told due hosts so)
          (inr (was, subst (λ (b : Bool). AsksSo (if b then with_copy (standing_of (asked past)) now else standing_of (asked past)) now before (acknowledged past) came (doing_ticked (doing_of h) h.side.turn)) due asks))

  pub line_ticks_tie : AreTold (outs h Line_ticks) told → TieAsked past before before came (doing_of h) → TieAsked (past ++ told) now before came (doing_of (after h Line_ticks))
  line_ticks_tie is tie = same_doing (past ++ told) now before came (doing_ticked (doing_of h) h.side.turn) (doing_of (after h Line_ticks)) (line_does h) (by tie)
    where
      by : TieAsked past before before came (doing_of h) → TieAsked (past ++ told) now before came (doing_ticked (doing_of h) h.side.turn)
      by (inl none) =
          let so : AreTold (line_outs h Idle) told = subst (λ (t : Turn). AreTold (line_outs h t) told) none.idle is in
          let hosts : NoteOuts (line_outs h Idle) = subst (λ (t : Turn). NoteOuts (line_outs h t)) none.idle (event_hosts h Line_ticks) in
          tie_quiet past told now before came (doing_ticked (doing_of h) h.side.turn) (quiet_line h Idle told refl hosts so)
          (inl (subst (λ (t : Turn). AsksNothing past (doing_ticked (doing_of h) t)) (sym none.idle) (record { unasked = none.unasked; idle = refl; none = none.none; paid = none.paid; undue = none.undue })))
      by (inr (was, asks)) =
          ticked_by h.side.turn refl is (event_hosts h Line_ticks) was asks.line
          (line_tick_moves (standing_of (asked past)) before now (acknowledged past) came (doing_of h) next frames asks.due h.side.turn refl asks.line asks.under_way)

-- ---- a request is submitted

-- nothing is under way, and what is written is a new request
and_none : (a b c : Bool) → b ≡ false → (a && b && c) ≡ false
and_none true b c is = ap (λ (x : Bool). x && c) is
and_none false b c is = refl

and_full : (a b c : Bool) → c ≡ false → (a && b && c) ≡ false
and_full true true c is = is
and_full true false c is = refl
and_full false b c is = refl

and_other : (a b c : Bool) → a ≡ false → (a && b && c) ≡ false
and_other a b c is = ap (λ (x : Bool). x && b && c) is

pub turn_idle : (turn : Turn) → is_busy turn ≡ false → turn ≡ Idle
turn_idle Idle free = refl
turn_idle (Copied f copies ticks) free = absurd (let bad : true ≡ false = free in cc)
turn_idle (Paused f copies ticks) free = absurd (let bad : true ≡ false = free in cc)

pub is_fresh : (past : List Entry) (now : ℕ) (came : List LineUnit) (d : Doing) (f : FrameParts) → is_busy d.turn ≡ false → TieAsked past now now came d → is_new (asked past) (unit_text (Framed f)) ≡ true
is_fresh past now came d f free tie = ap not (by tie)
  where
    line_of_idle : (s : Standing) (count : ℕ) → TieLine s now count came d.turn → TieLine s now count came Idle
    line_of_idle s count line = subst (λ (t : Turn). TieLine s now count came t) (turn_idle d.turn free) line

    over : TieLine (standing_of (asked past)) now (acknowledged past) came Idle → is_copy (asked past) (unit_text (Framed f)) ≡ false
    over (inl sent) =
        and_none (bytes_eq (unit_text (Framed f)) (asked past).frame) (are_none (sent_at (asked past))) (nat_lt (copies_of (asked past)) 4) (ap (λ (l : List ℕ). are_none l) sent.sent)
    over (inr given_up) =
        and_full (bytes_eq (unit_text (Framed f)) (asked past).frame) (are_none (sent_at (asked past))) (nat_lt (copies_of (asked past)) 4) (ap (λ (n : ℕ). nat_lt n 4) given_up.0)

    by : TieAsked past now now came d → is_copy (asked past) (unit_text (Framed f)) ≡ false
    by (inl none) =
        and_other (bytes_eq (unit_text (Framed f)) (asked past).frame) (are_none (sent_at (asked past))) (nat_lt (copies_of (asked past)) 4) (ap (λ (l : List ℕ). bytes_eq (unit_text (Framed f)) l) none.unasked)
    by (inr (was, asks)) = over (line_of_idle (standing_of (asked past)) (acknowledged past) asks.line)

-- a request has begun
abbrev Begun : Purpose → ℕ → ℕ → ℕ → Prior → List LineUnit → Request → Type 0
Begun purpose id now count prior came request =
    AsksSo (first_standing (unit_text (Framed (request_frame request))) now prior) now now count came
    (record { turn = Copied (request_frame request) 1 0; under_way = Some (record { purpose = purpose; progress = Submitted }); leaving = record { owes = false; first = brought_before prior }; id = id; due = first_asked purpose })

-- what it is then
abbrev pub submitted_doing : Purpose → ℕ → Option ℕ → Doing
submitted_doing purpose last first = record {
  turn = Copied (frame_of purpose (next_id last)) 1 0;
  under_way = Some (record { purpose = purpose; progress = Submitted });
  leaving = record { owes = false; first = first };
  id = id_after last purpose;
  due = first_asked purpose;
}

-- what the request before it brought is kept
none_brought : (ending : List Judging) → brought_of [] ending ≡ None
none_brought [] = refl
none_brought (one ∷ more) = refl

kept_of : (past : List Entry) (now : ℕ) (came : List LineUnit) (d : Doing) → d.under_way ≡ None → TieAsked past now now came d → d.leaving.first ≡ brought_before (prior_of past)
kept_of past now came d none (inl nothing) =
    ap (λ (l : Leaving). l.first) nothing.paid ∙ sym (none_brought (ending (asked past))) ∙ sym (ap (λ (l : List ℕ). brought_of (request_in l) (ending (asked past))) nothing.unasked)
kept_of past now came d none (inr (was, asks)) = by d.under_way none asks.under_way
  where
    by : (o : Option UnderWay) → o ≡ None → TieUnderWay (standing_of (asked past)) now now (acknowledged past) d.turn d.id d.leaving o → d.leaving.first ≡ brought_before (prior_of past)
    by None is ended = (over_so (standing_of (asked past)) now (acknowledged past) d.leaving ended).brought
    by (Some u) is under_way = absurd (let bad = is in cc)

-- a second request that is due follows the first of its interview
due_follows : (past : List Entry) (now : ℕ) (came : List LineUnit) (d : Doing) (n : ℕ) → d.due ≡ Some n → TieAsked past now now came d → request_in (asked past).frame ≡ GetNodeProtocolInfo n ∷ []
due_follows past now came d n is (inl none) = absurd (let bad : Some n ≡ None = sym is ∙ none.undue in cc)
due_follows past now came d n is (inr (was, asks)) = subst (IsDue (asked past).frame) is asks.due

pub front_follows : (past : List Entry) (now : ℕ) (came : List LineUnit) (d : Doing) (task : Task) → d.due ≡ second_of task → TieAsked past now now came d
    → FollowsFirst (prior_of past) (Housekeeping task)
front_follows past now came d (Second n) is tie = due_follows past now came d n is tie
front_follows past now came d task is tie = tt

-- while one is due no abort is owed
owed_none : (s : Standing) (now n : ℕ) → request_in s.frame ≡ GetNodeProtocolInfo n ∷ [] → owes_abort_in s now ≡ false
owed_none s now n is =
    ap (λ (l : List Request). list_any is_sending l && list_any (λ tick. nat_le tick now && list_any (λ one. one.tick + 65 == tick) (responses_in s)) (silence_in s)) is

pub owing_undue : (past : List Entry) (now : ℕ) (came : List LineUnit) (d : Doing) → d.under_way ≡ None → d.leaving.owes ≡ true → TieAsked past now now came d → d.due ≡ None
owing_undue past now came d none owes (inl nothing) = nothing.undue
owing_undue past now came d none owes (inr (was, asks)) = by d.due refl
  where
    owed : (o : Option UnderWay) → o ≡ None → TieUnderWay (standing_of (asked past)) now now (acknowledged past) d.turn d.id d.leaving o → owes_abort_in (standing_of (asked past)) now ≡ d.leaving.owes
    owed None is ended = (over_so (standing_of (asked past)) now (acknowledged past) d.leaving ended).owed
    owed (Some u) is under_way = absurd (let bad = is in cc)

    by : (due : Option ℕ) → d.due ≡ due → d.due ≡ None
    by None is = is
    by (Some n) is =
        absurd (both_ways d.leaving.owes
        (sym (owed d.under_way none asks.under_way) ∙ owed_none (standing_of (asked past)) now n (subst (IsDue (asked past).frame) is asks.due)) owes)

pub submits_tie : (past told : List Entry) (now last : ℕ) (came : List LineUnit) (d : Doing) (purpose : Purpose) → AreFrames came → is_busy d.turn ≡ false → d.under_way ≡ None
    → FollowsFirst (prior_of past) purpose → CarriesSo purpose
    → request_in (unit_text (Framed (frame_of purpose (next_id last)))) ≡ request_of purpose (next_id last) ∷ [] → ((e : Entry) (more : List Entry) → told ≡ e ∷ more → clock past ≡ now)
    → AreTold (Write (Framed (frame_of purpose (next_id last))) ∷ []) told → TieAsked past now now came d → TieAsked (past ++ told) now now came (submitted_doing purpose last d.leaving.first)
submits_tie past told now last came d purpose frames free none follows carries read time is tie =
    let f : FrameParts = frame_of purpose (next_id last) in
    let unit : List ℕ = unit_text (Framed f) in
    let wrote = written_told f told is in
    let e : Entry = entry.Written Host unit in
    let after_it : Doing = submitted_doing purpose last (brought_before (prior_of past)) in
    let at : clock (past ++ e ∷ []) ≡ now = clock_same past (e ∷ []) (tt, tt) ∙ time e wrote.rest wrote.are in
    let asks : AsksSo (first_standing unit now (prior_of past)) now now (acknowledged past) came after_it =
    subst (Begun purpose (id_after last purpose) now (acknowledged past) (prior_of past) came) (sym (request_kept purpose last))
    (submitted_moves purpose (id_after last purpose) now (acknowledged past) (prior_of past) came frames
    (subst (λ (q : Request). request_in (unit_text (Framed (request_frame q))) ≡ q ∷ []) (request_kept purpose last) read) follows carries) in
    let first : TieAsked (past ++ e ∷ []) now now came after_it =
    tie_new past unit now now came after_it (data_acknowledges_none unit refl) refl (is_fresh past now came d f free tie)
    (subst (λ (n : ℕ). AsksSo (first_standing unit n (prior_of past)) now now (acknowledged past) came after_it) (sym at) asks) in
    subst (λ (o : Option ℕ). TieAsked (past ++ told) now now came (submitted_doing purpose last o)) (sym (kept_of past now came d none tie))
    (subst (λ (l : List Entry). TieAsked (past ++ l) now now came after_it) (sym wrote.are)
    (subst (λ (l : List Entry). TieAsked l now now came after_it) (append_assoc past (e ∷ []) wrote.rest)
    (tie_quiet (past ++ e ∷ []) wrote.rest now now came after_it wrote.quiet first)))

-- ---- a unit of the chip comes

among_frames : (came : List LineUnit) → length (frames_of came) ≡ frames_among came
among_frames [] = refl
among_frames (Framed f ∷ came) = let more = among_frames came in omega (arith, more)
among_frames (Ack ∷ came) = among_frames came
among_frames (Nak ∷ came) = among_frames came
among_frames (Can ∷ came) = among_frames came

come_count : (past : List Entry) (came : List LineUnit) → TieFrames past came → length (frames_come past) ≡ acknowledged past + frames_among came
come_count past came frames =
    let all = ap length frames.come ∙ length-append frames.done (frames_of came) in
    let count = frames.count in
    let among = among_frames came in
    omega (arith, all, count, among)

pub frame_comes_tie : (past : List Entry) (line_now now : ℕ) (came : List LineUnit) (d : Doing) (f : FrameParts) → TieAsked past line_now now came d
    → TieAsked (past ++ entry.Written Chip (unit_text (Framed f)) ∷ []) line_now now (came ++ Framed f ∷ []) d
frame_comes_tie past line_now now came d f tie = tie_quiet past (entry.Written Chip (unit_text (Framed f)) ∷ []) line_now now (came ++ Framed f ∷ []) d (refl, tt) (by tie)
  where
    by : TieAsked past line_now now came d → TieAsked past line_now now (came ++ Framed f ∷ []) d
    by (inl none) = inl none
    by (inr (was, asks)) = inr (was, frame_comes (standing_of (asked past)) line_now now (acknowledged past) came f d asks)

abbrev come_behind : List ℕ → ℕ → ℕ → Answer
come_behind unit tick frames = record { unit = unit; tick = tick; frames = frames }

pub answer_comes_tie : (past : List Entry) (now : ℕ) (came : List LineUnit) (d : Doing) (unit : LineUnit) → IsAnswer unit → is_answer (unit_text unit) ≡ true → clock past ≡ now → TieFrames past came
    → TieAsked past now now came d → TieAsked (past ++ entry.Written Chip (unit_text unit) ∷ []) now now (came ++ unit ∷ []) d
answer_comes_tie past now came d unit is answers time frames tie =
    tie_answered past (unit_text unit) now came (came ++ unit ∷ []) d answers
    (λ s asks. subst (λ (a : Answer). AsksSo (with_answer s a) now now (acknowledged past) (came ++ unit ∷ []) d) same (answer_moves s now (acknowledged past) came unit d is asks)) tie
  where
    same : coming now (acknowledged past) came unit ≡ record { unit = unit_text unit; tick = clock past; frames = length (frames_come past) }
    same =
        ap (λ (n : ℕ). coming n (acknowledged past) came unit) (sym time)
        ∙ ap (λ (n : ℕ). come_behind (unit_text unit) (clock past) n) (sym (come_count past came frames))
