-- What a host asks goes on as the transcript tells, at each thing that happens to it.
use Rattle.std.proofs.Common.{◌≡◌, ◌≤◌, ℕ, ◌+◌, ◌-◌, ◌==◌, ◌||◌, Bool, true, false, if◌then◌else◌, inl, inr, List, [], ◌∷◌, ◌++◌, refl, sym, ap, ◌∙◌, subst, arith}
use Rattle.std.specs.Prelude.{Option, Some, None, nat_lt}
use Rattle.std.specs.List.{list_any}
use Rattle.std.proofs.lemmas.Bool.{and_left, ltb-false, ltb-true}
use Rattle.serial_frame.specs.Frame.{FrameParts}
use Rattle.serial_frame.specs.Items.{unit_text}
use Rattle.serial_frame.specs.declared.unit.Unit.{Unit as LineUnit}
use Rattle.serial_frame.specs.declared.unit.Unit.TheVariants.{Ack, Framed}
use Rattle.serial_link.specs.State.{IsBusy, pause_after, turn_refused, turn_ticked}
use Rattle.serial_link.specs.declared.turn.Turn.{Turn}
use Rattle.serial_link.specs.declared.turn.Turn.TheVariants.{Idle, Copied, Paused}
use Rattle.chip_functions.specs.declared.function.TheConstants.{SEND_DATA}
use Rattle.chip_functions.specs.declared.request.Request.{Request}
use Rattle.proof_waking.specs.law_transcript.Units.{request_in}
use Rattle.proof_waking.specs.law_time.Judged.{is_acknowledgement}
use Rattle.proof_waking.specs.law_time.Requests.{Answer, Judging}
use Rattle.proof_waking.specs.law_time.Ends.{is_abort, is_abort_frame, is_sending}
use Rattle.host_requests.specs.Facts.{first_asked}
use Rattle.host_requests.specs.Frames.{frame_of, function_of, request_of}
use Rattle.host_requests.specs.Next.{acknowledged, at_sent, at_tick, capability_at, is_answered, is_sent, on_with, owes_abort}
use Rattle.host_requests.specs.declared.end.How.TheVariants.{LinkFailed}
use Rattle.host_requests.specs.declared.next.Next.{Next}
use Rattle.host_requests.specs.declared.next.Next.TheVariants.{Ends, GoesOn}
use Rattle.host_requests.specs.declared.task.Task.TheVariants.{Plain, Offer, Segment, NoMore, First, Second, Members, Neighbours, IsFailed, Version, MemoryId, Capabilities}
use Rattle.host_requests.specs.declared.task.Purpose.{Purpose}
use Rattle.host_requests.specs.declared.task.Purpose.TheVariants.{Housekeeping, Attempt, Abort}
use Rattle.host_requests.specs.declared.under_way.Progress.{Progress}
use Rattle.host_requests.specs.declared.under_way.Progress.TheVariants.{Submitted, Sent, Answered}
use Rattle.host_requests.specs.declared.under_way.UnderWay.{UnderWay}
use Rattle.proof_messages.specs.host_model.After.{gives_up}
use Rattle.proof_waking.specs.proof_alone.Steps.{AreFrames}
use Rattle.proof_requests.specs.Standing.{Prior, Standing, brought_before, brought_by, ends_now, first_standing, responses_in, sent_in, with_answer, with_copy, with_judging}
use Rattle.proof_requests.specs.Carrying.{CarriesSo}
use Rattle.proof_requests.specs.Asking.{FollowsFirst, IsDue, IsKept, Leaving, nothing_left, AsProgress, AsksSo, Doing, EndedByFrame, EndedInSilence, IsCopied, IsPaused, IsSentBy, IsUnderWay, TieLine, TieUnderWay, WasGivenUp, doing_after, doing_from, doing_next, to_come}
use Rattle.proof_requests.specs.Effects.{AnswerDoes}
use Rattle.proof_requests.specs.Saying.{FrameSays, frame_next}
use Rattle.proof_requests.specs.Saying.FrameSays.{Leaves, Again, Takes, Finishes}
use Rattle.proof_requests.proofs.Line.{answer_does}
use Rattle.proof_requests.proofs.Ended.{ended_answered, ended_copied, ended_judged, ended_later, gave_up}
use Rattle.proof_requests.proofs.OnLine.{IsAnswer, acknowledged_now, coming, denied_four, ignored_four, line_acknowledged, line_answer_comes, line_denied, line_frame_comes, line_framed, line_submitted, line_ticks, paused_unsent, standing_ticked}
use Rattle.proof_requests.proofs.UnderWay.{IsHeld, Over, answered_again, answered_ends, answered_first, answered_ticks, frame_ends, frame_leaves, line_ends, line_held, line_ignores, progress_over, sent_answered_so, sent_ends, sent_submitted, sent_ticks, unended}
use Rattle.proof_requests.proofs.Saying.{frame_says}

-- ---- requests

abort_none : (p : Purpose) (id : ℕ) → acknowledged p ≡ GoesOn (Sent 15) → is_abort (request_of p id) ≡ false
abort_none (Housekeeping (Plain n payload)) id is = refl
abort_none (Housekeeping (Offer n nonce)) id is = refl
abort_none (Housekeeping (Segment n payload)) id is = refl
abort_none (Housekeeping (NoMore n)) id is = refl
abort_none (Housekeeping (First n)) id is = refl
abort_none (Housekeeping (Second n)) id is = refl
abort_none (Housekeeping Members) id is = refl
abort_none (Housekeeping (Neighbours n)) id is = refl
abort_none (Housekeeping (IsFailed n)) id is = refl
abort_none (Housekeeping Version) id is = refl
abort_none (Housekeeping MemoryId) id is = refl
abort_none (Housekeeping Capabilities) id is = refl
abort_none (Attempt n more payload) id is = refl
abort_none Abort id is = absurd (let bad = is in cc)

sending_so : (p : Purpose) (id : ℕ) → is_sending (request_of p id) || false ≡ (function_of p == SEND_DATA)
sending_so (Housekeeping (Plain n payload)) id = refl
sending_so (Housekeeping (Offer n nonce)) id = refl
sending_so (Housekeeping (Segment n payload)) id = refl
sending_so (Housekeeping (NoMore n)) id = refl
sending_so (Housekeeping (First n)) id = refl
sending_so (Housekeeping (Second n)) id = refl
sending_so (Housekeeping Members) id = refl
sending_so (Housekeeping (Neighbours n)) id = refl
sending_so (Housekeeping (IsFailed n)) id = refl
sending_so (Housekeeping Version) id = refl
sending_so (Housekeeping MemoryId) id = refl
sending_so (Housekeeping Capabilities) id = refl
sending_so (Attempt n more payload) id = refl
sending_so Abort id = refl

-- ---- a frame of the chip is judged

held_before : (s : Standing) (one : Judging) (now count : ℕ) (turn : Turn) → IsHeld (with_judging s one) now count turn → IsHeld s now count turn
held_before s one now count turn held = record { opened = λ busy. let o = held.opened busy in record { fresh = o.fresh; later = o.later } }

answered_is : (p : Progress) → is_answered p ≡ true → (sent : Bool) × (left : ℕ) × (p ≡ Answered sent left)
answered_is (Answered sent left) is = (sent, left, refl)
answered_is Submitted is = absurd (let bad : false ≡ true = is in cc)
answered_is (Sent left) is = absurd (let bad : false ≡ true = is in cc)

-- what a first response finds
record IsUnanswered (s : Standing) (turn : Turn) (one : Judging) (progress : Progress) : Type 0 where
  none : responses_in s ≡ []
  by : IsSentBy s turn one (is_sent progress)

unanswered_so : (s : Standing) (one : Judging) (now : ℕ) (turn : Turn) (progress : Progress) → one.tick ≡ now → is_answered progress ≡ false → AsProgress s now turn progress → IsUnanswered s turn one progress
unanswered_so s one now turn Submitted tick_is fresh (busy, none) = record { none = none; by = busy }
unanswered_so s one now turn (Sent left) tick_is fresh (idle, none, other, sent, sent_is, since, some) = record { none = none; by = (idle, sent, sent_is, omega (arith, tick_is, since, some)) }
unanswered_so s one now turn (Answered sent left) tick_is fresh progress = absurd (let bad : true ≡ false = fresh in cc)

abbrev pub left_of : Bool → Option ℕ → Leaving
left_of owes first = record { owes = owes; first = first }

module _ (s : Standing) (one : Judging) (now count : ℕ) (rest : List LineUnit) (f : FrameParts) (d : Doing) (first : Option ℕ)
    (tick_is : one.tick ≡ now) (place : one.place ≡ count + 1) (unit_is : one.unit ≡ unit_text (Framed f)) (line : TieLine s now count (Framed f ∷ rest) d.turn) (due : IsDue s.frame d.due) where
  line_on : TieLine (with_judging s one) now (count + 1) rest d.turn
  line_on = line_framed s one now count rest f d.turn line

  leaving_is : {a b : Bool} {x y : Option ℕ} → a ≡ b → x ≡ y → left_of a x ≡ left_of b y
  leaving_is {a} {b} {x} {y} owed brought = ap (λ (c : Bool). left_of c x) owed ∙ ap (λ (z : Option ℕ). left_of b z) brought

  asks_with : (leaving : Leaving) (o : Option UnderWay) → TieUnderWay (with_judging s one) now now (count + 1) d.turn d.id leaving o
      → AsksSo (with_judging s one) now now (count + 1) rest (record d { under_way = o; leaving = leaving })
  asks_with leaving o under_way = record { line = line_on; under_way = under_way; due = due }

  -- one that ends it has
  pub finished_by : (u : UnderWay) → IsUnderWay s now d.turn d.id u → ends_now s one ≡ true → EndedByFrame (with_judging s one) now (count + 1) (left_of false (brought_by (request_in s.frame) one.unit))
  finished_by u is ends = frame_ends s one now count d.turn d.id tick_is place u (held_before s one now (count + 1) d.turn (line_held (with_judging s one) now (count + 1) rest d.turn line_on)) is ends

  says_so : (u : UnderWay) (next : Next) → IsUnderWay s now d.turn d.id u → IsKept s d.leaving u.purpose → FrameSays s one u next → AsksSo (with_judging s one) now now (count + 1) rest (doing_next d u next)
  says_so u next is paid (Leaves next_is none ends) =
      subst (λ (n : Next). AsksSo (with_judging s one) now now (count + 1) rest (doing_next d u n)) (sym next_is)
      (asks_with d.leaving (Some u) (frame_leaves s one now count d.turn d.id tick_is place u is none ends, paid))
  says_so u next is paid (Again next_is answered some ends) =
      let (sent, left, progress) = answered_is u.progress answered in
      subst (λ (n : Next). AsksSo (with_judging s one) now now (count + 1) rest (doing_next d u n)) (sym next_is)
      (asks_with d.leaving (Some u) (answered_again s one now count d.turn d.id tick_is place u sent left progress is some ends, paid))
  says_so u next is paid (Takes next_is fresh other some ends) =
      let before = unanswered_so s one now d.turn u.progress tick_is fresh is.progress in
      let later : UnderWay = record { purpose = u.purpose; progress = Answered (is_sent u.progress) 65 } in
      subst (λ (n : Next). AsksSo (with_judging s one) now now (count + 1) rest (doing_next d u n)) (sym next_is)
      (asks_with d.leaving (Some later) (
        record {
          frame = is.frame;
          request = is.request;
          unended = unended s one now count d.turn d.id tick_is place u is ends;
          progress = answered_first s one now count d.turn d.id tick_is place u (is_sent u.progress) is.progress before.none before.by other some;
        },
        paid,
      ))
  says_so u next is paid (Finishes how next_is loud ends brings) =
      let left : left_of false (brought_by (request_in s.frame) one.unit) ≡ left_of (owes_abort u how) (capability_at how) = leaving_is (sym (and_left _ _ loud)) (sym brings) in
      subst (λ (n : Next). AsksSo (with_judging s one) now now (count + 1) rest (doing_next d u n)) (sym next_is)
      (asks_with (record { owes = owes_abort u how; first = capability_at how }) None
      (inl (subst (λ (l : Leaving). EndedByFrame (with_judging s one) now (count + 1) l) left (finished_by u is ends))))

  frame_from : (o : Option UnderWay) → TieUnderWay s now now count d.turn d.id d.leaving o → AsksSo (with_judging s one) now now (count + 1) rest (doing_from d (frame_next d.id first f) o)
  frame_from None ended = asks_with d.leaving None (ended_judged s one now count d.leaving tick_is place ended)
  frame_from (Some u) (is, paid) = says_so u (frame_next d.id first f u) is paid (frame_says s one now d.turn d.id u is first f unit_is)

pub frame_moves : (s : Standing) (one : Judging) (now count : ℕ) (rest : List LineUnit) (f : FrameParts) (d : Doing) (first : Option ℕ) → one.tick ≡ now → one.place ≡ count + 1
    → one.unit ≡ unit_text (Framed f) → AsksSo s now now count (Framed f ∷ rest) d → AsksSo (with_judging s one) now now (count + 1) rest (doing_after d (frame_next d.id first f))
frame_moves s one now count rest f d first tick_is place unit_is asks = frame_from s one now count rest f d first tick_is place unit_is asks.line asks.due d.under_way asks.under_way

-- ---- an acknowledgement is judged

idle_busy : (turn : Turn) → turn ≡ Idle → IsBusy turn → ⊥
idle_busy Idle is busy = busy
idle_busy (Copied f copies ticks) is busy = let bad = is in cc
idle_busy (Paused f copies ticks) is busy = let bad = is in cc

module _ (s : Standing) (now count : ℕ) (rest : List LineUnit) (d : Doing) (busy : IsBusy d.turn) (line : TieLine s now count (Ack ∷ rest) d.turn) (due : IsDue s.frame d.due) where
  sent_so : sent_in s ≡ now ∷ []
  sent_so = acknowledged_now s now count rest d.turn busy line

  abbrev idle_then : Doing
  idle_then = record d { turn = Idle }

  acked : (leaving : Leaving) (o : Option UnderWay) → TieUnderWay s now now count Idle d.id leaving o → AsksSo s now now count rest (record idle_then { under_way = o; leaving = leaving })
  acked leaving o under_way = record { line = line_acknowledged s now count rest d.turn line; under_way = under_way; due = due }

  sent_from : (p : Purpose) (progress : Progress) → IsUnderWay s now d.turn d.id (record { purpose = p; progress = progress }) → IsKept s d.leaving p
      → AsksSo s now now count rest (doing_next idle_then (record { purpose = p; progress = progress }) (at_sent (record { purpose = p; progress = progress })))
  sent_from Abort Submitted is paid =
      acked nothing_left None (inr (inr (inr (record {
        paid = refl;
        nothing = refl;
        abort = ap (λ (l : List Request). list_any is_abort l) is.request;
        sent = record { tick = now; sent = sent_so; by_now = omega arith };
      }))))
  sent_from (Housekeeping task) Submitted is paid = goes_on (Housekeeping task) is paid refl
    where
      goes_on : (p : Purpose) → IsUnderWay s now d.turn d.id (record { purpose = p; progress = Submitted }) → IsKept s d.leaving p → acknowledged p ≡ GoesOn (Sent 15)
          → AsksSo s now now count rest (record idle_then { under_way = Some (record { purpose = p; progress = Sent 15 }) })
      goes_on p is paid so =
          let other : is_abort_frame s.frame ≡ false = ap (λ (l : List Request). list_any is_abort l) is.request ∙ ap (λ (b : Bool). b || false) (abort_none p d.id so) in
          acked d.leaving (Some (record { purpose = p; progress = Sent 15 })) (record { frame = is.frame; request = is.request; unended = is.unended; progress = sent_submitted s now d.turn d.id sent_so other is.progress }, paid)
  sent_from (Attempt n more payload) Submitted is paid =
      let p : Purpose = Attempt n more payload in
      let other : is_abort_frame s.frame ≡ false = ap (λ (l : List Request). list_any is_abort l) is.request in
      acked d.leaving (Some (record { purpose = p; progress = Sent 15 })) (record { frame = is.frame; request = is.request; unended = is.unended; progress = sent_submitted s now d.turn d.id sent_so other is.progress }, paid)
  sent_from p (Sent left) is paid = absurd (idle_busy d.turn is.progress.0 busy)
  sent_from p (Answered true left) is paid = absurd (idle_busy d.turn is.progress.7.0 busy)
  sent_from p (Answered false left) is paid =
      acked d.leaving (Some (record { purpose = p; progress = Answered true left }))
      (record { frame = is.frame; request = is.request; unended = is.unended; progress = sent_answered_so s now d.turn d.id sent_so left is.progress }, paid)

  acked_from : (o : Option UnderWay) → TieUnderWay s now now count d.turn d.id d.leaving o → AsksSo s now now count rest (doing_from idle_then at_sent o)
  acked_from None ended = acked d.leaving None ended
  acked_from (Some u) (is, paid) = sent_from u.purpose u.progress is paid

pub acknowledgement_moves : (s : Standing) (now count : ℕ) (rest : List LineUnit) (d : Doing) → IsBusy d.turn → AsksSo s now now count (Ack ∷ rest) d
    → AsksSo s now now count rest (doing_after (record d { turn = Idle }) at_sent)
acknowledgement_moves s now count rest d busy asks = acked_from s now count rest d busy asks.line asks.due d.under_way asks.under_way

-- ---- NAK or CAN is judged

-- the request under way does not see which copy is on the line
progress_on : (s later : Standing) (now : ℕ) (turn after : Turn) (progress : Progress) → responses_in later ≡ responses_in s → later.frame ≡ s.frame → IsBusy turn → IsBusy after
    → AsProgress s now turn progress → AsProgress later now after progress
progress_on s later now turn after Submitted same frame was busy (on, none) = (busy, same ∙ none)
progress_on s later now turn after (Sent left) same frame was busy (idle, none, other, sent, sent_is, since, some) = absurd (idle_busy turn idle was)
progress_on s later now turn after (Answered true left) same frame was busy (other, one, more, are, since, some, few, (idle, sent, sent_is, time)) = absurd (idle_busy turn idle was)
progress_on s later now turn after (Answered false left) same frame was busy (other, one, more, are, since, some, few, on) =
    (ap is_abort_frame frame ∙ other, one, more, same ∙ are, since, some, few, busy)

under_way_on : (s : Standing) (line_now now count : ℕ) (turn after : Turn) (id : ℕ) (leaving : Leaving) (o : Option UnderWay) → IsBusy turn → IsBusy after → TieUnderWay s line_now now count turn id leaving o
    → TieUnderWay s line_now now count after id leaving o
under_way_on s line_now now count turn after id leaving None was busy ended = ended
under_way_on s line_now now count turn after id leaving (Some u) was busy (is, paid) =
    (record { frame = is.frame; request = is.request; unended = is.unended; progress = progress_on s s now turn after u.progress refl refl was busy is.progress }, paid)

-- the line gives up the frame of the request
given_up_from : (s : Standing) (now count : ℕ) (rest : List LineUnit) (d : Doing) (turn : Turn) (o : Option UnderWay) → IsHeld s now count turn → WasGivenUp s now count
    → IsDue s.frame d.due → TieUnderWay s now now count turn d.id d.leaving o → AsksSo s now now count rest (doing_from (record d { turn = Idle }) (λ u. Ends LinkFailed) o)
given_up_from s now count rest d turn None held given_up due ended = record { line = inr given_up; under_way = ended; due = due }
given_up_from s now count rest d turn (Some u) held given_up due (is, paid) =
    let gave = gave_up s now count given_up in
    let over = subst (λ (l : List ℕ). Over now l (responses_in s)) gave.unsent (progress_over s now count turn u.progress held is.progress) in
    record { line = inr given_up; under_way = inr (inr (inl (line_ends s now count is.unended given_up over))); due = due }

module _ (unit : LineUnit) (text : List ℕ) (denies : is_acknowledgement text ≡ false) where
  pub denial_moves : (s : Standing) (now count : ℕ) (rest : List LineUnit) (d : Doing)
      → to_come now count (unit ∷ rest) ≡ record { unit = text; tick = now; frames = count } ∷ to_come now count rest → AsksSo s now now count (unit ∷ rest) d
      → (turn : Turn) → d.turn ≡ turn → TieLine s now count (unit ∷ rest) turn → TieUnderWay s now now count turn d.id d.leaving d.under_way
      → AsksSo s now now count rest (if gives_up turn (turn_refused turn) then doing_after (record d { turn = turn_refused turn }) (λ u. Ends LinkFailed) else record d { turn = turn_refused turn })
  denial_moves s now count rest d first asks Idle is line under_way = record { line = line; under_way = under_way; due = asks.due }
  denial_moves s now count rest d first asks (Paused f copies ticks) is line under_way =
      record { line = line_denied unit text denies s now count rest (Paused f copies ticks) first line; under_way = under_way; due = asks.due }
  denial_moves s now count rest d first asks (Copied f copies ticks) is line under_way = by (copies == 4) refl (line_denied unit text denies s now count rest (Copied f copies ticks) first line)
    where
      by : (four : Bool) → (copies == 4) ≡ four → TieLine s now count rest (if four then Idle else Paused f copies 0)
          → AsksSo s now now count rest
          (if gives_up (Copied f copies ticks) (if four then Idle else Paused f copies 0) then doing_after (record d { turn = if four then Idle else Paused f copies 0 }) (λ u. Ends LinkFailed)
          else record d { turn = if four then Idle else Paused f copies 0 })
      by true four tie =
          given_up_from s now count rest d (Copied f copies ticks) d.under_way (line_held s now count (unit ∷ rest) (Copied f copies ticks) line)
          (denied_four unit text denies s now count rest f copies ticks first four line) asks.due under_way
      by false four tie = record { line = tie; under_way = under_way_on s now now count (Copied f copies ticks) (Paused f copies 0) d.id d.leaving d.under_way tt tt under_way; due = asks.due }

-- ---- a tick of the line

pub waits_on : (s : Standing) (before now : ℕ) (turn : Turn) (progress : Progress) → now ≡ before + 1 → sent_in s ≡ [] → AsProgress s before turn progress → (one : Judging) (more : List Judging)
    → responses_in s ≡ one ∷ more → now ≤ one.tick + 65
waits_on s before now turn Submitted next unsent (busy, none) one more are = absurd (let bad : [] ≡ one ∷ more = sym none ∙ are in cc)
waits_on s before now turn (Sent left) next unsent (idle, none, other, sent, sent_is, since, some) one more are = absurd (let bad : [] ≡ one ∷ more = sym none ∙ are in cc)
waits_on s before now turn (Answered true left) next unsent (other, first, rest, so, since, some, few, (idle, sent, sent_is, time)) one more are =
    absurd (let bad : [] ≡ sent ∷ [] = sym unsent ∙ sent_is in cc)
waits_on s before now turn (Answered false left) next unsent (other, first, rest, so, since, some, few, busy) one more are =
    let same : one ≡ first = let both : one ∷ more ≡ first ∷ rest = sym are ∙ so in cc in
    let tick : one.tick ≡ first.tick = ap (λ (j : Judging). j.tick) same in
    omega (arith, tick, since, some, next)

under_way_later : (s : Standing) (before now count : ℕ) (turn after : Turn) (id : ℕ) (leaving : Leaving) (o : Option UnderWay) → now ≡ before + 1
    → ((progress : Progress) → AsProgress s before turn progress → AsProgress s before after progress)
    → TieUnderWay s before before count turn id leaving o → TieUnderWay s now before count after id leaving o
under_way_later s before now count turn after id leaving None next on ended = ended_later s before now count count leaving (omega (arith, next)) (omega arith) ended
under_way_later s before now count turn after id leaving (Some u) next on (is, paid) =
    (record { frame = is.frame; request = is.request; unended = is.unended; progress = on u.progress is.progress }, paid)

-- the line after it; a frame that is given up ends its request
abbrev pub doing_ticked : Doing → Turn → Doing
doing_ticked d turn = if gives_up turn (turn_ticked turn) then doing_after (record d { turn = turn_ticked turn }) (λ u. Ends LinkFailed) else record d { turn = turn_ticked turn }

module _ (s : Standing) (before now count : ℕ) (came : List LineUnit) (d : Doing) (next : now ≡ before + 1) (frames : AreFrames came) (due : IsDue s.frame d.due) where
  ignored_from : (f : FrameParts) (copies ticks : ℕ) (o : Option UnderWay) → (ticks == 14) ≡ true → (copies == 4) ≡ true → IsCopied s before count came f copies ticks
      → TieUnderWay s before before count (Copied f copies ticks) d.id d.leaving o → AsksSo s now before count came (doing_from (record d { turn = Idle }) (λ u. Ends LinkFailed) o)
  ignored_from f copies ticks None last four line ended =
      let ignored = ignored_four s before now count came f copies ticks next frames last four line in
      record { line = inr (ignored.0, inr ignored.1); under_way = ended_later s before now count count d.leaving (omega (arith, next)) (omega arith) ended; due = due }
  ignored_from f copies ticks (Some u) last four line (is, paid) =
      let ignored = ignored_four s before now count came f copies ticks next frames last four line in
      let gave = gave_up s now count (ignored.0, inr ignored.1) in
      record {
        line = inr (ignored.0, inr ignored.1);
        under_way = inr (inr (inl (line_ignores s now count is.unended ignored.0 ignored.1 (waits_on s before now (Copied f copies ticks) u.progress next gave.unsent is.progress))));
        due = due;
      }

  copied_from : (f : FrameParts) (copies ticks : ℕ) (o : Option UnderWay) → IsPaused s before count came f copies → TieUnderWay s before before count (Paused f copies ticks) d.id d.leaving o
      → TieUnderWay (with_copy s now) now before count (Copied f (copies + 1) 0) d.id d.leaving o
  copied_from f copies ticks None line ended =
      ended_copied s now count d.leaving (let are = line.copies_are in let few = line.few in omega (arith, are, few)) (paused_unsent s before count came f copies frames line)
      (ended_later s before now count count d.leaving (omega (arith, next)) (omega arith) ended)
  copied_from f copies ticks (Some u) line (is, paid) = (
    record {
      frame = is.frame;
      request = is.request;
      unended = is.unended;
      progress = progress_on s (with_copy s now) before (Paused f copies ticks) (Copied f (copies + 1) 0) u.progress refl refl tt tt is.progress;
    },
    paid,
  )

  pub line_tick_moves : (turn : Turn) → d.turn ≡ turn → TieLine s before count came turn → TieUnderWay s before before count turn d.id d.leaving d.under_way
      → AsksSo (standing_ticked turn s now) now before count came (doing_ticked d turn)
  line_tick_moves Idle is line under_way = record {
    line = line_ticks s before now count came Idle next frames line;
    under_way = under_way_later s before now count Idle Idle d.id d.leaving d.under_way next (λ progress so. so) under_way;
    due = due;
  }
  line_tick_moves (Copied f copies ticks) is line under_way = by (ticks == 14) (copies == 4) refl refl (line_ticks s before now count came (Copied f copies ticks) next frames line)
    where
      on : (after : Turn) → IsBusy after → (progress : Progress) → AsProgress s before (Copied f copies ticks) progress → AsProgress s before after progress
      on after busy progress so = progress_on s s before (Copied f copies ticks) after progress refl refl tt busy so

      by : (last four : Bool) → (ticks == 14) ≡ last → (copies == 4) ≡ four → TieLine s now count came (if last then (if four then Idle else Paused f copies 0) else Copied f copies (ticks + 1))
          → AsksSo s now before count came
          (if gives_up (Copied f copies ticks) (if last then (if four then Idle else Paused f copies 0) else Copied f copies (ticks + 1))
          then doing_after (record d { turn = if last then (if four then Idle else Paused f copies 0) else Copied f copies (ticks + 1) }) (λ u. Ends LinkFailed)
          else record d { turn = if last then (if four then Idle else Paused f copies 0) else Copied f copies (ticks + 1) })
      by true true last_is four_is tie = ignored_from f copies ticks d.under_way last_is four_is line under_way
      by true false last_is four_is tie = record {
        line = tie;
        under_way = under_way_later s before now count (Copied f copies ticks) (Paused f copies 0) d.id d.leaving d.under_way next (on (Paused f copies 0) tt) under_way;
        due = due;
      }
      by false four last_is four_is tie = record {
        line = tie;
        under_way = under_way_later s before now count (Copied f copies ticks) (Copied f copies (ticks + 1)) d.id d.leaving d.under_way next (on (Copied f copies (ticks + 1)) tt) under_way;
        due = due;
      }
  line_tick_moves (Paused f copies ticks) is line under_way = by (ticks + 1 == pause_after copies) (line_ticks s before now count came (Paused f copies ticks) next frames line)
    where
      by : (b : Bool) → TieLine (if b then with_copy s now else s) now count came (if b then Copied f (copies + 1) 0 else Paused f copies (ticks + 1))
          → AsksSo (if b then with_copy s now else s) now before count came
          (if gives_up (Paused f copies ticks) (if b then Copied f (copies + 1) 0 else Paused f copies (ticks + 1))
          then doing_after (record d { turn = if b then Copied f (copies + 1) 0 else Paused f copies (ticks + 1) }) (λ u. Ends LinkFailed)
          else record d { turn = if b then Copied f (copies + 1) 0 else Paused f copies (ticks + 1) })
      by true tie = record { line = tie; under_way = copied_from f copies ticks d.under_way line under_way; due = due }
      by false tie = record {
        line = tie;
        under_way = under_way_later s before now count (Paused f copies ticks) (Paused f copies (ticks + 1)) d.id d.leaving d.under_way next
            (λ progress so. progress_on s s before (Paused f copies ticks) (Paused f copies (ticks + 1)) progress refl refl tt tt so) under_way;
        due = due;
      }

-- ---- a tick of the request

module _ (s : Standing) (before now count : ℕ) (came : List LineUnit) (d : Doing) (next : now ≡ before + 1) (line : TieLine s now count came d.turn) (due : IsDue s.frame d.due) where
  tick_to : (leaving : Leaving) (o : Option UnderWay) → TieUnderWay s now now count d.turn d.id leaving o → AsksSo s now now count came (record d { under_way = o; leaving = leaving })
  tick_to leaving o under_way = record { line = line; under_way = under_way; due = due }

  goes_to : (p : Purpose) (progress later : Progress) → IsUnderWay s before d.turn d.id (record { purpose = p; progress = progress }) → IsKept s d.leaving p → AsProgress s now d.turn later
      → AsksSo s now now count came (record d { under_way = Some (record { purpose = p; progress = later }) })
  goes_to p progress later is paid so =
      tick_to d.leaving (Some (record { purpose = p; progress = later })) (record { frame = is.frame; request = is.request; unended = is.unended; progress = so }, paid)

  last_one : (left : ℕ) → left ≤ 1 → 1 ≤ left → left ≡ 1
  last_one left few some = omega (arith, few, some)

  sent_tick : (p : Purpose) (left : ℕ) (more : Bool) → nat_lt 1 left ≡ more → IsUnderWay s before d.turn d.id (record { purpose = p; progress = Sent left }) → IsKept s d.leaving p
      → AsksSo s now now count came (doing_next d (record { purpose = p; progress = Sent left }) (on_with (if more then Some (Sent (left - 1)) else None)))
  sent_tick p left true so is paid = goes_to p (Sent left) (Sent (left - 1)) is paid (sent_ticks s before now left d.turn next (ltb-true 1 left so) is.progress)
  sent_tick p left false so is paid =
      let one : left ≡ 1 = last_one left (ltb-false 1 left so) is.progress.6 in
      tick_to nothing_left None (inr (inl (sent_ends s before now count d.turn next is.unended (subst (λ (n : ℕ). AsProgress s before d.turn (Sent n)) one is.progress)).0))

  answered_left : (sent : Bool) (left : ℕ) → AsProgress s before d.turn (Answered sent left) → 1 ≤ left
  answered_left true left (other, one, more, are, since, some, few, by) = some
  answered_left false left (other, one, more, are, since, some, few, by) = some

  answered_tick : (p : Purpose) (sent : Bool) (left : ℕ) (more : Bool) → nat_lt 1 left ≡ more → IsUnderWay s before d.turn d.id (record { purpose = p; progress = Answered sent left }) → IsKept s d.leaving p
      → AsksSo s now now count came (doing_next d (record { purpose = p; progress = Answered sent left }) (on_with (if more then Some (Answered sent (left - 1)) else None)))
  answered_tick p sent left true so is paid =
      goes_to p (Answered sent left) (Answered sent (left - 1)) is paid (answered_ticks s before now left d.turn sent next (ltb-true 1 left so) is.progress)
  answered_tick p sent left false so is paid =
      let one : left ≡ 1 = last_one left (ltb-false 1 left so) (answered_left sent left is.progress) in
      let owed : list_any is_sending (request_in s.frame) ≡ (function_of p == SEND_DATA) = ap (λ (l : List Request). list_any is_sending l) is.request ∙ sending_so p d.id in
      tick_to (left_of (function_of p == SEND_DATA) None) None
      (inr (inl (subst (λ (b : Bool). EndedInSilence s now (left_of b None)) owed
      (answered_ends s before now count d.turn sent next is.unended (line_held s now count came d.turn line) (subst (λ (n : ℕ). AsProgress s before d.turn (Answered sent n)) one is.progress)).0)))

  tick_from : (p : Purpose) (progress : Progress) → IsUnderWay s before d.turn d.id (record { purpose = p; progress = progress }) → IsKept s d.leaving p
      → AsksSo s now now count came (doing_next d (record { purpose = p; progress = progress }) (at_tick (record { purpose = p; progress = progress })))
  tick_from p Submitted is paid = goes_to p Submitted Submitted is paid is.progress
  tick_from p (Sent left) is paid = sent_tick p left (nat_lt 1 left) refl is paid
  tick_from p (Answered sent left) is paid = answered_tick p sent left (nat_lt 1 left) refl is paid

  request_from : (o : Option UnderWay) → TieUnderWay s now before count d.turn d.id d.leaving o → AsksSo s now now count came (doing_from d at_tick o)
  request_from None ended = tick_to d.leaving None ended
  request_from (Some u) (is, paid) = tick_from u.purpose u.progress is paid

pub request_tick_moves : (s : Standing) (before now count : ℕ) (came : List LineUnit) (d : Doing) → now ≡ before + 1 → AsksSo s now before count came d → AsksSo s now now count came (doing_after d at_tick)
request_tick_moves s before now count came d next asks = request_from s before now count came d next asks.line asks.due d.under_way asks.under_way

-- ---- a unit comes

sent_kept : (s : Standing) (answer : Answer) (tick : ℕ) → sent_in s ≡ tick ∷ [] → sent_in (with_answer s answer) ≡ tick ∷ []
sent_kept s answer tick sent = by (answer_does s answer)
  where
    bad : sent_in s ≡ [] → ⊥
    bad none = let no : [] ≡ tick ∷ [] = sym none ∙ sent in cc

    by : AnswerDoes s (with_answer s answer) answer → sent_in (with_answer s answer) ≡ tick ∷ []
    by (inl same) = same.sent ∙ sent
    by (inr (inl acks)) = absurd (bad acks.unsent)
    by (inr (inr denies)) = absurd (bad denies.unsent)

progress_answered : (s : Standing) (answer : Answer) (now : ℕ) (turn : Turn) (progress : Progress) → AsProgress s now turn progress → AsProgress (with_answer s answer) now turn progress
progress_answered s answer now turn Submitted (busy, none) = (busy, none)
progress_answered s answer now turn (Sent left) (idle, none, other, sent, sent_is, since, some) = (idle, none, other, sent, sent_kept s answer sent sent_is, since, some)
progress_answered s answer now turn (Answered true left) (other, one, more, are, since, some, few, (idle, sent, sent_is, time)) =
    (other, one, more, are, since, some, few, (idle, sent, sent_kept s answer sent sent_is, time))
progress_answered s answer now turn (Answered false left) (other, one, more, are, since, some, few, busy) = (other, one, more, are, since, some, few, busy)

answer_from : (s : Standing) (now count : ℕ) (came : List LineUnit) (unit : LineUnit) (turn : Turn) (id : ℕ) (leaving : Leaving) (o : Option UnderWay) → TieUnderWay s now now count turn id leaving o
    → TieUnderWay (with_answer s (coming now count came unit)) now now count turn id leaving o
answer_from s now count came unit turn id leaving None ended = ended_answered s (coming now count came unit) now count leaving refl (omega arith) ended
answer_from s now count came unit turn id leaving (Some u) (is, paid) =
    (record { frame = is.frame; request = is.request; unended = is.unended; progress = progress_answered s (coming now count came unit) now turn u.progress is.progress }, paid)

pub answer_moves : (s : Standing) (now count : ℕ) (came : List LineUnit) (unit : LineUnit) (d : Doing) → IsAnswer unit → AsksSo s now now count came d
    → AsksSo (with_answer s (coming now count came unit)) now now count (came ++ unit ∷ []) d
answer_moves s now count came unit d is asks =
    record { line = line_answer_comes s now count came unit d.turn is asks.line; under_way = answer_from s now count came unit d.turn d.id d.leaving d.under_way asks.under_way; due = asks.due }

pub frame_comes : (s : Standing) (line_now now count : ℕ) (came : List LineUnit) (f : FrameParts) (d : Doing) → AsksSo s line_now now count came d → AsksSo s line_now now count (came ++ Framed f ∷ []) d
frame_comes s line_now now count came f d asks = record { line = line_frame_comes s line_now count came f d.turn asks.line; under_way = asks.under_way; due = asks.due }

-- ---- a request is submitted

-- the first of an interview makes its second due
due_then : (purpose : Purpose) (id : ℕ) (frame : List ℕ) → request_in frame ≡ request_of purpose id ∷ [] → IsDue frame (first_asked purpose)
due_then (Housekeeping (First n)) id frame read = read
due_then (Housekeeping task) id frame read = tt
due_then (Attempt n more payload) id frame read = tt
due_then Abort id frame read = tt

pub submitted_moves : (purpose : Purpose) (id now count : ℕ) (prior : Prior) (came : List LineUnit) → AreFrames came → request_in (unit_text (Framed (frame_of purpose id))) ≡ request_of purpose id ∷ []
    → FollowsFirst prior purpose → CarriesSo purpose
    → AsksSo (first_standing (unit_text (Framed (frame_of purpose id))) now prior) now now count came
    (record { turn = Copied (frame_of purpose id) 1 0; under_way = Some (record { purpose = purpose; progress = Submitted }); leaving = record { owes = false; first = brought_before prior }; id = id; due = first_asked purpose })
submitted_moves purpose id now count prior came frames read follows carries = record {
  line = line_submitted (frame_of purpose id) now count prior came frames;
  under_way = (record { frame = refl; request = read; unended = refl; progress = (tt, refl) }, (refl, refl, follows, carries));
  due = due_then purpose id (unit_text (Framed (frame_of purpose id))) read;
}
