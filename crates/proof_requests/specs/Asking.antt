-- What is known of the request of a host, at each moment (this project's own rule): its side of the line and the request under way are as the transcript tells. Two clocks are looked
-- at, since within a tick the line counts first and the request after it.
use Rattle.std.specs.Prelude.{◌≡◌, ◌⊎◌, ◌≤◌, ◌<◌, ℕ, ◌+◌, ◌==◌, ◌&&◌, nat_le, nat_lt, Bool, true, false, List, [], ◌∷◌, ◌++◌, Option, Some, None, is_none}
use Rattle.std.specs.List.{AllByRecursion, list_all, list_any}
use Rattle.chip_functions.specs.declared.request.Request.TheVariants.{GetNodeProtocolInfo}
use Rattle.serial_frame.specs.Frame.{FrameParts}
use Rattle.serial_frame.specs.Items.{unit_text}
use Rattle.serial_frame.specs.declared.unit.Unit.{Unit as LineUnit}
use Rattle.serial_frame.specs.declared.unit.Unit.TheVariants.{Ack, Nak, Can, Framed}
use Rattle.serial_link.specs.State.{IsBusy}
use Rattle.serial_link.specs.declared.turn.Turn.{Turn}
use Rattle.serial_link.specs.declared.turn.Turn.TheVariants.{Idle, Copied, Paused}
use Rattle.zw_text.specs.declared.entry.Entry.{Entry}
use Rattle.proof_waking.specs.law_transcript.Units.{request_in}
use Rattle.proof_waking.specs.law_time.Judged.{acknowledged, is_acknowledgement, is_data}
use Rattle.proof_waking.specs.law_time.Requests.{Answer, Judging, asked, up_to_first}
use Rattle.proof_waking.specs.law_time.Ends.{has_ended, owes_abort as law_owes_abort, is_abort_frame, is_before_failing, is_sending, waits_before_failing}
use Rattle.host_requests.specs.Facts.{due_second}
use Rattle.host_requests.specs.Frames.{frame_of, request_of}
use Rattle.host_requests.specs.Next.{capability_at, owes_abort}
use Rattle.host_requests.specs.declared.next.Next.{Next}
use Rattle.host_requests.specs.declared.next.Next.TheVariants.{Ends, GoesOn}
use Rattle.host_requests.specs.declared.task.Task.TheVariants.{Second}
use Rattle.host_requests.specs.declared.task.Purpose.{Purpose}
use Rattle.host_requests.specs.declared.task.Purpose.TheVariants.{Housekeeping}
use Rattle.host_requests.specs.declared.under_way.Progress.{Progress}
use Rattle.host_requests.specs.declared.under_way.Progress.TheVariants.{Submitted, Sent, Answered}
use Rattle.host_requests.specs.declared.under_way.UnderWay.{UnderWay}
use Rattle.proof_messages.specs.host_model.State.{HostState}
use Rattle.proof_waking.specs.proof_alone.Steps.{AreFrames}
use Rattle.proof_requests.specs.Carrying.{CarriesSo}
use Rattle.proof_requests.specs.Standing.{Prior, Standing, brought_before, brought_by, counted, failing_in, first_ending, responses_in, sent_in, standing_of, wait_in}

-- ---- what came and was not judged

-- the answers among those units, all of which came in this tick, where so many frames of the chip were judged before them
abbrev pub to_come : ℕ → ℕ → List LineUnit → List Answer
to_come now count [] = []
to_come now count (Framed f ∷ came) = to_come now (count + 1) came
to_come now count (Ack ∷ came) = record { unit = unit_text Ack; tick = now; frames = count } ∷ to_come now count came
to_come now count (Nak ∷ came) = record { unit = unit_text Nak; tick = now; frames = count } ∷ to_come now count came
to_come now count (Can ∷ came) = record { unit = unit_text Can; tick = now; frames = count } ∷ to_come now count came

-- how many frames are among them
abbrev pub frames_among : List LineUnit → ℕ
frames_among [] = 0
frames_among (Framed f ∷ came) = 1 + frames_among came
frames_among (unit ∷ came) = frames_among came

-- ---- the line

abbrev pub NoneAcknowledges : List Answer → Type 0
NoneAcknowledges answers = AllByRecursion (λ answer. is_acknowledgement answer.unit ≡ false) answers

-- the chip acknowledged the frame, by now
pub record WasSent (s : Standing) (now : ℕ) : Type 0 where
  pub tick : ℕ
  pub sent : sent_in s ≡ tick ∷ []
  pub by_now : tick ≤ now

-- the first answer to the fourth copy was no acknowledgement, and was judged
pub record WasDenied (s : Standing) (now count : ℕ) : Type 0 where
  pub answer : Answer
  pub first : counted s ≡ answer ∷ []
  pub denies : is_acknowledgement answer.unit ≡ false
  pub by_now : answer.tick ≤ now
  pub judged : answer.frames ≤ count

-- none came in its 15 ticks
pub record WasIgnored (s : Standing) (now : ℕ) : Type 0 where
  pub none : counted s ≡ []
  pub by_now : s.last + 15 ≤ now

-- the line gave it up, with its fourth copy
abbrev pub WasGivenUp : Standing → ℕ → ℕ → Type 0
WasGivenUp s now count = (s.copies ≡ 4) × (WasDenied s now count ⊎ WasIgnored s now)

-- a copy waits: no answer to it was judged
pub record IsCopied (s : Standing) (now count : ℕ) (came : List LineUnit) (f : FrameParts) (copies ticks : ℕ) : Type 0 where
  pub frame : s.frame ≡ unit_text (Framed f)
  pub copies_are : s.copies ≡ copies
  pub since : s.last + ticks ≡ now
  pub answers : s.answers ≡ to_come now count came
  pub early : ticks < 15
  pub few : copies ≤ 4

-- a pause after a copy that was not the fourth: none of the answers that were judged acknowledges
pub record IsPaused (s : Standing) (now count : ℕ) (came : List LineUnit) (f : FrameParts) (copies : ℕ) : Type 0 where
  pub frame : s.frame ≡ unit_text (Framed f)
  pub copies_are : s.copies ≡ copies
  pub few : copies ≤ 3
  pub gone : List Answer
  pub answers : s.answers ≡ gone ++ to_come now count came
  pub denied : NoneAcknowledges gone

abbrev pub TieLine : Standing → ℕ → ℕ → List LineUnit → Turn → Type 0
TieLine s now count came Idle = WasSent s now ⊎ WasGivenUp s now count
TieLine s now count came (Copied f copies ticks) = IsCopied s now count came f copies ticks
TieLine s now count came (Paused f copies ticks) = IsPaused s now count came f copies

-- ---- the request under way

-- its frame was acknowledged, in time for this response; or it is still on the line
abbrev pub IsSentBy : Standing → Turn → Judging → Bool → Type 0
IsSentBy s turn one true = (turn ≡ Idle) × (sent : ℕ) × (sent_in s ≡ sent ∷ []) × (one.tick < sent + 15)
IsSentBy s turn one false = IsBusy turn

-- it is on the line, and no response was judged; it was acknowledged so many ticks ago that its wait has these left; its first response was judged so many ticks ago
abbrev pub AsProgress : Standing → ℕ → Turn → Progress → Type 0
AsProgress s now turn Submitted = IsBusy turn × (responses_in s ≡ [])
AsProgress s now turn (Sent left) =
    (turn ≡ Idle) × (responses_in s ≡ []) × (is_abort_frame s.frame ≡ false) × (sent : ℕ) × (sent_in s ≡ sent ∷ []) × (sent + 15 ≡ now + left) × (1 ≤ left)
AsProgress s now turn (Answered sent left) =
    (is_abort_frame s.frame ≡ false) × (one : Judging) × (more : List Judging) × (responses_in s ≡ one ∷ more) × (one.tick + 65 ≡ now + left) × (1 ≤ left) × (left ≤ 65) × IsSentBy s turn one sent

-- its frame is read as it, and no frame that was judged has ended it
pub record IsUnderWay (s : Standing) (now : ℕ) (turn : Turn) (id : ℕ) (u : UnderWay) : Type 0 where
  pub frame : s.frame ≡ unit_text (Framed (frame_of u.purpose id))
  pub request : request_in s.frame ≡ request_of u.purpose id ∷ []
  pub unended : first_ending s ≡ []
  pub progress : AsProgress s now turn u.progress

-- ---- its end

-- what an end leaves: whether an abort is owed, and the capability byte that it brought
pub record Leaving : Type 0 where
  pub owes : Bool
  pub first : Option ℕ

abbrev pub nothing_left : Leaving
nothing_left = record { owes = false; first = None }

-- its wait for a callback ended at this tick
abbrev pub is_owed : Standing → ℕ → Bool
is_owed s tick = list_any is_sending (request_in s.frame) && list_any (λ one. one.tick + 65 == tick) (responses_in s)

-- a frame that was judged ended it, before a wait or the line did
pub record EndedByFrame (s : Standing) (now count : ℕ) (leaving : Leaving) : Type 0 where
  pub paid : leaving.owes ≡ false
  pub one : Judging
  pub brings : leaving.first ≡ brought_by (request_in s.frame) one.unit
  pub first : first_ending s ≡ one ∷ []
  pub by_now : one.tick ≤ now
  pub judged : one.place ≤ count
  pub waits : list_all (nat_lt one.tick) (wait_in s) ≡ true
  pub stands : list_all (is_before_failing one) (failing_in s) ≡ true

-- its wait ended, before the line gave it up, and no frame had ended it; of a SendData that was answered an abort is owed
pub record EndedInSilence (s : Standing) (now : ℕ) (leaving : Leaving) : Type 0 where
  pub tick : ℕ
  pub owed : leaving.owes ≡ is_owed s tick
  pub nothing : leaving.first ≡ None
  pub wait : wait_in s ≡ tick ∷ []
  pub by_now : tick ≤ now
  pub late : list_all (λ one. nat_le tick one.tick) (first_ending s) ≡ true
  pub stands : list_all (waits_before_failing tick) (failing_in s) ≡ true

-- the line gave it up, before a frame or a wait ended it
pub record EndedByLine (s : Standing) (now count : ℕ) (leaving : Leaving) : Type 0 where
  pub paid : leaving.owes ≡ false
  pub nothing : leaving.first ≡ None
  pub given_up : WasGivenUp s now count
  pub no_frame : list_any (λ one. list_all (is_before_failing one) (failing_in s)) (first_ending s) ≡ false
  pub no_wait : list_any (λ wait. list_all (waits_before_failing wait) (failing_in s)) (wait_in s) ≡ false

-- an abort ends where it is acknowledged
pub record EndedAsAbort (s : Standing) (now : ℕ) (leaving : Leaving) : Type 0 where
  pub paid : leaving.owes ≡ false
  pub nothing : leaving.first ≡ None
  pub abort : is_abort_frame s.frame ≡ true
  pub sent : WasSent s now

abbrev pub HasEnded : Standing → ℕ → ℕ → Leaving → Type 0
HasEnded s now count leaving = EndedByFrame s now count leaving ⊎ (EndedInSilence s now leaving ⊎ (EndedByLine s now count leaving ⊎ EndedAsAbort s now leaving))

-- the request before the second one of an interview was its first one
abbrev pub FollowsFirst : Prior → Purpose → Type 0
FollowsFirst prior (Housekeeping (Second n)) = request_in prior.frame ≡ GetNodeProtocolInfo n ∷ []
FollowsFirst prior purpose = Unit {0}

-- while one is under way no abort is owed, what the one before it brought is kept, and it carries what it is for
abbrev pub IsKept : Standing → Leaving → Purpose → Type 0
IsKept s leaving purpose = (leaving.owes ≡ false) × (leaving.first ≡ brought_before s.prior) × FollowsFirst s.prior purpose × CarriesSo purpose

-- one that has ended has by the time that the line has counted to
abbrev pub TieUnderWay : Standing → ℕ → ℕ → ℕ → Turn → ℕ → Leaving → Option UnderWay → Type 0
TieUnderWay s line_now now count turn id leaving None = HasEnded s line_now count leaving
TieUnderWay s line_now now count turn id leaving (Some u) = IsUnderWay s now turn id u × IsKept s leaving u.purpose

-- ---- a host

-- what of it is tied: its side of the line, the request under way, what the last end left, the callback id given last, and the node whose second request of an interview is due
pub record Doing : Type 0 where
  pub turn : Turn
  pub under_way : Option UnderWay
  pub leaving : Leaving
  pub id : ℕ
  pub due : Option ℕ

abbrev pub doing_of : HostState → Doing
doing_of h = record {
  turn = h.side.turn;
  under_way = h.requests.under_way;
  leaving = record { owes = h.requests.owes; first = h.requests.first };
  id = h.requests.last_id;
  due = due_second h.requests.queue;
}

-- and after the request under way did so, where there is one
abbrev pub doing_next : Doing → UnderWay → Next → Doing
doing_next d u (GoesOn progress) = record d { under_way = Some (record { purpose = u.purpose; progress = progress }) }
doing_next d u (Ends how) = record d { under_way = None; leaving = record { owes = owes_abort u how; first = capability_at how } }

abbrev pub doing_from : Doing → (UnderWay → Next) → Option UnderWay → Doing
doing_from d next None = record d { under_way = None }
doing_from d next (Some u) = doing_next d u (next u)

abbrev pub doing_after : Doing → (UnderWay → Next) → Doing
doing_after d next = doing_from d next d.under_way

-- nothing was asked since the host started
pub record AsksNothing (past : List Entry) (d : Doing) : Type 0 where
  pub unasked : (asked past).frame ≡ []
  pub idle : d.turn ≡ Idle
  pub none : d.under_way ≡ None
  pub paid : d.leaving ≡ nothing_left
  pub undue : d.due ≡ None

-- a request was written, and what stands up to its first copy, with what follows that, is all
pub record WasAsked (past : List Entry) : Type 0 where
  pub framed : is_data (asked past).frame ≡ true
  pub whole : up_to_first (asked past) ++ (asked past).following ≡ past

-- the last request was the first one of the interview whose second is due
abbrev pub IsDue : List ℕ → Option ℕ → Type 0
IsDue frame None = Unit {0}
IsDue frame (Some n) = request_in frame ≡ GetNodeProtocolInfo n ∷ []

-- the line has counted to one time, and the request to another; so many frames were judged
pub record AsksSo (s : Standing) (line_now now count : ℕ) (came : List LineUnit) (d : Doing) : Type 0 where
  pub line : TieLine s line_now count came d.turn
  pub under_way : TieUnderWay s line_now now count d.turn d.id d.leaving d.under_way
  pub due : IsDue s.frame d.due

abbrev pub TieAsked : List Entry → ℕ → ℕ → List LineUnit → Doing → Type 0
TieAsked past line_now now came d = AsksNothing past d ⊎ (WasAsked past × AsksSo (standing_of (asked past)) line_now now (acknowledged past) came d)

-- ---- what follows

-- where the last request has ended by its transcript is where none is under way, once no answer is to come; and where none is, an abort is owed where the host owes it
pub record TellsOfHost (past : List Entry) (now : ℕ) (came : List LineUnit) (d : Doing) : Type 0 where
  pub ended : WasAsked past → AreFrames came → has_ended (asked past) now ≡ is_none d.under_way
  pub owed : WasAsked past → d.under_way ≡ None → law_owes_abort (asked past) now ≡ d.leaving.owes
