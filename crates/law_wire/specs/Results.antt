-- How each SendData that the chip took came to its end (Serial API: SendData callbacks; which status stands for what is this
-- project's own rule): by an abort, by the fate of its frame, or at the next tick where there was no route.
use Rattle.std.specs.Prelude.{ℕ, ◌+◌, ◌-◌, ◌==◌, ◌&&◌, not, nat_lt, nat_le, Bool, true, false, if◌then◌else◌, List, [], ◌∷◌, ◌++◌, map, filter, length}
use Rattle.std.specs.List.{flat_map, list_any}
use Rattle.chip_functions.specs.declared.request.Request.{Request}
use Rattle.chip_functions.specs.declared.request.Request.TheVariants.{SendDataAbort}
use Rattle.chip_functions.specs.declared.notice.TransmitStatus.{TransmitStatus}
use Rattle.chip_functions.specs.declared.notice.TransmitStatus.TheVariants.{CompleteOk, NoAck, Fail, NoRoute}
use Rattle.zw_words.specs.declared.side.Side.TheVariants.{Chip}
use Rattle.zw_text.specs.declared.line.Line.{Line}
use Rattle.zw_text.specs.declared.line.Line.TheVariants as lines
use Rattle.zw_text.specs.declared.entry.Entry.{Entry}
use Rattle.zw_text.specs.declared.entry.Entry.TheVariants.{Said, Written, Heard, Lost, Unheard}
use Rattle.zw_text.specs.Transcript.{line_of}
use Rattle.law_transcript.specs.Lists.{shown_after, listed, last_or}
use Rattle.law_transcript.specs.Nodes.{controller}
use Rattle.law_transcript.specs.Restarts.{repeats}
use Rattle.law_transcript.specs.Repeats.{frame_of}
use Rattle.law_transcript.specs.Fates.{first_fates, flying}
use Rattle.law_wire.specs.Asked.{Course, Asked, Sending, requests_at, asked, acks, clock_of, last_sending, under_way}

-- ---- marks that lose acknowledgements

-- whether the controller sent the frame of that number
abbrev pub is_outward : List Entry → ℕ → Bool
is_outward past number = list_any (λ frame. frame.sender == controller) (listed (frame_of past number))

-- the marks that lines ask for
abbrev pub ack_marks_of : List Line → ℕ
ack_marks_of (lines.LoseAck count ∷ more) = count
ack_marks_of _ = 0

-- how many marks are left: each frame of the controller that is heard in its tick uses one up
abbrev pub ack_mark_step : List Entry → ℕ → Entry → ℕ
ack_mark_step past marks (Said words) = marks + ack_marks_of (line_of (Said words))
ack_mark_step past marks (Heard number) = if not (repeats past) && is_outward past number then marks - 1 else marks
ack_mark_step past marks _ = marks

abbrev pub ack_marks_after : ℕ → List Entry → List Entry → ℕ
ack_marks_after marks past [] = marks
ack_marks_after marks past (entry ∷ rest) = ack_marks_after (ack_mark_step past marks entry) (past ++ entry ∷ []) rest

abbrev pub ack_marks : List Entry → ℕ
ack_marks past = ack_marks_after 0 [] past

-- ---- results

-- a SendData that has ended, and how
pub record Called : Type 0 where
  pub sending : Sending
  pub status : TransmitStatus

abbrev pub ended_by : TransmitStatus → List Sending → List Called
ended_by status sendings = map (λ sending. record { sending = sending; status = status }) sendings

-- an abort ends what is under way
abbrev pub aborted_by : Course → List Entry → Request → List Called
aborted_by course past SendDataAbort = ended_by Fail (under_way course past)
aborted_by course past _ = []

-- the fate of its frame ends what is under way
abbrev pub sent_as : Course → List Entry → ℕ → List Sending
sent_as course past number =
    if is_outward past number then filter (λ sending. sending.frame == number) (last_sending course past) else []

-- a frame that is heard was acknowledged, unless that was lost
abbrev pub status_heard : List Entry → TransmitStatus
status_heard past = if nat_lt 0 (ack_marks past) then NoAck else CompleteOk

-- what ends at an entry
abbrev pub ended_at : Course → List Entry → Entry → List Called
ended_at course past (Written Chip unit) = flat_map (aborted_by course past) (requests_at course past (Written Chip unit))
ended_at course past (Heard number) = if repeats past then [] else ended_by (status_heard past) (sent_as course past number)
ended_at course past (Lost number) = ended_by NoAck (sent_as course past number)
ended_at course past (Unheard number) = ended_by NoAck (sent_as course past number)
ended_at course past _ = []

-- ---- what comes at the next tick

-- the tick before which all that was asked for has come: it comes after the fates of a tick
abbrev pub settled_clock : List Entry → ℕ
settled_clock past = if length (first_fates past) == (flying past).due then clock_of past else clock_of past - 1

-- what was asked whose results come at an entry
abbrev pub came_due : Course → List Entry → Entry → List Asked
came_due course past entry =
    filter (λ one. nat_le (settled_clock past) (clock_of one.past) && nat_lt (clock_of one.past) (settled_clock (past ++ entry ∷ [])))
    (asked course past)

-- a SendData that has no frame ends there
abbrev pub ended_without : Course → List Entry → Asked → List Called
ended_without course past one =
    ended_by NoRoute (filter (λ sending. (sending.place == acks one.past) && not (is_outward past sending.frame)) (last_sending course past))

-- each SendData that has ended, in order
abbrev pub called_at : Course → List Entry → Entry → List Called
called_at course past entry = ended_at course past entry ++ flat_map (ended_without course past) (came_due course past entry)

abbrev pub called : Course → List Entry → List Called
called course transcript = shown_after (called_at course) [] transcript

-- ---- nodes that failed

-- NO_ACK and NOROUTE say that a node failed
abbrev pub tells_failure : TransmitStatus → Bool
tells_failure NoAck = true
tells_failure NoRoute = true
tells_failure _ = false

-- whether the last callback for a node said so
abbrev pub has_failed : Course → List Entry → ℕ → Bool
has_failed course past node =
    last_or false (map (λ one. tells_failure one.status) (filter (λ one. one.sending.node == node) (called course past)))
