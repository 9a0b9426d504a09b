-- What the chip has been asked, and which SendData it takes (Serial API: SendData, SendDataAbort; when the chip is idle is this
-- project's own rule): one at a time, until the next tick or until it is aborted.
use Rattle.std.specs.Prelude.{ℕ, ◌+◌, ◌-◌, ◌==◌, ◌&&◌, nat_le, max, Bool, true, false, if◌then◌else◌, List, [], ◌∷◌, map, filter, length, take, slice_get, slice_index}
use Rattle.std.specs.List.{flat_map}
use Rattle.serial_frame.specs.Frame.{FrameParts}
use Rattle.serial_frame.specs.declared.frame.Kind.{Kind}
use Rattle.serial_frame.specs.declared.frame.Kind.TheVariants.{Request as of_request, Response as of_response}
use Rattle.serial_frame.specs.declared.unit.TheConstants.{ACK}
use Rattle.serial_link.specs.Rules.{Event, submitted, Step, outs_of}
use Rattle.serial_link.specs.declared.out.LinkOut.{LinkOut}
use Rattle.serial_link.specs.declared.out.LinkOut.TheVariants.{Write, Got}
use Rattle.chip_functions.specs.Request.{request_of}
use Rattle.chip_functions.specs.declared.request.Request.{Request}
use Rattle.chip_functions.specs.declared.request.Request.TheVariants.{SendData, SendDataAbort}
use Rattle.zw_words.specs.declared.side.Side.TheVariants.{Chip}
use Rattle.zw_text.specs.declared.line.Line.{Line}
use Rattle.zw_text.specs.declared.entry.Entry.{Entry}
use Rattle.zw_text.specs.declared.entry.Entry.TheVariants.{Written}
use Rattle.zw_text.specs.Transcript.{written, frames, lines_run, time_of}
use Rattle.law_transcript.specs.Lists.{shown_after, listed}
use Rattle.law_transcript.specs.Nodes.{is_joined}
use Rattle.law_transcript.specs.Restarts.{ticks_asked}
use Rattle.law_transcript.specs.Units.{read_well}

-- ---- what the transcript does not show of the chip's link

-- the frames that it passed up, each answered ACK, in order; and of each unit that it wrote whether it is the first copy of a
-- frame of its own
pub record Course : Type 0 where
  pub passed : List FrameParts
  pub firsts : List Bool

-- the frames that outputs of a link pass up
abbrev pub passed_by : LinkOut → List FrameParts
passed_by (Got frame) = frame ∷ []
passed_by _ = []

-- whether a unit is written because a frame is submitted
abbrev pub is_first : Event → LinkOut → List Bool
is_first (submitted frame) (Write unit) = true ∷ []
is_first event (Write unit) = false ∷ []
is_first event _ = []

-- the course of a link with this history
abbrev pub course_of : List Step → Course
course_of history = record {
  passed = flat_map passed_by (outs_of history);
  firsts = flat_map (λ step. flat_map (is_first step.event) step.outs) history;
}

-- ---- what it was asked

-- a request that was answered ACK, and the entries before that answer
pub record Asked : Type 0 where
  pub request : Request
  pub past : List Entry

-- whether a unit is an ACK, and how many the chip wrote
abbrev pub is_ack : List ℕ → Bool
is_ack unit = slice_index unit 0 == ACK

abbrev pub acks : List Entry → ℕ
acks past = length (filter is_ack (written Chip past))

-- the request that a frame is, where it is one
abbrev pub request_by : Kind → ℕ → List ℕ → List Request
request_by of_request function body = read_well (request_of function body)
request_by of_response function body = []

abbrev pub requests_of : FrameParts → List Request
requests_of frame = request_by frame.kind frame.func frame.body

-- the request that an ACK of the chip answers
abbrev pub requests_at : Course → List Entry → Entry → List Request
requests_at course past (Written Chip unit) =
    if is_ack unit then flat_map requests_of (listed (slice_get course.passed (acks past))) else []
requests_at course past _ = []

-- all that the chip was asked, in order
abbrev pub asked_at : Course → List Entry → Entry → List Asked
asked_at course past entry = map (λ request. record { request = request; past = past }) (requests_at course past entry)

abbrev pub asked : Course → List Entry → List Asked
asked course transcript = shown_after (asked_at course) [] transcript

-- ---- the clock

-- the lines before the last one
abbrev pub lines_before : List Entry → List Line
lines_before past = take (length (lines_run past) - 1) (lines_run past)

-- how many ticks have begun: those of the lines before, and those that were shown
abbrev pub clock_of : List Entry → ℕ
clock_of past = max (time_of past) (ticks_asked (lines_before past))

-- ---- SendData

-- a SendData that the chip took: its node, payload and callback id, the tick in which it was taken, the number that the next
-- frame had then, and how many frames the chip had answered ACK before it
pub record Sending : Type 0 where
  pub node : ℕ
  pub payload : List ℕ
  pub callback_id : ℕ
  pub clock : ℕ
  pub frame : ℕ
  pub place : ℕ

abbrev pub sending_of : List Entry → ℕ → List ℕ → ℕ → Sending
sending_of past node payload id = record {
  node = node;
  payload = payload;
  callback_id = id;
  clock = clock_of past;
  frame = length (frames past) + 1;
  place = acks past;
}

-- none of them is under way in a later tick
abbrev pub in_tick : ℕ → List Sending → List Sending
in_tick clock sendings = filter (λ sending. sending.clock == clock) sendings

-- the chip takes a SendData where none is under way, its node is joined, and its payload has at most 46 bytes
abbrev pub takes : List Entry → List Sending → ℕ → List ℕ → Bool
takes past under_way node payload = (length under_way == 0) && (is_joined past node && nat_le (length payload) 46)

-- what is under way after a request
abbrev pub sending_by : List Entry → List Sending → Request → List Sending
sending_by past under_way (SendData node payload options id) =
    if takes past under_way node payload then sending_of past node payload id ∷ [] else under_way
sending_by past under_way SendDataAbort = []
sending_by past under_way _ = under_way

abbrev pub sending_after : List Sending → List Asked → List Sending
sending_after before [] = before
sending_after before (one ∷ more) = sending_after (sending_by one.past (in_tick (clock_of one.past) before) one.request) more

-- the last SendData that the chip took, where none aborted it; and the same where it is under way
abbrev pub last_sending : Course → List Entry → List Sending
last_sending course past = sending_after [] (asked course past)

abbrev pub under_way : Course → List Entry → List Sending
under_way course past = in_tick (clock_of past) (last_sending course past)
