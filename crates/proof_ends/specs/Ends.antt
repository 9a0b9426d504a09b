-- What a host notes of the ends of its requests, in full and in order (Serial API: a request, its response and its callback; Wake Up Command Class; which notes come of which end is this project's own
-- rule): the notes of an end stand together, once, in the order errand, sleep, answer or interview, outcome; so does what is noted of a command that is given up; and no such note stands elsewhere.
use Rattle.std.specs.Prelude.{◌≡◌, ◌⊎◌, ◌<◌, ℕ, ◌&&◌, ◌||◌, not, Bool, true, false, if◌then◌else◌, List, [], ◌∷◌, ◌++◌}
use Rattle.std.specs.List.{flat_map}
use Rattle.chip_functions.specs.declared.request.Request.{Request}
use Rattle.zw_words.specs.declared.side.Side.TheVariants.{Host}
use Rattle.zw_text.specs.declared.entry.Done.{Done as HowDone}
use Rattle.zw_text.specs.declared.entry.Ended.TheVariants.{Unanswered}
use Rattle.zw_text.specs.declared.entry.Refusal.{Refusal}
use Rattle.zw_text.specs.declared.entry.Entry.{Entry}
use Rattle.zw_text.specs.declared.entry.Entry.TheVariants.{Said, Refused, Written, Out, Asleep, Interviewed, InterviewFailed, Done, Neighbours, Failed, Unkept, Time}
use Rattle.zw_text.specs.Transcript.{line_last, line_of}
use Rattle.law_transcript.specs.Restarts.{is_restart}
use Rattle.law_transcript.specs.Units.{Carried, sending_in, sending_of}
use Rattle.law_time.specs.Moments.{now_at}
use Rattle.law_time.specs.Judged.{is_data, is_directly_after, is_mark, responses_here}
use Rattle.law_time.specs.Requests.{are_none, asked, is_new, request_last}
use Rattle.law_time.specs.Ends.{ends_here, has_ended, is_called_back, is_ending_here, is_given_up, is_silent}
use Rattle.law_time.specs.Interviews.{fails, node_interviewed, succeeds}
use Rattle.law_time.specs.Questions.{is_question}
use Rattle.law_time.specs.Sessions.{is_open, last_command}
use Rattle.host_requests.specs.declared.task.Task.TheVariants.{Plain, Second}
use Rattle.host_requests.specs.declared.task.Purpose.{Purpose}
use Rattle.host_requests.specs.declared.task.Purpose.TheVariants.{Housekeeping}
use Rattle.proof_rests.specs.proof_requests.law_host.Ends.{answer_to, given_up_notes, sleep_notes}
use Rattle.proof_rests.specs.proof_requests.law_host.Heard.{is_of_outside}
use Rattle.proof_rests.specs.proof_requests.Carrying.{is_errand}

-- ---- what an end has noted

-- the nodes to which the last request carries a Set or Get by itself
abbrev pub node_asked : Carried → List ℕ
node_asked carried = if is_errand carried.payload then carried.node ∷ [] else []

abbrev pub nodes_asked : List Entry → List ℕ
nodes_asked past = flat_map node_asked (sending_in (asked past).frame)

-- by what it is for: the nodes to which it carries one, and those whose information it asks for
abbrev pub errands_of : Purpose → List ℕ
errands_of (Housekeeping (Plain n payload)) = n ∷ []
errands_of purpose = []

abbrev pub seconds_of : Purpose → List ℕ
seconds_of (Housekeeping (Second n)) = n ∷ []
seconds_of purpose = []

-- how that ended
abbrev pub DoneNotes : List Entry → List Entry → Type 0
DoneNotes past some =
    ((nodes_asked past ≡ []) × (some ≡ []))
    ⊎ ((node : ℕ) × (how : HowDone) × (nodes_asked past ≡ node ∷ []) × (ends_here past how ≡ true) × (some ≡ Done node how ∷ []))

-- how an interview ended whose second request it is; of one that succeeds it may be said that this was not kept
abbrev pub InterviewNotes : ℕ → List Entry → List Entry → Type 0
InterviewNotes node past some =
    ((succeeds node past ≡ true) × ((some ≡ Interviewed node ∷ []) ⊎ (some ≡ Unkept node ∷ [])))
    ⊎ ((fails node past ≡ true) × (some ≡ InterviewFailed node ∷ []))

-- that, or the answer to a question
abbrev pub AnswerNotes : List Entry → List Entry → Type 0
AnswerNotes past some =
    ((node_interviewed (request_last past) ≡ []) × (some ≡ answer_to (request_last past) (responses_here past)))
    ⊎ ((node : ℕ) × (node_interviewed (request_last past) ≡ node ∷ []) × InterviewNotes node past some)

-- the command of the open session of a node is given up, and then the node counts as asleep
abbrev pub GivesUp : List Entry → ℕ → List Entry → Type 0
GivesUp past node some = (is_open node past ≡ true) × (command : ℕ) × (last_command node past ≡ command ∷ []) × (some ≡ given_up_notes past node command)

-- so it may be where what was sent to the node has not ended well
abbrev pub OutcomeNotes : List Entry → List Entry → Type 0
OutcomeNotes past some =
    (some ≡ []) ⊎ ((carried : Carried) × (sending_in (asked past).frame ≡ carried ∷ []) × (is_called_back 0 past ≡ false) × GivesUp past carried.node some)

-- all that this has noted, in order
pub record EndNotes (past notes : List Entry) : Type 0 where
  pub done : List Entry
  pub answer : List Entry
  pub outcome : List Entry
  pub are : notes ≡ done ++ (sleep_notes past ++ (answer ++ outcome))
  pub done_so : DoneNotes past done
  pub answer_so : AnswerNotes past answer
  pub outcome_so : OutcomeNotes past outcome

-- a request of whose end there is nothing to note but that a command is given up; an answer to a question stands directly after it
abbrev pub NotesNothing : List Entry → Type 0
NotesNothing past = (nodes_asked past ≡ []) × (sleep_notes past ≡ []) × (node_interviewed (request_last past) ≡ [])

-- ---- what stands beside

-- such a note
abbrev pub is_of_end : Entry → Bool
is_of_end (Done node how) = true
is_of_end (Neighbours node nodes) = true
is_of_end (Failed node failed) = true
is_of_end (Interviewed node) = true
is_of_end (InterviewFailed node) = true
is_of_end (Asleep node) = true
is_of_end (Out command Unanswered) = true
is_of_end entry = false

-- a new request; the words of a line that starts the host again, and the refusal of that
abbrev pub is_turn : List Entry → Entry → Bool
is_turn past (Written Host unit) = is_new (asked past) unit
is_turn past (Said words) = is_restart (line_of (Said words))
is_turn past (Refused refusal) = is_restart (line_last past)
is_turn past entry = false

-- by a line, or by a tick, the last request has ended
abbrev pub is_late : List Entry → Entry → Bool
is_late past (Said words) = has_ended (asked past) (now_at past (Said words))
is_late past (Time tick) = has_ended (asked past) (now_at past (Time tick))
is_late past entry = false

-- the frame that was judged just before ends the last request, and of its end there is something to note
abbrev pub tells_end : List Request → Bool
tells_end requests =
    not (are_none (flat_map node_asked (flat_map sending_of requests))) || is_question requests || not (are_none (node_interviewed requests))

abbrev pub owes_end : List Entry → Bool
owes_end past = is_directly_after past && is_ending_here past && tells_end (request_last past)

-- no end is to be noted before an entry, where the last request is over or not
abbrev pub owes_none : Bool → List Entry → Entry → Bool
owes_none over past entry = (over || not (is_late past entry)) && (is_mark entry || not (owes_end past))

-- then another entry may stand
abbrev pub may_stand : Bool → List Entry → Entry → Bool
may_stand over past entry = not (is_of_end entry) && not (is_turn past entry) && owes_none over past entry

-- ---- in a tick

-- since the number of the tick the host has written copies of its last request at most; else there are entries of others and of the chip
abbrev pub ticking_step : List Entry → Bool → Entry → Bool
ticking_step past ticking (Time tick) = true
ticking_step past ticking (Written Host unit) = ticking && is_data unit && not (is_new (asked past) unit)
ticking_step past ticking entry = ticking && (is_of_outside entry || is_mark entry)

abbrev pub ticking_from : List Entry → Bool → List Entry → Bool
ticking_from past ticking [] = ticking
ticking_from past ticking (entry ∷ rest) = ticking_from (past ++ entry ∷ []) (ticking_step past ticking entry) rest

abbrev pub is_ticking : List Entry → Bool
is_ticking past = ticking_from [] false past

-- the commands of nodes are given up one after another, in the order of the numbers of the nodes, up to this one
pub data GiveUps (past : List Entry) : (last : ℕ) (notes : List Entry) → Type 0 where
  None_yet : GiveUps past 0 []
  One_more : {last : ℕ} {notes all : List Entry} → (node : ℕ) → (some : List Entry) → all ≡ notes ++ some → last < node → GivesUp (past ++ notes) node some → GiveUps past last notes →
      GiveUps past node all

-- ---- the reading of a transcript

-- Whether the last request is over, and what was read so far: other entries; a new request, where the last one is over; all notes of its end by a frame or by the line, or that its end has none; of the
-- host's own part of a tick the commands that are given up, and those after the notes of an end; the words that start the host again, and those that are refused.
pub data Reads : (over : Bool) (told : List Entry) → Type 0 where
  Starts : Reads true []
  Stands : {over : Bool} {past all : List Entry} → (entry : Entry) → all ≡ past ++ entry ∷ [] → may_stand over past entry ≡ true → Reads over past → Reads over all
  Asks : {past all : List Entry} → (unit : List ℕ) → all ≡ past ++ Written Host unit ∷ [] → is_new (asked past) unit ≡ true → owes_end past ≡ false → Reads true past → Reads false all
  Ends : {past all : List Entry} → (notes : List Entry) → all ≡ past ++ notes → EndNotes past notes → (is_ending_here past || is_given_up past) ≡ true → Reads false past → Reads true all
  Passes : {told : List Entry} → NotesNothing told → Reads false told → Reads true told
  Ticks : {over : Bool} {past all : List Entry} → (last : ℕ) → (notes : List Entry) → all ≡ past ++ notes → is_ticking past ≡ true → GiveUps past last notes → Reads over past → Reads over all
  Ticks_late : {past all : List Entry} → (last : ℕ) → (ending notes : List Entry) → all ≡ (past ++ ending) ++ notes → is_ticking past ≡ true → EndNotes past ending →
      (is_silent past || is_given_up past) ≡ true → GiveUps (past ++ ending) last notes → Reads false past → Reads true all
  Restarts : {over : Bool} {past all : List Entry} → (words : List ℕ) → all ≡ past ++ Said words ∷ [] → is_restart (line_of (Said words)) ≡ true →
      owes_none over past (Said words) ≡ true → Reads over past → Reads true all
  Refuses : {over : Bool} {past all : List Entry} → (words : List ℕ) → (refusal : Refusal) → all ≡ past ++ Said words ∷ (Refused refusal ∷ []) → is_restart (line_of (Said words)) ≡ true →
      owes_none over past (Said words) ≡ true → Reads over past → Reads over all

-- a transcript is read so; and where it is whole the last request has not ended with its notes to come
pub record NotesOfEnds (whole : Bool) (transcript : List Entry) : Type 0 where
  pub over : Bool
  pub reads : Reads over transcript
  pub in_the_end : whole ≡ true → owes_none over transcript (Said []) ≡ true
