-- The last request of the host and its copies: when the chip took it, when the line gives it up, and what was judged since (Serial API: a
-- request, its acknowledgement and its response; the four copies and their waits are this project's own rule).
use Rattle.std.specs.Prelude.{ℕ, ◌+◌, ◌==◌, ◌&&◌, ◌||◌, not, bytes_eq, nat_lt, Bool, true, false, if◌then◌else◌, List, [], ◌∷◌, ◌++◌, map, filter, take, length}
use Rattle.serial_frame.specs.declared.unit.TheConstants.{NAK, CAN}
use Rattle.chip_functions.specs.declared.request.Request.{Request}
use Rattle.zw_words.specs.declared.side.Side.TheVariants.{Host, Chip}
use Rattle.zw_text.specs.declared.entry.Entry.{Entry}
use Rattle.zw_text.specs.declared.entry.Entry.TheVariants.{Said, Written, Dropped, Overrun}
use Rattle.zw_text.specs.Transcript.{line_of, written}
use Rattle.law_wire.specs.law_transcript.Lists.{shown_after}
use Rattle.law_wire.specs.law_transcript.Restarts.{is_restart, begins_refused}
use Rattle.law_wire.specs.law_transcript.Units.{function_in, request_in}
use Rattle.law_time.specs.Moments.{clock}
use Rattle.law_time.specs.Judged.{is_data, is_acknowledgement, last_of, acknowledged, frames_come, judged, response_in}

-- whether nothing is among these
abbrev pub are_none : {A : Type 0} → List A → Bool
are_none [] = true
are_none (item ∷ items) = false

-- whether a line starts the host anew
abbrev pub starts_anew : Entry → List Entry → Bool
starts_anew entry rest = is_restart (line_of entry) && not (begins_refused rest)

-- ---- its copies

-- a frame of the host: what stands before its first copy, and what stands after that
pub record Asked : Type 0 where
  pub frame : List ℕ
  pub before : List Entry
  pub following : List Entry

abbrev pub asked_nothing : Asked
asked_nothing = record { frame = []; before = []; following = [] }

-- what stands up to its first copy
abbrev pub up_to_first : Asked → List Entry
up_to_first asked = asked.before ++ Written Host asked.frame ∷ []

-- how many copies were written
abbrev pub copies : Asked → ℕ
copies asked = 1 + length (filter (bytes_eq asked.frame) (written Host asked.following))

-- what stands up to its last copy, and after that
pub record Since : Type 0 where
  pub past : List Entry
  pub following : List Entry

-- where an entry is a copy, what stands up to it and after it, else what was found
abbrev pub found_at : List ℕ → Since → List Entry → Entry → List Entry → Since
found_at frame found past (Written Host unit) rest =
    if bytes_eq unit frame then record { past = past ++ Written Host unit ∷ []; following = rest } else found
found_at frame found past _ rest = found

abbrev pub since_last : List ℕ → Since → List Entry → List Entry → Since
since_last frame found past [] = found
since_last frame found past (entry ∷ rest) = since_last frame (found_at frame found past entry rest) (past ++ entry ∷ []) rest

abbrev pub last_copy : Asked → Since
last_copy asked = since_last asked.frame (record { past = up_to_first asked; following = asked.following }) (up_to_first asked) asked.following

-- ---- whether the chip took it

-- whether a unit answers a frame
abbrev pub is_answer : List ℕ → Bool
is_answer unit = is_acknowledgement unit || bytes_eq unit (NAK ∷ []) || bytes_eq unit (CAN ∷ [])

-- an answer of the chip: when it came, and how many frames of the chip had come before it
pub record Answer : Type 0 where
  pub unit : List ℕ
  pub tick : ℕ
  pub frames : ℕ

-- whether the last unit of the chip was lost
abbrev pub is_missed : List Entry → Bool
is_missed (Dropped Chip ∷ rest) = true
is_missed (Overrun Chip ∷ rest) = true
is_missed _ = false

-- the answer that an entry is, where it is one that came
abbrev pub answer_at : List Entry → Entry → List Entry → List Answer
answer_at past (Written Chip unit) rest =
    if is_answer unit && not (is_missed rest) then record { unit = unit; tick = clock past; frames = length (frames_come past) } ∷ [] else []
answer_at past _ rest = []

-- the answers that came after this past
abbrev pub answers_from : List Entry → List Entry → List Answer
answers_from past [] = []
answers_from past (entry ∷ rest) = answer_at past entry rest ++ answers_from (past ++ entry ∷ []) rest

-- the answers after the last copy; of the fourth one only the first counts, and in the 15 ticks after it
abbrev pub answers : Asked → List Answer
answers asked =
    let since : Since = last_copy asked in
    let all : List Answer = answers_from since.past since.following in
    if copies asked == 4 then take 1 (filter (λ answer. nat_lt answer.tick (clock since.past + 15)) all) else all

-- when the chip acknowledged it
abbrev pub sent_at : Asked → List ℕ
sent_at asked = take 1 (map (λ answer. answer.tick) (filter (λ answer. is_acknowledgement answer.unit) (answers asked)))

-- the line gives it up: when, and whether at an answer, before which so many frames of the chip had come
pub record Failing : Type 0 where
  pub tick : ℕ
  pub at_answer : Bool
  pub frames : ℕ

abbrev pub failing_by : List Answer → ℕ → Failing
failing_by [] last = record { tick = last + 15; at_answer = false; frames = 0 }
failing_by (answer ∷ more) last = record { tick = answer.tick; at_answer = true; frames = answer.frames }

-- where the fourth copy ends without an acknowledgement: at another answer, or 15 ticks later
abbrev pub failing : Asked → List Failing
failing asked =
    if (copies asked == 4) && are_none (sent_at asked) then failing_by (answers asked) (clock (last_copy asked).past) ∷ [] else []

-- ---- the last request

-- a frame is a copy of the one before where it is the same, and that was neither acknowledged nor written four times
abbrev pub is_copy : Asked → List ℕ → Bool
is_copy asked unit = bytes_eq unit asked.frame && are_none (sent_at asked) && nat_lt (copies asked) 4

-- a unit is a new request
abbrev pub is_new : Asked → List ℕ → Bool
is_new asked unit = is_data unit && not (is_copy asked unit)

-- one entry more after it
abbrev pub with_entry : Asked → Entry → Asked
with_entry asked entry = record asked { following = asked.following ++ entry ∷ [] }

-- a new request takes its place, and a restart ends it
abbrev pub asked_after : List Entry → Asked → Entry → List Entry → Asked
asked_after past asked (Written Host unit) rest =
    if is_new asked unit then record { frame = unit; before = past; following = [] } else with_entry asked (Written Host unit)
asked_after past asked (Said words) rest = if starts_anew (Said words) rest then asked_nothing else with_entry asked (Said words)
asked_after past asked entry rest = with_entry asked entry

abbrev pub asked_from : List Entry → Asked → List Entry → Asked
asked_from past asked [] = asked
asked_from past asked (entry ∷ rest) = asked_from (past ++ entry ∷ []) (asked_after past asked entry rest) rest

abbrev pub asked : List Entry → Asked
asked past = asked_from [] asked_nothing past

-- the one before it
abbrev pub asked_before : List Entry → Asked
asked_before past = asked (asked past).before

-- the request that it is
abbrev pub request_last : List Entry → List Request
request_last past = request_in (asked past).frame

-- ---- what was judged since

-- a frame of the chip that the host judged: when, and how many it had judged then
pub record Judging : Type 0 where
  pub unit : List ℕ
  pub tick : ℕ
  pub place : ℕ

abbrev pub judging_at : List Entry → Entry → List Judging
judging_at past (Written Host unit) =
    if is_acknowledgement unit
    then map (λ frame. record { unit = frame; tick = clock past; place = acknowledged past + 1 }) (last_of (judged (past ++ Written Host unit ∷ [])))
    else []
judging_at past _ = []

abbrev pub judged_since : Asked → List Judging
judged_since asked = shown_after judging_at (up_to_first asked) asked.following

-- whether a frame of the chip is a response to a frame of the host; one that cannot be read tells nothing
abbrev pub is_response_to : List ℕ → List ℕ → Bool
is_response_to frame unit = (function_in unit == function_in frame) && not (are_none (response_in unit))

-- the responses to it that were judged
abbrev pub responses : Asked → List Judging
responses asked = filter (λ one. is_response_to asked.frame one.unit) (judged_since asked)
