-- The host's notes: after each event stand exactly those that it makes, in order, before the next event, and none stands elsewhere (this
-- project's own rule).
use Rattle.std.specs.Prelude.{ℕ, ◌==◌, ◌&&◌, ◌||◌, not, bytes_eq, nat_lt, Bool, true, false, if◌then◌else◌, List, [], ◌∷◌, ◌++◌}
use Rattle.serial_frame.specs.declared.unit.TheConstants.{NAK}
use Rattle.zw_base.specs.PropertyOrder.{same_property}
use Rattle.zw_base.specs.declared.property.Setting.{Setting}
use Rattle.zw_words.specs.declared.side.Side.TheVariants.{Host, Chip}
use Rattle.zw_text.specs.Entry.{done_word, ended_word}
use Rattle.zw_text.specs.declared.entry.Ended.{Ended}
use Rattle.zw_text.specs.declared.entry.Ended.TheVariants.{Cancelled}
use Rattle.zw_text.specs.declared.entry.Entry.{Entry}
use Rattle.zw_text.specs.declared.entry.Entry.TheVariants.{Said, Written, Dropped, Garbled, Overrun, Begin, Out, Store, Report, Unstored, Old, Unread, Awake, Asleep, Interviewed, InterviewFailed, Done, Neighbours, Failed, QueueFull, Held, Unkept, Time}
use Rattle.law_time.specs.Heeds.{Heeds}
use Rattle.law_time.specs.Moments.{clock, now_at}
use Rattle.law_time.specs.Judged.{is_acknowledgement, is_data, is_mark, is_of_air, is_of_chip}
use Rattle.law_time.specs.Requests.{are_none, asked, is_new, starts_anew}
use Rattle.law_time.specs.Questions.{same_bool}
use Rattle.law_time.specs.Ends.{is_over}
use Rattle.law_time.specs.Choice.{is_to_begin}
use Rattle.law_host.specs.Course.{Course, each_in_turn, restarted}
use Rattle.law_host.specs.Frames.{frame_next, judges}
use Rattle.law_host.specs.Nonces.{may_be_sent, sends}
use Rattle.law_host.specs.Ticks.{denies, ticks}

-- ---- notes

-- how a command ends that is not taken back
abbrev pub is_noted : Ended → Bool
is_noted Cancelled = false
is_noted ended = true

-- what the host says of what it judged or waited for, and of its keeper; what it answers to lines, and sessions that begin, are none
abbrev pub is_note : Entry → Bool
is_note (Out command ended) = is_noted ended
is_note (Store node setting) = true
is_note (Report node setting) = true
is_note (Unstored node property) = true
is_note (Old node id) = true
is_note (Unread node payload) = true
is_note (Awake node) = true
is_note (Asleep node) = true
is_note (Interviewed node) = true
is_note (InterviewFailed node) = true
is_note (Done node how) = true
is_note (Neighbours node list) = true
is_note (Failed node failed) = true
is_note (QueueFull node) = true
is_note (Held node) = true
is_note (Unkept node) = true
is_note entry = false

-- a session of a node may begin, but for its record
abbrev pub may_begin : ℕ → List Entry → Bool
may_begin node past =
    is_over (asked past) (clock past) && is_to_begin node past

-- what may stand where no note does: a session is not begun since its record is not kept; that No More Information is dropped is told by the
-- law of the queue
abbrev pub may_stand : List Entry → Entry → Bool
may_stand past (Unkept node) = may_begin node past
may_stand past (QueueFull node) = true
may_stand past entry = not (is_note entry)

-- two settings are of one property, with one value
abbrev pub same_setting : Setting → Setting → Bool
same_setting first second = same_property first.property second.property && (first.value == second.value)

-- two notes say the same
abbrev pub same_note : Entry → Entry → Bool
same_note (Out command ended) (Out other how) = (command == other) && bytes_eq (ended_word ended) (ended_word how)
same_note (Store node setting) (Store other value) = (node == other) && same_setting setting value
same_note (Report node setting) (Report other value) = (node == other) && same_setting setting value
same_note (Unstored node property) (Unstored other name) = (node == other) && same_property property name
same_note (Old node id) (Old other number) = (node == other) && (id == number)
same_note (Unread node payload) (Unread other text) = (node == other) && bytes_eq payload text
same_note (Awake node) (Awake other) = node == other
same_note (Asleep node) (Asleep other) = node == other
same_note (Interviewed node) (Interviewed other) = node == other
same_note (InterviewFailed node) (InterviewFailed other) = node == other
same_note (Done node how) (Done other done) = (node == other) && bytes_eq (done_word how) (done_word done)
same_note (Neighbours node list) (Neighbours other nodes) = (node == other) && bytes_eq list nodes
same_note (Failed node failed) (Failed other has_failed) = (node == other) && same_bool failed has_failed
same_note (QueueFull node) (QueueFull other) = node == other
same_note (Held node) (Held other) = node == other
same_note (Unkept node) (Unkept other) = node == other
same_note first second = false

-- an entry is the note that stands next, where one does
abbrev pub stands_among : List Entry → List Entry → Entry → Course → Course
stands_among [] past entry course = record course { fits = course.fits && may_stand past entry }
stands_among (note ∷ notes) past entry course = record course { fits = course.fits && same_note note entry; due = notes }

abbrev pub stands : List Entry → Entry → Course → Course
stands past entry course = stands_among course.due past entry course

-- ---- what happens between entries

-- nothing was to be noted
abbrev pub nothing_due : Course → Course
nothing_due course = record course { fits = course.fits && are_none course.due; due = [] }

-- all ticks before an entry that begins a line or a tick have passed with nothing to note
abbrev pub passes : Heeds → List Entry → Entry → Course → Course
passes heeds past entry course = nothing_due (ticks heeds past (now_at past entry) (nothing_due course))

-- what may stand in a tick before the host counts its waits: what is of the air and of devices, frames that the chip writes, what becomes of its units, and a
-- copy of the last request, which the host's line writes first
abbrev pub is_before_host : List Entry → Entry → Bool
is_before_host past (Written Chip unit) = is_data unit
is_before_host past (Written Host unit) = is_data unit && not (is_new (asked past) unit)
is_before_host past (Dropped Chip) = true
is_before_host past (Garbled Chip unit) = true
is_before_host past (Overrun Chip) = true
is_before_host past entry = is_of_air entry || is_of_chip entry

-- the host's own part of a tick is done before an entry that may not stand before it
abbrev pub has_ticked : Heeds → List Entry → Entry → Course → Course
has_ticked heeds past entry course =
    if nat_lt course.ticked (clock past) && not (is_before_host past entry) then ticks heeds past (clock past) course else course

-- the host has heard an answer before an entry of its own, which does not refuse a frame that came before that
abbrev pub is_of_host : Entry → Bool
is_of_host (Written Host unit) = not (bytes_eq unit (NAK ∷ []))
is_of_host (Begin node session command) = true
is_of_host entry = is_note entry

abbrev pub has_heard : Heeds → List Entry → Entry → Course → Course
has_heard heeds past entry course = if are_none course.due && is_of_host entry then denies heeds past course else course

abbrev pub comes_to : Heeds → List Entry → Entry → Course → Course
comes_to heeds past (Said words) course = passes heeds past (Said words) course
comes_to heeds past (Time tick) course = passes heeds past (Time tick) course
comes_to heeds past entry course =
    if are_none course.due then has_heard heeds past entry (has_ticked heeds past entry course) else course

-- ---- what an entry makes

-- a new request is under way
abbrev pub requests : Heeds → List Entry → List ℕ → Course → Course
requests heeds past unit course =
    sends heeds past unit (record course { over = false; fits = course.fits && may_be_sent heeds past unit course })

-- a frame is judged where it is acknowledged
abbrev pub writes : Heeds → List Entry → List ℕ → Course → Course
writes heeds past unit course =
    if is_acknowledgement unit then each_in_turn (judges heeds past (past ++ Written Host unit ∷ [])) (frame_next past) course
    else (if is_new (asked past) unit then requests heeds past unit course else course)

abbrev pub makes : Heeds → List Entry → Entry → List Entry → Course → Course
makes heeds past (Written Host unit) rest course = writes heeds past unit course
makes heeds past (Said words) rest course = if starts_anew (Said words) rest then restarted course else course
makes heeds past entry rest course = course

-- ---- the course of a transcript

-- one entry, after what stands before it and with what stands after it; what became of a unit of the host changes nothing, and where an entry
-- may not stand the course has ended
abbrev pub after : Heeds → List Entry → Entry → List Entry → Course → Course
after heeds past entry rest course =
    if is_mark entry || not course.fits then course else makes heeds past entry rest (stands past entry (comes_to heeds past entry course))

abbrev pub course_after : Heeds → List Entry → List Entry → Course → Course
course_after heeds past [] course = course
course_after heeds past (entry ∷ rest) course = course_after heeds (past ++ entry ∷ []) rest (after heeds past entry rest course)

-- at the end nothing is to be noted, where the run is whole
abbrev pub ended_whole : Heeds → List Entry → Course → Course
ended_whole heeds transcript course = passes heeds transcript (Said []) course
