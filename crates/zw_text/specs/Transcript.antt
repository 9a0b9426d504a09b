-- What a transcript, a list of entries, shows of the lines, the commands, the sessions, the devices, the units, the
-- frames, the stored values, waking and the time. All of it is this project's own rule.
-- A view is `shown f`, where each entry shows a list of things by itself, or `folded step`, where what an entry shows depends
-- on those before it. Two laws (`shown_grows`, `folded_grows`) say how every view of its kind grows with the transcript.
use Rattle.std.specs.Prelude.{ℕ, ◌-◌, ◌==◌, not, if◌then◌else◌, Bool, true, false, List, [], ◌∷◌, ◌++◌, length, take, filter, Option, Some, None, Result, Ok, Err}
use Rattle.std.specs.List.{flat_map}
use Rattle.zw_base.specs.declared.property.Setting.{Setting}
use Rattle.zw_base.specs.declared.property.By.{By}
use Rattle.zw_base.specs.declared.property.By.TheVariants.{Session}
use Rattle.zw_base.specs.declared.order.Order.{Order}
use Rattle.zw_words.specs.declared.fault.LineFault.{LineFault}
use Rattle.zw_words.specs.declared.side.Side.{Side}
use Rattle.zw_words.specs.declared.side.Side.TheVariants.{Host, Chip}
use Rattle.zw_text.specs.Line.{line_at}
use Rattle.zw_text.specs.Entry.{is_loud}
use Rattle.zw_text.specs.declared.line.Line.{Line}
use Rattle.zw_text.specs.declared.line.Line.TheVariants.{Command as Commanded, Join as JoinLine, Restart as RestartLine}
use Rattle.zw_text.specs.declared.entry.Ended.{Ended}
use Rattle.zw_text.specs.declared.entry.Ended.TheVariants.{Success as EndedSuccess, Fail as EndedFail, NoSupport as EndedNoSupport, Unanswered as EndedUnanswered, Cancelled as EndedCancelled}
use Rattle.zw_text.specs.declared.entry.Done.{Done as HowDone}
use Rattle.zw_text.specs.declared.entry.Outcome.{Outcome}
use Rattle.zw_text.specs.declared.entry.Outcome.TheVariants.{Waiting, Begun, Success, Fail, NoSupport, Unanswered, Cancelled}
use Rattle.zw_text.specs.declared.entry.Refusal.{Refusal}
use Rattle.zw_text.specs.declared.entry.Entry.{Entry}
use Rattle.zw_text.specs.declared.entry.Entry.TheVariants.{Said, Accepted, Refused, Begin, Written, Dropped, Garbled, Overrun, Air, Heard, Lost, Unheard, Dev, Out, Store, Report, Awake, Asleep, Interviewed, InterviewFailed, Done, QueueFull, Held, Cleared, Unkept, Time}

-- what entries show, each by itself, in order
abbrev pub shown : {A : Type 0} → (Entry → List A) → List Entry → List A
shown f entries = flat_map f entries

-- what entries show one after another, from a state on
abbrev pub folded : {S : Type 0} → (S → Entry → S) → S → List Entry → S
folded step start [] = start
folded step start (entry ∷ entries) = folded step (step start entry) entries

-- the transcript without its loud entries
abbrev pub quiet : List Entry → List Entry
quiet entries = filter (λ entry. not (is_loud entry)) entries

-- the item where the two numbers are equal, else nothing
abbrev pub where_same : {A : Type 0} → ℕ → ℕ → A → List A
where_same m n item = if m == n then item ∷ [] else []

-- ---- lines

-- the line that a text is read as, where it is one
abbrev pub read_as : Result (Option Line) LineFault → List Line
read_as (Ok (Some line)) = line ∷ []
read_as (Ok None) = []
read_as (Err fault) = []

-- the line of an entry that shows one
abbrev pub line_of : Entry → List Line
line_of (Said words) = read_as (line_at words)
line_of _ = []

-- the lines that were run, in order
abbrev pub lines_run : List Entry → List Line
lines_run entries = shown line_of entries

-- the words of the lines that were run, as they came
abbrev pub words_of : Entry → List (List ℕ)
words_of (Said words) = words ∷ []
words_of _ = []

abbrev pub words_said : List Entry → List (List ℕ)
words_said entries = shown words_of entries

-- the refusals, in order
abbrev pub refusal_of : Entry → List Refusal
refusal_of (Refused refusal) = refusal ∷ []
refusal_of _ = []

abbrev pub refusals : List Entry → List Refusal
refusals entries = shown refusal_of entries

-- what stands after the line of the last entry: the line, where that entry shows one
abbrev pub line_after : List Line → Entry → List Line
line_after before entry = line_of entry

abbrev pub line_last : List Entry → List Line
line_last entries = folded line_after [] entries

-- ---- commands

-- an accepted command: its number and the order
pub record Command : Type 0 where
  pub number : ℕ
  pub order : Order

-- the order of a line for the node
abbrev pub order_for : ℕ → Line → List Order
order_for n (Commanded order) = where_same order.node n order
order_for n _ = []

-- the commands of a number for those orders
abbrev pub numbered : ℕ → List Order → List Command
numbered i [] = []
numbered i (order ∷ orders) = record { number = i; order = order } ∷ numbered i orders

-- the command of node n that an entry directly after that line shows
abbrev pub accepted_at : ℕ → List Line → Entry → List Command
accepted_at n lines (Accepted command node) = if node == n then numbered command (flat_map (order_for n) lines) else []
accepted_at n lines _ = []

-- the accepted commands so far, and the line that stands before the next entry
pub record Accepting : Type 0 where
  pub commands : List Command
  pub line : List Line

abbrev pub accepting : ℕ → Accepting → Entry → Accepting
accepting n so_far entry = record { commands = so_far.commands ++ accepted_at n so_far.line entry; line = line_of entry }

abbrev pub not_accepting : Accepting
not_accepting = record { commands = []; line = [] }

-- the accepted commands of node n, in order: the `accepted` entries that directly follow a line that orders a command of it
abbrev pub accepted : ℕ → List Entry → List Command
accepted n entries = (folded (accepting n) not_accepting entries).commands

-- the numbers of all accepted commands, in order
abbrev pub accepted_number : Entry → List ℕ
accepted_number (Accepted command node) = command ∷ []
accepted_number _ = []

abbrev pub accepted_numbers : List Entry → List ℕ
accepted_numbers entries = shown accepted_number entries

-- the commands that the sessions of node n carry, in order: the first is that of session 1
abbrev pub session_at : ℕ → Entry → List ℕ
session_at n (Begin node session command) = where_same node n command
session_at n _ = []

abbrev pub sessions : ℕ → List Entry → List ℕ
sessions n entries = shown (session_at n) entries

-- the numbers of the sessions that began for node n, in order
abbrev pub session_number_at : ℕ → Entry → List ℕ
session_number_at n (Begin node session command) = where_same node n session
session_number_at n _ = []

abbrev pub session_numbers : ℕ → List Entry → List ℕ
session_numbers n entries = shown (session_number_at n) entries

-- the sessions that carry command i, in order
abbrev pub carried_at : ℕ → Entry → List ℕ
carried_at i (Begin node session command) = where_same command i session
carried_at i _ = []

abbrev pub carried : ℕ → List Entry → List ℕ
carried i entries = shown (carried_at i) entries

-- how command i ended, each time that it did, in order
abbrev pub ended_at : ℕ → Entry → List Ended
ended_at i (Out command ended) = where_same command i ended
ended_at i _ = []

abbrev pub endings : ℕ → List Entry → List Ended
endings i entries = shown (ended_at i) entries

-- the outcome of a command that ended so
abbrev pub outcome_of : Ended → Outcome
outcome_of EndedSuccess = Success
outcome_of EndedFail = Fail
outcome_of EndedNoSupport = NoSupport
outcome_of EndedUnanswered = Unanswered
outcome_of EndedCancelled = Cancelled

-- the outcome of a command that no `out` entry speaks of: begun where sessions carry it
abbrev pub outcome_begun : List ℕ → Outcome
outcome_begun [] = Waiting
outcome_begun (session ∷ sessions) = Begun

-- the outcome by the last ending, else the one given
abbrev pub last_outcome : Outcome → List Ended → Outcome
last_outcome outcome [] = outcome
last_outcome outcome (ended ∷ more) = last_outcome (outcome_of ended) more

-- the outcome of command i: that of its last `out` entry, else Begun where a session carries it, else Waiting
abbrev pub outcome : ℕ → List Entry → Outcome
outcome i entries = last_outcome (outcome_begun (carried i entries)) (endings i entries)

-- how requests to node n without Supervision ended, in order
abbrev pub done_at : ℕ → Entry → List HowDone
done_at n (Done node done) = where_same node n done
done_at n _ = []

abbrev pub requests_done : ℕ → List Entry → List HowDone
requests_done n entries = shown (done_at n) entries

-- ---- devices

-- a setting that a device made, and what made it
pub record Made : Type 0 where
  pub by : By
  pub setting : Setting

-- the settings that device n made, in order
abbrev pub made_at : ℕ → Entry → List Made
made_at n (Dev node by setting) = where_same node n (record { by = by; setting = setting })
made_at n _ = []

abbrev pub made : ℕ → List Entry → List Made
made n entries = shown (made_at n) entries

-- the session of a setting that one made
abbrev pub by_session : By → List ℕ
by_session (Session session) = session ∷ []
by_session _ = []

-- the sessions that device n applied, one for each setting, in order
abbrev pub applied : ℕ → List Entry → List ℕ
applied n entries = flat_map (λ made. by_session made.by) (made n entries)

-- ---- units of the serial line

-- what became of a unit on its way
pub data Way : Type 0 where
  Whole : Way
  Missed : Way
  Changed : List ℕ → Way

-- a unit that a side wrote, and what became of it
pub record Unit_on : Type 0 where
  pub bytes : List ℕ
  pub way : Way

-- whether two sides are the same
abbrev pub same_side : Side → Side → Bool
same_side Host Host = true
same_side Chip Chip = true
same_side Host Chip = false
same_side Chip Host = false

-- the last of some units with another way
abbrev pub last_with : Way → List Unit_on → List Unit_on
last_with way [] = []
last_with way (unit ∷ []) = record { bytes = unit.bytes; way = way } ∷ []
last_with way (unit ∷ next ∷ units) = unit ∷ last_with way (next ∷ units)

-- one entry more: a unit, or what became of the last one
abbrev pub unit_step : Side → List Unit_on → Entry → List Unit_on
unit_step side units (Written by bytes) = if same_side by side then units ++ record { bytes = bytes; way = Whole } ∷ [] else units
unit_step side units (Dropped by) = if same_side by side then last_with Missed units else units
unit_step side units (Overrun by) = if same_side by side then last_with Missed units else units
unit_step side units (Garbled by bytes) = if same_side by side then last_with (Changed bytes) units else units
unit_step side units _ = units

-- the units that a side wrote, in order, each with what became of it
abbrev pub units : Side → List Entry → List Unit_on
units side entries = folded (unit_step side) [] entries

-- the units that a side wrote, in order
abbrev pub unit_at : Side → Entry → List (List ℕ)
unit_at side (Written by bytes) = if same_side by side then bytes ∷ [] else []
unit_at side _ = []

abbrev pub written : Side → List Entry → List (List ℕ)
written side entries = shown (unit_at side) entries

-- what goes into the pipe of a side: the bytes of earlier units, and those of the last one, which may still be changed
pub record Pipe : Type 0 where
  pub earlier : List ℕ
  pub last : List ℕ

abbrev pub pipe_bytes : Pipe → List ℕ
pipe_bytes pipe = pipe.earlier ++ pipe.last

abbrev pub pipe_step : Side → Pipe → Entry → Pipe
pipe_step side pipe (Written by bytes) = if same_side by side then record { earlier = pipe_bytes pipe; last = bytes } else pipe
pipe_step side pipe (Dropped by) = if same_side by side then record pipe { last = [] } else pipe
pipe_step side pipe (Overrun by) = if same_side by side then record pipe { last = [] } else pipe
pipe_step side pipe (Garbled by bytes) = if same_side by side then record pipe { last = bytes } else pipe
pipe_step side pipe (Cleared by count) =
    if same_side by side then record { earlier = take (length (pipe_bytes pipe) - count) (pipe_bytes pipe); last = [] } else pipe
pipe_step side pipe _ = pipe

-- the bytes that a side gave to its pipe and that no restart cleared, in order
abbrev pub stream : Side → List Entry → List ℕ
stream side entries = pipe_bytes (folded (pipe_step side) (record { earlier = []; last = [] }) entries)

-- ---- frames on the air

-- a frame on the air: its number, its ends, its repeaters and its payload
pub record AirFrame : Type 0 where
  pub number : ℕ
  pub sender : ℕ
  pub receiver : ℕ
  pub repeaters : List ℕ
  pub payload : List ℕ

-- the frames that went on the air, in order
abbrev pub frame_at : Entry → List AirFrame
frame_at (Air frame sender receiver repeaters payload) =
    record { number = frame; sender = sender; receiver = receiver; repeaters = repeaters; payload = payload } ∷ []
frame_at _ = []

abbrev pub frames : List Entry → List AirFrame
frames entries = shown frame_at entries

-- what became of a frame
pub data Fate : Type 0 where
  WasHeard : Fate
  WasLost : Fate
  WasUnheard : Fate

-- what became of frame i, each time that something did, in order
abbrev pub fate_at : ℕ → Entry → List Fate
fate_at i (Heard frame) = where_same frame i WasHeard
fate_at i (Lost frame) = where_same frame i WasLost
fate_at i (Unheard frame) = where_same frame i WasUnheard
fate_at i _ = []

abbrev pub fates : ℕ → List Entry → List Fate
fates i entries = shown (fate_at i) entries

-- the numbers of the frames that were heard, in order
abbrev pub heard_at : Entry → List ℕ
heard_at (Heard frame) = frame ∷ []
heard_at _ = []

abbrev pub heard : List Entry → List ℕ
heard entries = shown heard_at entries

-- ---- what the host knows of a node

-- the settings that were confirmed for node n, in order
abbrev pub stored_at : ℕ → Entry → List Setting
stored_at n (Store node setting) = where_same node n setting
stored_at n _ = []

abbrev pub stored : ℕ → List Entry → List Setting
stored n entries = shown (stored_at n) entries

-- the settings that were heard from node n, in order
abbrev pub reported_at : ℕ → Entry → List Setting
reported_at n (Report node setting) = where_same node n setting
reported_at n _ = []

abbrev pub reported : ℕ → List Entry → List Setting
reported n entries = shown (reported_at n) entries

-- each time that the host came to take node n to be awake (true) or asleep (false), in order
abbrev pub waking_at : ℕ → Entry → List Bool
waking_at n (Awake node) = where_same node n true
waking_at n (Asleep node) = where_same node n false
waking_at n _ = []

abbrev pub wakings : ℕ → List Entry → List Bool
wakings n entries = shown (waking_at n) entries

-- each time that an interview of node n succeeded (true) or failed (false), in order
abbrev pub interview_at : ℕ → Entry → List Bool
interview_at n (Interviewed node) = where_same node n true
interview_at n (InterviewFailed node) = where_same node n false
interview_at n _ = []

abbrev pub interviews : ℕ → List Entry → List Bool
interviews n entries = shown (interview_at n) entries

-- an entry that speaks of node n and says nothing else: a hold, a dropped message, a record that was not kept
pub data Mark : Type 0 where
  WasHeld : Mark
  WasDropped : Mark
  WasUnkept : Mark

abbrev pub mark_at : ℕ → Entry → List Mark
mark_at n (Held node) = where_same node n WasHeld
mark_at n (QueueFull node) = where_same node n WasDropped
mark_at n (Unkept node) = where_same node n WasUnkept
mark_at n _ = []

abbrev pub marks : ℕ → List Entry → List Mark
marks n entries = shown (mark_at n) entries

-- ---- lines that were not refused

-- the lines that have been done: each line after which no refusal directly stands; the last one may still be refused
pub record Doing : Type 0 where
  pub earlier : List Line
  pub last : List Line

abbrev pub doing_lines : Doing → List Line
doing_lines doing = doing.earlier ++ doing.last

abbrev pub doing_step : Doing → Entry → Doing
doing_step doing (Refused refusal) = record doing { last = [] }
doing_step doing entry = record { earlier = doing_lines doing; last = line_of entry }

abbrev pub lines_done : List Entry → List Line
lines_done entries = doing_lines (folded doing_step (record { earlier = []; last = [] }) entries)

-- the node of a `join` line
abbrev pub join_of : Line → List ℕ
join_of (JoinLine node) = node ∷ []
join_of _ = []

-- the joined nodes: node 2, and those of the `join` lines that were not refused
abbrev pub joined : List Entry → List ℕ
joined entries = 2 ∷ flat_map join_of (lines_done entries)

-- a `restart` line
abbrev pub restart_of : Line → List Line
restart_of RestartLine = RestartLine ∷ []
restart_of _ = []

-- how many restarts there were
abbrev pub restarts : List Entry → ℕ
restarts entries = length (flat_map restart_of (lines_done entries))

-- ---- time

-- the ticks in which there were entries, in order
abbrev pub tick_at : Entry → List ℕ
tick_at (Time tick) = tick ∷ []
tick_at _ = []

abbrev pub ticks : List Entry → List ℕ
ticks entries = shown tick_at entries

-- the last of these numbers, else the one given
abbrev pub last_number : ℕ → List ℕ → ℕ
last_number before [] = before
last_number before (n ∷ ns) = last_number n ns

-- the tick of the last entry: the last one shown, and 0 before the first
abbrev pub time_of : List Entry → ℕ
time_of entries = last_number 0 (ticks entries)
