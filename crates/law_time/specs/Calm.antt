-- Calm moments: nothing is under way and nothing is still to be lost (this project's own rule). A moment is what stands before it, the
-- clock, and the devices as they are then.
use Rattle.std.specs.Prelude.{◌≡◌, ℕ, ◌+◌, ◌-◌, ◌==◌, ◌&&◌, ◌||◌, not, bytes_eq, nat_lt, is_some, Bool, true, false, if◌then◌else◌, List, [], ◌∷◌, ◌++◌, length, Option, Some, None}
use Rattle.std.specs.List.{flat_map, list_all}
use Rattle.serial_frame.specs.declared.unit.TheConstants.{CAN}
use Rattle.chip_functions.specs.declared.function.TheConstants.{REQUEST_NODE_INFO, SEND_DATA}
use Rattle.law_wire.specs.device_stack.State.{State}
use Rattle.zw_words.specs.declared.side.Side.TheVariants.{Host, Chip}
use Rattle.zw_text.specs.declared.line.Line.{Line}
use Rattle.zw_text.specs.declared.line.Line.TheVariants as lines
use Rattle.zw_text.specs.declared.entry.Entry.{Entry}
use Rattle.zw_text.specs.declared.entry.Entry.TheVariants.{Said, Time, Written, Dropped, Garbled, Heard, ChipFull, Cleared}
use Rattle.zw_text.specs.Transcript.{AirFrame, joined, shown, folded, line_of, lines_run, frames}
use Rattle.law_wire.specs.law_transcript.Commands.{waiting}
use Rattle.law_wire.specs.law_transcript.Fates.{marks_left, first_fates}
use Rattle.law_wire.specs.law_transcript.Lists.{shown_after}
use Rattle.law_wire.specs.law_transcript.Nodes.{controller, known_classes}
use Rattle.law_wire.specs.law_transcript.Repeats.{frame_of}
use Rattle.law_wire.specs.law_transcript.Restarts.{repeats, ticks_asked}
use Rattle.law_wire.specs.law_transcript.Units.{is_frame, function_in, body_in}
use Rattle.law_wire.specs.Links.{lasts}
use Rattle.law_time.specs.Moments.{clock}
use Rattle.law_time.specs.Judged.{acknowledged, frames_come, is_data, acknowledgements_come}
use Rattle.law_time.specs.Requests.{are_none}
use Rattle.law_time.specs.Interviews.{listens}
use Rattle.law_time.specs.Waking.{is_awake_sleeper}
use Rattle.law_time.specs.Sessions.{is_open, no_series, runs, series_from, with_time}
use Rattle.law_time.specs.Rests.{is_rest}

-- ---- nothing is still to be lost

-- the lines that ask for a unit to be lost, changed or answered by CAN
abbrev pub drop_of : Line → List Line
drop_of (lines.Drop side) = lines.Drop side ∷ []
drop_of _ = []

abbrev pub garble_of : Line → List Line
garble_of (lines.Garble side place xor) = lines.Garble side place xor ∷ []
garble_of _ = []

abbrev pub collide_of : Line → List Line
collide_of lines.Collide = lines.Collide ∷ []
collide_of _ = []

-- the units that were
abbrev pub dropped_at : Entry → List Entry
dropped_at (Dropped side) = Dropped side ∷ []
dropped_at _ = []

abbrev pub garbled_at : Entry → List Entry
garbled_at (Garbled side unit) = Garbled side unit ∷ []
garbled_at _ = []

abbrev pub collided_at : Entry → List Entry
collided_at (Written Chip unit) = if bytes_eq unit (CAN ∷ []) then Written Chip unit ∷ [] else []
collided_at _ = []

-- as many units as lines ask for
abbrev pub are_used_up : (Line → List Line) → (Entry → List Entry) → List Entry → Bool
are_used_up asked done past = length (flat_map asked (lines_run past)) == length (shown done past)

-- how many acknowledgements on the air are still to be lost: each frame of the controller that is heard in a tick uses one up
abbrev pub lost_acks_by : Line → ℕ
lost_acks_by (lines.LoseAck count) = count
lost_acks_by _ = 0

abbrev pub lost_acks_of : List Line → ℕ
lost_acks_of [] = 0
lost_acks_of (line ∷ more) = lost_acks_by line + lost_acks_of more

abbrev pub is_from_controller : Option AirFrame → Bool
is_from_controller None = false
is_from_controller (Some frame) = frame.sender == controller

abbrev pub uses_ack : List Entry → ℕ → ℕ
uses_ack past frame = if is_from_controller (frame_of past frame) && not (repeats past) then 1 else 0

abbrev pub acks_step : List Entry → ℕ → Entry → ℕ
acks_step past acks (Said words) = acks + lost_acks_of (line_of (Said words))
acks_step past acks (Heard frame) = acks - uses_ack past frame
acks_step past acks _ = acks

abbrev pub acks_from : List Entry → ℕ → List Entry → ℕ
acks_from past acks [] = acks
acks_from past acks (entry ∷ rest) = acks_from (past ++ entry ∷ []) (acks_step past acks entry) rest

-- no mark is left of any kind
abbrev pub no_marks : List Entry → Bool
no_marks past =
    are_used_up drop_of dropped_at past && are_used_up garble_of garbled_at past && are_used_up collide_of collided_at past
    && (marks_left past == 0) && (acks_from [] 0 past == 0)

-- ---- nothing is under way

-- a line stalls the serial bytes from all ticks on that lines before it asked for
abbrev pub is_stalled : List Entry → ℕ → Bool
is_stalled past now = lasts (λ before. ticks_asked (lines_run before)) line_of past now

-- no stall lasts, and the host has judged every frame of the chip
abbrev pub has_judged_all : List Entry → ℕ → Bool
has_judged_all past now = not (is_stalled past now) && (acknowledged past == length (frames_come past))

-- every frame on the air has had its fate
abbrev pub air_is_empty : List Entry → Bool
air_is_empty past = length (first_fates past) == length (frames past)

-- what stands after the last data frame of the chip, and after bytes of the host were lost in a restart: an acknowledgement on its way then was never heard
abbrev pub after_frame : List Entry → Entry → List Entry
after_frame following (Written Chip unit) = if is_data unit then [] else following ++ Written Chip unit ∷ []
after_frame following (Cleared Host count) = []
after_frame following entry = following ++ entry ∷ []

-- the data frames of the chip
abbrev pub chip_frame_at : Entry → List (List ℕ)
chip_frame_at (Written Chip unit) = if is_data unit then unit ∷ [] else []
chip_frame_at _ = []

-- when the host was started anew
abbrev pub started_at : List Entry → Line → List ℕ
started_at past lines.Restart = ticks_asked (lines_run past) ∷ []
started_at past _ = []

abbrev pub starts_at : List Entry → Entry → List ℕ
starts_at past entry = flat_map (started_at past) (line_of entry)

-- the last data frame of the chip was acknowledged, so that none waits after it, and a tick has passed since any restart
abbrev pub chip_is_idle : List Entry → ℕ → Bool
chip_is_idle past now =
    (are_none (shown chip_frame_at past) || nat_lt 0 (acknowledgements_come Host (folded after_frame [] past)))
    && list_all (λ tick. nat_lt tick now) (shown_after starts_at [] past)

-- when the chip last took a payload, or a question for what a node lists: it answers the request by 1, or dropped its answer, and owes its callback, or
-- what the node lists, from then on
abbrev pub is_taking : List ℕ → Bool
is_taking unit = is_frame unit 1 && ((function_in unit == SEND_DATA || function_in unit == REQUEST_NODE_INFO) && bytes_eq (body_in unit) (1 ∷ []))

abbrev pub taken_at : List Entry → Entry → List ℕ
taken_at past (Written Chip unit) = if is_taking unit then clock past ∷ [] else []
taken_at past ChipFull = clock past ∷ []
taken_at past _ = []

-- it took none in this tick, nor dropped its answer: the callback of one that has no route, and what a node lists, come in the next tick, and no frame
-- tells of it
abbrev pub owes_no_call : List Entry → ℕ → Bool
owes_no_call past now = list_all (λ tick. nat_lt tick now) (shown_after taken_at [] past)

-- what stands since the last line, or the last tick of which there is an entry, began
abbrev pub since_begun : List Entry → Entry → List Entry
since_begun following (Said words) = []
since_begun following (Time tick) = []
since_begun following entry = following ++ entry ∷ []

abbrev pub host_unit_at : Entry → List (List ℕ)
host_unit_at (Written Host unit) = unit ∷ []
host_unit_at _ = []

-- the host has written fewer units in it than a settling has passes: so the settling is over, and none of them is still on its way to the chip
abbrev pub is_settled : List Entry → Bool
is_settled past = nat_lt (length (shown host_unit_at (folded since_begun [] past))) 64

-- no series of a node runs
abbrev pub is_idle : List Entry → ℕ → ℕ → Bool
is_idle past now node = not (runs node past now)

-- no interviewed node that does not listen counts as awake
abbrev pub is_asleep_if_known : (List Entry → ℕ → List ℕ) → List Entry → ℕ → Bool
is_asleep_if_known listing past node = not (is_awake_sleeper node past) || not (is_some (known_classes listing past node))

-- no device is at work on a change
abbrev pub is_not_working : State → Bool
is_not_working device = device.work_left == 0

-- ---- nothing is stuck

-- another series of attempts of the node is to come: the last one was given up less than 100 ticks ago, since the host started
abbrev pub is_series_to_come : List Entry → ℕ → ℕ → Bool
is_series_to_come past now node = not (are_none (with_time node past now (series_from node [] no_series past)).again)

-- so it is for a listening node with a command that waits and a session without final outcome
abbrev pub is_not_stuck : List Entry → ℕ → ℕ → Bool
is_not_stuck past now node = not (listens node past) || are_none (waiting node past) || not (is_open node past) || is_series_to_come past now node

-- ---- calm

-- all is still: nothing is to be lost, and nothing is under way
pub record IsStill (listing : List Entry → ℕ → List ℕ) (devices : List State) (past : List Entry) (now : ℕ) : Type 0 where
  pub marks : no_marks past ≡ true
  pub judged : has_judged_all past now ≡ true
  pub host : is_rest past now ≡ true
  pub chip : chip_is_idle past now ≡ true
  pub called : owes_no_call past now ≡ true
  pub settled : is_settled past ≡ true
  pub air : air_is_empty past ≡ true
  pub idle : list_all (is_idle past now) (joined past) ≡ true
  pub asleep : list_all (is_asleep_if_known listing past) (joined past) ≡ true
  pub working : list_all is_not_working devices ≡ true

-- and no node is stuck
pub record IsCalm (listing : List Entry → ℕ → List ℕ) (devices : List State) (past : List Entry) (now : ℕ) : Type 0 where
  pub still : IsStill listing devices past now
  pub to_come : list_all (is_not_stuck past now) (joined past) ≡ true
