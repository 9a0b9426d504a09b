-- What a device did, by the transcript (this project's own model of devices).
use Rattle.std.specs.Prelude.{◌≡◌, ℕ, ◌+◌, ◌-◌, ◌==◌, if◌then◌else◌, List, [], ◌∷◌, ◌++◌, length, take, drop, map, Option, Some, None}
use Rattle.std.specs.List.{flat_map}
use Rattle.device_sim.specs.device_kinds.declared.change.Change.{Change}
use Rattle.device_sim.specs.State.{State}
use Rattle.device_sim.specs.Event.{DeviceEvent, device_after, device_replies}
use Rattle.device_sim.specs.Event.DeviceEvent.{Hears, Ticks, Wakes, Sets}
use Rattle.zw_text.specs.declared.line.Line.{Line}
use Rattle.zw_text.specs.declared.line.Line.TheVariants as lines
use Rattle.zw_text.specs.declared.entry.Entry.{Entry}
use Rattle.zw_text.specs.declared.entry.Entry.TheVariants.{Said, Heard}
use Rattle.zw_text.specs.Transcript.{AirFrame, Made, frames, made, lines_run, line_of, time_of}
use Rattle.law_transcript.specs.Lists.{shown_after}
use Rattle.law_transcript.specs.Nodes.{is_joined}
use Rattle.law_transcript.specs.Restarts.{repeats, ticks_asked}
use Rattle.law_transcript.specs.Repeats.{frame_of}

-- what comes to a device from outside: a payload, a line that wakes it, a line that sets it by hand
pub data Coming : Type 0 where
  Payload : (bytes : List ℕ) → Coming
  Woken : Coming
  SetTo : (value : ℕ) → Coming

-- the same, with how many ticks the device had lived
pub record ComingAt : Type 0 where
  pub ticks : ℕ
  pub coming : Coming

-- ---- by the device

-- what comes in an event; a tick brings nothing
abbrev pub coming_of : ℕ → DeviceEvent → List ComingAt
coming_of ticks (Hears payload drawn) = record { ticks = ticks; coming = Payload payload } ∷ []
coming_of ticks (Ticks drawn) = []
coming_of ticks Wakes = record { ticks = ticks; coming = Woken } ∷ []
coming_of ticks (Sets value) = record { ticks = ticks; coming = SetTo value } ∷ []

-- how many ticks an event is
abbrev pub ticks_in : DeviceEvent → ℕ
ticks_in (Ticks drawn) = 1
ticks_in _ = 0

abbrev pub ticks_lived : List DeviceEvent → ℕ
ticks_lived [] = 0
ticks_lived (event ∷ events) = ticks_in event + ticks_lived events

-- all that comes in events, in order
abbrev pub comings : List DeviceEvent → List ComingAt
comings events = shown_after (λ past event. coming_of (ticks_lived past) event) [] events

-- the device after events, and what it sends in them
abbrev pub after_events : State → List DeviceEvent → State
after_events device [] = device
after_events device (event ∷ events) = after_events (device_after device event) events

abbrev pub replies_in : State → List DeviceEvent → List (List ℕ)
replies_in device [] = []
replies_in device (event ∷ events) = device_replies device event ++ replies_in (device_after device event) events

-- ---- by the transcript

-- the ticks that a device had lived when something comes to it: in a tick it has not ticked yet
abbrev pub lived_by : List Entry → ℕ
lived_by past = if repeats past then ticks_asked (lines_run past) else time_of past - 1

-- what a frame that is heard brings a node
abbrev pub brought_by : ℕ → ℕ → Option AirFrame → List ComingAt
brought_by node ticks None = []
brought_by node ticks (Some frame) =
    if frame.receiver == node then record { ticks = ticks; coming = Payload frame.payload } ∷ [] else []

-- what a line brings a node
abbrev pub asked_by : ℕ → ℕ → List Line → List ComingAt
asked_by node ticks (lines.Wake at ∷ more) = if at == node then record { ticks = ticks; coming = Woken } ∷ [] else []
asked_by node ticks (lines.Local at value ∷ more) = if at == node then record { ticks = ticks; coming = SetTo value } ∷ [] else []
asked_by node ticks _ = []

-- what an entry brings a node
abbrev pub brought_at : ℕ → List Entry → Entry → List ComingAt
brought_at node past (Heard frame) = brought_by node (lived_by past) (frame_of past frame)
brought_at node past (Said words) = asked_by node (ticks_asked (lines_run past)) (line_of (Said words))
brought_at node past _ = []

-- all that a node is shown to have had from outside, in order
abbrev pub brought : ℕ → List Entry → List ComingAt
brought node transcript = shown_after (brought_at node) [] transcript

-- what comes to a node while it is not joined, and the lines that are run then
abbrev pub brought_unjoined_at : ℕ → List Entry → Entry → List ComingAt
brought_unjoined_at node past entry = if is_joined past node then [] else brought_at node past entry

abbrev pub lines_unjoined_at : ℕ → List Entry → Entry → List Line
lines_unjoined_at node past entry = if is_joined past node then [] else line_of entry

-- how many events its device has before it joins: so many things come to it, and so many ticks pass
abbrev pub events_unjoined : ℕ → List Entry → ℕ
events_unjoined node transcript =
    length (shown_after (brought_unjoined_at node) [] transcript) + ticks_asked (shown_after (lines_unjoined_at node) [] transcript)

-- what a device sends in events from the moment at which its node has joined; what it sends before is on no air
abbrev pub replies_joined : ℕ → List Entry → State → List DeviceEvent → List (List ℕ)
replies_joined node transcript device events =
    let before : ℕ = events_unjoined node transcript in replies_in (after_events device (take before events)) (drop before events)

-- the payloads of the frames that a node sent
abbrev pub sent_by : ℕ → AirFrame → List (List ℕ)
sent_by node frame = if frame.sender == node then frame.payload ∷ [] else []

abbrev pub sent_from : ℕ → List Entry → List (List ℕ)
sent_from node transcript = flat_map (sent_by node) (frames transcript)

-- the settings of a change, with what made it
abbrev pub made_by : Change → List Made
made_by change = map (λ setting. record { by = change.by; setting = setting }) change.settings

-- what came to the device of a node in events is what the transcript shows, and these are the ticks that the lines ask for
pub record CameAsShown (node : ℕ) (transcript : List Entry) (events : List DeviceEvent) : Type 0 where
  pub came : comings events ≡ brought node transcript
  pub ticked : ticks_lived events ≡ ticks_asked (lines_run transcript)

-- the changes that it made are the `dev` entries
pub record ChangedAsShown (node : ℕ) (transcript : List Entry) (old new : State) : Type 0 where
  pub changes : List Change
  pub changed : new.journal ≡ old.journal ++ changes
  pub entered : made node transcript ≡ flat_map made_by changes

-- the device of a node went from its state at entry to that at exit by what the transcript shows and the ticks that the lines ask for, in order; its
-- changes are shown, and what it sends from the moment at which its node has joined are the frames of the node
pub record RanAsShown (node : ℕ) (transcript : List Entry) (old new : State) : Type 0 where
  pub events : List DeviceEvent
  pub runs : new ≡ after_events old events
  pub comes : CameAsShown node transcript events
  pub shows : ChangedAsShown node transcript old new
  pub answered : sent_from node transcript ≡ replies_joined node transcript old events
