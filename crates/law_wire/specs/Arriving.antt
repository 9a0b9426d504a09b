-- What becomes of each frame, and why (this project's own rule): lost by a mark or for want of a way, unheard at a dead link or
-- where no device is awake, heard else; and which hop the chip forgets.
use Rattle.std.specs.Prelude.{◌≡◌, ℕ, zero, suc, ◌-◌, ◌==◌, ◌&&◌, ◌||◌, not, nat_lt, Bool, true, false, if◌then◌else◌, List, [], ◌∷◌, map, filter, length, take, drop, Option, Some, None, ⊤}
use Rattle.std.specs.List.{list_any, flat_map}
use Rattle.route_table.specs.Network.{Link}
use Rattle.law_transcript.specs.device_sim.State.{State}
use Rattle.law_transcript.specs.device_sim.Event.{DeviceEvent, device_after}
use Rattle.law_transcript.specs.device_sim.Event.DeviceEvent.{Hears, Ticks, Wakes, Sets}
use Rattle.zw_text.specs.declared.line.Line.{Line}
use Rattle.zw_text.specs.declared.line.Line.TheVariants as lines
use Rattle.zw_text.specs.declared.entry.Entry.{Entry}
use Rattle.zw_text.specs.declared.entry.Entry.TheVariants.{Said, Time, Air, Heard, Lost, Unheard, Forget}
use Rattle.zw_text.specs.Transcript.{AirFrame, Fate, line_last, lines_run}
use Rattle.zw_text.specs.Transcript.Fate.{WasHeard, WasLost, WasUnheard}
use Rattle.law_transcript.specs.Lists.{EachAfter, listed, shown_after}
use Rattle.law_transcript.specs.Nodes.{controller, device_of}
use Rattle.law_transcript.specs.Restarts.{repeats, ticks_asked}
use Rattle.law_transcript.specs.Repeats.{frame_of, up_to_frame, refusal_to_repeat}
use Rattle.law_transcript.specs.Fates.{first_fates, frames_marked}
use Rattle.law_transcript.specs.Answers.{before_last}
use Rattle.law_transcript.specs.Devices.{Coming, ComingAt, brought, lived_by}
use Rattle.law_transcript.specs.Devices.Coming.{Payload, Woken, SetTo}
use Rattle.law_wire.specs.Asked.{clock_of}
use Rattle.law_wire.specs.Networks.{are_linked, air_links, chip_links}

-- ---- ways

-- two nodes next to each other on a way
pub record Hop : Type 0 where
  pub from : ℕ
  pub to : ℕ

-- the hops of a way over repeaters
abbrev pub hops : ℕ → List ℕ → ℕ → List Hop
hops from [] to = record { from = from; to = to } ∷ []
hops from (next ∷ more) to = record { from = from; to = next } ∷ hops next more to

-- those of a frame that are no links, in order
abbrev pub dead_hops : List Link → AirFrame → List Hop
dead_hops links frame = filter (λ hop. not (are_linked links hop.from hop.to)) (hops frame.sender frame.repeaters frame.receiver)

-- whether each hop of a frame is a link
abbrev pub is_live : List Link → AirFrame → Bool
is_live links frame = length (dead_hops links frame) == 0

-- ---- devices at a moment

-- what an event brings a device, without what it draws for nonces
abbrev pub event_of : Coming → DeviceEvent
event_of (Payload bytes) = Hears bytes []
event_of Woken = Wakes
event_of (SetTo value) = Sets value

-- a device after so many ticks in which nothing comes to it
abbrev pub ticked_on : ℕ → State → State
ticked_on zero device = device
ticked_on (suc count) device = ticked_on count (device_after device (Ticks []))

-- a device that has lived some ticks, after all that comes to it and until it has lived so many
abbrev pub lived_through : ℕ → ℕ → List ComingAt → State → State
lived_through ticks now [] device = ticked_on (now - ticks) device
lived_through ticks now (one ∷ more) device =
    lived_through one.ticks now more (device_after (ticked_on (one.ticks - ticks) device) (event_of one.coming))

-- a device as the transcript so far has left it
abbrev pub device_now : List Entry → State → State
device_now past device = lived_through 0 (lived_by past) (brought device.node past) device

-- whether it is awake then, where there is one
abbrev pub is_awake : List Entry → Option State → Bool
is_awake past None = false
is_awake past (Some device) = (device_now past device).awake

-- ---- fates

-- whether a frame uses up a mark of `lose`
abbrev pub is_marked : List Entry → ℕ → Bool
is_marked past number = list_any (λ one. one == number) (frames_marked past)

-- whether a frame of a device had no way when it was sent
abbrev pub had_no_way : List Entry → AirFrame → Bool
had_no_way past frame = not (frame.sender == controller) && not (is_live (air_links (up_to_frame frame.number past)) frame)

-- whether somebody is there to hear a frame
abbrev pub has_listener : List State → List Entry → AirFrame → Bool
has_listener devices past frame = (frame.receiver == controller) || is_awake past (device_of frame.receiver devices)

-- what becomes of a frame that arrives now
abbrev pub fate_due : List State → List Entry → AirFrame → Fate
fate_due devices past frame =
    if is_marked past frame.number || had_no_way past frame then WasLost
    else if is_live (air_links past) frame && has_listener devices past frame then WasHeard else WasUnheard

abbrev pub fates_due : List State → List Entry → ℕ → List Fate
fates_due devices past number = map (fate_due devices past) (listed (frame_of past number))

-- whether somebody hears a frame that is repeated now
abbrev pub hears_again : List State → List Entry → ℕ → Bool
hears_again devices past number = list_any (has_listener devices past) (listed (frame_of past number))

-- a frame is heard in its tick where that is due, or at a line that repeats it where somebody hears it
abbrev pub IsHeardWhereDue : Bool → List State → List Entry → ℕ → Type 0
IsHeardWhereDue true devices past number = hears_again devices past number ≡ true
IsHeardWhereDue false devices past number = fates_due devices past number ≡ WasHeard ∷ []

-- each fate is the one that is due
abbrev pub MayMeet : List State → List Entry → Entry → Type 0
MayMeet devices past (Heard number) = IsHeardWhereDue (repeats past) devices past number
MayMeet devices past (Lost number) = fates_due devices past number ≡ WasLost ∷ []
MayMeet devices past (Unheard number) = fates_due devices past number ≡ WasUnheard ∷ []
MayMeet devices past _ = ⊤

abbrev pub MeetsWhatIsDue : List State → List Entry → Type 0
MeetsWhatIsDue devices transcript = EachAfter (MayMeet devices) [] transcript

-- ---- in time

-- the frames that went on the air before a time
abbrev pub sent_at : ℕ → List Entry → Entry → List ℕ
sent_at now past (Air frame sender receiver repeaters payload) = if nat_lt (clock_of past) now then frame ∷ [] else []
sent_at now past _ = []

abbrev pub sent_before : ℕ → List Entry → ℕ
sent_before now past = length (shown_after (sent_at now) [] past)

-- just these have had their fate
abbrev pub HaveLanded : ℕ → List Entry → Type 0
HaveLanded now past = length (first_fates past) ≡ sent_before now past

-- a frame has its fate in the tick after, also where that tick has no other entry: before a line those have that were sent before the last tick that was
-- asked for, and before a tick those that were sent before the last one
abbrev pub MayLand : List Entry → Entry → Type 0
MayLand past (Said words) = HaveLanded (ticks_asked (lines_run past)) past
MayLand past (Time tick) = HaveLanded (tick - 1) past
MayLand past _ = ⊤

abbrev pub LandsInTime : List Entry → Type 0
LandsInTime transcript = EachAfter MayLand [] transcript

-- ---- repeats

-- after a line that repeats a frame stands its hearing, where the line is not refused and somebody hears it
abbrev pub FollowsRepeat : List State → List Entry → List Line → Entry → Type 0
FollowsRepeat devices past (lines.Repeat number ∷ more) entry =
    (refusal_to_repeat (before_last past) number ≡ []) → (hears_again devices past number ≡ true) → entry ≡ Heard number
FollowsRepeat devices past _ entry = ⊤

abbrev pub RepeatsWhatIsAsked : List State → List Entry → Type 0
RepeatsWhatIsAsked devices transcript = EachAfter (λ past entry. FollowsRepeat devices past (line_last past) entry) [] transcript

-- ---- what the chip forgets

-- the hop that the chip forgets after a frame that was not heard: the first dead one, where its table has it
abbrev pub forgotten_of : List Entry → AirFrame → List Hop
forgotten_of past frame =
    if frame.sender == controller then filter (λ hop. are_linked (chip_links past) hop.from hop.to) (take 1 (dead_hops (air_links past) frame))
    else []

abbrev pub forgotten_by : List Entry → Entry → List Hop
forgotten_by past (Unheard number) = flat_map (forgotten_of past) (listed (frame_of past number))
forgotten_by past _ = []

-- what is to be forgotten next, by the last entry
abbrev pub forgets : List Entry → List Hop
forgets past = flat_map (forgotten_by past) (drop (length past - 1) past)

-- a hop that is to be forgotten is entered, and no other is
abbrev pub IsForgotten : List Hop → Entry → Type 0
IsForgotten [] (Forget a b) = ⊥
IsForgotten [] entry = ⊤
IsForgotten (hop ∷ more) entry = entry ≡ Forget hop.from hop.to

abbrev pub ForgetsDeadHops : List Entry → Type 0
ForgetsDeadHops transcript = EachAfter (λ past entry. IsForgotten (forgets past) entry) [] transcript
