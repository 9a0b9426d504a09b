-- What the chip writes (Serial API; the order and the number that may wait are this project's own rule): what it has for the host, one
-- frame each and in order, but for what `chipfull` dropped and what still waits while its link is busy.
use Rattle.std.specs.Prelude.{◌≡◌, ◌≤◌, ◌<◌, ℕ, suc, ◌+◌, ◌-◌, Bool, true, false, if◌then◌else◌, List, [], ◌∷◌, ◌++◌, length, take, drop, slice_index_or, ⊤}
use Rattle.serial_link.specs.State.{Side as LinkSide}
use Rattle.serial_link.specs.Rules.{Step, SideObeys}
use Rattle.serial_link.specs.declared.turn.Turn.TheVariants.{Idle}
use Rattle.law_transcript.specs.device_sim.State.{State}
use Rattle.zw_words.specs.declared.side.Side.TheVariants.{Chip}
use Rattle.zw_text.specs.declared.entry.Entry.{Entry}
use Rattle.zw_text.specs.declared.entry.Entry.TheVariants.{Said, Written, Heard, Lost, Unheard, ChipFull, Time}
use Rattle.zw_text.specs.Transcript.{written, shown}
use Rattle.law_transcript.specs.Lists.{EachAfter, shown_after}
use Rattle.law_wire.specs.Serial.{serial_events, ended}
use Rattle.law_wire.specs.Links.{KeepsLink, joined}
use Rattle.law_wire.specs.Asked.{Course, course_of, is_ack}
use Rattle.law_wire.specs.Taking.{AirsWhatIsTaken}
use Rattle.law_wire.specs.Given.{Given, given, IsOf}
use Rattle.law_wire.specs.Marks.{CollidesWhenAsked}

-- whether the next unit of the chip is the first copy of a frame
abbrev pub begins_next : Course → List Entry → Bool
begins_next course past = slice_index_or course.firsts (length (written Chip past)) false

-- the frames that the chip has begun to write, in order
abbrev pub begun_at : Course → List Entry → Entry → List (List ℕ)
begun_at course past (Written Chip unit) = if begins_next course past then unit ∷ [] else []
begun_at course past _ = []

abbrev pub begun : Course → List Entry → List (List ℕ)
begun course transcript = shown_after (begun_at course) [] transcript

-- how many frames were dropped
abbrev pub drop_at : Entry → List Entry
drop_at ChipFull = ChipFull ∷ []
drop_at _ = []

abbrev pub drops : List Entry → ℕ
drops past = length (shown drop_at past)

-- so many frames may wait
abbrev pub most_waiting : ℕ
most_waiting = 32

-- the places of those that were dropped, among all that the chip had for the host: each came after those begun, those dropped before it, and 32 that waited
abbrev pub dropped_at : Course → List Entry → Entry → List ℕ
dropped_at course past ChipFull = (length (begun course past) + drops past + most_waiting) ∷ []
dropped_at course past _ = []

abbrev pub dropped : Course → List Entry → List ℕ
dropped course past = shown_after (dropped_at course) [] past

-- what is left without these places, which rise
abbrev pub without : List ℕ → List Given → List Given
without [] all = all
without (place ∷ places) all = let left : List Given = without places all in take place left ++ drop (suc place) left

-- what the chip tells the host: what it has for it, but for what was dropped
abbrev pub kept : List State → Course → List Entry → List Given
kept devices course past = without (dropped course past) (given devices course past)

-- these units are the first of them, in order
abbrev pub AreOf : List State → List (List ℕ) → List Given → Type 0
AreOf devices [] given = ⊤
AreOf devices (unit ∷ units) [] = ⊥
AreOf devices (unit ∷ units) (one ∷ more) = IsOf devices unit one × AreOf devices units more

-- a frame that the chip begins is the next one
abbrev pub IsNext : Bool → List State → Course → List Entry → List ℕ → Type 0
IsNext true devices course past unit = AreOf devices (begun course past ++ unit ∷ []) (kept devices course past)
IsNext false devices course past unit = ⊤

abbrev pub MayAnswer : List State → Course → List Entry → Entry → Type 0
MayAnswer devices course past (Written Chip unit) = IsNext (begins_next course past) devices course past unit
MayAnswer devices course past _ = ⊤

abbrev pub AnswersInOrder : List State → Course → List Entry → Type 0
AnswersInOrder devices course transcript = EachAfter (MayAnswer devices course) [] transcript

-- ---- how many wait

-- how many frames wait: those that the chip has for the host, without those begun or dropped
abbrev pub waiting : List State → Course → List Entry → ℕ
waiting devices course past = length (given devices course past) - (length (begun course past) + drops past)

-- whether a line or tick begins, or a further frame may be given: a fate is met, or a request answered
abbrev pub is_judged : Entry → Bool
is_judged (Said words) = true
is_judged (Time tick) = true
is_judged (Heard frame) = true
is_judged (Lost frame) = true
is_judged (Unheard frame) = true
is_judged (Written Chip unit) = is_ack unit
is_judged _ = false

abbrev pub AreFew : Bool → ℕ → Type 0
AreFew true count = count ≤ most_waiting
AreFew false count = ⊤

-- a frame is dropped only where 32 others wait, and no more than these wait when anything comes that may add one
abbrev pub MayWait : List State → Course → List Entry → Entry → Type 0
MayWait devices course past ChipFull = most_waiting < waiting devices course past
MayWait devices course past entry = AreFew (is_judged entry) (waiting devices course past)

abbrev pub DropsWhenFull : List State → Course → List Entry → Type 0
DropsWhenFull devices course transcript = EachAfter (MayWait devices course) [] transcript

-- ---- while the link is busy

-- after these steps the link has no frame of its own
abbrev pub IsIdleAfter : List Step → Type 0
IsIdleAfter steps = (side : LinkSide) × SideObeys steps side × (side.turn ≡ Idle)

-- the steps of a link up to the end of these entries
abbrev pub steps_up_to : List (List Step) → List Entry → List Step
steps_up_to parts past = joined (take (length (serial_events past)) parts)

-- where a line or tick begins, none waits unless the link is busy
abbrev pub MayStay : List State → List (List Step) → List Entry → Entry → Type 0
MayStay devices parts past (Said words) =
    IsIdleAfter (steps_up_to parts (past ++ Said words ∷ [])) → waiting devices (course_of (joined parts)) past ≡ 0
MayStay devices parts past (Time tick) =
    IsIdleAfter (steps_up_to parts (past ++ Time tick ∷ [])) → waiting devices (course_of (joined parts)) past ≡ 0
MayStay devices parts past _ = ⊤

abbrev pub WaitsWhileBusy : List State → List (List Step) → List Entry → Type 0
WaitsWhileBusy devices parts transcript = EachAfter (MayStay devices parts) [] transcript

-- ---- all of the chip

-- the chip serves the host: its link obeys the rules, and with the course of that link the laws above hold; of a whole run, up to its end
pub record ServesHost (whole : Bool) (devices : List State) (transcript : List Entry) : Type 0 where
  pub link : KeepsLink Chip (ended whole transcript)
  pub collides : CollidesWhenAsked transcript
  pub airs : AirsWhatIsTaken devices (course_of (joined link.parts)) (ended whole transcript)
  pub answers : AnswersInOrder devices (course_of (joined link.parts)) transcript
  pub drops : DropsWhenFull devices (course_of (joined link.parts)) (ended whole transcript)
  pub waits : WaitsWhileBusy devices link.parts (ended whole transcript)
