-- Frames on the air and what becomes of them (this project's own rule): numbers, one fate each at the tick after, in order,
-- and a further hearing only where a fresh frame is repeated.
use Rattle.std.specs.Prelude.{◌≡◌, ◌⊎◌, ◌≤◌, ℕ, ◌+◌, ◌-◌, nat_lt, Bool, true, false, if◌then◌else◌, List, [], ◌∷◌, length, ⊤}
use Rattle.zw_text.specs.declared.line.Line.{Line}
use Rattle.zw_text.specs.declared.line.Line.TheVariants as lines
use Rattle.zw_text.specs.declared.entry.Entry.{Entry}
use Rattle.zw_text.specs.declared.entry.Entry.TheVariants.{Said, Air, Heard, Lost, Unheard, Time}
use Rattle.zw_text.specs.Transcript.{frames, line_of, line_last, folded}
use Rattle.law_transcript.specs.Lists.{EachAfter, shown_after, Has}
use Rattle.law_transcript.specs.Nodes.{controller}
use Rattle.law_transcript.specs.Restarts.{repeats}
use Rattle.law_transcript.specs.Repeats.{refusal_to_repeat}

-- a frame that goes on the air has the next number, and the controller is one of its ends
abbrev pub MayAir : List Entry → Entry → Type 0
MayAir past (Air frame sender receiver repeaters payload) =
    (frame ≡ length (frames past) + 1) × ((sender ≡ controller) ⊎ (receiver ≡ controller))
MayAir past _ = ⊤

abbrev pub NumbersFrames : List Entry → Type 0
NumbersFrames transcript = EachAfter MayAir [] transcript

-- the frames that have had their first fate, in order; what a repeat makes heard is none
abbrev pub first_fate : List Entry → Entry → List ℕ
first_fate past (Heard frame) = if repeats past then [] else frame ∷ []
first_fate past (Lost frame) = frame ∷ []
first_fate past (Unheard frame) = frame ∷ []
first_fate past _ = []

abbrev pub first_fates : List Entry → List ℕ
first_fates transcript = shown_after first_fate [] transcript

-- how many frames there were, and how many when the last tick began that has an entry
pub record Flying : Type 0 where
  pub sent : ℕ
  pub due : ℕ

abbrev pub flying_step : Flying → Entry → Flying
flying_step flying (Air frame sender receiver repeaters payload) = record flying { sent = flying.sent + 1 }
flying_step flying (Time tick) = record flying { due = flying.sent }
flying_step flying _ = flying

abbrev pub flying : List Entry → Flying
flying past = folded flying_step (record { sent = 0; due = 0 }) past

-- the next fate in a tick: the oldest frame without one, which was on the air when the tick began
abbrev pub IsNextFate : List Entry → ℕ → Type 0
IsNextFate past frame = (frame ≡ length (first_fates past) + 1) × (frame ≤ (flying past).due)

-- a further hearing answers a line that repeats that frame, which is fresh
abbrev pub IsRepeated : List Entry → ℕ → Type 0
IsRepeated past frame = (line_last past ≡ lines.Repeat frame ∷ []) × (refusal_to_repeat past frame ≡ [])

-- a hearing in a tick, or after a line that repeats
abbrev pub IsHeardSo : Bool → List Entry → ℕ → Type 0
IsHeardSo true past frame = IsRepeated past frame
IsHeardSo false past frame = IsNextFate past frame

-- what was on the air when the last tick began has its fate
abbrev pub AllLanded : List Entry → Type 0
AllLanded past = length (first_fates past) ≡ (flying past).due

-- a fate comes in its turn, and none is left out before the next tick or line
abbrev pub MayFare : List Entry → Entry → Type 0
MayFare past (Heard frame) = IsHeardSo (repeats past) past frame
MayFare past (Lost frame) = IsNextFate past frame
MayFare past (Unheard frame) = IsNextFate past frame
MayFare past (Time tick) = AllLanded past
MayFare past (Said words) = AllLanded past
MayFare past _ = ⊤

abbrev pub FaresInTurn : List Entry → Type 0
FaresInTurn transcript = EachAfter MayFare [] transcript

-- ---- marks that lose frames

-- the marks that lines ask for
abbrev pub marks_asked : List Line → ℕ
marks_asked (lines.Lose count ∷ more) = count
marks_asked _ = 0

-- how many marks are left: each frame that goes on the air uses one up
abbrev pub mark_step : ℕ → Entry → ℕ
mark_step marks (Said words) = marks + marks_asked (line_of (Said words))
mark_step marks (Air frame sender receiver repeaters payload) = marks - 1
mark_step marks _ = marks

abbrev pub marks_left : List Entry → ℕ
marks_left past = folded mark_step 0 past

-- the frames that were marked as lost
abbrev pub marked : List Entry → Entry → List ℕ
marked past (Air frame sender receiver repeaters payload) = if nat_lt 0 (marks_left past) then frame ∷ [] else []
marked past _ = []

abbrev pub frames_marked : List Entry → List ℕ
frames_marked past = shown_after marked [] past

-- a marked frame is lost and nothing else
abbrev pub MayBeMarked : List Entry → Entry → Type 0
MayBeMarked past (Heard frame) = Has (first_fate past (Heard frame)) frame → Has (frames_marked past) frame → ⊥
MayBeMarked past (Unheard frame) = Has (frames_marked past) frame → ⊥
MayBeMarked past _ = ⊤

abbrev pub LosesMarked : List Entry → Type 0
LosesMarked transcript = EachAfter MayBeMarked [] transcript
