-- When a frame on the air is fresh enough to be heard again (this project's own rule; Nonce Report is that of Security 0).
use Rattle.std.specs.Prelude.{ℕ, ◌+◌, ◌-◌, ◌==◌, ◌&&◌, nat_lt, if◌then◌else◌, List, [], ◌∷◌, length, slice_get, Option, Some, None}
use Rattle.std.specs.List.{flat_map}
use Rattle.air_frames.specs.Ages.{stale_by}
use Rattle.air_frames.specs.Nonces.{nonce_in, is_news}
use Rattle.air_frames.specs.declared.ages.Refusal.{Refusal as AirRefusal}
use Rattle.air_frames.specs.declared.ages.Refusal.TheVariants as air
use Rattle.zw_text.specs.declared.entry.Refusal.TheVariants as refusals
use Rattle.zw_text.specs.declared.entry.Entry.{Entry}
use Rattle.zw_text.specs.declared.entry.Entry.TheVariants.{Air, Refused}
use Rattle.zw_text.specs.Transcript.{AirFrame, frames, session_numbers}
use Rattle.law_transcript.specs.Lists.{listed}
use Rattle.law_transcript.specs.Nodes.{controller}

-- the node of a frame: its end that is not the controller
abbrev pub node_of : AirFrame → ℕ
node_of frame = if frame.sender == controller then frame.receiver else frame.sender

-- the frame of a number, counted from 1
abbrev pub frame_of : List Entry → ℕ → Option AirFrame
frame_of past number = if nat_lt 0 number then slice_get (frames past) (number - 1) else None

-- the entries up to the one that puts a frame on the air
abbrev pub up_to_frame : ℕ → List Entry → List Entry
up_to_frame number [] = []
up_to_frame number (Air frame sender receiver repeaters payload ∷ rest) =
    Air frame sender receiver repeaters payload ∷ (if frame == number then [] else up_to_frame number rest)
up_to_frame number (entry ∷ rest) = entry ∷ up_to_frame number rest

-- how many sessions of a frame's node have begun since it went on the air
abbrev pub later_sessions : List Entry → AirFrame → ℕ
later_sessions past frame =
    length (session_numbers (node_of frame) past) - length (session_numbers (node_of frame) (up_to_frame frame.number past))

-- the nonces that one node showed another, in order
abbrev pub nonces_shown : ℕ → ℕ → List Entry → List (List ℕ)
nonces_shown sender receiver past =
    flat_map (λ frame. if (frame.sender == sender) && (frame.receiver == receiver) then listed (nonce_in frame.payload) else []) (frames past)

-- how many of these nonces are the first, or another than the one before
abbrev pub news_after : Option (List ℕ) → List (List ℕ) → ℕ
news_after before [] = 0
news_after before (nonce ∷ nonces) = (if is_news before nonce then 1 else 0) + news_after (Some nonce) nonces

-- how many new nonces a node and the controller have shown each other
abbrev pub new_nonces : ℕ → List Entry → ℕ
new_nonces node past = news_after None (nonces_shown node controller past) + news_after None (nonces_shown controller node past)

-- how many of them came after a frame
abbrev pub later_nonces : List Entry → AirFrame → ℕ
later_nonces past frame = new_nonces (node_of frame) past - new_nonces (node_of frame) (up_to_frame frame.number past)

-- why a frame is too old: more than 4,096 later frames, 62 later sessions, 14 for a segment, or 120 later nonces for what is
-- sealed
abbrev pub too_old : List Entry → AirFrame → Option AirRefusal
too_old past frame =
    if nat_lt 4096 (length (frames past) - frame.number) then Some air.Forgotten
    else stale_by frame.payload (later_sessions past frame) (later_nonces past frame)

-- why a frame that may not be there is not repeated
abbrev pub refused_repeat : List Entry → Option AirFrame → Option AirRefusal
refused_repeat past None = Some air.NeverSent
refused_repeat past (Some frame) = too_old past frame

-- the entry of a refusal
abbrev pub repeat_entry : AirRefusal → List Entry
repeat_entry air.NeverSent = Refused refusals.NeverSent ∷ []
repeat_entry air.Forgotten = Refused refusals.Forgotten ∷ []
repeat_entry (air.Stale later) = Refused (refusals.Stale later) ∷ []

-- the refusal of a repeat, and nothing where the frame is fresh
abbrev pub refusal_to_repeat : List Entry → ℕ → List Entry
refusal_to_repeat past number = flat_map repeat_entry (listed (refused_repeat past (frame_of past number)))
