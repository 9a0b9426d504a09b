-- When a frame may be repeated (this project's own rule, docs/AIR.md).
use Rattle.std.specs.Prelude.{ℕ, ◌-◌, ◌==◌, ◌&&◌, ◌||◌, nat_lt, nat_le, Bool, false, if◌then◌else◌, Option, Some, None, List, [], ◌∷◌}
use Rattle.air_frames.specs.declared.ages.Refusal.{Refusal}
use Rattle.air_frames.specs.declared.ages.Refusal.TheVariants.{NeverSent, Forgotten, Stale}
use Rattle.air_frames.specs.declared.peer.Peer.{Peer}
use Rattle.air_frames.specs.Flown.{Flown}
use Rattle.air_frames.specs.Frames.{FramesState, peer_of, remembered}

-- the payload is of that command class
abbrev pub is_class : List ℕ → ℕ → Bool
is_class [] class = false
is_class (first ∷ rest) class = first == class

-- stale by later sessions of its node, or for Security 0 by new nonces between its ends
abbrev pub stale_by : List ℕ → (later nonces : ℕ) → Option Refusal
stale_by payload later nonces =
    if nat_le 62 later || (is_class payload 0x55 && nat_le 14 later) then Some (Stale later)
    else (if is_class payload 0x98 && nat_le 120 nonces then Some (Stale nonces) else None)

-- the same by the counts of the frame and of its node
abbrev pub stale_of : Flown → Peer → Option Refusal
stale_of frame peer = stale_by frame.payload (peer.begun - frame.begun) (peer.nonces.shown - frame.shown)

abbrev pub stale_if : FramesState → Option Flown → Option Refusal
stale_if state None = Some Forgotten
stale_if state (Some frame) = stale_of frame (peer_of state frame.node)

-- why the frame of that number is not repeated: it was never sent, it is forgotten, it is stale, in this order
abbrev pub refusal_of : FramesState → ℕ → Option Refusal
refusal_of state number =
    if nat_lt 0 number && nat_le number state.sent then stale_if state (remembered state number) else Some NeverSent
