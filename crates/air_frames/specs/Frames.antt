-- What is kept of the frames that were sent (this project's own rule, docs/AIR.md).
use Rattle.std.specs.Prelude.{ℕ, ◌+◌, ◌-◌, ◌&&◌, nat_le, nat_lt, min, max, if◌then◌else◌, Bool, true, false, take, Option, None, List, [], ◌∷◌, ◌++◌, length, replicate, slice_get, slice_set, slice_index_or}
use Rattle.circular_buffer.specs.Buffer.{keep_last}
use Rattle.air_frames.specs.declared.peer.Peer.{Peer}
use Rattle.air_frames.specs.declared.frame.Departure.{Departure}
use Rattle.air_frames.specs.Flown.{Flown, flown}
use Rattle.air_frames.specs.Peer.{no_counts, showing}

-- how many frames were sent, how many of them arrived, the last frames in order, and the counts of each node by its number
pub record FramesState : Type 0 where
  pub sent : ℕ
  pub landed : ℕ
  pub frames : List Flown
  pub peers : List Peer

-- that, and how many more frames can surely be sent
pub record Keeping : Type 0 where
  pub state : FramesState
  pub room : ℕ

-- nothing was sent
unfoldable pub no_frames : FramesState
no_frames = record { sent = 0; landed = 0; frames = []; peers = replicate 233 no_counts }

-- the counts of a node
abbrev pub peer_of : FramesState → ℕ → Peer
peer_of state node = slice_index_or state.peers node no_counts

-- how many frames are kept: the last 4,097, and all that are on the air
abbrev pub kept : ℕ → ℕ → ℕ
kept sent landed = max (min sent 4097) (sent - landed)

-- the oldest of these frames, where it is kept apart
abbrev pub pushed_out : Bool → {A : Type 0} → List A → List A
pushed_out true frames = take 1 frames
pushed_out false frames = []

-- a frame goes on the air
unfoldable pub putting : FramesState → Departure → FramesState
putting state departure =
    let peer = showing (peer_of state departure.node) departure.heading departure.payload in
    record {
      sent = state.sent + 1;
      landed = state.landed;
      frames = keep_last (kept (state.sent + 1) state.landed) (state.frames ++ flown departure peer ∷ []);
      peers = slice_set state.peers departure.node peer;
    }

-- the next frame has arrived
unfoldable pub landing : FramesState → FramesState
landing state = record {
  sent = state.sent;
  landed = state.landed + 1;
  frames = keep_last (kept state.sent (state.landed + 1)) state.frames;
  peers = state.peers;
}

-- the frame that arrives next
abbrev pub next_of : FramesState → Option Flown
next_of state =
    if nat_lt state.landed state.sent then slice_get state.frames (state.landed - (state.sent - length state.frames)) else None

-- the frame of that number, unless it was never sent or more than 4,096 later ones were
abbrev pub remembered : FramesState → ℕ → Option Flown
remembered state number =
    if nat_lt 0 number && (nat_le number state.sent && nat_le (state.sent - number) 4096)
    then slice_get state.frames (length state.frames - (state.sent - number) - 1) else None
