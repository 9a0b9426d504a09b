-- Frames between node 1 and the others: which are lost, and which may be repeated (this project's own rule, docs/INCLUSION.md).
use Rattle.std.specs.Prelude.{ℕ, ◌+◌, ◌-◌, ◌^◌, ◌==◌, ◌||◌, min, nat_lt, nat_le, if◌then◌else◌, Bool, true, false, Option, Some, None, List, [], ◌∷◌, ◌++◌, length, replicate, slice_set, slice_index_or}
use Rattle.air_frames.specs.Nonces.{none_shown, counting}
use Rattle.include_text.specs.declared.entry.IncludeEntry.{IncludeEntry}
use Rattle.include_text.specs.declared.entry.IncludeEntry.TheVariants.{Air}
use Rattle.include_text.specs.declared.entry.IncludeRefusal.{IncludeRefusal}
use Rattle.include_text.specs.declared.entry.IncludeRefusal.TheVariants.{NeverSent, Forgotten, Stale}
use Rattle.air_frames.specs.declared.frame.Heading.{Heading}
use Rattle.air_frames.specs.declared.frame.Heading.TheVariants.{Outward, Homeward}
use Rattle.include_world.specs.declared.flight.Flight.{Flight}
use Rattle.include_world.specs.declared.flight.Pair.{Pair}
use Rattle.include_world.specs.declared.air.Coming.{Coming}

-- marks left that lose frames, how many frames have arrived, all frames that were sent, and the counts of each node
pub record AirState : Type 0 where
  pub losing : ℕ
  pub landed : ℕ
  pub frames : List Flight
  pub pairs : List Pair

-- that, and how many more frames can surely be sent
pub record Airing : Type 0 where
  pub state : AirState
  pub room : ℕ

-- nothing was counted
abbrev pub no_counts : Pair
no_counts = record { nonces = none_shown; forgotten = 0 }

-- the counts after a payload
abbrev pub showing : Pair → Heading → List ℕ → Pair
showing pair heading payload = record pair { nonces = counting pair.nonces heading payload }

-- ---- what happens on the air

-- nothing was sent
unfoldable pub first_air : AirState
first_air = record { losing = 0; landed = 0; frames = []; pairs = replicate 233 no_counts }

-- the counts of a node
abbrev pub pair_of : AirState → ℕ → Pair
pair_of air node = slice_index_or air.pairs node no_counts

-- so many more of the next frames are marked
abbrev pub losing_more : AirState → ℕ → AirState
losing_more air count = record air { losing = min (air.losing + count) (2 ^ 64 - 1) }

-- the frames of a node that were sent so far are heard no more
abbrev pub forgetting : AirState → ℕ → AirState
forgetting air node = record air { pairs = slice_set air.pairs node (record (pair_of air node) { forgotten = length air.frames }) }

-- a frame as it goes on the air
abbrev pub flight : AirState → ℕ → Heading → List ℕ → Flight
flight air node heading payload = record {
  node = node;
  heading = heading;
  lost = nat_lt 0 air.losing;
  payload = payload;
  shown = (showing (pair_of air node) heading payload).nonces.shown;
}

-- a frame goes on the air; a mark that was left loses it
unfoldable pub departing : AirState → ℕ → Heading → List ℕ → AirState
departing air node heading payload = record {
  losing = air.losing - 1;
  landed = air.landed;
  frames = air.frames ++ flight air node heading payload ∷ [];
  pairs = slice_set air.pairs node (showing (pair_of air node) heading payload);
}

-- its entry
abbrev pub air_entry : AirState → ℕ → Heading → List ℕ → IncludeEntry
air_entry air node Outward payload = Air (length air.frames + 1) 1 node payload
air_entry air node Homeward payload = Air (length air.frames + 1) node 1 payload

-- payloads go on the air in turn
abbrev pub sending : AirState → ℕ → Heading → List (List ℕ) → AirState
sending air node heading [] = air
sending air node heading (payload ∷ more) = sending (departing air node heading payload) node heading more

abbrev pub sent_entries : AirState → ℕ → Heading → List (List ℕ) → List IncludeEntry
sent_entries air node heading [] = []
sent_entries air node heading (payload ∷ more) = air_entry air node heading payload ∷ sent_entries (departing air node heading payload) node heading more

-- the next frame has arrived
abbrev pub landing : AirState → AirState
landing air = record air { landed = air.landed + 1 }

-- how many frames are on the air
abbrev pub flying : AirState → ℕ
flying air = length air.frames - air.landed

-- no frame
abbrev pub no_flight : Flight
no_flight = record { node = 1; heading = Outward; lost = true; payload = []; shown = 0 }

-- the frame of a number, counted from 1, and as it is heard
abbrev pub frame_at : AirState → ℕ → Flight
frame_at air number = slice_index_or air.frames (number - 1) no_flight

abbrev pub heard_of : ℕ → Flight → Coming
heard_of number frame = record { number = number; node = frame.node; heading = frame.heading; payload = frame.payload }

abbrev pub flight_at : AirState → ℕ → Coming
flight_at air number = heard_of number (frame_at air number)

-- whether its node was reset after it was sent
abbrev pub is_forgotten : AirState → ℕ → Flight → Bool
is_forgotten air number frame = nat_le number (pair_of air frame.node).forgotten

-- the frame that arrives next, where it is heard: it was not marked, and its node not reset since
abbrev pub heard_if : Bool → Coming → Option Coming
heard_if true coming = None
heard_if false coming = Some coming

abbrev pub arriving : AirState → Option Coming
arriving air =
    heard_if ((frame_at air (air.landed + 1)).lost || is_forgotten air (air.landed + 1) (frame_at air (air.landed + 1))) (flight_at air (air.landed + 1))

-- how many new nonces were shown between the ends of a frame since it was on the air
abbrev pub nonces_since : AirState → Flight → ℕ
nonces_since air frame = (pair_of air frame.node).nonces.shown - frame.shown

-- why the frame of a number is not repeated
abbrev pub refusal_of : AirState → ℕ → Option IncludeRefusal
refusal_of air number =
    if (number == 0) || nat_lt (length air.frames) number then Some NeverSent
    else if is_forgotten air number (frame_at air number) then Some Forgotten
    else if nat_le 120 (nonces_since air (frame_at air number)) then Some (Stale (nonces_since air (frame_at air number)))
    else None
