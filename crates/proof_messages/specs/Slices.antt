-- What is kept of a message that comes in segments, slice by slice (this project's own rule: each segment carries 39 bytes from a multiple of 39 on, or those
-- that are left).
use Rattle.std.specs.Prelude.{◌≡◌, ◌≢◌, ◌⊎◌, ℕ, zero, suc, ◌+◌, ◌*◌, ◌/◌, ◌%◌, ◌-◌, ◌<◌, ◌≤◌, if◌then◌else◌, is_some, true, false, List, [], ◌∷◌, length, slice_index_or, Option, None}
use Rattle.class_info.specs.declared.message.InfoMessage.TheVariants.{TransportComplete, TransportRequest}
use Rattle.class_info.specs.InfoSpelling.{form}
use Rattle.transport_segments.specs.Segment.{offset_of, payload_of, size_of}
use Rattle.transport_segments.specs.Places.{IsLeastMissing, IsMissing, IsThere}
use Rattle.transport_segments.specs.Kept.{Reassembly, Empty, Partial}
use Rattle.transport_segments.specs.Reassembly.{opened, places_after}
use Rattle.transport_segments.specs.Taking.{ends_its_datagram}
use Rattle.device_sim.specs.device_stack.State.{State}
use Rattle.proof_messages.specs.Asking.{IsLeft}
use Rattle.proof_messages.specs.Reporting.{TellsOwn}
use Rattle.proof_messages.specs.Segments.{KeepsPart, MakesWhole}

-- ---- slices

-- a segment carries the slice of that number
pub record IsSlice (place : ℕ) (segment : List ℕ) : Type 0 where
  pub offset : offset_of segment ≡ 39 * place
  pub inside : 39 * place < size_of segment
  pub few : length (payload_of segment) ≤ 39
  pub all : (length (payload_of segment) ≡ 39) ⊎ (offset_of segment + length (payload_of segment) ≡ size_of segment)

-- where a byte has come, each of its slice has
abbrev pub InSlices : List (Option ℕ) → Type 0
InSlices places = (a b : ℕ) → b < length places → a / 39 ≡ b / 39 → IsThere places a → IsThere places b

abbrev pub KeepsSlices : Reassembly → Type 0
KeepsSlices Empty = Unit {0}
KeepsSlices (Partial id places) = InSlices places

-- the slice of that number has come, and no other
pub record AddsSlice (place : ℕ) (old new : List (Option ℕ)) : Type 0 where
  pub long : length new ≡ length old
  pub whole : InSlices new
  pub came : IsThere new (39 * place)
  pub stay : (k : ℕ) → IsThere old (39 * k) → IsThere new (39 * k)
  pub others : (k : ℕ) → k ≢ place → IsThere new (39 * k) → IsThere old (39 * k)

-- so many of the first slices have not come
abbrev pub missing_to : List (Option ℕ) → ℕ → ℕ
missing_to places zero = 0
missing_to places (suc k) = (if is_some (slice_index_or places (39 * k) None) then 0 else 1) + missing_to places k

-- ---- a device

-- it has taken the session: to its last segment it answers by an acknowledgement, and the status that it keeps; to the others by nothing
pub data AnswersAgain (session : ℕ) (segment : List ℕ) (old new : State) (replies : List (List ℕ)) : Type 0 where
  Silent : ends_its_datagram segment ≡ false → IsLeft old new → replies ≡ [] → AnswersAgain session segment old new replies
  Repeats : (payload : List ℕ) → ends_its_datagram segment ≡ true → IsLeft old new → replies ≡ form (TransportComplete (session % 16)) ∷ payload ∷ [] → TellsOwn new payload
      → length payload ≡ 5 → AnswersAgain session segment old new replies

-- it keeps the segment, whose message still lacks its last byte, and says nothing; or it asks for the first byte that is missing; or the message is whole, and heard
pub data TakesPart (message : List ℕ) (id : ℕ) (segment : List ℕ) (old heard new : State) (answers replies : List (List ℕ)) : Type 0 where
  Keeps : (part : KeepsPart message id old new) → part.places ≡ places_after old.reassembly segment
      → IsMissing (places_after old.reassembly segment) (length (places_after old.reassembly segment) - 1) → replies ≡ []
      → TakesPart message id segment old heard new answers replies
  Asks : (at : ℕ) (part : KeepsPart message id old new) → part.places ≡ places_after old.reassembly segment → IsLeastMissing (places_after old.reassembly segment) at
      → IsThere (places_after old.reassembly segment) (length (places_after old.reassembly segment) - 1) → replies ≡ form (TransportRequest id at) ∷ []
      → TakesPart message id segment old heard new answers replies
  Whole : MakesWhole id heard answers new replies → TakesPart message id segment old heard new answers replies

-- so with the segment of a place: its slice is kept, and no other; the message still lacks its last byte, and nothing is said; or the first slice that is missing is asked for; or the message is whole
pub data TakesSlice (message : List ℕ) (session place : ℕ) (old heard new : State) (answers replies : List (List ℕ)) : Type 0 where
  Keeps_slice : (part : KeepsPart message (session % 16) old new) → AddsSlice place (opened old.reassembly (session % 16) (length message)) part.places → IsMissing part.places (length message - 1)
      → replies ≡ [] → TakesSlice message session place old heard new answers replies
  Asks_slice : (least : ℕ) (part : KeepsPart message (session % 16) old new) → AddsSlice place (opened old.reassembly (session % 16) (length message)) part.places
      → IsLeastMissing part.places (39 * least) → IsThere part.places (length message - 1) → replies ≡ form (TransportRequest (session % 16) (39 * least)) ∷ []
      → TakesSlice message session place old heard new answers replies
  Makes_whole : MakesWhole (session % 16) heard answers new replies → TakesSlice message session place old heard new answers replies
