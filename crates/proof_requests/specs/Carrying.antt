-- What a request carries (Encapsulation and Application Command Classes; which Sets and Gets a line may ask for is this project's own rule): a command by itself, of one of the classes of
-- such a Set or Get, or the message of a session, and what is sealed or cut of it.
use Rattle.std.specs.Prelude.{◌≡◌, ℕ, ◌==◌, ◌||◌, Bool, true, false, if◌then◌else◌, List, drop, slice_index}
use Rattle.host_requests.specs.declared.task.Task.TheVariants.{Plain, Segment}
use Rattle.host_requests.specs.declared.task.Purpose.{Purpose}
use Rattle.host_requests.specs.declared.task.Purpose.TheVariants.{Housekeeping, Attempt}

-- without its wraps of CRC-16, and then of Multi Channel
abbrev pub unchecked : List ℕ → List ℕ
unchecked payload = if slice_index payload 0 == 0x56 then drop 2 payload else payload

abbrev pub unaddressed : List ℕ → List ℕ
unaddressed payload = if slice_index payload 0 == 0x60 then drop 4 payload else payload

-- a class of which a line may ask a Set or a Get: Switch Binary, Switch Multilevel, Door Lock, Thermostat Mode, Sensor Multilevel
abbrev pub is_asked_class : ℕ → Bool
is_asked_class class = (class == 0x25) || (class == 0x26) || (class == 0x62) || (class == 0x40) || (class == 0x31)

abbrev pub is_errand : List ℕ → Bool
is_errand payload = is_asked_class (slice_index (unaddressed (unchecked payload)) 0)

-- a message without Supervision is such a command, and a part of an attempt or a segment is none
abbrev pub CarriesSo : Purpose → Type 0
CarriesSo (Housekeeping (Plain n payload)) = is_errand payload ≡ true
CarriesSo (Housekeeping (Segment n payload)) = is_errand payload ≡ false
CarriesSo (Attempt n more payload) = is_errand payload ≡ false
CarriesSo purpose = Unit {0}
