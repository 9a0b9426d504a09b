-- Reading the fields of a message at their offsets from the class byte, with the first fault that is met.
use Rattle.std.specs.Prelude.{◌≡◌, ℕ, zero, suc, ◌+◌, ◌*◌, List, [], ◌∷◌, length, drop, slice_get, slice_index, Result, Ok, Err, Bool, ◌==◌, nat_lt, if◌then◌else◌}
use Rattle.std.specs.Option.{ok_or}
use Rattle.class_core.specs.declared.fault.ClassFault.{ClassFault}
use Rattle.class_core.specs.declared.fault.ClassFault.TheVariants.{Empty, UnknownClass, UnknownCommand, Short, BadValue, NoMemory}
use Rattle.class_core.specs.declared.switch.Switch.{Switch}
use Rattle.class_core.specs.declared.switch.Switch.TheVariants.{Off, On}
use Rattle.class_core.specs.declared.switch.LockMode.{LockMode}
use Rattle.class_core.specs.declared.switch.LockMode.TheVariants.{Unsecured, Secured}
use Rattle.class_core.specs.declared.number.Size.{Size}
use Rattle.class_core.specs.declared.number.Size.TheVariants.{One, Two, Four}
use Rattle.class_core.specs.declared.number.Number.{Number}
use Rattle.class_core.specs.Ranges.{is_node, bytes_in, sized, Scaled, Numbers}
use Rattle.class_core.specs.Cell.{bits}

infixl 10 ◌>>=◌
abbrev pub ◌>>=◌ : {A B : Type 0} → Result A ClassFault → (A → Result B ClassFault) → Result B ClassFault
(Ok x) >>= f = f x
(Err e) >>= f = Err e

-- what a reader answered is what reading gives, unless there was no memory
abbrev pub Gives : {X : Type 0} → Result X ClassFault → Result X ClassFault → Type 0
Gives (Ok x) reading = reading ≡ Ok x
Gives (Err NoMemory) reading = Unit {0}
Gives (Err Empty) reading = reading ≡ Err Empty
Gives (Err (UnknownClass class)) reading = reading ≡ Err (UnknownClass class)
Gives (Err (UnknownCommand class command)) reading = reading ≡ Err (UnknownCommand class command)
Gives (Err (Short need)) reading = reading ≡ Err (Short need)
Gives (Err (BadValue at)) reading = reading ≡ Err (BadValue at)

-- the byte at an offset
unfoldable pub byte_at : ℕ → List ℕ → Result ℕ ClassFault
byte_at at bytes = ok_or (slice_get bytes at) (Short (at + 1))

-- the byte at an offset, where it is one of those that its row has
unfoldable pub limited_at : (ℕ → Bool) → ℕ → List ℕ → Result ℕ ClassFault
limited_at allowed at bytes = do
  byte ← byte_at at bytes
  if allowed byte then Ok byte else Err (BadValue at)

-- the number in some bits of the byte at an offset
unfoldable pub bits_at : ℕ → ℕ → ℕ → List ℕ → Result ℕ ClassFault
bits_at low width at bytes = byte_at at bytes >>= λ byte. Ok (bits low width byte)

-- the switch that a byte stands for
abbrev pub switch_of : ℕ → ℕ → Result Switch ClassFault
switch_of at byte = if byte == 0 then Ok Off else if byte == 255 then Ok On else Err (BadValue at)

-- the switch at an offset
unfoldable pub switch_at : ℕ → List ℕ → Result Switch ClassFault
switch_at at bytes = byte_at at bytes >>= switch_of at

-- the mode of a lock that a byte stands for
abbrev pub lock_of : ℕ → ℕ → Result LockMode ClassFault
lock_of at byte = if byte == 0 then Ok Unsecured else if byte == 255 then Ok Secured else Err (BadValue at)

-- the mode of a lock at an offset
unfoldable pub lock_at : ℕ → List ℕ → Result LockMode ClassFault
lock_at at bytes = byte_at at bytes >>= lock_of at

-- a field of several bytes that is whole
abbrev pub whole : {A : Type 0} → ℕ → List ℕ → A → Result A ClassFault
whole end bytes value = if nat_lt (length bytes) end then Err (Short end) else Ok value

-- the numbers of two, three and four bytes at an offset, high byte first
abbrev pub word_in : ℕ → List ℕ → ℕ
word_in at bytes = slice_index bytes at * 256 + slice_index bytes (at + 1)

abbrev pub three_in : ℕ → List ℕ → ℕ
three_in at bytes = slice_index bytes at * 65536 + slice_index bytes (at + 1) * 256 + slice_index bytes (at + 2)

abbrev pub four_in : ℕ → List ℕ → ℕ
four_in at bytes = slice_index bytes at * 16777216 + slice_index bytes (at + 1) * 65536 + slice_index bytes (at + 2) * 256 + slice_index bytes (at + 3)

-- a number of two bytes
unfoldable pub word_at : ℕ → List ℕ → Result ℕ ClassFault
word_at at bytes = whole (at + 2) bytes (word_in at bytes)

-- a number of three bytes
unfoldable pub three_at : ℕ → List ℕ → Result ℕ ClassFault
three_at at bytes = whole (at + 3) bytes (three_in at bytes)

-- the number of that size at an offset
abbrev pub number_in : Size → ℕ → List ℕ → ℕ
number_in One at bytes = slice_index bytes at
number_in Two at bytes = word_in at bytes
number_in Four at bytes = four_in at bytes

-- a number of that size
unfoldable pub number_at : Size → ℕ → List ℕ → Result Number ClassFault
number_at size at bytes = whole (at + bytes_in size) bytes (sized size (number_in size at bytes))

-- so many numbers of one size, one after the other
abbrev pub numbers_in : Size → ℕ → ℕ → List ℕ → List ℕ
numbers_in size zero at bytes = []
numbers_in size (suc count) at bytes = number_in size at bytes ∷ numbers_in size count (at + bytes_in size) bytes

unfoldable pub numbers_at : Size → ℕ → ℕ → List ℕ → Result Numbers ClassFault
numbers_at size count at bytes = whole (at + count * bytes_in size) bytes (record { size = size; items = numbers_in size count at bytes })

-- the size that a number stands for
abbrev pub size_of_bytes : ℕ → ℕ → Result Size ClassFault
size_of_bytes at n = if n == 1 then Ok One else if n == 2 then Ok Two else if n == 4 then Ok Four else Err (BadValue at)

-- the size in the low three bits of the byte at an offset
unfoldable pub size_at : ℕ → List ℕ → Result Size ClassFault
size_at at bytes = bits_at 0 3 at bytes >>= size_of_bytes at

-- the size that a whole byte stands for
unfoldable pub size_byte_at : ℕ → List ℕ → Result Size ClassFault
size_byte_at at bytes = byte_at at bytes >>= size_of_bytes at

-- a bit of the byte at an offset
unfoldable pub flag_at : ℕ → ℕ → List ℕ → Result Bool ClassFault
flag_at low at bytes = bits_at low 1 at bytes >>= λ bit. Ok (bit == 1)

-- a byte with precision, scale and size, then the number
unfoldable pub scaled_at : ℕ → List ℕ → Result Scaled ClassFault
scaled_at at bytes = do
  precision ← bits_at 5 3 at bytes
  scale ← bits_at 3 2 at bytes
  size ← size_at at bytes
  number ← number_at size (at + 1) bytes
  Ok (record { precision = precision; scale = scale; number = number })

-- nodes up to the end, the first of them at that offset
abbrev pub nodes_of : ℕ → List ℕ → Result (List ℕ) ClassFault
nodes_of at [] = Ok []
nodes_of at (byte ∷ rest) = if is_node byte then (nodes_of (at + 1) rest >>= λ others. Ok (byte ∷ others)) else Err (BadValue at)

-- nodes from an offset to the end
unfoldable pub nodes_at : ℕ → List ℕ → Result (List ℕ) ClassFault
nodes_at at bytes = nodes_of at (drop at bytes)

-- a message of a class, by the command that stands after the class
unfoldable pub in_class : {M : Type 0} → (List ℕ → ℕ → Result M ClassFault) → List ℕ → Result M ClassFault
in_class by bytes = byte_at 1 bytes >>= by bytes
