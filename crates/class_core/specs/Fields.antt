-- The fields that rows are made of: which cells each value takes.
use Rattle.std.specs.Prelude.{ℕ, ◌/◌, ◌%◌, List, [], ◌∷◌, ◌++◌, Bool, true, false}
use Rattle.class_core.specs.declared.switch.Switch.{Switch}
use Rattle.class_core.specs.declared.switch.Switch.TheVariants.{Off, On}
use Rattle.class_core.specs.declared.switch.LockMode.{LockMode}
use Rattle.class_core.specs.declared.switch.LockMode.TheVariants.{Unsecured, Secured}
use Rattle.class_core.specs.declared.number.Size.{Size}
use Rattle.class_core.specs.declared.number.Size.TheVariants.{One, Two, Four}
use Rattle.class_core.specs.Ranges.{is_node, bytes_in, size_of, value_of, Scaled}
use Rattle.class_core.specs.Cell.{Part, Cell, Whole, Limited, Divided, End}

-- the byte of a switch (Binary Switch and Binary Sensor; this project's profile has these two alone)
abbrev pub switch_byte : Switch → ℕ
switch_byte Off = 0
switch_byte On = 255

-- the byte of a lock's mode (Door Lock; this project's profile has these two alone)
abbrev pub lock_byte : LockMode → ℕ
lock_byte Unsecured = 0
lock_byte Secured = 255

-- bits `low + width - 1` to `low`
abbrev pub part : ℕ → ℕ → ℕ → Part
part low width value = record { low = low; width = width; value = value }

-- a bit that is set or not
abbrev pub flag : Bool → ℕ
flag true = 1
flag false = 0

-- a number of two bytes, high byte first
abbrev pub word : ℕ → List Cell
word n = Whole (n / 256) ∷ Whole (n % 256) ∷ []

-- a number of three bytes, high byte first
abbrev pub three : ℕ → List Cell
three n = Whole (n / 65536) ∷ Whole (n / 256 % 256) ∷ Whole (n % 256) ∷ []

-- a number of that size, high byte first
abbrev pub number : Size → ℕ → List Cell
number One n = Whole n ∷ []
number Two n = word n
number Four n = Whole (n / 16777216) ∷ Whole (n / 65536 % 256) ∷ Whole (n / 256 % 256) ∷ Whole (n % 256) ∷ []

-- numbers of one size, one after the other
abbrev pub numbers : Size → List ℕ → List Cell
numbers size [] = []
numbers size (n ∷ ns) = number size n ++ numbers size ns

-- a byte with precision (bits 7 to 5), scale (bits 4 to 3) and size (bits 2 to 0), then the number
abbrev pub scaled : Scaled → List Cell
scaled d = Divided (part 5 3 d.precision ∷ part 3 2 d.scale ∷ part 0 3 (bytes_in (size_of d.number)) ∷ []) ∷ number (size_of d.number) (value_of d.number)

-- a node
abbrev pub node : ℕ → Cell
node n = Limited is_node n

-- nodes up to the end of the message
abbrev pub nodes : List ℕ → List Cell
nodes [] = End ∷ []
nodes (n ∷ ns) = node n ∷ nodes ns
