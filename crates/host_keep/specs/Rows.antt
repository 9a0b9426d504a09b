-- The numbers of a record, and their ranges (this project's own rule).
use Rattle.std.specs.Prelude.{◌≡◌, ℕ, ◌^◌, ◌<◌, ◌≤◌, Bool, true, false, List, [], ◌∷◌, length, EachIndex, slice_index}
use Rattle.zw_base.specs.declared.order.Word.{Word}
use Rattle.zw_base.specs.declared.order.Word.TheVariants.{On, Off, Level}
use Rattle.zw_base.specs.declared.order.What.{What}
use Rattle.zw_base.specs.declared.order.What.TheVariants as what
use Rattle.zw_base.specs.declared.order.Order.{Order}
use Rattle.host_keep.specs.Status.{status_byte}
use Rattle.host_keep.specs.declared.record.Record.{Record}
use Rattle.host_keep.specs.declared.record.Record.TheVariants.{Accepted, Joined, Classes, Begun, Final, Cancelled, Given, Spent, Seen}

-- what is asked: a number for the kind of order, then its own numbers
abbrev pub what_numbers : What → List ℕ
what_numbers (what.Value On) = 0 ∷ []
what_numbers (what.Value Off) = 1 ∷ []
what_numbers (what.Value (Level level)) = 2 ∷ level ∷ []
what_numbers (what.Mode mode) = 3 ∷ mode ∷ []
what_numbers (what.Setpoint kind tenths) = 4 ∷ kind ∷ tenths ∷ []
what_numbers (what.Config parameter value) = 5 ∷ parameter ∷ value ∷ []
what_numbers (what.Bulk offset values) = 6 ∷ offset ∷ values
what_numbers (what.Associate group member) = 7 ∷ group ∷ member ∷ []
what_numbers (what.Dissociate group member) = 8 ∷ group ∷ member ∷ []
what_numbers (what.Interval seconds) = 9 ∷ seconds ∷ []
what_numbers (what.Comfort mode kind tenths) = 10 ∷ mode ∷ kind ∷ tenths ∷ []

-- 1 for yes and 0 for no
abbrev pub flag_number : Bool → ℕ
flag_number true = 1
flag_number false = 0

-- the numbers of a record: one for its kind, then its own
abbrev pub numbers_of : Record → List ℕ
numbers_of (Accepted command order) = 1 ∷ command ∷ order.node ∷ order.end ∷ what_numbers order.what
numbers_of (Joined node) = 2 ∷ node ∷ []
numbers_of (Classes node listens classes) = 3 ∷ node ∷ flag_number listens ∷ classes
numbers_of (Begun node session command) = 4 ∷ node ∷ session ∷ command ∷ []
numbers_of (Final node session status) = 5 ∷ node ∷ session ∷ status_byte status ∷ []
numbers_of (Cancelled command) = 6 ∷ command ∷ []
numbers_of (Given node given nonce) = 7 ∷ node ∷ given ∷ nonce
numbers_of (Spent node) = 8 ∷ node ∷ []
numbers_of (Seen node seen) = 9 ∷ node ∷ seen ∷ []

-- ---- ranges

-- a node, 1 to 232
abbrev pub IsNode : ℕ → Type 0
IsNode node = (1 ≤ node) × (node ≤ 232)

-- each is a byte
abbrev pub AreBytes : List ℕ → Type 0
AreBytes numbers = EachIndex numbers (λ k. slice_index numbers k < 2 ^ 8)

abbrev pub IsWord : Word → Type 0
IsWord On = Unit {0}
IsWord Off = Unit {0}
IsWord (Level level) = level < 2 ^ 8

abbrev pub IsWhat : What → Type 0
IsWhat (what.Value word) = IsWord word
IsWhat (what.Mode mode) = mode < 2 ^ 8
IsWhat (what.Setpoint kind tenths) = (kind < 2 ^ 8) × (tenths < 2 ^ 16)
IsWhat (what.Config parameter value) = (parameter < 2 ^ 8) × (value < 2 ^ 32)
IsWhat (what.Bulk offset values) = (offset < 2 ^ 8) × AreBytes values
IsWhat (what.Associate group member) = (group < 2 ^ 8) × IsNode member
IsWhat (what.Dissociate group member) = (group < 2 ^ 8) × IsNode member
IsWhat (what.Interval seconds) = seconds < 2 ^ 32
IsWhat (what.Comfort mode kind tenths) = (mode < 2 ^ 8) × (kind < 2 ^ 8) × (tenths < 2 ^ 16)

pub record IsOrder (order : Order) : Type 0 where
  pub node : IsNode order.node
  pub end : order.end ≤ 127
  pub what : IsWhat order.what

-- each number is in its range
abbrev pub IsRecord : Record → Type 0
IsRecord (Accepted command order) = (command < 2 ^ 32) × IsOrder order
IsRecord (Joined node) = IsNode node
IsRecord (Classes node listens classes) = IsNode node × AreBytes classes
IsRecord (Begun node session command) = IsNode node × (session < 2 ^ 64) × (command < 2 ^ 32)
IsRecord (Final node session status) = IsNode node × (session < 2 ^ 64)
IsRecord (Cancelled command) = command < 2 ^ 32
IsRecord (Given node given nonce) = IsNode node × (given < 2 ^ 64) × (length nonce ≡ 8) × AreBytes nonce
IsRecord (Spent node) = IsNode node
IsRecord (Seen node seen) = IsNode node × (seen < 2 ^ 64)
