-- Which values the fields of class messages have, and what the types of values are to their callers.
use Rattle.std.specs.Prelude.{ℕ, ◌<◌, ◌≤◌, ◌^◌, ◌||◌, ◌&&◌, ◌==◌, nat_le, Bool, IsTrue, List, length, All}
use Rattle.std.specs.List.{list_all}
use Rattle.class_core.specs.declared.number.Size.{Size}
use Rattle.class_core.specs.declared.number.Size.TheVariants.{One, Two, Four}
use Rattle.class_core.specs.declared.number.Number.{Number}
use Rattle.class_core.specs.declared.number.Number.TheVariants as numbers

-- a level in per cent, or 255 for the last one (Multilevel Switch Command Class; this project's profile)
abbrev pub is_level : ℕ → Bool
is_level b = nat_le b 99 || b == 255

-- a node of a classic network (Z-Wave Network Layer)
abbrev pub is_node : ℕ → Bool
is_node b = nat_le 1 b && nat_le b 232

-- how many bytes a number takes (the size field of Configuration and Thermostat Setpoint)
abbrev pub bytes_in : Size → ℕ
bytes_in One = 1
bytes_in Two = 2
bytes_in Four = 4

-- the numbers of a size are below this
abbrev pub limit : Size → ℕ
limit One = 2 ^ 8
limit Two = 2 ^ 16
limit Four = 2 ^ 32

-- how many bytes a number of its own size takes
abbrev pub size_of : Number → Size
size_of (numbers.One n) = One
size_of (numbers.Two n) = Two
size_of (numbers.Four n) = Four

-- the number without its size
abbrev pub value_of : Number → ℕ
value_of (numbers.One n) = n
value_of (numbers.Two n) = n
value_of (numbers.Four n) = n

-- the number of that size
abbrev pub sized : Size → ℕ → Number
sized One n = numbers.One n
sized Two n = numbers.Two n
sized Four n = numbers.Four n

-- a number with the place of its decimal point and its unit (Thermostat Setpoint, Multilevel Sensor)
pub record Scaled : Type 0 where
  pub precision : ℕ
  pub scale : ℕ
  pub number : Number

-- the precision has three bits and the scale two
abbrev pub IsScaled : Scaled → Type 0
IsScaled d = (d.precision < 8) × (d.scale < 4)

-- each is a node
abbrev pub AreNodes : List ℕ → Type 0
AreNodes ns = IsTrue (list_all is_node ns)

-- numbers of one size
pub record Numbers : Type 0 where
  pub size : Size
  pub items : List ℕ

-- what a row holds: at most 255 numbers, each of that size (Configuration Bulk Set)
pub record AreNumbers (size : Size) (items : List ℕ) : Type 0 where
  pub count : length items ≤ 255
  pub each : All (λ n. n < limit size) items
