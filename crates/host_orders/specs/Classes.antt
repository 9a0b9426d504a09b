-- Which command classes a node lists, and by which of them it takes a value (Z-Wave Application Command Class
-- Specification: the command classes of a Node Information Frame; the choice is this project's own rule).
use Rattle.std.specs.Prelude.{ℕ, Bool, ◌==◌, if◌then◌else◌, List}
use Rattle.std.specs.List.{list_any}
use Rattle.host_orders.specs.declared.actuator.Actuator.{Actuator}
use Rattle.host_orders.specs.declared.actuator.Actuator.TheVariants.{Binary, Multilevel, Lock}

-- whether the class is among these
unfoldable pub lists : List ℕ → ℕ → Bool
lists classes class = list_any (λ listed. listed == class) classes

-- what a value is for a node with these classes: the first of Switch Binary, Switch Multilevel and Door Lock that it
-- lists, and Switch Binary where it lists none
unfoldable pub actuator_of : List ℕ → Actuator
actuator_of classes =
    if lists classes 0x25 then Binary
    else if lists classes 0x26 then Multilevel
    else if lists classes 0x62 then Lock
    else Binary

-- the class of its messages
abbrev pub class_of : Actuator → ℕ
class_of Binary = 0x25
class_of Multilevel = 0x26
class_of Lock = 0x62
