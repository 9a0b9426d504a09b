-- What is outside the host: the chip, the air, the serial line between host and chip, and time; and beside them the
-- devices (this project's own model, docs/MACHINE.md).
use Rattle.std.specs.Prelude.{◌≡◌, ℕ, Bool, true, false, nat_lt, List, [], ◌∷◌, ◌++◌}
use Rattle.serial_frame.specs.Stream.{no_rest}
use Rattle.chip_sim.specs.State.{ChipState, ChipParts, fresh_chip}
use Rattle.chip_sim.specs.Events.{after, Joined, Linked}
use Rattle.mesh_sim.specs.Devices.{State}
use Rattle.mesh_sim.specs.Air.{AirState, first_air, linking, joining}
use Rattle.serial_pipes.specs.State.{WayState, empty_way}
use Rattle.zw_text.specs.declared.entry.Entry.{Entry}
use Rattle.outside_model.specs.declared.waits.Due.{Due}
use Rattle.outside_model.specs.declared.waits.Call.{Call}

-- all of it but the devices
pub record OuterState : Type 0 where
  -- the chip, and the air
  pub chip : ChipParts
  pub air : AirState
  -- what the host writes to the chip, and the chip to the host
  pub to_chip : WayState
  pub to_host : WayState
  -- how many bytes move at a time, 0 for all of them; the tick before which none moves
  pub piece : ℕ
  pub stalled_until : ℕ
  -- how many ticks began; whether one runs; whether its number was entered
  pub clock : ℕ
  pub in_tick : Bool
  pub stamped : Bool
  -- what the chip is given at the next tick, and the results of SendData that it waits for, each in the order asked for
  pub due : List Due
  pub calls : List Call

-- these beside the devices, in the order of the list
pub record Outside : Type 0 where
  pub outer : OuterState
  pub devices : List State

abbrev pub outside : OuterState → List State → Outside
outside o devices = record { outer = o; devices = devices }

-- the chip with another state
abbrev pub with_chip : OuterState → ChipState → OuterState
with_chip o state = record o { chip = record { decoder = o.chip.decoder; state = state } }

-- no byte moves
abbrev pub is_stalled : OuterState → Bool
is_stalled o = nat_lt o.clock o.stalled_until

-- at first node 2 is joined, listens, and is linked to node 1, in the air and to the chip
unfoldable pub first_outer : OuterState
first_outer = record {
  chip = record { decoder = no_rest; state = after (after fresh_chip (Joined 2 true)) (Linked 1 2 true) };
  air = linking (joining first_air 2 true) 1 2 true;
  to_chip = empty_way;
  to_host = empty_way;
  piece = 0;
  stalled_until = 0;
  clock = 0;
  in_tick = false;
  stamped = false;
  due = [];
  calls = [];
}

-- what something makes of the outside, and what is told of it
pub record Outcome : Type 0 where
  pub outer : OuterState
  pub entries : List Entry

abbrev pub silent : OuterState → Outcome
silent o = record { outer = o; entries = [] }

-- only told
abbrev pub tells : OuterState → List Entry → Outcome
tells o entries = record { outer = o; entries = entries }

-- one thing after another
abbrev pub and_then : Outcome → (OuterState → Outcome) → Outcome
and_then first next = record { outer = (next first.outer).outer; entries = first.entries ++ (next first.outer).entries }

-- the same with each item of a list, one after another
module _ {X : Type 0} where
  abbrev pub each : (OuterState → X → Outcome) → OuterState → List X → Outcome
  each step o [] = silent o
  each step o (x ∷ xs) = and_then (step o x) (λ later. each step later xs)

-- this was done, and told
pub record Does (outcome : Outcome) (new : OuterState) (before all : List Entry) : Type 0 where
  pub outer : new ≡ outcome.outer
  pub entries : all ≡ before ++ outcome.entries
