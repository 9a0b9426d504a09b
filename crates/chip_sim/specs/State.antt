-- What the chip is to its callers (this project's own).
use Rattle.std.specs.Prelude.{ℕ, Bool, true, false, Option, Some, None, List, [], ◌∷◌, ◌++◌, replicate}
use Rattle.serial_frame.specs.Stream.{Rest, no_rest}
use Rattle.route_table.specs.Network.{Network, no_network}
use Rattle.chip_sim.specs.Nodes.{none_marked}
use Rattle.chip_sim.specs.Waiting.{PortState, no_port}
use Rattle.chip_sim.specs.declared.out.Sending.{Sending}

-- what events change
pub record ChipState : Type 0 where
  -- the link to the host, and the frames that wait for it
  pub port : PortState
  -- the links and repeaters that the chip knows
  pub table : Network
  -- the nodes that joined, and those of them that listen
  pub joined : List Bool
  pub listening : List Bool
  -- the nodes whose last callback was NO_ACK or NOROUTE
  pub failing : List Bool
  -- the SendData under way
  pub sending : Option Sending
  -- how many calls of `done` are to come for SendData that were aborted; they come before that of the one under way
  pub aborted : ℕ

-- the chip: what is unfinished of the host's bytes, and the rest
pub record ChipParts : Type 0 where
  pub decoder : Rest
  pub state : ChipState

-- a chip at the beginning
abbrev pub fresh_chip : ChipState
fresh_chip = record { port = no_port.port; table = no_network; joined = none_marked; listening = none_marked; failing = none_marked; sending = None; aborted = 0 }

-- the call of the SendData under way
abbrev pub last_call : Option Sending → List Bool
last_call None = []
last_call (Some sending) = false ∷ []

-- the calls of `done` that are to come, in the order of the outputs that they are for: whether each was aborted
abbrev pub owed_calls : ChipState → List Bool
owed_calls s = replicate s.aborted true ++ last_call s.sending
