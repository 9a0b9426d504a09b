-- A host alone (this project's own model): its state, and of all else no more than it can tell: what has come for it, the time, and how much of a line is to come.
use Rattle.std.specs.Prelude.{ℕ, Bool, false, List, [], ◌∷◌, Option}
use Rattle.serial_frame.specs.Stream.{no_rest}
use Rattle.serial_frame.specs.declared.unit.Unit.{Unit as LineUnit}
use Rattle.s0_crypto.specs.declared.key_pair.Keys.{Keys}
use Rattle.proof_line.specs.host_model.State.{HostState, first_host}
use Rattle.proof_line.specs.host_model.Events.{HostEvent}
use Rattle.proof_line.specs.host_model.After.{after}
use Rattle.proof_line.specs.host_model.Did.{records_all, texts_of}
use Rattle.proof_line.specs.outside_model.State.{first_outer}
use Rattle.proof_line.specs.world_model.State.{Machine, machine, with_texts}

-- The records are what its keeper holds, where it tells that. Units of the chip came whole, and were not judged; so many ticks have begun, and of those that lines have
-- asked for so many are to come; the number of the running one is still to be entered, or is not.
pub record HostMachine : Type 0 where
  pub keys : Keys
  pub records : Option (List (List ℕ))
  pub state : HostState
  pub came : List LineUnit
  pub clock : ℕ
  pub left : ℕ
  pub awaits : Bool

abbrev pub host_machine : Keys → Option (List (List ℕ)) → HostState → List LineUnit → ℕ → ℕ → Bool → HostMachine
host_machine keys records state came clock left awaits =
    record { keys = keys; records = records; state = state; came = came; clock = clock; left = left; awaits = awaits }

-- at first
abbrev pub first_alone : Keys → Option (List (List ℕ)) → HostMachine
first_alone keys records = host_machine keys records (first_host keys) [] 0 0 false

-- after an event of the host, with its record kept
abbrev pub done : HostMachine → HostEvent → HostMachine
done m event = record m { state = after m.state event; records = with_texts m.records (texts_of (records_all m.state (event ∷ []))) }

-- the machine of the simulator that has this host: what is refused there is refused here
abbrev pub with_world : HostMachine → Machine
with_world m = machine m.keys (record { decoder = no_rest; state = m.state }) first_outer m.records []
