-- While an attempt of a lock alone runs, what is on its way in the sealed exchange, and that the wait of the attempt is far from its end (this project's own rule); and that nothing is on its way where none runs.
use Rattle.std.specs.Prelude.{◌≡◌, ◌≢◌, ◌⊎◌, ℕ, ◌+◌, ◌≤◌, [], Some}
use Rattle.law_transcript.specs.Lists.{Has}
use Rattle.supervision.specs.Host.{begun_of}
use Rattle.host_node.specs.declared.series.Series.TheVariants.{Running}
use Rattle.host_model.specs.Sessions.{open_command}
use Rattle.host_model.specs.State.{Command, HostState, command_at, node_of}
use Rattle.world_model.specs.State.{Machine}
use Rattle.proof_answered.specs.proof_calm.proof_work.proof_walk.Phases.{Phase}
use Rattle.proof_in_time.specs.Coming.{own_ticks}
use Rattle.proof_in_time.specs.Exchange.{Exchange, IsSilentIn, NoneGo}
use Rattle.proof_in_time.specs.SealedHosts.{GoesSealed}

-- within so many ticks at most the host has heard the report; and the wait of the attempt does not run, or is far from its end
pub record WaitsSealed (n most : ℕ) (here : Phase) (m : Machine) : Type 0 where
  pub once : own_ticks n here ≤ 1
  pub running : (node_of m.host.state n).series ≡ Running
  pub left : ℕ
  pub few : left ≤ 23
  pub within : left ≤ most
  pub exchange : Exchange n (begun_of (node_of m.host.state n).book) left here m
  pub waits : ((node_of m.host.state n).attempt_wait ≡ 0) ⊎ (70 + left + own_ticks n here ≤ (node_of m.host.state n).attempt_wait)

-- no attempt runs, nothing waits to be given to the node, and nothing is on its way between the two, nor to the chip
pub record RestsSealed (n : ℕ) (here : Phase) (m : Machine) : Type 0 where
  pub rests : (node_of m.host.state n).series ≢ Running
  pub no_task : m.host.state.requests.queue ≡ []
  pub none : NoneGo n m
  pub silent : IsSilentIn here m

-- each command that waits at the node, or whose session is open, goes sealed, to an end point that has a number on the wire
abbrev pub GoSealed : ℕ → HostState → Type 0
GoSealed n h = (number : ℕ) (command : Command) → command_at h.commands number ≡ Some command → Has (node_of h n).waiting number ⊎ (open_command (node_of h n) ≡ Some number) → GoesSealed command.order command.carriage
