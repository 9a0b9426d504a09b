-- What is known of the host's work at each phase of a line (this project's own rule): it is in order; and but where the host does something and pumps, nothing that is due lacks its
-- request.
use Rattle.std.specs.Prelude.{ℕ, Option, List, IsSome}
use Rattle.std.specs.List.{AllByRecursion}
use Rattle.zw_text.specs.declared.entry.Entry.{Entry}
use Rattle.proof_walk.specs.host_model.State.{HostState}
use Rattle.proof_walk.specs.world_model.State.{Machine}
use Rattle.proof_walk.specs.Phases.{Phase, Doing, Ticking_host, Sleeping, Submitting}
use Rattle.proof_work.specs.Doing.{IsDone}
use Rattle.proof_work.specs.Work.{HostWork}
use Rattle.proof_work.specs.Rests.{IsTended, NoneWants}
use Rattle.proof_work.specs.Machines.{AllDoWell}

-- of a host whose keeper has these records: its work is in order, and the keeper tells them
pub record IsInOrder (h : HostState) (records : Option (List (List ℕ))) : Type 0 where
  pub work : HostWork h
  pub tells : IsSome records

abbrev pub InOrder : Machine → Type 0
InOrder m = IsInOrder m.host.state m.records

-- and it is tended
abbrev pub InOrderTended : Machine → Type 0
InOrderTended m = InOrder m × IsTended m.host.state

abbrev pub KnowsWork : Phase → List Entry → Machine → Type 0
KnowsWork (Doing line left) past m = InOrder m × AllDoWell m left
KnowsWork (Ticking_host events ticks) past m = InOrder m × AllByRecursion IsDone events
KnowsWork (Sleeping passes ticks) past m = InOrder m
KnowsWork (Submitting passes ticks) past m = InOrder m × NoneWants m.host.state.nodes
KnowsWork here past m = InOrderTended m

-- a law that asks for nothing: what is known goes on all the same
abbrev pub AsksNothing : List Entry → Entry → Type 0
AsksNothing past entry = Unit {0}
