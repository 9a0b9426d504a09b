-- What calls of both sides tell of the bytes that moved (this project's own).
use Rattle.std.specs.Prelude.{◌≡◌, ℕ, ◌≤◌, Bool, true, false, List, [], ◌∷◌, take, drop, length}
use Rattle.host_model.specs.State.{HostParts}
use Rattle.host_keep.specs.Keeping.{Shelf}
use Rattle.host_model.specs.Taking.{Fed, FedPrefix}
use Rattle.host_model.specs.declared.out.HostOut.{HostOut}
use Rattle.outside_model.specs.State.{OuterState, is_stalled}
use Rattle.outside_model.specs.Events.{Host_takes}
use Rattle.outside_model.specs.Did.{Goes}
use Rattle.world_model.specs.Events.{Event}
use Rattle.world_model.specs.Did.{Schedule, Then, Nothing, ThenPrefix}
use Rattle.world_model.specs.Settling.{IsChipPart, IsHostPart, IsMove, IsPump}
use Rattle.world_model.specs.Prefixes.{MovePrefix}

-- there are some
abbrev pub are_some : List Event → Bool
are_some [] = false
are_some (event ∷ events) = true

-- bytes moved to the chip, to the host, or either, or none did
abbrev pub ChipPart : Bool → Schedule
ChipPart moved m events = IsChipPart m events × (moved ≡ are_some events)

abbrev pub HostPart : Bool → Schedule
HostPart moved m events = IsHostPart m events × (moved ≡ are_some events)

abbrev pub Moves : Bool → Schedule
Moves moved m events = IsMove m events × (moved ≡ are_some events)

-- a pass
abbrev pub Pass : Bool → Schedule
Pass moved = Then (Moves moved) IsPump

-- a prefix of it: of the bytes that move, or all of them
abbrev pub PassPrefix : Schedule
PassPrefix = ThenPrefix MovePrefix IsMove Nothing

-- the host took so many of the first bytes of its pipe
pub record TakesBytes (count : ℕ) (host host' : HostParts) (outer outer' : OuterState) (before all : List HostOut) (shelf shelf' : Shelf) : Type 0 where
  pub some : count ≤ length outer.to_host.bytes
  pub fed : Fed host (take count outer.to_host.bytes) host' before all shelf shelf'
  pub goes : Goes (Host_takes count ∷ []) outer outer' [] []
  pub left : outer'.to_host.bytes ≡ drop count outer.to_host.bytes
  pub moves : is_stalled outer' ≡ false

-- on an allocation failure it took a prefix of some of them
pub record TakesPrefix (host host' : HostParts) (outer : OuterState) (before all : List HostOut) (shelf shelf' : Shelf) : Type 0 where
  pub count : ℕ
  pub some : count ≤ length outer.to_host.bytes
  pub fed : FedPrefix host (take count outer.to_host.bytes) host' before all shelf shelf'
