-- Restarts in a run of the machine (this project's own): a host that starts goes on as the one before it, where its keeper gives back what
-- it was given.
use Rattle.std.specs.Prelude.{◌≡◌, ℕ, List, [], ◌∷◌, Option, Some, None, IsSome}
use Rattle.host_keep.specs.Kept.{kept_of}
use Rattle.host_keep.specs.Legal.{AreTextsOf, AreLegal}
use Rattle.host_keep.specs.declared.record.Record.{Record}
use Rattle.proof_host.specs.host_model.State.{HostState}
use Rattle.proof_host.specs.host_model.Holding.{Holds}
use Rattle.proof_host.specs.host_model.Recording.{IsOfJoined, AllOfJoined}
use Rattle.proof_device.specs.world_model.State.{Machine}
use Rattle.proof_device.specs.world_model.Events.{Event, Host_does, Host_takes, Restarts, happens}
use Rattle.proof_host.specs.Facts.{StartsAs}

-- a host that starts has what the one before it recorded
abbrev pub StartsWell : Machine → Event → Type 0
StartsWell m (Restarts state) = StartsAs m.host.state state
StartsWell m event = Unit {0}

-- each that starts among these events does
abbrev pub AllStartWell : Machine → List Event → Type 0
AllStartWell m [] = Unit {0}
AllStartWell m (event ∷ events) = StartsWell m event × AllStartWell (happens m event) events

-- ---- records that are read again as they were written

-- an interview that ends well is of a node that is joined; and where a host starts again, the keeper tells its records
abbrev pub KeepsWell : Machine → Event → Type 0
KeepsWell m (Host_does event) = IsOfJoined m.host.state event
KeepsWell m (Host_takes count rest items events) = AllOfJoined m.host.state events
KeepsWell m (Restarts state) = IsSome m.records
KeepsWell m event = Unit {0}

-- so for each of these events
abbrev pub AllKeepWell : Machine → List Event → Type 0
AllKeepWell m [] = Unit {0}
AllKeepWell m (event ∷ events) = KeepsWell m event × AllKeepWell (happens m event) events

-- a keeper that tells its records has none yet
abbrev pub BeginsEmpty : Option (List (List ℕ)) → Type 0
BeginsEmpty None = Unit {0}
BeginsEmpty (Some texts) = texts ≡ []

-- the texts are those of legal records, and the host has what these give
pub record AreHeld (h : HostState) (texts : List (List ℕ)) : Type 0 where
  pub records : List Record
  pub are : AreTextsOf records texts
  pub legal : AreLegal records
  pub holds : Holds h (kept_of records)

-- the same of a keeper's records, where it tells them
abbrev pub IsHeld : HostState → Option (List (List ℕ)) → Type 0
IsHeld h None = Unit {0}
IsHeld h (Some texts) = AreHeld h texts
