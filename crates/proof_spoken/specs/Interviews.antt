-- What interviews hear (this project's own).
use Rattle.std.specs.Prelude.{◌≡◌, ℕ, List}
use Rattle.std.specs.List.{AllByRecursion}
use Rattle.proof_world.specs.host_model.Events.{HostEvent, Interviews}
use Rattle.proof_once.specs.world_model.Events.{Event, Host_takes}

-- an interview that ends well hears the list of its node
abbrev pub HearsList : (ℕ → List ℕ) → HostEvent → Type 0
HearsList listing (Interviews n listens classes update) = classes ≡ listing n
HearsList listing event = Unit {0}

-- so where the host takes bytes: elsewhere it ends no interview
abbrev pub HearLists : (ℕ → List ℕ) → Event → Type 0
HearLists listing (Host_takes count rest items events) = AllByRecursion (HearsList listing) events
HearLists listing event = Unit {0}
