-- Which events keep records that may follow (this project's own rule, docs/RECORDS.md).
use Rattle.std.specs.Prelude.{◌≡◌, true, List, [], ◌∷◌}
use Rattle.host_model.specs.State.{HostState, node_of}
use Rattle.host_model.specs.After.{after}
use Rattle.host_model.specs.Events.{HostEvent, Interviews}

-- an interview that ends well is of a node that is joined
abbrev pub IsOfJoined : HostState → HostEvent → Type 0
IsOfJoined h (Interviews n listens classes update) = (node_of h n).joined ≡ true
IsOfJoined h event = Unit {0}

-- each of them is, one after another
abbrev pub AllOfJoined : HostState → List HostEvent → Type 0
AllOfJoined h [] = Unit {0}
AllOfJoined h (event ∷ more) = IsOfJoined h event × AllOfJoined (after h event) more
