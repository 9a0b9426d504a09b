-- Events in which each session that begins is followed by the start of its attempt.
use Rattle.std.proofs.Common.{◌≡◌, ℕ, List, [], ◌∷◌, ◌++◌, map}
use Rattle.std.specs.List.{AllByRecursion}
use Rattle.proof_air.specs.host_model.Events.{HostEvent, Begins, Starts}
use Rattle.proof_air.specs.outside_model.Events.{OuterEvent}
use Rattle.proof_air.specs.world_model.Events.{Event, Outside_does, Host_does}
use Rattle.proof_transcript.proofs.Common.{IsNoBeginning}

-- the start of an attempt of a node
abbrev pub IsStartOf : ℕ → HostEvent → Type 0
IsStartOf n (Starts node plan more payload) = node ≡ n
IsStartOf n event = ⊥

-- it comes first
abbrev pub StartsNext : ℕ → List Event → Type 0
StartsNext n [] = ⊥
StartsNext n (Host_does event ∷ rest) = IsStartOf n event
StartsNext n (event ∷ rest) = ⊥

-- what follows an event of the host
abbrev pub PairedBy : HostEvent → List Event → Type 0
PairedBy (Begins n session command) rest = StartsNext n rest
PairedBy event rest = Unit {0}

abbrev pub Paired : List Event → Type 0
Paired [] = Unit {0}
Paired (Host_does event ∷ rest) = PairedBy event rest × Paired rest
Paired (event ∷ rest) = Paired rest

-- ---- one after another

starts_prefix : (n : ℕ) (a b : List Event) → StartsNext n a → StartsNext n (a ++ b)
starts_prefix n [] b starts = absurd starts
starts_prefix n (Host_does event ∷ a) b starts = starts
starts_prefix n (event ∷ a) b starts = absurd starts

by_prefix : (event : HostEvent) (a b : List Event) → PairedBy event a → PairedBy event (a ++ b)
by_prefix (Begins n session command) a b paired = starts_prefix n a b paired
by_prefix event a b paired = tt

pub both_paired : (a b : List Event) → Paired a → Paired b → Paired (a ++ b)
both_paired [] b first later = later
both_paired (Host_does event ∷ a) b first later = (by_prefix event a b first.0, both_paired a b first.1 later)
both_paired (event ∷ a) b first later = both_paired a b first later

-- ---- where no session begins

-- the host begins none of itself
abbrev pub BeginsNone : Event → Type 0
BeginsNone (Host_does event) = IsNoBeginning event
BeginsNone event = Unit {0}

none_by : (event : HostEvent) (rest : List Event) → IsNoBeginning event → PairedBy event rest
none_by (Begins n session command) rest none = absurd none
none_by event rest none = tt

pub none_paired : (events : List Event) → AllByRecursion BeginsNone events → Paired events
none_paired [] none = tt
none_paired (Host_does event ∷ events) none = (none_by event events none.0, none_paired events none.1)
none_paired (event ∷ events) none = none_paired events none.1

pub outside_none : (inner : List OuterEvent) → AllByRecursion BeginsNone (map Outside_does inner)
outside_none [] = tt
outside_none (event ∷ inner) = (tt, outside_none inner)
