-- What a call of the host did (this project's own): which events happened, and what became of the host, of what it puts out and of
-- what its keeper holds.
use Rattle.std.specs.Prelude.{◌≡◌, ℕ, ◌<◌, Bool, true, false, List, [], ◌∷◌, ◌++◌, length, Option, Some, None}
use Rattle.zw_base.specs.Listed.{Listed}
use Rattle.host_model.specs.State.{HostState, HostParts}
use Rattle.host_model.specs.Events.{HostEvent}
use Rattle.host_keep.specs.Keeping.{Shelf}
use Rattle.host_model.specs.Did.{Did}
use Rattle.host_model.specs.Pumping.{IsNext, IsPumped}
use Rattle.host_model.specs.Taking.{Fed}
use Rattle.host_model.specs.declared.out.HostOut.{HostOut}

-- what a keeper holds, by its parts
abbrev pub shelf_of : Option (List (List ℕ)) → ℕ → Shelf
shelf_of records faults = record { records = records; faults = faults }

-- a host, what it put out so far, and what its keeper holds
pub record Scene : Type 0 where
  pub host : HostState
  pub outs : List HostOut
  pub shelf : Shelf

abbrev pub scene : HostState → List HostOut → Shelf → Scene
scene host outs shelf = record { host = host; outs = outs; shelf = shelf }

-- the scene of a host, its list of what it puts out, and its keeper, whose shelf is told so
abbrev pub seen : {K : Type 0} → (K → Shelf) → HostParts → Listed HostOut → K → Scene
seen shelf core out keeper = scene core.state out.items (shelf keeper)

-- events of this kind happened
pub record Does (Kind : List HostEvent → Type 0) (old new : Scene) : Type 0 where
  pub events : List HostEvent
  pub are : Kind events
  pub did : Did events old.host new.host old.outs new.outs old.shelf new.shelf

-- some events happened, and then there was no memory
pub record Stops (old new : Scene) : Type 0 where
  pub events : List HostEvent
  pub did : Did events old.host new.host old.outs new.outs old.shelf new.shelf

-- the same of a call that asks no keeper: whatever one holds, it holds on
abbrev pub DoesAlone : (List HostEvent → Type 0) → HostState → List HostOut → HostState → List HostOut → Type 0
DoesAlone Kind old before new all = (shelf : Shelf) → Does Kind (scene old before shelf) (scene new all shelf)

abbrev pub StopsAlone : HostState → List HostOut → HostState → List HostOut → Type 0
StopsAlone old before new all = (shelf : Shelf) → Stops (scene old before shelf) (scene new all shelf)

-- these events, and no others
abbrev pub Are : List HostEvent → List HostEvent → Type 0
Are these events = events ≡ these

-- one event, of these
abbrev pub One : (HostEvent → Type 0) → List HostEvent → Type 0
One Which events = (event : HostEvent) × Which event × (events ≡ event ∷ [])

-- a turn of a pump: the next request was submitted; or none can be, and nothing happened
abbrev pub Turns : Bool → Scene → Scene → Type 0
Turns true old new = Does (One (IsNext old.host)) old new
Turns false old new = IsPumped old.host × Does (Are []) old new

-- bytes were taken up to the end of the first item, and these are left; or all of them were taken
abbrev pub TakesOne : HostParts → List ℕ → HostParts → Scene → Scene → Option (List ℕ) → Type 0
TakesOne old bytes new before after None = Fed old bytes new before.outs after.outs before.shelf after.shelf
TakesOne old bytes new before after (Some left) =
    (taken : List ℕ) × (bytes ≡ taken ++ left) × (length left < length bytes)
    × Fed old taken new before.outs after.outs before.shelf after.shelf
