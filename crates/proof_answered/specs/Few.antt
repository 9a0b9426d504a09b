-- How many frames are on the air while quiet lines are said (this project's own rule): few, since no two devices end their work in the same tick.
use Rattle.std.specs.Prelude.{◌≡◌, ◌⊎◌, ℕ, Bool, ◌+◌, ◌-◌, ◌<◌, ◌≤◌, List, [], ◌∷◌, length, slice_get, Option, Some, None}
use Rattle.std.specs.List.{AllByRecursion, flat_map}
use Rattle.zw_text.specs.declared.entry.Entry.{Entry}
use Rattle.zw_text.specs.Transcript.{lines_run}
use Rattle.device_sim.specs.State.{State}
use Rattle.law_time.specs.Stretches.{woken_by}
use Rattle.outside_model.specs.Events.{Wakes_device}
use Rattle.world_model.specs.Events.{Event, Outside_does}
use Rattle.world_model.specs.State.{Machine}
use Rattle.proof_calm.specs.proof_traffic.OnAir.{hosts_on_air}
use Rattle.proof_calm.specs.proof_work.proof_walk.Phases.{Phase, Said_line, Begun, Doing, Ticked, Arriving, Giving, Ticking_devices, Ticking_chip, Ticking_decoder, Ticking_host}
use Rattle.proof_calm.specs.Quiet.{AreQuiet}
use Rattle.proof_calm.specs.Tied.{KnowTied, to_arrive}

-- ---- devices at work

-- for how many ticks the device at a place is still at work
abbrev pub work_of : Option State → ℕ
work_of None = 0
work_of (Some device) = device.work_left

abbrev pub work_at : List State → ℕ → ℕ
work_at devices place = work_of (slice_get devices place)

-- each for so many at most, and no two for as many
pub record AreApart (most : ℕ) (left : ℕ → ℕ) : Type 0 where
  pub within : (place : ℕ) → left place ≤ most
  pub apart : (a b : ℕ) → left a ≡ left b → (a ≡ b) ⊎ (left a ≡ 0)

abbrev pub WorkApart : ℕ → List State → Type 0
WorkApart most devices = AreApart most (λ place. work_at devices place)

-- none is
abbrev pub AreIdle : List State → Type 0
AreIdle devices = AllByRecursion (λ (device : State). device.work_left ≡ 0) devices

-- ---- on the air

-- beside the frames that calls are to come for, and those of devices that are still to be woken, at most so many are there
pub record AreFew (to_wake most : ℕ) (m : Machine) : Type 0 where
  pub fly : to_arrive m + to_wake ≤ length m.outside.outer.calls + most
  pub work : WorkApart 4 m.outside.devices

-- so many frames of this tick are still to arrive: all that are there; or the host's has arrived, and its device answered it with two at most
pub data AreArriving (frames : ℕ) (m : Machine) : Type 0 where
  All : to_arrive m ≤ frames → WorkApart 4 m.outside.devices → AreArriving frames m
  Others : hosts_on_air m.outside.outer ≡ 0 → to_arrive m ≤ frames + 2 → WorkApart 5 m.outside.devices → AreArriving frames m

-- all have arrived
pub record HaveArrived (m : Machine) : Type 0 where
  pub few : to_arrive m ≤ 2
  pub work : WorkApart 5 m.outside.devices

-- of those before a place, one at most has ended its work in this tick, and told of it
abbrev pub EndedBefore : (ℕ → ℕ) → ℕ → Machine → Type 0
EndedBefore before place m = (to_arrive m ≤ 2) ⊎ ((to_arrive m ≤ 3) × (ended : ℕ) × (ended < place) × (before ended ≡ 1))

-- those before a place have ticked, and so many are to come
pub record AreTicking (place count : ℕ) (m : Machine) : Type 0 where
  pub before : ℕ → ℕ
  pub apart : AreApart 5 before
  pub ticked : (a : ℕ) → a < place → work_at m.outside.devices a ≡ before a - 1
  pub to_tick : (a : ℕ) → place ≤ a → work_at m.outside.devices a ≡ before a
  pub all : place + count ≡ length m.outside.devices
  pub few : EndedBefore before place m

-- ---- at each phase

abbrev pub wakes_one : Event → ℕ
wakes_one (Outside_does (Wakes_device node route)) = 1
wakes_one event = 0

abbrev pub wakes_in : List Event → ℕ
wakes_in [] = 0
wakes_in (event ∷ events) = wakes_one event + wakes_in events

-- where so many devices were woken
abbrev pub FewAt : ℕ → Phase → Machine → Type 0
FewAt woken (Said_line line) m = AreFew (length (woken_by line)) (3 + woken) m
FewAt woken (Begun line) m = AreFew (length (woken_by line)) (3 + woken) m
FewAt woken (Doing line left) m = AreFew (wakes_in left) (3 + woken) m
FewAt woken (Ticked ticks) m = WorkApart 4 m.outside.devices
FewAt woken (Arriving frames ticks) m = AreArriving frames m
FewAt woken (Giving results ticks) m = HaveArrived m
FewAt woken (Ticking_devices place count ticks) m = AreTicking place count m
FewAt woken (Ticking_chip ticks) m = AreFew 0 3 m
FewAt woken (Ticking_decoder ticks) m = AreFew 0 3 m
FewAt woken (Ticking_host events ticks) m = AreFew 0 3 m
FewAt woken here m = AreFew 0 (3 + woken) m

-- ---- over lines

-- how many devices these lines wake
abbrev pub woken_in : List Entry → ℕ
woken_in past = length (flat_map woken_by (lines_run past))

-- quiet lines, of which at most 16 wake a device
pub record IsStretched (past : List Entry) : Type 0 where
  pub quiet : AreQuiet past
  pub few : woken_in past ≤ 16

-- what is known then
pub record Knows (these : List Bool) (here : Phase) (past : List Entry) (m : Machine) : Type 0 where
  pub tied : KnowTied these here past m
  pub woken : ℕ
  pub told : woken ≤ woken_in past
  pub few : FewAt woken here m

abbrev pub KnowFew : List Bool → Phase → List Entry → Machine → Type 0
KnowFew these here past m = IsStretched past → Knows these here past m
