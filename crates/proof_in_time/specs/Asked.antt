-- What the host asks to send in a stretch for plain nodes (this project's own rule): the message of the session that was begun last, or that there is no more for
-- a node; so that is what each frame of the host on the air brings.
use Rattle.std.specs.Prelude.{◌≡◌, ℕ, ◌≤◌, true, Bool, List, Some}
use Rattle.std.specs.List.{AllByRecursion}
use Rattle.serial_link.specs.declared.turn.Turn.TheVariants.{Idle}
use Rattle.supervision.specs.Host.{begun_of}
use Rattle.chip_sim.specs.Nodes.{is_marked}
use Rattle.air_frames.specs.Flown.{Flown}
use Rattle.air_frames.specs.declared.frame.Heading.TheVariants.{Outward}
use Rattle.host_requests.specs.Frames.{no_more_information}
use Rattle.host_requests.specs.declared.task.Purpose.{Purpose}
use Rattle.host_requests.specs.declared.task.Purpose.TheVariants.{Attempt, Housekeeping}
use Rattle.host_requests.specs.declared.task.Task.{Task}
use Rattle.host_requests.specs.declared.task.Task.TheVariants.{NoMore}
use Rattle.host_requests.specs.declared.under_way.UnderWay.{UnderWay}
use Rattle.host_model.specs.State.{HostState, node_of}
use Rattle.world_model.specs.State.{Machine}
use Rattle.proof_answered.specs.proof_calm.proof_traffic.OnAir.{on_air}
use Rattle.proof_answered.specs.proof_calm.proof_work.proof_walk.Phases.{Phase}
use Rattle.proof_in_time.specs.Coming.{IsAsking, IsMessage}

-- the message of the session of a node that was begun last
pub record IsMessageOf (h : HostState) (n : ℕ) (payload : List ℕ) : Type 0 where
  pub begun : 1 ≤ begun_of (node_of h n).book
  pub message : IsMessage (begun_of (node_of h n).book) payload

-- a task tells one of these nodes that there is no more for it; and a request does, or is an attempt of one of these that gives such a message
abbrev pub IsPlainTask : List Bool → Task → Type 0
IsPlainTask these (NoMore n) = is_marked these n ≡ true
IsPlainTask these task = ⊥

abbrev pub IsPlainPurpose : List Bool → HostState → Purpose → Type 0
IsPlainPurpose these h (Attempt n more payload) = (is_marked these n ≡ true) × IsMessageOf h n payload
IsPlainPurpose these h (Housekeeping task) = IsPlainTask these task
IsPlainPurpose these h purpose = ⊥

-- it asks to send this payload to this node
abbrev pub TaskSends : Task → ℕ → List ℕ → Type 0
TaskSends (NoMore n) node payload = (node ≡ n) × (payload ≡ no_more_information)
TaskSends task node payload = ⊥

abbrev pub Sends : Purpose → ℕ → List ℕ → Type 0
Sends (Attempt n more text) node payload = (node ≡ n) × (payload ≡ text)
Sends (Housekeeping task) node payload = TaskSends task node payload
Sends purpose node payload = ⊥

-- so does the request under way, which is such a one
pub record IsAskedNow (these : List Bool) (h : HostState) (frame : Flown) : Type 0 where
  pub request : UnderWay
  pub under_way : h.requests.under_way ≡ Some request
  pub plain : IsPlainPurpose these h request.purpose
  pub sends : Sends request.purpose frame.node frame.payload

-- the request that is on its way to the chip is such a one; and it asks for each frame of the host on the air
pub record AreAskedSo (these : List Bool) (here : Phase) (m : Machine) : Type 0 where
  pub asks : IsAsking here → (u : UnderWay) → m.host.state.requests.under_way ≡ Some u → (m.host.state.side.turn ≡ Idle → ⊥) → IsPlainPurpose these m.host.state u.purpose
  pub flies : AllByRecursion (λ (frame : Flown). frame.heading ≡ Outward → IsAskedNow these m.host.state frame) (on_air m.outside.outer.air.frames)
