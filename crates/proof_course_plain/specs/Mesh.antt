-- The air with the devices, in the course of one node (this project's own rule).
use Rattle.std.specs.Prelude.{◌≡◌, ℕ, ◌<◌, List, [], ◌∷◌, ◌++◌, Option, Some, None, slice_get}
use Rattle.std.specs.List.{flat_map}
use Rattle.std.specs.Option.{option_to_list}
use Rattle.supervision.specs.Ends.{Report}
use Rattle.proof_course.specs.Sessions.{Course, Cargo, Answer, Of_node}
use Rattle.air_frames.specs.Flown.{Flown}
use Rattle.air_frames.specs.History.{Mark}
use Rattle.device_sim.specs.State.{State}
use Rattle.mesh_sim.specs.declared.event.AirEvent.{AirEvent}
use Rattle.mesh_sim.specs.declared.event.AirEvent.TheVariants.{Heard, Lost, Unheard, Sent, Changed, ToChip, Done}
use Rattle.mesh_sim.specs.Fates.{Mesh, place_of}
use Rattle.proof_course_plain.specs.Ways.{Beside, Goes}
use Rattle.proof_course_plain.specs.Meaning.{Asked, NodeMeans}
use Rattle.proof_course_plain.specs.Air.{OnAir}
use Rattle.proof_course_plain.specs.Making.{AllMake}
use Rattle.proof_course_plain.specs.Device.{AtDevice, OthersAreIdle}

-- the device of a node is the first one of that node in the list, and is as the course has it; the others of the node are idle; each device is of a node that has a place in the tables
pub record HasDevice (node : ℕ) (c : Course) (devices : List State) : Type 0 where
  pub device : State
  pub place : ℕ
  pub first : place_of node devices ≡ Some place
  pub stands : slice_get devices place ≡ Some device
  pub at : AtDevice c device
  pub others : OthersAreIdle node devices place
  pub nodes : (other : ℕ) (one : State) → slice_get devices other ≡ Some one → one.node < 233

-- so with the frames on the air; and the sessions of the node's devices made what their commands ask for
pub record InMesh (node : ℕ) (orders : List Asked) (c : Course) (mesh : Mesh) : Type 0 where
  pub log : List Mark
  pub flights : List Flown
  pub on_air : OnAir node orders c.host c.air c.old log flights mesh.air.frames
  pub device : HasDevice node c mesh.devices
  pub made : AllMake node orders c.host.commands mesh.devices

-- ---- labels

-- the labels that are there, in order
abbrev pub labels : {X : Type 0} → List (Option X) → List X
labels marks = flat_map option_to_list marks

-- what a payload of the node holds that has this label
abbrev pub told_as : Option Report → Cargo
told_as None = Of_node
told_as (Some report) = Answer report.session report.status

-- a payload of the node is what this label says
abbrev pub IsTold : List ℕ → Option Report → Type 0
IsTold payload mark = NodeMeans payload (told_as mark)

-- ---- what the chip is given

abbrev pub brought_by : AirEvent → List (ℕ × List ℕ)
brought_by (Heard frame) = []
brought_by (Lost frame) = []
brought_by (Unheard frame) = []
brought_by (Sent frame from to route payload) = []
brought_by (Changed node at) = []
brought_by (ToChip frame from payload) = (from, payload) ∷ []
brought_by (Done frame status dead) = []

abbrev pub brought : List AirEvent → List (ℕ × List ℕ)
brought events = flat_map brought_by events

-- of a payload of the node this holds, and of its label; those of other nodes may have any
abbrev pub BringsAs : {L : Type 0} → (List ℕ → Option L → Type 0) → ℕ → ℕ × List ℕ → Option L → Type 0
BringsAs Holds node given mark = given.0 ≡ node → Holds given.1 mark

-- so that it is what the label says
abbrev pub Brings : ℕ → ℕ × List ℕ → Option Report → Type 0
Brings node given mark = BringsAs IsTold node given mark

-- ---- steps that leave the rest

-- the host and its messages are as before, and these reports are on their way to it after the others
pub record Adds (old new : Course) (reports : List Report) : Type 0 where
  pub host : new.host ≡ old.host
  pub sent : new.sent ≡ old.sent
  pub up : new.up ≡ old.up
  pub down : new.down ≡ old.down ++ reports
  pub told : new.told ≡ old.told

-- steps of the course lead to what the air and the devices are then; what the chip is given of the node has labels, and is on its way after the rest
pub record MeshGoes (node : ℕ) (orders : List Asked) (c : Course) (mesh : Mesh) (given : List (ℕ × List ℕ)) : Type 0 where
  pub later : Course
  pub goes : Goes c later
  pub in_mesh : InMesh node orders later mesh
  pub marks : List (Option Report)
  pub brings : Beside (Brings node) given marks
  pub adds : Adds c later (labels marks)
