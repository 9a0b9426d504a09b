-- The air with the devices, in the courses of a lock (this project's own rule).
use Rattle.std.specs.Prelude.{◌≡◌, ℕ, ◌<◌, true, List, Option, Some, None, slice_get}
use Rattle.air_frames.specs.Flown.{Flown}
use Rattle.air_frames.specs.History.{Mark}
use Rattle.device_sim.specs.State.{State}
use Rattle.mesh_sim.specs.Air.{is_joined}
use Rattle.mesh_sim.specs.Fates.{Mesh, place_of}
use Rattle.proof_course_plain.specs.Ways.{Beside}
use Rattle.proof_course_plain.specs.Making.{AllMake}
use Rattle.proof_course_plain.specs.Device.{OthersAreIdle}
use Rattle.proof_course_plain.specs.Mesh.{labels, BringsAs}
use Rattle.proof_course_sealed.specs.Labels.{Held, Of_node, Down, Late}
use Rattle.proof_course_sealed.specs.Courses.{Courses, CoursesGo, SameBooks, SameUp, AddsDown}
use Rattle.proof_course_sealed.specs.Meaning.{Past, GivesMore, NodeMeans}
use Rattle.proof_course_sealed.specs.Lock.{AtLock}
use Rattle.proof_course_sealed.specs.Air.{OnAir}

-- the lock of a node is the first device of that node in the list, and is as the courses have it; the others of the node are idle; each device is of a node that has a place in the tables
pub record HasLock (past : Past) (node : ℕ) (c : Courses) (devices : List State) : Type 0 where
  pub device : State
  pub place : ℕ
  pub first : place_of node devices ≡ Some place
  pub stands : slice_get devices place ≡ Some device
  pub at : AtLock past c device
  pub others : OthersAreIdle node devices place
  pub nodes : (other : ℕ) (one : State) → slice_get devices other ≡ Some one → one.node < 233

-- so with the frames on the air; the sessions of the node's devices made what their commands ask for; and a lock that gave a nonce to somebody has joined
pub record InMesh (past : Past) (node : ℕ) (c : Courses) (mesh : Mesh) : Type 0 where
  pub log : List Mark
  pub flights : List Flown
  pub on_air : OnAir past node c log flights mesh.air.frames
  pub device : HasLock past node c mesh.devices
  pub made : AllMake node past.orders past.commands mesh.devices
  pub joined : 0 < c.node.given → is_joined mesh.air node ≡ true

-- ---- labels

-- what a payload of the node holds that has this label
abbrev pub told_as : Option Late → Held
told_as None = Of_node
told_as (Some late) = Down late.said

-- a payload of the node is what this label says
abbrev pub IsTold : Past → ℕ → List ℕ → Option Late → Type 0
IsTold past node payload mark = NodeMeans past node payload (told_as mark)

-- a payload of the node is so; those of other nodes may have any label
abbrev pub Brings : Past → ℕ → ℕ × List ℕ → Option Late → Type 0
Brings past node given mark = BringsAs (IsTold past node) node given mark

-- ---- steps that leave the rest

-- steps of the courses lead to what the air and the devices are then; what the chip is given of the node has labels, and is on its way after the rest
pub record MeshGoes (past : Past) (node : ℕ) (c : Courses) (mesh : Mesh) (given : List (ℕ × List ℕ)) : Type 0 where
  pub later_past : Past
  pub later : Courses
  pub gives : GivesMore past later_past
  pub goes : CoursesGo c later
  pub in_mesh : InMesh later_past node later mesh
  pub marks : List (Option Late)
  pub brings : Beside (Brings later_past node) given marks
  pub books : SameBooks c later
  pub up : SameUp c later
  pub down : AddsDown c later (labels marks)
