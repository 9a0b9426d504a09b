-- Which nodes the host has to do with, while quiet lines are said (this project's own rule): those that are joined to the chip, and no others.
use Rattle.std.specs.Prelude.{◌≡◌, ℕ, ◌≤◌, Bool, false, true, List, [], length, Option, Some, None}
use Rattle.std.specs.List.{AllByRecursion}
use Rattle.chip_functions.specs.Field.{IsNode}
use Rattle.chip_sim.specs.Nodes.{is_marked}
use Rattle.host_requests.specs.Frames.{request_of, send}
use Rattle.host_requests.specs.declared.task.Purpose.{Purpose}
use Rattle.host_requests.specs.declared.task.Purpose.TheVariants.{Attempt, Housekeeping}
use Rattle.host_requests.specs.declared.task.Task.{Task}
use Rattle.host_requests.specs.declared.task.Task.TheVariants.{NoMore, Offer, Segment}
use Rattle.host_requests.specs.declared.under_way.UnderWay.{UnderWay}
use Rattle.host_node.specs.State.{NodeState}
use Rattle.host_node.specs.declared.series.Series.TheVariants.{Idle}
use Rattle.host_model.specs.State.{HostState, node_of}
use Rattle.proof_serial.specs.Host.{FitsIn}

-- a node that is joined
pub record IsMember (joined : List Bool) (n : ℕ) : Type 0 where
  pub is_node : IsNode n
  pub is_joined : is_marked joined n ≡ true

-- a request asks to send a payload of 1 to 46 bytes to a joined node
pub record AsksToSend (joined : List Bool) (purpose : Purpose) (id : ℕ) : Type 0 where
  pub node : ℕ
  pub payload : List ℕ
  pub is : request_of purpose id ≡ send node payload id
  pub is_node : IsNode node
  pub some : 1 ≤ length payload
  pub few : length payload ≤ 46
  pub is_joined : is_marked joined node ≡ true

-- nothing was asked of a node, or heard from it
pub record IsBlank (n : NodeState) : Type 0 where
  pub unlisted : n.classes ≡ None
  pub idle : n.series ≡ Idle
  pub none_waits : n.waiting ≡ []

-- a task that sends a payload to such a node
abbrev pub IsTaskFor : List Bool → Task → Type 0
IsTaskFor joined (Offer n nonce) = IsMember joined n
IsTaskFor joined (Segment n payload) = IsMember joined n × (1 ≤ length payload)
IsTaskFor joined (NoMore n) = IsMember joined n
IsTaskFor joined task = ⊥

abbrev pub IsPurposeFor : List Bool → Purpose → Type 0
IsPurposeFor joined (Attempt n more payload) = IsMember joined n
IsPurposeFor joined (Housekeeping task) = IsTaskFor joined task
IsPurposeFor joined purpose = ⊥

abbrev pub IsRequestFor : List Bool → Option UnderWay → Type 0
IsRequestFor joined None = Unit {0}
IsRequestFor joined (Some request) = IsPurposeFor joined request.purpose

-- each node that is none of these is so, and each task and the request under way are for these
pub record KnowsThese (Rests : NodeState → Type 0) (these : List Bool) (h : HostState) : Type 0 where
  pub others : (n : ℕ) → is_marked these n ≡ false → Rests (node_of h n)
  pub tasks : AllByRecursion (IsTaskFor these) h.requests.queue
  pub request : IsRequestFor these h.requests.under_way

-- each node that is not joined is blank
abbrev pub KnowsMembers : List Bool → HostState → Type 0
KnowsMembers joined h = KnowsThese IsBlank joined h

-- what a node is still to have sealed has at most 26 bytes
abbrev pub HasShortPlain : NodeState → Type 0
HasShortPlain n = FitsIn 26 n.pending
