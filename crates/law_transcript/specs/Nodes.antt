-- Which nodes are joined and what the host knows that they list, by the transcript so far (this project's own rule; the
-- classes are those of a Node Information Frame). The class list of a node is that of its device, once an interview of
-- it has succeeded.
use Rattle.std.specs.Prelude.{ℕ, ◌==◌, Bool, if◌then◌else◌, List, [], ◌∷◌, Option, Some, None, unwrap_or}
use Rattle.std.specs.List.{list_any}
use Rattle.device_sim.specs.device_kinds.declared.kind.Kind.TheVariants.{Switch}
use Rattle.device_sim.specs.device_kinds.Kind.{classes_of, lists}
use Rattle.device_sim.specs.device_stack.State.{State}
use Rattle.zw_text.specs.declared.entry.Entry.{Entry}
use Rattle.zw_text.specs.Transcript.{joined, interviews}

-- the node of the controller, and the one that is joined from the start and taken for a switch
abbrev pub controller : ℕ
controller = 1

abbrev pub first_node : ℕ
first_node = 2

-- the first device of the list with that node: other devices of it hear nothing
abbrev pub device_of : ℕ → List State → Option State
device_of node [] = None
device_of node (device ∷ devices) = if device.node == node then Some device else device_of node devices

-- what a device lists, and nothing where there is none
abbrev pub listed_by : Option State → List ℕ
listed_by None = []
listed_by (Some device) = classes_of device.kind

-- what the device of each node lists
abbrev pub listing_of : List State → ℕ → List ℕ
listing_of devices node = listed_by (device_of node devices)

-- the same, whatever stood before: what is listed by the past that it is asked for
abbrev pub always : (ℕ → List ℕ) → List Entry → ℕ → List ℕ
always listing past node = listing node

-- whether a node is joined
abbrev pub is_joined : List Entry → ℕ → Bool
is_joined past node = list_any (λ one. one == node) (joined past)

-- whether an interview of a node has succeeded
abbrev pub is_interviewed : List Entry → ℕ → Bool
is_interviewed past node = list_any (λ succeeded. succeeded) (interviews node past)

-- what the host takes a node to list before an interview
abbrev pub known_at_first : ℕ → Option (List ℕ)
known_at_first node = if node == first_node then Some (classes_of Switch) else None

-- what the host knows that a node lists: by its interview, else as at first
abbrev pub known_classes : (List Entry → ℕ → List ℕ) → List Entry → ℕ → Option (List ℕ)
known_classes listing past node = if is_interviewed past node then Some (listing past node) else known_at_first node

-- the same, and nothing where the host does not know
abbrev pub host_list : (List Entry → ℕ → List ℕ) → List Entry → ℕ → List ℕ
host_list listing past node = unwrap_or (known_classes listing past node) []

-- whether a device takes commands in sessions: its kind lists Supervision
abbrev pub is_supervised : State → Bool
is_supervised device = lists device.kind 0x6C
