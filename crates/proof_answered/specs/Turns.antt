-- Whose turn it is (this project's own rule): each service of another node brings a node that has work nearer to its own.
use Rattle.std.specs.Prelude.{◌≡◌, ◌≢◌, ℕ, zero, suc, ◌+◌, ◌-◌, nat_lt, Bool, if◌then◌else◌, List, [], ◌∷◌, Some, None}
use Rattle.serial_frame.specs.Frame.{FrameParts}
use Rattle.host_requests.specs.State.{next_id}
use Rattle.host_requests.specs.declared.under_way.UnderWay.{UnderWay}
use Rattle.host_node.specs.Search.{next_of}
use Rattle.host_model.specs.After.{after}
use Rattle.host_model.specs.Did.{one_if}
use Rattle.host_model.specs.Events.{HostEvent}
use Rattle.host_model.specs.State.{HostState}
use Rattle.proof_calm.specs.Tied.{Ends, IsCalled, IsOf}

-- ---- the cyclic order

-- how many of the nodes up to a number are marked
abbrev pub marked_to : List Bool → ℕ → ℕ
marked_to [] n = 0
marked_to (mark ∷ marks) zero = one_if mark
marked_to (mark ∷ marks) (suc n) = one_if mark + marked_to marks n

-- how many of these come after the node that was served last, up to a node
abbrev pub turn_of : List Bool → ℕ → ℕ → ℕ
turn_of these served n =
    if nat_lt served n then marked_to these n - marked_to these served else (marked_to these 232 - marked_to these served) + marked_to these n

-- ---- what the host does next

-- the task that waited longest is submitted, and no node is served; or the node that is next is, by a request; or a session of that begins, or is not kept
pub data IsInTurn (h : HostState) (event : HostEvent) : Type 0 where
  Waited : h.requests.queue ≢ [] → (after h event).served ≡ h.served → IsInTurn h event
  Serves : (n : ℕ) → next_of h.nodes h.served ≡ Some n → (after h event).served ≡ n → (after h event).requests.last_id ≡ next_id h.requests.last_id → IsInTurn h event
  Opens : (n : ℕ) → next_of h.nodes h.served ≡ Some n → (after h event).served ≡ h.served → (after h event).requests ≡ h.requests → IsInTurn h event

-- ---- before a settling

-- no request is under way, or its call is on its way to the host
pub data IsOver (e : Ends) (pending : List FrameParts) : Type 0 where
  Without : e.under_way ≡ None → IsOver e pending
  With_call : (u : UnderWay) → IsOf u e → IsCalled e pending [] → IsOver e pending
