-- What the host makes of a payload that tells a report of the open session of a node (this project's own rule over the Supervision Command Class).
use Rattle.std.specs.Prelude.{◌≡◌, ◌⊎◌, ℕ, Bool, false, List, [], ◌∷◌, Some, None}
use Rattle.supervision.specs.Session.{wire_id}
use Rattle.supervision.specs.Host.{open_session}
use Rattle.host_heard.specs.Telling.{heard_at}
use Rattle.host_heard.specs.declared.payload.Heard.TheVariants.{Messages}
use Rattle.host_heard.specs.declared.told.Told.TheVariants.{Report}
use Rattle.host_keep.specs.declared.final_status.FinalStatus.{FinalStatus}
use Rattle.host_node.specs.State.{NodeState}
use Rattle.host_node.specs.declared.series.Series.TheVariants.{Idle}
use Rattle.host_model.specs.Events.{HostEvent, Finishes, Is_unkept, Spends}
use Rattle.host_model.specs.State.{HostState, node_of}
use Rattle.host_model.specs.Taking.{is_secure}
use Rattle.device_kinds.specs.Answers.{report_status}

-- a session of the node is open, and its plain reports are taken
pub record AwaitsReport (n session : ℕ) (h : HostState) : Type 0 where
  pub opened : open_session (node_of h n).book ≡ Some session
  pub openly : is_secure (node_of h n).classes ≡ false

-- a payload tells this status of a session, by its number on the wire
pub record TellsStatus (session status : ℕ) (payload : List ℕ) : Type 0 where
  pub wakes : Bool
  pub heard : heard_at payload ≡ Messages (Report (wire_id session) (report_status status) wakes ∷ [])

-- the session ends, or its end is not kept
pub record EndsSession (n session : ℕ) (events : List HostEvent) : Type 0 where
  pub command : ℕ
  pub status : FinalStatus
  pub wakes : Bool
  pub are : (events ≡ Finishes n session (wire_id session) command status wakes ∷ []) ⊎ (events ≡ Is_unkept n ∷ [])

-- the live nonce is spent, and then the session ends, where each of the two is kept
abbrev pub EndsSealed : ℕ → ℕ → List HostEvent → Type 0
EndsSealed n session events = (events ≡ Is_unkept n ∷ []) ⊎ ((rest : List HostEvent) × ((events ≡ Spends n ∷ rest) × EndsSession n session rest))

-- nothing is left of its series
pub record IsOver (n : NodeState) : Type 0 where
  pub idle : n.series ≡ Idle
  pub no_wait : n.attempt_wait ≡ 0
  pub closed : open_session n.book ≡ None
