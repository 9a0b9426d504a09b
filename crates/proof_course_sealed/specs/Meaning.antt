-- What payloads are between the host and a lock (this project's own rule), and what was: the orders, the sessions, and the nonces of both ends.
use Rattle.std.specs.Prelude.{◌≡◌, ◌≤◌, ℕ, List, [], ◌∷◌, ◌++◌}
use Rattle.class_info.specs.InfoSpelling.{form}
use Rattle.class_info.specs.declared.message.InfoMessage.TheVariants.{NonceGet}
use Rattle.encap.specs.declared.plan.Outer.TheVariants as outers
use Rattle.s0_crypto.specs.declared.key_pair.Keys.{Keys}
use Rattle.host_orders.specs.Refusals.{IsFit}
use Rattle.host_orders.specs.Wrapping.{message_of}
use Rattle.host_node.specs.State.{ends_to}
use Rattle.host_model.specs.Taking.{ends_from}
use Rattle.proof_course.specs.Parts.{numbered}
use Rattle.device_sim.specs.State.{State}
use Rattle.device_sim.specs.Event.{Hears, device_after}
use Rattle.proof_messages.specs.Asking.{IsLeft}
use Rattle.proof_course_plain.specs.Meaning.{Asked, Reports as TellsReport}
use Rattle.proof_messages.specs.Payloads.{IsOffer, IsSealed, IsUnnumbered}
use Rattle.proof_messages.specs.Locks.{IsLock}
use Rattle.proof_course_sealed.specs.Labels.{Held, Sealed, Offer, Reports, Shows, Up, Of_host, Down, Of_node}

-- ---- what was

-- the orders as they were accepted, the commands of the node's sessions, the nonces that the node gave and those that the host gave it, from number 1 on; and the keys of the network
pub record Past : Type 0 where
  pub keys : Keys
  pub orders : List Asked
  pub commands : List ℕ
  pub given : List (List ℕ)
  pub shown : List (List ℕ)

abbrev pub first_past : Keys → Past
first_past keys = record { keys = keys; orders = []; commands = []; given = []; shown = [] }

-- a list goes on as another
pub record GoesOn {X : Type 0} (old new : List X) : Type 0 where
  pub more : List X
  pub is : new ≡ old ++ more

-- later more was, and nothing else
pub record Grows (old new : Past) : Type 0 where
  pub keys : new.keys ≡ old.keys
  pub orders : GoesOn old.orders new.orders
  pub commands : GoesOn old.commands new.commands
  pub given : GoesOn old.given new.given
  pub shown : GoesOn old.shown new.shown

-- the node gave these nonces besides, and nothing else was
pub record GivesMore (old new : Past) : Type 0 where
  pub more : List (List ℕ)
  pub is : new ≡ record old { given = old.given ++ more }

-- ---- what payloads are

-- the message of a session whose command goes sealed
pub record IsSealedMessage (past : Past) (session : ℕ) (text : List ℕ) : Type 0 where
  pub number : ℕ
  pub asked : Asked
  pub carried : numbered past.commands session ≡ number ∷ []
  pub accepted : numbered past.orders number ≡ asked ∷ []
  pub fit : IsFit asked.carriage.actuator asked.order
  pub end : asked.order.end ≤ 127
  pub outer : asked.carriage.outer ≡ outers.Security
  pub text_is : text ≡ message_of asked.carriage asked.order session

-- it is sealed so in a payload, for the nonce of the node of that number
pub record HoldsMessage (past : Past) (node session number : ℕ) (payload : List ℕ) : Type 0 where
  pub text : List ℕ
  pub is : IsSealedMessage past session text
  pub sealed : IsSealed past.keys (ends_to node) past.given number text payload

-- a report of a session is sealed so, for the nonce of the host of that number
pub record HoldsReport (past : Past) (node session status number : ℕ) (payload : List ℕ) : Type 0 where
  pub text : List ℕ
  pub is : TellsReport session status text
  pub sealed : IsSealed past.keys (ends_from node) past.shown number text payload

-- a payload that leaves the sessions, the changes and the work of each lock as they were, and what it keeps of a datagram
abbrev pub LeavesLocks : List ℕ → Type 0
LeavesLocks payload = (device : State) (drawn : List ℕ) → IsLock device → IsLeft device (device_after device (Hears payload drawn))

-- a payload that is neither sealed nor a nonce, and does nothing to the sessions of a lock
abbrev pub IsNeither : List ℕ → Type 0
IsNeither payload = IsUnnumbered payload × LeavesLocks payload

-- a payload of the host: a message that is sealed, a nonce, or neither
abbrev pub HostMeans : Past → ℕ → List ℕ → Held → Type 0
HostMeans past node payload (Up (Sealed session number)) = HoldsMessage past node session number payload
HostMeans past node payload (Up (Offer number)) = IsOffer past.shown number payload
HostMeans past node payload Of_host = IsNeither payload
HostMeans past node payload (Down said) = ⊥
HostMeans past node payload Of_node = ⊥

-- a payload of the node; what is neither sealed nor a nonce is a Nonce Get
abbrev pub NodeMeans : Past → ℕ → List ℕ → Held → Type 0
NodeMeans past node payload (Up sent) = ⊥
NodeMeans past node payload Of_host = ⊥
NodeMeans past node payload (Down (Reports session status number)) = HoldsReport past node session status number payload
NodeMeans past node payload (Down (Shows number)) = IsOffer past.given number payload
NodeMeans past node payload Of_node = payload ≡ form NonceGet
