-- What the host has after each of its own events of the sealed exchange with a lock (this project's own rule over the Security 0 Command Class).
use Rattle.std.specs.Prelude.{◌≡◌, ◌⊎◌, ℕ, ◌≤◌, List, [], ◌∷◌, Some}
use Rattle.zw_base.specs.declared.order.Order.{Order}
use Rattle.encap.specs.declared.plan.Outer.TheVariants as outers
use Rattle.s0_session.specs.Nonces.{live_of}
use Rattle.device_sim.specs.State.{State}
use Rattle.host_requests.specs.declared.task.Task.TheVariants as task
use Rattle.host_node.specs.State.{NodeState}
use Rattle.host_node.specs.Steps.{after_nonce}
use Rattle.host_orders.specs.Refusals.{IsFit}
use Rattle.host_orders.specs.declared.carriage.Carriage.{Carriage}
use Rattle.host_model.specs.Did.{after_all}
use Rattle.host_model.specs.Events.{HostEvent, Is_unkept, Spends, Takes_nonce}
use Rattle.host_model.specs.State.{HostState, node_of}
use Rattle.world_model.specs.State.{Machine}
use Rattle.proof_answered.specs.proof_calm.proof_work.proof_walk.Phases.{Submitting}
use Rattle.proof_in_time.specs.Exchange.{GoesOut, IsElse, IsForLive}

-- a command that can be written goes sealed, to an end point that has a number on the wire
pub record GoesSealed (order : Order) (carriage : Carriage) : Type 0 where
  pub fit : IsFit carriage.actuator order
  pub end : order.end ≤ 127
  pub outer : carriage.outer ≡ outers.Security

-- the text that waited at the node is sealed in this; its requests and its nonces are as they were
pub record HasSealed (n seen : ℕ) (text : List ℕ) (old new : HostState) : Type 0 where
  pub node : node_of new n ≡ after_nonce (node_of old n) seen text
  pub requests : new.requests ≡ old.requests
  pub nonces : new.nonces ≡ old.nonces

-- the nonce of the lock is taken, and the message of the session is sealed for it
pub record SealsForLive (n session : ℕ) (device : State) (h : HostState) (events : List HostEvent) : Type 0 where
  pub seen : ℕ
  pub text : List ℕ
  pub are : events ≡ Takes_nonce n seen text ∷ []
  pub is : IsForLive session device text
  pub sealed : HasSealed n seen text h (after_all h events)

-- the live nonce waits alone to be given to the node
pub record HasOffer (n : ℕ) (old new : HostState) : Type 0 where
  pub nonce : List ℕ
  pub queue : new.requests.queue ≡ task.Offer n nonce ∷ []
  pub live : live_of new.nonces n ≡ Some nonce
  pub nodes : new.nodes ≡ old.nodes
  pub under_way : new.requests.under_way ≡ old.requests.under_way

-- a payload for the node is on its way to the chip, and nothing else waits to be given to it; of the host it is so now
pub record HasSubmitted (n : ℕ) (Is : List ℕ → Type 0) (now : NodeState) (old : HostState) (passes ticks : ℕ) (m : Machine) : Type 0 where
  pub out : (later : ℕ) → 1 ≤ later → GoesOut n Is later (Submitting passes ticks) m
  pub other : IsElse n m.host.state
  pub node : node_of m.host.state n ≡ now
  pub nonces : m.host.state.nonces ≡ old.nonces

-- the nonce that a sealed report spends, or the end of its session, was not kept
abbrev pub IsLost : ℕ → List HostEvent → Type 0
IsLost n events = (events ≡ Is_unkept n ∷ []) ⊎ (events ≡ Spends n ∷ Is_unkept n ∷ [])
