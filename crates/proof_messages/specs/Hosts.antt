-- What the host makes of nonces and of what it seals, event by event (this project's own rule over the Security 0 Command Class).
use Rattle.std.specs.Prelude.{◌≡◌, ◌≢◌, ◌⊎◌, ℕ, List, Some, None}
use Rattle.s0_session.specs.Nonces.{account_of}
use Rattle.host_node.specs.State.{NodeState}
use Rattle.host_node.specs.declared.attempt.Plan.{Plan}
use Rattle.host_node.specs.declared.attempt.Plan.TheVariants.{Whole, Segments, Sealed}
use Rattle.host_node.specs.Events.{NodeEvent, Starts as node_starts, Gives_text as node_gives_text, Takes_nonce as node_takes_nonce, Restores_seen as node_restores_seen}
use Rattle.host_model.specs.State.{HostState, node_of}
use Rattle.host_model.specs.Events.{HostEvent, Gives, Spends, Spends_unread, Takes_nonce, Starts, Gives_text}

-- what is to be sealed for a node, and what waits sealed, stay; or nothing is left of either. How many of its nonces were seen stays
pub record LeavesSealing (old new : NodeState) : Type 0 where
  pub seen : new.seen ≡ old.seen
  pub left : ((new.text ≡ old.text) × (new.pending ≡ old.pending)) ⊎ ((new.text ≡ None) × (new.pending ≡ None))

-- an attempt that is not sealed
abbrev pub IsOpenPlan : Plan → Type 0
IsOpenPlan Whole = Unit {0}
IsOpenPlan (Segments count) = Unit {0}
IsOpenPlan (Sealed plain) = ⊥

-- an event of a node that seals nothing, gives no sealed text, and counts no nonce
abbrev pub IsUnsealing : NodeEvent → Type 0
IsUnsealing (node_starts plan) = IsOpenPlan plan
IsUnsealing node_gives_text = ⊥
IsUnsealing (node_takes_nonce seen text) = ⊥
IsUnsealing (node_restores_seen seen) = ⊥
IsUnsealing event = Unit {0}

-- an event of the host that does nothing with the nonces and the sealed texts between it and a node
abbrev pub IsAside : ℕ → HostEvent → Type 0
IsAside node (Gives n drawn) = n ≢ node
IsAside node (Spends n) = n ≢ node
IsAside node (Spends_unread n payload) = n ≢ node
IsAside node (Takes_nonce n seen text) = n ≢ node
IsAside node (Starts n plan more payload) = (n ≢ node) ⊎ IsOpenPlan plan
IsAside node (Gives_text n payload) = n ≢ node
IsAside node event = Unit {0}

-- the nonces that the host gave a node stay, and what it seals for it stays or is given up
pub record LeavesNonces (node : ℕ) (old new : HostState) : Type 0 where
  pub account : account_of new.nonces node ≡ account_of old.nonces node
  pub sealing : LeavesSealing (node_of old node) (node_of new node)

-- a sealed text of a node is to be given, and a plain text waits for a nonce, that have this
pub record HasTexts (OfText OfPlain : List ℕ → Type 0) (state : NodeState) : Type 0 where
  pub text : (bytes : List ℕ) → state.text ≡ Some bytes → OfText bytes
  pub pending : (bytes : List ℕ) → state.pending ≡ Some bytes → OfPlain bytes
