-- What holds of a host holds of what the fields say after an event.
use Rattle.std.proofs.Common.{◌≡◌, ◌≤◌, ℕ, List, length, subst, sym, ap}
use Rattle.std.specs.Prelude.{All}
use Rattle.s0_session.specs.declared.account.Account.{Account}
use Rattle.value_store.specs.Values.{Values}
use Rattle.host_node.specs.State.{NodeState}
use Rattle.host_node.specs.TableState.{node_of as node_among}
use Rattle.host_node.specs.TableFacts.{NodesFacts}
use Rattle.host_model.specs.State.{HostState, HostParts, Command, node_of}
use Rattle.host_model.specs.Events.{HostEvent}
use Rattle.host_model.specs.After.{after}
use Rattle.host_model.specs.May.{May}
use Rattle.host_model.specs.Facts.{HostFacts, IsSound, OwnsCommands}

-- each event keeps it
abbrev pub Keeps : Type 0
Keeps = (h : HostState) (e : HostEvent) → HostFacts h → May h e → HostFacts (after h e)

-- it is said of these five alone
pub same_facts : (a b : HostState) → HostFacts a → a.nodes ≡ b.nodes → a.commands ≡ b.commands → a.nonces ≡ b.nonces → a.store ≡ b.store → a.served ≡ b.served → HostFacts b
same_facts a b f nodes commands nonces store served = record {
  nodes = subst (λ (x : List NodeState). NodesFacts x) nodes f.nodes;
  commands = subst (λ (x : List Command). All (IsSound b.store) x) commands (subst (λ (x : Values). All (IsSound x) a.commands) store f.commands);
  owns = λ n. subst (λ (x : List NodeState). OwnsCommands b.commands n (node_among x n)) nodes (subst (λ (x : List Command). OwnsCommands x n (node_of a n)) commands (f.owns n));
  nonces = subst (λ (x : List Account). length x ≡ 233) nonces f.nonces;
  served = subst (λ (x : ℕ). x ≤ 232) served f.served;
}

-- so it holds of what has these five as the host after an event
pub kept : Keeps → (mine was : HostParts) (new : HostState) (e : HostEvent) → mine ≡ was → HostFacts mine.state → May was.state e → (after mine.state e).nodes ≡ new.nodes → (after mine.state e).commands ≡ new.commands → (after mine.state e).nonces ≡ new.nonces → (after mine.state e).store ≡ new.store → (after mine.state e).served ≡ new.served → HostFacts new
kept keeps mine was new e view f may = same_facts (after mine.state e) new (keeps mine.state e f (subst (λ (s : HostParts). May s.state e) (sym view) may))

-- the whole host after an event, where the rest of it is so
pub whole_is : (mine was : HostParts) (new : HostState) (e : HostEvent) → mine ≡ was → new ≡ after mine.state e
    → (let p : HostParts = record mine { state = new } in p ≡ record was { state = after was.state e })
whole_is mine was new e view is =
    subst (λ (s : HostParts). let p : HostParts = record mine { state = new } in p ≡ record s { state = after s.state e }) view
    (ap (λ (h : HostState). let p : HostParts = record mine { state = h } in p) is)

-- it holds of what has these five as a host of which it holds
pub kept_by : (change : HostState → HostState) (mine was : HostParts) (new : HostState) → mine ≡ was → HostFacts (change was.state)
    → (change mine.state).nodes ≡ new.nodes → (change mine.state).commands ≡ new.commands → (change mine.state).nonces ≡ new.nonces → (change mine.state).store ≡ new.store → (change mine.state).served ≡ new.served → HostFacts new
kept_by change mine was new view f = same_facts (change mine.state) new (subst (λ (s : HostParts). HostFacts (change s.state)) (sym view) f)

-- the same where that host is first said otherwise
pub kept_as_by : (change : HostState → HostState) (mine was : HostParts) (same new : HostState) → mine ≡ was → HostFacts (change was.state) → change mine.state ≡ same
    → same.nodes ≡ new.nodes → same.commands ≡ new.commands → same.nonces ≡ new.nonces → same.store ≡ new.store → same.served ≡ new.served → HostFacts new
kept_as_by change mine was same new view f is =
    same_facts same new (subst (λ (h : HostState). HostFacts h) is (subst (λ (s : HostParts). HostFacts (change s.state)) (sym view) f))
