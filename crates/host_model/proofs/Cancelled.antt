-- A command that waits is cancelled.
use Rattle.std.proofs.Common.{◌≡◌, ℕ, true, List, [], ◌∷◌, ◌++◌, set, Option, Some, None, option_map, refl, sym, ap, ◌∙◌, subst}
use Rattle.std.proofs.lemmas.List.{length-set}
use Rattle.zw_base.specs.declared.property.Property.{Property}
use Rattle.zw_text.specs.declared.entry.Outcome.{Outcome}
use Rattle.zw_text.specs.declared.entry.Outcome.TheVariants as outcome
use Rattle.s0_session.specs.declared.account.Account.{Account}
use Rattle.s0_session.specs.Nonces.{account_of}
use Rattle.value_store.specs.Values.{stored_of}
use Rattle.host_node.specs.State.{NodeState, unknown}
use Rattle.host_node.specs.Steps.{after_cancel, without as without_first}
use Rattle.host_node.specs.Events.NodeEvent.{Cancels as node_cancels}
use Rattle.host_keep.specs.Kept.{Kept, KeptNode, Taken, blank_node, node_of as kept_of_node, node_with as kept_node_with, command_of, cancelling, without, is_among, confirmed_in}
use Rattle.host_model.specs.State.{HostState, Command, node_of, command_at, with_outcome}
use Rattle.host_model.specs.After.{node_does, node_with, node_for}
use Rattle.host_model.specs.Facts.{IsCommandOf}
use Rattle.host_model.specs.Holding.{HoldsNode, Holds, Rise, commands_of, as_kept, taken_as}
use Rattle.host_model.proofs.Rising.{rise-right, rise-without, not_sooner}
use Rattle.host_model.proofs.Ended.{not_begun}
use Rattle.host_model.proofs.Places.{both_set, one_set}
use Rattle.host_model.proofs.NumberedRecords.{taken_with, taken_at}
use Rattle.host_model.proofs.Outcomes.{Outcomes, outcome_changes, cancels_more}
use Rattle.host_model.proofs.Removed.{first_is_each, not_without, among_without}
use Rattle.host_model.proofs.Steps.{within_by_waiting}
use Rattle.host_model.proofs.Begun.{ended_so, alike_so}

-- what is kept of a node without a command that waited
abbrev pub less : KeptNode → ℕ → KeptNode
less node command = record node { waiting = without node.waiting command }

cancelled_node : (state : NodeState) (account : Account) (node : KeptNode) (command : ℕ) → Rise node.waiting → HoldsNode state account node → HoldsNode (after_cancel state command) account (less node command)
cancelled_node state account node command rises x = record {
  joined = x.joined;
  listens = x.listens;
  classes = x.classes;
  waiting = ap (λ (l : List ℕ). without_first l command) x.waiting ∙ first_is_each node.waiting command rises;
  sessions = x.sessions;
  ended = x.ended;
  given = x.given;
  live = x.live;
  seen = x.seen;
}

module _ (h : HostState) (kept : Kept) (n command : ℕ) (there : is_among (kept_of_node kept n).waiting command ≡ true) (owned : IsCommandOf h.commands n command) (x : Holds h kept) where
  abbrev node : KeptNode
  node = kept_of_node kept n

  pub cancelled_outcomes : (says : Outcome → Outcome) → says outcome.Cancelled ≡ outcome.Cancelled → Outcomes says h.commands kept.nodes → Outcomes says (with_outcome h.commands command outcome.Cancelled) (set kept.nodes n (less node command))
  cancelled_outcomes says so all = outcome_changes says h.commands kept.nodes n command outcome.Cancelled (less node command) owned (within_by_waiting kept.nodes n command there)
      (so ∙ sym (ended_so (less node command) command None (not_without node.waiting command) (not_begun node.sessions command (not_sooner (commands_of node.sessions) node.waiting command (x.order n) there))))
      (λ number other. alike_so (less node command) node number (among_without node.waiting command number other) refl) all

  cancelled_at : Holds (record (node_does h n (node_cancels command)) { commands = with_outcome h.commands command outcome.Cancelled })
      (record { commands = kept.commands; cancelled = kept.cancelled ++ command ∷ []; nodes = set kept.nodes n (less node command) })
  cancelled_at = record {
    places = (length-set kept.nodes n (less node command) ∙ x.places.0 ∙ sym (length-set h.nodes n (after_cancel (node_of h n) command)), x.places.1 ∙ sym (length-set h.nodes n (after_cancel (node_of h n) command)));
    nodes = both_set (unknown 0) blank_node (λ (s : NodeState) (k : KeptNode) (m : ℕ). HoldsNode s (account_of h.nonces m) k) h.nodes kept.nodes n (after_cancel (node_of h n) command) (less node command) x.places.0 x.nodes
        (cancelled_node (node_of h n) (account_of h.nonces n) node command (rise-right (commands_of node.sessions) node.waiting (x.order n)) (x.nodes n));
    commands = taken_with h.commands command outcome.Cancelled ∙ x.commands;
    outcomes = cancelled_outcomes as_kept refl x.outcomes;
    cancelled = cancels_more h.commands kept.cancelled command owned.command owned.found x.cancelled;
    order = one_set blank_node (λ (k : KeptNode) (m : ℕ). Rise (commands_of k.sessions ++ k.waiting)) kept.nodes n (less node command) x.order (rise-without (commands_of node.sessions) node.waiting command (x.order n));
    confirmed = one_set blank_node (λ (k : KeptNode) (m : ℕ). (p : Property) → (stored_of h.store m p).confirmed ≡ confirmed_in kept.commands k.sessions p) kept.nodes n (less node command) x.confirmed (x.confirmed n);
    properties = x.properties;
  }

node_is : (o : Option Command) → kept_node_with (option_map taken_as o) ≡ node_with o
node_is None = refl
node_is (Some command) = refl

-- the node of a command is that for which it was taken
pub same_node : (h : HostState) (kept : Kept) (command : ℕ) → Holds h kept → kept_node_with (command_of kept.commands command) ≡ node_for h command
same_node h kept command x =
    ap (λ (l : List Taken). kept_node_with (command_of l command)) (sym x.commands) ∙ ap (λ (o : Option Taken). kept_node_with o) (taken_at h.commands command) ∙ node_is (command_at h.commands command)

abbrev pub cancelling_at : Kept → ℕ → ℕ → Kept
cancelling_at kept n command = record { commands = kept.commands; cancelled = kept.cancelled ++ command ∷ []; nodes = set kept.nodes n (less (kept_of_node kept n) command) }

pub cancelled_is : (h : HostState) (kept : Kept) (command : ℕ) → is_among (kept_of_node kept (node_for h command)).waiting command ≡ true → IsCommandOf h.commands (node_for h command) command → Holds h kept
    → Holds (record (node_does h (node_for h command) (node_cancels command)) { commands = with_outcome h.commands command outcome.Cancelled }) (cancelling kept command)
cancelled_is h kept command there owned x =
    subst (λ (n : ℕ). Holds (record (node_does h (node_for h command) (node_cancels command)) { commands = with_outcome h.commands command outcome.Cancelled }) (cancelling_at kept n command))
    (sym (same_node h kept command x)) (cancelled_at h kept (node_for h command) command there owned x)
