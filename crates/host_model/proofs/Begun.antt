-- A session begins.
use Rattle.std.proofs.Common.{◌≡◌, ℕ, ◌||◌, Bool, true, false, if◌then◌else◌, List, [], ◌∷◌, ◌++◌, drop, get_or, set, Option, Some, None, option_map, refl, sym, ap, ◌∙◌, subst, append_assoc}
use Rattle.std.proofs.lemmas.Bool.{eq-eqb}
use Rattle.std.proofs.lemmas.List.{length-set}
use Rattle.zw_base.specs.declared.property.Property.{Property}
use Rattle.zw_text.specs.declared.entry.Outcome.{Outcome}
use Rattle.zw_text.specs.declared.entry.Outcome.TheVariants as outcome
use Rattle.s0_session.specs.declared.account.Account.{Account}
use Rattle.s0_session.specs.Nonces.{account_of}
use Rattle.value_store.specs.Values.{stored_of}
use Rattle.host_node.specs.State.{NodeState, unknown}
use Rattle.host_node.specs.Steps.{after_begin}
use Rattle.host_node.specs.Events.NodeEvent.{Begins as node_begins}
use Rattle.host_keep.specs.Kept.{Kept, KeptNode, blank_node, node_of as kept_of_node, with_node as with_kept_node, beginning, is_among, confirmed_in}
use Rattle.host_keep.specs.Status.{status_byte}
use Rattle.host_keep.specs.declared.final_status.FinalStatus.{FinalStatus}
use Rattle.host_model.specs.State.{HostState, node_of, command_at, with_outcome}
use Rattle.host_model.specs.After.{node_does}
use Rattle.host_model.specs.Facts.{IsCommandOf}
use Rattle.host_model.specs.Holding.{HoldsNode, Holds, Rise, commands_of, ended_in, outcome_by, outcome_kept, as_kept, is_cancelled, is_one_cancelled}
use Rattle.host_model.proofs.Rising.{rise-right, not_below}
use Rattle.host_model.proofs.Ended.{opening, commands_of-push, last_ended-push, ended_in-push}
use Rattle.host_model.proofs.Places.{both_set, one_set}
use Rattle.host_model.proofs.NumberedRecords.{taken_with}
use Rattle.host_model.proofs.Outcomes.{Outcomes, outcome_changes, said_cancelled, cancels_stay, apart_is}
use Rattle.host_model.proofs.Confirmed.{confirmed_in-push}
use Rattle.host_model.proofs.Steps.{within_by_waiting}

begun_node : (state : NodeState) (account : Account) (node : KeptNode) (command : ℕ) (rest : List ℕ) → node.waiting ≡ command ∷ rest → HoldsNode state account node
    → HoldsNode (after_begin state) account (beginning node command)
begun_node state account node command rest first x = record {
  joined = x.joined;
  listens = x.listens;
  classes = x.classes;
  waiting = ap (λ (l : List ℕ). drop 1 l) x.waiting;
  sessions = ap (λ (l : List ℕ). l ++ get_or state.waiting 0 0 ∷ []) x.sessions
      ∙ ap (λ (c : ℕ). commands_of node.sessions ++ c ∷ []) (ap (λ (l : List ℕ). get_or l 0 0) (x.waiting ∙ first))
      ∙ sym (commands_of-push node.sessions (opening command));
  ended = ap (λ (o : Option FinalStatus). option_map status_byte o) (sym (last_ended-push node.sessions (opening command)));
  given = x.given;
  live = x.live;
  seen = x.seen;
}

-- what is kept of a command that waits
pub waits_so : (node : KeptNode) (number : ℕ) → is_among node.waiting number ≡ true → outcome_kept node number ≡ outcome.Waiting
waits_so node number e = ap (λ (b : Bool). if b then outcome.Waiting else outcome_by (ended_in node.sessions number)) e

-- and of one that does not
pub ended_so : (node : KeptNode) (number : ℕ) (ended : Option (Option FinalStatus)) → is_among node.waiting number ≡ false → ended_in node.sessions number ≡ ended → outcome_kept node number ≡ outcome_by ended
ended_so node number ended e f =
    ap (λ (b : Bool). if b then outcome.Waiting else outcome_by (ended_in node.sessions number)) e ∙ ap (λ (o : Option (Option FinalStatus)). outcome_by o) f

pub alike_so : (node other : KeptNode) (number : ℕ) → is_among node.waiting number ≡ is_among other.waiting number → ended_in node.sessions number ≡ ended_in other.sessions number
    → outcome_kept node number ≡ outcome_kept other number
alike_so node other number e f =
    ap (λ (b : Bool). if b then outcome.Waiting else outcome_by (ended_in node.sessions number)) e
    ∙ ap (λ (o : Option (Option FinalStatus)). if is_among other.waiting number then outcome.Waiting else outcome_by o) f

-- a command that is kept as not cancelled is not cancelled
pub not_cancelled : (h : HostState) (kept : Kept) (n command : ℕ) (what : Outcome) → Holds h kept → IsCommandOf h.commands n command → outcome_kept (kept_of_node kept n) command ≡ what
    → is_cancelled what ≡ false → is_one_cancelled (command_at h.commands command) ≡ false
not_cancelled h kept n command what x owned is e =
    ap is_one_cancelled owned.found ∙ sym (said_cancelled owned.command.outcome)
    ∙ ap is_cancelled (x.outcomes command owned.command owned.found ∙ ap (λ (m : ℕ). outcome_kept (kept_of_node kept m) command) owned.node ∙ is) ∙ e

module _ (h : HostState) (kept : Kept) (n command : ℕ) (rest : List ℕ) (first : (kept_of_node kept n).waiting ≡ command ∷ rest) (owned : IsCommandOf h.commands n command) (x : Holds h kept) where
  abbrev node : KeptNode
  node = kept_of_node kept n

  there : is_among node.waiting command ≡ true
  there = ap (λ (l : List ℕ). is_among l command) first ∙ ap (λ (b : Bool). b || is_among rest command) (eq-eqb command command refl)

  rises : Rise (commands_of node.sessions ++ command ∷ rest)
  rises = subst (λ (l : List ℕ). Rise (commands_of node.sessions ++ l)) first (x.order n)

  left : drop 1 node.waiting ≡ rest
  left = ap (λ (l : List ℕ). drop 1 l) first

  gone : is_among (drop 1 node.waiting) command ≡ false
  gone = ap (λ (l : List ℕ). is_among l command) left ∙ not_below command rest (rise-right (commands_of node.sessions) (command ∷ rest) rises).0

  now_so : outcome.Begun ≡ outcome_kept (beginning node command) command
  now_so = sym (ended_so (beginning node command) command (Some None) gone
      (ended_in-push node.sessions command command ∙ ap (λ (b : Bool). if b then Some None else ended_in node.sessions command) (eq-eqb command command refl)))

  pub others_so : (number : ℕ) → (number ≡ command → ⊥) → outcome_kept (beginning node command) number ≡ outcome_kept node number
  others_so number other = alike_so (beginning node command) node number
      (ap (λ (l : List ℕ). is_among l number) left ∙ ap (λ (b : Bool). b || is_among rest number) (sym (apart_is command number other)) ∙ ap (λ (l : List ℕ). is_among l number) (sym first))
      (ended_in-push node.sessions command number ∙ ap (λ (b : Bool). if b then Some None else ended_in node.sessions number) (apart_is command number other))

  pub begun_outcomes : (says : Outcome → Outcome) → says outcome.Begun ≡ outcome.Begun → Outcomes says h.commands kept.nodes → Outcomes says (with_outcome h.commands command outcome.Begun) (set kept.nodes n (beginning node command))
  begun_outcomes says so all = outcome_changes says h.commands kept.nodes n command outcome.Begun (beginning node command) owned (within_by_waiting kept.nodes n command there) (so ∙ now_so) others_so all

  order_now : Rise (commands_of (node.sessions ++ opening command ∷ []) ++ drop 1 node.waiting)
  order_now = subst (λ (l : List ℕ). Rise l)
      (sym (ap (λ (l : List ℕ). l ++ drop 1 node.waiting) (commands_of-push node.sessions (opening command)) ∙ ap (λ (l : List ℕ). (commands_of node.sessions ++ command ∷ []) ++ l) left
      ∙ append_assoc (commands_of node.sessions) (command ∷ []) rest)) rises

  pub begun : Holds (record (node_does h n node_begins) { commands = with_outcome h.commands command outcome.Begun }) (with_kept_node kept n (beginning node command))
  begun = record {
    places = (length-set kept.nodes n (beginning node command) ∙ x.places.0 ∙ sym (length-set h.nodes n (after_begin (node_of h n))), x.places.1 ∙ sym (length-set h.nodes n (after_begin (node_of h n))));
    nodes = both_set (unknown 0) blank_node (λ (s : NodeState) (k : KeptNode) (m : ℕ). HoldsNode s (account_of h.nonces m) k) h.nodes kept.nodes n (after_begin (node_of h n)) (beginning node command) x.places.0 x.nodes
        (begun_node (node_of h n) (account_of h.nonces n) node command rest first (x.nodes n));
    commands = taken_with h.commands command outcome.Begun ∙ x.commands;
    outcomes = begun_outcomes as_kept refl x.outcomes;
    cancelled = cancels_stay h.commands kept.cancelled command outcome.Begun refl (not_cancelled h kept n command outcome.Waiting x owned (waits_so node command there) refl) x.cancelled;
    order = one_set blank_node (λ (k : KeptNode) (m : ℕ). Rise (commands_of k.sessions ++ k.waiting)) kept.nodes n (beginning node command) x.order order_now;
    confirmed = one_set blank_node (λ (k : KeptNode) (m : ℕ). (p : Property) → (stored_of h.store m p).confirmed ≡ confirmed_in kept.commands k.sessions p) kept.nodes n (beginning node command) x.confirmed
        (λ p. x.confirmed n p ∙ sym (confirmed_in-push kept.commands node.sessions command p));
    properties = x.properties;
  }
