-- A host that takes up a record has what is kept with it, and nothing besides.
use Rattle.std.proofs.Common.{◌≡◌, ℕ, ◌+◌, ◌==◌, ◌||◌, Bool, true, false, is_none, unwrap_or, List, [], ◌∷◌, length, drop, set, Option, Some, None, refl, sym, ap, ◌∙◌, subst}
use Rattle.std.proofs.lemmas.Bool.{eqb-true, and_parts as both_true}
use Rattle.std.proofs.lemmas.List.Elements.{All-contains}
use Rattle.zw_base.specs.declared.order.Order.{Order}
use Rattle.zw_text.specs.declared.entry.Outcome.{Outcome}
use Rattle.supervision.specs.Host.{begun_of, open_session, command_at as command_of_session}
use Rattle.supervision.specs.Session.{wire_id}
use Rattle.s0_session.specs.declared.account.Account.{Account}
use Rattle.s0_session.specs.Nonces.{account_of, restored_account}
use Rattle.value_store.specs.declared.stored.Stored.{Stored}
use Rattle.host_orders.specs.Refusals.{refusal_of}
use Rattle.host_orders.specs.Settings.{settings, properties_of}
use Rattle.host_orders.specs.Wrapping.{carriage_of}
use Rattle.host_orders.specs.declared.carriage.Carriage.{Carriage}
use Rattle.host_node.specs.State.{NodeState}
use Rattle.host_node.specs.Steps.{as_recorded, after_join, after_interview, after_restore_seen}
use Rattle.host_node.specs.Facts.{is_recorded}
use Rattle.host_node.specs.Events.{NodeEvent, after as after_node}
use Rattle.host_keep.specs.Kept.{Kept, KeptNode, Taken, Session, node_of as kept_of_node, with_node as with_kept_node, joining, interviewed, seeing, beginning, taking, cancelling, is_among, listed_by, after as kept_after}
use Rattle.host_keep.specs.Legal.{is_first}
use Rattle.host_keep.specs.declared.final_status.FinalStatus.{FinalStatus}
use Rattle.host_keep.specs.declared.record.Record.{Record}
use Rattle.host_keep.specs.declared.record.Record.TheVariants.{Accepted, Joined, Classes, Begun, Final, Cancelled, Given, Spent, Seen}
use Rattle.host_model.specs.State.{HostState, node_of, with_node, command_at}
use Rattle.host_model.specs.Sessions.{settings_with}
use Rattle.host_model.specs.After.{node_for, accepting, finishing}
use Rattle.host_model.specs.May.{known_of}
use Rattle.host_model.specs.Facts.{HostFacts, IsCommandOf, OwnsCommands}
use Rattle.host_model.specs.Restoring.{restored, may_restore, carriage_for, properties_with, ending}
use Rattle.host_model.specs.Holding.{HoldsNode, Holds, HoldsAlone, outcome_kept, taken_as}
use Rattle.host_model.proofs.OpenSessions.{going_of, told_session}
use Rattle.host_model.proofs.Outcomes.{outcomes_stay}
use Rattle.host_model.proofs.Values.{stored-reserving, heard-confirming}
use Rattle.host_model.proofs.Steps.{node_changes, account_changes, joined, interview_said, saw, account_is}
use Rattle.host_model.proofs.Begun.{begun, begun_outcomes}
use Rattle.host_model.proofs.Cancelled.{cancelled_is, cancelled_outcomes, cancelling_at, same_node}
use Rattle.host_model.proofs.Finished.{finished, finished_outcomes, reserved_now, found_sound}
use Rattle.host_model.proofs.Taken.{taken_outcomes, taken_alone, waiting_as}
use Rattle.host_model.proofs.Events.{session_owned, classes_are, listed_within, spent, accepted}
use Rattle.host_model.proofs.RestoredFacts.{from_among}
use Rattle.host_model.proofs.Pumps.{none_of}
use Rattle.host_model.proofs.Tests.{all_true, unrefused_is, first_is, session_is, open_command_is}

abbrev same : Outcome → Outcome
same what = what

-- a node and what is kept of it are other, but not its commands
module _ (h : HostState) (kept : Kept) (n : ℕ) (node : KeptNode) (waiting : node.waiting ≡ (kept_of_node kept n).waiting) (sessions : node.sessions ≡ (kept_of_node kept n).sessions) (x : HoldsAlone h kept) where
  so : (number : ℕ) → outcome_kept node number ≡ outcome_kept (kept_of_node kept n) number
  so number =
      ap (λ (l : List ℕ). outcome_kept (record node { waiting = l }) number) waiting
      ∙ ap (λ (l : List Session). outcome_kept (record node { waiting = (kept_of_node kept n).waiting; sessions = l }) number) sessions

  node_alone : (state : NodeState) → HoldsNode state (account_of h.nonces n) node → HoldsAlone (with_node h n state) (with_kept_node kept n node)
  node_alone state here = record {
    holds = node_changes h kept n node waiting sessions x.holds state here;
    outcomes = outcomes_stay same h.commands kept.nodes n node so x.outcomes;
    properties = x.properties;
    unheard = x.unheard;
  }

  account_alone : (account : Account) → HoldsNode (node_of h n) account node → HoldsAlone (record h { nonces = set h.nonces n account }) (with_kept_node kept n node)
  account_alone account here = record {
    holds = account_changes h kept n node waiting sessions x.holds account here;
    outcomes = outcomes_stay same h.commands kept.nodes n node so x.outcomes;
    properties = x.properties;
    unheard = x.unheard;
  }

module _ (others : (n : NodeState) (event : NodeEvent) → is_recorded n event ≡ false → as_recorded (after_node n event) ≡ as_recorded n) where
  accepted_alone : (h : HostState) (kept : Kept) (order : Order) (classes : List ℕ) → (node_of h order.node).classes ≡ Some classes → carriage_for h order ≡ carriage_of classes order
      → ((n : ℕ) → OwnsCommands h.commands n (node_of h n)) → HoldsAlone h kept → HoldsAlone (accepting h order (carriage_for h order)) (taking kept (length h.commands + 1) order)
  accepted_alone h kept order classes listed carried owns x =
      let carriage = carriage_for h order in
      let taken : Taken = record { order = order; carriage = carriage_of (listed_by (kept_of_node kept order.node).interview) order } in
      let said : listed_by (kept_of_node kept order.node).interview ≡ classes = classes_are (kept_of_node kept order.node).interview classes (sym (x.holds.nodes order.node).classes ∙ listed) in
      let is : taken ≡ taken_as (waiting_as order carriage)
      = ap (λ (c : Carriage). record { order = order; carriage = c }) (ap (λ (l : List ℕ). carriage_of l order) said ∙ sym carried) in
      let within = listed_within h kept order.node classes x.holds listed in
      record {
        holds = accepted others h kept order carriage classes listed carried owns x.holds;
        outcomes = taken_outcomes h kept order carriage taken is within owns x.holds same refl x.outcomes;
        properties = taken_alone h kept order carriage taken is within owns x.holds x.properties;
        unheard = λ n p. ap (λ (s : Stored). s.heard) (stored-reserving h.store order.node (properties_of (settings carriage.actuator order)) n p) ∙ x.unheard n p;
      }

  begun_alone : (h : HostState) (kept : Kept) (n session command : ℕ) → is_first (node_of h n).waiting command ≡ true → HostFacts h → HoldsAlone h kept → HoldsAlone (restored h (Begun n session command)) (with_kept_node kept n (beginning (kept_of_node kept n) command))
  begun_alone h kept n session command first f x =
      let waiting = first_is (node_of h n).waiting command first in
      let is = sym (x.holds.nodes n).waiting ∙ waiting in
      let owned = All-contains (IsCommandOf h.commands n) (node_of h n).waiting command (f.owns n).waiting (from_among (node_of h n).waiting command (first_among (node_of h n).waiting first)) in
      record {
        holds = begun h kept n command (drop 1 (node_of h n).waiting) is owned x.holds;
        outcomes = begun_outcomes h kept n command (drop 1 (node_of h n).waiting) is owned x.holds same refl x.outcomes;
        properties = x.properties;
        unheard = x.unheard;
      }
    where
      first_among : (l : List ℕ) → is_first l command ≡ true → is_among l command ≡ true
      first_among [] e = cc
      first_among (one ∷ rest) e = ap (λ (b : Bool). b || is_among rest command) e

  cancelled_alone : (h : HostState) (kept : Kept) (command : ℕ) → is_among (node_of h (node_for h command)).waiting command ≡ true → HostFacts h → HoldsAlone h kept → HoldsAlone (restored h (Cancelled command)) (cancelling kept command)
  cancelled_alone h kept command waits f x =
      let n = node_for h command in
      let there = ap (λ (l : List ℕ). is_among l command) (sym (x.holds.nodes n).waiting) ∙ waits in
      let owned = All-contains (IsCommandOf h.commands n) (node_of h n).waiting command (f.owns n).waiting (from_among (node_of h n).waiting command waits) in
      subst (λ (m : ℕ). HoldsAlone (restored h (Cancelled command)) (cancelling_at kept m command)) (sym (same_node h kept command x.holds))
      (record {
        holds = subst (λ (m : ℕ). Holds (restored h (Cancelled command)) (cancelling_at kept m command)) (same_node h kept command x.holds) (cancelled_is h kept command there owned x.holds);
        outcomes = cancelled_outcomes h kept n command there owned x.holds same refl x.outcomes;
        properties = x.properties;
        unheard = x.unheard;
      })

  ended_alone : (h : HostState) (kept : Kept) (n session : ℕ) (status : FinalStatus) (command : ℕ) → open_session (node_of h n).book ≡ Some session → command_of_session (node_of h n).book.commands session ≡ Some command
      → HostFacts h → HoldsAlone h kept → HoldsAlone (finishing h n (wire_id session) command status) (kept_after kept (Final n session status))
  ended_alone h kept n session status command opened carried f x =
      let y = x.holds.nodes n in
      let told = told_session (node_of h n).book session status opened in
      let going = going_of (node_of h n).book (kept_of_node kept n).sessions session command y.sessions y.ended opened carried in
      let owned = session_owned h n session command (f.owns n) carried in
      let sound = found_sound h.store h.commands command owned.command owned.found f.commands in
      record {
        holds = finished h kept n (wire_id session) command session status told going.0 owned sound x.holds;
        outcomes = finished_outcomes h kept n (wire_id session) command session status told going.0 owned sound x.holds same refl x.outcomes;
        properties = λ m p there. x.properties m p (sym (reserved_now h kept n (wire_id session) command session status told going.0 owned sound x.holds m p) ∙ there);
        unheard = λ m p. heard-confirming h.store n (settings_with status (command_at h.commands command)) m p ∙ x.unheard m p;
      }

  pub restored_alone : (h : HostState) (kept : Kept) (one : Record) → HostFacts h → may_restore h one ≡ true → HoldsAlone h kept → HoldsAlone (restored h one) (kept_after kept one)
  restored_alone h kept (Accepted command order) f e x =
      let both = both_true (command == length h.commands + 1) (is_none (refusal_of (known_of (node_of h order.node)) (properties_with h order) order)) e in
      let u = unrefused_is (known_of (node_of h order.node)) (properties_with h order) order (none_of (refusal_of (known_of (node_of h order.node)) (properties_with h order) order) both.1) in
      subst (λ (number : ℕ). HoldsAlone (accepting h order (carriage_for h order)) (taking kept number order)) (sym (eqb-true command (length h.commands + 1) both.0))
      (accepted_alone h kept order u.classes u.listed (ap (λ (o : Option (List ℕ)). carriage_of (unwrap_or o []) order) u.listed) f.owns x)
  restored_alone h kept (Joined n) f e x =
      node_alone h kept n (joining (kept_of_node kept n)) refl refl x (after_join (node_of h n)) (joined (node_of h n) (account_of h.nonces n) (kept_of_node kept n) (x.holds.nodes n))
  restored_alone h kept (Classes n listens classes) f e x =
      node_alone h kept n (interviewed (kept_of_node kept n) listens classes) refl refl x (after_interview (node_of h n) listens classes)
      (interview_said (node_of h n) (account_of h.nonces n) (kept_of_node kept n) listens classes (x.holds.nodes n))
  restored_alone h kept (Begun n session command) f e x =
      let all = all_true (session == begun_of (node_of h n).book + 1) (is_none (open_session (node_of h n).book)) (is_first (node_of h n).waiting command) e in
      begun_alone h kept n session command all.2 f x
  restored_alone h kept (Final n session status) f e x =
      let opened = session_is (open_session (node_of h n).book) session e in
      let there = open_command_is (node_of h n).book session opened in
      subst (λ (o : Option ℕ). HoldsAlone (ending h n session status o) (kept_after kept (Final n session status))) (sym there.1) (ended_alone h kept n session status there.0 opened there.1 f x)
  restored_alone h kept (Cancelled command) f e x = cancelled_alone h kept command e f x
  restored_alone h kept (Given n given nonce) f e x =
      account_alone h kept n (record (kept_of_node kept n) { given = given; live = Some nonce }) refl refl x (restored_account given (Some nonce))
      (account_is (node_of h n) (account_of h.nonces n) (restored_account given (Some nonce)) (kept_of_node kept n) given (Some nonce) refl refl (x.holds.nodes n))
  restored_alone h kept (Spent n) f e x =
      record { holds = spent h kept n x.holds; outcomes = outcomes_stay same h.commands kept.nodes n (record (kept_of_node kept n) { live = None }) (λ number. refl) x.outcomes; properties = x.properties; unheard = x.unheard }
  restored_alone h kept (Seen n seen) f e x =
      node_alone h kept n (seeing (kept_of_node kept n) seen) refl refl x (after_restore_seen (node_of h n) seen)
      (saw (node_of h n) (after_restore_seen (node_of h n) seen) (account_of h.nonces n) (kept_of_node kept n) seen refl (x.holds.nodes n))
