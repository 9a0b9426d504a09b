-- A host that takes up a record keeps its facts.
use Rattle.std.proofs.Common.{◌≡◌, ℕ, suc, ◌+◌, ◌<◌, ◌==◌, ◌||◌, Bool, true, false, not, is_none, unwrap_or, List, [], ◌∷◌, length, drop, get_or, Option, Some, None, option_map, ◌⊎◌, inl, inr, refl, sym, ap, ◌∙◌, subst, arith}
use Rattle.std.specs.Prelude.{Contains}
use Rattle.std.proofs.lemmas.Bool.{cases_eq, eqb-true, eq-eqb, not-true as not_so, and_parts as both_true}
use Rattle.std.proofs.lemmas.List.{length-set}
use Rattle.std.proofs.lemmas.List.Elements.{All-push, All-drop, All-weaker, All-get_or}
use Rattle.zw_base.specs.declared.order.Order.{Order}
use Rattle.zw_text.specs.declared.entry.Outcome.{Outcome}
use Rattle.zw_text.specs.declared.entry.Outcome.TheVariants as outcome
use Rattle.supervision.specs.Host.{open_session, begun_of}
use Rattle.supervision.specs.Session.{wire_id}
use Rattle.host_orders.specs.Refusals.{refusal_of}
use Rattle.host_orders.specs.Wrapping.{carriage_of, form_of, message_of}
use Rattle.host_orders.specs.declared.carriage.Carriage.{Carriage}
use Rattle.host_node.specs.State.{NodeState, unknown}
use Rattle.host_node.specs.Events.{NodeEvent, after as after_node, May as node_may}
use Rattle.host_node.specs.Events.NodeEvent.{Begins as node_begins, Interviews as node_interviews, Restores_seen as node_restores_seen}
use Rattle.host_node.specs.TableState.{node_of as node_among, nodes_after}
use Rattle.host_node.specs.TableFacts.{NodesFacts}
use Rattle.host_keep.specs.Kept.{is_among}
use Rattle.host_keep.specs.Legal.{is_first}
use Rattle.host_keep.specs.declared.record.Record.{Record}
use Rattle.host_keep.specs.declared.record.Record.TheVariants.{Accepted, Joined, Classes, Begun, Final, Cancelled, Given, Spent, Seen}
use Rattle.host_model.specs.State.{HostState, Command, node_of, command_at, with_outcome}
use Rattle.host_model.specs.Sessions.{segment_count}
use Rattle.host_model.specs.After.{after, node_does, node_for}
use Rattle.host_model.specs.Events.{HostEvent, Accepts, Cancels, Joins, Finishes, Spends}
use Rattle.host_model.specs.May.{May, known_of}
use Rattle.host_model.specs.Facts.{HostFacts, IsCommandOf, HasSegments, OwnsCommands}
use Rattle.host_model.proofs.Numbered.{outcome_sound}
use Rattle.host_model.proofs.Owning.{none_left}
use Rattle.host_model.specs.Restoring.{restored, may_restore, carriage_for, properties_with, ending}
use Rattle.host_model.proofs.OpenSessions.{told_session}
use Rattle.host_model.proofs.Places.{one_set}
use Rattle.host_model.proofs.NumberedRecords.{changed, with_same, with_other}
use Rattle.host_model.proofs.Pumps.{none_of}
use Rattle.host_model.proofs.Tests.{all_true, unrefused_is, first_is, session_is, open_command_is}

-- ---- one command has another outcome

-- among the commands is one of that number, with the same order and carriage
record Stays (commands : List Command) (number : ℕ) (before : Command) : Type 0 where
  command : Command
  found : command_at commands number ≡ Some command
  order : command.order ≡ before.order
  carriage : command.carriage ≡ before.carriage

stays : (commands : List Command) (which : ℕ) (what : Outcome) (number : ℕ) (command : Command) → command_at commands number ≡ Some command → Stays (with_outcome commands which what) number command
stays commands which what number command found = elim (cases_eq number which) [
  | inl same ↦ record {
    command = changed what command;
    found = ap (λ (k : ℕ). command_at (with_outcome commands which what) k) same ∙ with_same commands which what
        ∙ ap (λ (o : Option Command). option_map (changed what) o) (ap (λ (k : ℕ). command_at commands k) (sym same) ∙ found);
    order = refl;
    carriage = refl;
  }
  | inr other ↦ record { command = command; found = with_other commands which number what other ∙ found; order = refl; carriage = refl }
]

owned_still : (commands : List Command) (which : ℕ) (what : Outcome) (n number : ℕ) → IsCommandOf commands n number → IsCommandOf (with_outcome commands which what) n number
owned_still commands which what n number one =
    let s = stays commands which what number one.command one.found in record { command = s.command; found = s.found; node = ap (λ (o : Order). o.node) s.order ∙ one.node }

segments_still : (commands : List Command) (which : ℕ) (what : Outcome) (state : NodeState) → HasSegments commands state → HasSegments (with_outcome commands which what) state
segments_still commands which what state has =
    let s = stays commands which what has.number has.command has.found in
    record {
      session = has.session;
      opened = has.opened;
      number = has.number;
      carried = has.carried;
      command = s.command;
      found = s.found;
      form = ap (λ (c : Carriage). form_of c.outer) s.carriage ∙ has.form;
      count = has.count ∙ ap (λ (o : Order). segment_count (message_of has.command.carriage o has.session)) (sym s.order)
          ∙ ap (λ (c : Carriage). segment_count (message_of c s.command.order has.session)) (sym s.carriage);
    }

owns_still : (commands : List Command) (which : ℕ) (what : Outcome) (n : ℕ) (state : NodeState) → OwnsCommands commands n state → OwnsCommands (with_outcome commands which what) n state
owns_still commands which what n state owns = record {
  waiting = All-weaker (IsCommandOf commands n) (IsCommandOf (with_outcome commands which what) n) (owned_still commands which what n) state.waiting owns.waiting;
  sessions = All-weaker (IsCommandOf commands n) (IsCommandOf (with_outcome commands which what) n) (owned_still commands which what n) state.book.commands owns.sessions;
  segments = elim owns.segments [ inl none ↦ inl none | inr has ↦ inr (segments_still commands which what state has) ];
  text = owns.text;
}

-- ---- nodes

same_owns : (commands : List Command) (m : ℕ) (state : NodeState) (listens : Bool) (classes : Option (List ℕ)) (seen : ℕ) → OwnsCommands commands m state
    → OwnsCommands commands m (record state { listens = listens; classes = classes; seen = seen })
same_owns commands m state listens classes seen o = record {
  waiting = o.waiting;
  sessions = o.sessions;
  segments = elim o.segments [
    | inl none ↦ inl none
    | inr has ↦ inr (record { session = has.session; opened = has.opened; number = has.number; carried = has.carried; command = has.command; found = has.found; form = has.form; count = has.count })
  ];
  text = o.text;
}

begun_owns : (commands : List Command) (n : ℕ) (state : NodeState) → 0 < length state.waiting → open_session state.book ≡ None → OwnsCommands commands n state → OwnsCommands commands n (after_node state node_begins)
begun_owns commands n state some closed o = record {
  waiting = All-drop (IsCommandOf commands n) 1 state.waiting o.waiting;
  sessions = All-push (IsCommandOf commands n) state.book.commands (get_or state.waiting 0 0) o.sessions (All-get_or (IsCommandOf commands n) state.waiting 0 0 some o.waiting);
  segments = inl (none_left commands state closed o.segments);
  text = o.text;
}

pub from_among : (l : List ℕ) (number : ℕ) → is_among l number ≡ true → Contains l number
from_among [] number e = cc
from_among (first ∷ rest) number e = by (first == number) refl e (from_among rest number)
  where
    by : (b : Bool) → (first == number) ≡ b → (b || is_among rest number) ≡ true → (is_among rest number ≡ true → Contains rest number) → Contains (first ∷ rest) number
    by true f g later = (0, omega arith, eqb-true first number f)
    by false f g later = let c = later g in (suc c.0, omega (arith, c.1), c.2)

length-first : (l : List ℕ) (command : ℕ) → l ≡ command ∷ drop 1 l → 0 < length l
length-first l command e = omega (arith, ap (λ (k : List ℕ). length k) e)

module _ (each : (h : HostState) (event : HostEvent) → HostFacts h → May h event → HostFacts (after h event))
    (law : (nodes : List NodeState) (node : ℕ) (event : NodeEvent) → node_may (node_among nodes node) event → NodesFacts nodes → NodesFacts (nodes_after nodes node event)) where
  node_restored : (h : HostState) (n : ℕ) (event : NodeEvent) → node_may (node_of h n) event → OwnsCommands h.commands n (after_node (node_of h n) event) → HostFacts h → HostFacts (node_does h n event)
  node_restored h n event may owns f = record {
    nodes = law h.nodes n event may f.nodes;
    commands = f.commands;
    owns = one_set (unknown 0) (λ (s : NodeState) (m : ℕ). OwnsCommands h.commands m s) h.nodes n (after_node (node_of h n) event) f.owns owns;
    nonces = f.nonces;
    served = f.served;
  }

  begun_facts : (h : HostState) (n session command : ℕ) → is_first (node_of h n).waiting command ≡ true → open_session (node_of h n).book ≡ None → HostFacts h → HostFacts (restored h (Begun n session command))
  begun_facts h n session command first closed f =
      let some = length-first (node_of h n).waiting command (first_is (node_of h n).waiting command first) in
      let g = node_restored h n node_begins (some, closed) (begun_owns h.commands n (node_of h n) some closed (f.owns n)) f in
      record {
        nodes = g.nodes;
        commands = outcome_sound h.store h.commands command outcome.Begun g.commands;
        owns = λ m. owns_still h.commands command outcome.Begun m (node_of (node_does h n node_begins) m) (g.owns m);
        nonces = g.nonces;
        served = g.served;
      }

  pub restored_facts : (h : HostState) (one : Record) → HostFacts h → may_restore h one ≡ true → HostFacts (restored h one)
  restored_facts h (Accepted command order) f e =
      let both = both_true (command == length h.commands + 1) (is_none (refusal_of (known_of (node_of h order.node)) (properties_with h order) order)) e in
      let u = unrefused_is (known_of (node_of h order.node)) (properties_with h order) order (none_of (refusal_of (known_of (node_of h order.node)) (properties_with h order) order) both.1) in
      each h (Accepts order (carriage_for h order)) f (record {
        unrefused = u.unrefused;
        classes = u.classes;
        listed = u.listed;
        carried = ap (λ (o : Option (List ℕ)). carriage_of (unwrap_or o []) order) u.listed;
        few = u.few;
      })
  restored_facts h (Joined n) f e =
      let both = both_true (not (node_of h n).joined) (not (n == 1)) e in
      each h (Joins n) f (not_so (node_of h n).joined both.0, apart (not_so (n == 1) both.1))
    where
      apart : (n == 1) ≡ false → n ≡ 1 → ⊥
      apart not_one same = let one = eq-eqb n 1 same in cc
  restored_facts h (Classes n listens classes) f e =
      node_restored h n (node_interviews listens classes) tt (same_owns h.commands n (node_of h n) listens (Some classes) (node_of h n).seen (f.owns n)) f
  restored_facts h (Begun n session command) f e =
      let all = all_true (session == begun_of (node_of h n).book + 1) (is_none (open_session (node_of h n).book)) (is_first (node_of h n).waiting command) e in
      begun_facts h n session command all.2 (none_of (open_session (node_of h n).book) all.1) f
  restored_facts h (Final n session status) f e =
      let opened = session_is (open_session (node_of h n).book) session e in
      let there = open_command_is (node_of h n).book session opened in
      subst (λ (o : Option ℕ). HostFacts (ending h n session status o)) (sym there.1)
      (each h (Finishes n session (wire_id session) there.0 status false) f (record { told = told_session (node_of h n).book session status opened; carried = there.1 }))
  restored_facts h (Cancelled command) f e = each h (Cancels command) f (from_among (node_of h (node_for h command)).waiting command e)
  restored_facts h (Given n given nonce) f e = record { nodes = f.nodes; commands = f.commands; owns = f.owns; nonces = length-set h.nonces n _ ∙ f.nonces; served = f.served }
  restored_facts h (Spent n) f e = each h (Spends n) f e
  restored_facts h (Seen n seen) f e =
      node_restored h n (node_restores_seen seen) tt (same_owns h.commands n (node_of h n) (node_of h n).listens (node_of h n).classes seen (f.owns n)) f
