-- Commands that are found by their numbers keep their orders.
use Rattle.std.proofs.Common.{◌≡◌, ℕ, zero, suc, ◌+◌, List, [], ◌∷◌, ◌++◌, length, All, Some, inl, inr, refl, sym, ap, ◌∙◌, arith}
use Rattle.std.specs.Prelude.{slice_get}
use Rattle.std.proofs.lemmas.List.Elements.{All-cons, All-head, All-tail, All-weaker}
use Rattle.zw_text.specs.declared.entry.Outcome.{Outcome}
use Rattle.zw_base.specs.declared.order.Order.{Order}
use Rattle.host_orders.specs.Wrapping.{form_of, message_of}
use Rattle.host_orders.specs.declared.carriage.Carriage.{Carriage}
use Rattle.host_node.specs.State.{NodeState}
use Rattle.value_store.specs.Values.{Values}
use Rattle.host_model.specs.State.{Command, command_at, set_at, with_outcome}
use Rattle.host_model.specs.Sessions.{segment_count}
use Rattle.host_model.specs.Facts.{IsSound, IsCommandOf, HasSegments, OwnsCommands}

-- among the commands is one of that number, with the same order and carriage
pub record Stays (commands : List Command) (number : ℕ) (before : Command) : Type 0 where
  pub command : Command
  pub found : command_at commands number ≡ Some command
  pub order : command.order ≡ before.order
  pub carriage : command.carriage ≡ before.carriage

-- what was found is found now
abbrev pub AllStay : List Command → List Command → Type 0
AllStay old new = (number : ℕ) (command : Command) → command_at old number ≡ Some command → Stays new number command

-- ---- which changes of the commands these are

here : (commands : List Command) (k : ℕ) (command : Command) → slice_get commands k ≡ Some command → Stays commands (suc k) command
here commands k command e = record { command = command; found = e; order = refl; carriage = refl }

-- a command of another outcome
set_stays : (commands : List Command) (at : ℕ) (outcome : Outcome) (k : ℕ) (command : Command) → slice_get commands k ≡ Some command → Stays (set_at commands at outcome) (suc k) command
set_stays [] at outcome k command e = cc
set_stays (first ∷ rest) zero outcome zero command e =
    let same : first ≡ command = cc in
    record { command = record first { outcome = outcome }; found = refl; order = ap (λ (c : Command). c.order) same; carriage = ap (λ (c : Command). c.carriage) same }
set_stays (first ∷ rest) zero outcome (suc k) command e = record { command = command; found = e; order = refl; carriage = refl }
set_stays (first ∷ rest) (suc at) outcome zero command e = record { command = command; found = e; order = refl; carriage = refl }
set_stays (first ∷ rest) (suc at) outcome (suc k) command e =
    let s = set_stays rest at outcome k command e in record { command = s.command; found = s.found; order = s.order; carriage = s.carriage }

pub outcome_stays : (commands : List Command) (number : ℕ) (outcome : Outcome) → AllStay commands (with_outcome commands number outcome)
outcome_stays commands zero outcome zero command e = cc
outcome_stays commands zero outcome (suc k) command e = here commands k command e
outcome_stays commands (suc at) outcome zero command e = cc
outcome_stays commands (suc at) outcome (suc k) command e = set_stays commands at outcome k command e

pub set_sound : (store : Values) (commands : List Command) (at : ℕ) (outcome : Outcome) → All (IsSound store) commands → All (IsSound store) (set_at commands at outcome)
set_sound store [] at outcome all = all
set_sound store (first ∷ rest) zero outcome all =
    let s : IsSound store first = All-head (IsSound store) first rest all in
    All-cons (IsSound store) (record first { outcome = outcome }) rest (record { fit = s.fit; form = s.form; kept = s.kept }) (All-tail (IsSound store) first rest all)
set_sound store (first ∷ rest) (suc at) outcome all =
    All-cons (IsSound store) first (set_at rest at outcome) (All-head (IsSound store) first rest all) (set_sound store rest at outcome (All-tail (IsSound store) first rest all))

pub outcome_sound : (store : Values) (commands : List Command) (number : ℕ) (outcome : Outcome) → All (IsSound store) commands → All (IsSound store) (with_outcome commands number outcome)
outcome_sound store commands zero outcome all = all
outcome_sound store commands (suc at) outcome all = set_sound store commands at outcome all

-- one more command
pushed_stays : (commands : List Command) (one : Command) (k : ℕ) (command : Command) → slice_get commands k ≡ Some command → slice_get (commands ++ one ∷ []) k ≡ Some command
pushed_stays [] one k command e = cc
pushed_stays (first ∷ rest) one zero command e = e
pushed_stays (first ∷ rest) one (suc k) command e = pushed_stays rest one k command e

pub push_stays : (commands : List Command) (one : Command) → AllStay commands (commands ++ one ∷ [])
push_stays commands one zero command e = cc
push_stays commands one (suc k) command e = record { command = command; found = pushed_stays commands one k command e; order = refl; carriage = refl }

pub last_of : (commands : List Command) (one : Command) → slice_get (commands ++ one ∷ []) (length commands) ≡ Some one
last_of [] one = refl
last_of (first ∷ rest) one = last_of rest one

-- it has the next number
pub pushed_at : (commands : List Command) (one : Command) → command_at (commands ++ one ∷ []) (length commands + 1) ≡ Some one
pushed_at commands one = let e : length commands + 1 ≡ suc (length commands) = omega arith in ap (λ k. command_at (commands ++ one ∷ []) k) e ∙ last_of commands one

-- ---- what was a node's is its own still

pub command_of_stays : (old new : List Command) → AllStay old new → (n number : ℕ) → IsCommandOf old n number → IsCommandOf new n number
command_of_stays old new all n number one =
    let s = all number one.command one.found in record { command = s.command; found = s.found; node = ap (λ (o : Order). o.node) s.order ∙ one.node }

segments_stay : (old new : List Command) → AllStay old new → (state : NodeState) → HasSegments old state → HasSegments new state
segments_stay old new all state has =
    let s = all has.number has.command has.found in
    record {
      session = has.session;
      opened = has.opened;
      number = has.number;
      carried = has.carried;
      command = s.command;
      found = s.found;
      form = ap (λ (c : Carriage). form_of c.outer) s.carriage ∙ has.form;
      count = has.count ∙ ap (λ (o : Order). segment_count (message_of has.command.carriage o has.session)) (sym s.order)
          ∙ ap (λ (c : Carriage). segment_count (message_of c s.command.order has.session)) (sym s.carriage);
    }

pub owned_stays : (old new : List Command) → AllStay old new → (n : ℕ) (state : NodeState) → OwnsCommands old n state → OwnsCommands new n state
owned_stays old new all n state owns = record {
  waiting = All-weaker (IsCommandOf old n) (IsCommandOf new n) (command_of_stays old new all n) state.waiting owns.waiting;
  sessions = All-weaker (IsCommandOf old n) (IsCommandOf new n) (command_of_stays old new all n) state.book.commands owns.sessions;
  segments = elim owns.segments [ inl none ↦ inl none | inr has ↦ inr (segments_stay old new all state has) ];
  text = owns.text;
}
