-- A session ends.
use Rattle.std.proofs.Common.{◌≡◌, ℕ, zero, suc, ◌<◌, ◌==◌, Bool, false, if◌then◌else◌, is_some, List, [], ◌∷◌, ◌++◌, length, get_or, set, Option, Some, None, option_map, All, inl, inr, refl, sym, ap, ◌∙◌, subst}
use Rattle.std.proofs.lemmas.Bool.{cases_eq, eq-eqb}
use Rattle.std.proofs.lemmas.List.{length-set, get_or-set_same, get_or-set_other}
use Rattle.std.proofs.lemmas.List.Elements.{All-nil, All-head, All-tail}
use Rattle.std.specs.Prelude.{slice_get}
use Rattle.std.specs.FinMap as finmap
use Rattle.zw_base.specs.declared.property.Property.{Property}
use Rattle.zw_text.specs.declared.entry.Outcome.{Outcome}
use Rattle.zw_text.specs.declared.entry.Outcome.TheVariants as outcome
use Rattle.supervision.specs.Host.{told_of}
use Rattle.supervision.specs.declared.host_node.Told.{Told}
use Rattle.supervision.specs.declared.host_node.Told.TheVariants.{Final}
use Rattle.s0_session.specs.declared.account.Account.{Account}
use Rattle.s0_session.specs.Nonces.{account_of}
use Rattle.value_store.specs.declared.stored.Stored.{Stored}
use Rattle.value_store.specs.Values.{Values, IsReserved, stored_of}
use Rattle.host_orders.specs.Settings.{settings, properties_of}
use Rattle.host_node.specs.State.{NodeState, unknown}
use Rattle.host_node.specs.Steps.{after_report, after_told, with_final}
use Rattle.host_keep.specs.Kept.{Kept, KeptNode, Taken, Session, blank_node, node_of as kept_of_node, with_node as with_kept_node, finishing as ending_kept, ending, is_among, command_of, value_by, value_ended, or_else, confirmed_in}
use Rattle.host_keep.specs.Status.{status_byte}
use Rattle.host_keep.specs.declared.final_status.FinalStatus.{FinalStatus}
use Rattle.host_keep.specs.declared.final_status.FinalStatus.TheVariants as final
use Rattle.host_model.specs.State.{HostState, Command, node_of, command_at, with_outcome}
use Rattle.host_model.specs.Sessions.{settings_with}
use Rattle.host_model.specs.After.{confirming, finishing, outcome_of}
use Rattle.host_model.specs.Facts.{IsCommandOf, IsSound}
use Rattle.host_model.specs.Holding.{HoldsNode, Holds, Rise, last_ended, commands_of, ended_in, outcome_kept, as_kept, is_cancelled, taken_as}
use Rattle.host_model.proofs.Rising.{not_later}
use Rattle.host_model.proofs.Ended.{last_command, commands_of-ending, last_ended-ending, ended_in-ending, last_is_among}
use Rattle.host_model.proofs.OpenSessions.{IsGoing, ended_in-last}
use Rattle.host_model.proofs.Places.{both_set, one_set}
use Rattle.host_model.proofs.NumberedRecords.{taken_with, taken_at}
use Rattle.host_model.proofs.Outcomes.{Outcomes, outcome_changes, cancels_stay, apart_is}
use Rattle.host_model.proofs.Values.{reserved-confirming, confirmed-confirming, stored-confirming_other}
use Rattle.host_model.proofs.Once.{settings_once}
use Rattle.host_model.proofs.Confirmed.{confirmed_in-ending, last_value}
use Rattle.host_model.proofs.Steps.{within_by_sessions}
use Rattle.host_model.proofs.Begun.{ended_so, alike_so, not_cancelled}

-- ---- the value

value_now : (store : Values) (n : ℕ) (status : FinalStatus) (command : Command) (p : Property)
    → (stored_of (confirming store n (settings_with status (Some command))) n p).confirmed ≡ or_else (value_ended (Some status) (value_by (Some (taken_as command)) p)) (stored_of store n p).confirmed
value_now store n final.NoSupport command p = refl
value_now store n final.Fail command p = refl
value_now store n final.Success command p = confirmed-confirming store n (settings command.carriage.actuator command.order) p (settings_once command.carriage.actuator command.order)

pub all_kept : (store : Values) (n : ℕ) (status : FinalStatus) (command : Command) → IsSound store command → command.order.node ≡ n → All (IsReserved store n) (properties_of (settings_with status (Some command)))
all_kept store n final.NoSupport command sound same = All-nil (IsReserved store n)
all_kept store n final.Fail command sound same = All-nil (IsReserved store n)
all_kept store n final.Success command sound same = subst (λ (m : ℕ). All (IsReserved store m) (properties_of (settings command.carriage.actuator command.order))) same sound.kept

-- a command that is found is sound
same_one : (a b : Command) → Some a ≡ Some b → a ≡ b
same_one a b e = cc

got_sound : (store : Values) (commands : List Command) (k : ℕ) (command : Command) → slice_get commands k ≡ Some command → All (IsSound store) commands → IsSound store command
got_sound store [] k command e all = absurd cc
got_sound store (first ∷ rest) zero command e all = subst (λ (c : Command). IsSound store c) (same_one first command e) (All-head (IsSound store) first rest all)
got_sound store (first ∷ rest) (suc k) command e all = got_sound store rest k command e (All-tail (IsSound store) first rest all)

pub found_sound : (store : Values) (commands : List Command) (number : ℕ) (command : Command) → command_at commands number ≡ Some command → All (IsSound store) commands → IsSound store command
found_sound store commands zero command e all = absurd cc
found_sound store commands (suc k) command e all = got_sound store commands k command e all

said_status : (status : FinalStatus) → as_kept (outcome_of status) ≡ outcome_of status
said_status final.NoSupport = refl
said_status final.Fail = refl
said_status final.Success = refl

not_so : (status : FinalStatus) → is_cancelled (outcome_of status) ≡ false
not_so final.NoSupport = refl
not_so final.Fail = refl
not_so final.Success = refl

-- ---- the open session

was_last : (node : KeptNode) (command : ℕ) → IsGoing node.sessions command → ended_in node.sessions command ≡ Some None
was_last node command going =
    ap (λ (l : List Session). ended_in l command) going.is ∙ ap (λ (c : ℕ). ended_in (going.one ∷ going.more) c) (sym going.last) ∙ ended_in-last going.one going.more
    ∙ ap (λ (o : Option FinalStatus). Some o) going.going

going_not_waiting : (node : KeptNode) (command : ℕ) → Rise (commands_of node.sessions ++ node.waiting) → IsGoing node.sessions command → is_among node.waiting command ≡ false
going_not_waiting node command rises going = not_later (commands_of node.sessions) node.waiting command rises
    (ap (λ (l : List Session). is_among (commands_of l) command) going.is
    ∙ ap (λ (c : ℕ). is_among (commands_of (going.one ∷ going.more)) c) (sym going.last) ∙ last_is_among going.one going.more)

-- what is kept of its command
pub going_is_begun : (node : KeptNode) (command : ℕ) → Rise (commands_of node.sessions ++ node.waiting) → IsGoing node.sessions command → outcome_kept node command ≡ outcome.Begun
going_is_begun node command rises going = ended_so node command (Some None) (going_not_waiting node command rises going) (was_last node command going)

-- ---- the node

ended_node : (state : NodeState) (account : Account) (node : KeptNode) (status : FinalStatus) (one : Session) (more : List Session) → node.sessions ≡ one ∷ more → HoldsNode state account node
    → HoldsNode (with_final state (status_byte status)) account (ending_kept node status)
ended_node state account node status one more is x = record {
  joined = x.joined;
  listens = x.listens;
  classes = x.classes;
  waiting = x.waiting;
  sessions = x.sessions ∙ sym (commands_of-ending node.sessions status);
  ended = ap (λ (o : Option FinalStatus). option_map status_byte o) (sym (ap (λ (l : List Session). last_ended (ending l status)) is ∙ last_ended-ending one more status));
  given = x.given;
  live = x.live;
  seen = x.seen;
}

module _ (h : HostState) (kept : Kept) (n id command session : ℕ) (status : FinalStatus) (told : told_of (node_of h n).book id (status_byte status) ≡ Final session)
    (going : IsGoing (kept_of_node kept n).sessions command) (owned : IsCommandOf h.commands n command) (sound : IsSound h.store owned.command) (x : Holds h kept) where
  abbrev node : KeptNode
  node = kept_of_node kept n

  abbrev then_node : KeptNode
  then_node = ending_kept node status

  not_waiting : is_among node.waiting command ≡ false
  not_waiting = going_not_waiting node command (x.order n) going

  was_begun : outcome_kept node command ≡ outcome.Begun
  was_begun = going_is_begun node command (x.order n) going

  ends : (number : ℕ) → ended_in (ending node.sessions status) number ≡ (if command == number then Some (Some status) else ended_in node.sessions number)
  ends number =
      ap (λ (l : List Session). ended_in (ending l status) number) going.is ∙ ended_in-ending going.one going.more status number
      ∙ ap (λ (c : ℕ). if c == number then Some (Some status) else ended_in (going.one ∷ going.more) number) going.last
      ∙ ap (λ (l : List Session). if command == number then Some (Some status) else ended_in l number) (sym going.is)

  ends_so : outcome_kept then_node command ≡ outcome_of status
  ends_so = ended_so then_node command (Some (Some status)) not_waiting (ends command ∙ ap (λ (b : Bool). if b then Some (Some status) else ended_in node.sessions command) (eq-eqb command command refl))

  others_so : (number : ℕ) → (number ≡ command → ⊥) → outcome_kept then_node number ≡ outcome_kept node number
  others_so number other = alike_so then_node node number refl (ends number ∙ ap (λ (b : Bool). if b then Some (Some status) else ended_in node.sessions number) (apart_is command number other))

  within : n < length kept.nodes
  within = within_by_sessions kept.nodes n going.one going.more going.is

  pub finished_outcomes : (says : Outcome → Outcome) → says (outcome_of status) ≡ outcome_of status → Outcomes says h.commands kept.nodes → Outcomes says (with_outcome h.commands command (outcome_of status)) (set kept.nodes n then_node)
  finished_outcomes says so all = outcome_changes says h.commands kept.nodes n command (outcome_of status) then_node owned within (so ∙ sym ends_so) others_so all

  abbrev store_now : Values
  store_now = confirming h.store n (settings_with status (command_at h.commands command))

  found : command_at h.commands command ≡ Some owned.command
  found = owned.found

  taken : command_of kept.commands command ≡ Some (taken_as owned.command)
  taken = ap (λ (l : List Taken). command_of l command) (sym x.commands) ∙ taken_at h.commands command ∙ ap (λ (o : Option Command). option_map taken_as o) owned.found

  here_confirmed : (p : Property) → (stored_of store_now n p).confirmed ≡ confirmed_in kept.commands then_node.sessions p
  here_confirmed p =
      ap (λ (o : Option Command). (stored_of (confirming h.store n (settings_with status o)) n p).confirmed) owned.found
      ∙ value_now h.store n status owned.command p
      ∙ ap (λ (o : Option ℕ). or_else (value_ended (Some status) (value_by (Some (taken_as owned.command)) p)) o) (x.confirmed n p)
      ∙ ap (λ (o : Option Taken). or_else (value_ended (Some status) (value_by o p)) (confirmed_in kept.commands node.sessions p)) (sym taken)
      ∙ ap (λ (c : ℕ). or_else (last_value kept.commands status c p) (confirmed_in kept.commands node.sessions p)) (sym going.last)
      ∙ ap (λ (l : List Session). or_else (last_value kept.commands status (last_command going.one going.more) p) (confirmed_in kept.commands l p)) going.is
      ∙ sym (confirmed_in-ending kept.commands going.one going.more status p going.going)
      ∙ ap (λ (l : List Session). confirmed_in kept.commands (ending l status) p) (sym going.is)

  confirmed_now : (m : ℕ) (p : Property) → (stored_of store_now m p).confirmed ≡ confirmed_in kept.commands (get_or (set kept.nodes n then_node) m blank_node).sessions p
  confirmed_now m p = elim (cases_eq m n) [
    | inl same ↦
        subst (λ (j : ℕ). (stored_of store_now j p).confirmed ≡ confirmed_in kept.commands (get_or (set kept.nodes n then_node) j blank_node).sessions p) (sym same)
        (here_confirmed p ∙ ap (λ (k : KeptNode). confirmed_in kept.commands k.sessions p) (sym (get_or-set_same kept.nodes n then_node blank_node within)))
    | inr other ↦
        ap (λ (s : Stored). s.confirmed) (stored-confirming_other h.store n (settings_with status (command_at h.commands command)) m p other)
        ∙ x.confirmed m p ∙ ap (λ (k : KeptNode). confirmed_in kept.commands k.sessions p) (sym (get_or-set_other kept.nodes n m then_node blank_node other))
  ]

  pub reserved_now : (m : ℕ) (p : Property) → is_some (finmap.get store_now (m, p)) ≡ is_some (finmap.get h.store (m, p))
  reserved_now m p =
      ap (λ (o : Option Command). is_some (finmap.get (confirming h.store n (settings_with status o)) (m, p))) owned.found
      ∙ reserved-confirming h.store n (settings_with status (Some owned.command)) (all_kept h.store n status owned.command sound owned.node) m p

  reported : after_report (node_of h n) id (status_byte status) ≡ with_final (node_of h n) (status_byte status)
  reported = ap (λ (t : Told). after_told (node_of h n) (status_byte status) t) told

  pub finished : Holds (finishing h n id command status) (with_kept_node kept n then_node)
  finished = record {
    places = (length-set kept.nodes n then_node ∙ x.places.0 ∙ sym (length-set h.nodes n (after_report (node_of h n) id (status_byte status))), x.places.1 ∙ sym (length-set h.nodes n (after_report (node_of h n) id (status_byte status))));
    nodes = both_set (unknown 0) blank_node (λ (s : NodeState) (k : KeptNode) (m : ℕ). HoldsNode s (account_of h.nonces m) k) h.nodes kept.nodes n (after_report (node_of h n) id (status_byte status)) then_node x.places.0 x.nodes
        (subst (λ (s : NodeState). HoldsNode s (account_of h.nonces n) then_node) (sym reported) (ended_node (node_of h n) (account_of h.nonces n) node status going.one going.more going.is (x.nodes n)));
    commands = taken_with h.commands command (outcome_of status) ∙ x.commands;
    outcomes = finished_outcomes as_kept (said_status status) x.outcomes;
    cancelled = cancels_stay h.commands kept.cancelled command (outcome_of status) (not_so status) (not_cancelled h kept n command outcome.Begun x owned was_begun refl) x.cancelled;
    order = one_set blank_node (λ (k : KeptNode) (m : ℕ). Rise (commands_of k.sessions ++ k.waiting)) kept.nodes n then_node x.order
        (subst (λ (l : List ℕ). Rise (l ++ node.waiting)) (sym (commands_of-ending node.sessions status)) (x.order n));
    confirmed = confirmed_now;
    properties = λ m p there. reserved_now m p ∙ x.properties m p there;
  }
