-- What decides the answer to a line is as the transcript before it shows, after lines that were all run whole.
use Rattle.std.proofs.Common.{◌≡◌, ℕ, ◌==◌, ◌&&◌, Bool, true, false, if◌then◌else◌, inl, inr, List, [], ◌∷◌, ◌++◌, length, refl, sym, ap, subst, ◌∙◌}
use Rattle.std.specs.Prelude.{Contains, IsSome, Option, Some, None, filter, unwrap_or}
use Rattle.std.specs.List.{list_any}
use Rattle.std.specs.Set.{distinct_count}
use Rattle.std.proofs.lemmas.Bool.{eqb-true, eq-eqb}
use Rattle.std.proofs.lemmas.List.Elements.{All-contains, All-from_recursion}
use Rattle.zw_base.specs.PropertyOrder.{same_property}
use Rattle.zw_base.specs.declared.order.Order.{Order}
use Rattle.zw_base.specs.declared.property.Property.{Property}
use Rattle.device_sim.specs.State.{State}
use Rattle.host_keep.specs.Kept.{is_among}
use Rattle.host_orders.specs.Classes.{actuator_of}
use Rattle.host_orders.specs.Refusals.{Known, classes_of, refusal_of}
use Rattle.host_orders.specs.Settings.{properties_of, settings}
use Rattle.zw_text.specs.declared.entry.Entry.{Entry}
use Rattle.zw_text.specs.declared.entry.Entry.TheVariants.{Accepted}
use Rattle.zw_text.specs.declared.entry.Outcome.{Outcome}
use Rattle.zw_text.specs.declared.entry.Outcome.TheVariants as outcomes
use Rattle.zw_text.specs.Transcript.{accepted_number, accepted_numbers, outcome}
use Rattle.law_host.specs.law_transcript.Answers.{known_of, properties_kept, properties_with, refused_without}
use Rattle.law_host.specs.law_transcript.Commands.{is_waiting, waiting}
use Rattle.law_host.specs.law_transcript.Lists.{Has}
use Rattle.law_host.specs.law_transcript.Stores.{heard_value, node_at}
use Rattle.law_host.specs.law_transcript.Nodes.{device_of, host_list, is_joined, known_classes, listing_of, always}
use Rattle.law_host.proofs.Having.{all_of, has_shown, shown_has}
use Rattle.proof_air.specs.host_model.State.{HostState, Command, command_at, node_of}
use Rattle.proof_air.specs.host_model.After.{node_for, node_with}
use Rattle.proof_air.specs.host_model.Asking.{Waits, carriage_for, refusal_for}
use Rattle.proof_air.specs.host_model.Facts.{IsCommandOf}
use Rattle.proof_air.specs.host_model.May.{known_of as known_of_host}
use Rattle.proof_air.proofs.RestoredFacts.{from_among}
use Rattle.value_store.specs.Values.{count_with, stored_of}
use Rattle.proof_air.specs.proof_host.Facts.{AreShown, Facts}
use Rattle.proof_air.specs.proof_host.Laws.{accepted_for, number_for, numbers_for}
use Rattle.proof_air.specs.proof_host.Tables.{nodes_by, outcome_in, recorded}
use Rattle.proof_spoken.specs.proof_once.ByTable.{IsTable}
use Rattle.proof_spoken.specs.proof_device.GoingOn.{AreSame}
use Rattle.proof_spoken.specs.Said.{KnowsListing}
use Rattle.proof_air.specs.world_model.State.{Machine}
use Rattle.proof_air.specs.world_model.Refusals.{HasBad}
use Rattle.proof_air.specs.Hearing.{RefusesAlike}
use Rattle.proof_transcript.specs.Answering.{AnswerTies, HostTies, may_be_taken_back}
use Rattle.proof_transcript.specs.Told.{IsTold}
use Rattle.proof_transcript.proofs.KeptProperties.{same_count}
use Rattle.proof_transcript.proofs.Nodes.{device_is, filter_has, has_any, any_has}
use Rattle.proof_transcript.proofs.StoredPlaces.{KeepsNoMore}
use Rattle.proof_transcript.proofs.StoredValues.{number_among}
use Rattle.proof_spoken.proofs.BegunCommands.{accepted_here as node_here}

-- ---- lists of numbers

has_among : (l : List ℕ) (number : ℕ) → Has l number → is_among l number ≡ true
has_among l number has = has_any l number has

-- ---- commands that were accepted

-- each number of a node was accepted for it
node_among : (T : List Entry) (n number : ℕ) → Has (numbers_for n T) number → Has (accepted_for number T) n
node_among T n number has = let one = shown_has (number_for n) T number has in has_shown (node_at number) T one.by n one.among (node_here n number one.by one.shows)

number_of : (n number : ℕ) (entry : Entry) → Has (node_at number entry) n → Has (accepted_number entry) number
number_of n number (Accepted command node) has = by (command == number) refl has
  where
    by : (b : Bool) → (command == number) ≡ b → Has (if b then node ∷ [] else []) n → Has (command ∷ []) number
    by true same has = inl (eqb-true command number same)
    by false other has = absurd has
number_of n number entry has = absurd has

-- and every one was accepted
number_accepted : (T : List Entry) (n number : ℕ) → Has (accepted_for number T) n → Has (accepted_numbers T) number
number_accepted T n number has = let one = shown_has (node_at number) T n has in has_shown accepted_number T one.by number one.among (number_of n number one.by one.shows)

accepted_here : (number : ℕ) (entry : Entry) → Has (accepted_number entry) number → (n : ℕ) × Has (node_at number entry) n
accepted_here number (Accepted command node) (inl same) = (node, subst (λ (l : List ℕ). Has l node) (sym (ap (λ (b : Bool). if b then node ∷ [] else []) (eq-eqb command number same))) (inl refl))
accepted_here number (Accepted command node) (inr has) = absurd has
accepted_here number entry has = absurd has

-- an accepted number has a node
number_node : (T : List Entry) (number : ℕ) → Has (accepted_numbers T) number → (n : ℕ) × Has (accepted_for number T) n
number_node T number has =
    let one = shown_has accepted_number T number has in
    let of = accepted_here number one.by one.shows in
    (of.0, has_shown (node_at number) T one.by of.0 one.among of.1)

-- ---- devices

absent_alike : (old new : List State) (node : ℕ) → AreSame old new → refused_without (device_of node old) ≡ refused_without (device_of node new)
absent_alike [] [] node same = refl
absent_alike [] (other ∷ new) node same = absurd same
absent_alike (one ∷ old) [] node same = absurd same
absent_alike (one ∷ old) (other ∷ new) node same = by (one.node == node) refl (absent_alike old new node same.1)
  where
    by : (b : Bool) → (one.node == node) ≡ b → refused_without (device_of node old) ≡ refused_without (device_of node new)
        → refused_without (device_of node (one ∷ old)) ≡ refused_without (device_of node (other ∷ new))
    by true is rest =
        ap (λ (b : Bool). refused_without (if b then Some one else device_of node old)) is
        ∙ ap (λ (b : Bool). refused_without (if b then Some other else device_of node new)) (sym (ap (λ (n : ℕ). n == node) same.0.node ∙ is))
    by false is rest =
        ap (λ (b : Bool). refused_without (if b then Some one else device_of node old)) is
        ∙ (rest ∙ ap (λ (b : Bool). refused_without (if b then Some other else device_of node new)) (sym (ap (λ (n : ℕ). n == node) same.0.node ∙ is)))

-- ---- all that decides

waiting_recorded : (what : Outcome) → recorded what ≡ outcomes.Waiting → is_waiting what ≡ true
waiting_recorded outcomes.Waiting is = refl
waiting_recorded outcomes.Begun is = absurd cc
waiting_recorded outcomes.Unanswered is = absurd cc
waiting_recorded outcomes.Success is = absurd cc
waiting_recorded outcomes.Fail is = absurd cc
waiting_recorded outcomes.NoSupport is = absurd cc
waiting_recorded outcomes.Cancelled is = absurd cc

module _ (listing : List Entry → ℕ → List ℕ) (past : List Entry) (h : HostState) (facts : Facts past h) (tables : AreShown past h)
    (joined : (node : ℕ) → (node_of h node).joined ≡ is_joined past node) (heard : (node : ℕ) (p : Property) → (stored_of h.store node p).heard ≡ heard_value past node p)
    (knows : KnowsListing listing past h) (by_table : (node : ℕ) → IsTable listing h.commands node past) (no_more : KeepsNoMore h) where
  known_is : (node : ℕ) → known_of listing past node ≡ known_of_host (node_of h node)
  known_is node =
      let waits : length (waiting node past) ≡ length (node_of h node).waiting =
      ap (λ (l : List ℕ). length (filter (λ number. is_waiting (outcome number past)) l)) (by_table node).numbers ∙ ap (λ (l : List ℕ). length l) (sym (tables.waiting node)) in
      ap (λ (j : Bool). record { joined = j; classes = known_classes listing past node; waiting = length (waiting node past) }) (sym (joined node))
      ∙ (ap (λ (c : Option (List ℕ)). record { joined = (node_of h node).joined; classes = c; waiting = length (waiting node past) }) (sym (knows node))
      ∙ ap (λ (k : ℕ). record { joined = (node_of h node).joined; classes = (node_of h node).classes; waiting = k }) waits)

  nodes_of : (node number : ℕ) → Has (numbers_for node past) number → nodes_by (command_at h.commands number) ≡ node ∷ []
  nodes_of node number has =
      by (command_at h.commands number) (subst (λ (l : List ℕ). Has l node) (facts.accepted.nodes number) (node_among past node number has))
    where
      by : (o : Option Command) → Has (nodes_by o) node → nodes_by o ≡ node ∷ []
      by None has = absurd has
      by (Some command) (inl is) = ap (λ (n : ℕ). n ∷ []) is
      by (Some command) (inr has) = absurd has

  pub count_is : (node : ℕ) (more : List Property) → count_with h.store node more ≡ distinct_count same_property (more ++ properties_kept listing past node)
  count_is node more =
      same_count listing past h facts by_table heard no_more
      (λ number n is. number_among past n number (subst (λ (l : List ℕ). Has l n) (sym is) (inl refl)))
      (λ n. all_of (λ number. nodes_by (command_at h.commands number) ≡ n ∷ []) (numbers_for n past) (λ number has. nodes_of n number has)) node more

  order_is : (order : Order) → refusal_of (known_of listing past order.node) (properties_with listing past order) order ≡ refusal_for h order
  order_is order =
      let node = order.node in
      let classes : host_list listing past node ≡ classes_of (known_of_host (node_of h node)) = ap (λ (o : Option (List ℕ)). unwrap_or o []) (sym (knows node)) in
      ap (λ (k : Known). refusal_of k (properties_with listing past order) order) (known_is node)
      ∙ (ap (λ (l : List ℕ). refusal_of (known_of_host (node_of h node)) (distinct_count same_property (properties_of (settings (actuator_of l) order) ++ properties_kept listing past node)) order) classes
      ∙ ap (λ (n : ℕ). refusal_of (known_of_host (node_of h node)) n order) (sym (count_is node (properties_of (settings (carriage_for h order).actuator order)))))

  -- a command that waits for its node may be taken back
  waits_is : (command : ℕ) → Contains (node_of h (node_for h command)).waiting command → may_be_taken_back past command ≡ true
  waits_is command waits =
      let n = node_for h command in
      let owned = All-contains (IsCommandOf h.commands n) (node_of h n).waiting command (facts.host.owns n).waiting waits in
      let accepted_so : accepted_for command past ≡ owned.command.order.node ∷ [] = facts.accepted.nodes command ∙ ap nodes_by owned.found in
      let has = number_accepted past owned.command.order.node command (subst (λ (l : List ℕ). Has l owned.command.order.node) (sym accepted_so) (inl refl)) in
      let in_table : outcome_in h.commands command ≡ outcomes.Waiting =
      All-contains (λ k. outcome_in h.commands k ≡ outcomes.Waiting) (node_of h n).waiting command
      (All-from_recursion (λ k. outcome_in h.commands k ≡ outcomes.Waiting) (node_of h n).waiting (facts.in_order n).wait) waits in
      let waiting_now = waiting_recorded (outcome command past) (facts.entered command ∙ ap recorded in_table) in
      ap (λ (b : Bool). b && is_waiting (outcome command past)) (has_any (accepted_numbers past) command has) ∙ waiting_now

  waits_there : (command : ℕ) → Has (accepted_numbers past) command → is_waiting (outcome command past) ≡ true → Waits h command
  waits_there command has waits =
      let of = number_node past command has in
      by (command_at h.commands command) refl of.0 of.1 (subst (λ (l : List ℕ). Has l of.0) (facts.accepted.nodes command) of.1)
    where
      by : (o : Option Command) → command_at h.commands command ≡ o → (n : ℕ) → Has (accepted_for command past) n → Has (nodes_by o) n → Waits h command
      by None is n has found = absurd found
      by (Some one) is n has (inr found) = absurd found
      by (Some one) is n has (inl same_node) =
          let here : Has (node_of h n).waiting command =
          subst (λ (l : List ℕ). Has l command) (sym (tables.waiting n)) (filter_has (λ number. is_waiting (outcome number past)) (numbers_for n past) command (number_among past n command has) waits) in
          let for_it : node_for h command ≡ n = ap node_with is ∙ same_node in (
            subst (λ (o : Option Command). IsSome o) (sym is) some,
            subst (λ (k : ℕ). Contains (node_of h k).waiting command) (sym for_it) (from_among (node_of h n).waiting command (has_among (node_of h n).waiting command here)),
          )
        where
          some : IsSome (Some one)
          some = refl

  waits_not : (command : ℕ) → (Waits h command → ⊥) → may_be_taken_back past command ≡ false
  waits_not command none = by (list_any (λ number. number == command) (accepted_numbers past)) (is_waiting (outcome command past)) refl refl
    where
      by : (b w : Bool) → list_any (λ number. number == command) (accepted_numbers past) ≡ b → is_waiting (outcome command past) ≡ w → (b && w) ≡ false
      by false w is so = refl
      by true false is so = refl
      by true true is so = absurd (none (waits_there command (any_has (accepted_numbers past) command is) so))

  pub host_ties : HostTies listing past h
  host_ties = record { order = order_is; known = known_is; count = facts.accepted.count; waits = waits_is; waits_not = waits_not }

module _ (devices : List State) (past : List Entry) (m : Machine) (facts : Facts past m.host.state) (tables : AreShown past m.host.state) (told : IsTold past m)
    (knows : KnowsListing (always (listing_of devices)) past m.host.state) (by_table : (node : ℕ) → IsTable (always (listing_of devices)) m.host.state.commands node past)
    (no_more : KeepsNoMore m.host.state) (alike : RefusesAlike past m) (sound : (at : ℕ) → HasBad m.records at → ⊥) (same : AreSame devices m.outside.devices) where
  pub ties_are : AnswerTies devices past m
  ties_are = record {
    host = host_ties (always (listing_of devices)) past m.host.state facts tables told.are_joined told.heard knows by_table no_more;
    repeats = alike;
    sound = sound;
    absent = λ node. absent_alike devices m.outside.devices node same ∙ ap refused_without (sym (device_is node m.outside.devices));
  }
