-- How many properties of a node a host would keep with those of an order is what the transcript shows.
use Rattle.std.proofs.Common.{◌≡◌, ◌⊎◌, ℕ, zero, suc, ◌==◌, ◌||◌, Bool, true, false, if◌then◌else◌, is_some, unwrap_or, inl, inr, List, [], ◌∷◌, ◌++◌, All, Option, Some, None, refl, sym, ap, subst, ◌∙◌}
use Rattle.std.specs.Prelude.{IsTrue}
use Rattle.std.specs.List.{AllByRecursion, flat_map}
use Rattle.std.specs.Set.{distinct_count}
use Rattle.std.specs.FinMap as finmap
use Rattle.std.proofs.lemmas.Bool.{eqb-true, or_right as or_later, or_cases as either_of, or_left as or_sooner}
use Rattle.std.proofs.lemmas.List.Elements.{All-head, All-tail}
use Rattle.zw_base.specs.PropertyOrder.{same_property}
use Rattle.zw_base.specs.declared.order.Order.{Order}
use Rattle.zw_base.specs.declared.property.Property.{Property}
use Rattle.zw_base.specs.declared.property.Setting.{Setting}
use Rattle.zw_text.specs.declared.entry.Entry.{Entry}
use Rattle.zw_text.specs.Transcript.{accepted, reported}
use Rattle.law_host.specs.law_transcript.Answers.{properties_kept}
use Rattle.law_host.specs.law_transcript.Commands.{numbers_of, settings_for}
use Rattle.law_host.specs.law_transcript.Lists.{Has}
use Rattle.law_host.specs.law_transcript.Restarts.{since_restart}
use Rattle.law_host.specs.law_transcript.Stores.{heard_value, last_value}
use Rattle.value_store.specs.declared.stored.Stored.{Stored}
use Rattle.value_store.specs.Values.{Values, IsReserved, count_with, is_among, no_value, properties_of as stored_properties, stored_of}
use Rattle.value_store.proofs.Keys.{same_property_laws}
use Rattle.host_keep.specs.Kept.{Taken, properties_for}
use Rattle.host_orders.specs.Settings.{properties_of, settings}
use Rattle.proof_air.specs.host_model.State.{HostState, Command, command_at}
use Rattle.proof_air.specs.host_model.Facts.{IsSound}
use Rattle.proof_air.proofs.host_model_Values.{one_property}
use Rattle.proof_air.specs.proof_host.Facts.{Facts}
use Rattle.proof_air.specs.proof_host.Laws.{accepted_for, numbers_for}
use Rattle.proof_air.specs.proof_host.Tables.{nodes_by, taken_at, taken_by}
use Rattle.proof_spoken.specs.proof_once.ByTable.{IsTable}
use Rattle.proof_spoken.specs.proof_once.Tied.{settings_taken}
use Rattle.proof_transcript.proofs.StoredPlaces.{IsSet, KeepsNoMore, append_among}
use Rattle.supervision.proofs.OnceLemmas.{All-slice_get as at_place}
use Rattle.proof_air.proofs.Counts.{count-alike as alike}
use Rattle.proof_air.proofs.Legal.{among-stored as among_stored}

-- ---- counting

-- ---- the store

-- a value that was heard has a place
heard_reserved : (o : Option Stored) → is_some (unwrap_or o no_value).heard ≡ true → is_some o ≡ true
heard_reserved None is = absurd (let none : false ≡ true = is in cc)
heard_reserved (Some stored) is = refl

-- ---- what was reported

value_there : (before : Option ℕ) (l : List Setting) (p : Property) → is_some (last_value before l p) ≡ (is_some before || is_among (properties_of l) p)
value_there None [] p = refl
value_there (Some value) [] p = refl
value_there before (s ∷ l) p = by (same_property s.property p) (same_property p s.property) refl refl (value_there (Some s.value) l p) (value_there before l p)
  where
    turned : same_property s.property p ≡ same_property p s.property
    turned = same_property_laws.symm s.property p

    or_true : (a : Bool) → true ≡ (a || true)
    or_true true = refl
    or_true false = refl

    by : (b c : Bool) → same_property s.property p ≡ b → same_property p s.property ≡ c → is_some (last_value (Some s.value) l p) ≡ (true || is_among (properties_of l) p)
        → is_some (last_value before l p) ≡ (is_some before || is_among (properties_of l) p)
        → is_some (last_value (if b then Some s.value else before) l p) ≡ (is_some before || (c || is_among (properties_of l) p))
    by true true e f now rest = now ∙ or_true (is_some before)
    by false false e f now rest = rest
    by true false e f now rest = absurd (let differ : true ≡ false = sym e ∙ (turned ∙ f) in cc)
    by false true e f now rest = absurd (let differ : false ≡ true = sym e ∙ (turned ∙ f) in cc)

-- ---- both sides of the tie

-- what is among the properties of one of these numbers is among those of all
among_each : (of : ℕ → List Property) (numbers : List ℕ) (number : ℕ) (p : Property) → Has numbers number → is_among (of number) p ≡ true → is_among (flat_map of numbers) p ≡ true
among_each of [] number p has among = absurd has
among_each of (first ∷ numbers) number p (inl same) among =
    append_among (of first) (flat_map of numbers) p ∙ or_sooner (is_among (of first) p) _ (ap (λ (n : ℕ). is_among (of n) p) same ∙ among)
among_each of (first ∷ numbers) number p (inr has) among =
    append_among (of first) (flat_map of numbers) p ∙ or_later (is_among (of first) p) _ (among_each of numbers number p has among)

-- and the other way round
among_one : (of : ℕ → List Property) (P : ℕ → Type 0) (numbers : List ℕ) (p : Property) → AllByRecursion P numbers → is_among (flat_map of numbers) p ≡ true
    → (number : ℕ) × P number × (is_among (of number) p ≡ true)
among_one of P [] p all among = absurd (let none : false ≡ true = among in cc)
among_one of P (first ∷ numbers) p all among =
    by (either_of (is_among (of first) p) (is_among (flat_map of numbers) p) (sym (append_among (of first) (flat_map of numbers) p) ∙ among)) (among_one of P numbers p all.1)
  where
    by : (is_among (of first) p ≡ true) ⊎ (is_among (flat_map of numbers) p ≡ true) → (is_among (flat_map of numbers) p ≡ true → (number : ℕ) × P number × (is_among (of number) p ≡ true))
        → (number : ℕ) × P number × (is_among (of number) p ≡ true)
    by (inl here) rest = (first, all.0, here)
    by (inr there) rest = rest there

-- one of these is it
all_among : (P : Property → Type 0) (l : List Property) (p : Property) → All P l → is_among l p ≡ true → P p
all_among P [] p all among = absurd (let none : false ≡ true = among in cc)
all_among P (first ∷ l) p all among = by (either_of (same_property p first) (is_among l p) among) (all_among P l p (All-tail P first l all))
  where
    by : (same_property p first ≡ true) ⊎ (is_among l p ≡ true) → (is_among l p ≡ true → P p) → P p
    by (inl same) rest = subst P (sym (one_property p first same)) (All-head P first l all)
    by (inr there) rest = rest there

-- settings that were taken, of a command that is there
taken_sets : (commands : List Command) (number : ℕ) (store : Values) (p : Property) → All (IsSound store) commands → is_among (properties_of (settings_taken (taken_at commands number))) p ≡ true
    → (command : Command) × (command_at commands number ≡ Some command) × IsReserved store command.order.node p
taken_sets commands number store p all among = by (command_at commands number) refl
  where
    place : (number : ℕ) (command : Command) → command_at commands number ≡ Some command → IsSound store command
    place zero command is = absurd (let none : None ≡ Some command = is in cc)
    place (suc k) command is = at_place (IsSound store) commands k command all is

    by : (o : Option Command) → command_at commands number ≡ o → (command : Command) × (command_at commands number ≡ Some command) × IsReserved store command.order.node p
    by None is = absurd (let none : false ≡ true = sym (ap (λ (c : Option Command). is_among (properties_of (settings_taken (taken_by c))) p) is) ∙ among in cc)
    by (Some command) is = (
      command,
      is,
      all_among (IsReserved store command.order.node) (properties_of (settings command.carriage.actuator command.order)) p (place number command is).kept
          (sym (ap (λ (c : Option Command). is_among (properties_of (settings_taken (taken_by c))) p) is) ∙ among),
    )

-- a command that was taken for a node was accepted for it
taken_node : (commands : List Command) (number node : ℕ) (taken : Taken) → taken_at commands number ≡ Some taken → taken.order.node ≡ node → nodes_by (command_at commands number) ≡ node ∷ []
taken_node commands number node taken at same = by (command_at commands number) at
  where
    by : (o : Option Command) → taken_by o ≡ Some taken → nodes_by o ≡ node ∷ []
    by None is = absurd (let none : None ≡ Some taken = is in cc)
    by (Some command) is = let order : command.order ≡ taken.order = cc in ap (λ (n : ℕ). n ∷ []) (ap (λ (o : Order). o.node) order ∙ same)

-- the node of properties that an order sets
own_node : (n : ℕ) (taken : Taken) (p : Property) → is_among (properties_for n taken) p ≡ true → (taken.order.node ≡ n) × (is_among (properties_of (settings taken.carriage.actuator taken.order)) p ≡ true)
own_node n taken p among = by (taken.order.node == n) refl among
  where
    by : (b : Bool) → (taken.order.node == n) ≡ b → is_among (if b then properties_of (settings taken.carriage.actuator taken.order) else []) p ≡ true
        → (taken.order.node ≡ n) × (is_among (properties_of (settings taken.carriage.actuator taken.order)) p ≡ true)
    by true same among = (eqb-true taken.order.node n same, among)
    by false other among = absurd (let none : false ≡ true = among in cc)

-- what holds of some holds of one that is there
of_one : (P : ℕ → Type 0) (numbers : List ℕ) (number : ℕ) → AllByRecursion P numbers → Has numbers number → P number
of_one P [] number all has = absurd has
of_one P (first ∷ numbers) number all (inl same) = subst P same all.0
of_one P (first ∷ numbers) number all (inr has) = of_one P numbers number all.1 has

module _ (listing : List Entry → ℕ → List ℕ) (past : List Entry) (h : HostState) (facts : Facts past h) (table : (node : ℕ) → IsTable listing h.commands node past)
    (heard : (node : ℕ) (p : Property) → (stored_of h.store node p).heard ≡ heard_value past node p) (no_more : KeepsNoMore h)
    (numbered : (number node : ℕ) → accepted_for number past ≡ node ∷ [] → Has (numbers_for node past) number)
    (of_node : (node : ℕ) → AllByRecursion (λ number. nodes_by (command_at h.commands number) ≡ node ∷ []) (numbers_for node past)) where
  module _ (node : ℕ) where
    abbrev set_by : ℕ → List Property
    set_by number = properties_of (settings_for listing past node number)

    abbrev ordered : List Property
    ordered = flat_map set_by (numbers_of (accepted node past))

    abbrev told : List Property
    told = properties_of (reported node (since_restart past))

    kept_is : (p : Property) → is_among (properties_kept listing past node) p ≡ (is_among ordered p || is_among told p)
    kept_is p = append_among ordered told p

    -- a place is of what the transcript shows
    shown : (p : Property) → IsReserved h.store node p → is_among (properties_kept listing past node) p ≡ true
    shown p there = kept_is p ∙ by (no_more node p there)
      where
        from_set : IsSet h.commands node p → is_among ordered p ≡ true
        from_set set =
            let own = own_node node set.taken p set.sets in
            let has : Has (numbers_for node past) set.number = numbered set.number node (facts.accepted.nodes set.number ∙ taken_node h.commands set.number node set.taken set.at own.0) in
            let same = of_one (λ number. settings_for listing past node number ≡ settings_taken (taken_at h.commands number)) (numbers_for node past) set.number (table node).settings has in
            let among : is_among (set_by set.number) p ≡ true =
            ap (λ (l : List Setting). is_among (properties_of l) p) (same ∙ ap settings_taken set.at) ∙ own.1 in
            among_each set_by (numbers_of (accepted node past)) set.number p (subst (λ (l : List ℕ). Has l set.number) (sym (table node).numbers) has) among

        by : IsSet h.commands node p ⊎ IsTrue (is_some (stored_of h.store node p).heard) → (is_among ordered p || is_among told p) ≡ true
        by (inl set) = or_sooner (is_among ordered p) (is_among told p) (from_set set)
        by (inr is) = or_later (is_among ordered p) (is_among told p)
            (sym (value_there None (reported node (since_restart past)) p) ∙ (ap (λ (o : Option ℕ). is_some o) (sym (heard node p)) ∙ is))

    abbrev So : ℕ → Type 0
    So number = (settings_for listing past node number ≡ settings_taken (taken_at h.commands number)) × (nodes_by (command_at h.commands number) ≡ node ∷ [])

    -- and what it shows has a place
    stored : (p : Property) → is_among (properties_kept listing past node) p ≡ true → IsReserved h.store node p
    stored p among = by (either_of (is_among ordered p) (is_among told p) (sym (kept_is p) ∙ among))
      where
        from_order : is_among ordered p ≡ true → IsReserved h.store node p
        from_order is =
            let all : AllByRecursion So (numbers_of (accepted node past)) = subst (AllByRecursion So) (sym (table node).numbers) (both_hold (numbers_for node past) (table node).settings (of_node node)) in
            let one = among_one set_by So (numbers_of (accepted node past)) p all is in
            let set = taken_sets h.commands one.0 h.store p facts.host.commands (ap (λ (l : List Setting). is_among (properties_of l) p) (sym one.1.0) ∙ one.2) in
            let found : nodes_by (command_at h.commands one.0) ≡ set.0.order.node ∷ [] = ap nodes_by set.1 in
            let same : set.0.order.node ∷ [] ≡ node ∷ [] = sym found ∙ one.1.1 in
            let is_node : set.0.order.node ≡ node = cc in
            subst (λ (n : ℕ). IsReserved h.store n p) is_node set.2
          where
            both_hold : (l : List ℕ) → AllByRecursion (λ number. settings_for listing past node number ≡ settings_taken (taken_at h.commands number)) l
                → AllByRecursion (λ number. nodes_by (command_at h.commands number) ≡ node ∷ []) l → AllByRecursion So l
            both_hold [] first second = tt
            both_hold (number ∷ l) first second = ((first.0, second.0), both_hold l first.1 second.1)

        by : (is_among ordered p ≡ true) ⊎ (is_among told p ≡ true) → IsReserved h.store node p
        by (inl is) = from_order is
        by (inr is) = heard_reserved (finmap.get h.store (node, p)) (ap (λ (o : Option ℕ). is_some o) (heard node p) ∙ (value_there None (reported node (since_restart past)) p ∙ is))

    pub same_count : (more : List Property) → count_with h.store node more ≡ distinct_count same_property (more ++ properties_kept listing past node)
    same_count more =
        alike more (stored_properties h.store node) (properties_kept listing past node) (λ q there. shown q (sym (among_stored h.store node q) ∙ there)) (λ q there. among_stored h.store node q ∙ stored q there)
