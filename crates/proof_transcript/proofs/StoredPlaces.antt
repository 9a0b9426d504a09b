-- A store has places only for the properties that commands set, and for those of which a value was heard.
use Rattle.std.proofs.Common.{◌≡◌, ◌⊎◌, ℕ, zero, suc, ◌+◌, ◌&&◌, ◌||◌, Bool, true, false, cond, eqb, if◌then◌else◌, is_some, inl, inr, List, [], ◌∷◌, ◌++◌, map, length, All, Option, Some, None, refl, sym, ap, subst, ◌∙◌}
use Rattle.std.specs.Prelude.{IsTrue}
use Rattle.std.specs.List.{flat_map}
use Rattle.std.specs.FinMap as finmap
use Rattle.std.proofs.lemmas.Bool.{eqb-true, eq-eqb, or_right as or_later, or_cases as either_of, and_parts as both}
use Rattle.std.proofs.lemmas.List.Folds.{list_any-append}
use Rattle.zw_base.specs.PropertyOrder.{same_property}
use Rattle.zw_base.specs.declared.order.Order.{Order}
use Rattle.zw_base.specs.declared.property.Property.{Property}
use Rattle.zw_base.specs.declared.property.Setting.{Setting}
use Rattle.zw_text.specs.declared.entry.Outcome.TheVariants.{Waiting}
use Rattle.supervision.specs.Host.{command_at as command_of_session}
use Rattle.value_store.specs.declared.stored.Stored.{Stored}
use Rattle.value_store.specs.Values.{Values, IsReserved, is_among, stored_of}
use Rattle.host_node.specs.TableState.{node_of}
use Rattle.host_keep.specs.declared.final_status.FinalStatus.{FinalStatus}
use Rattle.host_keep.specs.declared.final_status.FinalStatus.TheVariants as final
use Rattle.host_keep.specs.Kept.{Kept, Taken, properties_for}
use Rattle.host_orders.specs.declared.carriage.Carriage.{Carriage}
use Rattle.host_orders.specs.Settings.{properties_of, settings}
use Rattle.proof_air.specs.host_model.State.{HostState, Command, command_at}
use Rattle.proof_air.specs.host_model.Sessions.{settings_with}
use Rattle.proof_air.specs.host_model.After.{after, confirming, hearing, is_held, finishing}
use Rattle.proof_air.specs.host_model.Events.{HostEvent, Accepts, Finishes, Hears_value, Interviews, Joins}
use Rattle.proof_air.specs.host_model.Facts.{HostFacts, IsCommandOf}
use Rattle.proof_air.specs.host_model.May.{May}
use Rattle.proof_air.specs.host_model.Holding.{HoldsAlone, taken_as}
use Rattle.proof_air.proofs.host_model_Values.{get-one, heard-confirming, reserved-reserving, stored-one, stored-reserving}
use Rattle.proof_air.specs.proof_host.Tables.{taken_at, taken_by}
use Rattle.proof_spoken.specs.proof_once.Tied.{KeepsOrders}
use Rattle.proof_spoken.proofs.Keeping.{Keeping, each_still}
use Rattle.proof_spoken.proofs.Orders.{push_is}
use Rattle.supervision.proofs.OnceLemmas.{All-slice_get as at_place}
use Rattle.proof_air.proofs.Effects.{held_store}

-- a command of the node sets the property
pub record IsSet (commands : List Command) (n : ℕ) (p : Property) : Type 0 where
  pub number : ℕ
  pub taken : Taken
  pub at : taken_at commands number ≡ Some taken
  pub sets : IsTrue (is_among (properties_for n taken) p)

-- each place is of such a property, or holds a value that was heard
abbrev pub KeepsNoMore : HostState → Type 0
KeepsNoMore h = (n : ℕ) (p : Property) → IsReserved h.store n p → IsSet h.commands n p ⊎ IsTrue (is_some (stored_of h.store n p).heard)

-- ---- lists

-- what holds of all holds at a place
pub of_session : (P : ℕ → Type 0) (l : List ℕ) (session command : ℕ) → All P l → command_of_session l session ≡ Some command → P command
of_session P l zero command all is = absurd (let none : None ≡ Some command = is in cc)
of_session P l (suc k) command all is = at_place P l k command all is

-- the properties of one of some orders
pub append_among : (a b : List Property) (p : Property) → is_among (a ++ b) p ≡ (is_among a p || is_among b p)
append_among a b p = list_any-append (same_property p) a b

-- the node's own settings
pub own_properties : (n : ℕ) (taken : Taken) → taken.order.node ≡ n → properties_for n taken ≡ properties_of (settings taken.carriage.actuator taken.order)
own_properties n taken same = ap (λ (b : Bool). if b then properties_of (settings taken.carriage.actuator taken.order) else []) (eq-eqb taken.order.node n same)

-- ---- places that are made

set_stays : (old new : List Command) (n : ℕ) (p : Property) → KeepsOrders old new → IsSet old n p → IsSet new n p
set_stays old new n p keeps set = record { number = set.number; taken = set.taken; at = keeps set.number set.taken set.at; sets = set.sets }

-- the store is as it was
still : (h new : HostState) → new.store ≡ h.store → KeepsOrders h.commands new.commands → KeepsNoMore h → KeepsNoMore new
still h new stored keeps no_more n p there =
    by (no_more n p (subst (λ (v : Values). IsReserved v n p) stored there))
  where
    by : IsSet h.commands n p ⊎ IsTrue (is_some (stored_of h.store n p).heard) → IsSet new.commands n p ⊎ IsTrue (is_some (stored_of new.store n p).heard)
    by (inl set) = inl (set_stays h.commands new.commands n p keeps set)
    by (inr heard) = inr (subst (λ (v : Values). IsTrue (is_some (stored_of v n p).heard)) (sym stored) heard)

-- what is stored of a property whose value is heard, or confirmed
abbrev heard_one : Values → ℕ → Setting → Stored
heard_one store m s = record (stored_of store m s.property) { heard = Some s.value }

abbrev confirmed_one : Values → ℕ → Setting → Stored
confirmed_one store m s = record (stored_of store m s.property) { confirmed = Some s.value }

-- a value is heard
heard_more : (h : HostState) (m : ℕ) (s : Setting) → KeepsNoMore h → KeepsNoMore (record h { store = hearing h.store m s })
heard_more h m s no_more n p there =
    by (eqb n m && same_property p s.property) refl
  where
    by : (b : Bool) → (eqb n m && same_property p s.property) ≡ b → IsSet h.commands n p ⊎ IsTrue (is_some (stored_of (hearing h.store m s) n p).heard)
    by true is = inr (ap (λ (v : Stored). is_some v.heard) (stored-one h.store m s.property (heard_one h.store m s) n p ∙ ap (λ (b : Bool). cond b (heard_one h.store m s) (stored_of h.store n p)) is))
    by false is =
        let there_before : IsReserved h.store n p = sym (ap (λ (o : Option Stored). is_some o) (get-one h.store m s.property (heard_one h.store m s) n p ∙ ap (λ (b : Bool). cond b (Some (heard_one h.store m s)) (finmap.get h.store (n, p))) is)) ∙ there in
        after_all (no_more n p there_before)
      where
        after_all : IsSet h.commands n p ⊎ IsTrue (is_some (stored_of h.store n p).heard) → IsSet h.commands n p ⊎ IsTrue (is_some (stored_of (hearing h.store m s) n p).heard)
        after_all (inl set) = inl set
        after_all (inr heard) =
            inr (ap (λ (v : Stored). is_some v.heard) (stored-one h.store m s.property (heard_one h.store m s) n p ∙ ap (λ (b : Bool). cond b (heard_one h.store m s) (stored_of h.store n p)) is) ∙ heard)

-- settings are confirmed
confirmed_places : (store : Values) (m : ℕ) (l : List Setting) (n : ℕ) (p : Property) → IsReserved (confirming store m l) n p
    → IsReserved store n p ⊎ ((n ≡ m) × IsTrue (is_among (properties_of l) p))
confirmed_places store m [] n p there = inl there
confirmed_places store m (s ∷ l) n p there =
    by (confirmed_places (finmap.insert store (m, s.property) (confirmed_one store m s)) m l n p there)
  where
    one : (b : Bool) → (eqb n m && same_property p s.property) ≡ b → IsReserved (finmap.insert store (m, s.property) (confirmed_one store m s)) n p
        → IsReserved store n p ⊎ ((n ≡ m) × IsTrue (is_among (properties_of (s ∷ l)) p))
    one true is there = let parts = both (eqb n m) (same_property p s.property) is in
        inr (eqb-true n m parts.0, ap (λ (t : Bool). t || is_among (properties_of l) p) parts.1)
    one false is there =
        inl (sym (ap (λ (o : Option Stored). is_some o) (get-one store m s.property (confirmed_one store m s) n p ∙ ap (λ (b : Bool). cond b (Some (confirmed_one store m s)) (finmap.get store (n, p))) is)) ∙ there)

    by : IsReserved (finmap.insert store (m, s.property) (confirmed_one store m s)) n p ⊎ ((n ≡ m) × IsTrue (is_among (properties_of l) p))
        → IsReserved store n p ⊎ ((n ≡ m) × IsTrue (is_among (properties_of (s ∷ l)) p))
    by (inl there) = one (eqb n m && same_property p s.property) refl there
    by (inr (same, among)) = inr (same, or_later (same_property p s.property) (is_among (properties_of l) p) among)

finished : (h new : HostState) (m command : ℕ) (status : FinalStatus) → new.store ≡ confirming h.store m (settings_with status (command_at h.commands command)) → KeepsOrders h.commands new.commands
    → IsCommandOf h.commands m command → KeepsNoMore h → KeepsNoMore new
finished h new m command status stored keeps owned no_more n p there =
    by (confirmed_places h.store m (settings_with status (command_at h.commands command)) n p (subst (λ (v : Values). IsReserved v n p) stored there))
  where
    here : (l : List Setting) → l ≡ settings_with status (Some owned.command) → n ≡ m → IsTrue (is_among (properties_of l) p) → IsSet new.commands n p
    here l is same among = by_status status refl
      where
        set_by : settings_with status (Some owned.command) ≡ settings owned.command.carriage.actuator owned.command.order → IsSet new.commands n p
        set_by whole = record {
          number = command;
          taken = taken_as owned.command;
          at = keeps command (taken_as owned.command) (ap taken_by owned.found);
          sets = ap (λ (ps : List Property). is_among ps p) (own_properties n (taken_as owned.command) (owned.node ∙ sym same))
              ∙ (ap (λ (ss : List Setting). is_among (properties_of ss) p) (sym (is ∙ whole)) ∙ among);
        }

        none : settings_with status (Some owned.command) ≡ [] → IsSet new.commands n p
        none empty = absurd (let no : false ≡ true = ap (λ (ss : List Setting). is_among (properties_of ss) p) (sym (is ∙ empty)) ∙ among in cc)

        by_status : (given : FinalStatus) → status ≡ given → IsSet new.commands n p
        by_status final.NoSupport same_status = none (ap (λ (st : FinalStatus). settings_with st (Some owned.command)) same_status)
        by_status final.Fail same_status = none (ap (λ (st : FinalStatus). settings_with st (Some owned.command)) same_status)
        by_status final.Success same_status = set_by (ap (λ (st : FinalStatus). settings_with st (Some owned.command)) same_status)

    by : IsReserved h.store n p ⊎ ((n ≡ m) × IsTrue (is_among (properties_of (settings_with status (command_at h.commands command))) p))
        → IsSet new.commands n p ⊎ IsTrue (is_some (stored_of new.store n p).heard)
    by (inr (same, among)) = inl (here (settings_with status (command_at h.commands command)) (ap (λ (o : Option Command). settings_with status o) owned.found) same among)
    by (inl there) = before (no_more n p there)
      where
        before : IsSet h.commands n p ⊎ IsTrue (is_some (stored_of h.store n p).heard) → IsSet new.commands n p ⊎ IsTrue (is_some (stored_of new.store n p).heard)
        before (inl set) = inl (set_stays h.commands new.commands n p keeps set)
        before (inr heard) = inr (ap (λ (v : Values). is_some (stored_of v n p).heard) stored
            ∙ (ap (λ (o : Option ℕ). is_some o) (heard-confirming h.store m (settings_with status (command_at h.commands command)) n p) ∙ heard))

-- ---- an order is accepted

abbrev set_by : Order → Carriage → List Property
set_by order carriage = properties_of (settings carriage.actuator order)

accepted : (h : HostState) (order : Order) (carriage : Carriage) → KeepsOrders h.commands (after h (Accepts order carriage)).commands → KeepsNoMore h → KeepsNoMore (after h (Accepts order carriage))
accepted h order carriage keeps no_more n p there =
    by (either_of (eqb n order.node && is_among (set_by order carriage) p) (is_some (finmap.get h.store (n, p))) (sym (reserved-reserving h.store order.node (set_by order carriage) n p) ∙ there))
  where
    here : (eqb n order.node ≡ true) × (is_among (set_by order carriage) p ≡ true) → IsSet (after h (Accepts order carriage)).commands n p
    here parts = record {
      number = length h.commands + 1;
      taken = record { order = order; carriage = carriage };
      at = push_is h.commands (record { order = order; carriage = carriage; outcome = Waiting });
      sets = ap (λ (ps : List Property). is_among ps p) (own_properties n (record { order = order; carriage = carriage }) (sym (eqb-true n order.node parts.0))) ∙ parts.1;
    }

    before : IsSet h.commands n p ⊎ IsTrue (is_some (stored_of h.store n p).heard) → IsSet (after h (Accepts order carriage)).commands n p ⊎ IsTrue (is_some (stored_of (after h (Accepts order carriage)).store n p).heard)
    before (inl one) = inl (set_stays h.commands (after h (Accepts order carriage)).commands n p keeps one)
    before (inr heard) = inr (ap (λ (v : Stored). is_some v.heard) (stored-reserving h.store order.node (set_by order carriage) n p) ∙ heard)

    by : (eqb n order.node && is_among (set_by order carriage) p ≡ true) ⊎ (is_some (finmap.get h.store (n, p)) ≡ true) → IsSet (after h (Accepts order carriage)).commands n p ⊎ IsTrue (is_some (stored_of (after h (Accepts order carriage)).store n p).heard)
    by (inl is) = inl (here (both (eqb n order.node) (is_among (set_by order carriage) p) is))
    by (inr is) = before (no_more n p is)

-- ---- other events leave the store

abbrev SameStore : HostState → HostState → Type 0
SameStore old new = new.store ≡ old.store

keeping : Keeping SameStore
keeping = record {
  still = λ old new nodes commands store keys served. store;
  both = λ a b c first later. later ∙ first;
  node = λ h n event of. refl;
  outcome = λ h command how. refl;
}

-- it neither accepts an order nor ends a session, and hears no value
abbrev IsStill : HostEvent → Type 0
IsStill (Accepts order carriage) = ⊥
IsStill (Finishes n session id command status wake_request) = ⊥
IsStill (Hears_value n setting) = ⊥
IsStill event = Unit {0}

event_store : (h : HostState) (event : HostEvent) → IsStill event → (after h event).store ≡ h.store
event_store h (Accepts order carriage) is = absurd is
event_store h (Finishes n session id command status wake_request) is = absurd is
event_store h (Hears_value n setting) is = absurd is
event_store h (Joins n) is = refl
event_store h (Interviews n listens classes update) is = refl
event_store h event is = each_still SameStore keeping (λ h n. refl) h event tt

-- ---- any event

abbrev pub OrdersStay : Type 0
OrdersStay = (h : HostState) (event : HostEvent) → KeepsOrders h.commands (after h event).commands

pub event_keeps : OrdersStay → (h : HostState) (event : HostEvent) → HostFacts h → May h event → KeepsNoMore h → KeepsNoMore (after h event)
event_keeps stay h (Accepts order carriage) facts may no_more = accepted h order carriage (stay h (Accepts order carriage)) no_more
event_keeps stay h (Finishes n session id command status wake_request) facts may no_more =
    finished h (after h (Finishes n session id command status wake_request)) n command status (held_store (finishing h n id command status) n (is_held h n wake_request))
    (stay h (Finishes n session id command status wake_request))
    (of_session (IsCommandOf h.commands n) (node_of h.nodes n).book.commands session command (facts.owns n).sessions may.carried) no_more
event_keeps stay h (Hears_value n setting) facts may no_more = heard_more h n setting no_more
event_keeps stay h event facts may no_more = still h (after h event) (event_store h event tt) (stay h event) no_more

-- ---- a host with nothing but what is kept

found_in : (n : ℕ) (p : Property) (commands : List Command) → is_among (flat_map (properties_for n) (map taken_as commands)) p ≡ true → IsSet commands n p
found_in n p [] among = absurd (let none : false ≡ true = among in cc)
found_in n p (one ∷ commands) among =
    by (either_of (is_among (properties_for n (taken_as one)) p) (is_among (flat_map (properties_for n) (map taken_as commands)) p)
    (sym (append_among (properties_for n (taken_as one)) (flat_map (properties_for n) (map taken_as commands)) p) ∙ among)) (found_in n p commands)
  where
    later : (set : IsSet commands n p) (number : ℕ) → set.number ≡ number → IsSet (one ∷ commands) n p
    later set zero is = absurd (let none : None ≡ Some set.taken = sym (ap (taken_at commands) is) ∙ set.at in cc)
    later set (suc k) is = record { number = suc (suc k); taken = set.taken; at = sym (ap (taken_at commands) is) ∙ set.at; sets = set.sets }

    by : (is_among (properties_for n (taken_as one)) p ≡ true) ⊎ (is_among (flat_map (properties_for n) (map taken_as commands)) p ≡ true)
        → (is_among (flat_map (properties_for n) (map taken_as commands)) p ≡ true → IsSet commands n p) → IsSet (one ∷ commands) n p
    by (inl here) rest = record { number = 1; taken = taken_as one; at = refl; sets = here }
    by (inr there) rest = later (rest there) (rest there).number refl

pub alone_keeps : (h : HostState) (kept : Kept) → HoldsAlone h kept → KeepsNoMore h
alone_keeps h kept alone n p there =
    inl (found_in n p h.commands (ap (λ (l : List Taken). is_among (flat_map (properties_for n) l) p) alone.holds.commands ∙ alone.properties n p there))
