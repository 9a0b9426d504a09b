-- The tables of a host stand in the records of its keeper, whatever happens to the host.
use Rattle.std.proofs.Common.{◌≡◌, ℕ, zero, suc, ◌+◌, ◌≤◌, Bool, true, false, List, [], ◌∷◌, ◌++◌, length, Option, Some, None, option_map, inl, inr, refl, sym, ap, ◌∙◌, subst, append_assoc, arith}
use Rattle.std.specs.Prelude.{IfSome, slice_get, Result, Ok, Err, OnOk, OnErr}
use Rattle.std.specs.List.{AllByRecursion}
use Rattle.std.proofs.lemmas.Bool.{cases_eq, cases_lt}
use Rattle.std.proofs.lemmas.Grind.{length_at_push}
use Rattle.zw_base.specs.declared.order.Order.{Order}
use Rattle.zw_text.specs.declared.entry.Outcome.{Outcome}
use Rattle.supervision.specs.Host.{command_at as command_of_session}
use Rattle.host_node.specs.State.{NodeState, unknown}
use Rattle.host_node.specs.Steps.{after_begin, oldest}
use Rattle.host_node.specs.TableState.{node_of as node_among}
use Rattle.host_keep.specs.Keeping.{OptAdds, Kept, Shelf}
use Rattle.host_keep.specs.Legal.{AreTextsOf}
use Rattle.host_keep.specs.Rows.{IsRecord}
use Rattle.host_keep.specs.declared.record.Record.{Record}
use Rattle.host_keep.specs.declared.record.Record.TheVariants.{Accepted, Begun}
use Rattle.host_model.specs.State.{HostState, HostParts, Command, node_of, with_node, command_at, set_at, with_outcome}
use Rattle.host_model.specs.After.{after}
use Rattle.host_model.specs.Events.{HostEvent}
use Rattle.host_model.specs.Did.{texts_of, Did}
use Rattle.host_model.specs.Taking.{Fed, FedPrefix}
use Rattle.host_model.specs.declared.out.HostOut.{HostOut}
use Rattle.host_model.proofs.Numbered.{pushed_at}
use Rattle.host_step_kept.specs.Choices.{after_if}
use Rattle.host_step_bytes.specs.Calls.{scene, Scene, Does, Stops}
use Rattle.host_core.specs.Opening.{AreTold}
use Rattle.host_core.specs.Recorded.{IsTold, TablesAreTold}
use Rattle.host_model.proofs.Places.{one_set as each_set}

-- ---- places of lists

get_within : {X : Type 0} (l more : List X) (at : ℕ) (x : X) → slice_get l at ≡ Some x → slice_get (l ++ more) at ≡ Some x
get_within [] more at x e = absurd (none e)
  where
    none : None ≡ Some x → ⊥
    none f = cc
get_within (first ∷ l) more zero x e = e
get_within (first ∷ l) more (suc at) x e = get_within l more at x e

get_after : {X : Type 0} (l more : List X) (x : X) → slice_get (l ++ x ∷ more) (length l) ≡ Some x
get_after [] more x = refl
get_after (first ∷ l) more x = get_after l more x

get_other : {X : Type 0} (l : List X) (x : X) (at : ℕ) → (at ≡ length l → ⊥) → slice_get (l ++ x ∷ []) at ≡ slice_get l at
get_other [] x zero other = absurd (other refl)
get_other [] x (suc at) other = refl
get_other (first ∷ l) x zero other = refl
get_other (first ∷ l) x (suc at) other = get_other l x at (λ e. other (ap suc e))

-- ---- records that are told

-- what is told goes on being told
pub told_on : (told told' : Option (List (List ℕ))) (texts : List (List ℕ)) (one : Record) → OptAdds told told' texts → IsTold told one → IsTold told' one
told_on None told' texts one adds is = subst (λ (o : Option (List (List ℕ))). IsTold o one) (sym adds) tt
told_on (Some before) told' texts one adds is =
    subst (λ (o : Option (List (List ℕ))). IsTold o one) (sym adds) (record { at = is.at; text = is.text; stands = get_within before texts is.at is.text is.stands; is = is.is })

-- of a keeper that tells none, nothing is said
none_told : (records : List Record) → AllByRecursion (IsTold None) records
none_told [] = tt
none_told (one ∷ more) = (tt, none_told more)

texts_told : (records : List Record) (before texts : List (List ℕ)) → AreTextsOf records texts → AllByRecursion (IsTold (Some (before ++ texts))) records
texts_told [] before texts are = tt
texts_told (one ∷ more) before [] are = absurd are
texts_told (one ∷ more) before (text ∷ texts) are = (
  record { at = length before; text = text; stands = get_after before texts text; is = are.0 },
  subst (λ (t : List (List ℕ)). AllByRecursion (IsTold (Some t)) more) (append_assoc before (text ∷ []) texts) (texts_told more (before ++ text ∷ []) texts are.1),
)

written : (records : List Record) → AllByRecursion IsRecord records → AreTextsOf records (texts_of records)
written [] range = tt
written (one ∷ more) range = (record { in_range = range.0; text = refl }, written more range.1)

-- the records that a keeper tells are told
pub are_told : (records : List Record) (told : Option (List (List ℕ))) → AreTold records told → AllByRecursion (IsTold told) records
are_told records None are = none_told records
are_told records (Some texts) are = texts_told records [] texts are

-- and those that were added
pub added_told : (records : List Record) (told told' : Option (List (List ℕ))) → AllByRecursion IsRecord records → OptAdds told told' (texts_of records) → AllByRecursion (IsTold told') records
added_told records None told' range adds = subst (λ (o : Option (List (List ℕ))). AllByRecursion (IsTold o) records) (sym adds) (none_told records)
added_told records (Some before) told' range adds =
    subst (λ (o : Option (List (List ℕ))). AllByRecursion (IsTold o) records) (sym adds) (texts_told records before (texts_of records) (written records range))

-- ---- sessions

abbrev pub Sessions : Option (List (List ℕ)) → ℕ → List ℕ → Type 0
Sessions told n l = (session : ℕ) → 1 ≤ session → session ≤ length l → (command : ℕ) × (command_of_session l session ≡ Some command) × IsTold told (Begun n session command)

found_within : (l : List ℕ) (command session other : ℕ) → command_of_session l session ≡ Some other → command_of_session (l ++ command ∷ []) session ≡ Some other
found_within l command zero other e = e
found_within l command (suc k) other e = get_within l (command ∷ []) k other e

found_last : (l : List ℕ) (command session : ℕ) → session ≡ suc (length l) → command_of_session (l ++ command ∷ []) session ≡ Some command
found_last l command session last = ap (λ (k : ℕ). command_of_session (l ++ command ∷ []) k) last ∙ get_after l [] command

-- one more session
one_session : (told : Option (List (List ℕ))) (n : ℕ) (l : List ℕ) (command : ℕ) → Sessions told n l → IsTold told (Begun n (length l + 1) command) → Sessions told n (l ++ command ∷ [])
one_session told n l command all new session low high = elim (cases_lt session (length l + 1)) [
  | inl less ↦ let s = all session low (omega (arith, less)) in (s.0, found_within l command session s.0 s.1, s.2)
  | inr more ↦
      let last : session ≡ suc (length l) = omega (arith, more, high, (length_at_push l command).1) in
      let next : length l + 1 ≡ session = omega (arith, last) in
      (command, found_last l command session last, subst (λ (k : ℕ). IsTold told (Begun n k command)) next new)
]

-- ---- commands

abbrev pub Commands : Option (List (List ℕ)) → List Command → Type 0
Commands told commands = (number : ℕ) → IfSome (command_at commands number) (λ command. IsTold told (Accepted number command.order))

-- one more command
one_command : (told : Option (List (List ℕ))) (commands : List Command) (one : Command) → Commands told commands → IsTold told (Accepted (length commands + 1) one.order) → Commands told (commands ++ one ∷ [])
one_command told commands one all new number = elim (cases_eq number (length commands + 1)) [
  | inl same ↦ subst (λ (k : ℕ). IfSome (command_at (commands ++ one ∷ []) k) (λ command. IsTold told (Accepted k command.order))) (sym same) here
  | inr other ↦ subst (λ (o : Option Command). IfSome o (λ command. IsTold told (Accepted number command.order))) (sym (before number other)) (all number)
]
  where
    here : IfSome (command_at (commands ++ one ∷ []) (length commands + 1)) (λ command. IsTold told (Accepted (length commands + 1) command.order))
    here = subst (λ (o : Option Command). IfSome o (λ command. IsTold told (Accepted (length commands + 1) command.order))) (sym (pushed_at commands one)) new

    before : (k : ℕ) → (k ≡ length commands + 1 → ⊥) → command_at (commands ++ one ∷ []) k ≡ command_at commands k
    before zero other = refl
    before (suc k) other = get_other commands one k (λ e. other (omega (arith, e)))

-- the order of a command
abbrev pub order_at : List Command → ℕ → Option Order
order_at commands number = option_map (λ command. command.order) (command_at commands number)

order_set : (commands : List Command) (at : ℕ) (outcome : Outcome) (k : ℕ) → option_map (λ command. command.order) (slice_get (set_at commands at outcome) k) ≡ option_map (λ command. command.order) (slice_get commands k)
order_set [] at outcome k = refl
order_set (first ∷ rest) zero outcome zero = refl
order_set (first ∷ rest) zero outcome (suc k) = refl
order_set (first ∷ rest) (suc at) outcome zero = refl
order_set (first ∷ rest) (suc at) outcome (suc k) = order_set rest at outcome k

-- another outcome leaves each order
pub order_with : (commands : List Command) (number : ℕ) (outcome : Outcome) (other : ℕ) → order_at (with_outcome commands number outcome) other ≡ order_at commands other
order_with commands zero outcome other = refl
order_with commands (suc at) outcome zero = refl
order_with commands (suc at) outcome (suc k) = order_set commands at outcome k

-- the same orders, whatever became of them
same_commands : (told : Option (List (List ℕ))) (old new : List Command) → ((number : ℕ) → order_at new number ≡ order_at old number) → Commands told old → Commands told new
same_commands told old new same all number = by (command_at new number) (command_at old number) (same number) (all number)
  where
    inside : {a b : Order} → Some a ≡ Some b → a ≡ b
    inside f = cc

    never : {a : Order} → Some a ≡ None → ⊥
    never f = cc

    by : (o p : Option Command) → option_map (λ command. command.order) o ≡ option_map (λ command. command.order) p → IfSome p (λ command. IsTold told (Accepted number command.order))
        → IfSome o (λ command. IsTold told (Accepted number command.order))
    by None p f is = tt
    by (Some c) None f is = absurd (never f)
    by (Some c) (Some d) f is = subst (λ (order : Order). IsTold told (Accepted number order)) (sym (inside f)) is

-- ---- the tables

pub tables_on : (told told' : Option (List (List ℕ))) (texts : List (List ℕ)) (h : HostState) → OptAdds told told' texts → TablesAreTold told h → TablesAreTold told' h
tables_on told told' texts h adds t = record {
  sessions = λ n session low high. let s = t.sessions n session low high in (s.0, s.1, told_on told told' texts (Begun n session s.0) adds s.2);
  commands = λ number. by number (command_at h.commands number) (t.commands number);
}
  where
    by : (number : ℕ) (o : Option Command) → IfSome o (λ command. IsTold told (Accepted number command.order)) → IfSome o (λ command. IsTold told' (Accepted number command.order))
    by number None is = tt
    by number (Some c) is = told_on told told' texts (Accepted number c.order) adds is

-- the sessions of each node and the orders are the same
pub record Alike (old new : HostState) : Type 0 where
  pub sessions : (n : ℕ) → (node_of new n).book.commands ≡ (node_of old n).book.commands
  pub orders : (number : ℕ) → order_at new.commands number ≡ order_at old.commands number

pub alike_tables : (told : Option (List (List ℕ))) (old new : HostState) → Alike old new → TablesAreTold told old → TablesAreTold told new
alike_tables told old new a t = record {
  sessions = λ n. subst (λ (l : List ℕ). Sessions told n l) (sym (a.sessions n)) (t.sessions n);
  commands = same_commands told old.commands new.commands a.orders t.commands;
}

pub then_alike : {a c : HostState} (b : HostState) → Alike a b → Alike b c → Alike a c
then_alike b first later = record { sessions = λ n. later.sessions n ∙ first.sessions n; orders = λ number. later.orders number ∙ first.orders number }

-- neither nodes nor commands are other
pub plain : {old new : HostState} → new.nodes ≡ old.nodes → new.commands ≡ old.commands → Alike old new
plain nodes commands = record {
  sessions = λ n. ap (λ (l : List NodeState). (node_among l n).book.commands) nodes;
  orders = λ number. ap (λ (l : List Command). order_at l number) commands;
}

-- a node is other, with the same sessions
pub node_so : (h : HostState) (n : ℕ) (state : NodeState) → state.book.commands ≡ (node_of h n).book.commands → Alike h (with_node h n state)
node_so h n state e = record {
  sessions = each_set (unknown 0) (λ (s : NodeState) (m : ℕ). s.book.commands ≡ (node_of h m).book.commands) h.nodes n state (λ m. refl) e;
  orders = λ number. refl;
}

-- a command has another outcome
pub outcome_so : (h : HostState) (command : ℕ) (outcome : Outcome) → Alike h (record h { commands = with_outcome h.commands command outcome })
outcome_so h command outcome = record { sessions = λ n. refl; orders = order_with h.commands command outcome }

-- ---- one session more, and one command more

pub begins_told : (told : Option (List (List ℕ))) (h : HostState) (n session command : ℕ) (commands : List Command) → session ≡ length (node_of h n).book.commands + 1 → command ≡ oldest (node_of h n)
    → ((number : ℕ) → order_at commands number ≡ order_at h.commands number) → IsTold told (Begun n session command) → TablesAreTold told h → TablesAreTold told (record (with_node h n (after_begin (node_of h n))) { commands = commands })
begins_told told h n session command commands next first same is t = record {
  sessions = each_set (unknown 0) (λ (s : NodeState) (m : ℕ). Sessions told m s.book.commands) h.nodes n (after_begin (node_of h n)) t.sessions
      (one_session told n (node_of h n).book.commands (oldest (node_of h n)) (t.sessions n)
      (subst (λ (c : ℕ). IsTold told (Begun n (length (node_of h n).book.commands + 1) c)) first (subst (λ (k : ℕ). IsTold told (Begun n k command)) next is)));
  commands = same_commands told h.commands commands same t.commands;
}

pub pushed_told : (told : Option (List (List ℕ))) (old new : HostState) (one : Command) → new.nodes ≡ old.nodes → new.commands ≡ old.commands ++ one ∷ [] → IsTold told (Accepted (length old.commands + 1) one.order)
    → TablesAreTold told old → TablesAreTold told new
pushed_told told old new one nodes commands is t = record {
  sessions = λ n. subst (λ (l : List NodeState). Sessions told n (node_among l n).book.commands) (sym nodes) (t.sessions n);
  commands = subst (λ (l : List Command). Commands told l) (sym commands) (one_command told old.commands one t.commands is);
}

-- ---- calls

-- what events leave
abbrev pub EventsLeave : Type 0
EventsLeave = (events : List HostEvent) (old new : HostState) (before all : List HostOut) (shelf shelf' : Shelf) → Did events old new before all shelf shelf'
    → TablesAreTold shelf.records old → TablesAreTold shelf'.records new

-- a call that did events, or stopped after some
pub does_or_stops : {A E : Type 0} (law : EventsLeave) (Kind : List HostEvent → Type 0) (r : Result A E) (a b : Scene) → OnOk r (Does Kind a b) → OnErr r (Stops a b)
    → TablesAreTold a.shelf.records a.host → TablesAreTold b.shelf.records b.host
does_or_stops law Kind (Ok value) a b did stopped t = law did.events a.host b.host a.outs b.outs a.shelf b.shelf did.did t
does_or_stops law Kind (Err fault) a b did stopped t = law stopped.events a.host b.host a.outs b.outs a.shelf b.shelf stopped.did t

-- a call that left all as it was
pub nothing_kept : (old new : HostParts) (told told' : Option (List (List ℕ))) → new ≡ old → OptAdds told told' [] → TablesAreTold told old.state → TablesAreTold told' new.state
nothing_kept old new told told' same none t = subst (λ (p : HostParts). TablesAreTold told' p.state) (sym same) (tables_on told told' [] old.state none t)

-- a call that did events, or left all as it was
pub does_or_leaves : {A E : Type 0} (law : EventsLeave) (Kind : List HostEvent → Type 0) (r : Result A E) (old new : HostParts) (a b : Shelf) → OnOk r (Does Kind (scene old.state [] a) (scene new.state [] b))
    → OnErr r (new ≡ old) → OnErr r (OptAdds a.records b.records []) → TablesAreTold a.records old.state → TablesAreTold b.records new.state
does_or_leaves law Kind (Ok value) old new a b did same none t = law did.events old.state new.state [] [] a b did.did t
does_or_leaves law Kind (Err fault) old new a b did same none t = nothing_kept old new a.records b.records same none t

-- bytes were taken, all of them or a prefix
pub fed_or_prefix : {A E : Type 0} (r : Result A E) (old : HostParts) (bytes : List ℕ) (new : HostParts) (before all : List HostOut) (a b : Shelf)
    → ((old new : HostParts) (bytes : List ℕ) (before all : List HostOut) (shelf shelf' : Shelf) → Fed old bytes new before all shelf shelf' → TablesAreTold shelf.records old.state → TablesAreTold shelf'.records new.state)
    → ((old new : HostParts) (bytes : List ℕ) (before all : List HostOut) (shelf shelf' : Shelf) → FedPrefix old bytes new before all shelf shelf' → TablesAreTold shelf.records old.state → TablesAreTold shelf'.records new.state)
    → OnOk r (Fed old bytes new before all a b) → OnErr r (FedPrefix old bytes new before all a b) → TablesAreTold a.records old.state → TablesAreTold b.records new.state
fed_or_prefix (Ok value) old bytes new before all a b fed prefix f p t = fed old new bytes before all a b f t
fed_or_prefix (Err fault) old bytes new before all a b fed prefix f p t = prefix old new bytes before all a b p t

-- one event that leaves them, whose record was kept or not
pub kept_or_not : (is_kept : Bool) (event : HostEvent) (text : List ℕ) (old new : HostParts) (a b : Shelf) → Alike old.state (after old.state event)
    → Kept is_kept text a b → new ≡ record old { state = after_if is_kept old.state event } → TablesAreTold a.records old.state → TablesAreTold b.records new.state
kept_or_not true event text old new a b alike kept state t =
    subst (λ (p : HostParts). TablesAreTold b.records p.state) (sym state)
    (alike_tables b.records old.state (after old.state event) alike (tables_on a.records b.records (text ∷ []) old.state kept t))
kept_or_not false event text old new a b alike kept state t =
    subst (λ (p : HostParts). TablesAreTold b.records p.state) (sym state) (tables_on a.records b.records [] old.state kept.0 t)
