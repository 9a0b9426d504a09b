-- Every event keeps the facts, and what follows from them.
use Rattle.std.proofs.Common.{◌≡◌, ◌⊎◌, ◌==◌, Bool, true, false, if◌then◌else◌, All, inl, inr, ℕ, zero, suc, List, [], ◌∷◌, ◌++◌, length, refl, sym, ap, subst, ◌∙◌, append_assoc, append-nil}
use Rattle.std.specs.Prelude.{filter}
use Rattle.std.specs.List.{AllByRecursion}
use Rattle.s0_crypto.specs.declared.key_pair.Keys.{Keys}
use Rattle.zw_text.specs.declared.entry.Entry.{Entry}
use Rattle.zw_text.specs.Transcript.{outcome}
use Rattle.law_transcript.specs.Commands.{is_waiting}
use Rattle.law_transcript.specs.Lists.{EachAfter, Has, Rises}
use Rattle.law_transcript.specs.Sessions.{MayBegin}
use Rattle.law_transcript.specs.Values.{last_given}
use Rattle.law_transcript.proofs.Having.{has_left, has_right}
use Rattle.std.specs.FinMap as finmap
use Rattle.std.specs.Prelude.{Option, unwrap_or}
use Rattle.value_store.specs.declared.stored.Stored.{Stored}
use Rattle.value_store.specs.Values.{Values, key_cmp, no_value}
use Rattle.proof_host.specs.Stores.{given_by}
use Rattle.host_model.specs.host_node.State.{NodeState, unknown}
use Rattle.host_model.specs.host_node.Steps.{oldest}
use Rattle.host_model.specs.host_node.TableState.{node_of, unknown_from, unknown_nodes, nodes_after}
use Rattle.host_model.specs.host_node.Events.NodeEvent.{Joins}
use Rattle.host_model.specs.State.{HostState, Command, command_at, first_host, first_nodes}
use Rattle.host_model.specs.Events.{HostEvent}
use Rattle.host_model.specs.After.{after}
use Rattle.host_model.specs.May.{May}
use Rattle.host_model.specs.host_keep.Keeping.{Shelf}
use Rattle.host_model.specs.Did.{after_all, Did, MayAll}
use Rattle.host_model.specs.declared.out.HostOut.{HostOut}
use Rattle.host_model.specs.Facts.{HostFacts, IsCommandOf, OwnsCommands}
use Rattle.proof_host.specs.Entries.{IsAside, entries_at, entries_all}
use Rattle.proof_host.specs.Laws.{MayAccept, MayCarry, MayEnd, MayStand, HostLaws}
use Rattle.proof_host.specs.Tables.{outcome_in, nodes_by, recorded}
use Rattle.proof_host.specs.Facts.{AreAccepted, AreBegun, AreEntered, AreWaiting, IsInOrder, Facts}
use Rattle.proof_host.proofs.Lists.{each-weaker, rises-left}
use Rattle.std.proofs.lemmas.Bool.{eq-eqb, eqb-true}
use Rattle.std.proofs.lemmas.List.Elements.{recursion_from_All}
use Rattle.zw_base.proofs.Each.{all-weaker}
use Rattle.zw_text.specs.declared.entry.Entry.TheVariants.{Accepted}
use Rattle.zw_text.specs.Transcript.{where_same}
use Rattle.proof_host.specs.Laws.{accepted_for, numbers_for}
use Rattle.proof_host.proofs.Owned.{node_found}
use Rattle.proof_host.proofs.Commands.{waits_so}
use Rattle.proof_host.proofs.Views.{nodes-silent, numbers-silent, for-silent, sessions-silent, outcome-silent, silent}
use Rattle.proof_host.proofs.Effect.{only_commands, Effect, Leaving, Unanswering, Accepting, Cancelling, Beginning, Finishing}
use Rattle.proof_host.proofs.Effects.{Between, LeavesRecords, same_set, effect}
use Rattle.proof_host.proofs.InOrder.{same_order, order_kept, oldest_is, oldest_waits}
use Rattle.proof_host.proofs.CommandEnds.{Ends, unanswered_ends, cancelled_ends, finished_ends}
use Rattle.proof_host.proofs.WaitingCommands.{waiting_kept}
use Rattle.proof_host.proofs.Stored.{stored_kept, stored_aside}
use Rattle.proof_host.proofs.Confirmed.{confirmed_kept}
use Rattle.proof_host.proofs.Shown.{accepted_left, begun_left, entered_left, accepted_ended, begun_ended, entered_ended, accepted_taken, begun_taken, entered_taken, accepted_begun, begun_begun, entered_begun}
use Rattle.proof_host.proofs.EntryOrder.{stand_silent, stand_left, stand_ended, stand_taken, stand_begun}

-- the families of what is shown
record Shown (T : List Entry) (cs : List Command) (nodes : List NodeState) : Type 0 where
  accepted : AreAccepted T cs
  begun : AreBegun T nodes
  entered : AreEntered T cs
  waiting : AreWaiting T cs nodes
  stand : EachAfter MayStand [] T

module _ (T : List Entry) (cs : List Command) (nodes : List NodeState) (owns : (m : ℕ) → OwnsCommands cs m (node_of nodes m)) (orders : (m : ℕ) → IsInOrder cs (node_of nodes m))
    (f : Shown T cs nodes) (cs' : List Command) (nodes' : List NodeState) (store store' : Values) (entries : List Entry) where
  shown_ended : AreWaiting (T ++ entries) cs' nodes' → Ends T cs cs' nodes nodes' entries → Shown (T ++ entries) cs' nodes'
  shown_ended waiting e = record {
    accepted = accepted_ended T cs cs' nodes nodes' entries e f.accepted;
    begun = begun_ended T cs cs' nodes nodes' entries e f.begun;
    entered = entered_ended T cs cs' nodes nodes' entries recorded e f.entered;
    waiting = waiting;
    stand = stand_ended T cs cs' nodes nodes' entries f.stand e;
  }

  shown_kept : Effect cs cs' nodes nodes' store store' entries → Shown (T ++ entries) cs' nodes'
  shown_kept (Leaving e same) = record {
    accepted = accepted_left T cs cs' nodes nodes' entries e f.accepted;
    begun = begun_left T cs cs' nodes nodes' entries e f.begun;
    entered = entered_left T cs cs' nodes nodes' entries recorded e f.entered;
    waiting = waiting_kept T cs nodes owns orders f.waiting cs' nodes' store store' entries (Leaving e same);
    stand = stand_left T cs cs' nodes nodes' entries f.stand e;
  }
  shown_kept (Unanswering e same) = shown_ended (waiting_kept T cs nodes owns orders f.waiting cs' nodes' store store' entries (Unanswering e same)) (unanswered_ends T cs nodes owns orders f.accepted f.entered cs' nodes' entries e)
  shown_kept (Cancelling e same) = shown_ended (waiting_kept T cs nodes owns orders f.waiting cs' nodes' store store' entries (Cancelling e same)) (cancelled_ends T cs nodes owns orders f.accepted f.entered cs' nodes' entries e)
  shown_kept (Finishing e same) = shown_ended (waiting_kept T cs nodes owns orders f.waiting cs' nodes' store store' entries (Finishing e same)) (finished_ends T cs nodes owns orders f.accepted f.entered cs' nodes' entries e)
  shown_kept (Accepting e same) = record {
    accepted = accepted_taken T cs cs' nodes nodes' entries e f.accepted;
    begun = begun_taken T cs cs' nodes nodes' entries e f.begun;
    entered = entered_taken T cs cs' nodes nodes' entries recorded e f.entered;
    waiting = waiting_kept T cs nodes owns orders f.waiting cs' nodes' store store' entries (Accepting e same);
    stand = stand_taken T cs cs' nodes nodes' entries f.stand e f.accepted;
  }
  shown_kept (Beginning e same) =
      let one = oldest_is cs nodes owns orders e.node e.some_wait in
      let waits = oldest_waits cs nodes owns orders e.node e.some_wait in
      let c = oldest (node_of nodes e.node) in
      record {
        accepted = accepted_begun T cs cs' nodes nodes' entries e f.accepted;
        begun = begun_begun T cs cs' nodes nodes' entries e f.begun;
        entered = entered_begun T cs cs' nodes nodes' entries recorded e one.command one.found (waits_so (outcome c T) (outcome_in cs c) (f.entered c) waits) f.entered;
        waiting = waiting_kept T cs nodes owns orders f.waiting cs' nodes' store store' entries (Beginning e same);
        stand = stand_begun T cs cs' nodes nodes' entries f.stand e f.accepted f.begun f.entered (orders e.node) one waits;
      }

-- what is done to a host, with these entries, keeps them
pub effect_kept : (past : List Entry) (h new : HostState) (entries : List Entry) → HostFacts new → Between h new entries → Facts past h → Facts (past ++ entries) new
effect_kept past h new entries host e f =
    let shown = shown_kept past h.commands h.nodes f.host.owns f.in_order (record { accepted = f.accepted; begun = f.begun; entered = f.entered; waiting = f.waiting; stand = f.stand })
    new.commands new.nodes h.store new.store entries e in
    record {
      host = host;
      accepted = shown.accepted;
      begun = shown.begun;
      entered = shown.entered;
      waiting = shown.waiting;
      in_order = order_kept h.commands h.nodes f.host.owns f.in_order new.commands new.nodes h.store new.store entries e;
      stored = stored_kept past h.commands h.nodes f.host.owns f.in_order f.stored new.commands new.nodes h.store new.store entries e;
      confirmed = confirmed_kept h.commands h.nodes h.store f.host.owns f.in_order f.confirmed new.commands new.nodes new.store entries e;
      stand = shown.stand;
    }

-- what the host alone keeps
abbrev pub HostKeeps : Type 0
HostKeeps = (h : HostState) (event : HostEvent) → HostFacts h → May h event → HostFacts (after h event)

module _ (host : HostKeeps) (law : LeavesRecords) where
  pub each_kept : (past : List Entry) (h : HostState) (event : HostEvent) → Facts past h → May h event → Facts (past ++ entries_at h event) (after h event)
  each_kept past h event f may = effect_kept past h (after h event) (entries_at h event) (host h event f.host may) (effect law h event may) f

  pub all_kept : (past : List Entry) (h : HostState) (events : List HostEvent) → Facts past h → MayAll h events → Facts (past ++ entries_all h events) (after_all h events)
  all_kept past h [] f may = subst (λ (T : List Entry). Facts T h) (sym (append-nil past)) f
  all_kept past h (event ∷ events) f may =
      subst (λ (T : List Entry). Facts T (after_all (after h event) events)) (append_assoc past (entries_at h event) (entries_all (after h event) events))
      (all_kept (past ++ entries_at h event) (after h event) events (each_kept past h event f may.0) may.1)

  pub done_kept : (past : List Entry) (events : List HostEvent) (old new : HostState) (before all : List HostOut) (shelf kept : Shelf) → Facts past old → Did events old new before all shelf kept
      → Facts (past ++ entries_all old events) new
  done_kept past events old new before all shelf kept f did = subst (λ (h : HostState). Facts (past ++ entries_all old events) h) (sym did.state) (all_kept past old events f did.may)

-- ---- entries of others

pub aside_kept : (past : List Entry) (h : HostState) (entry : Entry) → Facts past h → IsAside entry → Facts (past ++ entry ∷ []) h
aside_kept past h entry f aside =
    let one = silent entry aside in
    record {
      host = f.host;
      accepted = record { count = ap (λ (l : List ℕ). length l) (numbers-silent past (entry ∷ []) (one, tt)) ∙ f.accepted.count; nodes = λ k. nodes-silent past (entry ∷ []) (one, tt) k ∙ f.accepted.nodes k };
      begun = λ m. sessions-silent past (entry ∷ []) (one, tt) m ∙ f.begun m;
      entered = λ k. ap recorded (outcome-silent past (entry ∷ []) (one, tt) k) ∙ f.entered k;
      waiting = λ m. f.waiting m ∙ ap (λ (l : List ℕ). filter (λ k. is_waiting (outcome_in h.commands k)) l) (sym (for-silent past (entry ∷ []) (one, tt) m));
      in_order = f.in_order;
      stored = stored_aside past h.commands entry aside f.stored;
      confirmed = f.confirmed;
      stand = stand_silent past (entry ∷ []) (one, tt) f.stand;
    }

pub asides_kept : (past : List Entry) (h : HostState) (entries : List Entry) → Facts past h → AllByRecursion IsAside entries → Facts (past ++ entries) h
asides_kept past h [] f all = subst (λ (l : List Entry). Facts l h) (sym (append-nil past)) f
asides_kept past h (e ∷ entries) f all =
    subst (λ (l : List Entry). Facts l h) (append_assoc past (e ∷ []) entries) (asides_kept (past ++ e ∷ []) h entries (aside_kept past h e f all.0) all.1)

-- ---- the beginning

nothing_in_order : (number : ℕ) → IsInOrder [] (unknown number)
nothing_in_order number = record { rise = tt; wait = tt; ended = tt; under_way = λ k o. cc }

abbrev IsBlank : List NodeState → Type 0
IsBlank nodes = (m : ℕ) → only_commands (node_of nodes m) ≡ only_commands (unknown 0)

from_blank : (number count m : ℕ) → only_commands (node_of (unknown_from number count) m) ≡ only_commands (unknown 0)
from_blank number zero m = refl
from_blank number (suc more) zero = refl
from_blank number (suc more) (suc m) = from_blank (suc number) more m

unknown_blank : IsBlank unknown_nodes
unfolding unknown_nodes
unknown_blank zero = refl
unknown_blank (suc m) = from_blank 1 232 m

first_blank : IsBlank first_nodes
unfolding first_nodes
first_blank m =
    let joined = nodes_after unknown_nodes 2 Joins in
    same_set joined 2 _ refl m ∙ same_set unknown_nodes 2 _ refl m ∙ unknown_blank m

blank_in_order : (nodes : List NodeState) → IsBlank nodes → (m : ℕ) → IsInOrder [] (node_of nodes m)
blank_in_order nodes blank m = same_order [] (unknown 0) (node_of nodes m) (blank m) (nothing_in_order 0)

pub first_kept : (keys : Keys) → HostFacts (first_host keys) → Facts [] (first_host keys)
first_kept keys host = record {
  host = host;
  accepted = record { count = refl; nodes = none };
  begun = λ m. sym (ap (λ (s : NodeState). s.book.commands) (first_blank m));
  entered = none_entered;
  waiting = λ m. ap (λ (s : NodeState). s.waiting) (first_blank m);
  in_order = blank_in_order first_nodes first_blank;
  stored = record { entered = refl; following = tt; known = tt };
  confirmed = λ m p. ap (λ (o : Option Stored). (unwrap_or o no_value).confirmed) (finmap.get-empty key_cmp (m, p)) ∙ sym (ap (λ (s : NodeState). last_given (given_by [] (outcome_in []) p) s.book.commands) (first_blank m));
  stand = tt;
}
  where
    none : (number : ℕ) → [] ≡ nodes_by (command_at [] number)
    none zero = refl
    none (suc k) = refl

    none_entered : (number : ℕ) → recorded (outcome number []) ≡ recorded (outcome_in [] number)
    none_entered zero = refl
    none_entered (suc k) = refl

-- ---- what follows

-- a command that was accepted for a node is one of its commands
one_or_rest : (c k n m : ℕ) (rest : List ℕ) → Has (where_same c k n ++ rest) m → ((c ≡ k) × (n ≡ m)) ⊎ Has rest m
one_or_rest c k n m rest has = by (c == k) refl has
  where
    by : (b : Bool) → (c == k) ≡ b → Has ((if b then n ∷ [] else []) ++ rest) m → ((c ≡ k) × (n ≡ m)) ⊎ Has rest m
    by true e (inl here) = inl (eqb-true c k e, here)
    by true e (inr later) = inr later
    by false e later = inr later

had_number : (T : List Entry) (k m : ℕ) → Has (accepted_for k T) m → Has (numbers_for m T) k
had_number [] k m has = absurd has
had_number (Accepted c n ∷ T) k m has = elim (one_or_rest c k n m (accepted_for k T) has) [
  | inl here ↦ has_left (where_same n m c) (numbers_for m T) k
      (subst (λ (l : List ℕ). Has l k) (sym (ap (λ (b : Bool). if b then c ∷ [] else []) (eq-eqb n m here.1))) (inl here.0))
  | inr later ↦ has_right (where_same n m c) (numbers_for m T) k (had_number T k m later)
]
had_number (_ ∷ T) k m has = had_number T k m has

numbers_had : (T : List Entry) (cs : List Command) (m : ℕ) (l : List ℕ) → AreAccepted T cs → All (IsCommandOf cs m) l → AllByRecursion (Has (numbers_for m T)) l
numbers_had T cs m l accepted all =
    all-weaker (IsCommandOf cs m) (Has (numbers_for m T))
    (λ k one. had_number T k m (subst (λ (ns : List ℕ). Has ns m) (sym (accepted.nodes k ∙ node_found cs m k one)) (inl refl))) l (recursion_from_All (IsCommandOf cs m) l all)

pub laws_hold : (past : List Entry) (h : HostState) → Facts past h → HostLaws past
laws_hold past h f = record {
  accepts = each-weaker MayStand MayAccept (λ T e s. s.accept) [] past f.stand;
  sessions_keep = each-weaker MayStand MayBegin (λ T e s. s.begin) [] past f.stand;
  carries = each-weaker MayStand MayCarry (λ T e s. s.carry) [] past f.stand;
  ends = each-weaker MayStand MayEnd (λ T e s. s.end) [] past f.stand;
  rise = λ m. subst Rises (sym (f.begun m)) (rises-left (node_of h.nodes m).book.commands (node_of h.nodes m).waiting (f.in_order m).rise);
  accepted = λ m. subst (λ (l : List ℕ). AllByRecursion (Has (numbers_for m past)) l) (sym (f.begun m))
      (numbers_had past h.commands m (node_of h.nodes m).book.commands f.accepted (f.host.owns m).sessions);
}
