-- Each event of a host does to its tables what its records do.
use Rattle.std.proofs.Common.{◌≡◌, ℕ, zero, suc, ◌+◌, ◌<◌, ◌==◌, ◌&&◌, Bool, true, false, cond, if◌then◌else◌, is_some, List, [], ◌∷◌, length, drop, get_or, Option, Some, None, option_map, All, inl, inr, refl, sym, ap, ◌∙◌, subst, arith}
use Rattle.std.specs.Prelude.{slice_get, Contains}
use Rattle.std.specs.FinMap as finmap
use Rattle.std.proofs.lemmas.Bool.{cases_eq, eqb-true, eq-eqb}
use Rattle.std.proofs.lemmas.List.Elements.{All-head, All-tail}
use Rattle.std.proofs.lemmas.List.Folds.{list_any_at}
use Rattle.zw_base.specs.PropertyOrder.{same_property}
use Rattle.zw_base.specs.declared.property.Setting.{Setting}
use Rattle.zw_base.specs.declared.order.Order.{Order}
use Rattle.zw_text.specs.declared.entry.Outcome.TheVariants as outcome
use Rattle.supervision.specs.Host.{open_session, command_at as command_of_session}
use Rattle.s0_session.specs.Nonces.{account_of, live_of, given_of, given_from, answer_from, new_nonce, after_give}
use Rattle.value_store.specs.declared.stored.Stored.{Stored}
use Rattle.value_store.specs.Values.{stored_of}
use Rattle.host_orders.specs.Wrapping.{carriage_of}
use Rattle.host_orders.specs.declared.carriage.Carriage.{Carriage}
use Rattle.host_requests.specs.declared.task.Task.{Task}
use Rattle.host_requests.specs.declared.task.Task.TheVariants.{Offer}
use Rattle.host_requests.specs.Events.{after as after_request}
use Rattle.host_requests.specs.Events.RequestsEvent.{Pushes as request_pushes}
use Rattle.host_node.specs.declared.attempt.AttemptEnd.{AttemptEnd}
use Rattle.host_node.specs.declared.attempt.AttemptEnd.TheVariants.{NoneRan, Again, Unanswered}
use Rattle.host_node.specs.State.{NodeState}
use Rattle.host_node.specs.Steps.{as_recorded, after_nonce}
use Rattle.host_node.specs.Facts.{is_recorded}
use Rattle.host_node.specs.Events.{NodeEvent, after as after_node}
use Rattle.host_node.specs.Events.NodeEvent.{Accepts as node_accepts, Takes_nonce as node_takes_nonce}
use Rattle.host_keep.specs.Kept.{Kept, KeptNode, Taken, Interview, node_of as kept_of_node, with_node as with_kept_node, seeing, taking, is_among, classes_said, listed_by, after_all as kept_after_all}
use Rattle.host_keep.specs.declared.record.Record.TheVariants.{Seen}
use Rattle.host_model.specs.State.{HostState, Command, node_of, command_at, with_outcome}
use Rattle.host_model.specs.Sessions.{open_command, command_by}
use Rattle.host_model.specs.Ends.{attempt_ended, unanswered}
use Rattle.host_model.specs.After.{node_does, requests_do, is_full, queues_if_room, hearing, accepting, giving, offering, spending}
use Rattle.host_model.specs.Records.{seen_records}
use Rattle.host_model.specs.Facts.{IsCommandOf, OwnsCommands}
use Rattle.host_model.specs.Holding.{Holds, outcome_kept, as_kept, taken_as}
use Rattle.host_model.proofs.OpenSessions.{going_of}
use Rattle.host_model.proofs.NumberedRecords.{changed, with_same, with_other, taken_with}
use Rattle.host_model.proofs.Outcomes.{Outcomes, cancels_stay}
use Rattle.host_model.proofs.Values.{confirmed-hearing, get-one}
use Rattle.host_model.proofs.Steps.{quiet, alike, node_only, node_changes, account_changes, saw, account_is, within_by}
use Rattle.host_model.proofs.Begun.{not_cancelled}
use Rattle.host_model.proofs.Finished.{going_is_begun}
use Rattle.host_model.proofs.Taken.{taken_holds, waiting_as}

-- ---- lists

at_place : (P : ℕ → Type 0) (l : List ℕ) (k number : ℕ) → slice_get l k ≡ Some number → All P l → P number
at_place P [] k number e all = absurd (none e)
  where
    none : None ≡ Some number → ⊥
    none f = cc
at_place P (first ∷ rest) zero number e all = subst P (same e) (All-head P first rest all)
  where
    same : Some first ≡ Some number → first ≡ number
    same f = cc
at_place P (first ∷ rest) (suc k) number e all = at_place P rest k number e (All-tail P first rest all)

-- the command of a session of a node is for it
pub session_owned : (h : HostState) (n session command : ℕ) → OwnsCommands h.commands n (node_of h n) → command_of_session (node_of h n).book.commands session ≡ Some command → IsCommandOf h.commands n command
session_owned h n zero command owns e = absurd (none e)
  where
    none : None ≡ Some command → ⊥
    none f = cc
session_owned h n (suc k) command owns e = at_place (IsCommandOf h.commands n) (node_of h n).book.commands k command e owns.sessions

pub contained : (l : List ℕ) (number : ℕ) → Contains l number → is_among l number ≡ true
contained l number c = list_any_at (λ other. other == number) l c.0 number c.1 (eq-eqb (get_or l c.0 number) number c.2)

pub first_of : (l : List ℕ) → 0 < length l → l ≡ get_or l 0 0 ∷ drop 1 l
first_of [] some = absurd (omega arith)
first_of (first ∷ rest) some = refl

pub classes_are : (interview : Option Interview) (classes : List ℕ) → classes_said interview ≡ Some classes → listed_by interview ≡ classes
classes_are None classes e = cc
classes_are (Some interview) classes e = cc

-- ---- commands that are not answered

module _ (h : HostState) (kept : Kept) (n command : ℕ) (owned : IsCommandOf h.commands n command) (begun_so : outcome_kept (kept_of_node kept n) command ≡ outcome.Begun) (x : Holds h kept) where
  some_is : (a b : Command) → Some a ≡ Some b → a ≡ b
  some_is a b e = cc

  said_so : Outcomes as_kept (with_outcome h.commands command outcome.Unanswered) kept.nodes
  said_so number one found = elim (cases_eq number command) [
    | inl same ↦
        let now : changed outcome.Unanswered owned.command ≡ one = some_is (changed outcome.Unanswered owned.command) one
        (sym (ap (λ (o : Option Command). option_map (changed outcome.Unanswered) o) owned.found) ∙ sym (with_same h.commands command outcome.Unanswered)
        ∙ ap (λ (k : ℕ). command_at (with_outcome h.commands command outcome.Unanswered) k) (sym same) ∙ found) in
        ap (λ (c : Command). as_kept c.outcome) (sym now) ∙ sym begun_so ∙ ap (λ (k : ℕ). outcome_kept (kept_of_node kept n) k) (sym same)
        ∙ ap (λ (m : ℕ). outcome_kept (kept_of_node kept m) number) (sym (ap (λ (c : Command). c.order.node) (sym now) ∙ owned.node))
    | inr other ↦ x.outcomes number one (sym (with_other h.commands command number outcome.Unanswered other) ∙ found)
  ]

  pub no_answer : Holds (record h { commands = with_outcome h.commands command outcome.Unanswered }) kept
  no_answer = record {
    places = x.places;
    nodes = x.nodes;
    commands = taken_with h.commands command outcome.Unanswered ∙ x.commands;
    outcomes = said_so;
    cancelled = cancels_stay h.commands kept.cancelled command outcome.Unanswered refl (not_cancelled h kept n command outcome.Begun x owned begun_so refl) x.cancelled;
    order = x.order;
    confirmed = x.confirmed;
    properties = x.properties;
  }

-- what is known of the command of an open session
pub record IsBegun (h : HostState) (kept : Kept) (n command : ℕ) : Type 0 where
  pub owned : IsCommandOf h.commands n command
  pub begun : outcome_kept (kept_of_node kept n) command ≡ outcome.Begun

pub open_fact : (h : HostState) (kept : Kept) (n : ℕ) → OwnsCommands h.commands n (node_of h n) → Holds h kept → (command : ℕ) → open_command (node_of h n) ≡ Some command → IsBegun h kept n command
open_fact h kept n owns x command e = by (open_session (node_of h n).book) refl e
  where
    none : None ≡ Some command → ⊥
    none f = cc

    by : (o : Option ℕ) → open_session (node_of h n).book ≡ o → command_by (node_of h n) o ≡ Some command → IsBegun h kept n command
    by None opened carried = absurd (none carried)
    by (Some session) opened carried =
        let going = going_of (node_of h n).book (kept_of_node kept n).sessions session command (x.nodes n).sessions (x.nodes n).ended opened carried in
        record { owned = session_owned h n session command owns carried; begun = going_is_begun (kept_of_node kept n) command (x.order n) going.0 }

no_answer_if : (h : HostState) (kept : Kept) (n : ℕ) (o : Option ℕ) → ((command : ℕ) → o ≡ Some command → IsBegun h kept n command) → Holds h kept → Holds (unanswered h o) kept
no_answer_if h kept n None known x = x
no_answer_if h kept n (Some command) known x = let b = known command refl in no_answer h kept n command b.owned b.begun x

pub attempt_over : (h : HostState) (kept : Kept) (n : ℕ) (end : AttemptEnd) (o : Option ℕ) → ((command : ℕ) → o ≡ Some command → IsBegun h kept n command) → Holds h kept → Holds (attempt_ended h end o) kept
attempt_over h kept n NoneRan o known x = x
attempt_over h kept n Again o known x = x
attempt_over h kept n (Unanswered fell) o known x = no_answer_if h kept n o known x

-- ---- tasks

pub queued : (h : HostState) (kept : Kept) (task : Task) → Holds h kept → Holds (queues_if_room h task) kept
queued h kept task x = by (is_full h)
  where
    by : (full : Bool) → Holds (if full then h else requests_do h (request_pushes task)) kept
    by true = x
    by false = quiet h kept h.side (after_request h.requests (request_pushes task)) h.served x

pub offered : (h : HostState) (kept : Kept) (n : ℕ) (live : Option (List ℕ)) → Holds h kept → Holds (offering h n live) kept
offered h kept n None x = x
offered h kept n (Some nonce) x = queued h kept (Offer n nonce) x

-- ---- values that are heard

pub heard : (h : HostState) (kept : Kept) (n : ℕ) (s : Setting) → Holds h kept → Holds (record h { store = hearing h.store n s }) kept
heard h kept n s x = record {
  places = x.places;
  nodes = x.nodes;
  commands = x.commands;
  outcomes = x.outcomes;
  cancelled = x.cancelled;
  order = x.order;
  confirmed = λ m p. confirmed-hearing h.store n s m p ∙ x.confirmed m p;
  properties = λ m p there.
      ap (λ (o : Option Stored). is_some o) (get-one h.store n s.property (record (stored_of h.store n s.property) { heard = Some s.value }) m p)
      ∙ by (record (stored_of h.store n s.property) { heard = Some s.value }) ((m == n) && same_property p s.property) (finmap.get h.store (m, p)) (x.properties m p there);
}
  where
    by : (v : Stored) (b : Bool) (o : Option Stored) → is_some o ≡ true → is_some (cond b (Some v) o) ≡ true
    by v true o e = refl
    by v false o e = e

-- ---- nonces

given_so : (live : Option (List ℕ)) (given : ℕ) (drawn : List ℕ) → live ≡ None → (given_from live given ≡ given + 1) × (Some (answer_from live given drawn) ≡ Some (new_nonce given drawn))
given_so None given drawn e = (refl, refl)
given_so (Some nonce) given drawn e = absurd (some e)
  where
    some : Some nonce ≡ None → ⊥
    some f = cc

pub gave : (h : HostState) (kept : Kept) (n : ℕ) (drawn : List ℕ) → live_of h.nonces n ≡ None → Holds h kept
    → Holds (giving h n drawn) (with_kept_node kept n (record (kept_of_node kept n) { given = given_of h.nonces n + 1; live = Some (new_nonce (given_of h.nonces n) drawn) }))
gave h kept n drawn none x =
    let so = given_so (live_of h.nonces n) (given_of h.nonces n) drawn none in
    account_changes h kept n (record (kept_of_node kept n) { given = given_of h.nonces n + 1; live = Some (new_nonce (given_of h.nonces n) drawn) }) refl refl x (after_give (account_of h.nonces n) drawn)
    (account_is (node_of h n) (account_of h.nonces n) (after_give (account_of h.nonces n) drawn) (kept_of_node kept n) (given_of h.nonces n + 1) (Some (new_nonce (given_of h.nonces n) drawn)) so.0 so.1 (x.nodes n))

pub spent : (h : HostState) (kept : Kept) (n : ℕ) → Holds h kept → Holds (spending h n) (with_kept_node kept n (record (kept_of_node kept n) { live = None }))
spent h kept n x =
    let y = x.nodes n in
    account_changes h kept n (record (kept_of_node kept n) { live = None }) refl refl x (record (account_of h.nonces n) { live = None })
    (record { joined = y.joined; listens = y.listens; classes = y.classes; waiting = y.waiting; sessions = y.sessions; ended = y.ended; given = y.given; live = refl; seen = y.seen })

pub sees : (h : HostState) (kept : Kept) (n seen : ℕ) (text : List ℕ) → Holds h kept → Holds (node_does h n (node_takes_nonce seen text)) (kept_after_all kept (seen_records h n seen))
unfolding kept_after_all
sees h kept n seen text x = by ((node_of h n).seen == seen) refl
  where
    by : (same : Bool) → ((node_of h n).seen == seen) ≡ same → Holds (node_does h n (node_takes_nonce seen text)) (kept_after_all kept (if same then [] else Seen n seen ∷ []))
    by true e =
        let y = x.nodes n in
        node_only h kept n (after_nonce (node_of h n) seen text)
        (record { joined = y.joined; listens = y.listens; classes = y.classes; waiting = y.waiting; sessions = y.sessions; ended = y.ended; given = y.given; live = y.live; seen = sym (eqb-true (node_of h n).seen seen e) ∙ y.seen }) x
    by false e =
        node_changes h kept n (seeing (kept_of_node kept n) seen) refl refl x (after_nonce (node_of h n) seen text)
        (saw (node_of h n) (after_nonce (node_of h n) seen text) (account_of h.nonces n) (kept_of_node kept n) seen refl (x.nodes n))

-- ---- commands that are accepted

pub listed_within : (h : HostState) (kept : Kept) (n : ℕ) (classes : List ℕ) → Holds h kept → (node_of h n).classes ≡ Some classes → n < length kept.nodes
listed_within h kept n classes x e = within_by (λ (k : KeptNode). classes_said k.interview) kept.nodes n (λ none. never (sym ((x.nodes n).classes) ∙ e) none)
  where
    never : {o : Option (List ℕ)} → o ≡ Some classes → o ≡ None → ⊥
    never f g = cc

module _ (others : (n : NodeState) (event : NodeEvent) → is_recorded n event ≡ false → as_recorded (after_node n event) ≡ as_recorded n) where
  pub node_quiet : (h : HostState) (kept : Kept) (n : ℕ) (event : NodeEvent) → is_recorded (node_of h n) event ≡ false → Holds h kept → Holds (node_does h n event) kept
  node_quiet h kept n event e x =
      node_only h kept n (after_node (node_of h n) event)
      (alike (node_of h n) (after_node (node_of h n) event) (account_of h.nonces n) (kept_of_node kept n) (others (node_of h n) event e) (x.nodes n)) x

  pub accepted : (h : HostState) (kept : Kept) (order : Order) (carriage : Carriage) (classes : List ℕ) → (node_of h order.node).classes ≡ Some classes → carriage ≡ carriage_of classes order
      → ((n : ℕ) → OwnsCommands h.commands n (node_of h n)) → Holds h kept → Holds (accepting h order carriage) (taking kept (length h.commands + 1) order)
  accepted h kept order carriage classes listed carried owns x =
      let taken : Taken = record { order = order; carriage = carriage_of (listed_by (kept_of_node kept order.node).interview) order } in
      let said : listed_by (kept_of_node kept order.node).interview ≡ classes = classes_are (kept_of_node kept order.node).interview classes (sym (x.nodes order.node).classes ∙ listed) in
      let is : taken ≡ taken_as (waiting_as order carriage)
      = ap (λ (c : Carriage). record { order = order; carriage = c }) (ap (λ (l : List ℕ). carriage_of l order) said ∙ sym carried) in
      let held = taken_holds h kept order carriage taken is (listed_within h kept order.node classes x listed) owns x in
      node_quiet _ _ order.node node_accepts refl held
