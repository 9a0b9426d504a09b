-- The records of an event may follow those that gave what a host has.
use Rattle.std.proofs.Common.{◌≡◌, ℕ, suc, ◌+◌, ◌%◌, ◌<◌, ◌≤◌, ◌==◌, ◌&&◌, nat_lt, Bool, true, false, not, if◌then◌else◌, is_none, unwrap_or, List, [], ◌∷◌, ◌++◌, length, get_or, Option, Some, None, option_map, ◌⊎◌, inl, inr, refl, sym, ap, ◌∙◌, subst, arith}
use Rattle.std.specs.Prelude.{slice_index}
use Rattle.std.proofs.lemmas.Bool.{eq-eqb, and_from as both_so, not_from_false as not_so}
use Rattle.zw_base.specs.declared.order.Order.{Order}
use Rattle.supervision.specs.Host.{begun_of, open_session}
use Rattle.s0_session.specs.Nonces.{given_of, live_of, new_nonce}
use Rattle.s0_session.specs.Sending.{seen_after, taken_from}
use Rattle.host_orders.specs.Refusals.{Known, first_refusal, refusal_of}
use Rattle.host_orders.specs.Settings.{settings, properties_of}
use Rattle.host_orders.specs.Wrapping.{carriage_of}
use Rattle.host_orders.specs.declared.carriage.Carriage.{Carriage}
use Rattle.value_store.specs.Values.{count_with}
use Rattle.host_node.specs.State.{NodeState}
use Rattle.host_keep.specs.Kept.{Kept, node_of as kept_of_node, after as kept_after, after_all as kept_after_all}
use Rattle.host_keep.specs.Legal.{is_legal, is_first, first_illegal, known_of as kept_known_of, properties_with as kept_properties_with}
use Rattle.host_keep.specs.Status.{status_byte}
use Rattle.host_keep.specs.declared.record.Record.{Record}
use Rattle.host_keep.specs.declared.record.Record.TheVariants as record_of
use Rattle.host_model.specs.State.{HostState, node_of}
use Rattle.host_model.specs.After.{after, node_for}
use Rattle.host_model.specs.Events.{HostEvent, Accepts, Cancels, Joins, Interviews, Finishes, Gives, Spends, Spends_unread, Takes_nonce, Begins}
use Rattle.host_model.specs.Records.{records_at, seen_records}
use Rattle.host_model.specs.May.{May, IsAccepted}
use Rattle.host_model.specs.Restoring.{may_restore, is_session, properties_with, listed}
use Rattle.host_model.specs.Holding.{Holds}
use Rattle.host_model.specs.Recording.{IsOfJoined, AllOfJoined}
use Rattle.host_model.proofs.AllEvents.{kept_by}
use Rattle.host_model.specs.Did.{records_all, MayAll}
use Rattle.host_model.specs.Facts.{HostFacts}
use Rattle.host_node.specs.Steps.{as_recorded}
use Rattle.host_node.specs.Facts.{is_recorded}
use Rattle.host_node.specs.Events.{NodeEvent, after as after_node}
use Rattle.host_model.proofs.OpenSessions.{final_session}
use Rattle.host_model.proofs.Outcomes.{apart_is}
use Rattle.host_model.proofs.Legal.{same_known, same_count, fewer_kept, NoOrder, others_test}
use Rattle.host_model.proofs.Events.{contained}
use Rattle.host_model.proofs.Tests.{unrefused_so}
use Rattle.host_model.proofs.Fold.{step_none}

-- ---- one record

one_legal : (kept : Kept) (one : Record) → is_legal kept one ≡ true → first_illegal kept (one ∷ []) ≡ None
unfolding first_illegal
one_legal kept one e = ap (λ (b : Bool). if b then option_map suc None else Some 0) e

-- the test of a record that is no order is that of the host
legal_so : (h : HostState) (kept : Kept) (one : Record) → NoOrder one → Holds h kept → may_restore h one ≡ true → first_illegal kept (one ∷ []) ≡ None
legal_so h kept one none x may = one_legal kept one (sym (others_test h kept one none x) ∙ may)

all_so : (a b c : Bool) → a ≡ true → b ≡ true → c ≡ true → (a && b && c) ≡ true
all_so true true true e f g = refl
all_so true true false e f g = cc
all_so true false c e f g = cc
all_so false b c e f g = cc

itself : (k : ℕ) → (k == k) ≡ true
itself k = eq-eqb k k refl

is_nothing : {X : Type 0} (o : Option X) → o ≡ None → is_none o ≡ true
is_nothing None e = refl
is_nothing (Some x) e = cc

accepts_legal : (h : HostState) (kept : Kept) (order : Order) (carriage : Carriage) → IsAccepted h order carriage → Holds h kept → is_legal kept (record_of.Accepted (length h.commands + 1) order) ≡ true
accepts_legal h kept order carriage may x =
    let known : Known = kept_known_of (kept_of_node kept order.node) in
    let unrefused : first_refusal known order ≡ None = ap (λ (k : Known). first_refusal k order) (sym (same_known h kept order.node x)) ∙ may.unrefused in
    let lists : carriage ≡ carriage_of (listed (node_of h order.node)) order = may.carried ∙ ap (λ (o : Option (List ℕ)). carriage_of (unwrap_or o []) order) (sym may.listed) in
    let few : properties_with h order ≤ 512 = subst (λ (c : Carriage). count_with h.store order.node (properties_of (settings c.actuator order)) ≤ 512) lists may.few in
    let fewer = fewer_kept h kept order x in
    both_so (length h.commands + 1 == length kept.commands + 1) (is_none (refusal_of known (kept_properties_with kept order) order))
    (eq-eqb (length h.commands + 1) (length kept.commands + 1) (ap (λ (k : ℕ). k + 1) (same_count h kept x)))
    (is_nothing (refusal_of known (kept_properties_with kept order) order) (unrefused_so known (kept_properties_with kept order) order unrefused (omega (arith, few, fewer))))

pub opened_so : (o : Option ℕ) (session : ℕ) → o ≡ Some session → is_session o session ≡ true
opened_so None session e = cc
opened_so (Some current) session e = eq-eqb session current (same e)
  where
    same : Some current ≡ Some session → session ≡ current
    same f = cc

first_so : (l : List ℕ) (command : ℕ) → 0 < length l → command ≡ get_or l 0 0 → is_first l command ≡ true
first_so [] command some e = absurd (omega arith)
first_so (first ∷ rest) command some e = eq-eqb first command (sym e)

-- ---- nonces that are seen

seen_or_next : (seen first now : ℕ) → seen_after seen first ≡ Some now → (now ≡ seen) ⊎ (now ≡ seen + 1)
seen_or_next seen first now e = by (nat_lt 0 seen && (first == seen % 256)) (first == (seen + 1) % 256) e
  where
    by : (a b : Bool) → (if a then Some seen else (if b then Some (seen + 1) else None)) ≡ Some now → (now ≡ seen) ⊎ (now ≡ seen + 1)
    by true b f = inl cc
    by false true f = inr cc
    by false false f = absurd cc

taken_or_next : (pending : Option (List ℕ)) (seen first now : ℕ) → taken_from pending seen first ≡ Some now → (now ≡ seen) ⊎ (now ≡ seen + 1)
taken_or_next None seen first now e = absurd cc
taken_or_next (Some plain) seen first now e = seen_or_next seen first now e

sees_legal : (h : HostState) (kept : Kept) (n seen : ℕ) → (seen ≡ (node_of h n).seen) ⊎ (seen ≡ (node_of h n).seen + 1) → Holds h kept → first_illegal kept (seen_records h n seen) ≡ None
unfolding first_illegal
sees_legal h kept n seen next x = by ((node_of h n).seen == seen) refl
  where
    other : ((node_of h n).seen == seen) ≡ false → seen ≡ (node_of h n).seen + 1
    other f = elim next [
      | inl same ↦ absurd (never (eq-eqb (node_of h n).seen seen (sym same)) f)
      | inr more ↦ more
    ]
      where
        never : {b : Bool} → b ≡ true → b ≡ false → ⊥
        never p q = cc

    by : (same : Bool) → ((node_of h n).seen == seen) ≡ same → first_illegal kept (if same then [] else record_of.Seen n seen ∷ []) ≡ None
    by true f = refl
    by false f = one_legal kept (record_of.Seen n seen) (eq-eqb seen ((kept_of_node kept n).seen + 1) (other f ∙ ap (λ (k : ℕ). k + 1) (x.nodes n).seen))

-- ---- all of them

-- the event's records may follow
pub legal_by : (h : HostState) (kept : Kept) (event : HostEvent) → May h event → IsOfJoined h event → Holds h kept → first_illegal kept (records_at h event) ≡ None
unfolding first_illegal
legal_by h kept (Accepts order carriage) may so x = one_legal kept (record_of.Accepted (length h.commands + 1) order) (accepts_legal h kept order carriage may x)
legal_by h kept (Cancels command) may so x = legal_so h kept (record_of.Cancelled command) tt x (contained (node_of h (node_for h command)).waiting command may)
legal_by h kept (Joins n) may so x =
    legal_so h kept (record_of.Joined n) tt x (both_so (not (node_of h n).joined) (not (n == 1)) (not_so (node_of h n).joined may.0) (not_so (n == 1) (apart_is n 1 (λ e. may.1 (sym e)))))
legal_by h kept (Interviews n listens classes update) may so x = legal_so h kept (record_of.Classes n listens classes) tt x so
legal_by h kept (Finishes n session id command status wake_request) may so x =
    legal_so h kept (record_of.Final n session status) tt x (opened_so (open_session (node_of h n).book) session (final_session (node_of h n).book id (status_byte status) session may.told))
legal_by h kept (Gives n drawn) may so x =
    legal_so h kept (record_of.Given n (given_of h.nonces n + 1) (new_nonce (given_of h.nonces n) drawn)) tt x
    (all_so (given_of h.nonces n + 1 == given_of h.nonces n + 1) (is_none (live_of h.nonces n)) ((given_of h.nonces n + 1) % 256 == (given_of h.nonces n + 1) % 256)
    (itself (given_of h.nonces n + 1)) (is_nothing (live_of h.nonces n) may.0) (itself ((given_of h.nonces n + 1) % 256)))
legal_by h kept (Spends n) may so x = legal_so h kept (record_of.Spent n) tt x may
legal_by h kept (Spends_unread n payload) may so x = legal_so h kept (record_of.Spent n) tt x may
legal_by h kept (Takes_nonce n seen text) may so x = sees_legal h kept n seen (taken_or_next (node_of h n).pending (node_of h n).seen (slice_index may.0 0) seen may.2) x
legal_by h kept (Begins n session command) may so x =
    legal_so h kept (record_of.Begun n session command) tt x
    (all_so (session == begun_of (node_of h n).book + 1) (is_none (open_session (node_of h n).book)) (is_first (node_of h n).waiting command)
    (eq-eqb session (begun_of (node_of h n).book + 1) may.2) (is_nothing (open_session (node_of h n).book) may.1.1) (first_so (node_of h n).waiting command may.1.0 may.3))
legal_by h kept event may so x = refl

-- ---- and of events one after another

pub legal-append : (kept : Kept) (records more : List Record) → first_illegal kept records ≡ None → first_illegal (kept_after_all kept records) more ≡ None → first_illegal kept (records ++ more) ≡ None
unfolding first_illegal kept_after_all
legal-append kept [] more e f = f
legal-append kept (one ∷ records) more e f =
    let both = step_none (is_legal kept one) (first_illegal (kept_after kept one) records) e in
    ap (λ (b : Bool). if b then option_map suc (first_illegal (kept_after kept one) (records ++ more)) else Some 0) both.0
    ∙ ap (λ (o : Option ℕ). option_map suc o) (legal-append (kept_after kept one) records more both.1 f)

module _ (others : (n : NodeState) (event : NodeEvent) → is_recorded n event ≡ false → as_recorded (after_node n event) ≡ as_recorded n)
    (facts : (h : HostState) (event : HostEvent) → HostFacts h → May h event → HostFacts (after h event)) where
  pub all_legal : (h : HostState) (kept : Kept) (events : List HostEvent) → HostFacts h → MayAll h events → AllOfJoined h events → Holds h kept → first_illegal kept (records_all h events) ≡ None
  unfolding first_illegal
  all_legal h kept [] f may so x = refl
  all_legal h kept (event ∷ more) f may so x =
      legal-append kept (records_at h event) (records_all (after h event) more) (legal_by h kept event may.0 so.0 x)
      (all_legal (after h event) (kept_after_all kept (records_at h event)) more (facts h event f may.0) may.1 so.1 (kept_by others h kept event f may.0 x))
