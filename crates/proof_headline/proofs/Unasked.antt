-- No order is accepted for a node but the first and those with a device that knows Supervision, so no session of another ends.
use Rattle.std.proofs.Common.{◌≡◌, ◌≢◌, ◌⊎◌, inl, inr, ℕ, zero, suc, ◌==◌, Bool, true, false, if◌then◌else◌, List, [], ◌∷◌, ◌++◌, Option, Some, None, unwrap_or, refl, sym, ap, subst, ◌∙◌, slice_get, length, arith}
use Rattle.std.proofs.lemmas.Bool.{eqb-true, false_from_ne_true as not_true}
use Rattle.std.specs.Prelude.{not, is_some}
use Rattle.std.specs.List.{AllByRecursion}
use Rattle.zw_base.specs.declared.order.Order.{Order}
use Rattle.device_kinds.specs.declared.kind.Kind.TheVariants.{Switch}
use Rattle.device_kinds.specs.Kind.{classes_of as kind_classes}
use Rattle.device_sim.specs.State.{State}
use Rattle.zw_text.specs.declared.entry.Entry.{Entry}
use Rattle.zw_text.specs.declared.entry.Outcome.TheVariants.{Waiting}
use Rattle.zw_text.specs.declared.line.Line.{Line}
use Rattle.law_transcript.specs.Nodes.{device_of, first_node, is_interviewed, is_supervised, known_at_first, listed_by, listing_of, always}
use Rattle.host_keep.specs.Kept.{Taken}
use Rattle.host_keep.specs.declared.final_status.FinalStatus.TheVariants as final
use Rattle.host_orders.specs.Classes.{lists, actuator_of}
use Rattle.host_orders.specs.Messages.{classes_needed}
use Rattle.host_orders.specs.Wrapping.{supervised_text, wrapped_len}
use Rattle.host_orders.specs.Refusals.{Known, classes_of, first_refusal, first_some, is_bad, known_refusal, mailbox_full, too_long, unless, unsupported}
use Rattle.host_orders.specs.declared.carriage.Carriage.{Carriage}
use Rattle.host_orders.specs.declared.refused.Refused.{Refused}
use Rattle.host_orders.specs.declared.refused.Refused.TheVariants.{NotJoined, NotInterviewed, BadValue, Unsupervised}
use Rattle.host_node.specs.TableState.{node_of}
use Rattle.host_model.specs.State.{HostState, Command}
use Rattle.host_model.specs.Events.{HostEvent, Accepts, Finishes}
use Rattle.host_model.specs.After.{after}
use Rattle.host_model.specs.May.{IsAccepted, known_of, May as MayHost}
use Rattle.host_model.specs.Did.{MayAll as MayAllHost}
use Rattle.host_model.proofs.Accepted.{holds}
use Rattle.proof_host.specs.Entries.{entries_at}
use Rattle.proof_host.specs.Facts.{Facts}
use Rattle.proof_host.specs.Tables.{taken_at, taken_by}
use Rattle.outside_model.specs.Events.{Begins_line}
use Rattle.world_model.specs.State.{Machine}
use Rattle.world_model.specs.Events.{Event, Outside_does, Host_does, Host_takes, happens, entries, May}
use Rattle.world_model.specs.Did.{happens_all, entries_all, MayAll}
use Rattle.world_model.specs.Prefixes.{LinePart}
use Rattle.host_model.proofs.Silence.{judged_silent}
use Rattle.proof_spoken.specs.Restarts.{AllStartWell, StartsWell}
use Rattle.proof_spoken.specs.proof_once.Truly.{AreTrue, IsTrue, TellTruly, TellsTruly}
use Rattle.proof_spoken.specs.Said.{AllKnow, KnowsListing}
use Rattle.world_lines.specs.Spoken.{Spoken, after as after_line, entries_of}
use Rattle.proof_spoken.specs.Spoken.{IsSpoken, AreSpoken}
use Rattle.proof_spoken.proofs.Orders.{IsNoOrder, SameOrders, event_kept}
use Rattle.proof_spoken.proofs.Plain.{ArePlain, spoken_part, line_kind, line_orders, line_plain, silent_none}
use Rattle.proof_spoken.proofs.SaidOrders.{events_kept, machine_kept, may_accept, taken_then}
use Rattle.proof_headline.specs.Truly.{IsAskable, LinesAreTrue}
use Rattle.proof_headline.proofs.Succeeding.{owned}

-- ---- what an order needs

pub first_none : (first : Option Refused) (more : List (Option Refused)) → first_some (first ∷ more) ≡ None → (first ≡ None) × (first_some more ≡ None)
first_none None more e = (refl, e)
first_none (Some refused) more e = absurd cc

-- the rules of the classes are the third of all
known_none : (known : Known) (order : Order) → first_refusal known order ≡ None → known_refusal (classes_of known) known.waiting order ≡ None
unfolding first_refusal
known_none known order e =
    let last = known_refusal (classes_of known) known.waiting order ∷ [] in
    let joined = first_none (unless known.joined NotJoined) (unless (is_some known.classes) NotInterviewed ∷ last) e in
    let interviewed = first_none (unless (is_some known.classes) NotInterviewed) last joined.1 in
    (first_none (known_refusal (classes_of known) known.waiting order) [] interviewed.1).0

-- and among these the third asks for Supervision
supervision_listed : (classes : List ℕ) (waiting : ℕ) (order : Order) → known_refusal classes waiting order ≡ None → lists classes 0x6C ≡ true
unfolding known_refusal
supervision_listed classes waiting order e =
    let last = too_long classes (length (supervised_text (actuator_of classes) order)) (wrapped_len (actuator_of classes) order) ∷ mailbox_full waiting ∷ [] in
    let supported = first_none (unsupported classes (classes_needed (actuator_of classes) order.what order.end)) (unless (not (is_bad (actuator_of classes) order.what)) BadValue ∷ unless (lists classes 0x6C) Unsupervised ∷ last) e in
    let good = first_none (unless (not (is_bad (actuator_of classes) order.what)) BadValue) (unless (lists classes 0x6C) Unsupervised ∷ last) supported.1 in
    holds (lists classes 0x6C) Unsupervised (first_none (unless (lists classes 0x6C) Unsupervised) last good.1).0

-- ---- what a node lists

kind_lists : (device : State) → is_supervised device ≡ false → lists (kind_classes device.kind) 0x6C ≡ false
unfolding lists
kind_lists device none = none

unlisted_by : (found : Option State) → ((device : State) → found ≡ Some device → is_supervised device ≡ false) → lists (listed_by found) 0x6C ≡ false
unfolding lists
unlisted_by None none = refl
unlisted_by (Some device) none = kind_lists device (none device refl)

pub unlisted : (devices : List State) (node : ℕ) → (IsAskable devices node → ⊥) → lists (listing_of devices node) 0x6C ≡ false
unlisted devices node other = unlisted_by (device_of node devices) (λ device found. not_true (is_supervised device) (λ knows. other (inr (device, found, knows))))

-- a node is one of those, or is not
pub askable_or : (devices : List State) (node : ℕ) → IsAskable devices node ⊎ (IsAskable devices node → ⊥)
askable_or devices node = by (node == first_node) refl
  where
    by_device : (found : Option State) → device_of node devices ≡ found → node ≢ first_node → IsAskable devices node ⊎ (IsAskable devices node → ⊥)
    by_device None is later = inr (λ askable. elim askable [
      | inl first ↦ later first
      | inr (device, found, knows) ↦ cc
    ])
    by_device (Some device) is later = by_kind (is_supervised device) refl
      where
        by_kind : (b : Bool) → is_supervised device ≡ b → IsAskable devices node ⊎ (IsAskable devices node → ⊥)
        by_kind true knows = inl (inr (device, is, knows))
        by_kind false none = inr (λ askable. elim askable [
          | inl first ↦ later first
          | inr (other, found, knows) ↦
              let same : device ≡ other = cc in
              absurd (never (sym none ∙ (ap (λ (d : State). is_supervised d) same ∙ knows)))
        ])
          where
            never : false ≡ true → ⊥
            never e = cc

    by : (b : Bool) → (node == first_node) ≡ b → IsAskable devices node ⊎ (IsAskable devices node → ⊥)
    by true e = inl (inl (eqb-true node first_node e))
    by false e = by_device (device_of node devices) refl (λ same. absurd (grind (arith, e, same)))

-- ---- an order for such a node is refused

module _ (listing : ℕ → List ℕ) (node : ℕ) (later : node ≢ first_node) (none_listed : lists (listing node) 0x6C ≡ false) where
  known_at : (b : Bool) (classes : List ℕ) → Some classes ≡ (if b then Some (listing node) else known_at_first node) → lists classes 0x6C ≡ true → ⊥
  known_at true classes is listed =
      let same : classes ≡ listing node = cc in
      absurd (true_not_false (sym listed ∙ (ap (λ (l : List ℕ). lists l 0x6C) same ∙ none_listed)))
    where
      true_not_false : true ≡ false → ⊥
      true_not_false e = cc
  known_at false classes is listed = first (node == first_node) refl is
    where
      first : (b : Bool) → (node == first_node) ≡ b → Some classes ≡ (if b then Some (kind_classes Switch) else None) → ⊥
      first true e is = absurd (later (eqb-true node first_node e))
      first false e is = cc

  refused : (past : List Entry) (h : HostState) (order : Order) (carriage : Carriage) → KnowsListing (always listing) past h → IsAccepted h order carriage → order.node ≢ node
  refused past h order carriage knows is = λ same.
      let known : Known = known_of (node_of h.nodes order.node) in
      let listed = supervision_listed (classes_of known) known.waiting order (known_none known order is.unrefused) in
      let classes_are : classes_of known ≡ is.classes = ap (λ (o : Option (List ℕ)). unwrap_or o []) is.listed in
      known_at (is_interviewed past node) is.classes
      (sym is.listed ∙ (ap (λ (n : ℕ). (node_of h.nodes n).classes) same ∙ knows node))
      (subst (λ (l : List ℕ). lists l 0x6C ≡ true) classes_are listed)

-- ---- the table has no order for the node

module _ (node : ℕ) where
  abbrev pub HasNone : List Command → Type 0
  HasNone commands = (number : ℕ) (taken : Taken) → taken_at commands number ≡ Some taken → taken.order.node ≢ node

  pub none_at_first : HasNone []
  none_at_first zero taken e = absurd (grind arith)
  none_at_first (suc at) taken e = absurd (grind arith)

  same_none : (old new : List Command) → SameOrders old new → HasNone old → HasNone new
  same_none old new same none = λ number taken e. none number taken (sym (same.taken number) ∙ e)

  last_taken : (commands : List Command) (one : Command) (at : ℕ) (taken : Taken) → taken_by (slice_get (commands ++ one ∷ []) at) ≡ Some taken → (taken_by (slice_get commands at) ≡ Some taken) ⊎ (taken_by (Some one) ≡ Some taken)
  last_taken [] one zero taken e = inr e
  last_taken [] one (suc at) taken e = absurd (grind arith)
  last_taken (first ∷ commands) one zero taken e = inl e
  last_taken (first ∷ commands) one (suc at) taken e = last_taken commands one at taken e

  more_none : (commands : List Command) (one : Command) → one.order.node ≢ node → HasNone commands → HasNone (commands ++ one ∷ [])
  more_none commands one other none = λ number taken e. by number taken e
    where
      some_same : (a b : Taken) → Some a ≡ Some b → a ≡ b
      some_same a b e = cc

      by : (number : ℕ) (taken : Taken) → taken_at (commands ++ one ∷ []) number ≡ Some taken → taken.order.node ≢ node
      by zero taken e = absurd (grind arith)
      by (suc at) taken e = elim (last_taken commands one at taken e) [
        | inl old ↦ none (suc at) taken old
        | inr new ↦ λ same. other (ap (λ (t : Taken). t.order.node) (some_same (record { order = one.order; carriage = one.carriage }) taken new) ∙ same)
      ]

  module _ (each : (past : List Entry) (h : HostState) (event : HostEvent) → Facts past h → MayHost h event → Facts (past ++ entries_at h event) (after h event))
      (keeps : (past : List Entry) (m : Machine) (event : Event) → Facts past m.host.state → May m event → StartsWell m event → Facts (past ++ entries m event) (happens m event).host.state)
      (keep : (past : List Entry) (m : Machine) (events : List Event) → Facts past m.host.state → MayAll m events → AllStartWell m events → Facts (past ++ entries_all m events) (happens_all m events).host.state) where
    none_told : (past : List Entry) (h : HostState) (devices : List State) (event : HostEvent) → Facts past h → MayHost h event → HasNone h.commands → TellsTruly node h devices event
    none_told past h devices (Finishes n session id command final.Success wake_request) facts may none = λ same.
        let own = owned h.commands n (node_of h.nodes n).book.commands session command (facts.host.owns n).sessions may.carried in
        absurd (none command (record { order = own.command.order; carriage = own.command.carriage }) (ap taken_by own.found) (own.node ∙ same))
    none_told past h devices event facts may none = tt

    hosts_told : (past : List Entry) (h : HostState) (devices : List State) (events : List HostEvent) → Facts past h → MayAllHost h events → AllByRecursion IsNoOrder events → HasNone h.commands → TellTruly node h devices events
    hosts_told past h devices [] facts may plain none = tt
    hosts_told past h devices (event ∷ events) facts may plain none = (
      none_told past h devices event facts may.0 none,
      hosts_told (past ++ entries_at h event) (after h event) devices events (each past h event facts may.0) may.1 plain.1 (same_none h.commands (after h event).commands (event_kept h event plain.0) none),
    )

    event_told : (past : List Entry) (m : Machine) (event : Event) → Facts past m.host.state → May m event → HasNone m.host.state.commands → IsTrue node m event
    unfolding May
    event_told past m (Host_does event) facts may none = none_told past m.host.state m.outside.devices event facts may.0 none
    event_told past m (Host_takes count rest items events) facts may none =
        hosts_told past m.host.state m.outside.devices events facts may.may (silent_none m.host.state events (judged_silent m.host.state items events may.judged)) none
    event_told past m event facts may none = tt

    events_told : (past : List Entry) (m : Machine) (events : List Event) → Facts past m.host.state → MayAll m events → AllStartWell m events → ArePlain events → HasNone m.host.state.commands → AreTrue node m events
    events_told past m [] facts may well plain none = tt
    events_told past m (event ∷ events) facts may well plain none = (
      event_told past m event facts may.0 none,
      events_told (past ++ entries m event) (happens m event) events (keeps past m event facts may.0 well.0) may.1 well.1 plain.1
          (same_none m.host.state.commands (happens m event).host.state.commands (machine_kept m event plain.0 may.0 well.0) none),
    )

    -- ---- lines

    -- the line tells no success of the node, and the table has no order for it then
    record IsTold (m : Machine) (events : List Event) : Type 0 where
      pub told : AreTrue node m events
      pub none : HasNone (happens_all m events).host.state.commands

    plain_told : (past : List Entry) (m : Machine) (events : List Event) → Facts past m.host.state → MayAll m events → AllStartWell m events → ArePlain events → HasNone m.host.state.commands → IsTold m events
    plain_told past m events facts may well plain none = record {
      told = events_told past m events facts may well plain none;
      none = same_none m.host.state.commands (happens_all m events).host.state.commands (events_kept m events plain may well) none;
    }

    order_told : (past : List Entry) (m : Machine) (order : Order) (carriage : Carriage) (later : List Event) → Facts past m.host.state → MayAll m (Outside_does Begins_line ∷ Host_does (Accepts order carriage) ∷ later)
        → AllStartWell m (Outside_does Begins_line ∷ Host_does (Accepts order carriage) ∷ later) → ArePlain later → order.node ≢ node → HasNone m.host.state.commands → IsTold m (Outside_does Begins_line ∷ Host_does (Accepts order carriage) ∷ later)
    order_told past m order carriage later facts may well plain other none =
        let prefix : List Event = Outside_does Begins_line ∷ Host_does (Accepts order carriage) ∷ [] in
        let k : Machine = happens_all m prefix in
        let now : HasNone k.host.state.commands = subst (λ (cs : List Command). HasNone cs) (sym (taken_then m order carriage))
        (more_none m.host.state.commands (record { order = order; carriage = carriage; outcome = Waiting }) other none) in
        let rest = plain_told (past ++ entries_all m prefix) k later (keep past m prefix facts (may.0, (may.1.0, tt)) (well.0, (well.1.0, tt))) may.1.1 well.1.1 plain now in
        record { told = (tt, (tt, rest.told)); none = rest.none }

    module _ (listing : ℕ → List ℕ) (later : node ≢ first_node) (none_listed : lists (listing node) 0x6C ≡ false) where
      line_told : (past known : List Entry) (m : Machine) (spoken : Spoken) (more : List Spoken) → IsSpoken more m spoken → Facts past m.host.state → KnowsListing (always listing) known m.host.state → HasNone m.host.state.commands → IsTold m spoken.events
      line_told past known m spoken more is facts known_now none = elim (line_kind spoken.line) [
        | inl (order, asks) ↦ elim (line_orders order m spoken.events (subst (λ (l : Line). LinePart l m spoken.events) asks (spoken_part more m spoken is))) [
          | inl orders ↦
              let prefix : List Event = Outside_does Begins_line ∷ Host_does (Accepts order orders.carriage) ∷ orders.later in
              let may : MayAll m prefix = subst (λ (es : List Event). MayAll m es) orders.are is.may in
              let well : AllStartWell m prefix = subst (λ (es : List Event). AllStartWell m es) orders.are is.well in
              subst (λ (es : List Event). IsTold m es) (sym orders.are)
              (order_told past m order orders.carriage orders.later facts may well orders.plain
              (refused listing node later none_listed known m.host.state order orders.carriage known_now (may_accept m order orders.carriage (may.0, (may.1.0, tt)))) none)
          | inr plain ↦ plain_told past m spoken.events facts is.may is.well plain none
        ]
        | inr nothing ↦ plain_told past m spoken.events facts is.may is.well (line_plain spoken.line m spoken.events nothing (spoken_part more m spoken is)) none
      ]

      pub lines_told : (past known : List Entry) (m : Machine) (lines : List Spoken) → AreSpoken m lines → AllKnow listing known m lines → Facts past m.host.state → HasNone m.host.state.commands → LinesAreTrue node m lines
      lines_told past known m [] are knows facts none = tt
      lines_told past known m (spoken ∷ more) are knows facts none =
          let one : IsTold m spoken.events = line_told past known m spoken more are.0 facts knows.0 none in
          (one.told, lines_told (past ++ entries_all m spoken.events) (known ++ entries_of m spoken) (after_line m spoken) more are.1 knows.1 (keep past m spoken.events facts are.0.may are.0.well) one.none)
