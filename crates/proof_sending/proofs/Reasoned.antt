-- All that a host has to send stays due through its events, and what it writes is.
use Rattle.std.proofs.Common.{◌≡◌, ℕ, zero, suc, ◌+◌, Bool, true, false, inl, inr, List, [], ◌∷◌, ◌++◌, refl, sym, ap, subst, ◌∙◌, arith}
use Rattle.std.specs.Prelude.{Option, Some, None, ◌==◌, if◌then◌else◌, replicate}
use Rattle.std.specs.List.{AllByRecursion}
use Rattle.std.specs.Option.{option_or}
use Rattle.std.proofs.lemmas.Bool.{cases_eq}
use Rattle.zw_text.specs.declared.entry.Entry.{Entry}
use Rattle.serial_frame.specs.Frame.{FrameParts}
use Rattle.serial_frame.specs.declared.item.Item.{Item}
use Rattle.serial_frame.specs.declared.item.Item.TheVariants.{Good, Refused}
use Rattle.serial_frame.specs.declared.item.Refusal.TheVariants.{Stray, BadLength, BadSum, BadKind, Aborted}
use Rattle.serial_frame.specs.declared.unit.Unit.TheVariants.{Ack, Nak, Can, Framed}
use Rattle.serial_link.specs.State.{copy_due, pause_after, tick_side}
use Rattle.serial_link.specs.declared.turn.Turn.{Turn}
use Rattle.serial_link.specs.declared.turn.Turn.TheVariants.{Idle, Copied, Paused}
use Rattle.supervision.specs.Host.{open_session}
use Rattle.s0_crypto.specs.declared.key_pair.Keys.{Keys}
use Rattle.s0_session.specs.Nonces.{unused}
use Rattle.chip_functions.specs.Field.{IsNode}
use Rattle.s0_crypto.specs.Sealing.{sealed_text}
use Rattle.s0_crypto.proofs.SealingLemmas.{sealed_is}
use Rattle.host_keep.specs.Rows.{IsRecord}
use Rattle.host_keep.specs.declared.record.Record.{Record}
use Rattle.host_orders.specs.Wrapping.{message_of}
use Rattle.host_orders.specs.declared.carriage.Form.{Form}
use Rattle.host_requests.specs.Frames.{frame_of}
use Rattle.host_requests.specs.State.{next_id}
use Rattle.host_requests.specs.declared.task.Task.{Task}
use Rattle.host_requests.specs.declared.task.Purpose.{Purpose}
use Rattle.host_requests.specs.declared.task.Purpose.TheVariants.{Attempt, Abort}
use Rattle.host_node.specs.State.{ends_to, has_work}
use Rattle.host_node.specs.Steps.{tick_end}
use Rattle.host_node.specs.Search.{least_above, next_of}
use Rattle.host_node.specs.TableState.{node_of as node_among}
use Rattle.host_node.specs.declared.attempt.Plan.{Plan}
use Rattle.host_node.specs.declared.attempt.Plan.TheVariants as plans
use Rattle.host_node.proofs.Searches.{what_is_least}
use Rattle.host_model.specs.State.{HostState, first_host, node_of, command_at}
use Rattle.host_model.specs.Ends.{attempt_entries}
use Rattle.host_model.specs.Sessions.{open_command, settings_with}
use Rattle.host_model.specs.Facts.{HostFacts}
use Rattle.host_model.specs.After.{after, gives_up, is_busy, is_full, is_held, line_ticked, task_purpose}
use Rattle.host_model.specs.May.{May}
use Rattle.host_model.specs.Opening.{opened, restored_all}
use Rattle.host_model.specs.Outs.{answer_to, copy_out, dropped_if, failing_entries, held_entries, noted, outs, request_entries, stored_entries}
use Rattle.host_model.specs.Events.{HostEvent, Queues, Queues_interview, Queues_probe, Hears, Requests_do, Finishes, Offers, Gives, Takes_nonce, Resends, Line_ticks, Node_ticks, Queues_no_more, Submits_abort, Submits_front, Starts, Gives_text, Gives_segment, Begins}
use Rattle.host_model.specs.declared.out.HostOut.{HostOut}
use Rattle.proof_spoken.specs.proof_messages.Hosts.{HasTexts}
use Rattle.proof_spoken.proofs.SealedTexts.{BringsText, TextsLeft, bare_texts, closed_bare, first_bare, has_place, restarting_bare, texts_go}
use Rattle.proof_air.specs.Carrying.{TurnHas}
use Rattle.proof_line.specs.proof_host.Facts.{Facts}
use Rattle.proof_spoken.specs.proof_once.Tied.{KeepsOrders}
use Rattle.proof_sending.specs.Reasons.{Reason, IsCarriedBy, IsPart, IsToSeal, IsDueTask, IsDuePurpose, IsDueFrame, HasEight, IsReasoned, IsSealedSo, HasReason, WritesDue}
use Rattle.proof_sending.proofs.Waiting.{Brings, HostHas, all_restored, event_goes}
use Rattle.proof_sending.proofs.Books.{BeginsNone, EventKeeps, SameBooks, books_stay, others_stay}
use Rattle.proof_sending.proofs.Parts.{IsStarted, segment_part, start_is, texts_stay, waiting_stays}

-- ---- the node that is served

least_is_node : (passes : ℕ → Bool) (number n : ℕ) → least_above passes number ≡ Some n → IsNode n
least_is_node passes number n e = let f = what_is_least passes number n e in (omega (arith, f.from), omega (arith, f.from, f.to))

either_is_node : (a b : Option ℕ) (n : ℕ) → option_or a b ≡ Some n → (a ≡ Some n → IsNode n) → (b ≡ Some n → IsNode n) → IsNode n
either_is_node None b n e first second = second e
either_is_node (Some k) b n e first second = first e

served_is_node : (h : HostState) (n : ℕ) → next_of h.nodes h.served ≡ Some n → IsNode n
served_is_node h n e =
    let works : ℕ → Bool = λ node. has_work (node_among h.nodes node) in
    either_is_node (least_above works h.served) (least_above works 0) n e (least_is_node works h.served n) (least_is_node works 0 n)

-- ---- where a session begins

idle_has : (Frame : FrameParts → Type 0) (turn : Turn) → turn ≡ Idle → TurnHas Frame turn
idle_has Frame turn is = subst (λ (t : Turn). TurnHas Frame t) (sym is) tt

not_busy : (turn : Turn) → is_busy turn ≡ false → turn ≡ Idle
not_busy Idle free = refl
not_busy (Copied f copies ticks) free = absurd (let bad : true ≡ false = free in cc)
not_busy (Paused f copies ticks) free = absurd (let bad : true ≡ false = free in cc)

-- a command that was taken stays as it was taken
abbrev pub OrdersStay : Type 0
OrdersStay = (h : HostState) (event : HostEvent) → KeepsOrders h.commands (after h event).commands

-- what is proved of hosts
pub record Laws : Type 0 where
  pub event_keeps : EventKeeps
  pub orders_stay : OrdersStay
  pub texts_left : TextsLeft

module _ (laws : Laws) (Holds : Reason → Type 0) (keys : Keys) where
  abbrev Frame : HostState → FrameParts → Type 0
  Frame h f = IsDueFrame Holds keys h f

  abbrev Waits : HostState → Task → Type 0
  Waits h task = IsDueTask Holds keys h task

  abbrev Reasoned : HostState → Type 0
  Reasoned h = IsReasoned Holds keys h

  -- ---- what an event brings

  framed : (h : HostState) (purpose : Purpose) → IsDuePurpose Holds keys h purpose → Frame h (frame_of purpose (next_id h.requests.last_id))
  framed h purpose due = record { purpose = purpose; last = h.requests.last_id; is = refl; due = due }

  front_due : (h : HostState) (queue : List Task) → AllByRecursion (Waits h) queue → IsDuePurpose Holds keys h (task_purpose queue)
  front_due h [] all = tt
  front_due h (task ∷ rest) all = all.0

  started : (h : HostState) (n : ℕ) (plan : Plan) (more : Bool) (payload : List ℕ) → HostFacts h → May h (Starts n plan more payload) → IsStarted Holds keys h n plan payload
  started h n plan more payload facts may = start_is Holds keys h facts n plan more payload may.1

  brings : (h : HostState) (event : HostEvent) → HostFacts h → May h event → HasReason Holds keys h event → Reasoned h → Brings keys (Frame h) (Waits h) h event
  brings h (Queues task) facts may reason is = reason
  brings h (Queues_interview n) facts may reason is = (tt, tt)
  brings h Queues_probe facts may reason is = (tt, (tt, tt))
  brings h (Requests_do event moment) facts may reason is = reason
  brings h (Offers n) facts may reason is = λ nonce eight. (eight, reason)
  brings h (Gives n drawn) facts may reason is = λ nonce eight. (eight, reason)
  brings h (Resends n payload) facts may reason is = segment_part Holds keys h n may.0 payload may.1
  brings h (Queues_no_more n) facts may reason is = tt
  brings h Submits_abort facts may reason is = framed h Abort tt
  brings h Submits_front facts may reason is = framed h (task_purpose h.requests.queue) (front_due h h.requests.queue is.waiting.tasks)
  brings h (Starts n plan more payload) facts may reason is = framed h (Attempt n more payload) (started h n plan more payload facts may).given
  brings h (Gives_text n payload) facts may reason is =
      framed h (Attempt n false payload) (inr ((is.texts n (served_is_node h n may.0.next)).text payload may.1))
  brings h (Gives_segment n more payload) facts may reason is =
      framed h (Attempt n more payload) (inr (segment_part Holds keys h n (node_of h n).next_segment payload may.2))
  brings h event facts may reason is = tt

  -- the text that is sealed for a nonce is a part of the last session
  sealed_part : (h : HostState) (n : ℕ) (text : List ℕ) → HostFacts h → h.keys ≡ keys → IsNode n → IsSealedSo Holds h n text → HasTexts (IsPart Holds keys h n) (IsToSeal h n) (node_of h n)
      → IsPart Holds keys h n text
  sealed_part h n text facts same node sealed has =
      let plain : List ℕ = sealed.seals.plain in
      let waits : IsToSeal h n plain = has.pending plain sealed.seals.is_pending in
      let message : List ℕ = message_of waits.taken.carriage waits.taken.order waits.session in
      let number : (node_of h n).node ≡ n = facts.nodes.numbers n node.0 node.1 in
      let is : text ≡ sealed_text h.keys sealed.own sealed.nonce (ends_to (node_of h n).node) plain
      = sealed_is h.keys sealed.own sealed.nonce (ends_to (node_of h n).node) plain text sealed.seals.seals in
      let here : text ≡ sealed_text keys sealed.own sealed.nonce (ends_to n) message
      = subst (λ (p : List ℕ). text ≡ sealed_text keys sealed.own sealed.nonce (ends_to n) p) waits.is
      (subst (λ (k : ℕ). text ≡ sealed_text keys sealed.own sealed.nonce (ends_to k) plain) number
      (subst (λ (k : Keys). text ≡ sealed_text k sealed.own sealed.nonce (ends_to (node_of h n).node) plain) same is)) in
      record {
        session = waits.session;
        taken = waits.taken;
        last = waits.last;
        carried = subst (λ (f : Form). IsCarriedBy Holds keys n waits.session f message text) (sym waits.form)
            (record { own = sealed.own; nonce = sealed.nonce; given = sealed.given; own_eight = sealed.own_eight; eight = sealed.eight; text = here });
      }

  brings_text : (n : ℕ) (h : HostState) (event : HostEvent) → HostFacts h → May h event → HasReason Holds keys h event → Reasoned h → BringsText (IsPart Holds keys h n) (IsToSeal h n) n event
  brings_text n h (Starts m (plans.Sealed plain) more payload) facts may reason is =
      λ same. subst (λ (k : ℕ). IsToSeal h k plain) (sym same) ((started h m (plans.Sealed plain) more payload facts may).sealed plain refl)
  brings_text n h (Takes_nonce m seen text) facts may reason is =
      λ same. subst (λ (k : ℕ). IsPart Holds keys h k text) (sym same) (sealed_part h m text facts is.waiting.same reason.0 reason.1 (is.texts m reason.0))
  brings_text n h event facts may reason is = tt

  -- ---- each event

  texts_of : (h : HostState) (event : HostEvent) → HostFacts h → May h event → HasReason Holds keys h event → Reasoned h → (n : ℕ) → IsNode n
      → HasTexts (IsPart Holds keys h n) (IsToSeal h n) (node_of (after h event) n)
  texts_of h event facts may reason is n node =
      texts_go laws.texts_left (IsPart Holds keys h n) (IsToSeal h n) n h event (has_place h n facts node) (brings_text n h event facts may reason is) (is.texts n node)

  waiting_of : (h : HostState) (event : HostEvent) → HostFacts h → May h event → HasReason Holds keys h event → Reasoned h → HostHas keys (Frame h) (Waits h) (after h event)
  waiting_of h event facts may reason is = event_goes keys (Frame h) (Waits h) h event may (brings h event facts may reason is) is.waiting

  -- where no session begins
  goes : (past : List Entry) (h : HostState) (event : HostEvent) → Facts past h → May h event → BeginsNone event → HasReason Holds keys h event → Reasoned h → Reasoned (after h event)
  goes past h event facts may none reason is =
      let new : HostState = after h event in
      let same : SameBooks h new = books_stay laws.event_keeps past h event facts may none in
      let orders : KeepsOrders h.commands new.commands = laws.orders_stay h event in
      record {
        waiting = waiting_stays Holds Holds (λ r x. x) keys h new same orders keys new.keys new.side.turn new.requests.queue new.nonces (waiting_of h event facts.host may reason is);
        texts = λ n node. texts_stay Holds Holds (λ r x. x) keys h new n (same n) orders (texts_of h event facts.host may reason is n node);
      }

  -- where one does, nothing is on the line and nothing waits, and nothing is left of an attempt at its node
  begins : (past : List Entry) (h : HostState) (n session command : ℕ) → Facts past h → May h (Begins n session command) → Reasoned h → Reasoned (after h (Begins n session command))
  begins past h n session command facts may is =
      let event : HostEvent = Begins n session command in
      let new : HostState = after h event in
      let orders : KeepsOrders h.commands new.commands = laws.orders_stay h event in
      record {
        waiting = record {
          same = is.waiting.same;
          frame = idle_has (Frame new) h.side.turn (not_busy h.side.turn may.0.free.free_line);
          tasks = subst (λ (l : List Task). AllByRecursion (Waits new) l) (sym may.0.no_task) tt;
          eight = is.waiting.eight;
        };
        texts = λ m node. elim (cases_eq m n) [
          | inl same ↦ texts_go laws.texts_left (IsPart Holds keys new m) (IsToSeal new m) m h event (has_place h m facts.host node) tt
              (bare_texts (IsPart Holds keys new m) (IsToSeal new m) (node_of h m)
              (closed_bare (node_of h m) (facts.host.nodes.facts m) (ap (λ (k : ℕ). open_session (node_of h k).book) same ∙ may.1.1)))
          | inr other ↦ texts_stay Holds Holds (λ r x. x) keys h new m (others_stay laws.event_keeps past h n session command facts may m other) orders (texts_of h event facts.host may tt is m node)
        ];
      }

  pub event_is : (past : List Entry) (h : HostState) (event : HostEvent) → Facts past h → May h event → HasReason Holds keys h event → Reasoned h → Reasoned (after h event)
  event_is past h (Begins n session command) facts may reason is = begins past h n session command facts may is
  event_is past h event facts may reason is = goes past h event facts may tt reason is

  -- ---- what is written

  abbrev UnitsDue : HostState → List HostOut → Type 0
  UnitsDue h puts = WritesDue Holds keys h puts

  none_noted : (h : HostState) (entries : List Entry) → UnitsDue h (noted entries)
  none_noted h [] = tt
  none_noted h (e ∷ entries) = none_noted h entries

  answer_due : (h : HostState) (item : Item) → UnitsDue h (answer_to item)
  answer_due h (Good Ack) = tt
  answer_due h (Good Nak) = tt
  answer_due h (Good Can) = tt
  answer_due h (Good (Framed f)) = (tt, tt)
  answer_due h (Refused (Stray x)) = tt
  answer_due h (Refused (BadLength n)) = tt
  answer_due h (Refused (BadSum want got)) = (tt, tt)
  answer_due h (Refused (BadKind x)) = (tt, tt)
  answer_due h (Refused Aborted) = tt

  copy_by : (h : HostState) (due : Bool) (f : FrameParts) (entries : List Entry) → Frame h f → UnitsDue h (copy_out (if due then Some f else None) ++ noted entries)
  copy_by h true f entries is = (is, none_noted h entries)
  copy_by h false f entries is = none_noted h entries

  copy_of : (h : HostState) (turn : Turn) (entries : List Entry) → TurnHas (Frame h) turn → UnitsDue h (copy_out (copy_due turn) ++ noted entries)
  copy_of h Idle entries has = none_noted h entries
  copy_of h (Copied f copies ticks) entries has = none_noted h entries
  copy_of h (Paused f copies ticks) entries has = copy_by h (ticks + 1 == pause_after copies) f entries has

  pub units_due : (h : HostState) (event : HostEvent) → HostFacts h → May h event → HasReason Holds keys h event → Reasoned h → UnitsDue h (outs h event)
  units_due h (Hears item) facts may reason is = answer_due h item
  units_due h (Requests_do event moment) facts may reason is = none_noted h (request_entries h event)
  units_due h (Finishes n session id command status wake_request) facts may reason is =
      none_noted h (stored_entries n (settings_with status (command_at h.commands command)) ++ held_entries n (is_held h n wake_request))
  units_due h (Offers n) facts may reason is = none_noted h (dropped_if (is_full h) n)
  units_due h (Gives n drawn) facts may reason is = none_noted h (dropped_if (is_full h) n)
  units_due h (Resends n payload) facts may reason is = none_noted h (dropped_if (is_full h) n)
  units_due h Line_ticks facts may reason is = copy_of h h.side.turn (failing_entries (gives_up h.side.turn (tick_side h.side).turn) (line_ticked h)) is.waiting.frame
  units_due h (Node_ticks n) facts may reason is = none_noted h (attempt_entries n (tick_end (node_of h n)) (open_command (node_of h n)))
  units_due h Submits_abort facts may reason is = (brings h Submits_abort facts may reason is, tt)
  units_due h Submits_front facts may reason is = (brings h Submits_front facts may reason is, tt)
  units_due h (Starts n plan more payload) facts may reason is = (brings h (Starts n plan more payload) facts may reason is, tt)
  units_due h (Gives_text n payload) facts may reason is = (brings h (Gives_text n payload) facts may reason is, tt)
  units_due h (Gives_segment n more payload) facts may reason is = (brings h (Gives_segment n more payload) facts may reason is, tt)
  units_due h event facts may reason is = tt

-- ---- a host at first, and one that starts from its records

unused_eight : (count : ℕ) → AllByRecursion HasEight (replicate count unused)
unused_eight zero = tt
unused_eight (suc count) = (tt, unused_eight count)

module _ (Holds : Reason → Type 0) (keys : Keys) where
  first_waiting : (h : HostState) → HostHas keys (IsDueFrame Holds keys h) (IsDueTask Holds keys h) (first_host keys)
  first_waiting h = record { same = refl; frame = tt; tasks = tt; eight = unused_eight 233 }

  pub first_is : IsReasoned Holds keys (first_host keys)
  first_is = record {
    waiting = first_waiting (first_host keys);
    texts = λ n node. bare_texts (IsPart Holds keys (first_host keys) n) (IsToSeal (first_host keys) n) (node_of (first_host keys) n) (first_bare n);
  }

  pub opened_is : (records : List Record) → AllByRecursion IsRecord records → IsReasoned Holds keys (opened keys records)
  opened_is records all =
      let h : HostState = opened keys records in
      let has = all_restored keys (IsDueFrame Holds keys h) (IsDueTask Holds keys h) (first_host keys) records all (first_waiting h) in
      record {
        waiting = record { same = has.same; frame = has.frame; tasks = has.tasks; eight = has.eight };
        texts = λ n node. bare_texts (IsPart Holds keys h n) (IsToSeal h n) (node_of h n) (restarting_bare (restored_all (first_host keys) records).nodes n node.0);
      }

-- with more reasons
pub more_is : (Old New : Reason → Type 0) → ((reason : Reason) → Old reason → New reason) → (keys : Keys) (h : HostState) → IsReasoned Old keys h → IsReasoned New keys h
more_is Old New gives keys h is = record {
  waiting = waiting_stays Old New gives keys h h (λ n. refl) (λ number taken e. e) keys h.keys h.side.turn h.requests.queue h.nonces is.waiting;
  texts = λ n node. texts_stay Old New gives keys h h n refl (λ number taken e. e) (is.texts n node);
}
