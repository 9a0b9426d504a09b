-- What a user may ask: a message that no rule refuses finds a place, and its node's classes are known.
use Rattle.std.proofs.Common.{◌≡◌, ℕ, ◌≤◌, ◌<◌, ◌+◌, List, [], ◌∷◌, length, refl, ap, sym, ◌∙◌, subst, arith, unwrap_or}
use Rattle.std.specs.Prelude.{Bool, true, false, Option, Some, None, Result, Ok, Err, OnOk, IfOk, nat_le, nat_lt, if◌then◌else◌}
use Rattle.std.proofs.lemmas.Bool.Decides.{nat_tests}
use Rattle.std.proofs.lemmas.List.{length-append}
use Rattle.host_keep.specs.Keeping.{OptAdds, Shelf}
use Rattle.host_keep.specs.Rows.{IsRecord}
use Rattle.host_keep.specs.RecordText.{record_text}
use Rattle.host_keep.specs.declared.record.Record.TheVariants.{Accepted}
use Rattle.host_requests.specs.declared.task.Task.TheVariants.{Plain}
use Rattle.host_model.specs.Events.{Accepts, Queues}
use Rattle.host_model.specs.After.{after}
use Rattle.host_core.specs.Orders.{question_event}
use Rattle.host_core.specs.declared.orders.Question.{Question}
use Rattle.host_step_bytes.specs.Calls.{scene, Does, DoesAlone, Are}
use Rattle.host_step_bytes.proofs.CallLists.{does_one, one_alone}
use Rattle.zw_base.specs.declared.order.Word.{Word}
use Rattle.zw_base.specs.declared.order.Order.{Order}
use Rattle.class_core.specs.Spelling.{form}
use Rattle.encap.specs.declared.plan.Ends.{Ends}
use Rattle.encap.specs.declared.plan.Outer.{Outer}
use Rattle.encap.specs.declared.plan.Outer.TheVariants.{None as no_outer, Crc16, Security, Transport}
use Rattle.encap.specs.Written.{addressed_form, checked_form}
use Rattle.value_store.specs.Values.{count_with}
use Rattle.host_orders.specs.declared.actuator.Actuator.{Actuator}
use Rattle.host_orders.specs.declared.actuator.Actuator.TheVariants.{Binary, Multilevel, Lock}
use Rattle.host_orders.specs.declared.errand.Gettable.{Gettable}
use Rattle.host_orders.specs.declared.errand.Gettable.TheVariants as asks
use Rattle.host_orders.specs.Wrapping.{ends_of, carriage_of}
use Rattle.host_orders.specs.Settings.{settings, properties_of}
use Rattle.host_node.specs.State.{NodeState}
use Rattle.host_model.specs.State.{HostState, HostParts, node_of}
use Rattle.host_model.specs.May.{IsAccepted, known_of}
use Rattle.host_model.specs.Asking.{carriage_for, refusal_for}
use Rattle.host_parts.specs.Choices.{Judges}
use Rattle.host_orders.specs.declared.refused.Refused.{Refused}
use Rattle.host_orders.specs.declared.refused.Refused.TheVariants.{NotJoined, QueueFull, StoreFull}
use Rattle.host_orders.specs.Refusals.{Known, classes_of, first_some, unless, first_refusal}
use Rattle.host_orders.specs.Messages.{value_message}
use Rattle.host_orders.specs.Errands.{queue_full, secured, sendable_of, sendable_refusal, send_refusal, send_text, gettable_of, gettable_refusal, get_refusal, get_command, get_text, plain_plan, plain_text, RefusesOrNone}
use Rattle.host_model.proofs.Accepted.{none_later as rest_none}
use Rattle.host_model.proofs.Tests.{refused_not as first_or}

-- the classes are known, and fewer than 64 requests wait
pub record IsTaken (classes : Option (List ℕ)) (queued : ℕ) : Type 0 where
  pub listed : List ℕ
  pub known : classes ≡ Some listed
  pub room : queued < 64

one_none : (one : Option Refused) → first_some (one ∷ []) ≡ None → one ≡ None
one_none None e = refl
one_none (Some refused) e = cc

by_test : (b : Bool) (queued : ℕ) → nat_le 64 queued ≡ b → (if b then Some (QueueFull 64) else None) ≡ None → queued < 64
by_test true queued test e = cc
by_test false queued test e = grind (arith, nat_tests)

has_room : (queued : ℕ) → queue_full queued ≡ None → queued < 64
has_room queued e = by_test (nat_le 64 queued) queued refl e

sendable_room : (classes : List ℕ) (queued : ℕ) (word : Word) → sendable_refusal classes queued word ≡ None → queued < 64
unfolding sendable_refusal
sendable_room classes queued word e =
    has_room queued (one_none (queue_full queued) (rest_none _ (queue_full queued ∷ []) (rest_none _ (_ ∷ queue_full queued ∷ []) (rest_none (secured classes) _ e))))

pub send_taken : (joined : Bool) (classes : Option (List ℕ)) (waiting queued : ℕ) (word : Word) → send_refusal (record { joined = joined; classes = classes; waiting = waiting }) queued word ≡ None → IsTaken classes queued
unfolding send_refusal
send_taken joined None waiting queued word e = let refuses = rest_none (unless joined NotJoined) _ e in cc
send_taken joined (Some listed) waiting queued word e =
    record { listed = listed; known = refl; room = sendable_room listed queued word (one_none (sendable_refusal listed queued word) (rest_none (unless joined NotJoined) _ e)) }

-- how many commands wait is no matter
pub send_same : (joined : Bool) (classes : Option (List ℕ)) (a b queued : ℕ) (word : Word)
    → send_refusal (record { joined = joined; classes = classes; waiting = a }) queued word ≡ send_refusal (record { joined = joined; classes = classes; waiting = b }) queued word
unfolding send_refusal
send_same joined classes a b queued word = refl

gettable_room : (classes : List ℕ) (queued end : ℕ) → gettable_refusal classes queued end ≡ None → queued < 64
unfolding gettable_refusal
gettable_room classes queued end e = has_room queued (one_none (queue_full queued) (rest_none _ (queue_full queued ∷ []) (rest_none (secured classes) _ e)))

pub get_taken : (joined : Bool) (classes : Option (List ℕ)) (waiting queued end : ℕ) → get_refusal (record { joined = joined; classes = classes; waiting = waiting }) queued end ≡ None → IsTaken classes queued
unfolding get_refusal
get_taken joined None waiting queued end e = let refuses = rest_none (unless joined NotJoined) _ e in cc
get_taken joined (Some listed) waiting queued end e =
    record { listed = listed; known = refl; room = gettable_room listed queued end (one_none (gettable_refusal listed queued end) (rest_none (unless joined NotJoined) _ e)) }

pub get_same : (joined : Bool) (classes : Option (List ℕ)) (a b queued end : ℕ)
    → get_refusal (record { joined = joined; classes = classes; waiting = a }) queued end ≡ get_refusal (record { joined = joined; classes = classes; waiting = b }) queued end
unfolding get_refusal
get_same joined classes a b queued end = refl

-- ---- what is sent has bytes

addressed_some : (ends : Option Ends) (text : List ℕ) → 1 ≤ length text → 1 ≤ length (addressed_form ends text)
addressed_some None text some = some
addressed_some (Some ends) text some = omega arith

checked_some : (outer : Outer) (text : List ℕ) → 1 ≤ length text → 1 ≤ length (checked_form outer text)
checked_some no_outer text some = some
checked_some Crc16 text some = simp length-append (omega arith)
checked_some Security text some = some
checked_some Transport text some = some

plain_some : (classes : List ℕ) (end : ℕ) (command : List ℕ) → 1 ≤ length command → 1 ≤ length (plain_text classes end command)
plain_some classes end command some =
    checked_some (plain_plan classes end command).outer (addressed_form (ends_of end) command) (addressed_some (ends_of end) command some)

message_some : (actuator : Actuator) (word : Word) → 1 ≤ length (form (value_message actuator word))
message_some Binary word = omega arith
message_some Multilevel word = omega arith
message_some Lock word = omega arith

pub send_some : (classes : List ℕ) (word : Word) → 1 ≤ length (send_text classes word)
send_some classes word = plain_some classes 0 (form (value_message (sendable_of classes) word)) (message_some (sendable_of classes) word)

get_command_some : (asked : Gettable) → 1 ≤ length (get_command asked)
get_command_some asks.Binary = omega arith
get_command_some asks.Multilevel = omega arith
get_command_some asks.Lock = omega arith
get_command_some asks.Thermostat = omega arith
get_command_some asks.Sensor = omega arith

pub get_some : (classes : List ℕ) (end : ℕ) → 1 ≤ length (get_text classes end)
get_some classes end = plain_some classes end (get_command (gettable_of classes)) (get_command_some (gettable_of classes))

-- ---- an order

listed_of : (joined : Bool) (classes : Option (List ℕ)) (waiting : ℕ) (order : Order) → first_refusal (record { joined = joined; classes = classes; waiting = waiting }) order ≡ None → (listed : List ℕ) × (classes ≡ Some listed)
unfolding first_refusal
listed_of joined None waiting order e = let refuses = rest_none (unless joined NotJoined) _ e in cc
listed_of joined (Some listed) waiting order e = (listed, refl)

few_properties : (b : Bool) (properties : ℕ) → nat_lt 512 properties ≡ b → (if b then Some (StoreFull 512) else None) ≡ None → properties ≤ 512
few_properties true properties test e = cc
few_properties false properties test e = grind (arith, nat_tests)

-- an order that no rule refuses is accepted
pub order_is_accepted : (h : HostState) (order : Order) → refusal_for h order ≡ None → IsAccepted h order (carriage_for h order)
order_is_accepted h order e =
    let known : Known = known_of (node_of h order.node) in
    let properties : ℕ = count_with h.store order.node (properties_of (settings (carriage_for h order).actuator order)) in
    let rules = first_or (first_refusal known order) properties e in
    let listed = listed_of known.joined known.classes known.waiting order rules.0 in
    record {
      unrefused = rules.0;
      classes = listed.0;
      listed = listed.1;
      carried = ap (λ (o : Option (List ℕ)). carriage_of (unwrap_or o []) order) listed.1;
      few = few_properties (nat_lt 512 properties) properties refl rules.1;
    }

-- ---- what was asked

-- a message waits after the others
pub queued_alone : (h new : HostState) (n : ℕ) (payload text : List ℕ) → payload ≡ text → 1 ≤ length payload → length h.requests.queue < 64 → new ≡ after h (Queues (Plain n payload))
    → DoesAlone (Are (Queues (Plain n text) ∷ [])) h [] new []
queued_alone h new n payload text is some room host =
    subst (λ (t : List ℕ). DoesAlone (Are (Queues (Plain n t) ∷ [])) h [] new []) is
    (one_alone (Are (Queues (Plain n payload) ∷ [])) (Queues (Plain n payload)) h new [] [] refl (some, omega (arith, room)) refl refl host refl)

-- an order was accepted
pub accepted_does : (order : Order) (old new : HostParts) (a b : Shelf) (result : Result ℕ Refused) → Judges result (refusal_for old.state order)
    → OnOk result (OptAdds a.records b.records (record_text (Accepted (length old.state.commands + 1) order) ∷ [])) → OnOk result (IsRecord (Accepted (length old.state.commands + 1) order))
    → OnOk result (new ≡ record old { state = after old.state (Accepts order (carriage_for old.state order)) }) → a.faults ≤ b.faults
    → OnOk result (Does (Are (Accepts order (carriage_for old.state order) ∷ [])) (scene old.state [] a) (scene new.state [] b))
accepted_does order old new a b (Err refused) judged kept range host falls = tt
accepted_does order old new a b (Ok number) judged kept range host falls =
    does_one (Are (Accepts order (carriage_for old.state order) ∷ [])) (Accepts order (carriage_for old.state order)) (scene old.state [] a) (scene new.state [] b) refl
    (order_is_accepted old.state order judged) (range, tt) (ap (λ (p : HostParts). p.state) host) refl kept tt falls

-- what a question is
pub asked_as : {T E : Type 0} (r : Result T E) (question one : Question) (h new : HostState) → question ≡ one → OnOk r (DoesAlone (Are (question_event one ∷ [])) h [] new [])
    → OnOk r (DoesAlone (Are (question_event question ∷ [])) h [] new [])
asked_as r question one h new is asked = subst (λ (q : Question). OnOk r (DoesAlone (Are (question_event q ∷ [])) h [] new [])) (sym is) asked

-- the answer of what judges a Set, of the host
pub set_text_judged : (r : Result (List ℕ) Refused) (joined : Bool) (classes : Option (List ℕ)) (queued : ℕ) (last : Word) (h : HostState) (n : ℕ) (state : NodeState) → state ≡ node_of h n → joined ≡ state.joined → classes ≡ state.classes
    → queued ≡ length h.requests.queue → RefusesOrNone r (send_refusal (record { joined = joined; classes = classes; waiting = 0 }) queued last) → RefusesOrNone r (send_refusal (known_of (node_of h n)) (length h.requests.queue) last)
set_text_judged r joined classes queued last h n state is in_it listed many judged =
    subst (λ (k : ℕ). RefusesOrNone r (send_refusal (known_of (node_of h n)) k last)) many
    (subst (λ (s : NodeState). RefusesOrNone r (send_refusal (known_of s) queued last)) is
    (subst (λ (o : Option Refused). RefusesOrNone r o) (send_same state.joined state.classes 0 (length state.waiting) queued last)
    (subst (λ (o : Option (List ℕ)). RefusesOrNone r (send_refusal (record { joined = state.joined; classes = o; waiting = 0 }) queued last)) listed
    (subst (λ (b : Bool). RefusesOrNone r (send_refusal (record { joined = b; classes = classes; waiting = 0 }) queued last)) in_it judged))))

pub set_text_text : (r : Result (List ℕ) Refused) (joined : Bool) (classes : Option (List ℕ)) (queued : ℕ) (last : Word) (h : HostState) (n : ℕ) (state : NodeState) → state ≡ node_of h n → classes ≡ state.classes
    → RefusesOrNone r (send_refusal (record { joined = joined; classes = classes; waiting = 0 }) queued last) → ((listed : List ℕ) → classes ≡ Some listed → IfOk r (λ payload. payload ≡ send_text listed last))
    → IfOk r (λ payload. payload ≡ send_text (classes_of (known_of (node_of h n))) last)
set_text_text (Err refused) joined classes queued last h n state is listed judged said = tt
set_text_text (Ok payload) joined classes queued last h n state is listed judged said =
    let taken = send_taken joined classes 0 queued last judged in
    said taken.listed taken.known ∙ ap (λ (o : Option (List ℕ)). send_text (unwrap_or o []) last) (sym taken.known ∙ listed ∙ ap (λ (s : NodeState). s.classes) is)

pub set_text_some : (r : Result (List ℕ) Refused) (joined : Bool) (classes : Option (List ℕ)) (queued : ℕ) (last : Word) → RefusesOrNone r (send_refusal (record { joined = joined; classes = classes; waiting = 0 }) queued last)
    → ((listed : List ℕ) → classes ≡ Some listed → IfOk r (λ payload. payload ≡ send_text listed last)) → IfOk r (λ payload. 1 ≤ length payload)
set_text_some (Err refused) joined classes queued last judged said = tt
set_text_some (Ok payload) joined classes queued last judged said =
    let taken = send_taken joined classes 0 queued last judged in
    subst (λ (l : List ℕ). 1 ≤ length l) (sym (said taken.listed taken.known)) (send_some taken.listed last)

pub set_text_room : (r : Result (List ℕ) Refused) (joined : Bool) (classes : Option (List ℕ)) (queued : ℕ) (last : Word) (h : HostState) → queued ≡ length h.requests.queue
    → RefusesOrNone r (send_refusal (record { joined = joined; classes = classes; waiting = 0 }) queued last) → OnOk r (length h.requests.queue < 64)
set_text_room (Err refused) joined classes queued last h many judged = tt
set_text_room (Ok payload) joined classes queued last h many judged = subst (λ (k : ℕ). k < 64) many (send_taken joined classes 0 queued last judged).room

-- the answer of what judges a Get, of the host
pub get_text_judged : (r : Result (List ℕ) Refused) (joined : Bool) (classes : Option (List ℕ)) (queued : ℕ) (last : ℕ) (h : HostState) (n : ℕ) (state : NodeState) → state ≡ node_of h n → joined ≡ state.joined → classes ≡ state.classes
    → queued ≡ length h.requests.queue → RefusesOrNone r (get_refusal (record { joined = joined; classes = classes; waiting = 0 }) queued last) → RefusesOrNone r (get_refusal (known_of (node_of h n)) (length h.requests.queue) last)
get_text_judged r joined classes queued last h n state is in_it listed many judged =
    subst (λ (k : ℕ). RefusesOrNone r (get_refusal (known_of (node_of h n)) k last)) many
    (subst (λ (s : NodeState). RefusesOrNone r (get_refusal (known_of s) queued last)) is
    (subst (λ (o : Option Refused). RefusesOrNone r o) (get_same state.joined state.classes 0 (length state.waiting) queued last)
    (subst (λ (o : Option (List ℕ)). RefusesOrNone r (get_refusal (record { joined = state.joined; classes = o; waiting = 0 }) queued last)) listed
    (subst (λ (b : Bool). RefusesOrNone r (get_refusal (record { joined = b; classes = classes; waiting = 0 }) queued last)) in_it judged))))

pub get_text_text : (r : Result (List ℕ) Refused) (joined : Bool) (classes : Option (List ℕ)) (queued : ℕ) (last : ℕ) (h : HostState) (n : ℕ) (state : NodeState) → state ≡ node_of h n → classes ≡ state.classes
    → RefusesOrNone r (get_refusal (record { joined = joined; classes = classes; waiting = 0 }) queued last) → ((listed : List ℕ) → classes ≡ Some listed → IfOk r (λ payload. payload ≡ get_text listed last))
    → IfOk r (λ payload. payload ≡ get_text (classes_of (known_of (node_of h n))) last)
get_text_text (Err refused) joined classes queued last h n state is listed judged said = tt
get_text_text (Ok payload) joined classes queued last h n state is listed judged said =
    let taken = get_taken joined classes 0 queued last judged in
    said taken.listed taken.known ∙ ap (λ (o : Option (List ℕ)). get_text (unwrap_or o []) last) (sym taken.known ∙ listed ∙ ap (λ (s : NodeState). s.classes) is)

pub get_text_some : (r : Result (List ℕ) Refused) (joined : Bool) (classes : Option (List ℕ)) (queued : ℕ) (last : ℕ) → RefusesOrNone r (get_refusal (record { joined = joined; classes = classes; waiting = 0 }) queued last)
    → ((listed : List ℕ) → classes ≡ Some listed → IfOk r (λ payload. payload ≡ get_text listed last)) → IfOk r (λ payload. 1 ≤ length payload)
get_text_some (Err refused) joined classes queued last judged said = tt
get_text_some (Ok payload) joined classes queued last judged said =
    let taken = get_taken joined classes 0 queued last judged in
    subst (λ (l : List ℕ). 1 ≤ length l) (sym (said taken.listed taken.known)) (get_some taken.listed last)

pub get_text_room : (r : Result (List ℕ) Refused) (joined : Bool) (classes : Option (List ℕ)) (queued : ℕ) (last : ℕ) (h : HostState) → queued ≡ length h.requests.queue
    → RefusesOrNone r (get_refusal (record { joined = joined; classes = classes; waiting = 0 }) queued last) → OnOk r (length h.requests.queue < 64)
get_text_room (Err refused) joined classes queued last h many judged = tt
get_text_room (Ok payload) joined classes queued last h many judged = subst (λ (k : ℕ). k < 64) many (get_taken joined classes 0 queued last judged).room
