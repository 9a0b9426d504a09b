-- What the first request of an interview brings to the second.
use Rattle.std.proofs.Common.{◌≡◌, ℕ, ◌⊎◌, inl, inr, List, [], ◌∷◌, ◌++◌, Option, Some, None, refl, sym, ap, subst, ◌∙◌}
use Rattle.std.specs.Prelude.{◌↔◌}
use Rattle.chip_functions.specs.declared.function.TheConstants.{GET_NODE_PROTOCOL_INFO}
use Rattle.host_requests.specs.Frames.{function_of}
use Rattle.host_requests.specs.State.{RequestsState, no_requests}
use Rattle.host_requests.specs.Next.{at_sent, at_response, at_callback, at_update, at_tick, capability_at, went_on, end_of, next_from, end_from}
use Rattle.host_requests.specs.Events.{RequestsEvent, with_tasks, task_begun, after, May, after_all, MayAll}
use Rattle.host_requests.specs.Events.RequestsEvent.{Pushes, PushesInterview, PushesProbe, BeginsAbort, BeginsPrefix, BeginsAttempt, IsSent, Fails, Responds, CallsBack, Updates, Ticks, Forgets}
use Rattle.host_requests.specs.Facts.{Waits, first_asked, second_asked, ArePaired, due_second, IsUnderWay, IsEither, IsRequests}
use Rattle.host_requests.specs.Interviews.{Brought, brought_of, brought_by, brought_after, brought_in}
use Rattle.host_requests.specs.declared.end.How.TheVariants.{LinkFailed}
use Rattle.host_requests.specs.declared.next.Next.{Next}
use Rattle.host_requests.specs.declared.next.Next.TheVariants.{GoesOn, Ends}
use Rattle.host_requests.specs.declared.task.Task.{Task}
use Rattle.host_requests.specs.declared.task.Task.TheVariants.{First, Second, Version, MemoryId, Capabilities}
use Rattle.host_requests.specs.declared.task.Purpose.{Purpose}
use Rattle.host_requests.specs.declared.under_way.UnderWay.{UnderWay}
use Rattle.host_requests.proofs.Purposes.{alone_paired, capable_first, due-append}
use Rattle.host_requests.proofs.FactsKept.{NextFits, idle_of, fits_sent, fits_response, fits_callback, fits_update, fits_tick, kept, at_first}

-- the node of what was brought
abbrev pub node_of : Option Brought → Option ℕ
node_of None = None
node_of (Some brought) = Some brought.node

-- the node whose second request is under way, or else due
abbrev pub second_node : Option UnderWay → List Task → Option ℕ
second_node None queue = due_second queue
second_node (Some u) queue = second_asked u.purpose

abbrev pub capability_of : Option Brought → Option ℕ
capability_of None = None
capability_of (Some brought) = Some brought.capability

-- what was brought is kept, and is of that node
record Holds (s : RequestsState) (b : Option Brought) : Type 0 where
  same : s.first ≡ capability_of b
  node : (x : Brought) → b ≡ Some x → second_node s.under_way s.queue ≡ Some x.node

-- what an end brings

bring : (p : Purpose) (node capability : Option ℕ) → first_asked p ≡ node → (capability ≡ None) ⊎ (function_of p ≡ GET_NODE_PROTOCOL_INFO) → capability ≡ capability_of (brought_of node capability)
bring p None None e fits = refl
bring p (Some n) None e fits = refl
bring p (Some n) (Some c) e fits = refl
bring p None (Some c) e (inl none) = absurd (cc)
bring p None (Some c) e (inr function) = absurd (capable_first p function e)

bring_node : (node capability : Option ℕ) (x : Brought) → brought_of node capability ≡ Some x → node ≡ Some x.node
bring_node None None x e = absurd (cc)
bring_node (Some n) None x e = absurd (cc)
bring_node None (Some c) x e = absurd (cc)
bring_node (Some n) (Some c) x e = ap node_of e

-- what an event makes of the request under way

next_holds : (s : RequestsState) (b : Option Brought) (u : UnderWay) (next : Next) → s.under_way ≡ Some u → IsUnderWay u s → Holds s b → NextFits u.purpose next
    → Holds (went_on s u next) (brought_by b (end_of u next))
next_holds s b u (GoesOn progress) e under_way holds fits =
    record { same = holds.same; node = λ x f. subst (λ (o : Option UnderWay). second_node o s.queue ≡ Some x.node) e (holds.node x f) }
next_holds s b u (Ends how) e under_way holds fits =
    record {
      same = bring u.purpose (first_asked u.purpose) (capability_at how) refl fits;
      node = λ x f. under_way.due ∙ bring_node (first_asked u.purpose) (capability_at how) x f;
    }

from_holds : (s : RequestsState) (b : Option Brought) (next : UnderWay → Next) (o : Option UnderWay) → s.under_way ≡ o → IsRequests s → Holds s b
    → ((u : UnderWay) → Waits (function_of u.purpose) u.progress → NextFits u.purpose (next u)) → Holds (next_from s next o) (brought_by b (end_from next o))
from_holds s b next None e facts holds fits = holds
from_holds s b next (Some u) e facts holds fits =
    let under_way : IsUnderWay u s = subst (λ (o : Option UnderWay). IsEither o s) e facts.either in
    next_holds s b u (next u) e under_way holds (fits u under_way.waits)

-- tasks that wait, and requests that begin

second-append : (o : Option UnderWay) (queue tasks : List Task) → ArePaired None tasks → second_node o (queue ++ tasks) ≡ second_node o queue
second-append None queue tasks paired = due-append queue tasks paired
second-append (Some u) queue tasks paired = refl

push_holds : (s : RequestsState) (b : Option Brought) (tasks : List Task) → ArePaired None tasks → Holds s b → Holds (with_tasks s tasks) b
push_holds s b tasks paired holds = record { same = holds.same; node = λ x f. second-append s.under_way s.queue tasks paired ∙ holds.node x f }

due_node : (s : RequestsState) (b : Option Brought) → Holds s b → s.under_way ≡ None → (x : Brought) → b ≡ Some x → due_second s.queue ≡ Some x.node
due_node s b holds none x e = subst (λ (o : Option UnderWay). second_node o s.queue ≡ Some x.node) none (holds.node x e)

other : {A : Type 0} (o : Option ℕ) (n : ℕ) → o ≡ None → o ≡ Some n → A
other o n none some = absurd (cc)

prefix_holds : (s : RequestsState) (b : Option Brought) (queue : List Task) → s.queue ≡ queue → Holds s b → s.under_way ≡ None → Holds (task_begun s queue) b
prefix_holds s b [] e holds none = holds
prefix_holds s b (t ∷ rest) e holds none = record { same = holds.same; node = λ x f. sym (ap due_second e) ∙ due_node s b holds none x f }

event_holds : (s : RequestsState) (b : Option Brought) (event : RequestsEvent) → IsRequests s → May s event → Holds s b → Holds (after s event) (brought_after s b event)
event_holds s b (Pushes t) facts may holds = push_holds s b (t ∷ []) (alone_paired t may.0) holds
event_holds s b (PushesInterview n) facts may holds = push_holds s b (First n ∷ Second n ∷ []) (refl, (refl, refl)) holds
event_holds s b PushesProbe facts may holds = push_holds s b (Version ∷ MemoryId ∷ Capabilities ∷ []) (refl, (refl, (refl, refl))) holds
event_holds s b BeginsAbort facts (none, owes) holds =
    record { same = holds.same; node = λ x f. other (due_second s.queue) x.node ((idle_of s facts none).owed owes) (due_node s b holds none x f) }
event_holds s b BeginsPrefix facts (none, paid) holds = prefix_holds s b s.queue refl holds none
event_holds s b (BeginsAttempt n more payload) facts (none, paid, empty, bytes) holds =
    record { same = holds.same; node = λ x f. other (due_second s.queue) x.node (ap due_second empty) (due_node s b holds none x f) }
event_holds s b IsSent facts may holds = from_holds s b at_sent s.under_way refl facts holds fits_sent
event_holds s b Fails facts may holds = from_holds s b (λ _. Ends LinkFailed) s.under_way refl facts holds (λ u waits. inl refl)
event_holds s b (Responds r) facts may holds = from_holds s b (at_response r) s.under_way refl facts holds (fits_response r)
event_holds s b (CallsBack id status) facts may holds = from_holds s b (at_callback s.last_id id status) s.under_way refl facts holds (fits_callback s.last_id id status)
event_holds s b (Updates update) facts may holds = from_holds s b (at_update s.first update) s.under_way refl facts holds (fits_update s.first update)
event_holds s b Ticks facts may holds = from_holds s b at_tick s.under_way refl facts holds fits_tick
event_holds s b Forgets facts may holds = record { same = refl; node = λ x f. absurd (cc) }

all_hold : (s : RequestsState) (b : Option Brought) (events : List RequestsEvent) → IsRequests s → MayAll s events → Holds s b → Holds (after_all s events) (brought_in s b events)
all_hold s b [] facts may holds = holds
all_hold s b (event ∷ events) facts may holds =
    all_hold (after s event) (brought_after s b event) events (kept s event facts may.0) may.1 (event_holds s b event facts may.0 holds)

-- what was brought, read off

same_brought : (node capability : ℕ) (x : Brought) → Some x.capability ≡ Some capability → Some x.node ≡ Some node → Some x ≡ Some (record { node = node; capability = capability })
same_brought node capability x c n =
    let c' : x.capability ≡ capability = cc in
    let n' : x.node ≡ node = cc in
    ap (λ (k : ℕ). Some (record { node = x.node; capability = k })) c' ∙ ap (λ (k : ℕ). Some (record { node = k; capability = capability })) n'

read_off : (b : Option Brought) (first second : Option ℕ) (node capability : ℕ) → first ≡ capability_of b → ((x : Brought) → b ≡ Some x → second ≡ Some x.node) → second ≡ Some node
    → first ≡ Some capability → b ≡ Some (record { node = node; capability = capability })
read_off None first second node capability same of_node asked byte = absurd (cc)
read_off (Some x) first second node capability same of_node asked byte = same_brought node capability x (sym same ∙ byte) (sym (of_node x refl) ∙ asked)

pub whole : (events : List RequestsEvent) (u : UnderWay) (node capability : ℕ) → MayAll no_requests events → (after_all no_requests events).under_way ≡ Some u → second_asked u.purpose ≡ Some node
    → ((after_all no_requests events).first ≡ Some capability) ↔ (brought_in no_requests None events ≡ Some (record { node = node; capability = capability }))
whole events u node capability may e asked =
    let s : RequestsState = after_all no_requests events in
    let b : Option Brought = brought_in no_requests None events in
    let holds : Holds s b = all_hold no_requests None events at_first may (record { same = refl; node = λ x f. absurd (cc) }) in
    let second : second_node s.under_way s.queue ≡ Some node = subst (λ (o : Option UnderWay). second_node o s.queue ≡ Some node) (sym e) asked in
    (λ byte. read_off b s.first (second_node s.under_way s.queue) node capability holds.same holds.node second byte, λ f. holds.same ∙ ap capability_of f)
