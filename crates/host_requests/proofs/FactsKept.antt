-- What each event keeps.
use Rattle.std.proofs.Common.{◌≡◌, ℕ, ◌+◌, ◌-◌, ◌≤◌, ◌⊎◌, inl, inr, ◌==◌, ◌&&◌, ◌||◌, not, Bool, true, false, List, [], ◌∷◌, ◌++◌, length, Option, Some, None, refl, sym, ap, subst, ◌∙◌, arith}
use Rattle.std.specs.Prelude.{All, IsTrue, nat_lt, if◌then◌else◌}
use Rattle.std.proofs.lemmas.Bool.Decides.{nat_tests}
use Rattle.std.proofs.lemmas.List.{length-append}
use Rattle.std.proofs.lemmas.List.Elements.{All-nil, All-cons, All-append, All-drop}
use Rattle.chip_functions.specs.Response.{response_function}
use Rattle.chip_functions.specs.declared.function.TheConstants.{SEND_DATA, GET_NODE_PROTOCOL_INFO}
use Rattle.chip_functions.specs.declared.notice.TransmitStatus.{TransmitStatus}
use Rattle.chip_functions.specs.declared.notice.Update.{Update}
use Rattle.chip_functions.specs.declared.response.Response.{Response}
use Rattle.chip_functions.specs.declared.response.Response.TheVariants.{GetInitData, GetCapabilities, SendData, GetVersion, MemoryGetId, GetNodeProtocolInfo, RequestNodeInfo, IsFailedNode, GetRoutingInfo}
use Rattle.chip_functions.specs.declared.response.TheConstants.{REFUSED}
use Rattle.host_requests.specs.Frames.{function_of, HasPayload}
use Rattle.host_requests.specs.State.{RequestsState, no_requests, begun}
use Rattle.host_requests.specs.Next.{response_ticks, notice_ticks, is_answered, acknowledged, sent_from, at_sent, taken, judged, at_response, at_callback, ends_at_update, at_update, counted_down, on_with, at_tick, owes_abort, capability_at, went_on, next_from}
use Rattle.host_requests.specs.Events.{RequestsEvent, with_tasks, task_begun, after, May, after_all, MayAll}
use Rattle.host_requests.specs.Events.RequestsEvent.{Pushes, PushesInterview, PushesProbe, BeginsAbort, BeginsPrefix, BeginsAttempt, IsSent, Fails, Responds, CallsBack, Updates, Ticks, Forgets}
use Rattle.host_requests.specs.Facts.{HasNotice, Waits, first_of, second_of, first_asked, second_asked, ArePaired, due_second, IsUnderWay, IsIdle, IsEither, IsRequests}
use Rattle.host_requests.specs.declared.end.How.{How}
use Rattle.host_requests.specs.declared.end.How.TheVariants.{LinkFailed}
use Rattle.host_requests.specs.declared.next.Next.{Next}
use Rattle.host_requests.specs.declared.next.Next.TheVariants.{GoesOn, Ends}
use Rattle.host_requests.specs.declared.task.Task.{Task}
use Rattle.host_requests.specs.declared.task.Task.TheVariants.{First, Second, Version, MemoryId, Capabilities}
use Rattle.host_requests.specs.declared.task.Purpose.{Purpose}
use Rattle.host_requests.specs.declared.task.Purpose.TheVariants.{Housekeeping, Attempt, Abort}
use Rattle.host_requests.specs.declared.under_way.Progress.{Progress}
use Rattle.host_requests.specs.declared.under_way.Progress.TheVariants.{Submitted, Sent, Answered}
use Rattle.host_requests.specs.declared.under_way.UnderWay.{UnderWay}
use Rattle.host_requests.proofs.Purposes.{alone_payload, alone_paired, send_first, capable_first, task_no_abort, due-paired, paired-append, due-append, id_given, id_fits}

-- tasks that wait after the others

pushed_either : (s : RequestsState) (tasks : List Task) (o : Option UnderWay) → ArePaired None tasks → IsEither o s → IsEither o (with_tasks s tasks)
pushed_either s tasks None paired idle =
    let same = due-append s.queue tasks paired in
    record { owed = λ owes. same ∙ idle.owed owes; brought = λ none. idle.brought (sym same ∙ none) }
pushed_either s tasks (Some u) paired under_way =
    record {
      waits = under_way.waits;
      id = under_way.id;
      paid = under_way.paid;
      due = due-append s.queue tasks paired ∙ under_way.due;
      brought = under_way.brought;
    }

pushed : (s : RequestsState) (tasks : List Task) → IsRequests s → length s.queue + length tasks ≤ 64 → All HasPayload tasks → ArePaired None tasks → IsRequests (with_tasks s tasks)
pushed s tasks facts room payloads paired =
    record {
      few = omega (arith, length-append s.queue tasks, room);
      payloads = All-append HasPayload s.queue tasks facts.payloads payloads;
      ids = facts.ids;
      paired = subst (λ (d : Option ℕ). ArePaired d (s.queue ++ tasks)) (sym (due-append s.queue tasks paired)) (paired-append (due_second s.queue) s.queue tasks facts.paired paired);
      either = pushed_either s tasks s.under_way paired facts.either;
    }

-- a request that begins

begins : (s : RequestsState) (p : Purpose) → length s.queue ≤ 64 → All HasPayload s.queue → s.last_id ≤ 255 → ArePaired (due_second s.queue) s.queue → s.owes ≡ false
    → due_second s.queue ≡ first_asked p → (second_asked p ≡ None → s.first ≡ None) → IsRequests (begun s p)
begins s p few payloads ids paired paid due brought =
    record {
      few = few;
      payloads = payloads;
      ids = id_fits s.last_id p ids;
      paired = paired;
      either = record { waits = tt; id = id_given s.last_id p; paid = paid; due = due; brought = brought };
    }

pub idle_of : (s : RequestsState) → IsRequests s → s.under_way ≡ None → IsIdle s
idle_of s facts none = subst (λ (o : Option UnderWay). IsEither o s) none facts.either

prefix_begins : (s : RequestsState) (queue : List Task) → s.queue ≡ queue → IsRequests s → s.under_way ≡ None → s.owes ≡ false → IsRequests (task_begun s queue)
prefix_begins s [] e facts none paid = facts
prefix_begins s (t ∷ rest) e facts none paid =
    let idle = idle_of s facts none in
    let few : length (t ∷ rest) ≤ 64 = subst (λ (q : List Task). length q ≤ 64) e facts.few in
    let paired : ArePaired (second_of t) (t ∷ rest) = subst (λ (q : List Task). ArePaired (due_second q) q) e facts.paired in
    let due : due_second rest ≡ first_of t = due-paired (first_of t) rest paired.1 in
    begins (record s { queue = rest }) (Housekeeping t)
    (omega (arith, few))
    (All-drop HasPayload 1 (t ∷ rest) (subst (λ (q : List Task). All HasPayload q) e facts.payloads))
    facts.ids
    (subst (λ (d : Option ℕ). ArePaired d rest) (sym due) paired.1)
    paid due
    (λ other. idle.brought (ap due_second e ∙ other))

-- what an event makes of the request under way has a wait of its own, or ends it: a capability byte comes of the first request
-- of an interview alone
abbrev pub NextFits : Purpose → Next → Type 0
NextFits p (GoesOn progress) = Waits (function_of p) progress
NextFits p (Ends how) = (capability_at how ≡ None) ⊎ (function_of p ≡ GET_NODE_PROTOCOL_INFO)

owes_send : (u : UnderWay) (how : How) → IsTrue (owes_abort u how) → function_of u.purpose ≡ SEND_DATA
owes_send u how owes = grind (arith, nat_tests)

goes_on : (s : RequestsState) (u : UnderWay) (next : Next) → IsRequests s → IsUnderWay u s → NextFits u.purpose next → IsRequests (went_on s u next)
goes_on s u (GoesOn progress) facts under_way fits =
    record {
      few = facts.few;
      payloads = facts.payloads;
      ids = facts.ids;
      paired = facts.paired;
      either = record { waits = fits; id = under_way.id; paid = under_way.paid; due = under_way.due; brought = under_way.brought };
    }
goes_on s u (Ends how) facts under_way fits =
    record {
      few = facts.few;
      payloads = facts.payloads;
      ids = facts.ids;
      paired = facts.paired;
      either = record {
        owed = λ owes. under_way.due ∙ send_first u.purpose (owes_send u how owes);
        brought = λ none. elim fits [ inl e ↦ e | inr e ↦ absurd (capable_first u.purpose e (sym under_way.due ∙ none)) ];
      };
    }

next_kept : (s : RequestsState) (next : UnderWay → Next) (o : Option UnderWay) → s.under_way ≡ o → IsRequests s → ((u : UnderWay) → Waits (function_of u.purpose) u.progress → NextFits u.purpose (next u))
    → IsRequests (next_from s next o)
next_kept s next None e facts fits = facts
next_kept s next (Some u) e facts fits =
    let under_way : IsUnderWay u s = subst (λ (o : Option UnderWay). IsEither o s) e facts.either in
    goes_on s u (next u) facts under_way (fits u under_way.waits)

-- where a test decides
if_fits : (p : Purpose) (b : Bool) (x y : Next) → (b ≡ true → NextFits p x) → (b ≡ false → NextFits p y) → NextFits p (if b then x else y)
if_fits p true x y then_fits else_fits = then_fits refl
if_fits p false x y then_fits else_fits = else_fits refl

acknowledged_fits : (p : Purpose) → NextFits p (acknowledged p)
acknowledged_fits Abort = inl refl
acknowledged_fits (Attempt n more payload) = (omega arith, omega arith, λ e. omega arith)
acknowledged_fits (Housekeeping t) = (omega arith, omega arith, task_no_abort t)

sent_fits : (p : Purpose) (progress : Progress) → Waits (function_of p) progress → NextFits p (sent_from p progress)
sent_fits p Submitted waits = acknowledged_fits p
sent_fits p (Sent left) waits = waits
sent_fits p (Answered sent left) waits = waits

taken_fits : (answer : ℕ) (u : UnderWay) → HasNotice (function_of u.purpose) → NextFits u.purpose (taken answer u)
taken_fits answer u notice = if_fits u.purpose (answer == REFUSED) _ _ (λ _. inl refl) (λ _. (omega arith, omega arith, notice))

judged_fits : (r : Response) (u : UnderWay) → response_function r ≡ function_of u.purpose → NextFits u.purpose (judged r u)
judged_fits (SendData answer) u e = taken_fits answer u (inl (sym e))
judged_fits (RequestNodeInfo answer) u e = taken_fits answer u (inr (sym e))
judged_fits (GetNodeProtocolInfo c s r b g t) u e = inr (sym e)
judged_fits (GetInitData v c nodes t w) u e = inl refl
judged_fits (GetCapabilities v r m t p functions) u e = inl refl
judged_fits (GetVersion text t) u e = inl refl
judged_fits (MemoryGetId home n) u e = inl refl
judged_fits (IsFailedNode failed) u e = inl refl
judged_fits (GetRoutingInfo nodes) u e = inl refl

its_response : (answered : Bool) (f g : ℕ) → (answered || not (f == g)) ≡ false → f ≡ g
its_response answered f g e = grind (arith, nat_tests)

response_fits : (r : Response) (u : UnderWay) → Waits (function_of u.purpose) u.progress → NextFits u.purpose (at_response r u)
response_fits r u waits =
    if_fits u.purpose (is_answered u.progress || not (response_function r == function_of u.purpose)) _ _ (λ _. waits)
    (λ e. judged_fits r u (its_response (is_answered u.progress) (response_function r) (function_of u.purpose) e))

left_fits : (p : Purpose) (b : Bool) (progress : Progress) → (b ≡ true → Waits (function_of p) progress) → NextFits p (on_with (if b then Some progress else None))
left_fits p true progress fits = fits refl
left_fits p false progress fits = inl refl

one_less : (left most : ℕ) → nat_lt 1 left ≡ true → left ≤ most → (1 ≤ left - 1) × (left - 1 ≤ most)
one_less left most e bound = (grind (arith, nat_tests), omega arith)

tick_fits : (p : Purpose) (progress : Progress) → Waits (function_of p) progress → NextFits p (on_with (counted_down progress))
tick_fits p Submitted waits = tt
tick_fits p (Sent left) (some, most, other) =
    left_fits p (nat_lt 1 left) (Sent (left - 1)) (λ e. let less = one_less left response_ticks e most in (less.0, less.1, other))
tick_fits p (Answered sent left) (some, most, notice) =
    left_fits p (nat_lt 1 left) (Answered sent (left - 1)) (λ e. let less = one_less left notice_ticks e most in (less.0, less.1, notice))

-- what each of these events makes of the request under way

pub fits_sent : (u : UnderWay) → Waits (function_of u.purpose) u.progress → NextFits u.purpose (at_sent u)
fits_sent u waits = sent_fits u.purpose u.progress waits

pub fits_response : (r : Response) (u : UnderWay) → Waits (function_of u.purpose) u.progress → NextFits u.purpose (at_response r u)
fits_response r u waits = response_fits r u waits

pub fits_callback : (last id : ℕ) (status : TransmitStatus) (u : UnderWay) → Waits (function_of u.purpose) u.progress → NextFits u.purpose (at_callback last id status u)
fits_callback last id status u waits = if_fits u.purpose ((function_of u.purpose == SEND_DATA) && (id == last)) _ _ (λ _. inl refl) (λ _. waits)

pub fits_update : (first : Option ℕ) (update : Update) (u : UnderWay) → Waits (function_of u.purpose) u.progress → NextFits u.purpose (at_update first update u)
fits_update first update u waits = if_fits u.purpose (ends_at_update update u) _ _ (λ _. inl refl) (λ _. waits)

pub fits_tick : (u : UnderWay) → Waits (function_of u.purpose) u.progress → NextFits u.purpose (at_tick u)
fits_tick u waits = tick_fits u.purpose u.progress waits

no_tasks : All HasPayload []
no_tasks = All-nil HasPayload

one_task : (t : Task) → HasPayload t → All HasPayload (t ∷ [])
one_task t h = All-cons HasPayload t [] h no_tasks

pub at_first : IsRequests no_requests
at_first = record { few = omega arith; payloads = no_tasks; ids = omega arith; paired = refl; either = record { owed = λ owes. refl; brought = λ none. refl } }

pub kept : (s : RequestsState) (event : RequestsEvent) → IsRequests s → May s event → IsRequests (after s event)
kept s (Pushes t) facts (alone, room) = pushed s (t ∷ []) facts room (one_task t (alone_payload t alone)) (alone_paired t alone)
kept s (PushesInterview n) facts room = pushed s (First n ∷ Second n ∷ []) facts room (All-cons HasPayload (First n) (Second n ∷ []) tt (one_task (Second n) tt)) (refl, (refl, refl))
kept s PushesProbe facts room = pushed s (Version ∷ MemoryId ∷ Capabilities ∷ []) facts room
    (All-cons HasPayload Version (MemoryId ∷ Capabilities ∷ []) tt (All-cons HasPayload MemoryId (Capabilities ∷ []) tt (one_task Capabilities tt))) (refl, (refl, (refl, refl)))
kept s BeginsAbort facts (none, owes) =
    let idle = idle_of s facts none in
    begins (record s { owes = false }) Abort facts.few facts.payloads facts.ids facts.paired refl (idle.owed owes) (λ _. idle.brought (idle.owed owes))
kept s BeginsPrefix facts (none, paid) = prefix_begins s s.queue refl facts none paid
kept s (BeginsAttempt n more payload) facts (none, paid, empty, bytes) =
    let idle = idle_of s facts none in
    let due : due_second s.queue ≡ None = ap due_second empty in
    begins s (Attempt n more payload) facts.few facts.payloads facts.ids facts.paired paid due (λ _. idle.brought due)
kept s IsSent facts may = next_kept s at_sent s.under_way refl facts fits_sent
kept s Fails facts may = next_kept s (λ _. Ends LinkFailed) s.under_way refl facts (λ u waits. inl refl)
kept s (Responds r) facts may = next_kept s (at_response r) s.under_way refl facts (fits_response r)
kept s (CallsBack id status) facts may = next_kept s (at_callback s.last_id id status) s.under_way refl facts (fits_callback s.last_id id status)
kept s (Updates update) facts may = next_kept s (at_update s.first update) s.under_way refl facts (fits_update s.first update)
kept s Ticks facts may = next_kept s at_tick s.under_way refl facts fits_tick
kept s Forgets facts may = at_first

pub kept_all : (s : RequestsState) (events : List RequestsEvent) → IsRequests s → MayAll s events → IsRequests (after_all s events)
kept_all s [] facts may = facts
kept_all s (event ∷ events) facts may = kept_all (after s event) events (kept s event facts may.0) may.1
