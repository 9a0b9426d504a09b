-- A request that waits ends in time.
use Rattle.std.proofs.Common.{◌≡◌, ℕ, ◌+◌, ◌-◌, ◌≤◌, ◌⊎◌, inl, inr, ◌==◌, ◌&&◌, ◌||◌, not, Bool, true, false, List, [], ◌∷◌, Option, Some, None, refl, sym, subst, arith}
use Rattle.std.specs.Prelude.{IsSome, nat_lt, if◌then◌else◌}
use Rattle.std.proofs.lemmas.Bool.Decides.{nat_tests}
use Rattle.chip_functions.specs.Response.{response_function}
use Rattle.chip_functions.specs.declared.function.TheConstants.{SEND_DATA}
use Rattle.chip_functions.specs.declared.response.Response.{Response}
use Rattle.chip_functions.specs.declared.response.Response.TheVariants.{SendData, RequestNodeInfo}
use Rattle.chip_functions.specs.declared.response.TheConstants.{REFUSED}
use Rattle.host_requests.specs.Frames.{function_of}
use Rattle.host_requests.specs.State.{RequestsState}
use Rattle.host_requests.specs.Next.{is_answered, is_sent, sent_from, at_sent, taken, judged, at_response, at_callback, ends_at_update, at_update, counted_down, on_with, at_tick, went_on, end_of, next_from, end_from, after_next, end_of_next}
use Rattle.host_requests.specs.Events.{RequestsEvent, after, end_at, May, MayAll}
use Rattle.host_requests.specs.Events.RequestsEvent.{Pushes, PushesInterview, PushesProbe, BeginsAbort, BeginsPrefix, BeginsAttempt, IsSent, Fails, Responds, CallsBack, Updates, Ticks, Forgets}
use Rattle.host_requests.specs.Facts.{Waits, IsUnderWay, IsEither, IsRequests, IsWaiting, most_left, tick_of, ticks_in, EndsAmong}
use Rattle.host_requests.specs.declared.end.How.TheVariants.{LinkFailed}
use Rattle.host_requests.specs.declared.next.Next.{Next}
use Rattle.host_requests.specs.declared.next.Next.TheVariants.{GoesOn, Ends}
use Rattle.host_requests.specs.declared.task.Purpose.{Purpose}
use Rattle.host_requests.specs.declared.under_way.Progress.{Progress}
use Rattle.host_requests.specs.declared.under_way.Progress.TheVariants.{Submitted, Sent, Answered}
use Rattle.host_requests.specs.declared.under_way.UnderWay.{UnderWay}
use Rattle.host_requests.proofs.FactsKept.{kept}

-- the request ends, or waits on with so many ticks less
abbrev pub GoesDown : ℕ → Progress → Next → Type 0
GoesDown ticks old (GoesOn progress) = IsWaiting progress × (most_left progress + ticks ≤ most_left old)
GoesDown ticks old (Ends how) = Unit {0}

if_down : (ticks : ℕ) (old : Progress) (b : Bool) (x y : Next) → (b ≡ true → GoesDown ticks old x) → (b ≡ false → GoesDown ticks old y) → GoesDown ticks old (if b then x else y)
if_down ticks old true x y then_down else_down = then_down refl
if_down ticks old false x y then_down else_down = else_down refl

stays : (old : Progress) → IsWaiting old → GoesDown 0 old (GoesOn old)
stays old waiting = (waiting, omega arith)

sent_down : (p : Purpose) (old : Progress) → IsWaiting old → GoesDown 0 old (sent_from p old)
sent_down p Submitted waiting = absurd waiting
sent_down p (Sent left) waiting = (tt, omega arith)
sent_down p (Answered sent left) waiting = (tt, omega arith)

answered_down : (old : Progress) (sent : Bool) → IsWaiting old → is_answered old ≡ false → GoesDown 0 old (GoesOn (Answered sent 65))
answered_down Submitted sent waiting e = absurd waiting
answered_down (Sent left) sent waiting e = (tt, omega arith)
answered_down (Answered s left) sent waiting e = absurd (cc)

taken_down : (answer : ℕ) (u : UnderWay) → IsWaiting u.progress → is_answered u.progress ≡ false → GoesDown 0 u.progress (taken answer u)
taken_down answer u waiting e = if_down 0 u.progress (answer == REFUSED) _ _ (λ _. tt) (λ _. answered_down u.progress (is_sent u.progress) waiting e)

judged_down : (r : Response) (u : UnderWay) → IsWaiting u.progress → is_answered u.progress ≡ false → GoesDown 0 u.progress (judged r u)
judged_down (SendData answer) u waiting e = taken_down answer u waiting e
judged_down (RequestNodeInfo answer) u waiting e = taken_down answer u waiting e
judged_down r u waiting e = tt

pub not_answered : (answered other : Bool) → (answered || other) ≡ false → answered ≡ false
not_answered true other e = absurd (cc)
not_answered false other e = refl

response_down : (r : Response) (u : UnderWay) → IsWaiting u.progress → GoesDown 0 u.progress (at_response r u)
response_down r u waiting =
    if_down 0 u.progress (is_answered u.progress || not (response_function r == function_of u.purpose)) _ _ (λ _. stays u.progress waiting)
    (λ e. judged_down r u waiting (not_answered (is_answered u.progress) (not (response_function r == function_of u.purpose)) e))

left_down : (ticks : ℕ) (old : Progress) (b : Bool) (progress : Progress) → (b ≡ true → GoesDown ticks old (GoesOn progress)) → GoesDown ticks old (on_with (if b then Some progress else None))
left_down ticks old true progress down = down refl
left_down ticks old false progress down = tt

one_down : (left : ℕ) → nat_lt 1 left ≡ true → 1 ≤ left
one_down left e = grind (arith, nat_tests)

tick_down : (old : Progress) → IsWaiting old → GoesDown 1 old (on_with (counted_down old))
tick_down Submitted waiting = absurd waiting
tick_down (Sent left) waiting = left_down 1 (Sent left) (nat_lt 1 left) (Sent (left - 1)) (λ e. let some = one_down left e in (tt, omega arith))
tick_down (Answered sent left) waiting = left_down 1 (Answered sent left) (nat_lt 1 left) (Answered sent (left - 1)) (λ e. let some = one_down left e in (tt, omega arith))

-- it waits on, with so many ticks less
pub record WaitsOn (ticks : ℕ) (old : UnderWay) (s : RequestsState) : Type 0 where
  pub now : UnderWay
  pub under_way : s.under_way ≡ Some now
  pub waiting : IsWaiting now.progress
  pub less : most_left now.progress + ticks ≤ most_left old.progress

next_down : (s : RequestsState) (ticks : ℕ) (u : UnderWay) (next : Next) → GoesDown ticks u.progress next → IsSome (end_of u next) ⊎ WaitsOn ticks u (went_on s u next)
next_down s ticks u (GoesOn progress) down = inr (record { now = record { purpose = u.purpose; progress = progress }; under_way = refl; waiting = down.0; less = down.1 })
next_down s ticks u (Ends how) down = inl refl

event_down : (s : RequestsState) (ticks : ℕ) (u : UnderWay) (next : UnderWay → Next) → s.under_way ≡ Some u → GoesDown ticks u.progress (next u)
    → IsSome (end_of_next s next) ⊎ WaitsOn ticks u (after_next s next)
event_down s ticks u next e down =
    subst (λ (o : Option UnderWay). IsSome (end_from next o) ⊎ WaitsOn ticks u (next_from s next o)) (sym e) (next_down s ticks u (next u) down)

told : (s : RequestsState) (event : RequestsEvent) (u : UnderWay) → IsSome (end_at s event) ⊎ WaitsOn (tick_of event) u (after s event) → IsSome (end_at s event) ⊎ ((event ≡ Forgets) ⊎ WaitsOn (tick_of event) u (after s event))
told s event u (inl ends) = inl ends
told s event u (inr waits) = inr (inr waits)

busy : {A : Type 0} (s : RequestsState) (u : UnderWay) → s.under_way ≡ Some u → s.under_way ≡ None → A
busy s u some none = absurd (cc)

goes : (s : RequestsState) (event : RequestsEvent) (u : UnderWay) → s.under_way ≡ Some u → IsWaiting u.progress → May s event
    → IsSome (end_at s event) ⊎ ((event ≡ Forgets) ⊎ WaitsOn (tick_of event) u (after s event))
goes s (Pushes t) u e waiting may = inr (inr (record { now = u; under_way = e; waiting = waiting; less = omega arith }))
goes s (PushesInterview n) u e waiting may = inr (inr (record { now = u; under_way = e; waiting = waiting; less = omega arith }))
goes s PushesProbe u e waiting may = inr (inr (record { now = u; under_way = e; waiting = waiting; less = omega arith }))
goes s BeginsAbort u e waiting may = busy s u e may.0
goes s BeginsPrefix u e waiting may = busy s u e may.0
goes s (BeginsAttempt n more payload) u e waiting may = busy s u e may.0
goes s IsSent u e waiting may = told s IsSent u (event_down s 0 u at_sent e (sent_down u.purpose u.progress waiting))
goes s Fails u e waiting may = told s Fails u (event_down s 0 u (λ _. Ends LinkFailed) e tt)
goes s (Responds r) u e waiting may = told s (Responds r) u (event_down s 0 u (at_response r) e (response_down r u waiting))
goes s (CallsBack id status) u e waiting may =
    told s (CallsBack id status) u
    (event_down s 0 u (at_callback s.last_id id status) e (if_down 0 u.progress ((function_of u.purpose == SEND_DATA) && (id == s.last_id)) _ _ (λ _. tt) (λ _. stays u.progress waiting)))
goes s (Updates update) u e waiting may =
    told s (Updates update) u (event_down s 0 u (at_update s.first update) e (if_down 0 u.progress (ends_at_update update u) _ _ (λ _. tt) (λ _. stays u.progress waiting)))
goes s Ticks u e waiting may = told s Ticks u (event_down s 1 u at_tick e (tick_down u.progress waiting))
goes s Forgets u e waiting may = inr (inl refl)

some_left : (f : ℕ) (progress : Progress) → IsWaiting progress → Waits f progress → 1 ≤ most_left progress
some_left f Submitted waiting waits = absurd waiting
some_left f (Sent left) waiting waits = omega arith
some_left f (Answered sent left) waiting waits = omega (arith, waits.0)

pub ends : (s : RequestsState) (events : List RequestsEvent) (u : UnderWay) → IsRequests s → s.under_way ≡ Some u → IsWaiting u.progress → MayAll s events
    → most_left u.progress ≤ ticks_in events → EndsAmong s events
ends s [] u facts e waiting may left =
    let under_way : IsUnderWay u s = subst (λ (o : Option UnderWay). IsEither o s) e facts.either in
    let some = some_left (function_of u.purpose) u.progress waiting under_way.waits in
    omega arith
ends s (event ∷ events) u facts e waiting may left =
    elim (goes s event u e waiting may.0) [
      | inl ended ↦ inl ended
      | inr other ↦ elim other [
        | inl forgot ↦ inr (inl forgot)
        | inr on ↦ inr (inr (ends (after s event) events on.now (kept s event facts may.0) on.under_way on.waiting may.1 (omega (arith, on.less, left))))
      ]
    ]
