-- What an event of a host makes of the request under way where none is submitted: it stays what it is for until it ends; and a No More Information that ends lets its node sleep.
use Rattle.std.proofs.Common.{◌≡◌, ◌⊎◌, ℕ, ◌<◌, Bool, true, false, if◌then◌else◌, inl, inr, length, Option, Some, None, refl, sym, ap, ◌∙◌, subst}
use Rattle.std.proofs.lemmas.Bool.{eq-eqb}
use Rattle.serial_link.specs.State.{Side, tick_side}
use Rattle.chip_functions.specs.declared.notice.Update.{Update}
use Rattle.host_requests.specs.Events as requests
use Rattle.host_requests.specs.Events.{RequestsEvent, end_at}
use Rattle.host_requests.specs.Events.RequestsEvent.{Pushes, PushesInterview, PushesProbe, BeginsAbort, BeginsPrefix, BeginsAttempt, IsSent, Fails, Responds, CallsBack, Updates, Ticks, Forgets}
use Rattle.host_requests.specs.Next.{at_callback, at_response, at_sent, at_tick, at_update, end_from, end_of, next_from, purpose_ends_at_update, went_on}
use Rattle.host_requests.specs.State.{RequestsState}
use Rattle.host_requests.specs.declared.end.End.{End}
use Rattle.host_requests.specs.declared.end.How.TheVariants.{AtUpdate, LinkFailed}
use Rattle.host_requests.specs.declared.next.Next.{Next}
use Rattle.host_requests.specs.declared.next.Next.TheVariants.{Ends, GoesOn}
use Rattle.host_requests.specs.declared.task.Purpose.{Purpose}
use Rattle.host_requests.specs.declared.task.Purpose.TheVariants.{Housekeeping}
use Rattle.host_requests.specs.declared.task.Task.TheVariants.{NoMore}
use Rattle.host_requests.specs.declared.under_way.UnderWay.{UnderWay}
use Rattle.host_node.specs.declared.attempt.Moment.{Moment}
use Rattle.host_node.specs.declared.attempt.Moment.TheVariants.{BeforeItsTick}
use Rattle.host_node.specs.declared.no_more.NoMore.TheVariants.{Unasked}
use Rattle.host_node.specs.State.{NodeState}
use Rattle.host_node.specs.Steps.{after_no_more, after_sleep, asleep}
use Rattle.proof_requests.specs.host_model.State.{HostState, node_of}
use Rattle.proof_requests.specs.host_model.After.{after, failing_if, gives_up, line_ticked, request_does, requests_do}
use Rattle.proof_requests.specs.host_model.Events.{HostEvent, Queues, Hears, Requests_do, Interviews, Interview_unkept, Line_ticks, Submits_abort, Submits_front, Starts, Gives_text, Gives_segment}
use Rattle.proof_work.specs.Doing.{IsTold}
use Rattle.proof_requests.specs.Asking.{Doing as DoingOfHost, doing_of}
use Rattle.proof_requests.proofs.Doing.{beside_same, end_if_asks}
use Rattle.proof_attempts.proofs.Doings.{did, does_at, end_does, failing_does, node_after, purpose_does}

-- none is submitted, and the requests hear of no more than the line, the chip and the clock tell them
abbrev pub Unsubmitted : HostEvent → Type 0
Unsubmitted (Requests_do event moment) = IsTold event
Unsubmitted Submits_abort = ⊥
Unsubmitted Submits_front = ⊥
Unsubmitted (Starts n plan more payload) = ⊥
Unsubmitted (Gives_text n payload) = ⊥
Unsubmitted (Gives_segment n more payload) = ⊥
Unsubmitted event = Unit {0}

-- ---- it stays what it is for

pub record KeepsRequest (s t : RequestsState) : Type 0 where
  pub id : t.last_id ≡ s.last_id
  pub same : (u : UnderWay) → t.under_way ≡ Some u → (v : UnderWay) × (s.under_way ≡ Some v) × (v.purpose ≡ u.purpose)

keeps_all : (s t : RequestsState) → t.last_id ≡ s.last_id → t.under_way ≡ s.under_way → KeepsRequest s t
keeps_all s t id same = record { id = id; same = λ u is. (u, sym same ∙ is, refl) }

purpose_same : (v : UnderWay) (u w : UnderWay) → w.purpose ≡ v.purpose → Some w ≡ Some u → v.purpose ≡ u.purpose
purpose_same v u w is same = let one : w ≡ u = cc in sym is ∙ ap (λ (x : UnderWay). x.purpose) one

next_keeps : (s : RequestsState) (next : UnderWay → Next) (o : Option UnderWay) → s.under_way ≡ o → KeepsRequest s (next_from s next o)
next_keeps s next None is = keeps_all s s refl refl
next_keeps s next (Some v) is = by (next v)
  where
    by : (n : Next) → KeepsRequest s (went_on s v n)
    by (GoesOn progress) = record { id = refl; same = λ u now. (v, is, purpose_same v u (record { purpose = v.purpose; progress = progress }) refl now) }
    by (Ends how) = record { id = refl; same = λ u now. absurd (let bad = now in cc) }

told_keeps : (s : RequestsState) (event : RequestsEvent) → IsTold event → KeepsRequest s (requests.after s event)
told_keeps s IsSent is = next_keeps s at_sent s.under_way refl
told_keeps s Fails is = next_keeps s (λ u. Ends LinkFailed) s.under_way refl
told_keeps s (Responds response) is = next_keeps s (at_response response) s.under_way refl
told_keeps s (CallsBack id status) is = next_keeps s (at_callback s.last_id id status) s.under_way refl
told_keeps s (Updates update) is = next_keeps s (at_update s.first update) s.under_way refl
told_keeps s Ticks is = next_keeps s at_tick s.under_way refl
told_keeps s (Pushes task) is = absurd is
told_keeps s (PushesInterview n) is = absurd is
told_keeps s PushesProbe is = absurd is
told_keeps s BeginsAbort is = absurd is
told_keeps s BeginsPrefix is = absurd is
told_keeps s (BeginsAttempt n more payload) is = absurd is
told_keeps s Forgets is = absurd is

request_keeps : (h : HostState) (event : RequestsEvent) (moment : Moment) → IsTold event → KeepsRequest h.requests (request_does h event moment).requests
request_keeps h event moment is =
    subst (λ (p : Side × RequestsState). KeepsRequest h.requests p.1) (sym (end_if_asks (requests_do h event) (end_at h.requests event) moment)) (told_keeps h.requests event is)

failing_keeps : (b : Bool) (h : HostState) → KeepsRequest h.requests (failing_if b h).requests
failing_keeps true h = request_keeps h Fails BeforeItsTick tt
failing_keeps false h = keeps_all h.requests h.requests refl refl

doing_keeps : (h g : HostState) → doing_of g ≡ doing_of h → KeepsRequest h.requests g.requests
doing_keeps h g same = keeps_all h.requests g.requests (ap (λ (d : DoingOfHost). d.id) same) (ap (λ (d : DoingOfHost). d.under_way) same)

pub event_keeps : (h : HostState) (event : HostEvent) → Unsubmitted event → KeepsRequest h.requests (after h event).requests
event_keeps h (Hears item) un = keeps_all h.requests h.requests refl refl
event_keeps h (Queues task) un = keeps_all h.requests (after h (Queues task)).requests refl refl
event_keeps h (Requests_do event moment) un = request_keeps h event moment un
event_keeps h (Interviews n listens classes update) un = told_keeps h.requests (Updates update) tt
event_keeps h (Interview_unkept n update) un = told_keeps h.requests (Updates update) tt
event_keeps h Line_ticks un = failing_keeps (gives_up h.side.turn (tick_side h.side).turn) (line_ticked h)
event_keeps h Submits_abort un = absurd un
event_keeps h Submits_front un = absurd un
event_keeps h (Starts n plan more payload) un = absurd un
event_keeps h (Gives_text n payload) un = absurd un
event_keeps h (Gives_segment n more payload) un = absurd un
event_keeps h event un = doing_keeps h (after h event) (beside_same h event tt)

-- ---- until it ends

pub record EndedAs (end : Option End) (u : UnderWay) : Type 0 where
  pub it : End
  pub is : end ≡ Some it
  pub purpose : it.purpose ≡ u.purpose

next_ends : (s : RequestsState) (next : UnderWay → Next) (o : Option UnderWay) (u : UnderWay) → o ≡ Some u → (next_from s next o).under_way ≡ None → s.under_way ≡ o → EndedAs (end_from next o) u
next_ends s next None u is none same = absurd (let bad = is in cc)
next_ends s next (Some v) u is none same = by (next v) none
  where
    by : (n : Next) → (went_on s v n).under_way ≡ None → EndedAs (end_of v n) u
    by (GoesOn progress) none = absurd (let bad = none in cc)
    by (Ends how) none = record { it = record { purpose = v.purpose; how = how }; is = refl; purpose = purpose_same v u v refl is }

told_ends : (s : RequestsState) (event : RequestsEvent) → IsTold event → (u : UnderWay) → s.under_way ≡ Some u → (requests.after s event).under_way ≡ None → EndedAs (end_at s event) u
told_ends s IsSent told u is none = next_ends s at_sent s.under_way u is none refl
told_ends s Fails told u is none = next_ends s (λ v. Ends LinkFailed) s.under_way u is none refl
told_ends s (Responds response) told u is none = next_ends s (at_response response) s.under_way u is none refl
told_ends s (CallsBack id status) told u is none = next_ends s (at_callback s.last_id id status) s.under_way u is none refl
told_ends s (Updates update) told u is none = next_ends s (at_update s.first update) s.under_way u is none refl
told_ends s Ticks told u is none = next_ends s at_tick s.under_way u is none refl
told_ends s (Pushes task) told u is none = absurd told
told_ends s (PushesInterview n) told u is none = absurd told
told_ends s PushesProbe told u is none = absurd told
told_ends s BeginsAbort told u is none = absurd told
told_ends s BeginsPrefix told u is none = absurd told
told_ends s (BeginsAttempt n more payload) told u is none = absurd told
told_ends s Forgets told u is none = absurd told

-- an update ends none that tells that there is no more
update_goes : (n : ℕ) (first : Option ℕ) (update : Update) (u : UnderWay) → u.purpose ≡ Housekeeping (NoMore n) → at_update first update u ≡ GoesOn u.progress
update_goes n first update u is = ap (λ (p : Purpose). if purpose_ends_at_update update p then Ends (AtUpdate update first) else GoesOn u.progress) is

no_end : (first : Option ℕ) (update : Update) (o : Option UnderWay) (u : UnderWay) (n : ℕ) → o ≡ Some u → u.purpose ≡ Housekeeping (NoMore n) → end_from (at_update first update) o ≡ None
no_end first update o u n is purpose =
    ap (λ (p : Option UnderWay). end_from (at_update first update) p) is ∙ ap (λ (next : Next). end_of u next) (update_goes n first update u purpose)

-- ---- its node sleeps

abbrev SleepsOrListens : NodeState → Type 0
SleepsOrListens s = (s.awake ≡ false) ⊎ (s.listens ≡ true)

sleeps_by : (b : Bool) (s t : NodeState) → (b ≡ true → s.listens ≡ true) → t.awake ≡ false → SleepsOrListens (if b then s else t)
sleeps_by true s t listens slept = inr (listens refl)
sleeps_by false s t listens slept = inl slept

sleep_at : (s : NodeState) → SleepsOrListens (after_sleep s)
sleep_at s = sleeps_by s.listens s (asleep s) (λ is. is) refl

end_sleeps : (n : ℕ) (s : NodeState) (end : Option End) (u : UnderWay) (moment : Moment) → u.purpose ≡ Housekeeping (NoMore n) → EndedAs end u → SleepsOrListens (does_at n s (end_does end moment))
end_sleeps n s end u moment is ended =
    subst (λ (o : Option End). SleepsOrListens (does_at n s (end_does o moment))) (sym ended.is)
    (subst (λ (p : Purpose). SleepsOrListens (does_at n s (purpose_does p ended.it.how moment))) (sym (ended.purpose ∙ is))
    (subst (λ (b : Bool). SleepsOrListens (if b then after_sleep (after_no_more s Unasked) else s)) (sym (eq-eqb n n refl)) (sleep_at (after_no_more s Unasked))))

none_by : (h : HostState) (event : RequestsEvent) (moment : Moment) → (request_does h event moment).requests.under_way ≡ None → (requests.after h.requests event).under_way ≡ None
none_by h event moment none = sym (ap (λ (p : Side × RequestsState). p.1.under_way) (end_if_asks (requests_do h event) (end_at h.requests event) moment)) ∙ none

still_under_way : (o : Option UnderWay) (u : UnderWay) → o ≡ Some u → o ≡ None → ⊥
still_under_way o u is none = cc

module _ (h : HostState) (n : ℕ) (u : UnderWay) (is : h.requests.under_way ≡ Some u) (purpose : u.purpose ≡ Housekeeping (NoMore n)) where
  failing_sleeps : (b : Bool) → (failing_if b (line_ticked h)).requests.under_way ≡ None → SleepsOrListens (does_at n (node_of h n) (failing_does b h))
  failing_sleeps true none = end_sleeps n (node_of h n) (end_at h.requests Fails) u BeforeItsTick purpose (told_ends h.requests Fails tt u is (none_by (line_ticked h) Fails BeforeItsTick none))
  failing_sleeps false none = absurd (still_under_way h.requests.under_way u is none)

  update_not : (update : Update) → (requests.after h.requests (Updates update)).under_way ≡ None → ⊥
  update_not update none =
      let ended = told_ends h.requests (Updates update) tt u is none in
      let bad : None ≡ Some ended.it = sym (no_end h.requests.first update h.requests.under_way u n is purpose) ∙ ended.is in cc

  beside_not : (event : HostEvent) → doing_of (after h event) ≡ doing_of h → (after h event).requests.under_way ≡ None → ⊥
  beside_not event same none = still_under_way h.requests.under_way u is (sym (ap (λ (d : DoingOfHost). d.under_way) same) ∙ none)

  did_sleeps : (event : HostEvent) → Unsubmitted event → (after h event).requests.under_way ≡ None → SleepsOrListens (does_at n (node_of h n) (did h event))
  did_sleeps (Hears item) un none = absurd (still_under_way h.requests.under_way u is none)
  did_sleeps (Queues task) un none = absurd (still_under_way h.requests.under_way u is none)
  did_sleeps (Requests_do event moment) un none = end_sleeps n (node_of h n) (end_at h.requests event) u moment purpose (told_ends h.requests event un u is (none_by h event moment none))
  did_sleeps (Interviews k listens classes update) un none = absurd (update_not update none)
  did_sleeps (Interview_unkept k update) un none = absurd (update_not update none)
  did_sleeps Line_ticks un none = failing_sleeps (gives_up h.side.turn (tick_side h.side).turn) none
  did_sleeps Submits_abort un none = absurd un
  did_sleeps Submits_front un none = absurd un
  did_sleeps (Starts k plan more payload) un none = absurd un
  did_sleeps (Gives_text k payload) un none = absurd un
  did_sleeps (Gives_segment k more payload) un none = absurd un
  did_sleeps event un none = absurd (beside_not event (beside_same h event tt) none)

  pub told_sleeps : (event : HostEvent) → Unsubmitted event → n < length h.nodes → (after h event).requests.under_way ≡ None → SleepsOrListens (node_of (after h event) n)
  told_sleeps event un within none = subst SleepsOrListens (sym (node_after h event n within)) (did_sleeps event un none)
