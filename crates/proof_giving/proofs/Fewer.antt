-- At an event at which no attempt begins none runs of a node that did not run before, and no text is there that was not; and the end of a request leaves its session open.
use Rattle.std.proofs.Common.{◌≡◌, ℕ, ◌+◌, ◌-◌, ◌<◌, ◌==◌, ◌&&◌, Bool, true, false, if◌then◌else◌, List, [], ◌∷◌, length, Option, Some, None, refl, sym, ap, ◌∙◌, subst}
use Rattle.std.specs.Prelude.{is_some, nat_lt}
use Rattle.std.proofs.lemmas.Bool.{or_right}
use Rattle.supervision.specs.Host.{HostBook, open_session, told_of}
use Rattle.supervision.specs.declared.host_node.Told.{Told as TheTold}
use Rattle.supervision.specs.declared.host_node.Told.TheVariants as told
use Rattle.host_requests.specs.declared.end.End.{End}
use Rattle.host_requests.specs.declared.end.How.{How}
use Rattle.host_requests.specs.declared.task.Purpose.{Purpose}
use Rattle.host_requests.specs.declared.task.Purpose.TheVariants.{Housekeeping, Attempt, Abort}
use Rattle.host_requests.specs.declared.task.Task.{Task}
use Rattle.host_requests.specs.declared.task.Task.TheVariants.{NoMore}
use Rattle.host_node.specs.declared.attempt.Moment.{Moment}
use Rattle.host_node.specs.declared.attempt.Moment.TheVariants.{BetweenTicks}
use Rattle.host_node.specs.declared.no_more.NoMore.TheVariants.{Unasked}
use Rattle.host_node.specs.declared.series.Series.{Series}
use Rattle.host_node.specs.declared.series.Series.TheVariants.{Idle, Due, Running}
use Rattle.host_node.specs.Events.{NodeEvent, after as after_node}
use Rattle.host_node.specs.Events.NodeEvent.{Accepts as node_accepts, Begins as node_begins, Ends_attempt, Ends_no_more, Gives_text as node_gives_text, Notifies as node_notifies, Reports, Restarts as node_restarts, Sleeps, Starts as node_starts, Succeeds, Takes_nonce as node_takes_nonce, Ticks}
use Rattle.host_node.specs.State.{NodeState, has_waiting, is_idle, is_open, is_running, is_up}
use Rattle.host_node.specs.Steps.{after_again, after_again_tick, after_attempt_end, after_hold_tick, after_no_more, after_occasion, after_sign, after_sleep, after_told, asleep, new_series, next_due, series_over, tried_again, with_again, with_final, with_wait, without_attempt}
use Rattle.host_model.specs.State.{HostState, node_of}
use Rattle.host_model.specs.After.{after}
use Rattle.host_model.specs.Ends.{PartEnd, Good, Passed_over, Bad, part_end}
use Rattle.host_model.specs.Events.{HostEvent}
use Rattle.proof_queue.proofs.Doings.{AllDo, Doing, kept_by_all, did, does_at, end_does, node_after, part_does, purpose_does, task_does}
use Rattle.proof_giving.specs.Stays.{NoneBegun, NothingBegins}
use Rattle.proof_giving.specs.Tie.{has_text}
use Rattle.proof_giving.proofs.Orders.{IsSteady, did_steady}

-- ---- nodes

pub same_fewer : (s : NodeState) → NoneBegun s s
same_fewer s = record { runs = λ is. is; seals = λ has. has }

pub fewer_on : (r s t : NodeState) → NoneBegun r s → NoneBegun s t → NoneBegun r t
fewer_on r s t first later = record { runs = λ is. first.runs (later.runs is); seals = λ has. first.seals (later.seals has) }

pub either_fewer : (b : Bool) (s x y : NodeState) → NoneBegun s x → NoneBegun s y → NoneBegun s (if b then x else y)
either_fewer true s x y one other = one
either_fewer false s x y one other = other

-- one that does not run now, and has no text
pub none_fewer : (s t : NodeState) (series : Series) → t.series ≡ series → is_running series ≡ false → has_text t ≡ false → NoneBegun s t
none_fewer s t series is none textless = record {
  runs = λ runs. absurd (let bad : true ≡ false = sym (ap is_running runs) ∙ ap is_running is ∙ none in cc);
  seals = λ has. absurd (let bad : false ≡ true = sym textless ∙ has in cc);
}

sign_fewer : (s : NodeState) → NoneBegun s (after_sign s)
sign_fewer s = either_fewer (is_running s.series) s (with_wait s 100) s (record { runs = λ is. is; seals = λ has. has }) (same_fewer s)

pub occasion_fewer : (s : NodeState) → NoneBegun s (after_occasion s)
occasion_fewer s =
    either_fewer (is_open s && is_up s && is_idle s.series) s (new_series s) s
    (record { runs = λ is. absurd (let bad : Due ≡ Running = is in cc); seals = λ has. has }) (same_fewer s)

sleep_fewer : (s : NodeState) → NoneBegun s (after_sleep s)
sleep_fewer s = either_fewer s.listens s s (asleep s) (same_fewer s) (record { runs = λ is. is; seals = λ has. has })

end_fewer : (s : NodeState) (moment : Moment) → NoneBegun s (after_attempt_end s moment)
end_fewer s moment =
    let over : NodeState = series_over (without_attempt s) (s.book.attempts + 1) moment in
    either_fewer (is_running s.series) s (if nat_lt (s.book.attempts + 1) 3 then next_due (without_attempt s) (s.book.attempts + 1) else after_sleep over) s
    (either_fewer (nat_lt (s.book.attempts + 1) 3) s (next_due (without_attempt s) (s.book.attempts + 1)) (after_sleep over)
    (none_fewer s (next_due (without_attempt s) (s.book.attempts + 1)) Due refl refl refl)
    (fewer_on s over (after_sleep over) (none_fewer s over Idle refl refl refl) (sleep_fewer over))) (same_fewer s)

told_fewer : (s : NodeState) (status : ℕ) (it : TheTold) → NoneBegun s (after_told s status it)
told_fewer s status (told.Final session) = none_fewer s (with_final s status) Idle refl refl refl
told_fewer s status told.Working = sign_fewer s
told_fewer s status told.Old = same_fewer s

waits_fewer : (s : NodeState) → NoneBegun s (after_again_tick s)
waits_fewer s =
    let over : NodeState = with_again s 0 in
    either_fewer (s.again_wait == 1) s (after_again over) (with_again s (s.again_wait - 1))
    (fewer_on s over (after_again over) (record { runs = λ is. is; seals = λ has. has }) (either_fewer (has_waiting over) over (after_occasion over) over (occasion_fewer over) (same_fewer over)))
    (record { runs = λ is. is; seals = λ has. has })

tick_fewer : (s : NodeState) → NoneBegun s (after_node s Ticks)
tick_fewer s =
    let held : NodeState = after_hold_tick s in
    let waited : NodeState = after_again_tick held in
    fewer_on s waited (after_node s Ticks) (fewer_on s held waited (record { runs = λ is. is; seals = λ has. has }) (waits_fewer held))
    (either_fewer (waited.attempt_wait == 1) waited (after_attempt_end waited BetweenTicks) (with_wait waited (waited.attempt_wait - 1)) (end_fewer waited BetweenTicks)
    (record { runs = λ is. is; seals = λ has. has }))

event_fewer : (s : NodeState) (event : NodeEvent) → IsSteady event → NoneBegun s (after_node s event)
event_fewer s node_begins steady = absurd steady
event_fewer s node_restarts steady = absurd steady
event_fewer s (node_starts plan) steady = absurd steady
event_fewer s (node_takes_nonce seen text) steady = absurd steady
event_fewer s node_accepts steady = occasion_fewer s
event_fewer s Succeeds steady = sign_fewer s
event_fewer s (Ends_attempt moment) steady = end_fewer s moment
event_fewer s (Reports id status) steady = told_fewer s status (told_of s.book id status)
event_fewer s node_notifies steady =
    let woken : NodeState = record s { awake = true; no_more = tried_again s.no_more } in fewer_on s woken (after_occasion woken) (record { runs = λ is. is; seals = λ has. has }) (occasion_fewer woken)
event_fewer s Sleeps steady = sleep_fewer s
event_fewer s Ends_no_more steady =
    let untold : NodeState = after_no_more s Unasked in fewer_on s untold (after_sleep untold) (record { runs = λ is. is; seals = λ has. has }) (sleep_fewer untold)
event_fewer s Ticks steady = tick_fewer s
event_fewer s node_gives_text steady = record { runs = λ is. is; seals = λ has. or_right (is_some s.text) (is_some s.pending) has }
event_fewer s event steady = record { runs = λ is. is; seals = λ has. has }

does_fewer : (n : ℕ) (s : NodeState) (doings : List Doing) → AllDo IsSteady doings → NoneBegun s (does_at n s doings)
does_fewer = kept_by_all NoneBegun IsSteady same_fewer fewer_on event_fewer

pub fewer_kept : (h : HostState) (event : HostEvent) (n : ℕ) → n < length h.nodes → NothingBegins event → NoneBegun (node_of h n) (node_of (after h event) n)
fewer_kept h event n within none = subst (λ (s : NodeState). NoneBegun (node_of h n) s) (sym (node_after h event n within)) (does_fewer n (node_of h n) (did h event) (did_steady h event none))

-- ---- the session stays open

open_counted : (book : HostBook) (attempts : ℕ) → open_session (record book { attempts = attempts }) ≡ open_session book
open_counted book attempts = by book.outcome book.commands
  where
    by : (outcome : Option ℕ) (commands : List ℕ) → open_session (record { commands = commands; outcome = outcome; attempts = attempts }) ≡ open_session (record { commands = commands; outcome = outcome; attempts = book.attempts })
    by (Some status) commands = refl
    by None [] = refl
    by None (first ∷ rest) = refl

abbrev Opens : NodeState → NodeState → Type 0
Opens s t = open_session t.book ≡ open_session s.book

either_opens : (b : Bool) (s x y : NodeState) → Opens s x → Opens s y → Opens s (if b then x else y)
either_opens true s x y one other = one
either_opens false s x y one other = other

sleep_opens : (s t : NodeState) → Opens s t → Opens s (after_sleep t)
sleep_opens s t same = either_opens t.listens s t (asleep t) same same

attempt_opens : (s : NodeState) (moment : Moment) → Opens s (after_attempt_end s moment)
attempt_opens s moment =
    let over : NodeState = series_over (without_attempt s) (s.book.attempts + 1) moment in
    either_opens (is_running s.series) s (if nat_lt (s.book.attempts + 1) 3 then next_due (without_attempt s) (s.book.attempts + 1) else after_sleep over) s
    (either_opens (nat_lt (s.book.attempts + 1) 3) s (next_due (without_attempt s) (s.book.attempts + 1)) (after_sleep over) (open_counted s.book (s.book.attempts + 1))
    (sleep_opens s over (open_counted s.book (s.book.attempts + 1)))) refl

part_opens : (n k : ℕ) (s : NodeState) (end : PartEnd) (moment : Moment) → Opens s (does_at n s (part_does k end moment))
part_opens n k s Good moment = either_opens (k == n) s (after_sign s) s (either_opens (is_running s.series) s (with_wait s 100) s refl refl) refl
part_opens n k s Passed_over moment = refl
part_opens n k s Bad moment = either_opens (k == n) s (after_attempt_end s moment) s (attempt_opens s moment) refl

task_opens : (n : ℕ) (s : NodeState) (task : Task) → Opens s (does_at n s (task_does task))
task_opens n s (NoMore k) = either_opens (k == n) s (after_sleep (after_no_more s Unasked)) s (sleep_opens s (after_no_more s Unasked) refl) refl
task_opens n s task = refl

purpose_opens : (n : ℕ) (s : NodeState) (purpose : Purpose) (how : How) (moment : Moment) → Opens s (does_at n s (purpose_does purpose how moment))
purpose_opens n s (Attempt k more payload) how moment = part_opens n k s (part_end more how) moment
purpose_opens n s (Housekeeping task) how moment = task_opens n s task
purpose_opens n s Abort how moment = refl

pub end_opens : (n : ℕ) (s : NodeState) (end : Option End) (moment : Moment) → open_session (does_at n s (end_does end moment)).book ≡ open_session s.book
end_opens n s None moment = refl
end_opens n s (Some end) moment = purpose_opens n s end.purpose end.how moment
