-- What an event of a host leaves of the sessions of a node and of orders: all but where a session begins.
use Rattle.std.proofs.Common.{◌≡◌, ℕ, zero, suc, ◌+◌, ◌-◌, ◌<◌, ◌==◌, Bool, true, false, if◌then◌else◌, List, [], ◌∷◌, length, Option, Some, None, refl, sym, ◌∙◌, subst, arith}
use Rattle.std.specs.Prelude.{nat_lt}
use Rattle.std.proofs.lemmas.Option.{slice_get_within}
use Rattle.zw_base.proofs.Each.{all-weaker}
use Rattle.supervision.specs.Host.{HostBook, open_session, told_of}
use Rattle.host_requests.specs.declared.end.End.{End}
use Rattle.host_requests.specs.declared.end.How.{How}
use Rattle.host_requests.specs.declared.task.Purpose.{Purpose}
use Rattle.host_requests.specs.declared.task.Purpose.TheVariants.{Housekeeping, Attempt, Abort}
use Rattle.host_requests.specs.declared.task.Task.{Task}
use Rattle.host_requests.specs.declared.task.Task.TheVariants.{NoMore, Offer, Segment}
use Rattle.host_requests.specs.Events.{end_at}
use Rattle.host_requests.specs.Events.RequestsEvent.{Fails}
use Rattle.host_node.specs.declared.attempt.AttemptEnd.{AttemptEnd}
use Rattle.host_node.specs.declared.attempt.AttemptEnd.TheVariants.{NoneRan, Again, Unanswered}
use Rattle.host_node.specs.declared.attempt.Moment.{Moment}
use Rattle.host_node.specs.declared.attempt.Moment.TheVariants.{BetweenTicks, BeforeItsTick}
use Rattle.host_node.specs.declared.attempt.Plan.TheVariants.{Whole, Segments, Sealed}
use Rattle.host_node.specs.declared.no_more.NoMore.TheVariants.{Unasked}
use Rattle.host_node.specs.Events.{NodeEvent, after as after_node}
use Rattle.host_node.specs.Events.NodeEvent.{Accepts as node_accepts, Begins as node_begins, Ends_attempt, Ends_no_more, Notifies as node_notifies, Reports, Restarts as node_restarts, Sleeps, Starts as node_starts, Succeeds, Takes_nonce as node_takes_nonce, Ticks}
use Rattle.host_node.specs.State.{NodeState, has_waiting, is_running}
use Rattle.host_node.specs.Steps.{after_again, after_again_tick, after_attempt_end, after_hold_tick, after_no_more, after_occasion, after_sleep, asleep, next_due, series_over, tried_again, with_again, with_wait, without_attempt}
use Rattle.host_model.specs.State.{Command, HostState, command_at, node_of}
use Rattle.host_model.specs.After.{after, failing_if, finishing, gives_up, giving, holding, is_held, line_ticked, offering, requests_do}
use Rattle.host_model.specs.Ends.{PartEnd, Good, Passed_over, Bad, after_end_if, after_part, after_task, attempt_ended, part_end}
use Rattle.host_model.specs.Events.{HostEvent, Accepts, Cancels, Requests_do, Finishes, Offers, Gives, Takes_nonce, Resends, Line_ticks, Node_ticks, Starts, Begins}
use Rattle.s0_session.specs.Nonces.{live_of}
use Rattle.serial_link.specs.State.{tick_side}
use Rattle.proof_host.proofs.Commands.{taken_pushed, taken_set}
use Rattle.proof_host.specs.Tables.{taken_at}
use Rattle.proof_queue.proofs.Doings.{AllDo, Doing, EndsDo, did, does_at, kept_by_all, node_after, OwnDo, did_all}
use Rattle.proof_giving.specs.Stays.{KeepsSessions, NoSession, NothingBegins}
use Rattle.proof_queue.proofs.Kept.{BookKept, book_same, occasion_kept, room_keeps, sign_kept, told_kept}

-- ---- nodes

pub kept_on : (first next last : HostBook) → BookKept first next → BookKept next last → BookKept first last
kept_on first next last one other = record { commands = other.commands ∙ one.commands; opens = λ s opened. one.opens s (other.opens s opened) }

either_kept : (b : Bool) (old : HostBook) (x y : NodeState) → BookKept old x.book → BookKept old y.book → BookKept old (if b then x else y).book
either_kept true old x y one other = one
either_kept false old x y one other = other

same_kept : (s : NodeState) → BookKept s.book s.book
same_kept s = book_same s.book s.book refl

-- a count of attempts is not looked at
counted_kept : (book : HostBook) (attempts : ℕ) → BookKept book (record book { attempts = attempts })
counted_kept book attempts = record { commands = refl; opens = by book.outcome book.commands }
  where
    by : (outcome : Option ℕ) (commands : List ℕ) (s : ℕ) → open_session (record { commands = commands; outcome = outcome; attempts = attempts }) ≡ Some s
        → open_session (record { commands = commands; outcome = outcome; attempts = book.attempts }) ≡ Some s
    by (Some status) commands s is = is
    by None [] s is = is
    by None (first ∷ rest) s is = is

sleep_kept : (old : HostBook) (s : NodeState) → BookKept old s.book → BookKept old (after_sleep s).book
sleep_kept old s kept = either_kept s.listens old s (asleep s) kept kept

end_kept : (s : NodeState) (moment : Moment) → BookKept s.book (after_attempt_end s moment).book
end_kept s moment =
    let over : NodeState = series_over (without_attempt s) (s.book.attempts + 1) moment in
    either_kept (is_running s.series) s.book (if nat_lt (s.book.attempts + 1) 3 then next_due (without_attempt s) (s.book.attempts + 1) else after_sleep over) s
    (either_kept (nat_lt (s.book.attempts + 1) 3) s.book (next_due (without_attempt s) (s.book.attempts + 1)) (after_sleep over) (counted_kept s.book (s.book.attempts + 1))
    (sleep_kept s.book over (counted_kept s.book (s.book.attempts + 1)))) (same_kept s)

waits_kept : (s : NodeState) → BookKept s.book (after_again_tick s).book
waits_kept s =
    let over : NodeState = with_again s 0 in
    either_kept (s.again_wait == 1) s.book (after_again over) (with_again s (s.again_wait - 1)) (either_kept (has_waiting over) s.book (after_occasion over) over (occasion_kept over) (same_kept s)) (same_kept s)

tick_kept : (s : NodeState) → BookKept s.book (after_node s Ticks).book
tick_kept s =
    let waited : NodeState = after_again_tick (after_hold_tick s) in
    kept_on s.book waited.book (after_node s Ticks).book (waits_kept (after_hold_tick s))
    (either_kept (waited.attempt_wait == 1) waited.book (after_attempt_end waited BetweenTicks) (with_wait waited (waited.attempt_wait - 1)) (end_kept waited BetweenTicks) (same_kept waited))

abbrev NotBegun : NodeEvent → Type 0
NotBegun node_begins = ⊥
NotBegun node_restarts = ⊥
NotBegun event = Unit {0}

event_kept : (s : NodeState) (event : NodeEvent) → NotBegun event → BookKept s.book (after_node s event).book
event_kept s node_begins none = absurd none
event_kept s node_restarts none = absurd none
event_kept s node_accepts none = occasion_kept s
event_kept s (node_starts Whole) none = same_kept s
event_kept s (node_starts (Segments count)) none = same_kept s
event_kept s (node_starts (Sealed plain)) none = same_kept s
event_kept s Succeeds none = book_same s.book (after_node s Succeeds).book (sign_kept s)
event_kept s (Ends_attempt moment) none = end_kept s moment
event_kept s (Reports id status) none = told_kept s status (told_of s.book id status)
event_kept s node_notifies none = occasion_kept (record s { awake = true; no_more = tried_again s.no_more })
event_kept s Sleeps none = sleep_kept s.book s (same_kept s)
event_kept s Ends_no_more none = sleep_kept s.book (after_no_more s Unasked) (same_kept s)
event_kept s Ticks none = tick_kept s
event_kept s event none = same_kept s

does_kept : (n : ℕ) (s : NodeState) (doings : List Doing) → AllDo NotBegun doings → BookKept s.book (does_at n s doings).book
does_kept = kept_by_all (λ (s t : NodeState). BookKept s.book t.book) NotBegun same_kept (λ (s t u : NodeState). kept_on s.book t.book u.book) event_kept

-- ---- a host

-- no session begins, nor an attempt, and no text is sealed
abbrev pub IsSteady : NodeEvent → Type 0
IsSteady node_begins = ⊥
IsSteady node_restarts = ⊥
IsSteady (node_starts plan) = ⊥
IsSteady (node_takes_nonce seen text) = ⊥
IsSteady event = Unit {0}

steady_ends : EndsDo IsSteady
steady_ends = record { answered = tt; attempt_over = λ moment. tt; let_sleep = tt; held = tt }

own_steady : (h : HostState) (event : HostEvent) → NothingBegins event → OwnDo IsSteady h event
own_steady h (Accepts order carriage) none = (tt, tt)
own_steady h (Takes_nonce n seen text) none = absurd none
own_steady h (Starts n plan more payload) none = absurd none
own_steady h (Begins n session command) none = absurd none
own_steady h event none = tt

pub did_steady : (h : HostState) (event : HostEvent) → NothingBegins event → AllDo IsSteady (did h event)
did_steady h event none = did_all IsSteady steady_ends h event (own_steady h event none)

steady_not_begun : (event : NodeEvent) → IsSteady event → NotBegun event
steady_not_begun node_begins steady = absurd steady
steady_not_begun node_restarts steady = absurd steady
steady_not_begun event steady = tt

did_none : (h : HostState) (event : HostEvent) → NoSession event → AllDo NotBegun (did h event)
did_none h (Begins n session command) none = absurd none
did_none h (Starts n plan more payload) none = (tt, tt)
did_none h (Takes_nonce n seen text) none = (tt, tt)
did_none h event none = all-weaker (λ (d : Doing). IsSteady d.event) (λ (d : Doing). NotBegun d.event) (λ d steady. steady_not_begun d.event steady) (did h event) (did_steady h event tt)

pub books_kept : (h : HostState) (event : HostEvent) (n : ℕ) → n < length h.nodes → NoSession event → BookKept (node_of h n).book (node_of (after h event) n).book
books_kept h event n within none =
    subst (λ (s : NodeState). BookKept (node_of h n).book s.book) (sym (node_after h event n within)) (does_kept n (node_of h n) (did h event) (did_none h event none))

-- ---- orders

module _ (number : ℕ) where
  abbrev Same : List Command → List Command → Type 0
  Same old now = taken_at now number ≡ taken_at old number

  ended_same : (g : HostState) (end : AttemptEnd) (command : Option ℕ) → Same g.commands (attempt_ended g end command).commands
  ended_same g NoneRan command = refl
  ended_same g Again command = refl
  ended_same g (Unanswered fell) None = refl
  ended_same g (Unanswered fell) (Some command) = taken_set g.commands command _ number

  part_same : (g : HostState) (k : ℕ) (end : PartEnd) (moment : Moment) → Same g.commands (after_part g k end moment).commands
  part_same g k Good moment = refl
  part_same g k Passed_over moment = refl
  part_same g k Bad moment = ended_same _ _ _

  task_same : (g : HostState) (task : Task) → Same g.commands (after_task g task).commands
  task_same g (NoMore k) = refl
  task_same g task = refl

  end_same : (g : HostState) (end : Option End) (moment : Moment) → Same g.commands (after_end_if g end moment).commands
  end_same g None moment = refl
  end_same g (Some end) moment = by end.purpose end.how
    where
      by : (purpose : Purpose) (how : How) → Same g.commands (after_end_if g (Some (record { purpose = purpose; how = how })) moment).commands
      by (Attempt k more payload) how = part_same g k (part_end more how) moment
      by (Housekeeping task) how = task_same g task
      by Abort how = refl

  failing_same : (b : Bool) (g : HostState) → Same g.commands (failing_if b g).commands
  failing_same true g = end_same (requests_do g Fails) (end_at g.requests Fails) BeforeItsTick
  failing_same false g = refl

  held_same : (g : HostState) (n : ℕ) (b : Bool) → Same g.commands (holding g n b).commands
  held_same g n true = refl
  held_same g n false = refl

  offered_same : (g : HostState) (n : ℕ) (live : Option (List ℕ)) → Same g.commands (offering g n live).commands
  offered_same g n None = refl
  offered_same g n (Some nonce) = (room_keeps g n (Offer n nonce)).taken number

  -- a command that is there
  there : (commands : List Command) (c : Command) → command_at commands number ≡ Some c → number ≡ length commands + 1 → ⊥
  there commands c found is = by number found is
    where
      by : (k : ℕ) → command_at commands k ≡ Some c → k ≡ length commands + 1 → ⊥
      by zero found is = omega (arith, is)
      by (suc k) found is = let within = slice_get_within commands k c found in omega (arith, within, is)

  pub orders_kept : (h : HostState) (event : HostEvent) (c : Command) → command_at h.commands number ≡ Some c → Same h.commands (after h event).commands
  orders_kept h (Accepts order carriage) c found = taken_pushed h.commands _ number (there h.commands c found)
  orders_kept h (Cancels command) c found = taken_set h.commands command _ number
  orders_kept h (Requests_do event moment) c found = end_same (requests_do h event) (end_at h.requests event) moment
  orders_kept h (Finishes n session id command status wake_request) c found =
      held_same (finishing h n id command status) n (is_held h n wake_request) ∙ taken_set h.commands command _ number
  orders_kept h (Offers n) c found = offered_same h n (live_of h.nonces n)
  orders_kept h (Gives n drawn) c found = offered_same (giving h n drawn) n (live_of (giving h n drawn).nonces n)
  orders_kept h (Resends n payload) c found = (room_keeps h n (Segment n payload)).taken number
  orders_kept h Line_ticks c found = failing_same (gives_up h.side.turn (tick_side h.side).turn) (line_ticked h)
  orders_kept h (Node_ticks n) c found = ended_same _ _ _
  orders_kept h (Begins n session command) c found = taken_set h.commands command _ number
  orders_kept h event c found = refl

-- so the sessions of a node and its orders are kept
pub event_keeps : (h : HostState) (event : HostEvent) (n : ℕ) → n < length h.nodes → NoSession event → KeepsSessions h (after h event) n
event_keeps h event n within none =
    let books = books_kept h event n within none in
    record { commands = books.commands; opens = books.opens; orders = λ number c found. orders_kept number h event c found }
