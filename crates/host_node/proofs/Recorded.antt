-- What the records say of a node changes only at the events that have a record.
use Rattle.std.proofs.Common.{◌≡◌, ℕ, ◌+◌, ◌-◌, ◌==◌, ◌&&◌, nat_lt, Bool, true, false, if◌then◌else◌, refl, ◌∙◌}
use Rattle.supervision.specs.Host.{told_of}
use Rattle.supervision.specs.declared.host_node.Told.{Told}
use Rattle.supervision.specs.declared.host_node.Told.TheVariants.{Final, Working, Old}
use Rattle.host_node.specs.declared.attempt.Plan.TheVariants.{Whole, Segments, Sealed}
use Rattle.host_node.specs.declared.attempt.Moment.{Moment}
use Rattle.host_node.specs.declared.attempt.Moment.TheVariants.{BetweenTicks}
use Rattle.host_node.specs.State.{NodeState, is_idle, is_running, is_up, is_open, has_waiting}
use Rattle.host_node.specs.Steps.{with_again, with_wait, new_series, next_due, series_over, after_occasion, without_attempt, asleep, after_sleep, after_attempts, after_attempt_end, after_sign, after_told, after_again, after_again_tick, after_attempt_tick, after_hold_tick, as_recorded}
use Rattle.host_node.specs.Events.{NodeEvent, after}
use Rattle.host_node.specs.Events.NodeEvent.{Joins, Interviews, Puts, Takes_back, Accepts, Cancels, Begins, Blocks, Starts, Gives_segment, Gives_text, Succeeds, Takes_nonce, Restores_seen, Ends_attempt, Reports, Holds, Notifies, Sleeps, Queues_no_more, Drops_no_more, Ends_no_more, Ticks, Restarts}
use Rattle.host_node.specs.Facts.{is_final, is_recorded}

-- either branch of a test has the same records
either : (test : Bool) (yes no : NodeState) {r : NodeState} → as_recorded yes ≡ r → as_recorded no ≡ r → as_recorded (if test then yes else no) ≡ r
either true m k p q = p
either false m k p q = q

occasion : (n : NodeState) → as_recorded (after_occasion n) ≡ as_recorded n
occasion n = either (is_open n && is_up n && is_idle n.series) (new_series n) n refl refl

slept : (n : NodeState) → as_recorded (after_sleep n) ≡ as_recorded n
slept n = either n.listens n (asleep n) refl refl

ended : (n : NodeState) (moment : Moment) → as_recorded (after_attempt_end n moment) ≡ as_recorded n
ended n moment =
    either (is_running n.series) (after_attempts (without_attempt n) (n.book.attempts + 1) moment) n
    (either (nat_lt (n.book.attempts + 1) 3) (next_due (without_attempt n) (n.book.attempts + 1)) (after_sleep (series_over (without_attempt n) (n.book.attempts + 1) moment))
    refl (slept (series_over (without_attempt n) (n.book.attempts + 1) moment)))
    refl

signed : (n : NodeState) → as_recorded (after_sign n) ≡ as_recorded n
signed n = either (is_running n.series) (with_wait n 100) n refl refl

told : (n : NodeState) (status : ℕ) (t : Told) → is_final t ≡ false → as_recorded (after_told n status t) ≡ as_recorded n
told n status (Final session) e = cc
told n status Working e = signed n
told n status Old e = refl

begun_again : (n : NodeState) → as_recorded (after_again n) ≡ as_recorded n
begun_again n = either (has_waiting n) (after_occasion n) n (occasion n) refl

again_ticked : (n : NodeState) → as_recorded (after_again_tick n) ≡ as_recorded n
again_ticked n = either (n.again_wait == 1) (after_again (with_again n 0)) (with_again n (n.again_wait - 1)) (begun_again (with_again n 0)) refl

attempt_ticked : (n : NodeState) → as_recorded (after_attempt_tick n) ≡ as_recorded n
attempt_ticked n = either (n.attempt_wait == 1) (after_attempt_end n BetweenTicks) (with_wait n (n.attempt_wait - 1)) (ended n BetweenTicks) refl

pub unrecorded : (n : NodeState) (event : NodeEvent) → is_recorded n event ≡ false → as_recorded (after n event) ≡ as_recorded n
unrecorded n Joins e = cc
unrecorded n (Interviews listens classes) e = cc
unrecorded n (Puts command) e = cc
unrecorded n Takes_back e = cc
unrecorded n Accepts e = occasion n
unrecorded n (Cancels command) e = cc
unrecorded n Begins e = cc
unrecorded n Blocks e = refl
unrecorded n (Starts Whole) e = refl
unrecorded n (Starts (Segments count)) e = refl
unrecorded n (Starts (Sealed plain)) e = refl
unrecorded n Gives_segment e = refl
unrecorded n Gives_text e = refl
unrecorded n Succeeds e = signed n
unrecorded n (Takes_nonce seen text) e = cc
unrecorded n (Restores_seen seen) e = cc
unrecorded n (Ends_attempt moment) e = ended n moment
unrecorded n (Reports id status) e = told n status (told_of n.book id status) e
unrecorded n Holds e = refl
unrecorded n Notifies e = occasion _
unrecorded n Sleeps e = slept n
unrecorded n Queues_no_more e = refl
unrecorded n Drops_no_more e = refl
unrecorded n Ends_no_more e = slept _
unrecorded n Ticks e = attempt_ticked (after_again_tick (after_hold_tick n)) ∙ again_ticked (after_hold_tick n)
unrecorded n Restarts e = occasion (as_recorded n)
