-- No attempt runs while No More Information is queued; the wait for another series is at most 100 ticks once its node has ticked.
use Rattle.std.proofs.Common.{◌≡◌, ℕ, ◌+◌, ◌-◌, ◌≤◌, ◌==◌, ◌&&◌, nat_lt, Bool, true, false, if◌then◌else◌, refl, arith}
use Rattle.supervision.specs.Host.{told_of}
use Rattle.supervision.specs.declared.host_node.Told.{Told}
use Rattle.supervision.specs.declared.host_node.Told.TheVariants.{Final, Working, Old}
use Rattle.host_node.specs.declared.series.Series.{Series}
use Rattle.host_node.specs.declared.series.Series.TheVariants.{Idle, Due, Running}
use Rattle.host_node.specs.declared.no_more.NoMore.{NoMore}
use Rattle.host_node.specs.declared.no_more.NoMore.TheVariants.{Unasked, Queued, Dropped}
use Rattle.host_node.specs.declared.attempt.Plan.TheVariants.{Whole, Segments, Sealed}
use Rattle.host_node.specs.declared.attempt.Moment.{Moment}
use Rattle.host_node.specs.declared.attempt.Moment.TheVariants.{BetweenTicks}
use Rattle.host_node.specs.State.{NodeState, is_idle, is_running, is_up, is_open, has_waiting, wants_no_more}
use Rattle.host_node.specs.Steps.{with_again, with_wait, new_series, next_due, series_over, after_occasion, without_attempt, asleep, after_sleep, after_attempts, after_attempt_end, after_sign, after_told, tried_again, after_again, after_again_tick, after_attempt_tick, after_hold_tick, after_tick, as_recorded, after_no_more}
use Rattle.host_node.specs.Events.{NodeEvent, after, May}
use Rattle.host_node.specs.Events.NodeEvent.{Joins, Interviews, Puts, Takes_back, Accepts, Cancels, Begins, Blocks, Starts, Gives_segment, Gives_text, Succeeds, Takes_nonce, Restores_seen, Ends_attempt, Reports, Holds, Notifies, Sleeps, Queues_no_more, Drops_no_more, Ends_no_more, Ticks, Restarts}
use Rattle.host_node.specs.Facts.{NodeFacts, IsQuiet, StartsQuietly}
use Rattle.host_node.proofs.Keeps.{first_holds, second_holds}

-- either branch of a test is quiet
either : (test : Bool) (yes no : NodeState) → (test ≡ true → IsQuiet yes) → (test ≡ false → IsQuiet no) → IsQuiet (if test then yes else no)
either true m k p q = p refl
either false m k p q = q refl

occasion : (n : NodeState) → IsQuiet n → IsQuiet (after_occasion n)
occasion n q = either (is_open n && is_up n && is_idle n.series) (new_series n) n (λ _ _. refl) (λ _. q)

slept : (n : NodeState) → IsQuiet n → IsQuiet (after_sleep n)
slept n q = either n.listens n (asleep n) (λ _. q) (λ _ e. cc)

ended : (n : NodeState) (moment : Moment) → IsQuiet n → IsQuiet (after_attempt_end n moment)
ended n moment q =
    either (is_running n.series) (after_attempts (without_attempt n) (n.book.attempts + 1) moment) n
    (λ _. either (nat_lt (n.book.attempts + 1) 3) (next_due (without_attempt n) (n.book.attempts + 1)) (after_sleep (series_over (without_attempt n) (n.book.attempts + 1) moment))
    (λ _ _. refl) (λ _. slept (series_over (without_attempt n) (n.book.attempts + 1) moment) (λ _. refl)))
    (λ _. q)

signed : (n : NodeState) → IsQuiet n → IsQuiet (after_sign n)
signed n q = either (is_running n.series) (with_wait n 100) n (λ _. q) (λ _. q)

told : (n : NodeState) (status : ℕ) (t : Told) → IsQuiet n → IsQuiet (after_told n status t)
told n status (Final session) q = λ _. refl
told n status Working q = signed n q
told n status Old q = q

begun_again : (n : NodeState) → IsQuiet n → IsQuiet (after_again n)
begun_again n q = either (has_waiting n) (after_occasion n) n (λ _. occasion n q) (λ _. q)

again_ticked : (n : NodeState) → IsQuiet n → IsQuiet (after_again_tick n)
again_ticked n q = either (n.again_wait == 1) (after_again (with_again n 0)) (with_again n (n.again_wait - 1)) (λ _. begun_again (with_again n 0) q) (λ _. q)

attempt_ticked : (n : NodeState) → IsQuiet n → IsQuiet (after_attempt_tick n)
attempt_ticked n q = either (n.attempt_wait == 1) (after_attempt_end n BetweenTicks) (with_wait n (n.attempt_wait - 1)) (λ _. ended n BetweenTicks q) (λ _. q)

queued_before : (m : NoMore) → tried_again m ≡ Queued → m ≡ Queued
queued_before Unasked e = cc
queued_before Queued e = refl
queued_before Dropped e = cc

not_running : (s : Series) → is_idle s ≡ true → is_running s ≡ false
not_running Idle e = refl
not_running Due e = refl
not_running Running e = cc

idle_if_wanted : (n : NodeState) → wants_no_more n ≡ true → is_idle n.series ≡ true
idle_if_wanted n e = second_holds _ _ (first_holds _ _ e)

pub quiet : (n : NodeState) (event : NodeEvent) → May n event → StartsQuietly n event → IsQuiet n → IsQuiet (after n event)
quiet n Joins may starts q = q
quiet n (Interviews listens classes) may starts q = q
quiet n (Puts command) may starts q = q
quiet n Takes_back may starts q = q
quiet n Accepts may starts q = occasion n q
quiet n (Cancels command) may starts q = q
quiet n Begins may starts q = λ _. refl
quiet n Blocks may starts q = q
quiet n (Starts Whole) may starts q = λ e. absurd (starts e)
quiet n (Starts (Segments count)) may starts q = λ e. absurd (starts e)
quiet n (Starts (Sealed plain)) may starts q = λ e. absurd (starts e)
quiet n Gives_segment may starts q = q
quiet n Gives_text may starts q = q
quiet n Succeeds may starts q = signed n q
quiet n (Takes_nonce seen text) may starts q = q
quiet n (Restores_seen seen) may starts q = q
quiet n (Ends_attempt moment) may starts q = ended n moment q
quiet n (Reports id status) may starts q = told n status (told_of n.book id status) q
quiet n Holds may starts q = q
quiet n Notifies may starts q = occasion (record n { awake = true; no_more = tried_again n.no_more }) (λ e. q (queued_before n.no_more e))
quiet n Sleeps may starts q = slept n q
quiet n Queues_no_more may starts q = λ _. not_running n.series (idle_if_wanted n may)
quiet n Drops_no_more may starts q = λ e. cc
quiet n Ends_no_more may starts q = slept (after_no_more n Unasked) (λ e. cc)
quiet n Ticks may starts q = attempt_ticked (after_again_tick (after_hold_tick n)) (again_ticked (after_hold_tick n) q)
quiet n Restarts may starts q = occasion (as_recorded n) (λ _. refl)

-- a wait of at most 100 ticks
short_either : (test : Bool) (yes no : NodeState) → yes.again_wait ≤ 100 → no.again_wait ≤ 100 → (if test then yes else no).again_wait ≤ 100
short_either true m k p q = p
short_either false m k p q = q

short_occasion : (n : NodeState) → n.again_wait ≤ 100 → (after_occasion n).again_wait ≤ 100
short_occasion n short = short_either (is_open n && is_up n && is_idle n.series) (new_series n) n (omega arith) short

short_begun_again : (n : NodeState) → n.again_wait ≤ 100 → (after_again n).again_wait ≤ 100
short_begun_again n short = short_either (has_waiting n) (after_occasion n) n (short_occasion n short) short

short_again : (n : NodeState) → n.again_wait ≤ 101 → (after_again_tick n).again_wait ≤ 100
short_again n bound =
    short_either (n.again_wait == 1) (after_again (with_again n 0)) (with_again n (n.again_wait - 1)) (short_begun_again (with_again n 0) (omega arith)) (omega (arith, bound))

short_slept : (n : NodeState) → n.again_wait ≤ 100 → (after_sleep n).again_wait ≤ 100
short_slept n short = short_either n.listens n (asleep n) short short

short_ended : (n : NodeState) → n.again_wait ≤ 100 → (after_attempt_end n BetweenTicks).again_wait ≤ 100
short_ended n short =
    short_either (is_running n.series) (after_attempts (without_attempt n) (n.book.attempts + 1) BetweenTicks) n
    (short_either (nat_lt (n.book.attempts + 1) 3) (next_due (without_attempt n) (n.book.attempts + 1)) (after_sleep (series_over (without_attempt n) (n.book.attempts + 1) BetweenTicks))
    short (short_slept (series_over (without_attempt n) (n.book.attempts + 1) BetweenTicks) (omega arith)))
    short

short_attempt : (n : NodeState) → n.again_wait ≤ 100 → (after_attempt_tick n).again_wait ≤ 100
short_attempt n short = short_either (n.attempt_wait == 1) (after_attempt_end n BetweenTicks) (with_wait n (n.attempt_wait - 1)) (short_ended n short) short

pub again_is_short : (n : NodeState) → NodeFacts n → (after_tick n).again_wait ≤ 100
again_is_short n f = short_attempt (after_again_tick (after_hold_tick n)) (short_again (after_hold_tick n) f.again_wait)
