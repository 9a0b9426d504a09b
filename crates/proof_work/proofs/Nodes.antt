-- What an event of a node keeps of its work: all, where it neither gives a part of an attempt nor changes whether the node is to be told that there is no more for it.
use Rattle.std.proofs.Common.{◌≡◌, ℕ, ◌+◌, ◌-◌, ◌==◌, ◌&&◌, nat_lt, Bool, true, false, if◌then◌else◌, Option, Some, None, List, refl, sym, ◌∙◌}
use Rattle.std.specs.Prelude.{◌≢◌, IsSome, IsTrue}
use Rattle.std.proofs.lemmas.Bool.{and_parts, both_ways}
use Rattle.supervision.specs.Host.{told_of}
use Rattle.supervision.specs.declared.host_node.Told.{Told}
use Rattle.supervision.specs.declared.host_node.Told.TheVariants.{Final, Working, Old}
use Rattle.host_node.specs.declared.attempt.Moment.{Moment}
use Rattle.host_node.specs.declared.attempt.Moment.TheVariants.{BetweenTicks}
use Rattle.host_node.specs.declared.attempt.Plan.{Plan}
use Rattle.host_node.specs.declared.no_more.NoMore.{NoMore}
use Rattle.host_node.specs.declared.no_more.NoMore.TheVariants.{Unasked, Queued, Dropped}
use Rattle.host_node.specs.State.{NodeState, has_segment, has_waiting, is_idle, is_open, is_running, is_unasked, is_up, unknown, wants_no_more}
use Rattle.host_node.specs.Steps.{after_again, after_again_tick, after_attempt_end, after_attempt_tick, after_attempts, after_hold_tick, after_no_more, after_no_more_end, after_occasion, after_sign, after_sleep, after_start, after_told, as_recorded, asleep, new_series, next_due, series_over, tried_again, with_again, with_wait, without_attempt}
use Rattle.host_node.specs.Events.{NodeEvent, after, May}
use Rattle.host_node.specs.Events.NodeEvent.{Joins, Interviews, Puts, Takes_back, Accepts, Cancels, Begins, Blocks, Starts, Gives_segment, Gives_text, Succeeds, Takes_nonce, Restores_seen, Ends_attempt, Reports, Holds, Notifies, Sleeps, Queues_no_more, Drops_no_more, Ends_no_more, Ticks, Restarts}
use Rattle.host_node.specs.Facts.{IsQuiet, NothingLeft, StartsQuietly}
use Rattle.proof_work.specs.Work.{IsAlive, NodeWork, times_due}
use Rattle.proof_work.proofs.Attempts.{occasion, slept, ended, signed, signed_over, told, ticked, sealed, started, segment_given, text_given}

-- what the nodes alone keep
abbrev pub StayQuiet : Type 0
StayQuiet = (n : NodeState) (event : NodeEvent) → May n event → StartsQuietly n event → IsQuiet n → IsQuiet (after n event)

-- an unknown node does nothing
pub blank : (part : Option Bool) (number : ℕ) → NodeWork part (unknown number)
blank part number = record { alive = record { goes_on = λ e. cc; whole = λ _. refl }; quiet = λ _. refl }

-- ---- events that change none of it

abbrev pub IsSteady : NodeState → NodeEvent → Type 0
IsSteady n (Starts plan) = ⊥
IsSteady n Gives_segment = ⊥
IsSteady n Gives_text = ⊥
IsSteady n (Takes_nonce seen text) = IsSome n.pending
IsSteady n Sleeps = ⊥
IsSteady n Queues_no_more = ⊥
IsSteady n Drops_no_more = IsTrue (wants_no_more n)
IsSteady n Ends_no_more = ⊥
IsSteady n Restarts = ⊥
IsSteady n event = Unit {0}

steady_alive : (part : Option Bool) (n : NodeState) (event : NodeEvent) → IsSteady n event → IsAlive part n → IsAlive part (after n event)
steady_alive part n Joins is w = w
steady_alive part n (Interviews listens classes) is w = w
steady_alive part n (Puts command) is w = w
steady_alive part n Takes_back is w = w
steady_alive part n Accepts is w = occasion part n w
steady_alive part n (Cancels command) is w = w
steady_alive part n Begins is w = record { goes_on = λ e. cc; whole = w.whole }
steady_alive part n Blocks is w = w
steady_alive part n (Starts plan) is w = absurd is
steady_alive part n Gives_segment is w = absurd is
steady_alive part n Gives_text is w = absurd is
steady_alive part n Succeeds is w = signed part n w
steady_alive part n (Takes_nonce seen text) is w = sealed part n seen text is w
steady_alive part n (Restores_seen seen) is w = w
steady_alive part n (Ends_attempt moment) is w = ended part part n moment w
steady_alive part n (Reports id status) is w = told part n status (told_of n.book id status) w
steady_alive part n Holds is w = w
steady_alive part n Notifies is w = occasion part (record n { awake = true; no_more = tried_again n.no_more }) w
steady_alive part n Sleeps is w = absurd is
steady_alive part n Queues_no_more is w = absurd is
steady_alive part n Drops_no_more is w = w
steady_alive part n Ends_no_more is w = absurd is
steady_alive part n Ticks is w = ticked part n w
steady_alive part n Restarts is w = absurd is

module _ (still : StayQuiet) where
  steady_quiet : (n : NodeState) (event : NodeEvent) → IsSteady n event → IsQuiet n → IsQuiet (after n event)
  steady_quiet n (Puts command) is q = q
  steady_quiet n (Cancels command) is q = q
  steady_quiet n Begins is q = λ _. refl
  steady_quiet n (Starts plan) is q = absurd is
  steady_quiet n Gives_segment is q = absurd is
  steady_quiet n Gives_text is q = absurd is
  steady_quiet n (Takes_nonce seen text) is q = q
  steady_quiet n Sleeps is q = absurd is
  steady_quiet n Queues_no_more is q = absurd is
  steady_quiet n Drops_no_more is q = still n Drops_no_more is tt q
  steady_quiet n Ends_no_more is q = absurd is
  steady_quiet n Restarts is q = absurd is
  steady_quiet n event is q = still n event tt tt q

  pub steady : (part : Option Bool) (n : NodeState) (event : NodeEvent) → IsSteady n event → NodeWork part n → NodeWork part (after n event)
  steady part n event is w = record { alive = steady_alive part n event is w.alive; quiet = steady_quiet n event is w.quiet }

  -- ---- the others

  -- the part of an attempt that was under way ended: well; not well, but others follow; not well
  pub part_good : (part : Option Bool) (n : NodeState) → NodeWork part n → NodeWork None (after_sign n)
  part_good part n w = record { alive = signed_over part n w.alive; quiet = still n Succeeds tt tt w.quiet }

  pub part_bad : (part : Option Bool) (n : NodeState) (moment : Moment) → NodeWork part n → NodeWork None (after_attempt_end n moment)
  part_bad part n moment w = record { alive = ended part None n moment w.alive; quiet = still n (Ends_attempt moment) tt tt w.quiet }

  -- an attempt is started, and gives more
  pub work_starts : (n : NodeState) (plan : Plan) (more : Bool) → May n (Starts plan) → n.no_more ≢ Queued → NothingLeft n.attempt_wait n.next_segment n.segments n.text n.pending
      → more ≡ has_segment (after_start n plan) → NodeWork None n → NodeWork (Some more) (after_start n plan)
  work_starts n plan more may untold none says w = record { alive = started n plan more none says; quiet = still n (Starts plan) may untold w.quiet }

  pub work_segment : (n : NodeState) (more : Bool) → May n Gives_segment → more ≡ nat_lt (n.next_segment + 1) n.segments → NodeWork None n → NodeWork (Some more) (after n Gives_segment)
  work_segment n more may says w = record { alive = segment_given n more says w.alive; quiet = still n Gives_segment may tt w.quiet }

  pub work_text : (n : NodeState) (payload : List ℕ) → n.text ≡ Some payload → NodeWork None n → NodeWork (Some false) (after n Gives_text)
  work_text n payload is w = record { alive = text_given n payload is w.alive; quiet = still n Gives_text tt tt w.quiet }

  -- No More Information is queued, and ends
  pub work_queues : (part : Option Bool) (n : NodeState) → IsTrue (wants_no_more n) → NodeWork part n → NodeWork part (after_no_more n Queued)
  work_queues part n wants w = record { alive = w.alive; quiet = still n Queues_no_more wants tt w.quiet }

  pub work_sleeps : (part : Option Bool) (n : NodeState) → NodeWork part n → NodeWork part (after_no_more_end n)
  work_sleeps part n w = record { alive = slept part (after_no_more n Unasked) w.alive; quiet = still n Ends_no_more tt tt w.quiet }

  -- it restarts, whatever it was
  pub work_restarts : (part : Option Bool) (n : NodeState) → NodeWork part (after n Restarts)
  work_restarts part n = record {
    alive = occasion part (as_recorded n) (record { goes_on = λ e. cc; whole = λ _. refl });
    quiet = still (as_recorded n) Accepts tt tt (λ _. refl);
  }

-- ---- how often a node is told

due_either : (times : ℕ) (test : Bool) (yes no : NodeState) → (test ≡ true → times_due yes.no_more ≡ times) → (test ≡ false → times_due no.no_more ≡ times)
    → times_due (if test then yes else no).no_more ≡ times
due_either times true m k p q = p refl
due_either times false m k p q = q refl

pub occasion_due : (n : NodeState) → times_due (after_occasion n).no_more ≡ times_due n.no_more
occasion_due n = due_either (times_due n.no_more) (is_open n && is_up n && is_idle n.series) (new_series n) n (λ _. refl) (λ _. refl)

none_due : (m : NoMore) → (m ≡ Queued → ⊥) → times_due m ≡ 0
none_due Unasked other = refl
none_due Queued other = absurd (other refl)
none_due Dropped other = refl

slept_due : (n : NodeState) → times_due n.no_more ≡ 0 → times_due (after_sleep n).no_more ≡ 0
slept_due n none = due_either 0 n.listens n (asleep n) (λ _. none) (λ _. refl)

pub told_no_more : (n : NodeState) → times_due (after_no_more_end n).no_more ≡ 0
told_no_more n = slept_due (after_no_more n Unasked) refl

ended_due : (n : NodeState) (moment : Moment) → IsQuiet n → times_due (after_attempt_end n moment).no_more ≡ times_due n.no_more
ended_due n moment q =
    due_either (times_due n.no_more) (is_running n.series) (after_attempts (without_attempt n) (n.book.attempts + 1) moment) n
    (λ runs.
    let none : times_due n.no_more ≡ 0 = none_due n.no_more (λ e. both_ways (is_running n.series) (q e) runs) in
    due_either (times_due n.no_more) (nat_lt (n.book.attempts + 1) 3) (next_due (without_attempt n) (n.book.attempts + 1)) (after_sleep (series_over (without_attempt n) (n.book.attempts + 1) moment))
    (λ _. refl)
    (λ _. slept_due (series_over (without_attempt n) (n.book.attempts + 1) moment) none ∙ sym none))
    (λ _. refl)

signed_due : (n : NodeState) → times_due (after_sign n).no_more ≡ times_due n.no_more
signed_due n = due_either (times_due n.no_more) (is_running n.series) (with_wait n 100) n (λ _. refl) (λ _. refl)

told_due : (n : NodeState) (status : ℕ) (t : Told) → times_due (after_told n status t).no_more ≡ times_due n.no_more
told_due n status (Final session) = refl
told_due n status Working = signed_due n
told_due n status Old = refl

tried_due : (m : NoMore) → times_due (tried_again m) ≡ times_due m
tried_due Unasked = refl
tried_due Queued = refl
tried_due Dropped = refl

again_due : (n : NodeState) → times_due (after_again_tick n).no_more ≡ times_due n.no_more
again_due n = due_either (times_due n.no_more) (n.again_wait == 1) (after_again (with_again n 0)) (with_again n (n.again_wait - 1))
    (λ _. due_either (times_due n.no_more) (has_waiting n) (after_occasion (with_again n 0)) (with_again n 0) (λ _. occasion_due (with_again n 0)) (λ _. refl))
    (λ _. refl)

attempt_due : (n : NodeState) → IsQuiet n → times_due (after_attempt_tick n).no_more ≡ times_due n.no_more
attempt_due n q = due_either (times_due n.no_more) (n.attempt_wait == 1) (after_attempt_end n BetweenTicks) (with_wait n (n.attempt_wait - 1)) (λ _. ended_due n BetweenTicks q) (λ _. refl)

quiet_either : (test : Bool) (yes no : NodeState) → IsQuiet yes → IsQuiet no → IsQuiet (if test then yes else no)
quiet_either true m k p q = p
quiet_either false m k p q = q

occasion_quiet : (n : NodeState) → IsQuiet n → IsQuiet (after_occasion n)
occasion_quiet n q = quiet_either (is_open n && is_up n && is_idle n.series) (new_series n) n (λ _. refl) q

again_quiet : (n : NodeState) → IsQuiet n → IsQuiet (after_again_tick n)
again_quiet n q = quiet_either (n.again_wait == 1) (after_again (with_again n 0)) (with_again n (n.again_wait - 1))
    (quiet_either (has_waiting n) (after_occasion (with_again n 0)) (with_again n 0) (occasion_quiet (with_again n 0) q) q) q

pub unasked_if : (n : NodeState) → wants_no_more n ≡ true → times_due n.no_more ≡ 0
unasked_if n wants = by n.no_more (and_parts _ _ (and_parts _ _ (and_parts _ _ (and_parts _ _ wants).0).0).0).1
  where
    by : (m : NoMore) → is_unasked m ≡ true → times_due m ≡ 0
    by Unasked e = refl
    by Queued e = cc
    by Dropped e = refl

pub steady_due : (n : NodeState) (event : NodeEvent) → IsSteady n event → IsQuiet n → times_due (after n event).no_more ≡ times_due n.no_more
steady_due n Accepts is q = occasion_due n
steady_due n (Starts plan) is q = absurd is
steady_due n Gives_segment is q = absurd is
steady_due n Gives_text is q = absurd is
steady_due n Succeeds is q = signed_due n
steady_due n (Ends_attempt moment) is q = ended_due n moment q
steady_due n (Reports id status) is q = told_due n status (told_of n.book id status)
steady_due n Notifies is q = occasion_due (record n { awake = true; no_more = tried_again n.no_more }) ∙ tried_due n.no_more
steady_due n Sleeps is q = absurd is
steady_due n Queues_no_more is q = absurd is
steady_due n Drops_no_more is q = sym (unasked_if n is)
steady_due n Ends_no_more is q = absurd is
steady_due n Ticks is q = attempt_due (after_again_tick (after_hold_tick n)) (again_quiet (after_hold_tick n) q) ∙ again_due (after_hold_tick n)
steady_due n Restarts is q = absurd is
steady_due n event is q = refl
