-- A node that counts as awake, and for which something is left, stays awake in the host, and nobody asks that it be told that there is no more.
use Rattle.std.proofs.Common.{◌≡◌, ◌≢◌, ◌≤◌, ℕ, ◌-◌, ◌==◌, ◌&&◌, nat_lt, inl, inr, Bool, true, false, if◌then◌else◌, List, [], ◌∷◌, length, refl, sym, ap, ◌∙◌, subst, arith}
use Rattle.std.proofs.lemmas.Bool.{eqb-true, lt-ltb}
use Rattle.std.specs.Prelude.{◌⊎◌, is_some}
use Rattle.supervision.specs.Host.{told_of}
use Rattle.supervision.specs.declared.host_node.Told.{Told}
use Rattle.supervision.specs.declared.host_node.Told.TheVariants.{Final, Working, Old}
use Rattle.host_node.specs.State.{NodeState, has_waiting, is_false, is_idle, is_open, is_running, is_unasked, is_up, wants_no_more}
use Rattle.host_node.specs.Steps.{after_again, after_again_tick, after_attempt_end, after_hold_tick, after_no_more, after_occasion, asleep, after_sign, after_told, new_series, tried_again, wait_ticks, with_again, with_wait}
use Rattle.host_node.specs.Events.{NodeEvent, after as after_node}
use Rattle.host_node.specs.Events.NodeEvent.{Joins, Interviews, Puts, Takes_back, Accepts, Cancels, Begins, Blocks, Starts, Gives_segment, Gives_text, Succeeds, Takes_nonce, Restores_seen, Ends_attempt, Reports, Holds, Notifies, Sleeps, Queues_no_more, Drops_no_more, Ends_no_more, Ticks, Restarts}
use Rattle.host_node.specs.declared.attempt.Moment.TheVariants.{BetweenTicks}
use Rattle.host_node.specs.declared.attempt.Plan.TheVariants.{Whole, Segments, Sealed}
use Rattle.host_node.specs.declared.no_more.NoMore.{NoMore}
use Rattle.host_node.specs.declared.no_more.NoMore.TheVariants.{Unasked, Queued, Dropped}
use Rattle.host_node.specs.declared.series.Series.{Series}
use Rattle.host_node.specs.declared.series.Series.TheVariants.{Idle, Due, Running}
use Rattle.host_node.specs.Facts.{NoMoreFacts, NodeFacts}
use Rattle.proof_answered.specs.Sleepers.{HasLeft, IsKeptUp, KeepsUp}
use Rattle.proof_answered.proofs.AttemptEnds.{again_tick_wait}

-- ---- what is left

-- only where nothing is, it is to be told
wants_parts : (a b c d : Bool) (waits idle : Bool) (hold : Bool) → (a && b && c && d && is_false waits && idle && hold) ≡ true → (waits ≡ false) × (idle ≡ true)
wants_parts true true true true false true true is = (refl, refl)
wants_parts true true true true false true false is = (refl, refl)
wants_parts true true true true false false hold is = absurd (let wrong : false ≡ true = is in cc)
wants_parts true true true true true idle hold is = absurd (let wrong : false ≡ true = is in cc)
wants_parts true true true false waits idle hold is = absurd (let wrong : false ≡ true = is in cc)
wants_parts true true false d waits idle hold is = absurd (let wrong : false ≡ true = is in cc)
wants_parts true false c d waits idle hold is = absurd (let wrong : false ≡ true = is in cc)
wants_parts false b c d waits idle hold is = absurd (let wrong : false ≡ true = is in cc)

idle_is : (s : Series) → is_idle s ≡ true → s ≡ Idle
idle_is Idle is = refl
idle_is Due is = absurd (let wrong : false ≡ true = is in cc)
idle_is Running is = absurd (let wrong : false ≡ true = is in cc)

none_waits : (waiting : List ℕ) → nat_lt 0 (length waiting) ≡ false → 1 ≤ length waiting → ⊥
none_waits waiting is some = absurd (let wrong : true ≡ false = sym (lt-ltb 0 (length waiting) (omega (arith, some))) ∙ is in cc)

pub left_untold : (x : NodeState) → HasLeft x → wants_no_more x ≡ true → ⊥
left_untold x left wants = by left
  where
    parts : (has_waiting x ≡ false) × (is_idle x.series ≡ true)
    parts = wants_parts x.awake (is_false x.listens) (is_some x.classes) (is_unasked x.no_more) (has_waiting x) (is_idle x.series) (x.hold == 0) wants

    by : (x.series ≢ Idle) ⊎ (1 ≤ length x.waiting) → ⊥
    by (inl busy) = busy (idle_is x.series parts.1)
    by (inr some) = none_waits x.waiting parts.0 some

-- ---- at each event

-- where it is as it was, and no more is left than was
as_was : (x y : NodeState) → y.awake ≡ x.awake → y.no_more ≡ x.no_more → (HasLeft y → HasLeft x) → IsKeptUp x → IsKeptUp y
as_was x y awake no_more left up = record { awake = awake ∙ up.awake; unasked = λ some. no_more ∙ up.unasked (left some) }

either : (b : Bool) (x y : NodeState) → IsKeptUp x → IsKeptUp y → IsKeptUp (if b then x else y)
either true x y first later = first
either false x y first later = later

-- a new series, where something is left
occasion : (x : NodeState) → HasLeft x → IsKeptUp x → IsKeptUp (after_occasion x)
occasion x left up = either (is_open x && is_up x && is_idle x.series) (new_series x) x (as_was x (new_series x) refl refl (λ some. left) up) up

-- or where nobody asked
unasked_occasion : (x : NodeState) → x.no_more ≡ Unasked → IsKeptUp x → IsKeptUp (after_occasion x)
unasked_occasion x unasked up =
    either (is_open x && is_up x && is_idle x.series) (new_series x) x (record { awake = up.awake; unasked = λ some. unasked }) up

sign : (x : NodeState) → IsKeptUp x → IsKeptUp (after_sign x)
sign x up = either (is_running x.series) (with_wait x wait_ticks) x (as_was x (with_wait x wait_ticks) refl refl (λ left. left) up) up

idle_left : (waiting : List ℕ) (x : NodeState) → x.waiting ≡ waiting → (Idle ≢ Idle) ⊎ (1 ≤ length waiting) → HasLeft x
idle_left waiting x same (inl busy) = absurd (busy refl)
idle_left waiting x same (inr some) = inr (subst (λ (l : List ℕ). 1 ≤ length l) (sym same) some)

told_up : (x : NodeState) (status : ℕ) (told : Told) → IsKeptUp x → IsKeptUp (after_told x status told)
told_up x status (Final session) up = as_was x (after_told x status (Final session)) refl refl (λ left. idle_left x.waiting x refl left) up
told_up x status Working up = sign x up
told_up x status Old up = up

-- the wait after a series goes down
waits_left : (x : NodeState) → has_waiting x ≡ true → HasLeft x
waits_left x is = by x.waiting refl
  where
    by : (waiting : List ℕ) → x.waiting ≡ waiting → HasLeft x
    by [] none = absurd (let wrong : true ≡ false = sym is ∙ ap (λ (l : List ℕ). nat_lt 0 (length l)) none in cc)
    by (first ∷ waiting) are = inr (subst (λ (l : List ℕ). 1 ≤ length l) (sym are) (omega arith))

again_up : (x : NodeState) → IsKeptUp x → IsKeptUp (after_again x)
again_up x up = by (has_waiting x) refl
  where
    by : (b : Bool) → has_waiting x ≡ b → IsKeptUp (if b then after_occasion x else x)
    by true is = occasion x (waits_left x is) up
    by false is = up

again_tick_up : (x : NodeState) → IsKeptUp x → IsKeptUp (after_again_tick x)
again_tick_up x up =
    either (x.again_wait == 1) (after_again (with_again x 0)) (with_again x (x.again_wait - 1)) (again_up (with_again x 0) (as_was x (with_again x 0) refl refl (λ left. left) up))
    (as_was x (with_again x (x.again_wait - 1)) refl refl (λ left. left) up)

ticks_up : (x : NodeState) → x.attempt_wait ≢ 1 → IsKeptUp x → IsKeptUp (after_node x Ticks)
ticks_up x lasts up = by (y.attempt_wait == 1) refl
  where
    y : NodeState
    y = after_again_tick (after_hold_tick x)

    there : IsKeptUp y
    there = again_tick_up (after_hold_tick x) (as_was x (after_hold_tick x) refl refl (λ left. left) up)

    by : (b : Bool) → (y.attempt_wait == 1) ≡ b → IsKeptUp (if b then after_attempt_end y BetweenTicks else with_wait y (y.attempt_wait - 1))
    by true is = absurd (lasts (sym (again_tick_wait (after_hold_tick x)) ∙ eqb-true y.attempt_wait 1 is))
    by false is = as_was y (with_wait y (y.attempt_wait - 1)) refl refl (λ left. left) there

-- a No More Information that was not queued is to be tried again
tried_unasked : (no_more : NoMore) → no_more ≢ Queued → tried_again no_more ≡ Unasked
tried_unasked Unasked other = refl
tried_unasked Dropped other = refl
tried_unasked Queued other = absurd (other refl)

runs_left : (x : NodeState) → x.series ≡ Due → HasLeft x
runs_left x due = inl (λ idle. let wrong : Due ≡ Idle = sym due ∙ idle in cc)

-- it is asked for where nothing is left
asked : (x : NodeState) (no_more : NoMore) → wants_no_more x ≡ true → IsKeptUp x → IsKeptUp (record x { no_more = no_more })
asked x no_more wants up = record { awake = up.awake; unasked = λ left. absurd (left_untold x left wants) }

pub kept_up : (x : NodeState) (event : NodeEvent) → KeepsUp x event → IsKeptUp x → IsKeptUp (after_node x event)
kept_up x Joins keeps up = as_was x (after_node x Joins) refl refl (λ left. left) up
kept_up x (Interviews listens classes) keeps up = as_was x (after_node x (Interviews listens classes)) refl refl (λ left. left) up
kept_up x (Puts command) keeps up = record { awake = up.awake; unasked = λ left. keeps }
kept_up x Takes_back keeps up = absurd keeps
kept_up x Accepts keeps up = occasion x keeps up
kept_up x (Cancels command) keeps up = absurd keeps
kept_up x Begins keeps up = as_was x (after_node x Begins) refl refl (λ left. inr keeps) up
kept_up x Blocks keeps up = as_was x (after_node x Blocks) refl refl (λ left. left) up
kept_up x (Starts Whole) keeps up = as_was x (after_node x (Starts Whole)) refl refl (λ left. runs_left x keeps) up
kept_up x (Starts (Segments count)) keeps up = as_was x (after_node x (Starts (Segments count))) refl refl (λ left. runs_left x keeps) up
kept_up x (Starts (Sealed plain)) keeps up = as_was x (after_node x (Starts (Sealed plain))) refl refl (λ left. runs_left x keeps) up
kept_up x Gives_segment keeps up = as_was x (after_node x Gives_segment) refl refl (λ left. left) up
kept_up x Gives_text keeps up = as_was x (after_node x Gives_text) refl refl (λ left. left) up
kept_up x Succeeds keeps up = sign x up
kept_up x (Takes_nonce seen text) keeps up = as_was x (after_node x (Takes_nonce seen text)) refl refl (λ left. left) up
kept_up x (Restores_seen seen) keeps up = as_was x (after_node x (Restores_seen seen)) refl refl (λ left. left) up
kept_up x (Ends_attempt moment) keeps up = absurd keeps
kept_up x (Reports id status) keeps up = told_up x status (told_of x.book id status) up
kept_up x Holds keeps up = as_was x (after_node x Holds) refl refl (λ left. left) up
kept_up x Notifies keeps up =
    unasked_occasion (record x { awake = true; no_more = tried_again x.no_more }) (tried_unasked x.no_more keeps) (record { awake = refl; unasked = λ left. tried_unasked x.no_more keeps })
kept_up x Sleeps keeps up = absurd keeps
kept_up x Queues_no_more keeps up = asked x Queued keeps up
kept_up x Drops_no_more keeps up = asked x Dropped keeps up
kept_up x Ends_no_more keeps up = absurd keeps
kept_up x Ticks keeps up = ticks_up x keeps up
kept_up x Restarts keeps up = absurd keeps

-- ---- it wakes, and is told that there is no more

pub not_queued : (x : NodeState) → NodeFacts x → x.awake ≡ false → x.no_more ≢ Queued
not_queued x facts sleeps queued =
    let up : x.awake ≡ true = (subst (λ (no_more : NoMore). NoMoreFacts no_more x.awake x.classes) queued facts.no_more).0 in absurd (let wrong : false ≡ true = sym sleeps ∙ up in cc)

-- its Notification comes while nobody asked that it be told that there is no more
pub notified_free : (x : NodeState) → x.no_more ≢ Queued → IsKeptUp (after_node x Notifies)
notified_free x free =
    let unasked : tried_again x.no_more ≡ Unasked = tried_unasked x.no_more free in
    unasked_occasion (record x { awake = true; no_more = tried_again x.no_more }) unasked (record { awake = refl; unasked = λ left. unasked })

-- so it is while it counts as asleep
pub notified : (x : NodeState) → NodeFacts x → x.awake ≡ false → IsKeptUp (after_node x Notifies)
notified x facts sleeps = notified_free x (not_queued x facts sleeps)

-- its No More Information ends
pub told_sleeps : (x : NodeState) → x.listens ≡ false → (after_node x Ends_no_more).awake ≡ false
told_sleeps x sleeps = subst (λ (b : Bool). (if b then after_no_more x Unasked else asleep (after_no_more x Unasked)).awake ≡ false) (sym sleeps) refl
