-- A node that sleeps, as the host keeps it, at each of its events: while it counts as asleep no series of it is due or runs; and while it counts as awake it stays so.
use Rattle.std.proofs.Common.{◌≡◌, ◌≢◌, ◌≤◌, ℕ, ◌-◌, ◌==◌, ◌&&◌, inl, inr, Bool, true, false, if◌then◌else◌, List, length, refl, sym, ap, ◌∙◌, subst}
use Rattle.std.proofs.lemmas.Bool.{eqb-true}
use Rattle.std.specs.Prelude.{◌||◌}
use Rattle.supervision.specs.Host.{told_of}
use Rattle.supervision.specs.declared.host_node.Told.{Told}
use Rattle.supervision.specs.declared.host_node.Told.TheVariants.{Final, Working, Old}
use Rattle.host_node.specs.State.{NodeState, has_waiting, is_idle, is_open, is_running, is_up, wants_no_more}
use Rattle.host_node.specs.Steps.{after_again, after_again_tick, after_attempt_end, after_hold_tick, after_no_more, after_occasion, asleep as asleep_node, after_sign, after_told, new_series, tried_again, wait_ticks, with_again, with_wait}
use Rattle.host_node.specs.Events.{NodeEvent, after as after_node}
use Rattle.host_node.specs.Events.NodeEvent.{Joins, Interviews, Puts, Takes_back, Accepts, Cancels, Begins, Blocks, Starts, Gives_segment, Gives_text, Succeeds, Takes_nonce, Restores_seen, Ends_attempt, Reports, Holds, Notifies, Sleeps, Queues_no_more, Drops_no_more, Ends_no_more, Ticks, Restarts}
use Rattle.host_node.specs.declared.attempt.Moment.TheVariants.{BetweenTicks}
use Rattle.host_node.specs.declared.attempt.Plan.TheVariants.{Whole, Segments, Sealed}
use Rattle.host_node.specs.declared.no_more.NoMore.{NoMore}
use Rattle.host_node.specs.declared.no_more.NoMore.TheVariants.{Unasked, Queued}
use Rattle.host_node.specs.declared.series.Series.{Series}
use Rattle.host_node.specs.declared.series.Series.TheVariants.{Idle, Due, Running}
use Rattle.proof_answered.specs.Sleepers.{HasLeft, IsKeptUp, KeepsUp}
use Rattle.proof_answered.proofs.AttemptEnds.{again_tick_wait}
use Rattle.proof_answered.proofs.KeptUp.{kept_up, notified_free}
use Rattle.proof_answered.proofs.NodeSteps.{IsAside}

-- ---- while it counts as asleep

-- where something is asked of it, nothing is left
pub record DownNode (Empty : Type 0) (x : NodeState) : Type 0 where
  pub sleeps : x.listens ≡ false
  pub asleep : x.awake ≡ false
  pub idle : x.series ≡ Idle
  pub unasked : x.no_more ≢ Queued
  pub nothing : Empty → HasLeft x → ⊥

abbrev pub GoesDown : Type 0 → NodeState → NodeEvent → Type 0
GoesDown Empty x (Interviews listens classes) = ⊥
GoesDown Empty x (Puts command) = Empty → ⊥
GoesDown Empty x Takes_back = ⊥
GoesDown Empty x (Cancels command) = ⊥
GoesDown Empty x Begins = ⊥
GoesDown Empty x (Starts plan) = ⊥
GoesDown Empty x (Ends_attempt moment) = ⊥
GoesDown Empty x Notifies = ⊥
GoesDown Empty x Sleeps = ⊥
GoesDown Empty x Queues_no_more = ⊥
GoesDown Empty x Drops_no_more = ⊥
GoesDown Empty x Ends_no_more = ⊥
GoesDown Empty x Ticks = x.attempt_wait ≢ 1
GoesDown Empty x Restarts = ⊥
GoesDown Empty x event = Unit {0}

pub aside_down : (Empty : Type 0) (x : NodeState) (event : NodeEvent) → IsAside event → GoesDown Empty x event
aside_down Empty x (Interviews listens classes) is = absurd is
aside_down Empty x (Puts command) is = absurd is
aside_down Empty x Takes_back is = absurd is
aside_down Empty x (Cancels command) is = absurd is
aside_down Empty x Begins is = absurd is
aside_down Empty x (Starts plan) is = absurd is
aside_down Empty x (Ends_attempt moment) is = absurd is
aside_down Empty x Notifies is = absurd is
aside_down Empty x Sleeps is = absurd is
aside_down Empty x Queues_no_more is = absurd is
aside_down Empty x Drops_no_more is = absurd is
aside_down Empty x Ends_no_more is = absurd is
aside_down Empty x Ticks is = absurd is
aside_down Empty x Restarts is = absurd is
aside_down Empty x event is = tt

-- what is left of it where no series is
left_waits : (x y : NodeState) → y.series ≡ Idle → y.waiting ≡ x.waiting → HasLeft y → HasLeft x
left_waits x y idle same (inl busy) = absurd (busy idle)
left_waits x y idle same (inr some) = inr (subst (λ (l : List ℕ). 1 ≤ length l) same some)

no_occasion : (x : NodeState) → x.listens ≡ false → x.awake ≡ false → after_occasion x ≡ x
no_occasion x sleeps down = by (is_open x) (is_up x) (is_idle x.series) (ap (λ (b : Bool). b || x.awake) sleeps ∙ down)
  where
    by : (open_is up idle : Bool) → up ≡ false → (if open_is && up && idle then new_series x else x) ≡ x
    by open_is true idle is = absurd (let wrong : true ≡ false = is in cc)
    by true false idle is = refl
    by false false idle is = refl

module _ (Empty : Type 0) where
  abbrev Down : NodeState → Type 0
  Down = DownNode Empty

  -- where no more is left, and it counts as before
  as_down : (x y : NodeState) → y.listens ≡ x.listens → y.awake ≡ x.awake → y.no_more ≡ x.no_more → y.series ≡ Idle → y.waiting ≡ x.waiting → Down x → Down y
  as_down x y listens awake no_more idle waiting down = record {
    sleeps = listens ∙ down.sleeps;
    asleep = awake ∙ down.asleep;
    idle = idle;
    unasked = λ queued. down.unasked (sym no_more ∙ queued);
    nothing = λ empty left. down.nothing empty (left_waits x y idle waiting left);
  }

  either_down : (b : Bool) (x y : NodeState) → Down x → Down y → Down (if b then x else y)
  either_down true x y first later = first
  either_down false x y first later = later

  occasion_down : (x : NodeState) → Down x → Down (after_occasion x)
  occasion_down x down = subst Down (sym (no_occasion x down.sleeps down.asleep)) down

  sign_down : (x : NodeState) → Down x → Down (after_sign x)
  sign_down x down = either_down (is_running x.series) (with_wait x wait_ticks) x (as_down x (with_wait x wait_ticks) refl refl refl down.idle refl down) down

  told_down : (x : NodeState) (status : ℕ) (told : Told) → Down x → Down (after_told x status told)
  told_down x status (Final session) down = as_down x (after_told x status (Final session)) refl refl refl refl refl down
  told_down x status Working down = sign_down x down
  told_down x status Old down = down

  again_down : (x : NodeState) → Down x → Down (after_again x)
  again_down x down = either_down (has_waiting x) (after_occasion x) x (occasion_down x down) down

  again_tick_down : (x : NodeState) → Down x → Down (after_again_tick x)
  again_tick_down x down =
      either_down (x.again_wait == 1) (after_again (with_again x 0)) (with_again x (x.again_wait - 1)) (again_down (with_again x 0) (as_down x (with_again x 0) refl refl refl down.idle refl down))
      (as_down x (with_again x (x.again_wait - 1)) refl refl refl down.idle refl down)

  ticks_down : (x : NodeState) → x.attempt_wait ≢ 1 → Down x → Down (after_node x Ticks)
  ticks_down x lasts down = by (y.attempt_wait == 1) refl
    where
      y : NodeState
      y = after_again_tick (after_hold_tick x)

      there : Down y
      there = again_tick_down (after_hold_tick x) (as_down x (after_hold_tick x) refl refl refl down.idle refl down)

      by : (b : Bool) → (y.attempt_wait == 1) ≡ b → Down (if b then after_attempt_end y BetweenTicks else with_wait y (y.attempt_wait - 1))
      by true is = absurd (lasts (sym (again_tick_wait (after_hold_tick x)) ∙ eqb-true y.attempt_wait 1 is))
      by false is = as_down y (with_wait y (y.attempt_wait - 1)) refl refl refl there.idle refl there

  pub goes_down : (x : NodeState) (event : NodeEvent) → GoesDown Empty x event → Down x → Down (after_node x event)
  goes_down x Joins goes down = as_down x (after_node x Joins) refl refl refl down.idle refl down
  goes_down x (Interviews listens classes) goes down = absurd goes
  goes_down x (Puts command) goes down = record { sleeps = down.sleeps; asleep = down.asleep; idle = down.idle; unasked = down.unasked; nothing = λ empty. absurd (goes empty) }
  goes_down x Takes_back goes down = absurd goes
  goes_down x Accepts goes down = occasion_down x down
  goes_down x (Cancels command) goes down = absurd goes
  goes_down x Begins goes down = absurd goes
  goes_down x Blocks goes down = as_down x (after_node x Blocks) refl refl refl down.idle refl down
  goes_down x (Starts plan) goes down = absurd goes
  goes_down x Gives_segment goes down = as_down x (after_node x Gives_segment) refl refl refl down.idle refl down
  goes_down x Gives_text goes down = as_down x (after_node x Gives_text) refl refl refl down.idle refl down
  goes_down x Succeeds goes down = sign_down x down
  goes_down x (Takes_nonce seen text) goes down = as_down x (after_node x (Takes_nonce seen text)) refl refl refl down.idle refl down
  goes_down x (Restores_seen seen) goes down = as_down x (after_node x (Restores_seen seen)) refl refl refl down.idle refl down
  goes_down x (Ends_attempt moment) goes down = absurd goes
  goes_down x (Reports id status) goes down = told_down x status (told_of x.book id status) down
  goes_down x Holds goes down = as_down x (after_node x Holds) refl refl refl down.idle refl down
  goes_down x Notifies goes down = absurd goes
  goes_down x Sleeps goes down = absurd goes
  goes_down x Queues_no_more goes down = absurd goes
  goes_down x Drops_no_more goes down = absurd goes
  goes_down x Ends_no_more goes down = absurd goes
  goes_down x Ticks goes down = ticks_down x goes down
  goes_down x Restarts goes down = absurd goes

-- ---- while it counts as awake

-- where it is to be told that there is no more, that was asked for
pub record UpNode (Told_it : Type 0) (x : NodeState) : Type 0 where
  pub sleeps : x.listens ≡ false
  pub kept : IsKeptUp x
  pub asked : Told_it → x.no_more ≡ Queued

abbrev pub GoesUp : NodeState → NodeEvent → Type 0
GoesUp x (Interviews listens classes) = ⊥
GoesUp x (Puts command) = ⊥
GoesUp x Takes_back = ⊥
GoesUp x Accepts = ⊥
GoesUp x (Cancels command) = ⊥
GoesUp x Begins = 1 ≤ length x.waiting
GoesUp x (Starts plan) = x.series ≡ Due
GoesUp x (Ends_attempt moment) = ⊥
GoesUp x Notifies = ⊥
GoesUp x Sleeps = ⊥
GoesUp x Queues_no_more = ⊥
GoesUp x Drops_no_more = ⊥
GoesUp x Ends_no_more = ⊥
GoesUp x Ticks = x.attempt_wait ≢ 1
GoesUp x Restarts = ⊥
GoesUp x event = Unit {0}

pub aside_up : (x : NodeState) (event : NodeEvent) → IsAside event → GoesUp x event
aside_up x (Interviews listens classes) is = absurd is
aside_up x (Puts command) is = absurd is
aside_up x Takes_back is = absurd is
aside_up x Accepts is = absurd is
aside_up x (Cancels command) is = absurd is
aside_up x Begins is = absurd is
aside_up x (Starts plan) is = absurd is
aside_up x (Ends_attempt moment) is = absurd is
aside_up x Notifies is = absurd is
aside_up x Sleeps is = absurd is
aside_up x Queues_no_more is = absurd is
aside_up x Drops_no_more is = absurd is
aside_up x Ends_no_more is = absurd is
aside_up x Ticks is = absurd is
aside_up x Restarts is = absurd is
aside_up x event is = tt

up_keeps : (x : NodeState) (event : NodeEvent) → GoesUp x event → KeepsUp x event
up_keeps x (Puts command) goes = absurd goes
up_keeps x Takes_back goes = absurd goes
up_keeps x Accepts goes = absurd goes
up_keeps x (Cancels command) goes = absurd goes
up_keeps x Begins goes = goes
up_keeps x (Starts plan) goes = goes
up_keeps x (Ends_attempt moment) goes = absurd goes
up_keeps x Notifies goes = absurd goes
up_keeps x Sleeps goes = absurd goes
up_keeps x Queues_no_more goes = absurd goes
up_keeps x Drops_no_more goes = absurd goes
up_keeps x Ends_no_more goes = absurd goes
up_keeps x Ticks goes = goes
up_keeps x Restarts goes = absurd goes
up_keeps x event goes = tt

-- whether it listens, and what became of No More Information, stays so
abbrev two : NodeState → Bool × NoMore
two x = (x.listens, x.no_more)

either_two : (b : Bool) (x y : NodeState) (z : Bool × NoMore) → two x ≡ z → two y ≡ z → two (if b then x else y) ≡ z
either_two true x y z first later = first
either_two false x y z first later = later

occasion_two : (x : NodeState) → two (after_occasion x) ≡ two x
occasion_two x = either_two (is_open x && is_up x && is_idle x.series) (new_series x) x (two x) refl refl

sign_two : (x : NodeState) → two (after_sign x) ≡ two x
sign_two x = either_two (is_running x.series) (with_wait x wait_ticks) x (two x) refl refl

told_two : (x : NodeState) (status : ℕ) (told : Told) → two (after_told x status told) ≡ two x
told_two x status (Final session) = refl
told_two x status Working = sign_two x
told_two x status Old = refl

again_tick_two : (x : NodeState) → two (after_again_tick x) ≡ two x
again_tick_two x =
    either_two (x.again_wait == 1) (after_again (with_again x 0)) (with_again x (x.again_wait - 1)) (two x)
    (either_two (has_waiting x) (after_occasion (with_again x 0)) (with_again x 0) (two x) (occasion_two (with_again x 0)) refl) refl

ticks_two : (x : NodeState) → x.attempt_wait ≢ 1 → two (after_node x Ticks) ≡ two x
ticks_two x lasts = by (y.attempt_wait == 1) refl
  where
    y : NodeState
    y = after_again_tick (after_hold_tick x)

    by : (b : Bool) → (y.attempt_wait == 1) ≡ b → two (if b then after_attempt_end y BetweenTicks else with_wait y (y.attempt_wait - 1)) ≡ two x
    by true is = absurd (lasts (sym (again_tick_wait (after_hold_tick x)) ∙ eqb-true y.attempt_wait 1 is))
    by false is = again_tick_two (after_hold_tick x)

stays_two : (x : NodeState) (event : NodeEvent) → GoesUp x event → two (after_node x event) ≡ two x
stays_two x Joins goes = refl
stays_two x (Interviews listens classes) goes = absurd goes
stays_two x (Puts command) goes = absurd goes
stays_two x Takes_back goes = absurd goes
stays_two x Accepts goes = absurd goes
stays_two x (Cancels command) goes = absurd goes
stays_two x Begins goes = refl
stays_two x Blocks goes = refl
stays_two x (Starts Whole) goes = refl
stays_two x (Starts (Segments count)) goes = refl
stays_two x (Starts (Sealed plain)) goes = refl
stays_two x Gives_segment goes = refl
stays_two x Gives_text goes = refl
stays_two x Succeeds goes = sign_two x
stays_two x (Takes_nonce seen text) goes = refl
stays_two x (Restores_seen seen) goes = refl
stays_two x (Ends_attempt moment) goes = absurd goes
stays_two x (Reports id status) goes = told_two x status (told_of x.book id status)
stays_two x Holds goes = refl
stays_two x Notifies goes = absurd goes
stays_two x Sleeps goes = absurd goes
stays_two x Queues_no_more goes = absurd goes
stays_two x Drops_no_more goes = absurd goes
stays_two x Ends_no_more goes = absurd goes
stays_two x Ticks goes = ticks_two x goes
stays_two x Restarts goes = absurd goes

pub goes_up : (Told_it : Type 0) (x : NodeState) (event : NodeEvent) → GoesUp x event → UpNode Told_it x → UpNode Told_it (after_node x event)
goes_up Told_it x event goes up = record {
  sleeps = ap (λ (p : Bool × NoMore). p.0) (stays_two x event goes) ∙ up.sleeps;
  kept = kept_up x event (up_keeps x event goes) up.kept;
  asked = λ told. ap (λ (p : Bool × NoMore). p.1) (stays_two x event goes) ∙ up.asked told;
}

-- ---- from the one to the other

-- its Notification comes
pub wakes_up : (x : NodeState) → x.no_more ≢ Queued → x.listens ≡ false → UpNode ⊥ (after_node x Notifies)
wakes_up x unasked sleeps = record {
  sleeps = ap (λ (p : Bool × NoMore). p.0) (occasion_two (record x { awake = true; no_more = tried_again x.no_more })) ∙ sleeps;
  kept = notified_free x unasked;
  asked = λ told. absurd told;
}

-- it is asked for that it be told that there is no more
pub asked_up : (Told_it : Type 0) (x : NodeState) → wants_no_more x ≡ true → x.listens ≡ false → IsKeptUp x → UpNode Told_it (after_node x Queues_no_more)
asked_up Told_it x wants sleeps kept = record { sleeps = sleeps; kept = kept_up x Queues_no_more wants kept; asked = λ told. refl }

-- then nothing is left
pub asked_nothing : (x : NodeState) → IsKeptUp x → x.no_more ≡ Queued → HasLeft x → ⊥
asked_nothing x kept asked left = let wrong : Queued ≡ Unasked = sym asked ∙ kept.unasked left in absurd cc

nothing_idle : (x : NodeState) → (HasLeft x → ⊥) → x.series ≡ Idle
nothing_idle x nothing = by x.series refl
  where
    by : (s : Series) → x.series ≡ s → x.series ≡ Idle
    by Idle is = is
    by Due is = absurd (nothing (inl (λ idle. let wrong : Due ≡ Idle = sym is ∙ idle in cc)))
    by Running is = absurd (nothing (inl (λ idle. let wrong : Running ≡ Idle = sym is ∙ idle in cc)))

-- and it was told
pub told_down_so : (x : NodeState) → x.listens ≡ false → IsKeptUp x → x.no_more ≡ Queued → DownNode (Unit {0}) (after_node x Ends_no_more)
told_down_so x sleeps kept asked = subst (DownNode (Unit {0})) (sym (ap (λ (b : Bool). if b then after_no_more x Unasked else asleep_node (after_no_more x Unasked)) sleeps)) (record {
  sleeps = sleeps;
  asleep = refl;
  idle = nothing_idle x (asked_nothing x kept asked);
  unasked = λ queued. let wrong : Unasked ≡ Queued = queued in cc;
  nothing = λ empty left. asked_nothing x kept asked (left_waits x (asleep_node (after_no_more x Unasked)) (nothing_idle x (asked_nothing x kept asked)) refl left);
})
