-- The sealed text that a node is to be given comes of a nonce, and goes with the attempt.
use Rattle.std.proofs.Common.{ℕ, ◌+◌, ◌-◌, ◌≤◌, ◌&&◌, Bool, true, false, length}
use Rattle.std.specs.Prelude.{nat_lt, ◌==◌, if◌then◌else◌}
use Rattle.supervision.specs.Host.{told_of}
use Rattle.supervision.specs.declared.host_node.Told.{Told}
use Rattle.supervision.specs.declared.host_node.Told.TheVariants.{Final, Working, Old}
use Rattle.world_model.specs.host_node.State.{NodeState, is_open, is_up, is_idle, is_running, has_waiting}
use Rattle.world_model.specs.host_node.Steps.{after_occasion, new_series, without_attempt, after_sign, with_wait, wait_ticks, after_sleep, asleep, after_attempts, next_due, series_over, after_attempt_end, after_told, after_again, after_again_tick, with_again, after_attempt_tick, after_hold_tick, as_recorded, tried_again}
use Rattle.world_model.specs.host_node.Events.{NodeEvent, after}
use Rattle.world_model.specs.host_node.Events.NodeEvent.{Joins, Interviews, Puts, Takes_back, Accepts, Cancels, Begins, Blocks, Starts, Gives_segment, Gives_text, Succeeds, Takes_nonce, Restores_seen, Ends_attempt, Reports, Holds, Notifies, Sleeps, Queues_no_more, Drops_no_more, Ends_no_more, Ticks, Restarts}
use Rattle.world_model.specs.host_node.declared.attempt.Moment.{Moment}
use Rattle.world_model.specs.host_node.declared.attempt.Moment.TheVariants.{BetweenTicks}
use Rattle.world_model.specs.host_node.declared.attempt.Plan.TheVariants.{Whole, Segments, Sealed}
use Rattle.proof_serial.specs.Host.{HasShortText}

-- an event that brings a text brings a short one
abbrev pub BringsShort : NodeEvent → Type 0
BringsShort (Takes_nonce seen text) = length text ≤ 46
BringsShort event = Unit {0}

-- one of two nodes
either : (b : Bool) (x y : NodeState) → HasShortText x → HasShortText y → HasShortText (if b then x else y)
either true x y first later = first
either false x y first later = later

occasion_short : (n : NodeState) → HasShortText n → HasShortText (after_occasion n)
occasion_short n short = either (is_open n && is_up n && is_idle n.series) (new_series n) n short short

sign_short : (n : NodeState) → HasShortText n → HasShortText (after_sign n)
sign_short n short = either (is_running n.series) (with_wait n wait_ticks) n short short

sleep_short : (n : NodeState) → HasShortText n → HasShortText (after_sleep n)
sleep_short n short = either n.listens n (asleep n) short short

attempts_short : (n : NodeState) (attempts : ℕ) (moment : Moment) → HasShortText n → HasShortText (after_attempts n attempts moment)
attempts_short n attempts moment short =
    either (nat_lt attempts 3) (next_due n attempts) (after_sleep (series_over n attempts moment)) short (sleep_short (series_over n attempts moment) short)

pub attempt_end_short : (n : NodeState) (moment : Moment) → HasShortText n → HasShortText (after_attempt_end n moment)
attempt_end_short n moment short =
    either (is_running n.series) (after_attempts (without_attempt n) (n.book.attempts + 1) moment) n (attempts_short (without_attempt n) (n.book.attempts + 1) moment tt) short

told_short : (n : NodeState) (status : ℕ) (told : Told) → HasShortText n → HasShortText (after_told n status told)
told_short n status (Final session) short = tt
told_short n status Working short = sign_short n short
told_short n status Old short = short

again_short : (n : NodeState) → HasShortText n → HasShortText (after_again n)
again_short n short = either (has_waiting n) (after_occasion n) n (occasion_short n short) short

again_tick_short : (n : NodeState) → HasShortText n → HasShortText (after_again_tick n)
again_tick_short n short = either (n.again_wait == 1) (after_again (with_again n 0)) (with_again n (n.again_wait - 1)) (again_short (with_again n 0) short) short

attempt_tick_short : (n : NodeState) → HasShortText n → HasShortText (after_attempt_tick n)
attempt_tick_short n short = either (n.attempt_wait == 1) (after_attempt_end n BetweenTicks) (with_wait n (n.attempt_wait - 1)) (attempt_end_short n BetweenTicks short) short

pub event_short : (n : NodeState) (event : NodeEvent) → HasShortText n → BringsShort event → HasShortText (after n event)
event_short n Joins short brings = short
event_short n (Interviews listens classes) short brings = short
event_short n (Puts command) short brings = short
event_short n Takes_back short brings = short
event_short n Accepts short brings = occasion_short n short
event_short n (Cancels command) short brings = short
event_short n Begins short brings = short
event_short n Blocks short brings = short
event_short n (Starts Whole) short brings = short
event_short n (Starts (Segments count)) short brings = short
event_short n (Starts (Sealed plain)) short brings = short
event_short n Gives_segment short brings = short
event_short n Gives_text short brings = tt
event_short n Succeeds short brings = sign_short n short
event_short n (Takes_nonce seen text) short brings = brings
event_short n (Restores_seen seen) short brings = short
event_short n (Ends_attempt moment) short brings = attempt_end_short n moment short
event_short n (Reports id status) short brings = told_short n status (told_of n.book id status) short
event_short n Holds short brings = short
event_short n Notifies short brings = occasion_short (record n { awake = true; no_more = tried_again n.no_more }) short
event_short n Sleeps short brings = sleep_short n short
event_short n Queues_no_more short brings = short
event_short n Drops_no_more short brings = short
event_short n Ends_no_more short brings = sleep_short _ short
event_short n Ticks short brings = attempt_tick_short (after_again_tick (after_hold_tick n)) (again_tick_short (after_hold_tick n) short)
event_short n Restarts short brings = occasion_short (as_recorded n) tt
