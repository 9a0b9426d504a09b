-- The node after each event (this project's own rule, docs/NODES.md).
use Rattle.std.specs.Prelude.{ℕ, ◌+◌, ◌-◌, ◌==◌, ◌&&◌, nat_lt, Bool, true, false, if◌then◌else◌, Some, None, List, [], ◌∷◌, ◌++◌, drop, slice_index}
use Rattle.supervision.specs.Host.{begins, with_attempts, told_of}
use Rattle.supervision.specs.declared.host_node.Told.{Told}
use Rattle.supervision.specs.declared.host_node.Told.TheVariants.{Final, Working, Old}
use Rattle.wake_mailbox.specs.Mailbox.{without_last}
use Rattle.host_node.specs.declared.series.Series.TheVariants.{Idle, Due, Running}
use Rattle.host_node.specs.declared.no_more.NoMore.{NoMore}
use Rattle.host_node.specs.declared.no_more.NoMore.TheVariants.{Unasked, Queued, Dropped}
use Rattle.host_node.specs.declared.attempt.Plan.{Plan}
use Rattle.host_node.specs.declared.attempt.Plan.TheVariants.{Whole, Segments, Sealed}
use Rattle.host_node.specs.declared.attempt.AttemptEnd.{AttemptEnd}
use Rattle.host_node.specs.declared.attempt.AttemptEnd.TheVariants.{NoneRan, Again, Unanswered}
use Rattle.host_node.specs.declared.attempt.Moment.{Moment}
use Rattle.host_node.specs.declared.attempt.Moment.TheVariants.{BetweenTicks, BeforeItsTick}
use Rattle.host_node.specs.State.{NodeState, is_false, is_idle, is_running, is_up, is_open, has_waiting}

-- the ticks of an attempt without a report, of the wait after a series, and of a hold
abbrev pub wait_ticks : ℕ
wait_ticks = 100

-- so much is left of the wait after a series, or of the wait of an attempt
abbrev pub with_again : NodeState → ℕ → NodeState
with_again n ticks = record n { again_wait = ticks }

abbrev pub with_wait : NodeState → ℕ → NodeState
with_wait n ticks = record n { attempt_wait = ticks }

-- a new series is due, with no attempt counted
abbrev pub new_series : NodeState → NodeState
new_series n = record n { series = Due; book = with_attempts n.book 0; again_wait = 0 }

-- a moment at which a new series is due, if the node is up, its session is open and its series is over
abbrev pub after_occasion : NodeState → NodeState
after_occasion n = if is_open n && is_up n && is_idle n.series then new_series n else n

-- nothing is left of the running attempt
abbrev pub without_attempt : NodeState → NodeState
without_attempt n = record n { attempt_wait = 0; next_segment = 0; segments = 0; text = None; pending = None }

-- it joins the network
abbrev pub after_join : NodeState → NodeState
after_join n = record n { joined = true }

-- an interview told this of it
abbrev pub after_interview : NodeState → Bool → List ℕ → NodeState
after_interview n listens classes = record n { listens = listens; classes = Some classes }

-- a command waits for it
abbrev pub after_put : NodeState → ℕ → NodeState
after_put n command = record n { waiting = n.waiting ++ command ∷ [] }

-- the command that was put last does not
abbrev pub after_take_back : NodeState → NodeState
after_take_back n = record n { waiting = without_last n.waiting }

-- the command that was put last is accepted
abbrev pub after_accept : NodeState → NodeState
after_accept n = after_occasion n

-- the list without the first place of a number
abbrev pub without : List ℕ → ℕ → List ℕ
without [] command = []
without (first ∷ rest) command = if first == command then rest else first ∷ without rest command

-- a command that waited is cancelled
abbrev pub after_cancel : NodeState → ℕ → NodeState
after_cancel n command = record n { waiting = without n.waiting command }

-- the command that has waited longest
abbrev pub oldest : NodeState → ℕ
oldest n = slice_index n.waiting 0

-- a session for it begins, and a series is due
abbrev pub after_begin : NodeState → NodeState
after_begin n = record n { waiting = drop 1 n.waiting; book = begins n.book (oldest n); series = Due }

-- the record of a session was not kept
abbrev pub after_block : NodeState → NodeState
after_block n = record n { blocked = true }

-- an attempt that was due runs: its first message, first segment or Nonce Get is given
abbrev pub after_start : NodeState → Plan → NodeState
after_start n Whole = record n { series = Running }
after_start n (Segments count) = record n { series = Running; next_segment = 1; segments = count }
after_start n (Sealed plain) = record n { series = Running; pending = Some plain }

-- the running attempt gives its next segment, or its sealed text
abbrev pub after_segment : NodeState → NodeState
after_segment n = record n { next_segment = n.next_segment + 1 }

abbrev pub after_text : NodeState → NodeState
after_text n = record n { text = None }

-- a request of the running attempt was called back as well received, or the node is at work on it
abbrev pub after_sign : NodeState → NodeState
after_sign n = if is_running n.series then with_wait n wait_ticks else n

-- a nonce of the node is taken, and the pending plain text is sealed to this
abbrev pub after_nonce : NodeState → ℕ → List ℕ → NodeState
after_nonce n seen text = record n { seen = seen; pending = None; text = Some text }

-- so many nonces of the node were seen
abbrev pub after_restore_seen : NodeState → ℕ → NodeState
after_restore_seen n seen = record n { seen = seen }

-- it counts as asleep
abbrev pub asleep : NodeState → NodeState
asleep n = record n { no_more = Unasked; hold = 0; awake = false }

-- it counts as asleep, unless it listens
abbrev pub after_sleep : NodeState → NodeState
after_sleep n = if n.listens then n else asleep n

-- it counted as awake then, which is told
abbrev pub falls_asleep : NodeState → Bool
falls_asleep n = n.awake && is_false n.listens

-- the wait after a series. Where the host's tick has come to its link or its request, the node's own tick of that tick
-- counts for no wait that begins there
abbrev pub again_from : Moment → ℕ
again_from BetweenTicks = 100
again_from BeforeItsTick = 101

-- so many attempts of the series have ended, and the next one is due; or the series is over, and the wait for another begins
abbrev pub next_due : NodeState → ℕ → NodeState
next_due n attempts = record n { series = Due; book = with_attempts n.book attempts }

abbrev pub series_over : NodeState → ℕ → Moment → NodeState
series_over n attempts moment =
    record n { series = Idle; book = with_attempts n.book attempts; again_wait = again_from moment }

-- the third attempt is the last
abbrev pub after_attempts : NodeState → ℕ → Moment → NodeState
after_attempts n attempts moment =
    if nat_lt attempts 3 then next_due n attempts else after_sleep (series_over n attempts moment)

-- the running attempt ends without a report
abbrev pub after_attempt_end : NodeState → Moment → NodeState
after_attempt_end n moment =
    if is_running n.series then after_attempts (without_attempt n) (n.book.attempts + 1) moment else n

-- what that is to the host
abbrev pub attempt_end : NodeState → AttemptEnd
attempt_end n =
    if is_running n.series
    then (if nat_lt (n.book.attempts + 1) 3 then Again else Unanswered (falls_asleep n))
    else NoneRan

-- the open session has its final report
abbrev pub with_final : NodeState → ℕ → NodeState
with_final n status =
    record (without_attempt n) { series = Idle; again_wait = 0; book = record n.book { outcome = Some status; attempts = 0 } }

-- a report with this status is taken, which says this
abbrev pub after_told : NodeState → ℕ → Told → NodeState
after_told n status (Final session) = with_final n status
after_told n status Working = after_sign n
after_told n status Old = n

-- a Supervision Report with this id and status is taken
abbrev pub after_report : NodeState → ℕ → ℕ → NodeState
after_report n id status = after_told n status (told_of n.book id status)

-- it is held awake
abbrev pub after_hold : NodeState → NodeState
after_hold n = record n { hold = wait_ticks }

-- a No More Information that found the queue full is to be tried again
abbrev pub tried_again : NoMore → NoMore
tried_again Dropped = Unasked
tried_again Queued = Queued
tried_again Unasked = Unasked

-- its Wake Up Notification came
abbrev pub after_notification : NodeState → NodeState
after_notification n = after_occasion (record n { awake = true; no_more = tried_again n.no_more })

-- No More Information for it was queued, or found the queue full, or its request ended
abbrev pub after_no_more : NodeState → NoMore → NodeState
after_no_more n no_more = record n { no_more = no_more }

abbrev pub after_no_more_end : NodeState → NodeState
after_no_more_end n = after_sleep (after_no_more n Unasked)

-- a tick: it is blocked no longer, and its three waits go down, in this order
abbrev pub after_hold_tick : NodeState → NodeState
after_hold_tick n = record n { blocked = false; hold = n.hold - 1 }

-- at the end of the wait after a series a new one is due, if a command waits
abbrev pub after_again : NodeState → NodeState
after_again n = if has_waiting n then after_occasion n else n

abbrev pub after_again_tick : NodeState → NodeState
after_again_tick n =
    if n.again_wait == 1 then after_again (with_again n 0) else with_again n (n.again_wait - 1)

-- at the end of an attempt's wait it ends. The wait for another series, which may begin then, has had its part of this tick
abbrev pub after_attempt_tick : NodeState → NodeState
after_attempt_tick n =
    if n.attempt_wait == 1 then after_attempt_end n BetweenTicks else with_wait n (n.attempt_wait - 1)

abbrev pub after_tick : NodeState → NodeState
after_tick n = after_attempt_tick (after_again_tick (after_hold_tick n))

-- what a tick tells the host: the end of an attempt
abbrev pub attempt_tick_end : NodeState → AttemptEnd
attempt_tick_end n = if n.attempt_wait == 1 then attempt_end n else NoneRan

abbrev pub tick_end : NodeState → AttemptEnd
tick_end n = attempt_tick_end (after_again_tick (after_hold_tick n))

-- only what its records say is left of it
abbrev pub as_recorded : NodeState → NodeState
as_recorded n = record (without_attempt n) {
  series = Idle;
  again_wait = 0;
  book = with_attempts n.book 0;
  awake = false;
  hold = 0;
  no_more = Unasked;
  blocked = false;
}

-- the host starts from its records
abbrev pub after_restart : NodeState → NodeState
after_restart n = after_occasion (as_recorded n)
