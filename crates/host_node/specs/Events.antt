-- The events of a node as data, when each may happen, and the node after it (this project's own rule, docs/NODES.md).
use Rattle.std.specs.Prelude.{◌≡◌, ℕ, ◌<◌, ◌≤◌, Bool, None, List, [], ◌∷◌, length, Contains, IsSome, IsTrue}
use Rattle.supervision.specs.Host.{open_session}
use Rattle.host_node.specs.declared.series.Series.TheVariants.{Due}
use Rattle.host_node.specs.declared.no_more.NoMore.TheVariants.{Queued, Dropped}
use Rattle.host_node.specs.declared.attempt.Plan.{Plan}
use Rattle.host_node.specs.declared.attempt.Plan.TheVariants.{Whole, Segments, Sealed}
use Rattle.host_node.specs.declared.attempt.Moment.{Moment}
use Rattle.host_node.specs.State.{NodeState, has_segment, wants_no_more}
use Rattle.host_node.specs.Steps.{after_join, after_interview, after_put, after_take_back, after_accept, after_cancel, after_begin, after_block, after_start, after_segment, after_text, after_sign, after_nonce, after_restore_seen, after_attempt_end, after_report, after_hold, after_notification, after_sleep, after_no_more, after_no_more_end, after_tick, after_restart}

pub data NodeEvent : Type 0 where
  Joins : NodeEvent
  Interviews : (listens : Bool) (classes : List ℕ) → NodeEvent
  Puts : (command : ℕ) → NodeEvent
  Takes_back : NodeEvent
  Accepts : NodeEvent
  Cancels : (command : ℕ) → NodeEvent
  Begins : NodeEvent
  Blocks : NodeEvent
  Starts : (plan : Plan) → NodeEvent
  Gives_segment : NodeEvent
  Gives_text : NodeEvent
  Succeeds : NodeEvent
  Takes_nonce : (seen : ℕ) (text : List ℕ) → NodeEvent
  Restores_seen : (seen : ℕ) → NodeEvent
  Ends_attempt : (moment : Moment) → NodeEvent
  Reports : (id status : ℕ) → NodeEvent
  Holds : NodeEvent
  Notifies : NodeEvent
  Sleeps : NodeEvent
  Queues_no_more : NodeEvent
  Drops_no_more : NodeEvent
  Ends_no_more : NodeEvent
  Ticks : NodeEvent
  Restarts : NodeEvent

-- the node after an event
abbrev pub after : NodeState → NodeEvent → NodeState
after n Joins = after_join n
after n (Interviews listens classes) = after_interview n listens classes
after n (Puts command) = after_put n command
after n Takes_back = after_take_back n
after n Accepts = after_accept n
after n (Cancels command) = after_cancel n command
after n Begins = after_begin n
after n Blocks = after_block n
after n (Starts plan) = after_start n plan
after n Gives_segment = after_segment n
after n Gives_text = after_text n
after n Succeeds = after_sign n
after n (Takes_nonce seen text) = after_nonce n seen text
after n (Restores_seen seen) = after_restore_seen n seen
after n (Ends_attempt moment) = after_attempt_end n moment
after n (Reports id status) = after_report n id status
after n Holds = after_hold n
after n Notifies = after_notification n
after n Sleeps = after_sleep n
after n Queues_no_more = after_no_more n Queued
after n Drops_no_more = after_no_more n Dropped
after n Ends_no_more = after_no_more_end n
after n Ticks = after_tick n
after n Restarts = after_restart n

-- the node after events, one after another
abbrev pub after_all : NodeState → List NodeEvent → NodeState
after_all n [] = n
after_all n (event ∷ more) = after_all (after n event) more

-- what an attempt may give: at least one segment, a plain text of at most 26 bytes
abbrev pub FitsPlan : Plan → Type 0
FitsPlan Whole = Unit {0}
FitsPlan (Segments count) = 1 ≤ count
FitsPlan (Sealed plain) = length plain ≤ 26

-- when an event may happen
abbrev pub May : NodeState → NodeEvent → Type 0
May n (Puts command) = length n.waiting < 16
May n (Cancels command) = Contains n.waiting command
May n Begins = (0 < length n.waiting) × (open_session n.book ≡ None)
May n (Starts plan) = (n.series ≡ Due) × FitsPlan plan
May n Gives_segment = IsTrue (has_segment n)
May n (Takes_nonce seen text) = IsSome n.pending
May n Queues_no_more = IsTrue (wants_no_more n)
May n Drops_no_more = IsTrue (wants_no_more n)
May n event = Unit {0}

abbrev pub MayAll : NodeState → List NodeEvent → Type 0
MayAll n [] = Unit {0}
MayAll n (event ∷ more) = May n event × MayAll (after n event) more
