-- Which events a line is (this project's own rule): its own effect and a settling, or so many ticks.
use Rattle.std.specs.Prelude.{◌≡◌, ◌⊎◌, true, false, List, [], ◌∷◌, length, Option, Some, None}
use Rattle.zw_words.specs.declared.side.Side.TheVariants as side
use Rattle.zw_text.specs.declared.line.Line.{Line}
use Rattle.zw_text.specs.declared.line.Line.TheVariants.{Command, Tick, Cut, Stall, Drop, Garble, Collide, Send, Get, Join, Interview, Lose, LoseAck, Repeat, Wake, Cancel, Link, Unlink, Discover, Neighbours, Failed, Probe, Local, Show, Store, Restart}
use Rattle.zw_text.specs.declared.entry.Refusal.{Refusal}
use Rattle.host_orders.specs.declared.refused.Refused.{Refused}
use Rattle.host_orders.specs.Refusals.{classes_of}
use Rattle.host_orders.specs.Errands.{send_refusal, send_text, get_refusal, get_text}
use Rattle.host_model.specs.host_requests.declared.task.Task.TheVariants as task
use Rattle.host_model.specs.State.{HostState, node_of}
use Rattle.host_model.specs.Events.{HostEvent, Accepts, Cancels, Joins as joins_host, Queues, Queues_interview, Queues_probe}
use Rattle.host_model.specs.May.{known_of}
use Rattle.host_model.specs.Asking.{carriage_for, places_refusal, interview_refusal}
use Rattle.outside_model.specs.Events.{OuterEvent, Begins_line, Discovers, Joins, Links, Loses, Loses_acks, Marks_loss, Marks_change, Clears_pipe, Collides_next, Stalls, Cuts, Shows}
use Rattle.outside_model.specs.Schedules.{IsRepeat, IsWake, IsSet}
use Rattle.world_model.specs.Refusals.{shown}
use Rattle.world_model.specs.Events.{Event, Outside_does, Host_does, Refuses, Shows_values, Restarts}
use Rattle.world_model.specs.Did.{Schedule, Then, These}
use Rattle.world_model.specs.Settling.{Outside, Settles}
use Rattle.world_model.specs.Ticking.{Ticks}

-- the line is refused
abbrev pub IsRefusal : Line → List Event → Type 0
IsRefusal line events = (refusal : Refusal) × (events ≡ Refuses line refusal ∷ [])

-- it is done by these events, or refused. When it may be which is said by when the events may happen
abbrev pub IsDone : Line → List Event → List Event → Type 0
IsDone line these events = (events ≡ these) ⊎ IsRefusal line events

-- a request is asked for, unless a rule refuses it
abbrev pub Asks : Option Refused → Line → HostEvent → List Event → Type 0
Asks None line event events = events ≡ Host_does event ∷ []
Asks (Some refused) line event events = (refusal : Refusal) × (shown refused ≡ Some refusal) × (events ≡ Refuses line refusal ∷ [])

-- something outside
abbrev pub IsOne : OuterEvent → List Event → Type 0
IsOne event events = events ≡ Outside_does event ∷ []

-- the host that starts from the records takes over, and the bytes on their way are lost
abbrev pub restart_events : HostState → List Event
restart_events state = Restarts state ∷ Outside_does (Clears_pipe side.Host) ∷ Outside_does (Clears_pipe side.Chip) ∷ []

abbrev pub IsRestart : List Event → Type 0
IsRestart events = ((state : HostState) × (events ≡ restart_events state)) ⊎ IsRefusal Restart events

-- a table of the chip's links is made, and then the members are asked for
abbrev pub IsDiscovery : Schedule
IsDiscovery m events =
    (asked : List Event) × Asks (places_refusal m.host.state 1) Discover (Queues task.Members) asked × (events ≡ Outside_does Discovers ∷ asked)

-- the effect of a line but `tick`
abbrev pub IsEffect : Line → Schedule
IsEffect (Command order) m events = IsDone (Command order) (Host_does (Accepts order (carriage_for m.host.state order)) ∷ []) events
IsEffect (Tick count) m events = ⊥
IsEffect (Cut size) m events = IsOne (Cuts size) events
IsEffect (Stall ticks) m events = IsOne (Stalls ticks) events
IsEffect (Drop by) m events = IsOne (Marks_loss by) events
IsEffect (Garble by place xor) m events = IsOne (Marks_change by (record { place = place; xor = xor })) events
IsEffect Collide m events = IsOne Collides_next events
IsEffect (Send node word) m events =
    Asks (send_refusal (known_of (node_of m.host.state node)) (length m.host.state.requests.queue) word) (Send node word)
    (Queues (task.Plain node (send_text (classes_of (known_of (node_of m.host.state node))) word))) events
IsEffect (Get node end) m events =
    Asks (get_refusal (known_of (node_of m.host.state node)) (length m.host.state.requests.queue) end) (Get node end)
    (Queues (task.Plain node (get_text (classes_of (known_of (node_of m.host.state node))) end))) events
IsEffect (Join node) m events = IsDone (Join node) (Host_does (joins_host node) ∷ Outside_does (Joins node) ∷ []) events
IsEffect (Interview node) m events = Asks (interview_refusal m.host.state node) (Interview node) (Queues_interview node) events
IsEffect (Lose count) m events = IsOne (Loses count) events
IsEffect (LoseAck count) m events = IsOne (Loses_acks count) events
IsEffect (Repeat frame) m events = Outside (IsRepeat frame) events
IsEffect (Wake node) m events = Outside (IsWake node) events
IsEffect (Cancel command) m events = IsDone (Cancel command) (Host_does (Cancels command) ∷ []) events
IsEffect (Link first second) m events = IsOne (Links first second true) events
IsEffect (Unlink first second) m events = IsOne (Links first second false) events
IsEffect Discover m events = IsDiscovery m events
IsEffect (Neighbours node) m events = Asks (places_refusal m.host.state 1) (Neighbours node) (Queues (task.Neighbours node)) events
IsEffect (Failed node) m events = Asks (places_refusal m.host.state 1) (Failed node) (Queues (task.IsFailed node)) events
IsEffect Probe m events = Asks (places_refusal m.host.state 3) Probe Queues_probe events
IsEffect (Local node value) m events = Outside (IsSet node value) events
IsEffect (Show node) m events = IsOne (Shows node) events
IsEffect (Store node) m events = events ≡ Shows_values node ∷ []
IsEffect Restart m events = IsRestart events

-- a line begins outside any tick
abbrev pub IsLineBegin : Schedule
IsLineBegin = These (Outside_does Begins_line ∷ [])

-- what follows: so many ticks, or the line's effect and a settling
abbrev pub IsLineRest : Line → Schedule
IsLineRest (Tick count) = Ticks count
IsLineRest line = Then (IsEffect line) Settles

-- the whole line
abbrev pub IsLine : Line → Schedule
IsLine line = Then IsLineBegin (IsLineRest line)
