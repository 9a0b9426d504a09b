-- A command that was taken stays in the table as it was taken.
use Rattle.std.proofs.Common.{List, [], ◌∷◌, ◌∙◌}
use Rattle.proof_world.specs.host_model.State.{Command, HostState}
use Rattle.proof_world.specs.host_model.Events.{HostEvent, Accepts}
use Rattle.proof_world.specs.host_model.After.{after}
use Rattle.proof_world.specs.host_model.Did.{after_all}
use Rattle.proof_once.specs.world_model.State.{Machine}
use Rattle.proof_once.specs.world_model.Events.{Event, Outside_does, Host_does, Host_takes, Decoder_ticks, Refuses, Shows_values, Restarts, happens}
use Rattle.proof_world.specs.Restarts.{StartsWell}
use Rattle.proof_once.specs.Tied.{KeepsOrders}
use Rattle.proof_spoken.proofs.Orders.{SameOrders, event_kept, push_stays}

same_keeps : (old new : List Command) → SameOrders old new → KeepsOrders old new
same_keeps old new same number taken e = same.taken number ∙ e

pub event_keeps : (h : HostState) (event : HostEvent) → KeepsOrders h.commands (after h event).commands
event_keeps h (Accepts order carriage) = push_stays h.commands _
event_keeps h event = same_keeps h.commands (after h event).commands (event_kept h event tt)

events_keep : (h : HostState) (events : List HostEvent) → KeepsOrders h.commands (after_all h events).commands
events_keep h [] number taken e = e
events_keep h (event ∷ events) number taken e = events_keep (after h event) events number taken (event_keeps h event number taken e)

pub machine_keeps : (m : Machine) (event : Event) → StartsWell m event → KeepsOrders m.host.state.commands (happens m event).host.state.commands
unfolding happens
machine_keeps m (Outside_does event) well = λ number taken e. e
machine_keeps m (Host_does event) well = event_keeps m.host.state event
machine_keeps m (Host_takes count rest items events) well = events_keep m.host.state events
machine_keeps m Decoder_ticks well = λ number taken e. e
machine_keeps m (Refuses line refusal) well = λ number taken e. e
machine_keeps m (Shows_values node) well = λ number taken e. e
machine_keeps m (Restarts state) well = λ number taken e. well.taken number ∙ e
