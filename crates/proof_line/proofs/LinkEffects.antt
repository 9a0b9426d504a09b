-- Which events a line has that neither restarts nor stalls bytes nor asks for a collision: it is refused by the first that enters something, or not at all.
use Rattle.std.proofs.Common.{◌≡◌, ◌⊎◌, inl, inr, List, [], ◌∷◌, length, map, refl, sym, ap, ◌∙◌, subst}
use Rattle.std.specs.Prelude.{Option, Some, None}
use Rattle.std.specs.List.{AllByRecursion}
use Rattle.zw_text.specs.declared.line.Line.{Line}
use Rattle.zw_text.specs.declared.line.Line.TheVariants as lines
use Rattle.host_orders.specs.declared.refused.Refused.{Refused}
use Rattle.host_orders.specs.Refusals.{classes_of}
use Rattle.host_orders.specs.Errands.{send_refusal, send_text, get_refusal, get_text}
use Rattle.host_requests.specs.declared.task.Task.TheVariants as task
use Rattle.proof_world.specs.host_model.State.{node_of}
use Rattle.proof_world.specs.host_model.Events.{HostEvent, Accepts, Cancels, Joins as joins_host, Queues, Queues_interview, Queues_probe}
use Rattle.proof_world.specs.host_model.May.{known_of}
use Rattle.proof_world.specs.host_model.Asking.{carriage_for, places_refusal, interview_refusal}
use Rattle.proof_walk.specs.outside_model.Events.{OuterEvent, Discovers, Joins, Repeats, Sets_device, Wakes_device}
use Rattle.proof_walk.specs.world_model.State.{Machine}
use Rattle.proof_walk.specs.world_model.Events.{Event, Outside_does, Host_does}
use Rattle.proof_walk.specs.world_model.Lines.{IsRefusal, IsDone, Asks, IsEffect}
use Rattle.proof_walk.specs.ByLine.{IsAsked}
use Rattle.proof_line.specs.Linked.{ArePlain, IsLater, IsPlain}
use Rattle.proof_line.proofs.LinkBegins.{IsOrdinary}

-- the first of them, or a table of links is made before it
pub plain_first : (first : Event) (left : List Event) → ArePlain (first ∷ left) → ((first ≡ Outside_does Discovers) × ArePlain left) ⊎ (IsPlain first × AllByRecursion IsLater left)
plain_first (Outside_does Discovers) left plain = inl (refl, plain)
plain_first first left plain = inr plain

these : (events are : List Event) → events ≡ are → ArePlain are → ArePlain events
these events are is plain = subst ArePlain (sym is) plain

refusal_plain : (line : Line) (events : List Event) → IsRefusal line events → ArePlain events
refusal_plain line events (refusal, are) = these events _ are (tt, tt)

done_plain : (line : Line) (are events : List Event) → ArePlain are → IsDone line are events → ArePlain events
done_plain line are events plain (inl is) = these events are is plain
done_plain line are events plain (inr refused) = refusal_plain line events refused

asks_plain : (refused : Option Refused) (line : Line) (event : HostEvent) (events : List Event) → IsAsked event → Asks refused line event events → ArePlain events
asks_plain None line event events asked is = these events _ is (asked, tt)
asks_plain (Some refused) line event events asked (refusal, shown, is) = these events _ is (tt, tt)

one_plain : (event : OuterEvent) (inner : List OuterEvent) (events : List Event) → ArePlain (Outside_does event ∷ []) → inner ≡ event ∷ [] → events ≡ map Outside_does inner → ArePlain events
one_plain event inner events plain one are = these events (Outside_does event ∷ []) (are ∙ ap (λ (l : List OuterEvent). map Outside_does l) one) plain

pub effect_plain : (line : Line) (m : Machine) (events : List Event) → IsOrdinary line → IsEffect line m events → ArePlain events
effect_plain (lines.Command order) m events plain is = done_plain (lines.Command order) (Host_does (Accepts order (carriage_for m.host.state order)) ∷ []) events (tt, tt) is
effect_plain (lines.Cut size) m events plain is = these events _ is (tt, tt)
effect_plain (lines.Drop by) m events plain is = these events _ is (tt, tt)
effect_plain (lines.Garble by place xor) m events plain is = these events _ is (tt, tt)
effect_plain (lines.Send node word) m events plain is =
    asks_plain (send_refusal (known_of (node_of m.host.state node)) (length m.host.state.requests.queue) word) (lines.Send node word)
    (Queues (task.Plain node (send_text (classes_of (known_of (node_of m.host.state node))) word))) events tt is
effect_plain (lines.Get node end) m events plain is =
    asks_plain (get_refusal (known_of (node_of m.host.state node)) (length m.host.state.requests.queue) end) (lines.Get node end)
    (Queues (task.Plain node (get_text (classes_of (known_of (node_of m.host.state node))) end))) events tt is
effect_plain (lines.Join node) m events plain is = done_plain (lines.Join node) (Host_does (joins_host node) ∷ Outside_does (Joins node) ∷ []) events (tt, (tt, tt)) is
effect_plain (lines.Interview node) m events plain is = asks_plain (interview_refusal m.host.state node) (lines.Interview node) (Queues_interview node) events tt is
effect_plain (lines.Lose count) m events plain is = these events _ is (tt, tt)
effect_plain (lines.LoseAck count) m events plain is = these events _ is (tt, tt)
effect_plain (lines.Repeat frame) m events plain (inner, (drawn, route, one), are) = one_plain (Repeats frame drawn route) inner events (tt, tt) one are
effect_plain (lines.Wake node) m events plain (inner, (route, one), are) = one_plain (Wakes_device node route) inner events (tt, tt) one are
effect_plain (lines.Cancel command) m events plain is = done_plain (lines.Cancel command) (Host_does (Cancels command) ∷ []) events (tt, tt) is
effect_plain (lines.Link first second) m events plain is = these events _ is (tt, tt)
effect_plain (lines.Unlink first second) m events plain is = these events _ is (tt, tt)
effect_plain lines.Discover m events plain (asked, asks, are) =
    these events (Outside_does Discovers ∷ asked) are (asks_plain (places_refusal m.host.state 1) lines.Discover (Queues task.Members) asked tt asks)
effect_plain (lines.Neighbours node) m events plain is = asks_plain (places_refusal m.host.state 1) (lines.Neighbours node) (Queues (task.Neighbours node)) events tt is
effect_plain (lines.Failed node) m events plain is = asks_plain (places_refusal m.host.state 1) (lines.Failed node) (Queues (task.IsFailed node)) events tt is
effect_plain lines.Probe m events plain is = asks_plain (places_refusal m.host.state 3) lines.Probe Queues_probe events tt is
effect_plain (lines.Local node value) m events plain (inner, (route, one), are) = one_plain (Sets_device node value route) inner events (tt, tt) one are
effect_plain (lines.Show node) m events plain is = these events _ is (tt, tt)
effect_plain (lines.Store node) m events plain is = these events _ is (tt, tt)
effect_plain line m events plain is = absurd plain
