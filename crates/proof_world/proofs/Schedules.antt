-- In a line the host is asked what is in range, and nothing else.
use Rattle.std.proofs.Common.{◌≡◌, ℕ, Bool, true, false, if◌then◌else◌, List, [], ◌∷◌, ◌++◌, refl, sym, subst}
use Rattle.std.specs.Prelude.{Option, Some, None}
use Rattle.zw_text.specs.declared.line.Line.{Line}
use Rattle.zw_text.specs.declared.line.Line.TheVariants.{Command, Send, Get, Join, Interview, Cancel, Discover, Neighbours, Failed, Probe}
use Rattle.host_orders.specs.declared.refused.Refused.{Refused}
use Rattle.host_orders.specs.declared.refused.Refused.TheVariants.{NotJoined}
use Rattle.host_orders.specs.Refusals.{classes_of}
use Rattle.proof_host.specs.host_model.State.{HostState, node_of}
use Rattle.proof_host.specs.host_model.May.{known_of}
use Rattle.proof_host.specs.host_model.Asking.{places_refusal, interview_refusal}
use Rattle.proof_host.specs.host_model.Events.{HostEvent, Queues, Queues_interview, Requests_do, Interviews, Finishes, Gives, Spends, Spends_unread, Takes_nonce, IsOwn}
use Rattle.proof_device.specs.world_model.State.{Machine}
use Rattle.proof_device.specs.world_model.Events.{Event, Host_does}
use Rattle.proof_device.specs.world_model.Did.{happens_all}
use Rattle.proof_device.specs.world_model.Lines.{IsEffect}
use Rattle.proof_device.specs.world_model.Prefixes.{LinePart, IsLineBefore}
use Rattle.proof_device.proofs.Pieces.{Of, Law, Pieces, of_none, of_then, of_line_part, of_line_before}
use Rattle.proof_device.proofs.Along.{IsAskedBy, IsOfPart, IsOfEffect, along, pieces_along, effect_along}
use Rattle.proof_serial.specs.Line.{AreLines}
use Rattle.proof_world.specs.Lines.{AsksNothing, IsAsked, AsksWell, AllAsked}
use Rattle.proof_world.proofs.Errands.{send_short, get_short}

-- ---- what the host does of itself

own_asked : (h : HostState) (event : HostEvent) → IsOwn event → IsAsked h event
own_asked h (Requests_do event moment) own = subst AsksNothing (sym own) tt
own_asked h (Queues task) own = absurd own
own_asked h (Queues_interview n) own = absurd own
own_asked h (Interviews n listens classes update) own = absurd own
own_asked h (Finishes n session id command status wake_request) own = absurd own
own_asked h (Gives n drawn) own = absurd own
own_asked h (Spends n) own = absurd own
own_asked h (Spends_unread n payload) own = absurd own
own_asked h (Takes_nonce n seen text) own = absurd own
own_asked h event own = tt

part_asked : (m : Machine) (event : Event) → IsOfPart m event → AsksWell m event
part_asked m (Host_does event) own = own_asked m.host.state event own
part_asked m event is = tt

-- ---- what lines ask

-- an interview that no rule refuses is of a node that is joined
interview_joined : (joined : Bool) (places : Option Refused) → (if joined then places else Some NotJoined) ≡ None → joined ≡ true
interview_joined true places none = refl
interview_joined false places none = absurd cc

interview_asked : (h : HostState) (n : ℕ) → interview_refusal h n ≡ None → IsAsked h (Queues_interview n)
interview_asked h n none = interview_joined (node_of h n).joined (places_refusal h 2) none

as_asked : (h : HostState) (event these : HostEvent) → event ≡ these → IsAsked h these → IsAsked h event
as_asked h event these is asked = subst (λ (e : HostEvent). IsAsked h e) (sym is) asked

host_asked : (line : Line) (m : Machine) (event : HostEvent) → IsAskedBy line m event → IsAsked m.host.state event
host_asked (Command order) m event is = as_asked m.host.state event _ is tt
host_asked (Send node word) m event asks = as_asked m.host.state event _ asks.is (send_short (classes_of (known_of (node_of m.host.state node))) word)
host_asked (Get node end) m event asks = as_asked m.host.state event _ asks.is (get_short (classes_of (known_of (node_of m.host.state node))) end)
host_asked (Join node) m event is = as_asked m.host.state event _ is tt
host_asked (Interview node) m event asks = as_asked m.host.state event _ asks.is (interview_asked m.host.state node asks.allowed)
host_asked (Cancel command) m event is = as_asked m.host.state event _ is tt
host_asked Discover m event is = as_asked m.host.state event _ is tt
host_asked (Neighbours node) m event is = as_asked m.host.state event _ is tt
host_asked (Failed node) m event is = as_asked m.host.state event _ is tt
host_asked Probe m event is = as_asked m.host.state event _ is tt
host_asked line m event is = absurd is

effect_asked : (line : Line) (m : Machine) (event : Event) → IsOfEffect line m event → AsksWell m event
effect_asked line m (Host_does event) is = host_asked line m event is
effect_asked line m event is = tt

-- ---- lines

law : Law AllAsked
law = along AsksWell

pub asked_both : (m : Machine) (a b : List Event) → AllAsked m a → AllAsked (happens_all m a) b → AllAsked m (a ++ b)
asked_both = law.both

pieces : Pieces AllAsked
pieces = pieces_along AsksWell part_asked

effect : (line : Line) → Of AllAsked (IsEffect line)
effect line = effect_along AsksWell line (effect_asked line)

pub line_asked : (line : Line) → Of AllAsked (LinePart line)
line_asked line = of_line_part AllAsked law pieces line (effect line)

pub lines_asked : (lines : List Line) → Of AllAsked (AreLines lines)
lines_asked [] m events is = of_none AllAsked law m events is
lines_asked (line ∷ lines) m events is =
    of_then AllAsked law (IsLineBefore lines line) (AreLines lines) (of_line_before AllAsked law pieces lines line (effect line)) (lines_asked lines) m events is
