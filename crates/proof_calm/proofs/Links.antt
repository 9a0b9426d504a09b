-- No event of a quiet line or of a tick changes which nodes are joined, or a link of the air.
use Rattle.std.proofs.Common.{◌≡◌, ℕ, ◌-◌, ◌==◌, nat_le, Bool, true, false, if◌then◌else◌, List, [], refl, ap, ◌∙◌}
use Rattle.std.specs.Prelude.{Option, Some, None, slice_set, option_map}
use Rattle.serial_frame.specs.Frame.{FrameParts}
use Rattle.serial_frame.specs.Stream.{after_tick}
use Rattle.route_table.specs.Network.{Network}
use Rattle.chip_functions.specs.declared.request.Request.{Request}
use Rattle.chip_functions.specs.declared.request.Request.TheVariants.{GetInitData, GetCapabilities, SendData, GetVersion, SendDataAbort, MemoryGetId, GetNodeProtocolInfo, AddNode, RequestNodeInfo, IsFailedNode, GetRoutingInfo}
use Rattle.chip_functions.specs.declared.notice.TransmitStatus.{TransmitStatus}
use Rattle.air_frames.specs.Frames.{peer_of}
use Rattle.device_sim.specs.State.{State}
use Rattle.device_sim.specs.Event.{device_after, device_replies}
use Rattle.chip_sim.specs.State.{ChipState}
use Rattle.chip_sim.specs.Answers.{takes}
use Rattle.chip_sim.specs.Requests.{passed, asked, given_if, reply_to, requested, performed, stopped, heard, judged_frame}
use Rattle.chip_sim.specs.Events.{ChipEvent, Judged, Ticked, Heard as chip_hears, Done, Informed, Joined, Linked, Forgets, Collides, after, outs, collides, ended}
use Rattle.chip_sim.specs.declared.out.Sending.{Sending}
use Rattle.chip_sim.specs.declared.out.ChipOut.{ChipOut}
use Rattle.chip_sim.specs.declared.out.ChipOut.TheVariants.{Write, OnAir, NoRoute, AskInfo, Full}
use Rattle.mesh_sim.specs.declared.event.AirEvent.{AirEvent}
use Rattle.mesh_sim.specs.declared.event.AirEvent.TheVariants as air_event
use Rattle.mesh_sim.specs.Air.{AirState, is_joined, beginning}
use Rattle.mesh_sim.specs.Routes.{backwards}
use Rattle.mesh_sim.specs.Steps.{mesh_after}
use Rattle.outside_model.specs.State.{OuterState, Outside, Outcome, with_chip}
use Rattle.outside_model.specs.Chip.{put_out, chip_does, chip_ticks}
use Rattle.outside_model.specs.Air.{deals}
use Rattle.outside_model.specs.Devices.{acts}
use Rattle.outside_model.specs.Results.{gives}
use Rattle.outside_model.specs.Events.{OuterEvent, Begins_line, Begins_tick, Host_writes, Host_takes, Host_notes, Host_begins, Chip_takes, Arrives, Gives, Device_ticks, Chip_ticks, Wakes_device, Shows, Cuts, outcome, mesh_of, begins}
use Rattle.world_model.specs.State.{Machine}
use Rattle.world_model.specs.Events.{Event, happens, May}
use Rattle.proof_work.proofs.Results.{IsSameChip, IsGiven, Gives as ResultsGo, ends_go, gives_go, to_chip_goes}
use Rattle.proof_work.specs.proof_walk.Outside.{Knowing, Comes, Outer, IsSimple, IsDone, CoversOuter, session_begins}
use Rattle.proof_work.proofs.proof_walk_Machines.{machine_keeps}
use Rattle.proof_work.proofs.Times.{each_keeps}
use Rattle.proof_work.specs.Phases.{AsksNothing}
use Rattle.proof_calm.specs.Marks.{IsQuietEvent}
use Rattle.proof_calm.specs.Networks.{Members, members, HasMembers}
use Rattle.proof_calm.proofs.Heard.{Keeps, replied_if, steps_keep}
use Rattle.proof_calm.proofs.Unmarked.{nothing_asked, hosts}

-- ---- the chip

abbrev nodes : ChipState → List Bool × List Bool
nodes s = (s.joined, s.listening)

given_nodes : (s : ChipState) (frame : Option FrameParts) → nodes (given_if s frame) ≡ nodes s
given_nodes s None = refl
given_nodes s (Some frame) = refl

stopped_nodes : (sending : Option Sending) (s : ChipState) → nodes (stopped sending s) ≡ nodes s
stopped_nodes None s = refl
stopped_nodes (Some sending) s = refl

performed_nodes : (request : Request) (s : ChipState) → nodes (performed request s) ≡ nodes s
performed_nodes GetInitData s = refl
performed_nodes GetCapabilities s = refl
performed_nodes (SendData n payload options id) s = by (takes s n payload)
  where
    by : (b : Bool) → nodes (if b then record s { sending = Some (record { node = n; callback_id = id }) } else s) ≡ nodes s
    by true = refl
    by false = refl
performed_nodes GetVersion s = refl
performed_nodes SendDataAbort s = stopped_nodes s.sending s
performed_nodes MemoryGetId s = refl
performed_nodes (GetNodeProtocolInfo n) s = refl
performed_nodes (AddNode mode id) s = refl
performed_nodes (RequestNodeInfo n) s = refl
performed_nodes (IsFailedNode n) s = refl
performed_nodes (GetRoutingInfo n x y z) s = refl

requested_nodes : (request : Option Request) (s : ChipState) → nodes (requested request s) ≡ nodes s
requested_nodes None s = refl
requested_nodes (Some request) s = performed_nodes request (given_if s (reply_to s request)) ∙ given_nodes s (reply_to s request)

judged_nodes : (frame : Option FrameParts) (s : ChipState) → nodes (judged_frame frame s) ≡ nodes s
judged_nodes None s = refl
judged_nodes (Some frame) s = requested_nodes (asked frame) s

ended_nodes : (sending : Option Sending) (s : ChipState) (status : TransmitStatus) → nodes (ended sending s status) ≡ nodes s
ended_nodes None s status = refl
ended_nodes (Some sending) s status = refl

done_nodes : (b : Bool) (s : ChipState) (status : TransmitStatus) → nodes (if b then ended s.sending s status else record s { aborted = s.aborted - 1 }) ≡ nodes s
done_nodes true s status = ended_nodes s.sending s status
done_nodes false s status = refl

event_nodes : (s : ChipState) (event : ChipEvent) → IsDone event → nodes (after s event) ≡ nodes s
event_nodes s (Judged item way) done = judged_nodes (passed (collides s) item) (heard s item)
event_nodes s Ticked done = refl
event_nodes s (chip_hears node payload) done = refl
event_nodes s (Done status) done = done_nodes (s.aborted == 0) s status
event_nodes s (Informed node profile) done = refl
event_nodes s (Joined node listening) done = absurd done
event_nodes s (Linked a b live) done = absurd done
event_nodes s (Forgets a b) done = refl
event_nodes s Collides done = absurd done

puts_members : (o : OuterState) (out : ChipOut) → members (put_out o out).outer ≡ members o
puts_members o (Write unit) = refl
puts_members o (OnAir to route payload) = refl
puts_members o NoRoute = refl
puts_members o (AskInfo node) = refl
puts_members o Full = refl

with_nodes : (o : OuterState) (s : ChipState) → nodes s ≡ nodes o.chip.state → members (with_chip o s) ≡ members o
with_nodes o s same = ap (λ (n : List Bool × List Bool). record { of_chip = n.0; listening = n.1; in_air = o.air.joined; network = o.air.network }) same

does_members : (o : OuterState) (event : ChipEvent) → IsDone event → members (chip_does o event).outer ≡ members o
unfolding chip_does
does_members o event done =
    each_keeps members put_out puts_members (with_chip o (after o.chip.state event)) (outs o.chip.state event) ∙ with_nodes o (after o.chip.state event) (event_nodes o.chip.state event done)

-- ---- what the chip is given

abbrev Leaves : OuterState → Outcome → Type 0
Leaves o x = members x.outer ≡ members o

same_members : (o p : OuterState) → IsSameChip o p → members p ≡ members o
same_members o p is =
    ap (λ (s : ChipState). record { of_chip = s.joined; listening = s.listening; in_air = p.air.joined; network = p.air.network }) is.chip
    ∙ ap (λ (a : AirState). record { of_chip = o.chip.state.joined; listening = o.chip.state.listening; in_air = a.joined; network = a.network }) is.air

given_done : (event : ChipEvent) → IsGiven event → IsDone event
given_done (chip_hears node payload) given = tt
given_done (Done status) given = tt
given_done (Informed node profile) given = tt
given_done event given = absurd given

results : ResultsGo Leaves
results = record {
  still = λ o p is. same_members o p is;
  both = λ o first next one later. later first.outer ∙ one;
  later = λ o p x is goes. goes ∙ same_members o p is;
  does = λ o event given. does_members o event (given_done event given);
  forgotten = λ o a b. with_nodes o (after o.chip.state (Forgets a b)) refl;
}

pub deals_members : (devices : List State) (o : OuterState) (event : AirEvent) → members (deals devices o event).outer ≡ members o
deals_members devices o (air_event.ToChip frame from payload) = to_chip_goes Leaves results o from payload
deals_members devices o (air_event.Done frame status dead) = ends_go Leaves results o status dead
deals_members devices o (air_event.Heard frame) = refl
deals_members devices o (air_event.Lost frame) = refl
deals_members devices o (air_event.Unheard frame) = refl
deals_members devices o (air_event.Sent frame from to route payload) = refl
deals_members devices o (air_event.Changed node at) = refl

-- ---- the air

abbrev links : AirState → List Bool × Network
links air = (air.joined, air.network)

-- they are these, and stay so
abbrev AreLinks : List Bool × Network → AirState → Type 0
AreLinks these air = links air ≡ these

keeps : (these : List Bool × Network) → Keeps (AreLinks these) (λ node. Unit {0})
keeps these = record {
  departs = λ air node way reply may same. same;
  joined = λ air node is same. tt;
  lands = λ air same. same;
  acknowledges = λ air same. same;
}

with_links : (o : OuterState) (air : AirState) → links air ≡ links o.air → members (record o { air = air }) ≡ members o
with_links o air same = ap (λ (l : List Bool × Network). record { of_chip = o.chip.state.joined; listening = o.chip.state.listening; in_air = l.0; network = l.1 }) same

begins_members : (o : OuterState) (node sessions : ℕ) → members (record o { air = begins o.air node sessions }) ≡ members o
begins_members o node sessions = by (nat_le (peer_of o.air.frames node).begun sessions)
  where
    by : (b : Bool) → members (record o { air = if b then beginning o.air node sessions else o.air }) ≡ members o
    by true = refl
    by false = refl

-- ---- all of it

module _ (these : Members) where
  abbrev Same : Knowing
  Same awaits past w = members w.outer ≡ these

  comes : (w : Outside) (x : Outcome) (devices : List State) → Leaves w.outer x → Comes AsksNothing Same w x devices Same
  comes w x devices leaves awaits past told same = (nothing_asked past x.entries, leaves ∙ same)

  simple_members : (w : Outside) (event : OuterEvent) → IsSimple event → IsQuietEvent event → Leaves w.outer (outcome w event)
  unfolding outcome
  simple_members w (Host_writes unit) simple quiet = refl
  simple_members w (Host_takes count) simple quiet = refl
  simple_members w (Host_notes entry) simple quiet = refl
  simple_members w (Shows node) simple quiet = refl
  simple_members w (Cuts size) simple quiet = refl
  simple_members w Begins_line simple quiet = absurd simple
  simple_members w Begins_tick simple quiet = absurd simple
  simple_members w (Host_begins node sessions) simple quiet = absurd simple
  simple_members w (Chip_takes count rest ways) simple quiet = absurd simple
  simple_members w (Arrives drawn route) simple quiet = absurd simple
  simple_members w (Gives route) simple quiet = absurd simple
  simple_members w (Device_ticks place drawn route) simple quiet = absurd simple
  simple_members w Chip_ticks simple quiet = absurd simple
  simple_members w (Wakes_device node route) simple quiet = absurd simple
  simple_members w event simple quiet = absurd quiet

  law : Outer AsksNothing (λ pending. Same) IsQuietEvent
  law = record {
    line = λ covers awaits past w same. same;
    tick = λ covers awaits past w same. (tt, same);
    number = λ past w same. same;
    stamps = λ awaits stamped past w same. same;
    simple = λ w event simple covers. comes w (outcome w event) w.devices (simple_members w event simple covers);
    session = λ w node session command. comes w (session_begins w.outer node session command) w.devices (begins_members w.outer node session);
    takes = λ w count rest ways may awaits past told same. (tt, same);
    judges = λ w way ways may. comes w (chip_does w.outer (Judged way.0 way.1)) w.devices (does_members w.outer (Judged way.0 way.1) tt);
    judged = λ awaits past w same. same;
    ticks = λ w. comes w (chip_ticks w.outer) w.devices (does_members (record w.outer { chip = record { decoder = after_tick w.outer.chip.decoder; state = w.outer.chip.state } }) Ticked tt);
    gives = λ w route may. comes w (gives w.outer w.devices w.outer.due route) w.devices (gives_go Leaves results w.outer w.devices w.outer.due route);
    steps = λ w step hearing may awaits past told same. (tt, with_links w.outer (mesh_after (mesh_of w) step).air (steps_keep (AreLinks (links w.outer.air)) (λ node. Unit {0}) (keeps (links w.outer.air)) (mesh_of w) step hearing refl) ∙ same);
    deals = λ w event events. comes w (deals w.devices w.outer event) w.devices (deals_members w.devices w.outer event);
    acts = λ w place device event route found may. comes w (acts w.outer device event route) (slice_set w.devices place (device_after device event))
        (with_links w.outer (acts w.outer device event route).outer.air (replied_if (AreLinks (links w.outer.air)) (λ node. Unit {0}) (keeps (links w.outer.air)) (is_joined w.outer.air device.node) w.outer.air device.node (option_map backwards route)
        (device_replies device event) refl refl));
  }

  pub event_members : (m : Machine) (event : Event) → CoversOuter IsQuietEvent event → May m event → HasMembers these m → HasMembers these (happens m event)
  event_members m event covers may same = (machine_keeps AsksNothing (λ pending. Same) IsQuietEvent law hosts m event covers may [] (same, nothing_asked [] _)).1.0
