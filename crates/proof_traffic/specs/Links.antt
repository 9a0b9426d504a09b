-- What the host does as a link of the serial line (Serial API: acknowledgement and retransmission), one event at a time.
use Rattle.std.specs.Prelude.{◌≡◌, false, List, [], ◌∷◌, ◌++◌}
use Rattle.serial_link.specs.State.{hear_outs}
use Rattle.serial_link.specs.Rules.{Step, SideObeys, heard}
use Rattle.serial_link.specs.Calls.{submit_step, tick_step}
use Rattle.host_requests.specs.declared.task.Purpose.{Purpose}
use Rattle.host_requests.specs.declared.task.Purpose.TheVariants.{Attempt, Abort}
use Rattle.host_requests.specs.Frames.{frame_of}
use Rattle.host_requests.specs.State.{next_id}
use Rattle.proof_serial.specs.host_model.State.{HostState}
use Rattle.proof_serial.specs.host_model.Events.{HostEvent, Hears, Line_ticks, Submits_abort, Submits_front, Starts, Gives_text, Gives_segment}
use Rattle.proof_serial.specs.host_model.After.{after, task_purpose}
use Rattle.proof_device.specs.world_model.State.{Machine}
use Rattle.proof_device.specs.world_model.Events.{Event, Host_does, Host_takes, Restarts, happens}

-- the frame of a purpose is submitted
abbrev pub submitted_for : HostState → Purpose → List Step
submitted_for h purpose = submit_step (frame_of purpose (next_id h.requests.last_id)) ∷ []

-- the steps of the host's link at an event: none where the event is not one of the line
abbrev pub host_link_steps : HostState → HostEvent → List Step
host_link_steps h (Hears item) = record { event = heard item; outs = hear_outs h.side item } ∷ []
host_link_steps h Line_ticks = tick_step h.side ∷ []
host_link_steps h Submits_abort = submitted_for h Abort
host_link_steps h Submits_front = submitted_for h (task_purpose h.requests.queue)
host_link_steps h (Starts n plan more payload) = submitted_for h (Attempt n more payload)
host_link_steps h (Gives_text n payload) = submitted_for h (Attempt n false payload)
host_link_steps h (Gives_segment n more payload) = submitted_for h (Attempt n more payload)
host_link_steps h event = []

-- one event after another
abbrev pub host_link_steps_all : HostState → List HostEvent → List Step
host_link_steps_all h [] = []
host_link_steps_all h (event ∷ events) = host_link_steps h event ++ host_link_steps_all (after h event) events

-- the steps since the host last started, after these and an event of the machine
abbrev pub with_steps : List Step → Machine → Event → List Step
with_steps past m (Host_does event) = past ++ host_link_steps_all m.host.state (event ∷ [])
with_steps past m (Host_takes count rest items events) = past ++ host_link_steps_all m.host.state events
with_steps past m (Restarts state) = []
with_steps past m event = past

abbrev pub steps_since_start : List Step → Machine → List Event → List Step
steps_since_start past m [] = past
steps_since_start past m (event ∷ events) = steps_since_start (with_steps past m event) (happens m event) events

-- with these steps since it started, the host's link obeyed the rules of the line; and no collision is asked of it
pub record KeepsItsLink (steps : List Step) (h : HostState) : Type 0 where
  pub obeys : SideObeys steps h.side
  pub asked_none : h.side.collisions ≡ 0
