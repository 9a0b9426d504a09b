-- The walk over networks and frames beside the history of the air, time and the devices; and by the transcript, where frames are numbered in order.
use Rattle.std.proofs.Common.{[], Some}
use Rattle.world_lines.specs.Spoken.{transcript_of}
use Rattle.world_model.specs.State.{Machine, first_machine}
use Rattle.proof_air.specs.proof_walk.Walk.{both_know}
use Rattle.proof_air.proofs.Lines.{lines_stand}
use Rattle.proof_air.proofs.Over.{over}
use Rattle.proof_routes.specs.Forgetting.{MayForget}
use Rattle.proof_devices.specs.Meeting.{MayMeetSo, Ground, KnowNothing}
use Rattle.proof_devices.proofs.FateGrounds.{ground_walk, frames_walk}
use Rattle.proof_devices.proofs.Meeting.{fates_walk}
use Rattle.proof_devices.proofs.Numbered.{all_meet}
use Rattle.proof_devices.proofs.fates.lines_meet_what_is_due.Goals as goal

pub returns : goal.returns
returns c = λ keys texts devices lines are numbered.
    let m : Machine = first_machine keys (Some texts) devices in
    all_meet devices [] (transcript_of m lines) numbered
    (lines_stand (MayMeetSo devices) (both_know (Ground devices) KnowNothing)
    (over MayForget (MayMeetSo devices) (Ground devices) KnowNothing
    (frames_walk devices (ground_walk devices c.history_goes_on.ensures.walk c.time_goes_on.ensures.walk (c.devices_live_on.ensures.walk devices))
    (c.networks_go_on.ensures.walk devices) (c.frames_go_on.ensures.walk devices))
    (fates_walk devices (λ past m frame left node apart time acts. c.devices_listen_as_shown.ensures.repeating devices past m frame left node apart time acts)
    (λ past m frames ticks node apart known. c.devices_listen_as_shown.ensures.arriving devices past m frames ticks node apart known))) [] m lines are (
      (
        ((c.history_goes_on.ensures.first keys (Some texts) devices, c.time_goes_on.ensures.first keys (Some texts) devices), c.devices_live_on.ensures.first keys (Some texts) devices),
        (c.networks_go_on.ensures.first keys texts devices, c.frames_go_on.ensures.first keys texts devices),
      ),
      tt,
    ))
