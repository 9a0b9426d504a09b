-- What is known of the devices before each entry.
use Rattle.std.proofs.Common.{[], refl}
use Rattle.std.specs.Prelude.{Some}
use Rattle.world_lines.specs.Spoken.{transcript_of}
use Rattle.world_model.specs.State.{Machine, first_machine}
use Rattle.proof_air.specs.proof_walk.Walk.{both_know}
use Rattle.proof_air.proofs.Lines.{lines_stand}
use Rattle.proof_air.proofs.Over.{over}
use Rattle.proof_devices.specs.Living.{Answers, MayAny}
use Rattle.proof_devices.proofs.Changes.{changes_first}
use Rattle.proof_devices.proofs.Replies.{answers_first, answers_keep}
use Rattle.proof_devices.proofs.Standing.{AsksAll, KnowClock, each_one, standing_walk}
use Rattle.proof_devices.proofs.Together.{KnowTogether, together}
use Rattle.proof_devices.proofs.Walking.{devices_first}
use Rattle.proof_devices.proofs.devices.devices_do_at_once.Goals as goal

pub returns : goal.returns
returns c = λ keys texts devices lines are apart others node old other found.
    let m : Machine = first_machine keys (Some texts) devices in
    let keeps = answers_keep devices apart in
    let walk = together Answers devices apart keeps c.history_goes_on.ensures.walk c.time_goes_on.ensures.walk (c.networks_go_on.ensures.walk devices) c.changes_are_shown.ensures.each in
    each_one devices others keeps node old other found [] (transcript_of m lines)
    (lines_stand (AsksAll devices others keeps) (both_know (KnowTogether Answers devices) (KnowClock devices others keeps))
    (over MayAny (AsksAll devices others keeps) (KnowTogether Answers devices) (KnowClock devices others keeps) walk (standing_walk devices others keeps walk)) [] m lines are (
      (
        (
          ((c.history_goes_on.ensures.first keys (Some texts) devices, c.time_goes_on.ensures.first keys (Some texts) devices), c.networks_go_on.ensures.first keys texts devices),
          devices_first Answers m refl (λ old other. answers_first old),
        ),
        changes_first m,
      ),
      tt,
    ))
