-- What the walks know of the devices after whole lines: what came to each, its changes and its frames.
use Rattle.std.proofs.Common.{[], refl, arith}
use Rattle.std.specs.Prelude.{Some}
use Rattle.world_lines.specs.Spoken.{after_all, transcript_of}
use Rattle.world_model.specs.State.{Machine, first_machine}
use Rattle.proof_air.proofs.Lines.{lines_lead}
use Rattle.proof_devices.specs.Living.{Answers, MayAny}
use Rattle.proof_devices.proofs.Changes.{changes_first}
use Rattle.proof_devices.proofs.Replies.{answers_first, answers_keep}
use Rattle.proof_devices.proofs.Together.{KnowTogether, together}
use Rattle.proof_devices.proofs.Walking.{devices_first}
use Rattle.proof_devices.proofs.Whole.{whole_ran}
use Rattle.proof_devices.proofs.devices.lines_run_as_shown.Goals as goal

pub returns : goal.returns
returns c = λ keys texts devices lines are whole apart.
    let m : Machine = first_machine keys (Some texts) devices in
    let got = lines_lead MayAny (KnowTogether Answers devices)
    (together Answers devices apart (answers_keep devices apart) c.history_goes_on.ensures.walk c.time_goes_on.ensures.walk (c.networks_go_on.ensures.walk devices) c.changes_are_shown.ensures.each) [] m lines are whole (
      (
        ((c.history_goes_on.ensures.first keys (Some texts) devices, c.time_goes_on.ensures.first keys (Some texts) devices), c.networks_go_on.ensures.first keys texts devices),
        devices_first Answers m refl (λ old other. answers_first old),
      ),
      changes_first m,
    ) in
    let known = got.1 in
    let clock = known.0.0.0.1.0.0.clock in
    λ node old new other before after. whole_ran devices (transcript_of m lines) (after_all m lines) (omega (arith, clock)) known.0.1 known.1.1 node old new other before after
