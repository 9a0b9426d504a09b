-- All devices have lived as many ticks as the transcript says of one that hears now.
use Rattle.proof_devices.proofs.Listening.{arriving_listens, repeating_listens}
use Rattle.proof_devices.proofs.devices.devices_listen_as_shown.Goals as goal

pub returns-clause-arriving : goal.returns-clause-arriving
returns-clause-arriving c = λ devices past m frames ticks node apart known. arriving_listens devices past m node apart known.0 known.1

pub returns-clause-repeating : goal.returns-clause-repeating
returns-clause-repeating c = λ devices past m frame left node apart time acts. repeating_listens devices past m frame left node apart time acts
