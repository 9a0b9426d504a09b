-- At first no tick has begun and nothing has come to a device. Which nodes are joined is not asked for.
use Rattle.std.proofs.Common.{refl}
use Rattle.world_model.specs.State.{first_machine}
use Rattle.proof_devices.specs.Living.{Simply}
use Rattle.proof_devices.proofs.Replies.{JoinsAny, simply_keep}
use Rattle.proof_devices.proofs.Grounds.{Groundless, no_ground}
use Rattle.proof_devices.proofs.Walking.{devices_walk, devices_first}
use Rattle.proof_devices.proofs.devices.devices_live_on.Goals as goal

pub returns-clause-walk : goal.returns-clause-walk
returns-clause-walk c = λ devices.
    let walk = devices_walk devices Simply JoinsAny (simply_keep devices) Groundless (no_ground devices) in
    record {
      said = λ past m words line read ground known. walk.said past m words line read (ground, tt) known;
      event = λ here next past m event goes may ground known. walk.event here next past m event goes may (ground, tt) known;
      turn = λ here next past m turns ground known. walk.turn here next past m turns (ground, tt) known;
    }

pub returns-clause-first : goal.returns-clause-first
returns-clause-first c = λ keys records devices. devices_first Simply (first_machine keys records devices) refl (λ old apart. tt)

pub returns-clause-tie : goal.returns-clause-tie
returns-clause-tie c = λ devices past m known. known
