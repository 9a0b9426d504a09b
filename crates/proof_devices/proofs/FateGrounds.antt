-- What is known of the history of the air, of time and of the devices, as one walk, and what is known beside it.
use Rattle.std.proofs.Common.{List}
use Rattle.device_sim.specs.State.{State}
use Rattle.proof_air.specs.proof_walk.Time.{MayCount, KnowTime}
use Rattle.proof_air.specs.proof_walk.Walk.{Walk, WalkOver, both_know}
use Rattle.proof_air.proofs.Over.{over, beside}
use Rattle.proof_air.specs.Hearing.{MayHear, KnowAir}
use Rattle.proof_devices.specs.Living.{MayAny, KnowDevices}
use Rattle.law_wire.specs.Routes.{MayGo}
use Rattle.proof_routes.specs.Forgetting.{MayForget, KnowPassages}
use Rattle.proof_routes.specs.Knowing.{KnowNetworks}
use Rattle.proof_devices.specs.Answering.{MayAnswer, KnowAnswers, Ground, Listens}
use Rattle.proof_devices.specs.Meeting as meeting
use Rattle.proof_devices.proofs.Repeating.{answers_walk}

pub ground_walk : (devices : List State) → Walk MayHear KnowAir → Walk MayCount KnowTime → WalkOver (both_know KnowAir KnowTime) MayAny (KnowDevices devices) → Walk MayAny (Ground devices)
ground_walk devices air time lives =
    over MayCount MayAny (both_know KnowAir KnowTime) (KnowDevices devices) (over MayHear MayCount KnowAir KnowTime air (beside MayCount KnowAir KnowTime time)) lives

-- and what stands directly after a line that repeats a frame
pub answering_walk : (devices : List State) → Walk MayAny (Ground devices) → Listens devices → Walk (MayAnswer devices) (both_know (Ground devices) (KnowAnswers devices))
answering_walk devices ground listens = over MayAny (MayAnswer devices) (Ground devices) (KnowAnswers devices) ground (answers_walk devices listens)

-- with the networks and the frames on the air
pub frames_walk : (devices : List State) → Walk MayAny (Ground devices) → Walk (MayGo devices) (KnowNetworks devices) → WalkOver (KnowNetworks devices) MayForget KnowPassages → Walk MayForget (meeting.Ground devices)
frames_walk devices ground networks frames =
    over MayAny MayForget (Ground devices) (both_know (KnowNetworks devices) KnowPassages) ground
    (beside MayForget (Ground devices) (both_know (KnowNetworks devices) KnowPassages) (over (MayGo devices) MayForget (KnowNetworks devices) KnowPassages networks frames))
