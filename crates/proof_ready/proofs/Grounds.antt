-- What is known of the air between lines, of one walk over another.
use Rattle.std.proofs.Common.{List}
use Rattle.zw_text.specs.declared.entry.Entry.{Entry}
use Rattle.law_wire.specs.Arriving.{MayLand}
use Rattle.law_wire.specs.Routes.{MayGo}
use Rattle.proof_chip.specs.proof_line.world_model.State.{Machine}
use Rattle.proof_rests.specs.proof_attempts.proof_host.device_sim.State.{State}
use Rattle.proof_chip.specs.proof_line.proof_walk.Phases.{Phase}
use Rattle.proof_chip.specs.proof_line.proof_walk.Time.{KnowTime, MayCount}
use Rattle.proof_chip.specs.proof_line.proof_walk.Walk.{Walk, WalkOver, both_know}
use Rattle.proof_chip.proofs.Over.{beside, over}
use Rattle.proof_devices.specs.Acks.{KnowAcks}
use Rattle.proof_devices.specs.Answering as lives
use Rattle.proof_devices.specs.Living.{KnowDevices, MayAny}
use Rattle.proof_devices.specs.Meeting.{Ground}
use Rattle.proof_devices.specs.proof_air.Hearing.{KnowAir, MayHear}
use Rattle.proof_devices.specs.proof_air.Landing.{KnowLanding}
use Rattle.proof_devices.specs.proof_routes.Forgetting.{KnowPassages, MayForget}
use Rattle.proof_devices.specs.proof_routes.Knowing.{KnowNetworks}

-- the history of the air, and time
abbrev pub KnowBase : Phase → List Entry → Machine → Type 0
KnowBase = both_know KnowAir KnowTime

-- and the frames that have had their fate
abbrev pub KnowLanded : Phase → List Entry → Machine → Type 0
KnowLanded = both_know KnowBase KnowLanding

-- the networks, and the ways of frames
abbrev pub KnowWays : List State → Phase → List Entry → Machine → Type 0
KnowWays devices = both_know (KnowNetworks devices) KnowPassages

-- all of that but what landed, with the lives of devices and the marks that lose acknowledgements
abbrev pub KnowAcked : List State → Phase → List Entry → Machine → Type 0
KnowAcked devices = both_know (Ground devices) KnowAcks

module _ (history : Walk MayHear KnowAir) (time : Walk MayCount KnowTime) where
  base_walk : Walk MayCount KnowBase
  base_walk = over MayHear MayCount KnowAir KnowTime history (beside MayCount KnowAir KnowTime time)

  pub landed_walk : WalkOver KnowBase MayLand KnowLanding → Walk MayLand KnowLanded
  landed_walk landing = over MayCount MayLand KnowBase KnowLanding base_walk landing

module _ (devices : List State) (networks : Walk (MayGo devices) (KnowNetworks devices)) (frames : WalkOver (KnowNetworks devices) MayForget KnowPassages) where
  pub ways_walk : Walk MayForget (KnowWays devices)
  ways_walk = over (MayGo devices) MayForget (KnowNetworks devices) KnowPassages networks frames

module _ (devices : List State) (history : Walk MayHear KnowAir) (time : Walk MayCount KnowTime) (networks : Walk (MayGo devices) (KnowNetworks devices)) (frames : WalkOver (KnowNetworks devices) MayForget KnowPassages)
    (live : WalkOver KnowBase MayAny (KnowDevices devices)) (acks : WalkOver (Ground devices) MayAny KnowAcks) where
  lives_walk : Walk MayAny (lives.Ground devices)
  lives_walk = over MayCount MayAny KnowBase (KnowDevices devices) (base_walk history time) live

  ground_walk : Walk MayForget (Ground devices)
  ground_walk = over MayAny MayForget (lives.Ground devices) (KnowWays devices) lives_walk (beside MayForget (lives.Ground devices) (KnowWays devices) (ways_walk devices networks frames))

  pub acked_walk : Walk MayAny (KnowAcked devices)
  acked_walk = over MayForget MayAny (Ground devices) KnowAcks ground_walk acks
