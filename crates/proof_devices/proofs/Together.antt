-- What is known of the air, of time, of networks, of what devices live and of what they change, at each phase of a line.
use Rattle.std.proofs.Common.{List}
use Rattle.device_sim.specs.State.{State}
use Rattle.zw_text.specs.declared.entry.Entry.{Entry}
use Rattle.world_model.specs.State.{Machine}
use Rattle.world_model.specs.Events.{Event, happens, entries, May}
use Rattle.law_wire.specs.Routes.{MayGo}
use Rattle.proof_air.specs.proof_device.Showing.{AllShow, AreApart}
use Rattle.proof_air.specs.proof_walk.Phases.{Phase}
use Rattle.proof_air.specs.proof_walk.Time.{MayCount, KnowTime}
use Rattle.proof_air.specs.proof_walk.Walk.{Walk, both_know}
use Rattle.proof_air.proofs.Over.{over, beside}
use Rattle.proof_air.specs.Hearing.{MayHear, KnowAir}
use Rattle.proof_routes.specs.Knowing.{KnowNetworks}
use Rattle.proof_devices.specs.Living.{Keeping, MayAny, KnowLives}
use Rattle.proof_devices.proofs.Changes.{KnowChanges, changes_walk}
use Rattle.proof_devices.proofs.Grounds.{networks_ground}
use Rattle.proof_devices.proofs.Keeping.{Keeps}
use Rattle.proof_devices.proofs.Replies.{JoinsAs}
use Rattle.proof_devices.proofs.Walking.{devices_walk}

-- with the joined nodes known, and the changes shown
abbrev pub KnowTogether : Keeping → List State → Phase → List Entry → Machine → Type 0
KnowTogether Also olds = both_know (both_know (both_know (both_know KnowAir KnowTime) (KnowNetworks olds)) (KnowLives Also olds)) (KnowChanges olds)

pub together : (Also : Keeping) (olds : List State) → AreApart olds → Keeps olds Also JoinsAs → Walk MayHear KnowAir → Walk MayCount KnowTime → Walk (MayGo olds) (KnowNetworks olds)
    → ((m : Machine) (event : Event) → May m event → AreApart m.outside.devices → AllShow (entries m event) m.outside.devices (happens m event).outside.devices)
    → Walk MayAny (KnowTogether Also olds)
together Also olds apart keeps air time networks shows =
    let timed : Walk MayCount (both_know KnowAir KnowTime) = over MayHear MayCount KnowAir KnowTime air (beside MayCount KnowAir KnowTime time) in
    let ground : Walk (MayGo olds) (both_know (both_know KnowAir KnowTime) (KnowNetworks olds))
    = over MayCount (MayGo olds) (both_know KnowAir KnowTime) (KnowNetworks olds) timed (beside (MayGo olds) (both_know KnowAir KnowTime) (KnowNetworks olds) networks) in
    let lives : Walk MayAny (both_know (both_know (both_know KnowAir KnowTime) (KnowNetworks olds)) (KnowLives Also olds))
    = over (MayGo olds) MayAny (both_know (both_know KnowAir KnowTime) (KnowNetworks olds)) (KnowLives Also olds) ground
    (devices_walk olds Also JoinsAs keeps (KnowNetworks olds) (networks_ground Also olds)) in
    over MayAny MayAny (both_know (both_know (both_know KnowAir KnowTime) (KnowNetworks olds)) (KnowLives Also olds)) (KnowChanges olds) lives
    (beside MayAny (both_know (both_know (both_know KnowAir KnowTime) (KnowNetworks olds)) (KnowLives Also olds)) (KnowChanges olds) (changes_walk olds apart shows))
