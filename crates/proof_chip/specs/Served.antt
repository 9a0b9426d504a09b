-- What is known beside the chip at each phase of a line, and what is so of the chip in a whole run (this project's own rule).
use Rattle.std.specs.Prelude.{Bool, List}
use Rattle.zw_words.specs.declared.side.Side.TheVariants.{Chip}
use Rattle.zw_text.specs.declared.entry.Entry.{Entry}
use Rattle.law_wire.specs.Answering.{DropsWhenFull, WaitsWhileBusy}
use Rattle.law_wire.specs.Asked.{course_of}
use Rattle.law_wire.specs.Links.{KeepsLink, joined}
use Rattle.law_wire.specs.Serial.{ended}
use Rattle.law_wire.specs.Taking.{AirsWhatIsTaken}
use Rattle.outside_model.specs.Devices.{State}
use Rattle.world_model.specs.State.{Machine}
use Rattle.proof_air.specs.proof_walk.Phases.{Phase}
use Rattle.proof_air.specs.proof_walk.Time.{KnowTime}
use Rattle.proof_air.specs.proof_walk.Walk.{both_know}
use Rattle.proof_air.specs.Hearing.{KnowAir as KnowHistory}
use Rattle.proof_air.specs.Landing.{KnowLanding}
use Rattle.proof_routes.specs.Knowing.{KnowNetworks}
use Rattle.proof_chip.specs.Bringing.{BringsInOrder}
use Rattle.proof_chip.specs.Calling.{KnowCalls}
use Rattle.proof_chip.specs.Knowing.{KnownNodes}

abbrev pub KnowMembers : Phase → List Entry → Machine → Type 0
KnowMembers here past m = KnownNodes past m

-- history of the air, time, frames that have landed, networks, joined nodes, and the results that the chip waits for
abbrev pub KnowBeside : List State → Phase → List Entry → Machine → Type 0
KnowBeside devices = both_know (both_know (both_know (both_know (both_know KnowHistory KnowTime) KnowLanding) (KnowNetworks devices)) KnowMembers) KnowCalls

-- ---- of a run

-- the chip's link keeps the rules, and by what that link did the controller puts on the air just what it takes, the chip brings the host what was heard in order, it drops a frame only
-- where 32 wait, and none waits where a line or tick begins unless the link is busy
pub record AirsByLink (whole : Bool) (devices : List State) (transcript : List Entry) : Type 0 where
  pub link : KeepsLink Chip (ended whole transcript)
  pub airs : AirsWhatIsTaken devices (course_of (joined link.parts)) (ended whole transcript)
  pub brings : BringsInOrder (course_of (joined link.parts)) transcript
  pub drops : DropsWhenFull devices (course_of (joined link.parts)) (ended whole transcript)
  pub waits : WaitsWhileBusy devices link.parts (ended whole transcript)
