-- What is known at each phase of a line of what the chip has for its host, beside all that other walks tell; and what follows of a whole run (this project's own rule).
use Rattle.std.specs.Prelude.{Bool, List}
use Rattle.zw_text.specs.declared.entry.Entry.{Entry}
use Rattle.law_wire.specs.Answering.{AnswersInOrder}
use Rattle.law_wire.specs.Asked.{course_of}
use Rattle.law_wire.specs.Links.{joined}
use Rattle.outside_model.specs.Devices.{State}
use Rattle.world_model.specs.State.{Machine}
use Rattle.proof_devices.specs.proof_air.proof_walk.Phases.{Phase}
use Rattle.proof_devices.specs.proof_air.proof_walk.Walk.{both_know}
use Rattle.proof_chip.specs.proof_line.Linked.{Did, KnowCuts}
use Rattle.proof_devices.specs.Acks.{KnowAcks}
use Rattle.proof_devices.specs.Meeting.{Ground}
use Rattle.proof_chip.specs.Sending.{KnowAir}
use Rattle.proof_chip.specs.Served.{AirsByLink, KnowBeside}
use Rattle.proof_chip.specs.Staying.{KnowStays}
use Rattle.proof_chip.specs.Tally.{KnowTally}
use Rattle.proof_answers.specs.Telling.{KnowTells}

-- what is known beside the chip, with the lives of devices and the marks that lose acknowledgements
abbrev pub KnowGround : List State → Phase → List Entry → Machine → Type 0
KnowGround devices = both_know (both_know (KnowBeside devices) (Ground devices)) KnowAcks

-- by the same steps of the chip's link both links are known, what goes on the air, what the chip has for the host and how much, and that none waited for an idle link where a line or tick began
abbrev pub KnowAnswering : List State → Phase → List Entry → Machine → Type 0
KnowAnswering devices here past m =
    KnowGround devices here past m
    × ((did : Did) × KnowCuts did here past m × KnowAir devices did.steps here past m × KnowTally devices did.steps here past m × KnowStays devices did here past m × KnowTells devices did.steps here past m)

-- of a run: by the link by which the controller puts on the air just what it takes, the chip writes its host what it has for it, in order
pub record AnswersByLink (whole : Bool) (devices : List State) (transcript : List Entry) : Type 0 where
  pub airs : AirsByLink whole devices transcript
  pub answers : AnswersInOrder devices (course_of (joined airs.link.parts)) transcript
