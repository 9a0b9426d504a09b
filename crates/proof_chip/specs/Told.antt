-- What is known, at each phase of a line, of the results that are due to the chip (this project's own rule): each is of a payload that it took, or of a node that it was asked for, in the tick of
-- its clock; and its answer to that was written at once, waits for the link, or was dropped.
use Rattle.std.specs.Prelude.{◌≡◌, ◌⊎◌, ◌<◌, ℕ, List, []}
use Rattle.std.specs.List.{AllByRecursion}
use Rattle.serial_frame.specs.Frame.{FrameParts}
use Rattle.serial_frame.specs.Items.{unit_text}
use Rattle.serial_frame.specs.declared.unit.Unit.TheVariants.{Framed}
use Rattle.chip_functions.specs.declared.response.Response.TheVariants.{SendData as SendDataAnswer, RequestNodeInfo as NodeInfoAnswer}
use Rattle.chip_sim.specs.Answers.{response_frame}
use Rattle.zw_words.specs.declared.side.Side.TheVariants.{Chip}
use Rattle.zw_text.specs.declared.entry.Entry.{Entry}
use Rattle.zw_text.specs.declared.entry.Entry.TheVariants.{Written, ChipFull}
use Rattle.law_transcript.specs.Lists.{EachAfter}
use Rattle.law_wire.specs.Asked.{clock_of}
use Rattle.outside_model.specs.State.{OuterState}
use Rattle.world_model.specs.State.{Machine}
use Rattle.proof_air.specs.proof_walk.Phases.{Phase, Ticked, Arriving, Giving}
use Rattle.proof_air.specs.proof_walk.Walk.{both_know}
use Rattle.proof_air.specs.Landing.{KnowLanding}
use Rattle.proof_chip.specs.Calling.{KnowCalls}
use Rattle.proof_chip.specs.Tally.{LeavesLine}

-- ---- answers

-- an answer by which the chip takes a payload, or is to ask what a node lists
abbrev pub IsTaking : FrameParts → Type 0
IsTaking f = (f ≡ response_frame (SendDataAnswer 1)) ⊎ (f ≡ response_frame (NodeInfoAnswer 1))

abbrev pub TakesNone : FrameParts → Type 0
TakesNone f = IsTaking f → ⊥

-- no such answer waits for the link
abbrev pub NoneWaits : OuterState → Type 0
NoneWaits o = AllByRecursion TakesNone o.chip.state.port.waiting

-- an entry tells that one was written, or that a frame was dropped
abbrev pub Tells : Entry → Type 0
Tells (Written Chip unit) = (f : FrameParts) × IsTaking f × (unit ≡ unit_text (Framed f))
Tells ChipFull = Unit {0}
Tells _ = ⊥

-- if it does, it stands before the tick of that clock
abbrev pub ToldBefore : ℕ → List Entry → Entry → Type 0
ToldBefore clock past entry = Tells entry → clock_of past < clock

-- where nothing of the tick tells of such an answer, and none waits, nothing is due
abbrev pub IsTold : List Entry → OuterState → Type 0
IsTold past o = EachAfter (ToldBefore o.clock) [] past → NoneWaits o → o.due ≡ []

-- ---- at each phase of a line

-- but for the time in a tick until all results have come: those of the tick before are due there
abbrev pub ToldAt : Phase → List Entry → OuterState → Type 0
ToldAt (Ticked ticks) past o = Unit {0}
ToldAt (Arriving left ticks) past o = Unit {0}
ToldAt (Giving left ticks) past o = Unit {0}
ToldAt here past o = IsTold past o

abbrev pub KnowTold : Phase → List Entry → Machine → Type 0
KnowTold here past m = ToldAt here past m.outside.outer × LeavesLine here

-- on what is known of frames that have landed, which tells the clock, and of the results that the chip waits for
abbrev pub KnowResults : Phase → List Entry → Machine → Type 0
KnowResults = both_know KnowLanding KnowCalls
