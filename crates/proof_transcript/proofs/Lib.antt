mod Common
mod HostLaws
mod TakenBack
pub mod StoredValues
mod Heard
mod PairedEvents
pub mod ServedNodes
mod CommandsWalking
mod AttemptUnits
pub mod AttemptStarts
mod Outer
mod Noted
pub mod Hosts
mod Judged
mod Routed
pub mod TicksBegun
mod Mild
mod Shown
pub mod ToldState
pub mod Over
pub mod FirstMachine
pub mod Ordered
pub mod Values
mod Nodes
pub mod LastTable
pub mod Plain
pub mod HostOuts
pub mod KeptOverLists
pub mod Outcomes
pub mod Arrivals
pub mod Events
mod FrameNumbers
mod Ring
pub mod MarkedFrames
mod Calm
mod FramesWalking
mod Repeating
mod LostFrames
mod Turning
pub mod CancelledRecords
pub mod RecordsWalking
mod OrderRecords
mod EndedRecords
pub mod RecordsShown
pub mod Answering
pub mod StoredPlaces
mod KeptProperties
pub mod PlacesKept
pub mod AnswerFacts
mod Showing
mod ShownDevices
mod SaidNext
mod Picked
mod AskedUnits
mod SentFrames
mod CarryingWalk
pub use Rattle.proof_spoken.proofs.RoutineNotes
pub use Rattle.proof_spoken.proofs.SpokenLines
pub use Rattle.proof_spoken.proofs.Aside
pub use Rattle.proof_spoken.proofs.Notes
pub use Rattle.proof_spoken.proofs.FactsKept
pub use Rattle.proof_spoken.proofs.HostOuts as proof_device_HostOuts
pub use Rattle.proof_air.proofs.Lists
pub use Rattle.proof_spoken.proofs.Always
pub use Rattle.proof_spoken.proofs.Heard as proof_spoken_Heard
pub use Rattle.proof_spoken.proofs.Classes
pub use Rattle.proof_spoken.proofs.Keeping
pub use Rattle.proof_spoken.proofs.Hosts as proof_spoken_Hosts
pub use Rattle.proof_spoken.proofs.Orders
pub use Rattle.proof_spoken.proofs.HeldRecords
pub use Rattle.proof_air.proofs.Bodies
pub use Rattle.proof_air.proofs.ByLine
pub use Rattle.proof_spoken.proofs.CommandsOfSessions
pub use Rattle.proof_air.proofs.Alone
pub use Rattle.proof_air.proofs.Shown as proof_walk_Shown
pub use Rattle.law_host.proofs.Computing
pub use Rattle.law_host.proofs.Deciding
