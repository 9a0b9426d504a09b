mod AnsweredOrders
mod AskedSettings
pub mod BegunChanges
mod BegunCommands
mod BegunSessions
mod ChangedOnce
mod ChangesWalk
mod ConfirmedValues
mod CutLines
mod Cutting
mod FramesKept
mod GivenOrders
mod InTurn
mod Judged
pub mod JsonLines
pub mod KindsStay
mod Legibles
mod OneChange
mod PayloadsKept
mod SameSettings
mod ShownValues
mod StoredByTable
mod StoredDirectly
mod StoringHost
mod StoringWalk
mod TableRows
mod Texts
mod UnsupervisedDevices
mod WholeChanges
mod WithTable
pub use Rattle.proof_headline.proofs.PlainTying
