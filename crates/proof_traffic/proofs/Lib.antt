mod Words
pub mod FactsKept
mod HostSteps
pub mod HostLinks
mod Quiet
mod Submissions
mod Items
mod HostTicks
mod FlightsInOrder
mod Functions
pub mod Mild
pub mod JudgedItems
mod Calls
mod Results
pub mod Arrivals
mod Events
pub mod Parts
pub mod Flights
pub mod ChipNotices
pub mod ArrivedFrames
pub mod LostUnits
pub mod Calm
pub mod CourseSteps
pub mod Outside
pub mod EventParts
pub mod HostCourse
pub mod Settlings
pub mod Ticks
pub mod Lines
pub use Rattle.proof_device.proofs.ChangesOutside
pub use Rattle.proof_device.proofs.HostOuts
