pub mod DeviceEnds
pub mod Bare
mod OpenedMessages
mod Verdicts
pub mod SessionMessages
mod OtherMessages
pub mod DeviceReports
mod DevicePayloads
mod SegmentParts
mod SlicesKept
pub mod DeviceSegments
mod DeviceSlices
mod Courses
mod SealedAtLock
pub mod NonceNumbers
pub mod Texts
mod LockPayloads
mod HostNonces
pub mod SealedByNumber
mod ShownNonces
pub mod LockSessions
pub mod SealedTexts
mod Unnumbered
pub use Rattle.host_model.proofs.Submitted
pub use Rattle.host_model.proofs.Own
