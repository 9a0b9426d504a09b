pub mod EventLists
pub mod Feeding
pub mod Numbered
pub mod Owning
mod Storing
pub mod Accepted
mod FactsKept
pub mod Pumps
mod Rounds
mod Payloads
pub mod Rising
pub mod Ended
mod Opened
pub mod Places
mod NumberedRecords
mod Outcomes
pub mod Values
mod Once
pub mod Confirmed
pub mod Counts
pub mod OpenSessions
mod Removed
mod Steps
pub mod Begun
mod Cancelled
mod Finished
pub mod Taken
pub mod Events
mod AllEvents
mod Beginning
pub mod Tests
mod Restarted
pub mod RestoredFacts
mod Restores
pub mod Legal
pub mod Fold
pub mod Recorded
pub mod Submitted
pub mod Own
pub mod Silence
