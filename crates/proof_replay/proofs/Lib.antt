mod Putting
mod LineHeard
mod CameItems
mod Replaying
mod Ran
pub mod Serving
mod Words
mod From
mod Begun
mod Started
mod Starting
mod Orderly
mod HeardEvents
mod HeardLink
mod Wholly
mod Agreeing
