pub mod CallLists
mod Followed
mod OneMessage
mod OneNonce
mod OneValue
mod Pieces
mod Reported
mod Taken
mod Told
mod Unsealed
