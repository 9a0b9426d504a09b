mod Units
mod Counting
pub mod Standing
pub mod Marking
pub mod Colliding
pub mod Asking
pub mod Telling
pub mod Holding
mod Filling
mod Chipping
pub mod Hosting
pub mod Piping
pub mod Clearing
mod Arriving
mod Fitting
pub mod Tellings
mod Numbering
pub mod HostTelling
pub mod ChipTelling
mod Goings
pub mod ChipAccounts
mod Roomy
pub mod Rooming
pub mod Moments
pub mod Serials
pub mod LinkStarts
pub mod LinkSteps
pub mod LinkKnown
mod LinkUntil
pub mod LinkTime
pub mod LinkTold
mod LinkCourse
mod LinkGoes
pub mod LinkLines
mod LinkChip
mod LinkGiven
pub mod LinkHost
pub mod LinkEnds
pub mod LinkEvents
mod LinkTicks
mod LinkWants
mod LinkSettles
pub mod LinkBegins
mod LinkEffects
mod LinkPlain
mod LinkRestarts
mod LinkOnes
pub mod LinkSome
pub mod LinkWalk
pub use Rattle.proof_world.proofs.SpokenLines
pub use Rattle.proof_world.proofs.Always
pub use Rattle.proof_world.proofs.Aside
pub use Rattle.proof_world.proofs.Errands
pub use Rattle.proof_world.proofs.FactsKept
pub use Rattle.proof_world.proofs.FirstHosts
pub use Rattle.proof_world.proofs.Heard
pub use Rattle.proof_world.proofs.Hosts
pub use Rattle.proof_world.proofs.Notes
pub use Rattle.proof_walk.proofs.EventLists
pub use Rattle.proof_walk.proofs.HostOuts
pub use Rattle.proof_walk.proofs.Entered
pub use Rattle.proof_walk.proofs.Lists
pub use Rattle.proof_world.proofs.EndedItems
pub use Rattle.proof_world.proofs.Events
pub use Rattle.proof_world.proofs.Outer
pub use Rattle.proof_world.proofs.Ways
pub use Rattle.proof_world.proofs.Runs
pub use Rattle.proof_world.proofs.First
pub use Rattle.proof_walk.proofs.Times
pub use Rattle.proof_walk.proofs.HostNotes
pub use Rattle.proof_walk.proofs.ByLine
pub use Rattle.proof_walk.proofs.Clock
pub use Rattle.proof_walk.proofs.Untimed
pub use Rattle.proof_walk.proofs.Stepping
pub use Rattle.proof_walk.proofs.Alone
pub use Rattle.proof_walk.proofs.Linking
pub use Rattle.proof_walk.proofs.Stamping
pub use Rattle.proof_walk.proofs.Where
pub use Rattle.proof_traffic.proofs.Arrivals
pub use Rattle.proof_traffic.proofs.Calm
pub use Rattle.proof_traffic.proofs.FactsKept as proof_traffic_FactsKept
pub use Rattle.proof_traffic.proofs.Flights
pub use Rattle.proof_traffic.proofs.Mild
pub use Rattle.proof_traffic.proofs.Parts
pub use Rattle.proof_traffic.proofs.ArrivedFrames
pub use Rattle.proof_traffic.proofs.ChipNotices
pub use Rattle.proof_walk.proofs.Bodies
pub use Rattle.proof_walk.proofs.Views
pub use Rattle.proof_traffic.proofs.HostLinks
pub use Rattle.proof_world.proofs.HeldRecords
pub use Rattle.proof_world.proofs.Own
pub use Rattle.proof_world.proofs.Submitted
pub use Rattle.proof_world.proofs.Silence
pub use Rattle.proof_world.proofs.EventLists as host_model_EventLists
pub use Rattle.proof_traffic.proofs.Outside
pub use Rattle.proof_traffic.proofs.CourseSteps
