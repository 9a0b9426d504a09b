mod Untold
mod Stepping
mod Answered
mod Sleepers
mod Completes
mod StayingUp
mod PartsAnswered
mod PartsHeard
mod PartsLanded
mod PartsCarried
mod PartsFlying
mod PartsArrived
mod PartsTaken
mod PartsGiven
mod PartsArriving
mod PartsBegun
mod PartsKept
mod PartsPhases
mod PartsSteps
mod PartsHosted
mod PartsSubmitted
mod PartsStarted
mod PartsMoved
mod PartsCalm
mod PartsJudged
mod PartsInStep
mod PartsDue
mod PartsAround
mod PartsRuns
mod PartsGoing
mod RunsStill
mod PartsWaits
mod PartsSupplied
mod PartsBegins
mod TrailDevices
mod OpenSpeaks
mod OpenBeside
mod TrailOut
mod TrailQuiet
mod TrailAsked
mod OpenSteps
mod TrailSteps
mod AloneWalk
mod OpenWaits
mod Reported
mod SealedReports
mod SealedHosts
mod ExchangeHosts
mod JudgedAmong
mod ExchangeOwedHost
mod ExchangeJudged
mod ExchangeOwed
mod FarWaits
mod ExchangeRuns
mod ExchangeWalk
mod NodeWaits
mod Grown
mod Landed
mod JudgedWaits
mod Busy
mod Carried
mod Bounded
mod Settled
mod ExchangeWaysAround
mod ExchangeHome
mod ExchangeAlone
mod Aired
mod QuietPhases
pub mod Commands
mod GoingWhole
mod GoingSealed
mod SealedOrders
mod PlainKinds
mod Keeping
mod Lasting
mod ExchangeKept
mod ExchangeOut
mod ExchangeWays
pub mod Spoken
mod InHand
mod Retried
mod Served
mod InTurn
mod Plainly
mod Queued
mod ExchangeRests
mod Rising
mod Rousing
mod Serving
mod Counting
mod PlainGround
mod OpenGround
mod Nearing
mod RequestStays
mod AskedSo
pub mod Lively
pub mod Until
pub mod Asking
mod Accepted
mod Counted
mod FewerWait
pub mod Endings
pub mod LastOrder
mod BegunBefore
mod EndedSessions
mod FromFirst
mod JudgedSessions
mod JudgedCourses
mod LockSteps
mod LockAnswers
mod LockLabels
mod ExchangeSteps
mod ExchangeFits
mod ExchangeGiven
mod ExchangeStays
mod LockWaits
mod LockWalk
mod LockGround
mod JudgedRuns
pub mod JudgedOutcomes
mod HandFree
mod StaysEnded
mod BegunInside
pub use Rattle.proof_host.proofs.Over
pub use Rattle.proof_course_plain.proofs.AsMade
pub use Rattle.proof_answered.proofs.Living
pub use Rattle.proof_answered.proofs.Unmarked
pub use Rattle.proof_spoken.proofs.HostRuns
pub use Rattle.proof_spoken.proofs.HostFits
pub use Rattle.proof_answered.proofs.Rested
