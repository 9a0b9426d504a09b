pub mod Networks
pub mod Routes
pub mod Reach
pub mod Listening
pub mod Arriving
pub mod Asked
pub mod Taking
pub mod Results
pub mod Given
pub mod Marks
pub mod Pipes
pub mod Serial
pub mod Links
pub mod Clearing
pub mod Times
pub mod Doings
pub mod Shown
pub mod Halted
pub mod Answering
pub mod Worked
pub mod WorkedCourses
pub mod WorkedAir
pub mod WorkedChip
pub mod WorkedMarks
pub mod WorkedFull
pub mod WorkedPipes
pub mod WorkedLinks
pub mod WorkedHalted
pub mod WorkedDoings
pub mod WorkedRecords
pub mod WorkedWrong
pub use Rattle.law_transcript.specs.device_stack as device_stack
pub use Rattle.law_transcript.specs as law_transcript
pub use Rattle.law_transcript.specs.device_kinds as device_kinds
pub use Rattle.law_transcript.specs.device_sim as device_sim
