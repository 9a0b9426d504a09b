pub mod SimLines
pub mod SimRun
