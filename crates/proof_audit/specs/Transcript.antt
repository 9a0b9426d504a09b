-- What is said of transcripts, as the crate below defines it, for whoever depends on both.
pub use Rattle.proof_transcript.specs.Lines.{IsNoRepeat, RepeatsNone}
pub use Rattle.proof_transcript.specs.Records.{HasRecords}
