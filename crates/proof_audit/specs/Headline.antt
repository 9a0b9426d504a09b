-- What is said of the headline, as the crate below defines it, for whoever depends on both.
pub use Rattle.proof_headline.specs.Supervised.{IsPlainOrLock, IsSupervisedNode}
pub use Rattle.proof_headline.specs.Truly.{IsAskable, SucceedsAfterChangeOf}
