-- What is said of the serial line, as the crate below defines it, for whoever depends on both.
pub use Rattle.proof_line.specs.Pipes.{ClearsAtRestarts, ClearsNowhereElse, OverrunsOnlyWhenFull}
