-- All that a simulated device is, as the crates below define it.
pub use Rattle.device_stack.specs.Kinds.{Change, host_node, value_by, value_after}
pub use Rattle.device_stack.specs.State.{State, Outcome, idle, fresh, value_of, last_level_of, with_change, silent}
