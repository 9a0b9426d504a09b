pub mod Kind
pub mod State
pub mod Event
pub mod Stack
pub mod Laws
pub use Rattle.device_stack.specs.device_kinds as device_kinds
pub use Rattle.device_stack.specs as device_stack
