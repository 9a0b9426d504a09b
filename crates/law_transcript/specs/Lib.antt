pub mod Lists
pub mod Nodes
pub mod Commands
pub mod Restarts
pub mod Sessions
pub mod Once
pub mod Values
pub mod Headline
pub mod Repeats
pub mod Answers
pub mod Stores
pub mod Fates
pub mod Devices
pub mod Records
pub mod Units
pub mod Carrying
pub mod Payloads
pub mod Table
pub mod Worked
pub mod WorkedWrong
pub mod WorkedWrongHost
pub mod WorkedWrongWire
pub mod WorkedWrongPayloads
pub mod WorkedWrongLines
pub mod WorkedDevices
pub mod WorkedRepeats
pub mod WorkedCases
pub use Rattle.device_sim.specs.device_kinds as device_kinds
pub use Rattle.device_sim.specs as device_sim
pub use Rattle.device_sim.specs.device_stack as device_stack
pub use Rattle.host_keep.specs as host_keep
pub use Rattle.host_orders.specs as host_orders
pub use Rattle.zw_text.specs as zw_text
