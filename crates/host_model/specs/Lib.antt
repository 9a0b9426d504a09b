pub mod State
pub mod Sessions
pub mod Ends
pub mod Events
pub mod After
pub mod Outs
pub mod Records
pub mod May
pub mod Did
pub mod Taking
pub mod Pumping
pub mod Ticking
pub mod Facts
pub mod Asking
pub mod Restoring
pub mod Opening
pub mod Holding
pub mod Recording
pub mod Refusals
pub mod Listing
pub use Rattle.host_node.specs as host_node
pub use Rattle.host_keep.specs as host_keep
pub use Rattle.host_requests.specs as host_requests
