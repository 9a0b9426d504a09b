-- The devices of the mesh, as the crates below define them: what one is, what may happen to it, and what is known of its kind.
pub use Rattle.device_sim.specs.State.{State, Change}
pub use Rattle.device_sim.specs.Event.{DeviceEvent, Ticks, Wakes, Sets, device_after, device_replies}
pub use Rattle.device_sim.specs.Kind.{Kind, listens, classes_of}
pub use Rattle.device_sim.specs.Stack.{shown_of}
