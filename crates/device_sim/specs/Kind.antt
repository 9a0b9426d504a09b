-- What is known of each kind of device, as the crate below defines it.
pub use Rattle.device_stack.specs.Kinds.{Kind, listens, classes_of, lists, has_end, main_property_of, property_count, property_at}
