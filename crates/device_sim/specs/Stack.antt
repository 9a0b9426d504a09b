-- What all simulated devices have in common, as the crate below defines it.
pub use Rattle.device_stack.specs.Effects.{effect_of}
pub use Rattle.device_stack.specs.Hearing.{active, answers, answers_bytes, hears, hears_in_segments, hears_openly, hears_plain, hears_sealed, hears_securely, hears_segment}
pub use Rattle.device_stack.specs.Showing.{shown_of}
pub use Rattle.device_stack.specs.Ticking.{set_by_hand, ticked, woken}
