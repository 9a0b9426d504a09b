-- What a kind of device is, how its commands are judged, and what they make of it, as the crate below defines it.
pub use Rattle.device_kinds.specs.Effects.{effect_alone, effect_by, effect_in_session, effect_untold, end_of, set_plainly, telling}
pub use Rattle.device_kinds.specs.Judging.{judged_set, setting_of, status_of}
pub use Rattle.device_kinds.specs.Kind.{classes_of, has_end, host_node, listens, lists, main_name_of, main_property_of, property_at, property_count}
pub use Rattle.s0_crypto.specs.Sealing.{keys_of, unsealed_at}
pub use Rattle.device_kinds.specs.Segments.{segment_session}
pub use Rattle.device_kinds.specs.Telling.{told}
pub use Rattle.device_kinds.specs.Values.{value_after, value_by}
pub use Rattle.device_kinds.specs.Worded.{IsPayload}
pub use Rattle.device_kinds.specs.declared.change.Change.{Change}
pub use Rattle.device_kinds.specs.declared.effect.Effect.{Effect}
pub use Rattle.device_kinds.specs.declared.effect.Effect.TheVariants.{Ignores, Repeats, Sets, Sleeps, Takes, Tells}
pub use Rattle.device_kinds.specs.declared.kind.Kind.{Kind}
pub use Rattle.device_kinds.specs.declared.kind.Kind.TheVariants.{Configurable, Dimmer, Lock, Relay, Sensor, Strip, Switch, Thermostat}
pub use Rattle.device_kinds.specs.declared.verdict.Verdict.{Verdict}
pub use Rattle.device_kinds.specs.declared.verdict.Verdict.TheVariants.{Fails, Makes, NoSupport, Works}
