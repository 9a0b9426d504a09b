-- The keys that the key of a network makes (Security 0 Command Class): those of `s0_crypto`.
pub use Rattle.s0_crypto.specs.Sealing.{keys_of}
