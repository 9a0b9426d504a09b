-- Which session segments are of (Z-Wave Transport-Encapsulation Command Class Specification: Transport Service).
use Rattle.std.specs.Prelude.{ℕ, ◌%◌}

-- the session of segments on the wire
abbrev pub segment_session : ℕ → ℕ
segment_session session = session % 16
