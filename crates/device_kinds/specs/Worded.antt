-- How long the texts are that a device puts out (docs/DEVICES.md).
use Rattle.std.specs.Prelude.{ℕ, ◌≤◌, List, length}

-- a text that can be sealed
pub record IsShort (text : List ℕ) : Type 0 where
  pub some : 1 ≤ length text
  pub short : length text ≤ 26

-- a payload of the air
pub record IsPayload (text : List ℕ) : Type 0 where
  pub some : 1 ≤ length text
  pub short : length text ≤ 46
