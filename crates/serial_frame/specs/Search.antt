-- What the decoder's functions find in bytes.
use Rattle.std.specs.Prelude.{◌≡◌, ℕ, List, ◌∷◌, [], ◌++◌, ◌<◌, ◌≤◌, length}
use Rattle.serial_frame.specs.Frame.{xor_all}
use Rattle.serial_frame.specs.Items.{ItemText}
use Rattle.serial_frame.specs.Stream.{IsUnfinished, Reads}
use Rattle.serial_frame.specs.declared.item.Item.{Item}
use Rattle.serial_frame.specs.declared.search.Found.{Found}
use Rattle.serial_frame.specs.declared.item.Item.{Item}
use Rattle.serial_frame.specs.declared.search.Found.TheVariants.{Whole, Part}

-- the sum over what has come of a frame, from its length on
abbrev pub running_sum : List ℕ → ℕ
running_sum [] = 255
running_sum (s ∷ bytes) = xor_all 255 bytes

-- After these bytes that are held, the piece ends an item and goes on, or all of it is of one unfinished frame.
abbrev pub Finds : List ℕ → List ℕ → Found → Type 0
Finds held piece (Whole item rest) = (text : List ℕ) × ItemText item text × (held ++ piece ≡ text ++ rest.now) × (length rest.now < length piece)
Finds held piece (Part sum) = IsUnfinished (held ++ piece) × (sum ≡ running_sum (held ++ piece)) × (length (held ++ piece) ≤ 256)

-- The bytes read as these items and this unfinished end, which has this sum and fits the decoder.
pub record Ends (bytes : List ℕ) (items : List Item) (end_sum : ℕ) (tail : List ℕ) : Type 0 where
  pub reads : Reads bytes items tail
  pub sum : end_sum ≡ running_sum tail
  pub room : length tail ≤ 256
