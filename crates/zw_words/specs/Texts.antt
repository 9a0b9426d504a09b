-- The words for values, sides and nodes. All of it is this project's own rule.
use Rattle.std.specs.Prelude.{ℕ, ◌==◌, if◌then◌else◌, List, ◌++◌, codes, decimal}
use Rattle.zw_base.specs.declared.order.Word.{Word}
use Rattle.zw_base.specs.declared.order.Word.TheVariants.{On, Off, Level}
use Rattle.zw_words.specs.declared.side.Side.{Side}
use Rattle.zw_words.specs.declared.side.Side.TheVariants.{Host, Chip}

-- the word for a value
abbrev pub value_word : Word → List ℕ
value_word On = codes "on"
value_word Off = codes "off"
value_word (Level level) = decimal level

-- the letter of a side
abbrev pub side_word : Side → List ℕ
side_word Host = codes "h"
side_word Chip = codes "c"

-- the word for an end point of a node: the node alone for end point 0, else both with a point between them
abbrev pub target_word : ℕ → ℕ → List ℕ
target_word node end = if end == 0 then decimal node else decimal node ++ (codes "." ++ decimal end)
