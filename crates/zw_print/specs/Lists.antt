-- The text of a list of numbers.
use Rattle.std.specs.Prelude.{ℕ, List, [], ◌∷◌, ◌++◌, codes, decimal}
use Rattle.std.specs.List.{flat_map}

-- numbers with one space between two, or `-` where there are none
abbrev pub list_text : List ℕ → List ℕ
list_text [] = codes "-"
list_text (n ∷ ns) = decimal n ++ flat_map (λ m. 32 ∷ decimal m) ns
