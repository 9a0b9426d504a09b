use Rattle.std.proofs.Common.{◌≡◌, ◌∷◌, ◌++◌, ℕ, List, length}
use Rattle.std.specs.List.{join_with_byte}
use Rattle.zw_words.specs.Words.{words}
use Rattle.run_lines.proofs.said.join_words.Given as goal

-- some words are joined, and the others follow
abbrev pub invariant-loop-next : goal.invariant-loop-next
invariant-loop-next l =
    (prefix : List (List ℕ)) × (words l.text ≡ prefix ++ words l.rest) × (l.joined ≡ join_with_byte 32 (l.word ∷ prefix))

abbrev pub decreases-loop-next : goal.decreases-loop-next
decreases-loop-next l = length (words l.rest)
