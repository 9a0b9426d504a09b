use Rattle.std.proofs.Common.{◌≡◌, map, take}
use Rattle.zw_parse.specs.Reading.{four_back}
use Rattle.zw_parse.proofs.lists.numbers.Given as goal

-- what the words so far stand for
abbrev pub invariant-loop-word : goal.invariant-loop-word
invariant-loop-word l = l.numbers ≡ map four_back (map (λ x. x.now) (take l.word-index l.words))
