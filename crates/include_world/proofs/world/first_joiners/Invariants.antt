use Rattle.std.proofs.Common.{◌≡◌, map}
use Rattle.std.specs.List.{range_with_len}
use Rattle.include_world.specs.World.{first_joiner}
use Rattle.include_world.proofs.world.first_joiners.Given as goal

abbrev pub invariant-loop-number : goal.invariant-loop-number
invariant-loop-number l = l.joiners.items ≡ map first_joiner (range_with_len 0 l.number)
