use Rattle.std.proofs.Common.{◌≡◌, ◌∷◌, length, take}
use Rattle.encap.specs.Wraps.{listed}
use Rattle.encap.proofs.wrapping.batch.Given as goal

-- the first commands are listed
abbrev pub invariant-loop-command : goal.invariant-loop-command
invariant-loop-command l = l.bytes ≡ 143 ∷ 1 ∷ length l.commands ∷ listed (take l.command-index l.commands)
