use Rattle.std.proofs.Common.{◌≡◌, ℕ, ◌<◌, ◌^◌, List, length, slice_get, Some}
use Rattle.encap.proofs.wrappable.are_short.Given as goal

-- those before are short
abbrev pub invariant-loop-command : goal.invariant-loop-command
invariant-loop-command l =
    (k : ℕ) (command : List ℕ) → k < l.command-index → slice_get l.commands k ≡ Some command → length command < 2 ^ 16
