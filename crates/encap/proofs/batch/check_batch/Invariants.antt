use Rattle.std.proofs.Common.{◌≡◌, ◌≤◌, ℕ, List, ◌∷◌, ◌++◌, length}
use Rattle.std.specs.Prelude.{slice_index}
use Rattle.encap.specs.Wraps.{listed, AllFit}
use Rattle.encap.proofs.batch.check_batch.Given as goal

-- so many commands stand before the rest
abbrev pub invariant-loop-count : goal.invariant-loop-count
invariant-loop-count l =
    (commands : List (List ℕ)) × AllFit commands × (length commands ≡ l._count)
    × (l.bytes ≡ 143 ∷ 1 ∷ slice_index l.bytes 2 ∷ (listed commands ++ l.rest)) × (length l.rest ≤ length l.bytes)
