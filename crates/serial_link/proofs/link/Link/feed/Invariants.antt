use Rattle.std.proofs.Common.{◌≡◌, ℕ, List, ◌++◌, length}
use Rattle.serial_link.specs.State.{LinkState}
use Rattle.serial_link.specs.Calls.{Takes}
use Rattle.serial_link.specs.declared.out.LinkOut.{LinkOut}
use Rattle.serial_link.proofs.link.Link.feed.Given as goal

-- what is taken from here on is taken from the beginning on
abbrev pub invariant-loop-rest : goal.invariant-loop-rest
invariant-loop-rest l =
    (prefix : List ℕ) × (l.fn.piece ≡ prefix ++ l.left) × ((bytes : List ℕ) (new : LinkState) (after : List LinkOut) →
    Takes l.self bytes new l.out.items after → Takes l.fn.self (prefix ++ bytes) new l.fn.out.items after)

abbrev pub decreases-loop-rest : goal.decreases-loop-rest
decreases-loop-rest l = length l.left
