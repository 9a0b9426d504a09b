use Rattle.std.proofs.Common.{◌≡◌, List, ◌∷◌, ◌++◌, length}
use Rattle.zw_base.specs.declared.property.Setting.{Setting}
use Rattle.audit_books.specs.Groups.{IsGroup}
use Rattle.audit_books.proofs.group.read_group.Given as goal

-- what is read from here on is read from the beginning on
abbrev pub invariant-group : goal.invariant-group
invariant-group l =
    (some : List Setting) × (l.group.items ≡ l.fn.first ∷ some) × ((more : List Setting) →
    IsGroup l.maker l.left more → IsGroup l.maker l.text (some ++ more))

abbrev pub decreases-group : goal.decreases-group
decreases-group l = length l.left
