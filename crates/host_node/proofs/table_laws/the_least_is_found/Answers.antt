-- The least node above a number is the first that passes of those from the next number on.
use Rattle.std.proofs.Common.{arith}
use Rattle.host_node.proofs.Searches.{what_is_least, where_is_none}
use Rattle.host_node.proofs.table_laws.the_least_is_found.Goals as goal

pub returns-clause-above : goal.returns-clause-above
returns-clause-above c = λ passes number node e. let f = what_is_least passes number node e in omega (arith, f.from)

pub returns-clause-is_node : goal.returns-clause-is_node
returns-clause-is_node c = λ passes number node e. let f = what_is_least passes number node e in omega (arith, f.from, f.to)

pub returns-clause-passes : goal.returns-clause-passes
returns-clause-passes c = λ passes number node e. (what_is_least passes number node e).is_one

pub returns-clause-least : goal.returns-clause-least
returns-clause-least c = λ passes number node other e above below. (what_is_least passes number node e).before other (omega (arith, above)) below

pub returns-clause-none : goal.returns-clause-none
returns-clause-none c = λ passes number other e above within. (where_is_none passes number e).all other (omega (arith, above)) (omega (arith, above, within))
