-- What one node keeps, all keep.
use Rattle.host_node.specs.TableState.{node_of}
use Rattle.host_node.proofs.TableLists.{unknown_facts}
use Rattle.host_node.proofs.Follows.{each_keeps}
use Rattle.host_node.proofs.table_laws.facts_of_all_are_kept.Goals as goal

pub returns-clause-first : goal.returns-clause-first
returns-clause-first c = unknown_facts

pub returns-clause-each : goal.returns-clause-each
returns-clause-each c = λ nodes node event may f. each_keeps nodes node event f (c.facts_are_kept.ensures.each (node_of nodes node) event may (f.facts node))
