-- What all nodes keep true of their fields.
use Rattle.std.specs.Prelude.{◌≡◌, List, map, slice_set}
use Rattle.host_node.specs.State.{NodeState, has_work, needs_tick, wants_no_more}
use Rattle.host_node.specs.TableFacts.{NodesFacts}
use Rattle.host_node.specs.declared.agenda.Agenda.{Agenda}

-- each set has exactly the nodes of which it is true
pub record IsAgendaOf (agenda : Agenda) (nodes : List NodeState) : Type 0 where
  pub work : agenda.work ≡ map has_work nodes
  pub ticking : agenda.ticking ≡ map needs_tick nodes
  pub wanting : agenda.wanting ≡ map wants_no_more nodes

-- the agenda once a node is so
abbrev pub followed : Agenda → NodeState → Agenda
followed agenda state = record {
  work = slice_set agenda.work state.node (has_work state);
  ticking = slice_set agenda.ticking state.node (needs_tick state);
  wanting = slice_set agenda.wanting state.node (wants_no_more state);
}

-- the nodes keep their facts, and the agenda is theirs
pub record IsNodes (nodes : List NodeState) (agenda : Agenda) : Type 0 where
  pub facts : NodesFacts nodes
  pub sets : IsAgendaOf agenda nodes
