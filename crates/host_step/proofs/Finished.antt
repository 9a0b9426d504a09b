-- A session that a final report ends, seen from the whole host.
use Rattle.std.proofs.Common.{◌≡◌, ℕ, Bool, List, sym, subst}
use Rattle.host_keep.specs.Status.{status_byte}
use Rattle.host_keep.specs.declared.final_status.FinalStatus.{FinalStatus}
use Rattle.host_node.specs.State.{NodeState}
use Rattle.host_node.specs.Events.NodeEvent.{Reports as node_reports}
use Rattle.host_node.specs.TableState.{nodes_after}
use Rattle.host_model.specs.State.{HostState}
use Rattle.host_model.specs.After.{holding, finishing}

pub finished_state : (h : HostState) (n id command : ℕ) (status : FinalStatus) (held : Bool) (reported nodes : List NodeState) → reported ≡ nodes_after h.nodes n (node_reports id (status_byte status))
    → ((k : HostState) → let s : HostState = record k { nodes = nodes } in s ≡ holding (record k { nodes = reported }) n held)
    → holding (finishing h n id command status) n held ≡ record (finishing h n id command status) { nodes = nodes }
finished_state h n id command status held reported nodes done state =
    let k = finishing h n id command status in
    sym (subst (λ (ns : List NodeState). let s : HostState = record k { nodes = nodes } in s ≡ holding (record k { nodes = ns }) n held) done (state k))
