-- By what ends, and by the node that ticks.
use Rattle.std.proofs.Common.{◌+◌, ◌==◌, if◌then◌else◌, sym, subst, arith}
use Rattle.zw_text.specs.Transcript.{folded}
use Rattle.host_requests.specs.Events.{end_at}
use Rattle.host_node.specs.State.{NodeState}
use Rattle.host_node.specs.Steps.{tick_end}
use Rattle.host_model.specs.State.{node_of}
use Rattle.host_model.specs.After.{requests_do}
use Rattle.host_model.specs.Ends.{attempt_entries}
use Rattle.host_model.specs.Events.{Node_ticks, Requests_do}
use Rattle.host_model.specs.Outs.{request_entries}
use Rattle.host_model.specs.Sessions.{open_command}
use Rattle.proof_queue.proofs.Doings.{node_after}
use Rattle.proof_giving.specs.Tie.{NodeSo, anew_step, is_last_of}
use Rattle.proof_giving.proofs.HostGoes.{ended_by, node_ticks_by}
use Rattle.proof_giving.proofs.requests.attempts_end_with_requests.Goals as goal

pub returns-clause-request : goal.returns-clause-request
returns-clause-request c = λ h event moment n told time badly later facts to so goes good none over.
    let all = facts.nodes.places in
    subst (λ (s : NodeState). NodeSo (folded (anew_step (is_last_of (node_of h n))) told (request_entries h event)) s time later) (sym (node_after h (Requests_do event moment) n (omega (arith, all, to))))
    (ended_by (requests_do h event) n (record { nodes = facts.nodes; commands = facts.commands; owns = facts.owns; nonces = facts.nonces; served = facts.served }) told time badly later so goes
    (end_at h.requests event) moment good none over)

pub returns-clause-ticks : goal.returns-clause-ticks
returns-clause-ticks c = λ h k n told time badly facts to so.
    let all = facts.nodes.places in
    subst (λ (s : NodeState). NodeSo (folded (anew_step (is_last_of (node_of h n))) told (attempt_entries k (tick_end (node_of h k)) (open_command (node_of h k)))) s (if k == n then time + 1 else time) badly)
    (sym (node_after h (Node_ticks k) n (omega (arith, all, to)))) (node_ticks_by h n facts told time badly so k)
