use Rattle.std.proofs.Common.{List, ◌++◌, ap, sym, ◌∙◌, append-nil}
use Rattle.host_requests.specs.declared.task.Task.{Task}
use Rattle.proof_walk.specs.host_model.State.{first_host}
use Rattle.proof_walk.specs.host_model.Did.{after_all}
use Rattle.proof_work.specs.Tasks.{ended_all}
use Rattle.proof_work.proofs.Tasks.{tasks_go, all_tasks_go, rests_without}
use Rattle.proof_work.proofs.turns.tasks_end_in_order.Goals as goal

pub returns-clause-each : goal.returns-clause-each
returns-clause-each c = tasks_go

pub returns-clause-all : goal.returns-clause-all
returns-clause-all c = all_tasks_go

pub returns-clause-none : goal.returns-clause-none
returns-clause-none c = rests_without

pub returns-clause-first : goal.returns-clause-first
returns-clause-first c = λ keys events done may free rests.
    let over = ended_all (first_host keys) events in
    sym (append-nil over) ∙ ap (λ (l : List Task). over ++ l) (sym (rests_without (after_all (first_host keys) events) free rests)) ∙ all_tasks_go (first_host keys) events done may
