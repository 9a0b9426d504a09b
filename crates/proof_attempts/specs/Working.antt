-- What is known of the work of a host alone at each phase (this project's own rule): it is in order; and but where the host does something and pumps, nothing that is due lacks its request.
use Rattle.std.specs.List.{AllByRecursion}
use Rattle.proof_requests.specs.host_model.State.{HostState}
use Rattle.proof_requests.specs.proof_alone.Phases.{Phase, Resting, Risen, Ticking, Behind, Submitting}
use Rattle.proof_work.specs.Doing.{IsDone}
use Rattle.proof_work.specs.Rests.{IsTended, NoneWants}
use Rattle.proof_work.specs.Work.{HostWork}
use Rattle.proof_attempts.specs.Since.{TieOf}

-- the events that are to come are done by hosts; and what the last pump has left
abbrev pub IsWorked : Phase → HostState → Type 0
IsWorked Resting h = IsTended h
IsWorked Risen h = IsTended h
IsWorked (Ticking left) h = AllByRecursion IsDone left
IsWorked (Behind left) h = AllByRecursion IsDone left
IsWorked Submitting h = NoneWants h.nodes
IsWorked here h = Unit {0}

abbrev pub WorksInOrder : TieOf
WorksInOrder here past h clock = HostWork h × IsWorked here h
