-- The law, by the course that begins with the run.
use Rattle.std.proofs.Common.{[], refl}
use Rattle.proof_hearing.specs.proof_queue.proof_attempts.proof_requests.law_host.Notes.{first_start}
use Rattle.proof_noting.specs.Parts.{Parts}
use Rattle.proof_noting.proofs.InFull.{in_full}
use Rattle.proof_noting.proofs.Starting.{Always, begins_first, from_first}
use Rattle.proof_noting.proofs.Whole.{walks}
use Rattle.proof_noting.proofs.noting.hosts_note_what_happens.Goals as goal

pub returns : goal.returns
returns c = λ key taken whole here told m run careful sure as_told at errands.
    let parts : Parts key taken from_first = c.notes_go_on.ensures key taken from_first errands in
    (in_full key taken first_start [] parts here told told m refl (record { run = run; careful = careful; heeds_so = sure; heeds_as = as_told })
    (walks key taken from_first parts (Always key taken) (begins_first key taken) run careful sure as_told tt) whole at).in_full
