-- One walk over lines, from the first machine on.
use Rattle.std.proofs.Common.{[], Some, refl}
use Rattle.proof_walk.specs.world_model.State.{first_machine}
use Rattle.proof_walk.proofs.Lines.{lines_lead}
use Rattle.proof_work.specs.Phases.{AsksNothing, KnowsWork}
use Rattle.proof_work.proofs.Phases.{work_walk}
use Rattle.proof_work.proofs.Starting.{first_tended}
use Rattle.proof_work.proofs.tended.hosts_are_tended.Goals as goal

pub returns-clause-walk : goal.returns-clause-walk
returns-clause-walk c = work_walk c.hosts_keep_their_work.ensures.each c.hosts_keep_their_work.ensures.opened

pub returns-clause-first : goal.returns-clause-first
returns-clause-first c = λ keys texts devices. (record { work = c.hosts_keep_their_work.ensures.first keys; tells = refl }, first_tended keys)

pub returns-clause-lines : goal.returns-clause-lines
returns-clause-lines c = λ keys texts devices lines are whole.
    (lines_lead AsksNothing KnowsWork (work_walk c.hosts_keep_their_work.ensures.each c.hosts_keep_their_work.ensures.opened) [] (first_machine keys (Some texts) devices) lines are whole
    (record { work = c.hosts_keep_their_work.ensures.first keys; tells = refl }, first_tended keys)).1.1
