-- The same run, without what is not heard.
use Rattle.proof_alone.proofs.Hearing.{heard_carefully, is_heard}
use Rattle.proof_alone.proofs.hosts.what_is_heard_is_a_hosts.Goals as goal

pub returns-clause-told : goal.returns-clause-told
returns-clause-told c = λ start told run. (run.0, run.1, is_heard start run.2)

pub returns-clause-whole : goal.returns-clause-whole
returns-clause-whole c = λ start told run. (run.0, is_heard start run.1)

pub returns-clause-run : goal.returns-clause-run
returns-clause-run c = λ start here told m run. is_heard start run

pub returns-clause-carefully : goal.returns-clause-carefully
returns-clause-carefully c = λ start here told m run. heard_carefully start run.0 run.1
