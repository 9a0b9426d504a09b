use Rattle.std.proofs.Common.{sym, subst}
use Rattle.host_requests.specs.State.{RequestsState}
use Rattle.proof_walk.specs.host_model.State.{first_host}
use Rattle.proof_walk.specs.host_model.Opening.{restored_all}
use Rattle.proof_work.specs.Line.{IsOnLine}
use Rattle.proof_work.proofs.Starting.{all_requests}
use Rattle.proof_work.proofs.OnLine.{event_kept, items_kept}
use Rattle.proof_work.proofs.line.requests_stay_on_the_line.Goals as goal

pub returns-clause-first : goal.returns-clause-first
returns-clause-first c = λ keys. tt

pub returns-clause-opened : goal.returns-clause-opened
returns-clause-opened c = λ keys records.
    subst (λ (s : RequestsState). IsOnLine s.under_way (restored_all (first_host keys) records).side.turn) (sym (all_requests (first_host keys) records)) tt

pub returns-clause-each : goal.returns-clause-each
returns-clause-each c = event_kept

pub returns-clause-items : goal.returns-clause-items
returns-clause-items c = items_kept
