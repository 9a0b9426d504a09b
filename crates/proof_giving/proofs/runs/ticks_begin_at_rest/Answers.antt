-- Back to the rest at which the tick began nothing was entered.
use Rattle.std.proofs.Common.{refl}
use Rattle.std.specs.Prelude.{Some, []}
use Rattle.proof_queue.specs.proof_attempts.proof_requests.proof_alone.State.{first_alone}
use Rattle.proof_giving.specs.Walking.{RestsAt}
use Rattle.proof_giving.proofs.Rested.{before_number}
use Rattle.proof_giving.proofs.runs.ticks_begin_at_rest.Goals as goal

pub returns : goal.returns
returns c = λ keys taken here told m run careful sure heeded awaits.
    before_number (RestsAt taken (first_alone keys (Some []))) taken (first_alone keys (Some [])) refl (λ told m run careful sure heeded. (m, run, careful, sure, heeded, refl)) run careful sure heeded awaits
