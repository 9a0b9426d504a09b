-- By the orders and sessions that an event leaves.
use Rattle.proof_giving.proofs.Along.{goes_on, shown}
use Rattle.proof_giving.proofs.Inner.{inner_kept}
use Rattle.proof_giving.proofs.Orders.{event_keeps}
use Rattle.proof_giving.proofs.ends.attempts_stay_with_the_request.Goals as goal

pub returns-clause-keeps : goal.returns-clause-keeps
returns-clause-keeps c = event_keeps

pub returns-clause-inner : goal.returns-clause-inner
returns-clause-inner c = λ taken past later h g n session shows showing facts others keeps opened unit.
    inner_kept taken past later h g n session (shown taken n past h shows) (shown taken n later g showing) facts others (record { commands = keeps.commands; opens = keeps.opens }) keeps.orders opened unit

pub returns-clause-goes_on : goal.returns-clause-goes_on
returns-clause-goes_on c = goes_on
