use Rattle.std.proofs.Common.{subst, arith}
use Rattle.chip_functions.specs.Place.{Gives}
use Rattle.chip_functions.specs.Response.{IsResponseBody, response_of}
use Rattle.chip_functions.proofs.RowLaws.{if_ok, if_err}
use Rattle.chip_functions.proofs.ResponseLaws.{response_found, response_only, response_fault}
use Rattle.chip_functions.proofs.reading.responses.read_response.Goals as goal

pub returns-clause-found : goal.returns-clause-found
returns-clause-found c =
    if_ok c.first_response.result (response_of c.args.func c.args.body.now) (λ v. IsResponseBody c.args.func c.args.body.now v) c.first_response.ensures
    (λ v e. response_found c.args.func c.args.body.now v (λ i. omega (arith, c.type_inv.body i)) e)

pub returns-clause-only : goal.returns-clause-only
returns-clause-only c = λ v h. subst (λ reading. Gives (λ found. found) c.first_response.result reading) (response_only c.args.func c.args.body.now v h) c.first_response.ensures

pub returns-clause-fault : goal.returns-clause-fault
returns-clause-fault c =
    if_err c.args.func c.args.body.now c.first_response.result (response_of c.args.func c.args.body.now) c.first_response.ensures
    (λ fault e. response_fault c.args.func c.args.body.now fault (λ i. omega (arith, c.type_inv.body i)) e)
