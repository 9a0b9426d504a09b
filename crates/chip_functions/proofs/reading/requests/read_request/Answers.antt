use Rattle.std.proofs.Common.{subst, arith}
use Rattle.chip_functions.specs.Place.{Gives}
use Rattle.chip_functions.specs.Request.{IsRequestBody, request_of}
use Rattle.chip_functions.proofs.RowLaws.{if_ok, if_err}
use Rattle.chip_functions.proofs.RequestLaws.{request_found, request_only, request_fault}
use Rattle.chip_functions.proofs.reading.requests.read_request.Goals as goal

pub returns-clause-found : goal.returns-clause-found
returns-clause-found c =
    if_ok c.whole_request.result (request_of c.args.func c.args.body.now) (λ v. IsRequestBody c.args.func c.args.body.now v) c.whole_request.ensures
    (λ v e. request_found c.args.func c.args.body.now v (λ i. omega (arith, c.type_inv.body i)) e)

pub returns-clause-only : goal.returns-clause-only
returns-clause-only c = λ v h. subst (λ reading. Gives (λ found. found) c.whole_request.result reading) (request_only c.args.func c.args.body.now v h) c.whole_request.ensures

pub returns-clause-fault : goal.returns-clause-fault
returns-clause-fault c =
    if_err c.args.func c.args.body.now c.whole_request.result (request_of c.args.func c.args.body.now) c.whole_request.ensures
    (λ fault e. request_fault c.args.func c.args.body.now fault (λ i. omega (arith, c.type_inv.body i)) e)
