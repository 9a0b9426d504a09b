use Rattle.std.proofs.Common.{subst, arith}
use Rattle.chip_functions.specs.Place.{Gives}
use Rattle.chip_functions.specs.Notice.{IsNoticeBody, notice_of}
use Rattle.chip_functions.proofs.RowLaws.{if_ok, if_err}
use Rattle.chip_functions.proofs.NoticeLaws.{notice_found, notice_only, notice_fault}
use Rattle.chip_functions.proofs.reading.notices.read_notice.Goals as goal

pub returns-clause-found : goal.returns-clause-found
returns-clause-found c =
    if_ok c.first_notice.result (notice_of c.args.func c.args.body.now) (λ v. IsNoticeBody c.args.func c.args.body.now v) c.first_notice.ensures
    (λ v e. notice_found c.args.func c.args.body.now v (λ i. omega (arith, c.type_inv.body i)) e)

pub returns-clause-only : goal.returns-clause-only
returns-clause-only c = λ v h. subst (λ reading. Gives (λ found. found) c.first_notice.result reading) (notice_only c.args.func c.args.body.now v h) c.first_notice.ensures

pub returns-clause-fault : goal.returns-clause-fault
returns-clause-fault c =
    if_err c.args.func c.args.body.now c.first_notice.result (notice_of c.args.func c.args.body.now) c.first_notice.ensures
    (λ fault e. notice_fault c.args.func c.args.body.now fault (λ i. omega (arith, c.type_inv.body i)) e)
