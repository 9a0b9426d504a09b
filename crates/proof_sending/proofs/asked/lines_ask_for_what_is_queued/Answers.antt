-- By the entries one after another.
use Rattle.std.proofs.Common.{[]}
use Rattle.proof_sending.proofs.AskedLines.{asked_stays, get_asks, send_asks}
use Rattle.proof_sending.proofs.asked.lines_ask_for_what_is_queued.Goals as goal

pub returns-clause-stays : goal.returns-clause-stays
returns-clause-stays c = λ listing past told one none has. asked_stays listing [] past told one none has

pub returns-clause-send : goal.returns-clause-send
returns-clause-send c = λ listing past words h node word knows read. send_asks listing past words h node word knows read

pub returns-clause-get : goal.returns-clause-get
returns-clause-get c = λ listing past words h node end knows read. get_asks listing past words h node end knows read
