use Rattle.port_run.proofs.Asked.{sent, got, interviewed, probed}
use Rattle.port_run.proofs.asking.ask.Goals as goal

pub returns-in-Ok-send-clause-ok : goal.returns-in-Ok-send-clause-ok
returns-in-Ok-send-clause-ok g c =
    sent c.args.host.now c.send.new.self (g.P.Keeper.shelf c.args.keeper.now) c.in-Ok-send.ensures.decoder c.args.line.now _ _ c.in-Send.is c.in-Ok-send.ensures.judged c.in-Ok-send.ensures.ok

pub returns-in-Ok-get-clause-ok : goal.returns-in-Ok-get-clause-ok
returns-in-Ok-get-clause-ok g c =
    got c.args.host.now c.get.new.self (g.P.Keeper.shelf c.args.keeper.now) c.in-Ok-get.ensures.decoder c.args.line.now _ _ c.in-Get.is c.in-Ok-get.ensures.judged c.in-Ok-get.ensures.ok

pub returns-in-Ok-interview-clause-ok : goal.returns-in-Ok-interview-clause-ok
returns-in-Ok-interview-clause-ok g c =
    interviewed c.args.host.now c.interview.new.self (g.P.Keeper.shelf c.args.keeper.now) c.in-Ok-interview.ensures.decoder c.args.line.now _ c.in-Interview.is c.in-Ok-interview.ensures.judged c.in-Ok-interview.ensures.ok

pub returns-in-Ok-ask-clause-ok : goal.returns-in-Ok-ask-clause-ok
returns-in-Ok-ask-clause-ok g c =
    probed c.args.host.now c.ask.new.self (g.P.Keeper.shelf c.args.keeper.now) c.in-Ok-ask.ensures.decoder c.args.line.now c.in-Probe.is c.in-Ok-ask.ensures.judged c.in-Ok-ask.ensures.ok
