-- A question of one request.
use Rattle.host_core.specs.declared.orders.Question.TheVariants.{Members, Neighbours, Failed}
use Rattle.host_core.proofs.Asked.{asked_as}
use Rattle.host_core.proofs.host.Host.ask.Goals as goal

pub returns-in-Members-clause-ok : goal.returns-in-Members-clause-ok
returns-in-Members-clause-ok c =
    asked_as c.queue_one.result c.args.question Members c.args.self.now.state c.queue_one.new.self.state c.in-Members.is c.queue_one.ensures.ok

pub returns-in-Neighbours-clause-ok : goal.returns-in-Neighbours-clause-ok
returns-in-Neighbours-clause-ok c =
    asked_as c.queue_one-in-Neighbours.result c.args.question (Neighbours c.in-Neighbours.node) c.args.self.now.state c.queue_one-in-Neighbours.new.self.state c.in-Neighbours.is c.queue_one-in-Neighbours.ensures.ok

pub returns-in-Failed-clause-ok : goal.returns-in-Failed-clause-ok
returns-in-Failed-clause-ok c =
    asked_as c.queue_one-in-Failed.result c.args.question (Failed c.in-Failed.node) c.args.self.now.state c.queue_one-in-Failed.new.self.state c.in-Failed.is c.queue_one-in-Failed.ensures.ok
