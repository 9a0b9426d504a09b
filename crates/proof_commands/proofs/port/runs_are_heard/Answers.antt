-- Its host goes on from what hosts heard before.
use Rattle.run_all.specs.host_core.Network.{keys_of}
use Rattle.run_all.specs.port_run.Ending.{start_of}
use Rattle.proof_commands.proofs.PortHearing.{heard_so}
use Rattle.proof_commands.proofs.port.runs_are_heard.Goals as goal

pub returns-clause-first : goal.returns-clause-first
returns-clause-first c = λ key number old. c.served_steps_are_heard.ensures.first (keys_of key) number old.shelf.records

pub returns-clause-heard : goal.returns-clause-heard
returns-clause-heard c = λ ended key number texts old new ran past before.
    heard_so c.served_steps_are_heard.ensures.runs c.served_steps_are_heard.ensures.cuts (keys_of key) number texts old new past before.clock
    (λ started whole steps last outs orderly went.
    c.served_steps_are_heard.ensures.more (keys_of key) number old.shelf.records past before (start_of started) started.opens started.records whole steps last outs orderly went)
    ran.end ran.ended
