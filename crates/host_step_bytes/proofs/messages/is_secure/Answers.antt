-- Its class list has the class.
use Rattle.host_step_bytes.proofs.OneMessage.{secure_is}
use Rattle.host_step_bytes.proofs.messages.is_secure.Goals as goal

pub returns-in-Some : goal.returns-in-Some
returns-in-Some c = secure_is c.args.node.now.classes c.in-Some.classes.now c.contains.result c.in-Some.ensures c.contains.ensures.value
