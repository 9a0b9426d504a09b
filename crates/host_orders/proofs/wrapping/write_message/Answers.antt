use Rattle.host_orders.proofs.Lengths.{few_values}
use Rattle.host_orders.proofs.wrapping.write_message.Goals as goal

pub commands-requires-clause-short : goal.commands-requires-clause-short
commands-requires-clause-short c = few_values c.args.carriage.actuator c.args.order.now.what c.requires.short
