use Rattle.device_kinds.proofs.WordedLemmas.{short_form}
use Rattle.device_kinds.proofs.answers.bare.Goals as goal

pub returns-clause-short : goal.returns-clause-short
returns-clause-short c = short_form c.args.message.now c.in_ok-write.field-0 c.requires c.in_ok-write.ensures.form
