use Rattle.aes_block.proofs.ScheduleLemmas.{next_round_key_is}
use Rattle.aes_block.proofs.key_schedule.next_round_key.Goals as goal

pub returns : goal.returns
returns c = λ key n k_is power_is.
    next_round_key_is c.args.k.now c.args.power c.substitute.result c.substitute-2.result c.substitute-3.result c.substitute-4.result
    key n k_is power_is c.substitute.ensures c.substitute-2.ensures c.substitute-3.ensures c.substitute-4.ensures
