use Rattle.std.proofs.Common.{◌≡◌, ◌-◌}
use Rattle.aes_block.specs.Cipher.{state_after}
use Rattle.aes_block.specs.Schedule.{first_key}
use Rattle.aes_block.proofs.cipher.Aes128.encrypt.Given as goal

abbrev pub invariant-loop-round : goal.invariant-loop-round
invariant-loop-round l = l.state ≡ state_after (first_key l.self-inside.round_keys) l.fn.block (l.round - 1)
