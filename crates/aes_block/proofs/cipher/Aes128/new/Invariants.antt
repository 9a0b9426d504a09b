use Rattle.std.proofs.Common.{◌≡◌, ℕ, ◌<◌, ◌+◌, length, slice_index_or, []}
use Rattle.aes_block.specs.Field.{times_x_to}
use Rattle.aes_block.specs.Cipher.{round_key}
use Rattle.aes_block.proofs.cipher.Aes128.new.Given as goal

abbrev pub invariant-loop-round : goal.invariant-loop-round
invariant-loop-round l = record {
  filled : length l.round_keys ≡ 11;
  first : slice_index_or l.round_keys 0 [] ≡ l.fn.key;
  each : (n : ℕ) → n < l.round + 1 → slice_index_or l.round_keys n [] ≡ round_key l.fn.key n;
  power : l.power ≡ times_x_to l.round 1;
}
