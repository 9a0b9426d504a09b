use Rattle.std.proofs.Common.{◌≡◌, ℕ, ◌+◌, ◌<◌, length, bit_xor, slice_index}
use Rattle.s0_crypto.specs.Seal.{covered}
use Rattle.s0_crypto.proofs.code.add_block.Given as goal

abbrev pub invariant-loop-j : goal.invariant-loop-j
invariant-loop-j l = record {
  filled : length l.sum ≡ 16;
  each : (k : ℕ) → k < l.j → slice_index l.sum k ≡ bit_xor (slice_index l.chained k) (slice_index (covered l.vector l.ends l.cipher_text) (l.first + k));
}
