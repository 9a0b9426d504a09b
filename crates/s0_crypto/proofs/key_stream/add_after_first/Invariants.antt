use Rattle.std.proofs.Common.{◌≡◌, ℕ, ◌+◌, ◌/◌, ◌++◌, List, map, bit_xor, slice_index}
use Rattle.std.specs.List.{range_with_len}
use Rattle.s0_crypto.specs.Modes.{key_block, stream_byte}
use Rattle.s0_crypto.proofs.key_stream.add_after_first.Given as goal

abbrev pub invariant-loop-i : goal.invariant-loop-i
invariant-loop-i l = record {
  block : (vector : List ℕ) → l.fn.block ≡ key_block l.cipher vector 1 → l.block ≡ key_block l.cipher vector (l.i / 16 + 1);
  out : (vector : List ℕ) → l.fn.block ≡ key_block l.cipher vector 1
      → l.out ≡ l.fn.out ++ map (λ j. bit_xor (slice_index l.text j) (stream_byte l.cipher vector (1 + j))) (range_with_len 0 l.i);
}
