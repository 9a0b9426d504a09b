-- The words of a ChaCha20 stream as bytes (Bernstein's ChaCha20: a 64-bit block counter and a 64-bit stream number).
use Rattle.std.specs.Prelude.{ℕ, ◌+◌, ◌%◌, ◌^◌, List, ◌++◌}
use Rattle.std.specs.Int.{w32, to_le_bytes}
use Rattle.rand_chacha.specs.ChaCha.{ChaCha, word_at}

-- the word at a place of the generator's stream, its low byte first
abbrev pub word_bytes : ChaCha → ℕ → List ℕ
word_bytes generator place = to_le_bytes w32 (word_at 10 generator.key generator.stream place)

-- the word at the generator's place and the one after it. The stream has 2 ^ 68 words and then begins again
abbrev pub two_words : ChaCha → List ℕ
two_words generator =
    word_bytes generator generator.word_pos ++ word_bytes generator ((generator.word_pos + 1) % 2 ^ 68)
