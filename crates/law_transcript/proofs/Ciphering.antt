-- AES-128 of one block computed round by round, each round key from the one before.
use Rattle.std.specs.Prelude.{zero}
use Rattle.std.proofs.Common.{◌≡◌, ℕ, suc, ◌+◌, List, [], ◌∷◌, bit_xor, length, get_or, refl, ap, sym, ◌∙◌, subst, arith}
use Rattle.aes_block.specs.Field.{substituted, times_x_to}
use Rattle.aes_block.specs.Cipher.{round_key, add_round_key, mix_columns, shift_rows, sub_bytes, state_after, aes}
use Rattle.aes_block.proofs.ScheduleLemmas.{next_round_key_is, round_key_0}

-- the bytes of a round key whose first word is the sum of the first word before it and these four bytes
abbrev next_bytes : List ℕ → ℕ → ℕ → ℕ → ℕ → List ℕ
next_bytes k t0 t1 t2 t3 =
    let a0 = bit_xor (get_or k 0 0) t0 in let a1 = bit_xor (get_or k 1 0) t1 in let a2 = bit_xor (get_or k 2 0) t2 in let a3 = bit_xor (get_or k 3 0) t3 in
    let b0 = bit_xor (get_or k 4 0) a0 in let b1 = bit_xor (get_or k 5 0) a1 in let b2 = bit_xor (get_or k 6 0) a2 in let b3 = bit_xor (get_or k 7 0) a3 in
    let c0 = bit_xor (get_or k 8 0) b0 in let c1 = bit_xor (get_or k 9 0) b1 in let c2 = bit_xor (get_or k 10 0) b2 in let c3 = bit_xor (get_or k 11 0) b3 in
    a0 ∷ a1 ∷ a2 ∷ a3 ∷ b0 ∷ b1 ∷ b2 ∷ b3 ∷ c0 ∷ c1 ∷ c2 ∷ c3
    ∷ bit_xor (get_or k 12 0) c0 ∷ bit_xor (get_or k 13 0) c1 ∷ bit_xor (get_or k 14 0) c2 ∷ bit_xor (get_or k 15 0) c3 ∷ []

-- the round key after that of round n
abbrev next_key : ℕ → List ℕ → List ℕ
next_key n k = next_bytes k (bit_xor (substituted (get_or k 13 0)) (times_x_to n 1)) (substituted (get_or k 14 0)) (substituted (get_or k 15 0)) (substituted (get_or k 12 0))

next_key_is : (key k : List ℕ) (n : ℕ) → k ≡ round_key key n → next_key n k ≡ round_key key (n + 1)
next_key_is key k n is = next_round_key_is k (times_x_to n 1) (substituted (get_or k 13 0)) (substituted (get_or k 14 0)) (substituted (get_or k 15 0)) (substituted (get_or k 12 0)) key n is refl refl refl refl refl

-- so many of the first nine rounds and the tenth, from the state and the key of round n
unfoldable pub rounds : ℕ → ℕ → List ℕ → List ℕ → List ℕ
rounds zero n k s = add_round_key (shift_rows (sub_bytes s)) (next_key n k)
rounds (suc more) n k s =
    let next = next_key n k in rounds more (n + 1) next (add_round_key (mix_columns (shift_rows (sub_bytes s))) next)

rounds_are : (key block : List ℕ) (more n : ℕ) (k s : List ℕ) → more + n ≡ 9 → k ≡ round_key key n → s ≡ state_after key block n
    → rounds more n k s ≡ aes key block
unfolding rounds aes state_after
rounds_are key block zero n k s nine k_is s_is =
    let last : n ≡ 9 = omega (arith, nine) in
    ap (λ k. add_round_key (shift_rows (sub_bytes s)) k) (next_key_is key k n k_is ∙ ap (λ m. round_key key (m + 1)) last)
    ∙ ap (λ s. add_round_key (shift_rows (sub_bytes s)) (round_key key 10)) (s_is ∙ ap (state_after key block) last)
rounds_are key block (suc more) n k s nine k_is s_is =
    let next = next_key_is key k n k_is in
    let is : suc n ≡ n + 1 = omega arith in
    rounds_are key block more (n + 1) (next_key n k) _ (omega arith) next
    (ap (λ k. add_round_key (mix_columns (shift_rows (sub_bytes s))) k) next
    ∙ ap (λ s. add_round_key (mix_columns (shift_rows (sub_bytes s))) (round_key key (n + 1))) s_is
    ∙ subst (λ m. add_round_key (mix_columns (shift_rows (sub_bytes (state_after key block n)))) (round_key key m) ≡ state_after key block m) is refl)

-- a block by its rounds
pub enciphered : (key block : List ℕ) → length key ≡ 16 → aes key block ≡ rounds 9 0 key (add_round_key block key)
unfolding state_after
enciphered key block bytes =
    let first = round_key_0 key bytes in
    sym (rounds_are key block 9 0 key (add_round_key block key) refl first (ap (λ k. add_round_key block k) first))
