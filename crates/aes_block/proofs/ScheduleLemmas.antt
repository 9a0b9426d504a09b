-- The words of the key schedule from the four before.
use Rattle.std.proofs.Common.{◌≡◌, ℕ, suc, ◌+◌, ◌*◌, ◌-◌, ◌/◌, ◌%◌, ◌<◌, ◌≤◌, ◌==◌, false, List, [], ◌∷◌, bit_xor, slice_index, length, refl, ap, sym, ◌∙◌, subst, arith, get_or}
use Rattle.std.specs.Int.Bits.{xor_zero_r}
use Rattle.std.proofs.lemmas.List.FromFn.{fill_by_all}
use Rattle.aes_block.specs.Field.{substituted, times_x_to}
use Rattle.aes_block.specs.Cipher.{schedule_word, addend, sum_of_words, sub_word, rot_word, round_constant, round_key, add_round_key, mix_columns, shift_rows, sub_bytes, state_after, aes}
use Rattle.aes_block.proofs.Columns.{column_more}

-- the recurrence, with the numbers as sums
word_more : (key : List ℕ) (i : ℕ) → schedule_word key (i + 4) ≡ sum_of_words (schedule_word key i) (addend (i + 4) (schedule_word key (i + 3)))
unfolding schedule_word
word_more key i =
    let four : suc (suc (suc (suc i))) ≡ i + 4 = omega arith in
    let three : suc (suc (suc i)) ≡ i + 3 = omega arith in
    subst (λ m. schedule_word key m ≡ sum_of_words (schedule_word key i) (addend (i + 4) (schedule_word key (i + 3)))) four
    (subst (λ m. schedule_word key (suc (suc (suc (suc i)))) ≡ sum_of_words (schedule_word key i) (addend (i + 4) (schedule_word key m))) three refl)

-- at each fourth place the word before is turned, substituted, and has a power of x added
addend_turned : (n : ℕ) (w : List ℕ) → addend (4 * n + 4) w ≡ sum_of_words (sub_word (rot_word w)) (round_constant (n + 1))
unfolding addend
addend_turned n w =
    let e : (4 * n + 4) % 4 ≡ 0 = omega arith in
    let q : (4 * n + 4) / 4 ≡ n + 1 = omega arith in
    rw (e, q)

-- elsewhere it is the word before
addend_plain : (i r : ℕ) (w : List ℕ) → i % 4 ≡ r → (r == 0) ≡ false → addend i w ≡ w
unfolding addend
addend_plain i r w e other = rw (e, other)

-- the first word of the next round key
first_word : (key : List ℕ) (n : ℕ) → schedule_word key (4 * (n + 1) + 0)
    ≡ sum_of_words (schedule_word key (4 * n + 0)) (sum_of_words (sub_word (rot_word (schedule_word key (4 * n + 3)))) (round_constant (n + 1)))
first_word key n =
    let at : 4 * n + 0 + 4 ≡ 4 * (n + 1) + 0 = omega arith in
    let same : 4 * n + 0 + 4 ≡ 4 * n + 4 = omega arith in
    let before : 4 * n + 0 + 3 ≡ 4 * n + 3 = omega arith in
    sym (ap (λ m. schedule_word key m) at) ∙ word_more key (4 * n + 0)
    ∙ ap (λ w. sum_of_words (schedule_word key (4 * n + 0)) w)
    (ap (λ m. addend m (schedule_word key (4 * n + 0 + 3))) same ∙ addend_turned n (schedule_word key (4 * n + 0 + 3))
    ∙ ap (λ m. sum_of_words (sub_word (rot_word (schedule_word key m))) (round_constant (n + 1))) before)

-- each later one, at place b after place a
later_word : (key : List ℕ) (n a b r : ℕ) → a + 1 ≡ b → (4 * n + b + 4) % 4 ≡ r → (r == 0) ≡ false → schedule_word key (4 * (n + 1) + b)
    ≡ sum_of_words (schedule_word key (4 * n + b)) (schedule_word key (4 * (n + 1) + a))
later_word key n a b r next place other =
    let at : 4 * n + b + 4 ≡ 4 * (n + 1) + b = omega arith in
    let before : 4 * n + b + 3 ≡ 4 * (n + 1) + a = omega arith in
    sym (ap (λ m. schedule_word key m) at) ∙ word_more key (4 * n + b)
    ∙ ap (λ w. sum_of_words (schedule_word key (4 * n + b)) w)
    (addend_plain (4 * n + b + 4) r (schedule_word key (4 * n + b + 3)) place other ∙ ap (λ m. schedule_word key m) before)

-- four bytes are those of a word
record IsWord (a0 a1 a2 a3 : ℕ) (w : List ℕ) : Type 0 where
  at0 : a0 ≡ slice_index w 0
  at1 : a1 ≡ slice_index w 1
  at2 : a2 ≡ slice_index w 2
  at3 : a3 ≡ slice_index w 3

-- the bytes of a sum of words
word_sum : (v w x : List ℕ) {a0 a1 a2 a3 : ℕ} → x ≡ sum_of_words v w → IsWord a0 a1 a2 a3 w
    → IsWord (bit_xor (slice_index v 0) a0) (bit_xor (slice_index v 1) a1) (bit_xor (slice_index v 2) a2) (bit_xor (slice_index v 3) a3) x
word_sum v w x sum bytes = record {
  at0 = ap (λ y. bit_xor (slice_index v 0) y) bytes.at0 ∙ sym (ap (λ z. slice_index z 0) sum);
  at1 = ap (λ y. bit_xor (slice_index v 1) y) bytes.at1 ∙ sym (ap (λ z. slice_index z 1) sum);
  at2 = ap (λ y. bit_xor (slice_index v 2) y) bytes.at2 ∙ sym (ap (λ z. slice_index z 2) sum);
  at3 = ap (λ y. bit_xor (slice_index v 3) y) bytes.at3 ∙ sym (ap (λ z. slice_index z 3) sum);
}

-- the turned and substituted word, with the power of x added
turned_word : (w : List ℕ) (n : ℕ) {power s0 s1 s2 s3 : ℕ} → power ≡ times_x_to n 1 → s0 ≡ substituted (slice_index w 1)
    → s1 ≡ substituted (slice_index w 2) → s2 ≡ substituted (slice_index w 3) → s3 ≡ substituted (slice_index w 0)
    → IsWord (bit_xor s0 power) s1 s2 s3 (sum_of_words (sub_word (rot_word w)) (round_constant (n + 1)))
turned_word w n power_is e0 e1 e2 e3 =
    let back : n + 1 - 1 ≡ n = omega arith in
    record {
      at0 = rw (e0, power_is, back) refl;
      at1 = e1 ∙ sym (xor_zero_r _);
      at2 = e2 ∙ sym (xor_zero_r _);
      at3 = e3 ∙ sym (xor_zero_r _);
    }

-- the bytes of the next round key
abbrev next_bytes : (List ℕ) → ℕ → ℕ → ℕ → ℕ → List ℕ
next_bytes k t0 t1 t2 t3 =
    bit_xor (get_or k 0 0) t0 ∷ bit_xor (get_or k 1 0) t1 ∷ bit_xor (get_or k 2 0) t2 ∷ bit_xor (get_or k 3 0) t3
    ∷ bit_xor (get_or k 4 0) (bit_xor (get_or k 0 0) t0) ∷ bit_xor (get_or k 5 0) (bit_xor (get_or k 1 0) t1)
    ∷ bit_xor (get_or k 6 0) (bit_xor (get_or k 2 0) t2) ∷ bit_xor (get_or k 7 0) (bit_xor (get_or k 3 0) t3)
    ∷ bit_xor (get_or k 8 0) (bit_xor (get_or k 4 0) (bit_xor (get_or k 0 0) t0)) ∷ bit_xor (get_or k 9 0) (bit_xor (get_or k 5 0) (bit_xor (get_or k 1 0) t1))
    ∷ bit_xor (get_or k 10 0) (bit_xor (get_or k 6 0) (bit_xor (get_or k 2 0) t2)) ∷ bit_xor (get_or k 11 0) (bit_xor (get_or k 7 0) (bit_xor (get_or k 3 0) t3))
    ∷ bit_xor (get_or k 12 0) (bit_xor (get_or k 8 0) (bit_xor (get_or k 4 0) (bit_xor (get_or k 0 0) t0)))
    ∷ bit_xor (get_or k 13 0) (bit_xor (get_or k 9 0) (bit_xor (get_or k 5 0) (bit_xor (get_or k 1 0) t1)))
    ∷ bit_xor (get_or k 14 0) (bit_xor (get_or k 10 0) (bit_xor (get_or k 6 0) (bit_xor (get_or k 2 0) t2)))
    ∷ bit_xor (get_or k 15 0) (bit_xor (get_or k 11 0) (bit_xor (get_or k 7 0) (bit_xor (get_or k 3 0) t3))) ∷ []

four_words : {a0 a1 a2 a3 b0 b1 b2 b3 c0 c1 c2 c3 d0 d1 d2 d3 : ℕ} (w0 w1 w2 w3 : List ℕ)
    → IsWord a0 a1 a2 a3 w0 → IsWord b0 b1 b2 b3 w1 → IsWord c0 c1 c2 c3 w2 → IsWord d0 d1 d2 d3 w3
    → a0 ∷ a1 ∷ a2 ∷ a3 ∷ b0 ∷ b1 ∷ b2 ∷ b3 ∷ c0 ∷ c1 ∷ c2 ∷ c3 ∷ d0 ∷ d1 ∷ d2 ∷ d3 ∷ []
    ≡ slice_index w0 0 ∷ slice_index w0 1 ∷ slice_index w0 2 ∷ slice_index w0 3
    ∷ slice_index w1 0 ∷ slice_index w1 1 ∷ slice_index w1 2 ∷ slice_index w1 3
    ∷ slice_index w2 0 ∷ slice_index w2 1 ∷ slice_index w2 2 ∷ slice_index w2 3
    ∷ slice_index w3 0 ∷ slice_index w3 1 ∷ slice_index w3 2 ∷ slice_index w3 3 ∷ []
four_words w0 w1 w2 w3 a b c d =
    column_more a.at0 a.at1 a.at2 a.at3 (column_more b.at0 b.at1 b.at2 b.at3
    (column_more c.at0 c.at1 c.at2 c.at3 (column_more d.at0 d.at1 d.at2 d.at3 refl)))

next_from_round_key : (key : List ℕ) (n : ℕ) {power s0 s1 s2 s3 : ℕ} → power ≡ times_x_to n 1
    → s0 ≡ substituted (slice_index (schedule_word key (4 * n + 3)) 1) → s1 ≡ substituted (slice_index (schedule_word key (4 * n + 3)) 2)
    → s2 ≡ substituted (slice_index (schedule_word key (4 * n + 3)) 3) → s3 ≡ substituted (slice_index (schedule_word key (4 * n + 3)) 0)
    → next_bytes (round_key key n) (bit_xor s0 power) s1 s2 s3 ≡ round_key key (n + 1)
unfolding round_key
next_from_round_key key n power_is e0 e1 e2 e3 =
    let t = turned_word (schedule_word key (4 * n + 3)) n power_is e0 e1 e2 e3 in
    let a = word_sum (schedule_word key (4 * n + 0)) _ (schedule_word key (4 * (n + 1) + 0)) (first_word key n) t in
    let b = word_sum (schedule_word key (4 * n + 1)) _ (schedule_word key (4 * (n + 1) + 1)) (later_word key n 0 1 1 refl (omega arith) refl) a in
    let c = word_sum (schedule_word key (4 * n + 2)) _ (schedule_word key (4 * (n + 1) + 2)) (later_word key n 1 2 2 refl (omega arith) refl) b in
    let d = word_sum (schedule_word key (4 * n + 3)) _ (schedule_word key (4 * (n + 1) + 3)) (later_word key n 2 3 3 refl (omega arith) refl) c in
    four_words (schedule_word key (4 * (n + 1) + 0)) (schedule_word key (4 * (n + 1) + 1)) (schedule_word key (4 * (n + 1) + 2)) (schedule_word key (4 * (n + 1) + 3)) a b c d

-- the next round key, in the terms of the code
pub next_round_key_is : (k : List ℕ) (power s0 s1 s2 s3 : ℕ) (key : List ℕ) (n : ℕ) → k ≡ round_key key n → power ≡ times_x_to n 1
    → s0 ≡ substituted (get_or k 13 0) → s1 ≡ substituted (get_or k 14 0) → s2 ≡ substituted (get_or k 15 0) → s3 ≡ substituted (get_or k 12 0)
    → next_bytes k (bit_xor s0 power) s1 s2 s3 ≡ round_key key (n + 1)
unfolding round_key
next_round_key_is k power s0 s1 s2 s3 key n k_is power_is e0 e1 e2 e3 =
    ap (λ z. next_bytes z (bit_xor s0 power) s1 s2 s3) k_is
    ∙ next_from_round_key key n power_is (e0 ∙ ap (λ z. substituted (get_or z 13 0)) k_is) (e1 ∙ ap (λ z. substituted (get_or z 14 0)) k_is)
    (e2 ∙ ap (λ z. substituted (get_or z 15 0)) k_is) (e3 ∙ ap (λ z. substituted (get_or z 12 0)) k_is)

-- a state is its sixteen bytes
pub round_key_0 : (key : List ℕ) → length key ≡ 16 → key ≡ round_key key 0
unfolding round_key schedule_word
round_key_0 key bytes = fill_by_all (λ i. get_or key i 0) key 16 0 bytes (λ k below. refl)

-- the first of several round keys
pub round_key_first : (key : List ℕ) (keys : List (List ℕ)) (n : ℕ) → n < 1 → get_or keys 0 [] ≡ key → length key ≡ 16 → get_or keys n [] ≡ round_key key n
round_key_first key keys n below first bytes =
    let e : 0 ≡ n = omega arith in
    subst (λ m. get_or keys m [] ≡ round_key key m) e (first ∙ round_key_0 key bytes)

-- before the first round
pub state_none : (key block : List ℕ) {k s : List ℕ} → k ≡ round_key key 0 → s ≡ add_round_key block k → s ≡ state_after key block 0
unfolding state_after
state_none key block k_is s_is = s_is ∙ ap (λ k. add_round_key block k) k_is

-- one of the first nine rounds
pub state_more : (key block : List ℕ) (round : ℕ) {s t u v k r : List ℕ} → 1 ≤ round → s ≡ state_after key block (round - 1) → t ≡ sub_bytes s
    → u ≡ shift_rows t → v ≡ mix_columns u → k ≡ round_key key round → r ≡ add_round_key v k → r ≡ state_after key block (round + 1 - 1)
unfolding state_after
state_more key block round {k = k} one s_is t_is u_is v_is k_is r_is =
    let e : round ≡ suc (round - 1) = omega arith in
    let f : suc (round - 1) ≡ round + 1 - 1 = omega arith in
    r_is ∙ ap (λ v. add_round_key v k) (v_is ∙ ap mix_columns (u_is ∙ ap shift_rows (t_is ∙ ap sub_bytes s_is)))
    ∙ ap (λ k. add_round_key (mix_columns (shift_rows (sub_bytes (state_after key block (round - 1))))) k) (k_is ∙ ap (round_key key) e)
    ∙ ap (state_after key block) f

-- the tenth round
pub state_last : (key block : List ℕ) (round : ℕ) {s t u k r : List ℕ} → round - 1 ≡ 9 → s ≡ state_after key block (round - 1) → t ≡ sub_bytes s
    → u ≡ shift_rows t → k ≡ round_key key 10 → r ≡ add_round_key u k → r ≡ aes key block
unfolding aes
state_last key block round {k = k} nine s_is t_is u_is k_is r_is =
    r_is ∙ ap (λ u. add_round_key u k) (u_is ∙ ap shift_rows (t_is ∙ ap sub_bytes (s_is ∙ ap (state_after key block) nine)))
    ∙ ap (add_round_key (shift_rows (sub_bytes (state_after key block 9)))) k_is
