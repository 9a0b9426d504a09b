-- What a message gives that was sealed, and what the refusals exclude.
use Rattle.std.proofs.Common.{◌≡◌, ◌↔◌, ℕ, zero, suc, ◌+◌, ◌-◌, ◌/◌, ◌<◌, ◌≤◌, List, [], ◌∷◌, ◌++◌, length, take, drop, bit_xor, slice_index, Result, Err, IsErrOf, IsTrue, Bool, true, false, refl, ap, sym, ◌∙◌, arith}
use Rattle.std.proofs.lemmas.List.{length-take-le, length-take, length-drop, drop_more, take_rest}
use Rattle.aes_block.specs.Cipher.{aes, add_round_key}
use Rattle.s0_crypto.specs.declared.key_pair.Keys.{Keys}
use Rattle.s0_crypto.specs.declared.ends.SealEnds.{SealEnds}
use Rattle.s0_crypto.specs.declared.fault.SealFault.{SealFault}
use Rattle.s0_crypto.specs.declared.fault.SealFault.TheVariants.{BadCode, Sequence}
use Rattle.s0_crypto.specs.Modes.{chained, cbc_mac, key_block, ofb_from, stream_byte}
use Rattle.s0_crypto.specs.Seal.{Seals, covered, code_of}
use Rattle.s0_crypto.specs.Opening.{sender_nonce_in, cipher_text_in, code_wanted, sequence_in, vector_of, IsCoded, IsBadlyCoded, HasOtherSequence, IsGood}
use Rattle.s0_crypto.proofs.MessageLemmas.{length_of_layout, nonce_of_layout, text_of_layout, code_of_layout, layout_of_parts}
use Rattle.s0_crypto.proofs.StreamLemmas.{length-ofb_from, first_zero, ofb_injective, opened_text}

pub length-chained : (key text : List ℕ) (i : ℕ) → length (chained key text i) ≡ 16
unfolding chained aes add_round_key
length-chained key text zero = refl
length-chained key text (suc i) = refl

-- a code has eight bytes
pub length-code_of : (keys : Keys) (vector : List ℕ) (ends : SealEnds) (text : List ℕ) → length (code_of keys vector ends text) ≡ 8
unfolding code_of cbc_mac
length-code_of keys vector ends text =
    let whole = length-chained keys.code (covered vector ends text) ((length (covered vector ends text) + 15) / 16) in
    length-take-le 8 (chained keys.code (covered vector ends text) ((length (covered vector ends text) + 15) / 16)) (omega arith)

-- the sender's nonce and the cipher text of what was sealed
sealed_nonce : (keys : Keys) (sn rn : List ℕ) (ends : SealEnds) (plain bytes : List ℕ) → length sn ≡ 8 → Seals keys sn rn ends plain bytes → sender_nonce_in bytes ≡ sn
sealed_nonce keys sn rn ends plain bytes n s = nonce_of_layout sn s.cipher_text _ _ n s.layout

sealed_text : (keys : Keys) (sn rn : List ℕ) (ends : SealEnds) (plain bytes : List ℕ) → length sn ≡ 8 → Seals keys sn rn ends plain bytes
    → cipher_text_in bytes ≡ ofb_from keys.encrypt (sn ++ rn) 0 (0 ∷ plain)
sealed_text keys sn rn ends plain bytes n s =
    text_of_layout sn s.cipher_text (code_of keys (sn ++ rn) ends s.cipher_text) _ bytes n (length-code_of keys (sn ++ rn) ends s.cipher_text) s.layout ∙ s.enciphers

-- what was sealed is good
pub good_from_seals : (keys : Keys) (sn rn : List ℕ) (ends : SealEnds) (plain bytes : List ℕ) → length sn ≡ 8 → Seals keys sn rn ends plain bytes → IsGood keys rn ends bytes
good_from_seals keys sn rn ends plain bytes n s =
    let eight = length-code_of keys (sn ++ rn) ends s.cipher_text in
    let size = length_of_layout sn s.cipher_text (code_of keys (sn ++ rn) ends s.cipher_text) _ n eight s.layout in
    let whole : length s.cipher_text ≡ suc (length plain) = ap length s.enciphers ∙ length-ofb_from keys.encrypt (sn ++ rn) 0 (0 ∷ plain) in
    let nonce = sealed_nonce keys sn rn ends plain bytes n s in
    let text = text_of_layout sn s.cipher_text (code_of keys (sn ++ rn) ends s.cipher_text) _ bytes n eight s.layout in
    record {
      coded = record {
        long = omega arith;
        code = ap (λ v. code_of keys (v ++ rn) ends (cipher_text_in bytes)) nonce ∙ ap (code_of keys (sn ++ rn) ends) text
            ∙ sym (code_of_layout sn s.cipher_text (code_of keys (sn ++ rn) ends s.cipher_text) _ bytes n eight s.layout);
      };
      zero = ap (λ v. bit_xor (slice_index (cipher_text_in bytes) 0) (stream_byte keys.encrypt (v ++ rn) 0)) nonce
          ∙ ap (λ t. bit_xor (slice_index t 0) (stream_byte keys.encrypt (sn ++ rn) 0)) (text ∙ s.enciphers)
          ∙ first_zero keys.encrypt (sn ++ rn) plain;
    }

-- two plain texts of one message are one
pub one_plain_text : (keys : Keys) (sn rn : List ℕ) (ends : SealEnds) (p q bytes : List ℕ) → length sn ≡ 8 → length (sender_nonce_in bytes) ≡ 8
    → Seals keys (sender_nonce_in bytes) rn ends p bytes → Seals keys sn rn ends q bytes → p ≡ q
one_plain_text keys sn rn ends p q bytes n m s t =
    ofb_injective keys.encrypt (sn ++ rn) p q
    (ap (λ v. ofb_from keys.encrypt (v ++ rn) 0 (0 ∷ p)) (sym (sealed_nonce keys sn rn ends q bytes n t))
    ∙ sym (sealed_text keys (sender_nonce_in bytes) rn ends p bytes m s) ∙ sealed_text keys sn rn ends q bytes n t)

-- the code that the code computes
pub wanted_is : (keys : Keys) (rn : List ℕ) (ends : SealEnds) (bytes : List ℕ) {nonce vector want : List ℕ} → nonce ≡ sender_nonce_in bytes → vector ≡ nonce ++ rn
    → want ≡ take 8 (cbc_mac keys.code (covered vector ends (cipher_text_in bytes))) → want ≡ code_wanted keys rn ends bytes
unfolding code_of
wanted_is keys rn ends bytes nonce_is vector_is want_is =
    want_is ∙ ap (λ v. take 8 (cbc_mac keys.code (covered v ends (cipher_text_in bytes)))) (vector_is ∙ ap (λ n. n ++ rn) nonce_is)

-- the first key block, and the sequence byte that the code computes
pub block_is : (key rn bytes : List ℕ) {nonce vector block : List ℕ} → nonce ≡ sender_nonce_in bytes → vector ≡ nonce ++ rn → block ≡ aes key vector
    → block ≡ key_block key (vector_of rn bytes) 1
unfolding key_block
block_is key rn bytes nonce_is vector_is encrypted = encrypted ∙ ap (aes key) (vector_is ∙ ap (λ n. n ++ rn) nonce_is)

pub sequence_is : (keys : Keys) (rn bytes : List ℕ) {block : List ℕ} → block ≡ key_block keys.encrypt (vector_of rn bytes) 1
    → bit_xor (slice_index (cipher_text_in bytes) 0) (slice_index block 0) ≡ sequence_in keys rn bytes
sequence_is keys rn bytes e = ap (λ b. bit_xor (slice_index (cipher_text_in bytes) 0) (slice_index b 0)) e

clash : {keys : Keys} {rn : List ℕ} {ends : SealEnds} {bytes want got : List ℕ} → IsCoded keys rn ends bytes → IsBadlyCoded keys rn ends bytes want got → ⊥
clash coded bad = bad.differ (bad.is_wanted ∙ coded.code ∙ sym bad.is_got)

-- the clause on BadCode, where that is the answer
pub bad_code_told : {T : Type 0} (keys : Keys) (rn : List ℕ) (ends : SealEnds) (bytes w g : List ℕ) → IsBadlyCoded keys rn ends bytes w g
    → (want got : List ℕ) → IsErrOf {T = T} (Err (BadCode w g)) (BadCode want got) ↔ IsBadlyCoded keys rn ends bytes want got
bad_code_told keys rn ends bytes w g bad want got = (
  λ e.
      let a : w ≡ want = cc e in
      let b : g ≡ got = cc e in
      record { long = bad.long; is_wanted = sym a ∙ bad.is_wanted; is_got = sym b ∙ bad.is_got; differ = λ same. bad.differ (a ∙ same ∙ sym b) },
  λ other.
      let a : w ≡ want = bad.is_wanted ∙ sym other.is_wanted in
      let b : g ≡ got = bad.is_got ∙ sym other.is_got in
      cc (a, b),
)

-- the clause on BadCode, where the code is right
pub no_bad_code : {T : Type 0} (keys : Keys) (rn : List ℕ) (ends : SealEnds) (bytes : List ℕ) (r : Result T SealFault) → IsCoded keys rn ends bytes
    → ((want got : List ℕ) → r ≡ Err (BadCode want got) → ⊥)
    → (want got : List ℕ) → IsErrOf r (BadCode want got) ↔ IsBadlyCoded keys rn ends bytes want got
no_bad_code keys rn ends bytes r coded other_answer want got = (λ e. absurd (other_answer want got e), λ bad. absurd (clash coded bad))

-- the clause on Sequence, where that is the answer
pub sequence_told : {T : Type 0} (keys : Keys) (rn : List ℕ) (ends : SealEnds) (bytes : List ℕ) (b : ℕ) → HasOtherSequence keys rn ends bytes b
    → (byte : ℕ) → IsErrOf {T = T} (Err (Sequence b)) (Sequence byte) ↔ HasOtherSequence keys rn ends bytes byte
sequence_told keys rn ends bytes b has byte = (
  λ e.
      let a : b ≡ byte = cc e in
      record { coded = has.coded; is_sequence = sym a ∙ has.is_sequence; not_zero = λ z. has.not_zero (a ∙ z) },
  λ other.
      let a : b ≡ byte = has.is_sequence ∙ sym other.is_sequence in
      cc a,
)

-- the clause on Sequence, where it is no answer
pub no_sequence : {T : Type 0} (keys : Keys) (rn : List ℕ) (ends : SealEnds) (bytes : List ℕ) (r : Result T SealFault)
    → ((byte : ℕ) → HasOtherSequence keys rn ends bytes byte → ⊥) → ((byte : ℕ) → r ≡ Err (Sequence byte) → ⊥)
    → (byte : ℕ) → IsErrOf r (Sequence byte) ↔ HasOtherSequence keys rn ends bytes byte
no_sequence keys rn ends bytes r never other_answer byte = (λ e. absurd (other_answer byte e), λ other. absurd (never byte other))

pub never_badly_coded : (keys : Keys) (rn : List ℕ) (ends : SealEnds) (bytes w g : List ℕ) → IsBadlyCoded keys rn ends bytes w g
    → (byte : ℕ) → HasOtherSequence keys rn ends bytes byte → ⊥
never_badly_coded keys rn ends bytes w g bad byte other = clash other.coded bad

pub never_good : (keys : Keys) (rn : List ℕ) (ends : SealEnds) (bytes : List ℕ) → IsGood keys rn ends bytes
    → (byte : ℕ) → HasOtherSequence keys rn ends bytes byte → ⊥
never_good keys rn ends bytes good byte other = other.not_zero (other.is_sequence ∙ good.zero)

-- a sealed message is not refused for its code or its sequence byte
pub sealed_not_bad : (keys : Keys) (rn : List ℕ) (ends : SealEnds) (bytes w g sn plain : List ℕ) → IsBadlyCoded keys rn ends bytes w g → length sn ≡ 8
    → Seals keys sn rn ends plain bytes → ⊥
sealed_not_bad keys rn ends bytes w g sn plain bad n s = clash (good_from_seals keys sn rn ends plain bytes n s).coded bad

pub sealed_not_other : (keys : Keys) (rn : List ℕ) (ends : SealEnds) (bytes : List ℕ) (b : ℕ) (sn plain : List ℕ) → HasOtherSequence keys rn ends bytes b
    → length sn ≡ 8 → Seals keys sn rn ends plain bytes → ⊥
sealed_not_other keys rn ends bytes b sn plain has n s = never_good keys rn ends bytes (good_from_seals keys sn rn ends plain bytes n s) b has

-- a good message seals what it is opened to
pub seals_from_parts : (keys : Keys) (rn : List ℕ) (ends : SealEnds) (bytes plain : List ℕ) → IsGood keys rn ends bytes
    → take 2 bytes ≡ 0x98 ∷ 0x81 ∷ [] → slice_index bytes (length bytes - 9) ≡ slice_index rn 0
    → plain ≡ ofb_from keys.encrypt (vector_of rn bytes) 1 (take (length (cipher_text_in bytes) - 1) (drop 1 (cipher_text_in bytes))) → Seals keys (sender_nonce_in bytes) rn ends plain bytes
seals_from_parts keys rn ends bytes plain good header named plain_is =
    let some : 0 < length (cipher_text_in bytes) = simp (length-take, length-drop) (omega (arith, good.coded.long)) in
    let split : cipher_text_in bytes ≡ slice_index (cipher_text_in bytes) 0 ∷ drop 1 (cipher_text_in bytes) = drop_more (cipher_text_in bytes) 0 0 some in
    record {
      cipher_text = cipher_text_in bytes;
      enciphers = split ∙ opened_text keys.encrypt (vector_of rn bytes) (slice_index (cipher_text_in bytes) 0) (drop 1 (cipher_text_in bytes)) plain good.zero
          (plain_is ∙ ap (ofb_from keys.encrypt (vector_of rn bytes) 1) (take_rest (cipher_text_in bytes) 1));
      layout = layout_of_parts bytes (slice_index rn 0) good.coded.long header named
          ∙ ap (λ code. 0x98 ∷ 0x81 ∷ (sender_nonce_in bytes ++ (cipher_text_in bytes ++ slice_index rn 0 ∷ code))) (sym good.coded.code);
    }

-- what a test of two codes says
pub not_same : {b : Bool} {P : Type 0} → IsTrue b ↔ P → b ≡ false → P → ⊥
not_same {b = b} told is_false p = let truth : IsTrue b = told.1 p in cc

pub is_same : {b : Bool} {P : Type 0} → IsTrue b ↔ P → b ≡ true → P
is_same told is_true = told.0 is_true

-- the parts that the code computes, where the codes differ
pub badly : (keys : Keys) (rn : List ℕ) (ends : SealEnds) (bytes : List ℕ) {nonce vector want got : List ℕ} {b : Bool} → 20 ≤ length bytes
    → nonce ≡ sender_nonce_in bytes → vector ≡ nonce ++ rn → want ≡ take 8 (cbc_mac keys.code (covered vector ends (cipher_text_in bytes))) → got ≡ take (length bytes - (length bytes - 8)) (drop (length bytes - 8) bytes)
    → IsTrue b ↔ (want ≡ got) → b ≡ false → IsBadlyCoded keys rn ends bytes want got
badly keys rn ends bytes long nonce_is vector_is want_is got_is told is_false = record {
  long = long;
  is_wanted = wanted_is keys rn ends bytes nonce_is vector_is want_is;
  is_got = got_is ∙ take_rest bytes (length bytes - 8);
  differ = not_same told is_false;
}

-- the parts that the code computes, where the codes agree
pub coded : (keys : Keys) (rn : List ℕ) (ends : SealEnds) (bytes : List ℕ) {nonce vector want got : List ℕ} {b : Bool} → 20 ≤ length bytes
    → nonce ≡ sender_nonce_in bytes → vector ≡ nonce ++ rn → want ≡ take 8 (cbc_mac keys.code (covered vector ends (cipher_text_in bytes))) → got ≡ take (length bytes - (length bytes - 8)) (drop (length bytes - 8) bytes)
    → IsTrue b ↔ (want ≡ got) → b ≡ true → IsCoded keys rn ends bytes
coded keys rn ends bytes long nonce_is vector_is want_is got_is told is_true = record {
  long = long;
  code = sym (wanted_is keys rn ends bytes nonce_is vector_is want_is) ∙ is_same told is_true ∙ got_is ∙ take_rest bytes (length bytes - 8);
}

-- two bytes are the prefix
pub header_of : (bytes : List ℕ) → 20 ≤ length bytes → slice_index bytes 0 ≡ 0x98 → slice_index bytes 1 ≡ 0x81 → take 2 bytes ≡ 0x98 ∷ 0x81 ∷ []
header_of [] long p q = absurd (omega arith)
header_of (x ∷ []) long p q = absurd (omega arith)
header_of (x ∷ y ∷ rest) long p q = cc (p, q)
