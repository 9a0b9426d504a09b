-- How long the payloads of Security 0 are.
use Rattle.std.proofs.Common.{◌≡◌, ℕ, zero, suc, ◌+◌, ◌<◌, List, [], ◌∷◌, ◌++◌, length, slice_index, refl, sym, ◌∙◌, ap, subst, arith, length-append}
use Rattle.std.specs.Prelude.{All, slice_index_or}
use Rattle.s0_crypto.specs.declared.key_pair.Keys.{Keys}
use Rattle.s0_crypto.specs.declared.ends.SealEnds.{SealEnds}
use Rattle.s0_crypto.specs.Seal.{Seals, code_of}
use Rattle.s0_crypto.proofs.OpeningLemmas.{length-code_of}
use Rattle.s0_crypto.proofs.StreamLemmas.{length-ofb_from}
use Rattle.class_core.specs.Cell.{written}
use Rattle.class_info.specs.Values.{wholes}
use Rattle.class_info.specs.declared.message.InfoMessage.TheVariants.{NonceReport}
use Rattle.class_info.specs.InfoSpelling.{form}
use Rattle.device_kinds.specs.Worded.{IsShort, IsPayload}

length-wholes : (bs : List ℕ) → length (written (wholes bs)) ≡ length bs
length-wholes [] = refl
length-wholes (b ∷ bs) = ap suc (length-wholes bs)

-- a nonce fits into a payload
pub nonce_payload : (nonce bytes : List ℕ) → length nonce ≡ 8 → bytes ≡ form (NonceReport nonce) → IsPayload bytes
nonce_payload nonce bytes eight is =
    let ten : length bytes ≡ suc (suc (length (written (wholes nonce)))) = ap length is in
    let same = length-wholes nonce in
    record { some = omega arith; short = omega arith }

-- what is sealed fits into a payload
pub sealed_payload : (keys : Keys) (own nonce : List ℕ) (ends : SealEnds) (plain bytes : List ℕ) → length own ≡ 8 → IsShort plain
    → Seals keys own nonce ends plain bytes → IsPayload bytes
sealed_payload keys own nonce ends plain bytes eight short s =
    let text : length s.cipher_text ≡ suc (length plain) = ap length s.enciphers ∙ length-ofb_from keys.encrypt (own ++ nonce) 0 (0 ∷ plain) in
    let code = length-code_of keys (own ++ nonce) ends s.cipher_text in
    let inner = length-append s.cipher_text (slice_index nonce 0 ∷ code_of keys (own ++ nonce) ends s.cipher_text) in
    let outer = length-append own (s.cipher_text ++ slice_index nonce 0 ∷ code_of keys (own ++ nonce) ends s.cipher_text) in
    let all : length bytes ≡ suc (suc (length (own ++ (s.cipher_text ++ slice_index nonce 0 ∷ code_of keys (own ++ nonce) ends s.cipher_text)))) = ap length s.layout in
    let few = short.short in
    record { some = omega arith; short = omega arith }

-- one payload alone
pub only_payload : (bytes : List ℕ) (out : List (List ℕ)) → out ≡ bytes ∷ [] → IsPayload bytes → All IsPayload out
only_payload bytes out e is = subst (λ (x : List (List ℕ)). All IsPayload x) (sym e) (λ k d less. by k d less)
  where
    by : (k : ℕ) (d : List ℕ) → k < length (bytes ∷ []) → IsPayload (slice_index_or (bytes ∷ []) k d)
    by zero d less = is
    by (suc k) d less = absurd (omega arith)
