-- What opens is what the function says, and so is what is sealed.
use Rattle.std.proofs.Common.{◌≡◌, ℕ, ◌-◌, ◌≤◌, List, ◌∷◌, ◌++◌, length, Bool, true, false, refl, sym, ◌∙◌, ap, arith, length-drop}
use Rattle.std.specs.Prelude.{Some, None, nat_le, slice_index, ◌==◌, ◌&&◌}
use Rattle.std.specs.Bool.{Decides}
use Rattle.std.specs.Str.{bytes_eq}
use Rattle.std.proofs.lemmas.Bool.Decides.{Decides-eqb, Decides-and, Decides-like, nat_tests}
use Rattle.std.proofs.lemmas.Slice.Eq.{bytes_eq-Decides}
use Rattle.std.proofs.lemmas.List.{length-take}
use Rattle.s0_crypto.specs.declared.key_pair.Keys.{Keys}
use Rattle.s0_crypto.specs.declared.ends.SealEnds.{SealEnds}
use Rattle.s0_crypto.specs.Seal.{Seals, code_of}
use Rattle.s0_crypto.specs.Opening.{sender_nonce_in, code_wanted, code_in, sequence_in, IsGood, IsBadlyCoded, HasOtherSequence}
use Rattle.s0_crypto.proofs.OpeningLemmas.{good_from_seals, seals_from_parts, header_of}
use Rattle.s0_crypto.specs.Sealing.{plain_in, is_good, unsealed_at, sealed_text}

pub leb_decides : (a b : ℕ) → Decides (nat_le a b) (a ≤ b)
leb_decides a b = (λ e. grind (arith, nat_tests), λ h. grind (arith, nat_tests))

good_decides : (keys : Keys) (nonce : List ℕ) (ends : SealEnds) (bytes : List ℕ) → Decides (is_good keys nonce ends bytes) (IsGood keys nonce ends bytes)
good_decides keys nonce ends bytes =
    Decides-like (is_good keys nonce ends bytes)
    (λ p. record { coded = record { long = p.0.0; code = p.0.1 }; zero = p.1 })
    (λ g. ((g.coded.long, g.coded.code), g.zero))
    (Decides-and (nat_le 20 (length bytes) && bytes_eq (code_wanted keys nonce ends bytes) (code_in bytes)) (sequence_in keys nonce bytes == 0)
    (Decides-and (nat_le 20 (length bytes)) (bytes_eq (code_wanted keys nonce ends bytes) (code_in bytes))
    (leb_decides 20 (length bytes)) (bytes_eq-Decides (code_wanted keys nonce ends bytes) (code_in bytes)))
    (Decides-eqb (sequence_in keys nonce bytes) 0))

opens_to : (keys : Keys) (nonce : List ℕ) (ends : SealEnds) (bytes : List ℕ) → IsGood keys nonce ends bytes
    → unsealed_at keys nonce ends bytes ≡ Some (plain_in keys nonce bytes)
unfolding unsealed_at
opens_to keys nonce ends bytes good = rw ((good_decides keys nonce ends bytes).1 good) refl

pub is_false : {P : Type 0} (r : Bool) → Decides r P → (¬ P) → r ≡ false
is_false true d h = absurd (h (d.0 refl))
is_false false d h = refl

pub stays_shut : (keys : Keys) (nonce : List ℕ) (ends : SealEnds) (bytes : List ℕ) → (¬ IsGood keys nonce ends bytes) → None ≡ unsealed_at keys nonce ends bytes
unfolding unsealed_at
stays_shut keys nonce ends bytes bad = sym (rw (is_false (is_good keys nonce ends bytes) (good_decides keys nonce ends bytes) bad) refl)

-- a message with another code, or with another sequence byte, stays shut
pub badly_coded : (keys : Keys) (nonce : List ℕ) (ends : SealEnds) (bytes want got : List ℕ) → IsBadlyCoded keys nonce ends bytes want got → None ≡ unsealed_at keys nonce ends bytes
badly_coded keys nonce ends bytes want got b = stays_shut keys nonce ends bytes (λ g. b.differ (b.is_wanted ∙ g.coded.code ∙ sym b.is_got))

pub other_sequence : (keys : Keys) (nonce : List ℕ) (ends : SealEnds) (bytes : List ℕ) (byte : ℕ) → HasOtherSequence keys nonce ends bytes byte → None ≡ unsealed_at keys nonce ends bytes
other_sequence keys nonce ends bytes byte s = stays_shut keys nonce ends bytes (λ g. s.not_zero (s.is_sequence ∙ g.zero))

pub opened_is : (keys : Keys) (nonce : List ℕ) (ends : SealEnds) (bytes plain : List ℕ) → 20 ≤ length bytes → slice_index bytes 0 ≡ 0x98 → slice_index bytes 1 ≡ 0x81
    → slice_index bytes (length bytes - 9) ≡ slice_index nonce 0 → Seals keys (sender_nonce_in bytes) nonce ends plain bytes
    → ((own other : List ℕ) → length own ≡ 8 → Seals keys own nonce ends other bytes → plain ≡ other)
    → Some plain ≡ unsealed_at keys nonce ends bytes
opened_is keys nonce ends bytes plain long class command named seals only =
    let eight : length (sender_nonce_in bytes) ≡ 8 = simp (length-take, length-drop) (omega arith) in
    let good = good_from_seals keys (sender_nonce_in bytes) nonce ends plain bytes eight seals in
    let again = seals_from_parts keys nonce ends bytes (plain_in keys nonce bytes) good (header_of bytes long class command) named refl in
    ap Some (only (sender_nonce_in bytes) (plain_in keys nonce bytes) eight again) ∙ sym (opens_to keys nonce ends bytes good)

-- ---- what is sealed

pub sealed_is : (keys : Keys) (own nonce : List ℕ) (ends : SealEnds) (plain bytes : List ℕ) → Seals keys own nonce ends plain bytes → bytes ≡ sealed_text keys own nonce ends plain
unfolding sealed_text
sealed_is keys own nonce ends plain bytes s =
    s.layout ∙ ap (λ (t : List ℕ). 0x98 ∷ 0x81 ∷ (own ++ (t ++ slice_index nonce 0 ∷ code_of keys (own ++ nonce) ends t))) s.enciphers
