-- What a sealed payload opens to, as a function of its bytes and the nonce.
use Rattle.std.proofs.Common.{◌≡◌, ◌≤◌, ℕ, ◌-◌, List, sym, ap}
use Rattle.std.specs.Prelude.{Some, None, slice_index}
use Rattle.s0_crypto.specs.declared.key_pair.Keys.{Keys}
use Rattle.s0_crypto.specs.declared.ends.SealEnds.{SealEnds}
use Rattle.s0_crypto.specs.Opening.{sender_nonce_in, IsGood}
use Rattle.s0_crypto.specs.Seal.{Seals}
use Rattle.s0_crypto.specs.Sealing.{unsealed_at}
use Rattle.s0_crypto.proofs.OpeningLemmas.{one_plain_text}
use Rattle.s0_crypto.proofs.SealingLemmas.{opened_is, stays_shut}
use Rattle.std.proofs.Common.{length, length-drop, arith}
use Rattle.std.proofs.lemmas.List.{length-take}

-- one that is sealed for it opens
pub unsealed_so : (keys : Keys) (nonce : List ℕ) (ends : SealEnds) (bytes plain : List ℕ) → 20 ≤ length bytes → slice_index bytes (length bytes - 9) ≡ slice_index nonce 0
    → Seals keys (sender_nonce_in bytes) nonce ends plain bytes → unsealed_at keys nonce ends bytes ≡ Some plain
unsealed_so keys nonce ends bytes plain long named seals =
    let eight : length (sender_nonce_in bytes) ≡ 8 = simp (length-take, length-drop) (omega arith) in
    sym (opened_is keys nonce ends bytes plain long (ap (λ (l : List ℕ). slice_index l 0) seals.layout) (ap (λ (l : List ℕ). slice_index l 1) seals.layout) named seals
    (λ own other long_own more. one_plain_text keys own nonce ends plain other bytes long_own eight seals more))

-- one that is not good does not
pub shut_so : (keys : Keys) (nonce : List ℕ) (ends : SealEnds) (bytes : List ℕ) → (IsGood keys nonce ends bytes → ⊥) → unsealed_at keys nonce ends bytes ≡ None
shut_so keys nonce ends bytes bad = sym (stays_shut keys nonce ends bytes bad)
