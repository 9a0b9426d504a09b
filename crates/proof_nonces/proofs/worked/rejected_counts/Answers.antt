-- What is sealed has eight bytes and a code behind its first two.
use Rattle.std.proofs.Common.{◌≡◌, ℕ, List, [], ◌∷◌, ◌++◌, slice_index}
use Rattle.s0_crypto.specs.declared.ends.SealEnds.{SealEnds}
use Rattle.s0_crypto.specs.declared.key_pair.Keys.{Keys}
use Rattle.s0_crypto.specs.Seal.{Seals, code_of}
use Rattle.proof_notes.proofs.Computing.{computing}
use Rattle.proof_nonces.proofs.worked.rejected_counts.Goals as goal

none_left : (own text code : List ℕ) (byte : ℕ) → ◌≡◌ {A = List ℕ} (0x98 ∷ 0x81 ∷ []) (0x98 ∷ 0x81 ∷ (own ++ (text ++ byte ∷ code))) → ⊥
none_left [] [] code byte is = cc
none_left [] (first ∷ text) code byte is = cc
none_left (first ∷ own) text code byte is = cc

too_short : (keys : Keys) (own nonce : List ℕ) (ends : SealEnds) (plain : List ℕ) → Seals keys own nonce ends plain (0x98 ∷ 0x81 ∷ []) → ⊥
too_short keys own nonce ends plain seals =
    none_left own seals.cipher_text (code_of keys (own ++ nonce) ends seals.cipher_text) (slice_index nonce 0) seals.layout

pub returns : goal.returns
unfolding computing
returns c = λ keys law. too_short _ _ _ _ _ law.tells.1.1.0.0.opens.seals
