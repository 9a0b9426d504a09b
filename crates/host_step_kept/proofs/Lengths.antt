-- A sealed text is longer than what it seals.
use Rattle.std.proofs.Common.{◌≡◌, ◌≤◌, ℕ, List, ◌∷◌, ◌++◌, length, length-append, ap, ◌∙◌, arith}
use Rattle.s0_crypto.specs.declared.key_pair.Keys.{Keys}
use Rattle.s0_crypto.specs.declared.ends.SealEnds.{SealEnds}
use Rattle.s0_crypto.specs.Seal.{Seals, code_of}
use Rattle.s0_crypto.proofs.StreamLemmas.{length-ofb_from}
use Rattle.std.specs.Prelude.{slice_index}

pub plain_is_shorter : (keys : Keys) (sender receiver : List ℕ) (ends : SealEnds) (plain bytes : List ℕ) → Seals keys sender receiver ends plain bytes → length plain ≤ length bytes
plain_is_shorter keys sender receiver ends plain bytes s =
    let tail = slice_index receiver 0 ∷ code_of keys (sender ++ receiver) ends s.cipher_text in
    let whole : length bytes ≡ length (0x98 ∷ 0x81 ∷ (sender ++ (s.cipher_text ++ tail))) = ap length s.layout in
    let cipher : length s.cipher_text ≡ length (0 ∷ plain) = ap length s.enciphers ∙ length-ofb_from keys.encrypt (sender ++ receiver) 0 (0 ∷ plain) in
    omega (arith, length-append sender (s.cipher_text ++ tail), length-append s.cipher_text tail)
