-- What payloads are to the nonces of two ends (this project's own rule over the Security 0 Command Class): one of their nonces, a text that is sealed for
-- one, or neither.
use Rattle.std.specs.Prelude.{◌≡◌, ◌≢◌, ℕ, false, List, ◌∷◌, length, Ok, None}
use Rattle.class_info.specs.InfoReading.{info_at}
use Rattle.class_info.specs.declared.message.InfoMessage.TheVariants.{NonceReport}
use Rattle.encap.specs.Opening.{begins_with}
use Rattle.air_frames.specs.Nonces.{nonce_in}
use Rattle.s0_crypto.specs.declared.key_pair.Keys.{Keys}
use Rattle.s0_crypto.specs.declared.ends.SealEnds.{SealEnds}
use Rattle.s0_crypto.specs.Sealing.{sealed_text}
use Rattle.proof_messages.specs.Numbers.{IsNonce}

-- a Nonce Report: class, command, and the eight bytes
abbrev pub report_of : List ℕ → List ℕ
report_of nonce = 0x98 ∷ 0x80 ∷ nonce

-- a Nonce Report of the nonce of that number
pub record IsOffer (nonces : List (List ℕ)) (number : ℕ) (payload : List ℕ) : Type 0 where
  pub nonce : List ℕ
  pub is : IsNonce nonces number nonce
  pub text : payload ≡ report_of nonce

-- a plain text, sealed for the nonce of that number, under some eight bytes of the sender's
pub record IsSealed (keys : Keys) (ends : SealEnds) (nonces : List (List ℕ)) (number : ℕ) (plain payload : List ℕ) : Type 0 where
  pub own : List ℕ
  pub nonce : List ℕ
  pub eight : length own ≡ 8
  pub is : IsNonce nonces number nonce
  pub text : payload ≡ sealed_text keys own nonce ends plain

-- a payload that is neither a Security message nor a Nonce Report, at who reads it and for who counts nonces
pub record IsUnnumbered (payload : List ℕ) : Type 0 where
  pub not_sealed : begins_with payload 0x98 0x81 ≡ false
  pub no_report : (nonce : List ℕ) → info_at payload ≢ Ok (NonceReport nonce)
  pub no_nonce : nonce_in payload ≡ None
