-- The payloads of the key exchange (Z-Wave Security 0 Command Class: Scheme Get and Report, Nonce Get and Report, Network Key
-- Set and Verify, Message Encapsulation; that each is exactly these bytes is this project's own rule).
use Rattle.std.specs.Prelude.{◌≡◌, ◌≤◌, ℕ, ◌-◌, ◌==◌, ◌&&◌, nat_le, if◌then◌else◌, Bool, List, [], ◌∷◌, ◌++◌, length, drop, replicate, slice_index, Option, Some, None}
use Rattle.std.specs.Str.{bytes_eq}
use Rattle.inclusion.specs.declared.message.Message.{Message}
use Rattle.inclusion.specs.declared.message.Message.TheVariants.{SchemeGet, SchemeReport, NonceGet, NonceReport, Sealed, Other}

abbrev pub scheme_get : List ℕ
scheme_get = 0x98 ∷ 0x04 ∷ 0x00 ∷ []

abbrev pub scheme_report : List ℕ
scheme_report = 0x98 ∷ 0x05 ∷ 0x00 ∷ []

abbrev pub nonce_get : List ℕ
nonce_get = 0x98 ∷ 0x40 ∷ []

abbrev pub nonce_report : List ℕ → List ℕ
nonce_report nonce = 0x98 ∷ 0x80 ∷ nonce

-- a key is set, under the temporary key
abbrev pub key_set : List ℕ → List ℕ
key_set key = 0x98 ∷ 0x06 ∷ key

-- a key was taken, under that key
abbrev pub key_verify : List ℕ
key_verify = 0x98 ∷ 0x07 ∷ []

-- the key under which a key is set
abbrev pub temporary_key : List ℕ
temporary_key = replicate 16 0

-- class 0x98 and a command
abbrev pub has_command : List ℕ → ℕ → Bool
has_command bytes command = nat_le 2 (length bytes) && (slice_index bytes 0 == 0x98 && slice_index bytes 1 == command)

-- what a payload is
unfoldable pub message_of : List ℕ → Message
message_of payload =
    if bytes_eq payload scheme_get then SchemeGet
    else if bytes_eq payload scheme_report then SchemeReport
    else if bytes_eq payload nonce_get then NonceGet
    else if has_command payload 0x80 && (length payload == 10) then NonceReport (drop 2 payload)
    else if has_command payload 0x81 && nat_le 20 (length payload) then Sealed
    else Other

-- the first byte of the nonce that a Security message names: the ninth byte from its end
abbrev pub nonce_named : List ℕ → ℕ
nonce_named bytes = slice_index bytes (length bytes - 9)

-- the key that a plain text sets
abbrev pub key_set_in : List ℕ → Option (List ℕ)
key_set_in plain = if has_command plain 0x06 && (length plain == 18) then Some (drop 2 plain) else None

-- a Security message has its class and its command, and is long enough to name a nonce
pub record IsSealed (payload : List ℕ) : Type 0 where
  pub long : 20 ≤ length payload
  pub class : slice_index payload 0 ≡ 0x98
  pub command : slice_index payload 1 ≡ 0x81

-- what a payload is that counts as a Security message
abbrev pub HasHeader : Message → List ℕ → Type 0
HasHeader Sealed payload = IsSealed payload
HasHeader _ payload = Unit {0}
