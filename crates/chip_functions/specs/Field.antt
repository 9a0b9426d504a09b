-- The fields that bodies are made of. Each has one spelling, and is read from left to right.
use Rattle.std.specs.Prelude.{ℕ, ◌≤◌, List, [], ◌∷◌, ◌++◌, length, Option, Some, None, Ok, Err, nat_lt, nat_le, slice_index, ◌==◌, ◌&&◌, if◌then◌else◌}
use Rattle.std.specs.Int.{Width, byte_len, to_be_bytes, from_be_bytes}
use Rattle.chip_functions.specs.declared.fault.BodyFault.TheVariants.{BadField}
use Rattle.chip_functions.specs.declared.mask.TheConstants.{MASK_BYTES}
use Rattle.chip_functions.specs.Mask.{nodes_of, mask_of}
use Rattle.chip_functions.specs.Place.{Place, Reading, ◌>>=◌, byte_from, piece_from, found_at}

-- a field: how a value is spelled, and what is read at a place
pub record Field (A : Type 0) : Type 0 where
  pub spell : A → List ℕ
  pub read : Place → Reading A

-- no field
abbrev pub nothing : Field (Unit {0})
nothing = record { spell = λ _. []; read = λ p. Ok (tt, p) }

-- any byte
abbrev pub byte : Field ℕ
byte = record { spell = λ b. b ∷ []; read = λ p. byte_from p.before p.rest }

-- so many bytes
abbrev pub piece : ℕ → Field (List ℕ)
piece count = record { spell = λ bytes. bytes; read = λ p. piece_from count p.before p.rest }

-- the first three of some bytes
abbrev pub three_of : List ℕ → ℕ × (ℕ × ℕ)
three_of bytes = (slice_index bytes 0, (slice_index bytes 1, slice_index bytes 2))

-- three bytes, as one field
abbrev pub triple : Field (ℕ × (ℕ × ℕ))
triple = record {
  spell = λ x. x.0 ∷ x.1.0 ∷ x.1.1 ∷ [];
  read = λ p. piece_from 3 p.before p.rest >>= λ x. Ok (three_of x.0, x.1);
}

-- one field and then another
infixr 20 ◌then◌
abbrev pub ◌then◌ : {A B : Type 0} → Field A → Field B → Field (A × B)
first then second = record {
  spell = λ x. first.spell x.0 ++ second.spell x.1;
  read = λ p. first.read p >>= λ x. second.read x.1 >>= λ y. Ok ((x.0, y.0), y.1);
}

-- a byte that stands for a value; the bytes that stand for none are bad
abbrev pub coded : {A : Type 0} → (A → ℕ) → (ℕ → Option A) → Field A
coded code value_of = record {
  spell = λ x. code x ∷ [];
  read = λ p. byte_from p.before p.rest >>= λ b. found_at p.before (value_of b.0) b.1;
}

-- a byte in a range
abbrev pub byte_within : ℕ → ℕ → Field ℕ
byte_within low high = coded (λ b. b) (λ b. if nat_le low b && nat_le b high then Some b else None)

-- a number that is a node's
abbrev pub IsNode : ℕ → Type 0
IsNode n = (1 ≤ n) × (n ≤ 232)

-- a node, 1 to 232
abbrev pub node : Field ℕ
node = byte_within 1 232

-- that very byte
abbrev pub mark : ℕ → Field (Unit {0})
mark code = coded (λ _. code) (λ b. if b == code then Some tt else None)

-- a number, high byte first
abbrev pub number : Width → Field ℕ
number w = record {
  spell = λ n. to_be_bytes w n;
  read = λ p. piece_from (byte_len w) p.before p.rest >>= λ x. Ok (from_be_bytes w x.0, x.1);
}

-- the 29 bytes of a mask, as the nodes in it
abbrev pub mask : Field (List ℕ)
mask = record {
  spell = λ nodes. mask_of nodes;
  read = λ p. piece_from MASK_BYTES p.before p.rest >>= λ x. Ok (nodes_of x.0, x.1);
}

-- a length, at least so much, and then so many bytes
abbrev pub counted : ℕ → Field (List ℕ)
counted least = record {
  spell = λ bytes. length bytes ∷ bytes;
  read = λ p. byte_from p.before p.rest >>= λ n. if nat_lt n.0 least then Err (BadField p.before) else piece_from n.0 n.1.before n.1.rest;
}

-- what is read, as a value
abbrev pub read_as : {A V : Type 0} → (A → V) → Reading A → Reading V
read_as make reading = reading >>= λ x. Ok (make x.0, x.1)
