-- What a sealer of messages holds, which nonces it takes, and what it then sends (Z-Wave Security 0 Command Class: Nonce
-- Report; the counts are this project's own rule, docs/SECURITY.md).
use Rattle.std.specs.Prelude.{◌≡◌, ℕ, ◌+◌, ◌%◌, ◌==◌, nat_lt, ◌&&◌, if◌then◌else◌, Option, Some, None, List, slice_index}
use Rattle.s0_crypto.specs.declared.key_pair.Keys.{Keys}
use Rattle.s0_crypto.specs.declared.ends.SealEnds.{SealEnds}
use Rattle.s0_crypto.specs.Seal.{Seals}

-- the ends of its messages, how many nonces of its peer it saw, and the plain text that waits to be sealed
pub record Sending : Type 0 where
  pub ends : SealEnds
  pub seen : ℕ
  pub pending : Option (List ℕ)

-- the count after a nonce with that first byte: that of the last nonce seen, or of the next one; none for another
abbrev pub seen_after : ℕ → ℕ → Option ℕ
seen_after seen first =
    if nat_lt 0 seen && (first == seen % 256) then Some seen
    else (if first == (seen + 1) % 256 then Some (seen + 1) else None)

-- the count after a Nonce Report with that first byte, which is taken only while a plain text is pending
abbrev pub taken_from : Option (List ℕ) → ℕ → ℕ → Option ℕ
taken_from (Some plain) seen first = seen_after seen first
taken_from None seen first = None

abbrev pub taken : Sending → ℕ → Option ℕ
taken state first = taken_from state.pending state.seen first

-- bytes seal the pending plain text for a nonce
pub record WouldSeal (state : Sending) (keys : Keys) (own_nonce nonce bytes : List ℕ) : Type 0 where
  pub plain : List ℕ
  pub is_pending : state.pending ≡ Some plain
  pub seals : Seals keys own_nonce nonce state.ends plain bytes

-- a nonce is taken: the pending plain text is sealed for it, and is pending no longer
pub record SealsPending (old : Sending) (keys : Keys) (own_nonce nonce bytes : List ℕ) (new : Sending) : Type 0 where
  pub plain : List ℕ
  pub was_pending : old.pending ≡ Some plain
  pub seals : Seals keys own_nonce nonce old.ends plain bytes
  pub counts : taken old (slice_index nonce 0) ≡ Some new.seen
  pub after : new ≡ record old { seen = new.seen; pending = None }
