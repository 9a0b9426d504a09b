-- What is sent when a nonce comes, as functions (Z-Wave Security 0 Command Class; the layout is this project's own,
-- docs/SECURITY.md).
use Rattle.std.specs.Prelude.{ℕ, List, slice_index, Option, Some, None}
use Rattle.s0_crypto.specs.declared.key_pair.Keys.{Keys}
use Rattle.s0_crypto.specs.Sealing.{sealed_text}
use Rattle.s0_session.specs.Sending.{Sending, taken}

-- what is pending is sealed and is pending no more, where the nonce counts as the next or the last
abbrev pub sealer_by : Sending → Option ℕ → Sending
sealer_by sealer (Some seen) = record sealer { seen = seen; pending = None }
sealer_by sealer None = sealer

abbrev pub sealer_after : Sending → List ℕ → Sending
sealer_after sealer nonce = sealer_by sealer (taken sealer (slice_index nonce 0))

-- the message that is sent then
abbrev pub sent_by : Sending → Keys → List ℕ → List ℕ → Option ℕ → Option (List ℕ) → Option (List ℕ)
sent_by sealer keys nonce own (Some seen) (Some plain) = Some (sealed_text keys own nonce sealer.ends plain)
sent_by sealer keys nonce own _ _ = None

abbrev pub sent_for : Sending → Keys → List ℕ → List ℕ → Option (List ℕ)
sent_for sealer keys nonce own = sent_by sealer keys nonce own (taken sealer (slice_index nonce 0)) sealer.pending
