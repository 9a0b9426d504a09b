-- A nonce of the host that is taken.
use Rattle.std.proofs.Common.{◌≡◌, ℕ, List, [], ◌∷◌, sym, ◌∙◌, ap}
use Rattle.std.specs.Prelude.{Option, Some}
use Rattle.s0_crypto.specs.declared.key_pair.Keys.{Keys}
use Rattle.s0_session.specs.Sending.{Sending, SealsPending}
use Rattle.s0_crypto.specs.Sealing.{keys_of, sealed_text}
use Rattle.s0_crypto.proofs.SealingLemmas.{sealed_is}
use Rattle.device_stack.specs.State.{State, Outcome}
use Rattle.device_stack.specs.Hearing.{seals_for, takes_nonce}

-- the sealer is as it is after it, and the message is sent
pub takes_as : (device : State) (keys : Keys) (nonce drawn bytes : List ℕ) (now : Sending) → keys ≡ keys_of device.key
    → SealsPending device.sealing keys drawn nonce bytes now
    → takes_nonce device nonce drawn ≡ record { device = record device { sealing = now }; replies = bytes ∷ [] }
takes_as device keys nonce drawn bytes now k s =
    let text : bytes ≡ sealed_text (keys_of device.key) drawn nonce device.sealing.ends s.plain =
    sealed_is keys drawn nonce device.sealing.ends s.plain bytes s.seals ∙ ap (λ (x : Keys). sealed_text x drawn nonce device.sealing.ends s.plain) k in
    ap (λ (a : Option ℕ). seals_for device nonce drawn a device.sealing.pending) s.counts
    ∙ ap (λ (b : Option (List ℕ)). seals_for device nonce drawn (Some now.seen) b) s.was_pending
    ∙ ap (λ (x : Sending). let o : Outcome = record { device = record device { sealing = x }; replies = sealed_text (keys_of device.key) drawn nonce device.sealing.ends s.plain ∷ [] } in o) (sym s.after)
    ∙ ap (λ (x : List ℕ). let o : Outcome = record { device = record device { sealing = now }; replies = x ∷ [] } in o) (sym text)
