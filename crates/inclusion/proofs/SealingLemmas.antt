-- What is sent when a nonce comes is what the function says.
use Rattle.std.proofs.Common.{◌≡◌, ℕ, List, sym, ◌∙◌, ap}
use Rattle.std.specs.Prelude.{Option, Some, slice_index}
use Rattle.s0_crypto.specs.declared.key_pair.Keys.{Keys}
use Rattle.s0_crypto.specs.Sealing.{keys_of, sealed_text}
use Rattle.s0_crypto.proofs.SealingLemmas.{sealed_is}
use Rattle.s0_session.specs.Sending.{Sending, taken, WouldSeal}
use Rattle.inclusion.specs.Sealing.{sent_by, sent_for}

-- what is pending is sent sealed, where the nonce is taken
pub sent_is : (sealer : Sending) (keys : Keys) (key nonce own bytes : List ℕ) (seen : ℕ) → taken sealer (slice_index nonce 0) ≡ Some seen → keys ≡ keys_of key
    → WouldSeal sealer keys own nonce bytes → Some bytes ≡ sent_for sealer (keys_of key) nonce own
sent_is sealer keys key nonce own bytes seen takes same w =
    ap Some (sealed_is keys own nonce sealer.ends w.plain bytes w.seals ∙ ap (λ (k : Keys). sealed_text k own nonce sealer.ends w.plain) same)
    ∙ sym (ap (λ (a : Option ℕ). sent_by sealer (keys_of key) nonce own a sealer.pending) takes
    ∙ ap (λ (b : Option (List ℕ)). sent_by sealer (keys_of key) nonce own (Some seen) b) w.is_pending)
