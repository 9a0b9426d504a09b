-- Why a Security message does not open.
use Rattle.std.proofs.Common.{◌≡◌, ℕ, List, Result, Err, sym, ap, ◌∙◌, subst, inl}
use Rattle.s0_crypto.specs.declared.ends.SealEnds.{SealEnds}
use Rattle.s0_crypto.specs.declared.fault.SealFault.{SealFault}
use Rattle.s0_crypto.specs.declared.fault.SealFault.TheVariants.{BadCode, Sequence}
use Rattle.s0_crypto.specs.Opening.{IsGood, IsBadlyCoded, HasOtherSequence}
use Rattle.host_model.specs.State.{HostState}
use Rattle.host_model.specs.Taking.{ends_from, OpensInVain}

-- the controller is node 1
ends_are : (n receiver : ℕ) → receiver ≡ 1 → (let ends : SealEnds = record { sender = n; receiver = receiver } in ends ≡ ends_from n)
ends_are n receiver one = ap (λ (k : ℕ). let ends : SealEnds = record { sender = n; receiver = k } in ends) one

never_good : (h : HostState) (n : ℕ) (nonce payload : List ℕ) (ends : SealEnds) → ends ≡ ends_from n → (IsGood h.keys nonce ends payload → ⊥) → OpensInVain h n nonce payload
never_good h n nonce payload ends same never = inl (subst (λ (e : SealEnds). IsGood h.keys nonce e payload → ⊥) same never)

pub badly_coded : (h : HostState) (n receiver : ℕ) (nonce payload : List ℕ) (r : Result (List ℕ) SealFault) (fault : SealFault) (want got : List ℕ) → receiver ≡ 1 → r ≡ Err fault → fault ≡ BadCode want got
    → (let ends : SealEnds = record { sender = n; receiver = receiver } in r ≡ Err (BadCode want got) → IsBadlyCoded h.keys nonce ends payload want got) → OpensInVain h n nonce payload
badly_coded h n receiver nonce payload r fault want got one failed is told =
    let ends : SealEnds = record { sender = n; receiver = receiver } in
    let bad : IsBadlyCoded h.keys nonce ends payload want got = told (failed ∙ ap (λ (f : SealFault). let e : Result (List ℕ) SealFault = Err f in e) is) in
    never_good h n nonce payload ends (ends_are n receiver one) (λ (good : IsGood h.keys nonce ends payload). bad.differ (bad.is_wanted ∙ good.coded.code ∙ sym bad.is_got))

pub other_sequence : (h : HostState) (n receiver : ℕ) (nonce payload : List ℕ) (r : Result (List ℕ) SealFault) (fault : SealFault) (byte : ℕ) → receiver ≡ 1 → r ≡ Err fault → fault ≡ Sequence byte
    → (let ends : SealEnds = record { sender = n; receiver = receiver } in r ≡ Err (Sequence byte) → HasOtherSequence h.keys nonce ends payload byte) → OpensInVain h n nonce payload
other_sequence h n receiver nonce payload r fault byte one failed is told =
    let ends : SealEnds = record { sender = n; receiver = receiver } in
    let other : HasOtherSequence h.keys nonce ends payload byte = told (failed ∙ ap (λ (f : SealFault). let e : Result (List ℕ) SealFault = Err f in e) is) in
    never_good h n nonce payload ends (ends_are n receiver one) (λ (good : IsGood h.keys nonce ends payload). other.not_zero (other.is_sequence ∙ good.zero))
