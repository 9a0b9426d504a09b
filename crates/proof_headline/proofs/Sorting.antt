-- A device that lists Supervision lists Security 0 too, and is a lock, or does not, and is of a plain kind.
use Rattle.std.proofs.Common.{◌≡◌, ◌⊎◌, Bool, true, false, inl, inr, refl}
use Rattle.device_kinds.specs.Kind.{lists}
use Rattle.device_kinds.specs.declared.kind.Kind.{Kind}
use Rattle.proof_headline.specs.Plain.{IsPlainKind}
use Rattle.proof_course_sealed.specs.LockNodes.{IsLockKind}

by_sealed : (sealed : Bool) (kind : Kind) → lists kind 0x6C ≡ true → lists kind 0x98 ≡ sealed → IsPlainKind kind ⊎ IsLockKind kind
by_sealed true kind knows is = inr (record { supervised = knows; sealed = is })
by_sealed false kind knows is = inl (record { supervised = knows; unsealed = is })

pub plain_or_lock : (kind : Kind) → lists kind 0x6C ≡ true → IsPlainKind kind ⊎ IsLockKind kind
plain_or_lock kind knows = by_sealed (lists kind 0x98) kind knows refl
