-- What the host sends beside messages of sessions (this project's own).
use Rattle.std.specs.Prelude.{◌≡◌, ℕ, List, false, Some, None}
use Rattle.encap.specs.Opening.{Message, begins_with, opened_at}
use Rattle.transport_segments.specs.Taking.{is_segment}

-- a payload that opens to no Supervision Get, and is no Security message
pub record IsNoGet (payload : List ℕ) : Type 0 where
  pub no_get : (message : Message) → opened_at payload ≡ Some message → message.plan.session ≡ None
  pub not_sealed : begins_with payload 0x98 0x81 ≡ false

-- a payload that is no message of a session: it opens to no Supervision Get, and is neither a Security message nor a segment
abbrev pub IsOther : List ℕ → Type 0
IsOther payload = IsNoGet payload × (is_segment payload ≡ false)
