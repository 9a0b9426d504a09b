-- What waits at a lock to be sealed, and what it says then (this project's own rule over the Supervision and Security 0 Command Classes).
use Rattle.std.specs.Prelude.{◌≡◌, ◌<◌, ℕ, List, [], ◌∷◌, Some}
use Rattle.s0_crypto.specs.Sealing.{keys_of}
use Rattle.device_sim.specs.device_stack.State.{State}
use Rattle.proof_messages.specs.Reporting.{TellsOwn}
use Rattle.proof_messages.specs.Payloads.{IsSealed}

-- what waits is a report of the last session that the device took, with the status that it keeps of it now
abbrev pub WaitsOwn : State → Type 0
WaitsOwn device = (text : List ℕ) → device.sealing.pending ≡ Some text → (0 < device.sessions.taken) × TellsOwn device text

-- it says such a report, which waited, sealed for the nonce of the host of that number
pub record SaysSealed (shown : List (List ℕ)) (number : ℕ) (device : State) (replies : List (List ℕ)) : Type 0 where
  pub plain : List ℕ
  pub waited : device.sealing.pending ≡ Some plain
  pub reply : List ℕ
  pub says : replies ≡ reply ∷ []
  pub sealed : IsSealed (keys_of device.key) device.sealing.ends shown number plain reply
  pub took : 0 < device.sessions.taken
  pub own : TellsOwn device plain
