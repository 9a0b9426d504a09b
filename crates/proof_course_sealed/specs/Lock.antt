-- The lock in its courses (this project's own rule).
use Rattle.std.specs.Prelude.{◌≡◌, ◌⊎◌, ℕ, false, List, [], ◌∷◌, Some, None}
use Rattle.transport_segments.specs.Kept.{Empty}
use Rattle.s0_session.specs.declared.account.Account.{Account}
use Rattle.proof_course.specs.NodeNonces as node
use Rattle.device_sim.specs.State.{State}
use Rattle.s0_crypto.specs.Sealing.{keys_of}
use Rattle.proof_messages.specs.Ending.{HasEnded}
use Rattle.proof_messages.specs.Reporting.{CanSay}
use Rattle.proof_messages.specs.Numbers.{IsNonce, HasGiven}
use Rattle.proof_messages.specs.Locks.{IsLock}
use Rattle.proof_messages.specs.Waiting.{WaitsOwn}
use Rattle.proof_course_sealed.specs.Courses.{Courses, HasSeen}
use Rattle.proof_course_sealed.specs.Meaning.{Past}

-- a lock that has not joined gave a nonce, and said it to nobody: the courses have none of it yet
pub record IsUnsaid (past : Past) (c : node.Nonces) (account : Account) : Type 0 where
  pub none : past.given ≡ []
  pub count : c.given ≡ 0
  pub dead : c.is_live ≡ false
  pub nonce : List ℕ
  pub account_is : account ≡ record { given = 1; live = Some nonce }
  pub is : IsNonce (nonce ∷ []) 1 nonce

-- the courses have the sessions of a lock and the statuses to which it came, the nonces that it gave and how many of the host's it saw; what waits to be sealed is a report of its last session; and it keeps no segments
pub record AtLock (past : Past) (c : Courses) (device : State) : Type 0 where
  pub lock : IsLock device
  pub keys : keys_of device.key ≡ past.keys
  pub sessions : device.sessions ≡ c.sessions.device
  pub kept : c.sessions.kept ≡ None
  pub whole : device.reassembly ≡ Empty
  pub ended : HasEnded device c.sessions.ends
  pub can : CanSay device
  pub gave : HasGiven past.given c.node.given c.node.is_live device.given ⊎ IsUnsaid past c.node device.given
  pub saw : HasSeen c.host.seen c.host.waits device.sealing.seen device.sealing.pending
  pub own : WaitsOwn device
