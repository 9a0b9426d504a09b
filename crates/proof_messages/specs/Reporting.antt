-- What the payloads of a device tell the host of its sessions (this project's own; Supervision Report is that of the Z-Wave
-- Transport-Encapsulation Command Class Specification).
use Rattle.std.specs.Prelude.{◌≡◌, ◌⊎◌, ◌≤◌, ℕ, Bool, ◌==◌, ◌&&◌, not, List, [], ◌∷◌, length, Option, Some, None}
use Rattle.std.specs.List.{AllByRecursion}
use Rattle.supervision.specs.Session.{wire_id, IsStatus}
use Rattle.supervision.specs.declared.session.TheConstants.{WORKING}
use Rattle.supervision.specs.declared.device_book.Heard.{Heard}
use Rattle.supervision.specs.declared.device_book.Heard.TheVariants.{New, Again, Old}
use Rattle.encap.specs.Written.{AreEnds}
use Rattle.encap.specs.declared.plan.Plan.{Plan}
use Rattle.host_heard.specs.declared.payload.Heard.TheVariants.{Messages}
use Rattle.host_heard.specs.declared.told.Told.{Told}
use Rattle.host_heard.specs.declared.told.Told.TheVariants.{Report, NonceGet, NonceReport, Notification, SegmentRequest, Values}
use Rattle.host_heard.specs.Telling.{heard_at}
use Rattle.device_sim.specs.device_stack.State.{State}
use Rattle.device_kinds.specs.Answers.{report_status, swapped}
use Rattle.device_sim.specs.device_stack.Answers.{asks_to_wake}

-- a device asks with each final status to be kept awake, if it ever asks
abbrev pub asks_now : State → Bool
asks_now device = not (device.sessions.status == WORKING) && asks_to_wake device

-- a payload is heard as one report, and nothing else: of the last session that the device took, with the status that it keeps of that session
abbrev pub TellsOwn : State → List ℕ → Type 0
TellsOwn device payload =
    heard_at payload ≡ Messages (Report (wire_id device.sessions.taken) (report_status device.sessions.status) (asks_now device) ∷ [])

-- no report of a session
abbrev pub IsNoReport : Told → Type 0
IsNoReport (Report id status wake_request) = ⊥
IsNoReport NonceGet = Unit {0}
IsNoReport (NonceReport nonce) = Unit {0}
IsNoReport Notification = Unit {0}
IsNoReport (SegmentRequest id offset) = Unit {0}
IsNoReport (Values values) = Unit {0}

-- a payload is heard as no report: it is not read, or sealed, or tells something else
abbrev pub TellsNone : List ℕ → Type 0
TellsNone payload = (told : List Told) → heard_at payload ≡ Messages told → AllByRecursion IsNoReport told

-- it asks the host for nothing: for no nonce, and for no segment
abbrev pub IsPlainTold : Told → Type 0
IsPlainTold (Report id status wake_request) = Unit {0}
IsPlainTold NonceGet = ⊥
IsPlainTold (NonceReport nonce) = Unit {0}
IsPlainTold Notification = Unit {0}
IsPlainTold (SegmentRequest id offset) = ⊥
IsPlainTold (Values values) = Unit {0}

-- a payload is heard as one such message, and nothing else
pub record TellsPlainly (payload : List ℕ) : Type 0 where
  pub told : Told
  pub heard : heard_at payload ≡ Messages (told ∷ [])
  pub plain : IsPlainTold told

-- it asks the host for no nonce
abbrev pub IsOpenTold : Told → Type 0
IsOpenTold (Report id status wake_request) = Unit {0}
IsOpenTold NonceGet = ⊥
IsOpenTold (NonceReport nonce) = Unit {0}
IsOpenTold Notification = Unit {0}
IsOpenTold (SegmentRequest id offset) = Unit {0}
IsOpenTold (Values values) = Unit {0}

-- a payload is heard as one such message, and nothing else
pub record TellsOpenly (payload : List ℕ) : Type 0 where
  pub told : Told
  pub heard : heard_at payload ≡ Messages (told ∷ [])
  pub openly : IsOpenTold told

-- a payload of a device that is so by now
abbrev pub TellsTrue : State → List ℕ → Type 0
TellsTrue device payload = TellsOwn device payload ⊎ TellsNone payload

-- the end points of a later answer can be written
abbrev pub CanBeAnswered : Option Plan → Type 0
CanBeAnswered (Some plan) = AreEnds (swapped plan.channel)
CanBeAnswered None = Unit {0}

-- what a device says can be said: its status is one of the four, and the end points that it answers to are at most 127
pub record CanSay (device : State) : Type 0 where
  pub status : IsStatus device.sessions.status
  pub answer : CanBeAnswered device.work.answer

-- the text that waits to be sealed is such a report, and short
abbrev pub PendingTellsOwn : State → Type 0
PendingTellsOwn device = (text : List ℕ) × ((device.sealing.pending ≡ Some text) × (TellsOwn device text × (length text ≤ 13)))

-- a device that answers sealed, after a message, by what its id is for it: where it answers, that text waits; else what waited before
abbrev pub HasAnswered : State → State → Heard → Type 0
HasAnswered old new (New session) = PendingTellsOwn new
HasAnswered old new (Again status) = PendingTellsOwn new
HasAnswered old new Old = new.sealing.pending ≡ old.sealing.pending
