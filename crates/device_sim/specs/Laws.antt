-- What one event does to the journal and the sessions of a device, and what therefore holds of every journal.
use Rattle.std.specs.Prelude.{◌≡◌, ◌≢◌, ℕ, ◌+◌, ◌-◌, ◌<◌, ◌≤◌, ◌⊎◌, ◌==◌, if◌then◌else◌, List, [], ◌∷◌, ◌++◌, false}
use Rattle.zw_base.specs.declared.property.By.{By}
use Rattle.zw_base.specs.declared.property.By.TheVariants.{Session, Plain, Local}
use Rattle.zw_base.specs.declared.property.Setting.{Setting}
use Rattle.supervision.specs.declared.session.TheConstants.{WORKING}
use Rattle.transport_segments.specs.Kept.{Empty}
use Rattle.device_stack.specs.Kinds.{Change, Verdict, NoSupport, Fails, Makes, Works, lists, status_of}
use Rattle.device_stack.specs.State.{State}
use Rattle.device_stack.specs.Effects.{work_ticks}

-- ---- what an event makes of journal and sessions

-- the journal with one change more
abbrev pub IsChanged : List Change → By → List Setting → List Change → Type 0
IsChanged journal by settings journal' = journal' ≡ journal ++ record { by = by; settings = settings } ∷ []

-- no session is taken, and nothing is changed
abbrev pub IsUntaken : State → State → Type 0
IsUntaken old new = (new.journal ≡ old.journal) × ((new.sessions ≡ old.sessions) × (new.work_left ≡ old.work_left))

-- what is made at the taking of a session: its change, or work that ends later, or nothing
abbrev pub IsMade : ℕ → List Change → List Change → ℕ → ℕ → Verdict → Type 0
IsMade session journal journal' left left' (Makes settings) = IsChanged journal (Session session) settings journal' × (left' ≡ left)
IsMade session journal journal' left left' (Works settings) = (journal' ≡ journal) × (left' ≡ work_ticks)
IsMade session journal journal' left left' Fails = (journal' ≡ journal) × (left' ≡ left)
IsMade session journal journal' left left' NoSupport = (journal' ≡ journal) × (left' ≡ left)

-- the next session is taken by a device that is not at work, and nothing of a datagram is kept
abbrev pub IsTaken : State → State → Type 0
IsTaken old new =
    (verdict : Verdict)
    × ((old.sessions.status ≢ WORKING)
    × ((new.sessions ≡ record { taken = old.sessions.taken + 1; status = status_of verdict })
    × ((new.reassembly ≡ Empty)
    × IsMade (old.sessions.taken + 1) old.journal new.journal old.work_left new.work_left verdict)))

-- a command without a session is made, by a kind that knows no Supervision
abbrev pub IsObeyed : State → State → Type 0
IsObeyed old new =
    (settings : List Setting)
    × ((lists old.kind 0x6C ≡ false)
    × (IsChanged old.journal Plain settings new.journal × ((new.sessions ≡ old.sessions) × (new.work_left ≡ old.work_left))))

-- a payload
abbrev pub IsHeard : State → State → Type 0
IsHeard old new = IsUntaken old new ⊎ (IsTaken old new ⊎ IsObeyed old new)

-- the work of the last session taken ends
abbrev pub IsWorkedOut : State → State → Type 0
IsWorkedOut old new =
    (old.work_left ≡ 1) × ((new.work_left ≡ 0)
    × (IsChanged old.journal (Session old.sessions.taken) old.work.settings new.journal × (new.sessions.taken ≡ old.sessions.taken)))

-- a tick
abbrev pub IsTicked : State → State → Type 0
IsTicked old new = ((new.journal ≡ old.journal) × (new.sessions ≡ old.sessions)) ⊎ IsWorkedOut old new

-- ---- what holds of every journal

-- the number of a session that made a change, before others
abbrev pub with_number : By → List ℕ → List ℕ
with_number (Session number) more = number ∷ more
with_number Plain more = more
with_number Local more = more

-- the sessions that made changes, in their order
abbrev pub numbers : List Change → List ℕ
numbers [] = []
numbers (change ∷ changes) = with_number change.by (numbers changes)

-- numbers that rise strictly, above the lower bound and not above the upper one
abbrev pub Rises : ℕ → List ℕ → ℕ → Type 0
Rises low [] high = low ≤ high
Rises low (number ∷ more) high = (low < number) × Rises number more high

-- how many sessions are done: a device at work is at the last one taken
abbrev pub done : State → ℕ
done device = if device.work_left == 0 then device.sessions.taken else device.sessions.taken - 1

-- the sessions of its changes rise strictly, none is above those that are done, and a device with work left is at a session
pub record IsInOrder (device : State) : Type 0 where
  pub rising : Rises 0 (numbers device.journal) (done device)
  pub working : 0 < device.work_left → (device.sessions.status ≡ WORKING) × (0 < device.sessions.taken)
