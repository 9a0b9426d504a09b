-- The numbers of sessions, and the statuses of a Supervision Report (Supervision Command Class).
use Rattle.std.specs.Prelude.{◌≡◌, ℕ, ◌%◌, Bool, ◌==◌, ◌||◌, IsTrue}

-- what the wire carries of a session's number: its low six bits, as the Session ID has six (that sessions are
-- numbered 1, 2, 3 without end is this project's own rule)
abbrev pub wire_id : ℕ → ℕ
wire_id session = session % 64

-- an id on the wire names each session of which it is the low six bits
abbrev pub Names : ℕ → ℕ → Type 0
Names id session = id ≡ wire_id session

-- the four statuses of a Supervision Report: no support 0x00, working 0x01, fail 0x02, success 0xFF
abbrev pub is_status : ℕ → Bool
is_status status = status == 0 || status == 1 || status == 2 || status == 255

-- the same as a fact
abbrev pub IsStatus : ℕ → Type 0
IsStatus status = IsTrue (is_status status)
