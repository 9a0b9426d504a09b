-- A stream and its one splitting (Serial API: frame layout; that a frame ends at the fifteenth tick is this project's own rule).
use Rattle.std.specs.Prelude.{◌≡◌, ℕ, Bool, true, false, Option, Some, None, List, ◌∷◌, [], ◌++◌, ◌+◌, ◌<◌, ◌≤◌, ◌==◌, if◌then◌else◌, ◌⊎◌, length, map}
use Rattle.serial_frame.specs.Items.{ItemText}
use Rattle.serial_frame.specs.declared.item.Item.{Item}
use Rattle.serial_frame.specs.declared.item.Item.TheVariants.{Refused}
use Rattle.serial_frame.specs.declared.item.Refusal.TheVariants.{Aborted}

-- a frame that is not whole: SOF, a length of at least 3, and fewer bytes than it asks for; or nothing
abbrev pub IsUnfinished : List ℕ → Type 0
IsUnfinished [] = Unit {0}
IsUnfinished (s ∷ []) = s ≡ 1
IsUnfinished (s ∷ n ∷ more) = (s ≡ 1) × (3 ≤ n) × (length more < n)

-- these bytes are the texts of these items in order, and then this unfinished frame
abbrev pub Reads : List ℕ → List Item → List ℕ → Type 0
Reads bytes [] rest = IsUnfinished rest × (bytes ≡ rest)
Reads bytes (item ∷ items) rest = (text : List ℕ) × (more : List ℕ) × ItemText item text × (bytes ≡ text ++ more) × Reads more items rest

-- what is heard of the line: bytes, and the ticks of who listens
pub data Signal : Type 0 where
  byte : ℕ → Signal
  mark : Signal

-- the bytes among the signals
abbrev pub bytes_of : List Signal → List ℕ
bytes_of [] = []
bytes_of (byte b ∷ s) = b ∷ bytes_of s
bytes_of (mark ∷ s) = bytes_of s

-- how many ticks are among the signals
abbrev pub marks_of : List Signal → ℕ
marks_of [] = 0
marks_of (byte b ∷ s) = marks_of s
marks_of (mark ∷ s) = marks_of s + 1

-- signals that begin with a byte
abbrev pub Starts : List Signal → Type 0
Starts [] = ⊥
Starts (byte b ∷ s) = Unit {0}
Starts (mark ∷ s) = ⊥

-- ticks alone, between items
abbrev pub IsIdle : List Signal → Type 0
IsIdle idle = bytes_of idle ≡ []

-- An item ends with the last byte of its text, before the fifteenth tick; an unfinished frame ends at the fifteenth tick.
abbrev pub Closes : Item → List Signal → Signal → Type 0
Closes item prefix (byte b) = (marks_of prefix < 15) × ItemText item (bytes_of prefix ++ b ∷ [])
Closes item prefix mark = (marks_of prefix ≡ 14) × IsUnfinished (bytes_of prefix) × (item ≡ Refused Aborted)

-- the signals of an item, from the first byte to where it ends
pub record Spans (item : Item) (span : List Signal) : Type 0 where
  pub prefix : List Signal
  pub last : Signal
  pub parts : span ≡ prefix ++ last ∷ []
  pub starts : Starts span
  pub closes : Closes item prefix last

-- an unfinished frame and the number of ticks since its first byte
pub record Rest : Type 0 where
  pub bytes : List ℕ
  pub ticks : ℕ

-- no unfinished frame
abbrev pub no_rest : Rest
no_rest = record { bytes = []; ticks = 0 }

-- an unfinished frame is forgotten before fifteen ticks are counted
pub record IsRest (rest : Rest) : Type 0 where
  pub unfinished : IsUnfinished rest.bytes
  pub ticks : rest.ticks < 15
  pub idle : rest.bytes ≡ [] → rest.ticks ≡ 0

-- the signals of an unfinished frame
pub record Leaves (rest : Rest) (tail : List Signal) : Type 0 where
  pub is_rest : IsRest rest
  pub bytes : bytes_of tail ≡ rest.bytes
  pub ticks : marks_of tail ≡ rest.ticks
  pub starts : (tail ≡ []) ⊎ Starts tail

-- The stream is the signals of these items in order, with ticks between them, and then those of an unfinished frame.
abbrev pub Splits : List Signal → List Item → Rest → Type 0
Splits stream [] rest = (idle : List Signal) × (tail : List Signal) × IsIdle idle × (stream ≡ idle ++ tail) × Leaves rest tail
Splits stream (item ∷ items) rest = (idle : List Signal) × (span : List Signal) × (more : List Signal) × IsIdle idle × (stream ≡ idle ++ span ++ more) × Spans item span × Splits more items rest

-- the signals of a piece of bytes
abbrev pub piece_of : List ℕ → List Signal
piece_of piece = map (λ b. byte b) piece

-- items added at the end of a list, of which something is true
abbrev pub Adds : List Item → List Item → (List Item → Type 0) → Type 0
Adds old new P = (added : List Item) × (new ≡ old ++ added) × P added

-- the ticks since the first byte of what is unfinished now: as before if nothing ended, else none
abbrev pub ticks_after : ℕ → List Item → ℕ
ticks_after ticks [] = ticks
ticks_after ticks (item ∷ items) = 0

-- From the old rest, the piece adds these items and leaves the new rest.
pub record Feeds (old : Rest) (piece : List ℕ) (new : Rest) (added : List Item) : Type 0 where
  pub reads : Reads (old.bytes ++ piece) added new.bytes
  pub ticks : new.ticks ≡ ticks_after old.ticks added

-- Whatever stream was split up to here, it is split with more signals and more items.
abbrev pub GoesOn : Rest → List Signal → Rest → List Item → Type 0
GoesOn old signals new added = (stream : List Signal) (items : List Item) → Splits stream items old → Splits (stream ++ signals) (items ++ added) new

-- From the old rest, a prefix of the piece ends the one item, or the whole piece ends none; each splitting of the stream so far goes on.
abbrev pub FeedsOne : Rest → List ℕ → Rest → Option Item → List ℕ → Type 0
FeedsOne old piece new None left = (left ≡ []) × Feeds old piece new [] × GoesOn old (piece_of piece) new []
FeedsOne old piece new (Some item) left = (prefix : List ℕ) × (piece ≡ prefix ++ left) × Feeds old prefix new (item ∷ []) × GoesOn old (piece_of prefix) new (item ∷ [])

-- ticks are counted where a frame is unfinished
abbrev pub next_tick : List ℕ → ℕ → ℕ
next_tick [] ticks = 0
next_tick (b ∷ bytes) ticks = ticks + 1

-- what a tick leaves: nothing at the fifteenth
abbrev pub after_tick : Rest → Rest
after_tick r = if r.ticks == 14 then no_rest else record { bytes = r.bytes; ticks = next_tick r.bytes r.ticks }

-- the item that a tick makes
abbrev pub aborted_if : Bool → List Item
aborted_if true = Refused Aborted ∷ []
aborted_if false = []
