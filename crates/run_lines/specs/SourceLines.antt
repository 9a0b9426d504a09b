-- Lines of an input that is read in pieces (this project's own rule): each ends in a line feed, the last one perhaps at the
-- end of input.
use Rattle.std.specs.Prelude.{◌≡◌, ◌≢◌, ℕ, ◌+◌, ◌<◌, ◌≤◌, ◌⊎◌, ◌==◌, Bool, true, false, List, [], ◌∷◌, ◌++◌, length, take, Option}
use Rattle.std.specs.Io.KnownBytes.{Consumes, Keeps}
use Rattle.run_lines.specs.declared.reader.TheConstants.{MAX_LINE, MAX_INPUT, PIECE}
use Rattle.run_lines.specs.declared.reader.Next.{Next}
use Rattle.run_lines.specs.declared.reader.Next.TheVariants.{Line, TooLong, End, ReadFault, InputTooLong}

-- what a reader of lines is to its callers: the line that it gave last, the bytes that were read and are in no line yet, how
-- many bytes were read in all, and whether the end of input was read
pub record Reading : Type 0 where
  pub line : List ℕ
  pub pending : List ℕ
  pub taken : ℕ
  pub ended : Bool

-- nothing read
abbrev pub nothing_read : Reading
nothing_read = record { line = []; pending = []; taken = 0; ended = false }

-- no line feed is among the bytes
abbrev pub IsOneLine : List ℕ → Type 0
IsOneLine [] = Unit {0}
IsOneLine (byte ∷ bytes) = (byte ≢ 10) × IsOneLine bytes

-- a line could still end in what is to be read
pub record IsOpen (bytes : List ℕ) : Type 0 where
  pub one : IsOneLine bytes
  pub short : length bytes ≤ MAX_LINE

-- a further piece is wanted after these bytes: no line is there, the input has not ended, and it is not too long yet
pub record WantsMore (old : Reading) (bytes : List ℕ) : Type 0 where
  pub unfinished : IsOpen (old.pending ++ bytes)
  pub more : old.ended ≡ false
  pub short : old.taken + length bytes ≤ MAX_INPUT

-- these bytes were read in pieces, the last of them while a further one was wanted
pub record ReadsOn (old : Reading) (bytes : List ℕ) : Type 0 where
  pub earlier : List ℕ
  pub piece : List ℕ
  pub parts : bytes ≡ earlier ++ piece
  pub short : length piece ≤ PIECE
  pub needed : (bytes ≡ []) ⊎ WantsMore old earlier

-- a line that a line feed ends
pub record IsCut (bytes line rest : List ℕ) : Type 0 where
  pub one : IsOneLine line
  pub short : length line ≤ MAX_LINE
  pub parts : bytes ≡ line ++ 10 ∷ rest

-- a line that the end of input ends
pub record IsLast (bytes line rest : List ℕ) (ended : Bool) : Type 0 where
  pub could : IsOpen line
  pub some : 0 < length line
  pub parts : (bytes ≡ line) × (rest ≡ [])
  pub at_end : ended ≡ true

-- the bytes begin with more than a line holds
pub record IsTooLong (bytes : List ℕ) : Type 0 where
  pub long : MAX_LINE < length bytes
  pub one : IsOneLine (take (MAX_LINE + 1) bytes)

-- what was found in the bytes that were pending and those that were read then
abbrev pub Finds : Next → Bool → List ℕ → Reading → Type 0
Finds Line ended bytes new = IsCut bytes new.line new.pending ⊎ IsLast bytes new.line new.pending new.ended
Finds TooLong ended bytes new = IsTooLong bytes × (new.pending ≡ bytes)
Finds End ended bytes new = (bytes ≡ []) × (new.ended ≡ true) × (new.pending ≡ [])
Finds ReadFault ended bytes new = IsOpen bytes × (new.pending ≡ bytes) × (ended ≡ false)
Finds InputTooLong ended bytes new = Unit {0}

-- the input is too long exactly where that is the answer
abbrev pub IsWithin : Next → ℕ → Type 0
IsWithin InputTooLong taken = MAX_INPUT < taken
IsWithin answer taken = taken ≤ MAX_INPUT

-- the reader went on from old to new over these bytes of its source, and answered
pub record Goes (answer : Next) (old : Reading) (bytes : List ℕ) (new : Reading) : Type 0 where
  pub reads : ReadsOn old bytes
  pub taken : new.taken ≡ old.taken + length bytes
  pub within : IsWithin answer new.taken
  pub finds : Finds answer old.ended (old.pending ++ bytes) new
  pub ended : old.ended ≡ true → new.ended ≡ true

-- the same, with the bytes that its source has left
pub record GoesFrom (answer : Next) (old : Reading) (left : Option (List ℕ)) (new : Reading) (left' : Option (List ℕ)) : Type 0 where
  pub bytes : List ℕ
  pub consumes : Consumes left left' bytes
  pub goes : Goes answer old bytes new

-- ---- the steps of a call

-- no line is given
abbrev pub no_line : Reading → Reading
no_line old = record old { line = [] }

abbrev pub CutsBy : Next → Reading → Reading → Type 0
CutsBy Line old new = IsCut old.pending new.line new.pending
CutsBy TooLong old new = IsTooLong old.pending × (new.pending ≡ old.pending)
CutsBy End old new = ⊥
CutsBy ReadFault old new = ⊥
CutsBy InputTooLong old new = ⊥

-- a line was cut off what was pending, or it is too long
pub record Cuts (answer : Next) (old new : Reading) : Type 0 where
  pub taken : new.taken ≡ old.taken
  pub ended : new.ended ≡ old.ended
  pub cut : CutsBy answer old new

abbrev pub FinishesBy : Next → List ℕ → Type 0
FinishesBy Line pending = 0 < length pending
FinishesBy End pending = pending ≡ []
FinishesBy TooLong pending = ⊥
FinishesBy ReadFault pending = ⊥
FinishesBy InputTooLong pending = ⊥

-- what was pending is the last line, or nothing was
pub record Finishes (answer : Next) (old new : Reading) : Type 0 where
  pub after : new ≡ record old { line = old.pending; pending = [] }
  pub answers : FinishesBy answer old.pending

-- a piece was read, which is empty at the end of input alone
pub record Fills (old : Reading) (left : Option (List ℕ)) (new : Reading) (left' : Option (List ℕ)) : Type 0 where
  pub piece : List ℕ
  pub short : length piece ≤ PIECE
  pub after : new ≡ record old { line = []; pending = old.pending ++ piece; taken = old.taken + length piece; ended = length piece == 0 }
  pub consumes : Consumes left left' piece

-- why no piece was read, or it is too much
abbrev pub FillFails : Next → Reading → Option (List ℕ) → Reading → Option (List ℕ) → Type 0
FillFails ReadFault old left new left' = (new ≡ no_line old) × Keeps left left'
FillFails InputTooLong old left new left' = Fills old left new left' × (MAX_INPUT < new.taken)
FillFails Line old left new left' = ⊥
FillFails TooLong old left new left' = ⊥
FillFails End old left new left' = ⊥
