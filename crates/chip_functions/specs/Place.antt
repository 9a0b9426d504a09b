-- A place in a body, and the fault where a field is not whole.
use Rattle.std.specs.Prelude.{◌≡◌, ℕ, ◌+◌, ◌<◌, ◌≤◌, List, [], ◌∷◌, length, take, drop, Option, Some, None, Result, Ok, Err, nat_lt, if◌then◌else◌}
use Rattle.chip_functions.specs.declared.fault.BodyFault.{BodyFault}
use Rattle.chip_functions.specs.declared.fault.BodyFault.TheVariants.{UnknownFunction, Short, BadField, NoMemory}

-- how many bytes of the body stand before the place, and the bytes from it on
pub record Place : Type 0 where
  pub before : ℕ
  pub rest : List ℕ

-- where a body begins
abbrev pub start_of : List ℕ → Place
start_of body = record { before = 0; rest = body }

-- what is read of a body: a value and the place after it, or the first fault
abbrev pub Reading : Type 0 → Type 0
Reading A = Result (A × Place) BodyFault

-- reads on after what was read
infixl 10 ◌>>=◌
abbrev pub ◌>>=◌ : {A B : Type 0} → Result A BodyFault → (A → Result B BodyFault) → Result B BodyFault
(Ok x) >>= f = f x
(Err fault) >>= f = Err fault

-- what a function returned, seen by view, is what reading gives, unless there was no memory
abbrev pub Gives : {X Y : Type 0} → (X → Y) → Result X BodyFault → Result Y BodyFault → Type 0
Gives view (Ok x) reading = reading ≡ Ok (view x)
Gives view (Err NoMemory) reading = Unit {0}
Gives view (Err fault) reading = reading ≡ Err fault

-- the byte at a place
abbrev pub byte_from : ℕ → List ℕ → Reading ℕ
byte_from before [] = Err (Short (before + 1) before)
byte_from before (byte ∷ rest) = Ok (byte, record { before = before + 1; rest = rest })

-- so many bytes from a place on
abbrev pub piece_from : ℕ → ℕ → List ℕ → Reading (List ℕ)
piece_from count before rest = if nat_lt (length rest) count then Err (Short (before + count) (before + length rest)) else Ok (take count rest, record { before = before + count; rest = drop count rest })

-- a value that was found, or a bad field at that place
abbrev pub found_at : {A : Type 0} → ℕ → Option A → Place → Reading A
found_at before None after = Err (BadField before)
found_at before (Some value) after = Ok (value, after)

-- a request ends after its last field
abbrev pub ended_from : {A : Type 0} → A → ℕ → List ℕ → Result A BodyFault
ended_from value before [] = Ok value
ended_from value before (byte ∷ rest) = Err (BadField before)

-- a fault of what stands from a place on: it tells the bytes that there are, or names one of them
abbrev pub IsFaultFrom : Place → BodyFault → Type 0
IsFaultFrom p (Short need got) = (got ≡ p.before + length p.rest) × (got < need)
IsFaultFrom p (BadField place) = (p.before ≤ place) × (place < p.before + length p.rest)
IsFaultFrom p (UnknownFunction func) = ⊥
IsFaultFrom p NoMemory = ⊥

-- a fault of the body of a function
abbrev pub IsBodyFault : ℕ → List ℕ → BodyFault → Type 0
IsBodyFault func body (Short need got) = (got ≡ length body) × (got < need)
IsBodyFault func body (BadField place) = place < length body
IsBodyFault func body (UnknownFunction number) = number ≡ func
IsBodyFault func body NoMemory = Unit {0}
