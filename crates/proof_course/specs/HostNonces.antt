-- The nonces that the host gives a node, and the messages that the node seals for them (this project's own model): what there is, what may
-- happen, one step at a time, and what it makes of them. A nonce is known here by its number; on the wire it has eight bits of that.
use Rattle.std.specs.Prelude.{◌≡◌, ℕ, ◌+◌, ◌<◌, ◌≤◌, ◌%◌, ◌==◌, ◌&&◌, not, max, Bool, true, false, List, [], ◌∷◌, ◌++◌, slice_get, Option, Some, None}
use Rattle.std.specs.List.{remove}
use Rattle.proof_course.specs.Ways.{doubled}
use Rattle.proof_course.specs.Flying.{Flight, hosts}
use Rattle.proof_course.specs.NodeNonces.{taken_as}

-- what a frame holds: a nonce of the host with its number, or nothing of these; a message of the node, sealed for the nonce of that number, or
-- nothing of these
pub data Cargo : Type 0 where
  Offer : (number : ℕ) → Cargo
  Of_host : Cargo
  Sealed : (number : ℕ) → Cargo
  Of_node : Cargo

abbrev pub is_of_host : Cargo → Bool
is_of_host (Offer number) = true
is_of_host Of_host = true
is_of_host (Sealed number) = false
is_of_host Of_node = false

-- ---- what there is

-- how many nonces the host gave, and whether the last was not spent yet; how many of them the node saw, and whether a text waits for one; the
-- greatest that went on the air; the greatest for which a message went there; the nonces on their way to the chip, those that the host
-- did not write yet after the others; the frames on the air, with the greatest nonce that had gone there when each did; all frames
-- that ever were there; and the messages on their way to the host
pub record Nonces : Type 0 where
  pub given : ℕ
  pub is_live : Bool
  pub seen : ℕ
  pub waits : Bool
  pub shown : ℕ
  pub sent : ℕ
  pub up : List ℕ
  pub air : List (Flight Cargo)
  pub old : List (Flight Cargo)
  pub down : List ℕ

abbrev pub first_nonces : Nonces
first_nonces = record { given = 0; is_live = false; seen = 0; waits = false; shown = 0; sent = 0; up = []; air = []; old = []; down = [] }

-- ---- what may happen

-- the host is asked for a nonce, and is to send the live one; a text of the node waits for a nonce; a nonce on its way to the chip is lost, or
-- comes twice; the chip puts the first of them on the air, or another frame goes there; the oldest frame on the air is heard by whom it is for,
-- or by nobody; any frame that ever was there is heard again; where the node seals for a nonce that it hears, the message may go on
-- the air; a message on its way to the host is lost, or comes twice; the host judges the first of them
pub data Step : Type 0 where
  Gives : Step
  Offers : Step
  Waits : Step
  Up_loses : (at : ℕ) → Step
  Up_doubles : (at : ℕ) → Step
  Sends : Step
  Flies : (cargo : Cargo) → Step
  Lands : (is_heard goes_out : Bool) → Step
  Repeats : (at : ℕ) (goes_out : Bool) → Step
  Down_loses : (at : ℕ) → Step
  Down_doubles : (at : ℕ) → Step
  Judges : Step

-- ---- words

-- a new nonce is given where none is live
abbrev pub gives : Nonces → Bool → Nonces
gives c true = c
gives c false = record c { given = c.given + 1; is_live = true }

abbrev pub flies : Nonces → Cargo → Nonces
flies c cargo = record c {
  air = c.air ++ record { cargo = cargo; since = c.shown } ∷ [];
  old = c.old ++ record { cargo = cargo; since = c.shown } ∷ [];
}

-- a message for this nonce goes on the air
abbrev pub answers : Nonces → ℕ → Bool → Nonces
answers c number true = record (flies c (Sealed number)) { sent = max c.sent number }
answers c number false = c

-- the text of the node that waits is sealed for a nonce
abbrev pub seals : Nonces → Option ℕ → Bool → Nonces
seals c None goes_out = c
seals c (Some number) goes_out = answers (record c { seen = number; waits = false }) number goes_out

-- a frame is heard by whom it is for
abbrev pub hears : Nonces → Cargo → Bool → Nonces
hears c (Offer number) goes_out = seals c (taken_as c.waits c.seen number) goes_out
hears c Of_host goes_out = c
hears c (Sealed number) goes_out = record c { down = c.down ++ number ∷ [] }
hears c Of_node goes_out = c

abbrev pub sends : Nonces → List ℕ → Nonces
sends c [] = c
sends c (number ∷ numbers) = record (flies (record c { shown = max c.shown number }) (Offer number)) { up = numbers }

abbrev pub lands : Nonces → List (Flight Cargo) → Bool → Bool → Nonces
lands c [] is_heard goes_out = c
lands c (flight ∷ flights) true goes_out = hears (record c { air = flights }) flight.cargo goes_out
lands c (flight ∷ flights) false goes_out = record c { air = flights }

abbrev pub repeats : Nonces → Option (Flight Cargo) → Bool → Nonces
repeats c None goes_out = c
repeats c (Some flight) goes_out = hears c flight.cargo goes_out

-- a message names the live nonce, as far as eight bits tell that
abbrev pub names : Nonces → ℕ → Bool
names c number = c.is_live && (number % 256 == c.given % 256)

-- a nonce that is named is spent
abbrev pub judges : Nonces → List ℕ → Nonces
judges c [] = c
judges c (number ∷ numbers) = record c { down = numbers; is_live = c.is_live && not (names c number) }

-- ---- what is then

abbrev pub after : Nonces → Step → Nonces
after c Gives = gives c c.is_live
after c Offers = record c { up = c.up ++ c.given ∷ [] }
after c Waits = record c { waits = true }
after c (Up_loses at) = record c { up = remove c.up at }
after c (Up_doubles at) = record c { up = doubled c.up at }
after c Sends = sends c c.up
after c (Flies cargo) = flies c cargo
after c (Lands is_heard goes_out) = lands c c.air is_heard goes_out
after c (Repeats at goes_out) = repeats c (slice_get c.old at) goes_out
after c (Down_loses at) = record c { down = remove c.down at }
after c (Down_doubles at) = record c { down = doubled c.down at }
after c Judges = judges c c.down

-- ---- when it may happen

-- at most two frames of the host are on the air at once
abbrev pub HasRoom : Nonces → Type 0
HasRoom c = hosts is_of_host c.air ≤ 1

abbrev pub MayFly : Nonces → Cargo → Type 0
MayFly c (Offer number) = ⊥
MayFly c Of_host = HasRoom c
MayFly c (Sealed number) = ⊥
MayFly c Of_node = Unit {0}

-- a frame that is heard again is fresh: fewer than 120 nonces went on the air since
abbrev pub MayRepeat : Nonces → Option (Flight Cargo) → Type 0
MayRepeat c None = ⊥
MayRepeat c (Some flight) = c.shown < flight.since + 120

-- the nonce that is to be sent is live
abbrev pub May : Nonces → Step → Type 0
May c Gives = Unit {0}
May c Offers = c.is_live ≡ true
May c Waits = Unit {0}
May c (Up_loses at) = Unit {0}
May c (Up_doubles at) = Unit {0}
May c Sends = HasRoom c
May c (Flies cargo) = MayFly c cargo
May c (Lands is_heard goes_out) = Unit {0}
May c (Repeats at goes_out) = MayRepeat c (slice_get c.old at)
May c (Down_loses at) = Unit {0}
May c (Down_doubles at) = Unit {0}
May c Judges = Unit {0}

-- one step after another
abbrev pub after_all : Nonces → List Step → Nonces
after_all c [] = c
after_all c (step ∷ steps) = after_all (after c step) steps

abbrev pub MayAll : Nonces → List Step → Type 0
MayAll c [] = Unit {0}
MayAll c (step ∷ steps) = May c step × MayAll (after c step) steps
