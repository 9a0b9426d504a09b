-- The nonces that a node gives the host, and the messages that the host seals for them (this project's own model): what there is, what may
-- happen, one step at a time, and what it makes of them. A nonce is known here by its number; on the wire it has eight bits of that.
use Rattle.std.specs.Prelude.{◌≡◌, ℕ, ◌+◌, ◌<◌, ◌≤◌, ◌%◌, ◌==◌, ◌&&◌, not, max, Bool, true, false, List, [], ◌∷◌, ◌++◌, slice_get, Option, Some, None}
use Rattle.std.specs.List.{remove}
use Rattle.s0_session.specs.Sending.{seen_after}
use Rattle.proof_course.specs.Ways.{doubled}
use Rattle.proof_course.specs.Flying.{Flight, hosts}

-- what a frame holds: a message of the host, sealed for the nonce of that number, or nothing of these; a nonce of the node, or nothing of these
pub data Cargo : Type 0 where
  Sealed : (number : ℕ) → Cargo
  Of_host : Cargo
  Offer : (number : ℕ) → Cargo
  Of_node : Cargo

abbrev pub is_of_host : Cargo → Bool
is_of_host (Sealed number) = true
is_of_host Of_host = true
is_of_host (Offer number) = false
is_of_host Of_node = false

-- ---- what there is

-- how many nonces the node gave, and whether the last was not spent yet; how many of them the host saw, and whether a text waits for one; the
-- greatest for which a message went on the air; the messages on their way to the chip, those that the host did not write yet after the
-- others; the frames on the air, with how many nonces were given when each went there; all frames that ever were there; and
-- the nonces on their way to the host
pub record Nonces : Type 0 where
  pub given : ℕ
  pub is_live : Bool
  pub seen : ℕ
  pub waits : Bool
  pub sent : ℕ
  pub up : List ℕ
  pub air : List (Flight Cargo)
  pub old : List (Flight Cargo)
  pub down : List ℕ

abbrev pub first_nonces : Nonces
first_nonces = record { given = 0; is_live = false; seen = 0; waits = false; sent = 0; up = []; air = []; old = []; down = [] }

-- ---- what may happen

-- the node is asked for a nonce, and sends the live one; a text of the host waits for a nonce; a message on its way to the chip is lost, or
-- comes twice; the chip puts the first of them on the air, or another frame goes there; the oldest frame on the air is heard by
-- whom it is for, or by nobody; any frame that ever was there is heard again; a nonce on its way to the host is lost, or comes twice; the host
-- judges the first of them
pub data Step : Type 0 where
  Gives : Step
  Offers : Step
  Waits : Step
  Up_loses : (at : ℕ) → Step
  Up_doubles : (at : ℕ) → Step
  Sends : Step
  Flies : (cargo : Cargo) → Step
  Lands : (is_heard : Bool) → Step
  Repeats : (at : ℕ) → Step
  Down_loses : (at : ℕ) → Step
  Down_doubles : (at : ℕ) → Step
  Judges : Step

-- ---- words

-- a new nonce is given where none is live
abbrev pub gives : Nonces → Bool → Nonces
gives c true = c
gives c false = record c { given = c.given + 1; is_live = true }

abbrev pub flies : Nonces → Cargo → Nonces
flies c cargo = record c {
  air = c.air ++ record { cargo = cargo; since = c.given } ∷ [];
  old = c.old ++ record { cargo = cargo; since = c.given } ∷ [];
}

-- a message names the live nonce, as far as eight bits tell that
abbrev pub names : Nonces → ℕ → Bool
names c number = c.is_live && (number % 256 == c.given % 256)

-- a frame is heard by whom it is for: a nonce that is named is spent
abbrev pub hears : Nonces → Cargo → Nonces
hears c (Sealed number) = record c { is_live = c.is_live && not (names c number) }
hears c Of_host = c
hears c (Offer number) = record c { down = c.down ++ number ∷ [] }
hears c Of_node = c

abbrev pub sends : Nonces → List ℕ → Nonces
sends c [] = c
sends c (number ∷ numbers) = record (flies c (Sealed number)) { up = numbers; sent = max c.sent number }

abbrev pub lands : Nonces → List (Flight Cargo) → Bool → Nonces
lands c [] is_heard = c
lands c (flight ∷ flights) true = hears (record c { air = flights }) flight.cargo
lands c (flight ∷ flights) false = record c { air = flights }

abbrev pub repeats : Nonces → Option (Flight Cargo) → Nonces
repeats c None = c
repeats c (Some flight) = hears c flight.cargo

-- what the host takes a nonce for, where a text waits
abbrev pub taken_as : Bool → ℕ → ℕ → Option ℕ
taken_as true seen number = seen_after seen (number % 256)
taken_as false seen number = None

-- the text that waits is sealed for it
abbrev pub seals : Nonces → Option ℕ → Nonces
seals c None = c
seals c (Some number) = record c { seen = number; waits = false; up = c.up ++ number ∷ [] }

abbrev pub judges : Nonces → List ℕ → Nonces
judges c [] = c
judges c (number ∷ numbers) = seals (record c { down = numbers }) (taken_as c.waits c.seen number)

-- ---- what is then

abbrev pub after : Nonces → Step → Nonces
after c Gives = gives c c.is_live
after c Offers = flies c (Offer c.given)
after c Waits = record c { waits = true }
after c (Up_loses at) = record c { up = remove c.up at }
after c (Up_doubles at) = record c { up = doubled c.up at }
after c Sends = sends c c.up
after c (Flies cargo) = flies c cargo
after c (Lands is_heard) = lands c c.air is_heard
after c (Repeats at) = repeats c (slice_get c.old at)
after c (Down_loses at) = record c { down = remove c.down at }
after c (Down_doubles at) = record c { down = doubled c.down at }
after c Judges = judges c c.down

-- ---- when it may happen

-- at most two frames of the host are on the air at once
abbrev pub HasRoom : Nonces → Type 0
HasRoom c = hosts is_of_host c.air ≤ 1

abbrev pub MayFly : Nonces → Cargo → Type 0
MayFly c (Sealed number) = ⊥
MayFly c Of_host = HasRoom c
MayFly c (Offer number) = ⊥
MayFly c Of_node = Unit {0}

-- a frame that is heard again is fresh: fewer than 120 nonces were given since
abbrev pub MayRepeat : Nonces → Option (Flight Cargo) → Type 0
MayRepeat c None = ⊥
MayRepeat c (Some flight) = c.given < flight.since + 120

-- the nonce that is sent is live
abbrev pub May : Nonces → Step → Type 0
May c Gives = Unit {0}
May c Offers = c.is_live ≡ true
May c Waits = Unit {0}
May c (Up_loses at) = Unit {0}
May c (Up_doubles at) = Unit {0}
May c Sends = HasRoom c
May c (Flies cargo) = MayFly c cargo
May c (Lands is_heard) = Unit {0}
May c (Repeats at) = MayRepeat c (slice_get c.old at)
May c (Down_loses at) = Unit {0}
May c (Down_doubles at) = Unit {0}
May c Judges = Unit {0}

-- one step after another
abbrev pub after_all : Nonces → List Step → Nonces
after_all c [] = c
after_all c (step ∷ steps) = after_all (after c step) steps

abbrev pub MayAll : Nonces → List Step → Type 0
MayAll c [] = Unit {0}
MayAll c (step ∷ steps) = May c step × MayAll (after c step) steps
