-- What every step keeps of the nonces that the host gives (this project's own rule).
use Rattle.std.specs.Prelude.{◌≡◌, ℕ, ◌+◌, ◌<◌, ◌≤◌, Bool, true, false}
use Rattle.std.specs.List.{AllByRecursion}
use Rattle.proof_course.specs.Ways.{NeverFalls, NoneAhead}
use Rattle.proof_course.specs.Flying.{Flight, hosts, KeepsUp}
use Rattle.proof_course.specs.NodeNonceFacts.{itself}
use Rattle.proof_course.specs.HostNonces.{Nonces, Cargo, Offer, Of_host, Sealed, Of_node, is_of_host}

-- a nonce that is still to go on the air is the last that was given or the one before, and none before one that went there
pub record IsDue (shown given number : ℕ) : Type 0 where
  pub from_one : 0 < number
  pub unsent : shown ≤ number
  pub was_given : number ≤ given
  pub near : given ≤ number + 1

-- a nonce went on the air as it was the greatest there; a message went there before the second nonce after its own did
abbrev pub FitsBy : ℕ → ℕ → ℕ → Cargo → Type 0
FitsBy shown sent since (Offer number) = (0 < number) × ((number ≤ shown) × (since ≡ number))
FitsBy shown sent since Of_host = Unit {0}
FitsBy shown sent since (Sealed number) = (0 < number) × ((number ≤ sent) × ((number ≤ since) × (since ≤ number + 1)))
FitsBy shown sent since Of_node = Unit {0}

abbrev pub Fits : Nonces → Flight Cargo → Type 0
Fits c flight = FitsBy c.shown c.sent flight.since flight.cargo

-- a message on its way to the host is for one of the last 123 nonces; where it is for the first of these, the last one is live
pub record IsOnTime (given sent : ℕ) (is_live : Bool) (number : ℕ) : Type 0 where
  pub from_one : 0 < number
  pub was_sent : number ≤ sent
  pub near : given ≤ number + 122
  pub edge : given ≡ number + 122 → is_live ≡ true

pub record NonceFacts (c : Nonces) : Type 0 where
  pub one_ahead : c.given ≤ c.sent + 1
  pub sent_seen : c.sent ≤ c.seen
  pub seen_shown : c.seen ≤ c.shown
  pub shown_given : c.shown ≤ c.given
  pub spent : c.is_live ≡ false → c.sent ≡ c.given
  pub lives : c.is_live ≡ true → 0 < c.given
  pub due : AllByRecursion (IsDue c.shown c.given) c.up
  pub in_turn : NeverFalls itself c.up
  pub flying : AllByRecursion (Fits c) c.air
  pub flown : AllByRecursion (Fits c) c.old
  pub few : hosts is_of_host c.air ≤ 2
  pub keeps_up : KeepsUp is_of_host c.shown c.shown c.air
  pub on_time : AllByRecursion (IsOnTime c.given c.sent c.is_live) c.down
  pub none_ahead : NoneAhead itself 122 c.given c.down
