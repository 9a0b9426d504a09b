-- What every step keeps of the nonces that a node gives (this project's own rule).
use Rattle.std.specs.Prelude.{◌≡◌, ℕ, ◌+◌, ◌<◌, ◌≤◌, true, false}
use Rattle.std.specs.List.{AllByRecursion}
use Rattle.proof_course.specs.Ways.{NeverFalls, NoneAhead}
use Rattle.proof_course.specs.Flying.{Flight, hosts, KeepsUp}
use Rattle.proof_course.specs.NodeNonces.{Nonces, Cargo, Sealed, Of_host, Offer, Of_node, is_of_host}

-- a message that is still to go on the air is sealed for the last nonce that the host saw or the one before, and for none before one that
-- went there
pub record IsDue (sent seen number : ℕ) : Type 0 where
  pub from_one : 0 < number
  pub unsent : sent ≤ number
  pub was_seen : number ≤ seen
  pub near : seen ≤ number + 1

-- a message went on the air before the second nonce after its own was given; a nonce went there as it was the last
abbrev pub FitsBy : ℕ → ℕ → ℕ → Cargo → Type 0
FitsBy given sent since (Sealed number) = (number ≤ sent) × ((number ≤ since) × (since ≤ number + 1))
FitsBy given sent since Of_host = Unit {0}
FitsBy given sent since (Offer number) = (0 < number) × ((number ≤ given) × (since ≡ number))
FitsBy given sent since Of_node = Unit {0}

abbrev pub Fits : Nonces → Flight Cargo → Type 0
Fits c flight = FitsBy c.given c.sent flight.since flight.cargo

-- a nonce on its way to the host is one of the last 121; where it is the first of these, the host did not see the last one
pub record IsOnTime (given seen number : ℕ) : Type 0 where
  pub from_one : 0 < number
  pub was_given : number ≤ given
  pub near : given ≤ number + 120
  pub edge : given ≡ number + 120 → seen < given

abbrev pub itself : ℕ → ℕ
itself number = number

pub record NonceFacts (c : Nonces) : Type 0 where
  pub one_ahead : c.given ≤ c.sent + 1
  pub sent_seen : c.sent ≤ c.seen
  pub seen_given : c.seen ≤ c.given
  pub spent : c.is_live ≡ false → c.sent ≡ c.given
  pub lives : c.is_live ≡ true → 0 < c.given
  pub due : AllByRecursion (IsDue c.sent c.seen) c.up
  pub in_turn : NeverFalls itself c.up
  pub flying : AllByRecursion (Fits c) c.air
  pub flown : AllByRecursion (Fits c) c.old
  pub few : hosts is_of_host c.air ≤ 2
  pub keeps_up : KeepsUp is_of_host c.given c.sent c.air
  pub on_time : AllByRecursion (IsOnTime c.given c.seen) c.down
  pub none_ahead : NoneAhead itself 120 c.given c.down
