-- Frames on the air: how many are of the host, and how many sessions began and were sent since.
use Rattle.std.proofs.Common.{◌≡◌, ℕ, ◌+◌, ◌≤◌, Bool, true, if◌then◌else◌, List, [], ◌∷◌, ◌++◌, ap, arith}
use Rattle.proof_course.specs.Flying.{Flight, hosts, one_of, KeepsUp}

one_alone : (n : ℕ) → n + 0 ≡ 0 + n
one_alone n = omega arith

one_before : (n more fewer one : ℕ) → more ≡ fewer + one → n + more ≡ n + fewer + one
one_before n more fewer one e = omega arith

pub hosts-push : {C : Type 0} (is_of : C → Bool) (flights : List (Flight C)) (flight : Flight C) → hosts is_of (flights ++ flight ∷ []) ≡ hosts is_of flights + one_of is_of flight.cargo
hosts-push is_of [] flight = one_alone (one_of is_of flight.cargo)
hosts-push is_of (first ∷ flights) flight = one_before (one_of is_of first.cargo) (hosts is_of (flights ++ flight ∷ [])) (hosts is_of flights) (one_of is_of flight.cargo) (hosts-push is_of flights flight)

-- a session begins where all that had begun were sent
pub keeps-begin : {C : Type 0} (is_of : C → Bool) (begun sent : ℕ) (flights : List (Flight C)) → begun ≤ sent → KeepsUp is_of begun sent flights → KeepsUp is_of (begun + 1) sent flights
keeps-begin is_of begun sent [] all keeps = tt
keeps-begin is_of begun sent (flight ∷ flights) all keeps =
    let near : sent ≤ flight.since + hosts is_of flights = keeps.1.0 in (omega arith, (near, keeps-begin is_of begun sent flights all keeps.1.1))

-- one more goes on the air
pub keeps-push : {C : Type 0} (is_of : C → Bool) (begun sent : ℕ) (flights : List (Flight C)) (cargo : C) → sent ≤ begun → KeepsUp is_of begun sent flights
    → KeepsUp is_of begun sent (flights ++ record { cargo = cargo; since = begun } ∷ [])
keeps-push is_of begun sent [] cargo below keeps = (omega arith, (omega arith, tt))
keeps-push is_of begun sent (flight ∷ flights) cargo below keeps =
    let more : hosts is_of (flights ++ record { cargo = cargo; since = begun } ∷ []) ≡ hosts is_of flights + one_of is_of cargo = hosts-push is_of flights (record { cargo = cargo; since = begun }) in
    let first : begun ≤ flight.since + 1 + hosts is_of flights = keeps.0 in
    let second : sent ≤ flight.since + hosts is_of flights = keeps.1.0 in
    (omega arith, (omega arith, keeps-push is_of begun sent flights cargo below keeps.1.1))

-- one of the host, with which more sessions are sent
pub keeps-send : {C : Type 0} (is_of : C → Bool) (begun sent later : ℕ) (flights : List (Flight C)) (cargo : C) → later ≤ begun → is_of cargo ≡ true → KeepsUp is_of begun sent flights
    → KeepsUp is_of begun later (flights ++ record { cargo = cargo; since = begun } ∷ [])
keeps-send is_of begun sent later [] cargo below host keeps = (omega arith, (omega arith, tt))
keeps-send is_of begun sent later (flight ∷ flights) cargo below host keeps =
    let one : one_of is_of cargo ≡ 1 = ap (λ (b : Bool). if b then 1 else 0) host in
    let more : hosts is_of (flights ++ record { cargo = cargo; since = begun } ∷ []) ≡ hosts is_of flights + one_of is_of cargo = hosts-push is_of flights (record { cargo = cargo; since = begun }) in
    let first : begun ≤ flight.since + 1 + hosts is_of flights = keeps.0 in
    (omega arith, (omega arith, keeps-send is_of begun sent later flights cargo below host keeps.1.1))

-- one of the host, with which the count rises by one at most
pub keeps-raise : {C : Type 0} (is_of : C → Bool) (count later : ℕ) (flights : List (Flight C)) (cargo : C) → count ≤ later → later ≤ count + 1 → is_of cargo ≡ true → KeepsUp is_of count count flights
    → KeepsUp is_of later later (flights ++ record { cargo = cargo; since = later } ∷ [])
keeps-raise is_of count later [] cargo more near host keeps = (omega arith, (omega arith, tt))
keeps-raise is_of count later (flight ∷ flights) cargo more near host keeps =
    let one : one_of is_of cargo ≡ 1 = ap (λ (b : Bool). if b then 1 else 0) host in
    let all : hosts is_of (flights ++ record { cargo = cargo; since = later } ∷ []) ≡ hosts is_of flights + one_of is_of cargo = hosts-push is_of flights (record { cargo = cargo; since = later }) in
    let second : count ≤ flight.since + hosts is_of flights = keeps.1.0 in
    (omega arith, (omega arith, keeps-raise is_of count later flights cargo more near host keeps.1.1))
