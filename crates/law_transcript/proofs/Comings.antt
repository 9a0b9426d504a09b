-- Which events a device had, by what came in them and how many ticks they are.
use Rattle.std.proofs.Common.{◌≡◌, ℕ, ◌+◌, List, [], ◌∷◌, ◌++◌, length, refl, ap, subst, arith}
use Rattle.std.specs.Prelude.{◌≤◌}
use Rattle.device_sim.specs.Event.{DeviceEvent}
use Rattle.device_sim.specs.Event.DeviceEvent.{Hears, Ticks, Wakes, Sets}
use Rattle.law_transcript.specs.Devices.{Coming, ComingAt, coming_of, comings, ticks_in, ticks_lived}
use Rattle.law_transcript.specs.Devices.Coming.{Payload, Woken, SetTo}
use Rattle.law_transcript.specs.Lists.{shown_after}

-- what comes in events after others
abbrev pub came_after : List DeviceEvent → List DeviceEvent → List ComingAt
came_after past events = shown_after (λ past event. coming_of (ticks_lived past) event) past events

-- numbers that tell apart what comes first, and how many ticks come before it
abbrev pub coming_tag : Coming → ℕ
coming_tag (Payload bytes) = 1
coming_tag Woken = 2
coming_tag (SetTo value) = 3 + value

abbrev pub first_tag : List ComingAt → ℕ
first_tag [] = 0
first_tag (one ∷ more) = coming_tag one.coming

-- no tick passed and nothing came
pub nothing_after : (past events : List DeviceEvent) → ticks_lived events ≤ 0 → length (came_after past events) ≤ 0 → events ≡ []
nothing_after past [] ticked few = refl
nothing_after past (Hears payload drawn ∷ events) ticked few = absurd (omega (arith, few))
nothing_after past (Ticks drawn ∷ events) ticked few = absurd (omega (arith, ticked))
nothing_after past (Wakes ∷ events) ticked few = absurd (omega (arith, few))
nothing_after past (Sets value ∷ events) ticked few = absurd (omega (arith, few))

pub nothing_came : (events : List DeviceEvent) → comings events ≡ [] → ticks_lived events ≡ 0 → events ≡ []
nothing_came events came ticked = nothing_after [] events (omega (arith, ticked)) (omega (arith, ap length came))

-- one tick passed and nothing came
pub only_ticked : (events : List DeviceEvent) → comings events ≡ [] → ticks_lived events ≡ 1 → (drawn : List ℕ) × (events ≡ Ticks drawn ∷ [])
only_ticked [] came ticked = absurd (omega (arith, ticked))
only_ticked (Hears payload drawn ∷ events) came ticked = absurd (omega (arith, ap length came))
only_ticked (Ticks drawn ∷ events) came ticked =
    (drawn, ap (λ (rest : List DeviceEvent). Ticks drawn ∷ rest) (nothing_after (Ticks drawn ∷ []) events (omega (arith, ticked)) (omega (arith, ap length came))))
only_ticked (Wakes ∷ events) came ticked = absurd (omega (arith, ap length came))
only_ticked (Sets value ∷ events) came ticked = absurd (omega (arith, ap length came))

-- the first event, where no tick passed, is that which brings what came first
set_first : (events : List DeviceEvent) (value : ℕ) → first_tag (comings events) ≡ 3 + value → ticks_lived events ≤ 0
    → length (comings events) ≤ 1 → events ≡ Sets value ∷ []
set_first [] value came ticked few = absurd (omega (arith, came))
set_first (Hears payload drawn ∷ events) value came ticked few = absurd (omega (arith, came))
set_first (Ticks drawn ∷ events) value came ticked few = absurd (omega (arith, ticked))
set_first (Wakes ∷ events) value came ticked few = absurd (omega (arith, came))
set_first (Sets other ∷ events) value came ticked few =
    let same : other ≡ value = omega (arith, came) in
    subst (λ (number : ℕ). Sets other ∷ events ≡ Sets number ∷ []) same
    (ap (λ (rest : List DeviceEvent). Sets other ∷ rest) (nothing_after (Sets other ∷ []) events (omega (arith, ticked)) (omega (arith, few))))

-- no tick passed and a line alone set it
pub only_set : (events : List DeviceEvent) (value : ℕ) → comings events ≡ record { ticks = 0; coming = SetTo value } ∷ [] → ticks_lived events ≡ 0
    → events ≡ Sets value ∷ []
only_set events value came ticked = set_first events value (ap first_tag came) (omega (arith, ticked)) (omega (arith, ap length came))

-- the first payload that comes
abbrev first_payload : List ComingAt → List ℕ
first_payload [] = []
first_payload (one ∷ more) = payload_of one.coming
  where
    payload_of : Coming → List ℕ
    payload_of (Payload bytes) = bytes
    payload_of _ = []

-- no tick passed and a payload alone came
pub only_heard : (events : List DeviceEvent) (bytes : List ℕ) → comings events ≡ record { ticks = 0; coming = Payload bytes } ∷ [] → ticks_lived events ≡ 0
    → (drawn : List ℕ) × (events ≡ Hears bytes drawn ∷ [])
only_heard [] bytes came ticked = absurd (omega (arith, ap first_tag came))
only_heard (Hears payload drawn ∷ events) bytes came ticked =
    let same : payload ≡ bytes = ap first_payload came in (
      drawn,
      subst (λ (other : List ℕ). Hears payload drawn ∷ events ≡ Hears other drawn ∷ []) same
          (ap (λ (rest : List DeviceEvent). Hears payload drawn ∷ rest) (nothing_after (Hears payload drawn ∷ []) events (omega (arith, ticked)) (omega (arith, ap length came)))),
    )
only_heard (Ticks drawn ∷ events) bytes came ticked = absurd (omega (arith, ticked))
only_heard (Wakes ∷ events) bytes came ticked = absurd (omega (arith, ap first_tag came))
only_heard (Sets value ∷ events) bytes came ticked = absurd (omega (arith, ap first_tag came))

-- the last that comes, where no tick passes, is that it was woken
woken_last : (past events : List DeviceEvent) → first_tag (came_after past events) ≡ 2 → ticks_lived events ≤ 0 → length (came_after past events) ≤ 1
    → events ≡ Wakes ∷ []
woken_last past [] came ticked few = absurd (omega (arith, came))
woken_last past (Hears payload drawn ∷ events) came ticked few = absurd (omega (arith, came))
woken_last past (Ticks drawn ∷ events) came ticked few = absurd (omega (arith, ticked))
woken_last past (Wakes ∷ events) came ticked few =
    ap (λ (rest : List DeviceEvent). Wakes ∷ rest) (nothing_after (past ++ Wakes ∷ []) events (omega (arith, ticked)) (omega (arith, few)))
woken_last past (Sets value ∷ events) came ticked few = absurd (omega (arith, came))

abbrev second_tag : List ComingAt → ℕ
second_tag [] = 0
second_tag (one ∷ more) = first_tag more

-- no tick passed and it was woken twice
pub woken_twice : (events : List DeviceEvent) → comings events ≡ record { ticks = 0; coming = Woken } ∷ record { ticks = 0; coming = Woken } ∷ []
    → ticks_lived events ≡ 0 → events ≡ Wakes ∷ Wakes ∷ []
woken_twice [] came ticked = absurd (omega (arith, ap first_tag came))
woken_twice (Hears payload drawn ∷ events) came ticked = absurd (omega (arith, ap first_tag came))
woken_twice (Ticks drawn ∷ events) came ticked = absurd (omega (arith, ticked))
woken_twice (Wakes ∷ events) came ticked =
    ap (λ (rest : List DeviceEvent). Wakes ∷ rest)
    (woken_last (Wakes ∷ []) events (ap second_tag came) (omega (arith, ticked)) (omega (arith, ap length came)))
woken_twice (Sets value ∷ events) came ticked = absurd (omega (arith, ap first_tag came))

-- ---- what came, and then a tick

abbrev first_ticks : List ComingAt → ℕ
first_ticks [] = 0
first_ticks (one ∷ more) = one.ticks

ticks_following : (past : List DeviceEvent) (event : DeviceEvent) → ticks_lived (past ++ event ∷ []) ≡ ticks_lived past + ticks_in event
ticks_following [] event = omega arith
ticks_following (first ∷ past) event = let rest = ticks_following past event in omega (arith, rest)

-- what comes after some events comes after as many ticks as these are, and more
comes_later : (past events : List DeviceEvent) → 1 ≤ length (came_after past events) → ticks_lived past ≤ first_ticks (came_after past events)
comes_later past [] some = absurd (omega (arith, some))
comes_later past (Hears payload drawn ∷ events) some = omega arith
comes_later past (Ticks drawn ∷ events) some =
    let grown = ticks_following past (Ticks drawn) in
    let later = comes_later (past ++ Ticks drawn ∷ []) events some in
    omega (arith, grown, later)
comes_later past (Wakes ∷ events) some = omega arith
comes_later past (Sets value ∷ events) some = omega arith

-- one tick passed and nothing came after others
ticked_after : (past events : List DeviceEvent) → ticks_lived events ≡ 1 → length (came_after past events) ≤ 0 → (drawn : List ℕ) × (events ≡ Ticks drawn ∷ [])
ticked_after past [] ticked few = absurd (omega (arith, ticked))
ticked_after past (Hears payload drawn ∷ events) ticked few = absurd (omega (arith, few))
ticked_after past (Ticks drawn ∷ events) ticked few =
    (drawn, ap (λ (rest : List DeviceEvent). Ticks drawn ∷ rest) (nothing_after (past ++ Ticks drawn ∷ []) events (omega (arith, ticked)) few))
ticked_after past (Wakes ∷ events) ticked few = absurd (omega (arith, few))
ticked_after past (Sets value ∷ events) ticked few = absurd (omega (arith, few))

-- it was woken before the one tick that passed
pub woken_first : (events : List DeviceEvent) → comings events ≡ record { ticks = 0; coming = Woken } ∷ [] → ticks_lived events ≡ 1
    → (drawn : List ℕ) × (events ≡ Wakes ∷ Ticks drawn ∷ [])
woken_first [] came ticked = absurd (omega (arith, ticked))
woken_first (Hears payload drawn ∷ events) came ticked = absurd (omega (arith, ap first_tag came))
woken_first (Ticks drawn ∷ events) came ticked =
    let count = ap length came in
    let first = ap first_ticks came in
    let later = comes_later (Ticks drawn ∷ []) events (omega (arith, count)) in
    absurd (omega (arith, first, later))
woken_first (Wakes ∷ events) came ticked =
    let rest = ticked_after (Wakes ∷ []) events (omega (arith, ticked)) (omega (arith, ap length came)) in
    (rest.0, ap (λ (rest : List DeviceEvent). Wakes ∷ rest) rest.1)
woken_first (Sets value ∷ events) came ticked = absurd (omega (arith, ap first_tag came))
