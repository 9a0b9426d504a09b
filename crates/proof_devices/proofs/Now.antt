-- A device after its events is what it is after what came to it, each in its tick, with nothing drawn; a lock is as awake.
use Rattle.std.proofs.Common.{◌≡◌, ◌≤◌, ℕ, suc, ◌+◌, ◌-◌, if◌then◌else◌, List, [], ◌∷◌, ◌++◌, inl, inr, ◌⊎◌, refl, sym, ap, subst, ◌∙◌, arith}
use Rattle.device_kinds.specs.declared.kind.Kind.{Kind}
use Rattle.device_kinds.specs.declared.kind.Kind.TheVariants.{Relay, Switch, Dimmer, Lock, Sensor, Thermostat, Strip, Configurable}
use Rattle.device_stack.specs.State.{State, Outcome, silent}
use Rattle.device_stack.specs.Hearing.{hears_by, active, hears}
use Rattle.device_sim.specs.Event.{DeviceEvent, Hears, Ticks, Wakes, Sets, outcome_of, device_after}
use Rattle.law_transcript.specs.Devices.{Coming, ComingAt, after_events, ticks_lived}
use Rattle.law_transcript.specs.Devices.Coming.{Payload, Woken, SetTo}
use Rattle.law_transcript.proofs.Comings.{came_after}
use Rattle.law_wire.specs.Arriving.{event_of, ticked_on, lived_through}
use Rattle.proof_air.proofs.KeptKinds.{event_same}
use Rattle.proof_devices.specs.Living.{Lived, IsNow}
use Rattle.proof_devices.proofs.Awake.{lock_stays}
use Rattle.proof_devices.proofs.Shown.{ticks_one}

-- ---- one event

-- the same event with nothing drawn
abbrev undrawn : DeviceEvent → DeviceEvent
undrawn (Hears payload drawn) = Hears payload []
undrawn (Ticks drawn) = Ticks []
undrawn event = event

-- only a lock draws
by_none_drawn : (kind : Kind) (device : State) (payload drawn : List ℕ) → (kind ≡ Lock → ⊥) → hears_by kind device payload drawn ≡ hears_by kind device payload []
by_none_drawn Lock device payload drawn plain = absurd (plain refl)
by_none_drawn kind device payload drawn plain = refl

hears_none_drawn : (device : State) (payload drawn : List ℕ) → (device.kind ≡ Lock → ⊥) → hears device payload drawn ≡ hears device payload []
unfolding hears
hears_none_drawn device payload drawn plain =
    ap (λ (o : Outcome). if device.awake then o else silent device) (by_none_drawn device.kind (active device) payload drawn plain)

none_drawn : (device : State) (event : DeviceEvent) → (device.kind ≡ Lock → ⊥) → device_after device event ≡ device_after device (undrawn event)
unfolding device_after outcome_of
none_drawn device (Hears payload drawn) plain = ap (λ (o : Outcome). o.device) (hears_none_drawn device payload drawn plain)
none_drawn device (Ticks drawn) plain = refl
none_drawn device Wakes plain = refl
none_drawn device (Sets value) plain = refl

lock_or_not : (kind : Kind) → (kind ≡ Lock) ⊎ (kind ≡ Lock → ⊥)
lock_or_not Lock = inl refl
lock_or_not Relay = inr (λ is. cc)
lock_or_not Switch = inr (λ is. cc)
lock_or_not Dimmer = inr (λ is. cc)
lock_or_not Sensor = inr (λ is. cc)
lock_or_not Thermostat = inr (λ is. cc)
lock_or_not Strip = inr (λ is. cc)
lock_or_not Configurable = inr (λ is. cc)

-- it goes on
now_after : (shown real : State) (event : DeviceEvent) → IsNow shown real → IsNow (device_after shown (undrawn event)) (device_after real event)
now_after shown real event now = record {
  kind = (event_same real event).kind ∙ (now.kind ∙ sym (event_same shown (undrawn event)).kind);
  awake = by (lock_or_not shown.kind);
  plain = λ none. plainly (λ is. none ((event_same shown (undrawn event)).kind ∙ is));
}
  where
    plainly : (shown.kind ≡ Lock → ⊥) → device_after real event ≡ device_after shown (undrawn event)
    plainly none = ap (λ (d : State). device_after d event) (now.plain none) ∙ none_drawn shown event none

    by : (shown.kind ≡ Lock) ⊎ (shown.kind ≡ Lock → ⊥) → (device_after real event).awake ≡ (device_after shown (undrawn event)).awake
    by (inl is) = lock_stays real event (now.kind ∙ is) ∙ (now.awake ∙ sym (lock_stays shown (undrawn event) is))
    by (inr none) = ap (λ (d : State). d.awake) (plainly none)

-- ---- all events

abbrev first_ticks : ℕ → List ComingAt → ℕ
first_ticks now [] = now
first_ticks now (one ∷ more) = one.ticks

-- what comes first comes after the ticks before it
comes_later : (past events : List DeviceEvent) → ticks_lived past ≤ first_ticks (ticks_lived past + ticks_lived events) (came_after past events)
comes_later past [] = omega arith
comes_later past (Hears payload drawn ∷ events) = omega arith
comes_later past (Ticks drawn ∷ events) =
    let grown = ticks_one past (Ticks drawn) in
    let later = comes_later (past ++ Ticks drawn ∷ []) events in
    let same : ticks_lived (past ++ Ticks drawn ∷ []) + ticks_lived events ≡ ticks_lived past + (1 + ticks_lived events) = omega (arith, grown) in
    let there = subst (λ (n : ℕ). ticks_lived (past ++ Ticks drawn ∷ []) ≤ first_ticks n (came_after (past ++ Ticks drawn ∷ []) events)) same later in
    omega (arith, grown, there)
comes_later past (Wakes ∷ events) = omega arith
comes_later past (Sets value ∷ events) = omega arith

-- a tick passes in which nothing comes
passes : (ticks now : ℕ) (came : List ComingAt) (device : State) → suc ticks ≤ first_ticks now came → lived_through ticks now came device ≡ lived_through (suc ticks) now came (device_after device (Ticks []))
passes ticks now [] device later =
    let one : now - ticks ≡ suc (now - suc ticks) = omega (arith, later) in ap (λ (n : ℕ). ticked_on n device) one
passes ticks now (first ∷ more) device later =
    let one : first.ticks - ticks ≡ suc (first.ticks - suc ticks) = omega (arith, later) in
    ap (λ (n : ℕ). lived_through first.ticks now more (device_after (ticked_on n device) (event_of first.coming))) one

none_pass : (ticks : ℕ) (device : State) → ticked_on (ticks - ticks) device ≡ device
none_pass ticks device = let none : ticks - ticks ≡ 0 = omega arith in ap (λ (n : ℕ). ticked_on n device) none

-- something comes now
comes_now : (ticks now : ℕ) (coming : Coming) (more : List ComingAt) (device : State)
    → lived_through ticks now (record { ticks = ticks; coming = coming } ∷ more) device ≡ lived_through ticks now more (device_after device (event_of coming))
comes_now ticks now coming more device = ap (λ (d : State). lived_through ticks now more (device_after d (event_of coming))) (none_pass ticks device)

something_now : (ticks later now : ℕ) (coming : Coming) (more : List ComingAt) (shown real : State) → later ≡ ticks → IsNow (lived_through later now more (device_after shown (event_of coming))) real
    → IsNow (lived_through ticks now (record { ticks = ticks; coming = coming } ∷ more) shown) real
something_now ticks later now coming more shown real at known =
    subst (λ (d : State). IsNow d real) (sym (comes_now ticks now coming more shown))
    (subst (λ (n : ℕ). IsNow (lived_through n now more (device_after shown (event_of coming))) real) at known)

tick_now : (ticks later now : ℕ) (came : List ComingAt) (shown real : State) → later ≡ suc ticks → suc ticks ≤ first_ticks now came → IsNow (lived_through later now came (device_after shown (Ticks []))) real
    → IsNow (lived_through ticks now came shown) real
tick_now ticks later now came shown real at after known =
    subst (λ (d : State). IsNow d real) (sym (passes ticks now came shown after)) (subst (λ (n : ℕ). IsNow (lived_through n now came (device_after shown (Ticks []))) real) at known)

lives : (past events : List DeviceEvent) (now : ℕ) (shown real : State) → now ≡ ticks_lived past + ticks_lived events → IsNow shown real
    → IsNow (lived_through (ticks_lived past) now (came_after past events) shown) (after_events real events)
lives past [] now shown real is same =
    let none : now - ticks_lived past ≡ 0 = omega (arith, is) in subst (λ (n : ℕ). IsNow (ticked_on n shown) real) (sym none) same
lives past (Hears payload drawn ∷ events) now shown real is same =
    let event : DeviceEvent = Hears payload drawn in
    let grown = ticks_one past event in
    let rest = lives (past ++ event ∷ []) events now (device_after shown (Hears payload [])) (device_after real event) (omega (arith, is, grown)) (now_after shown real event same) in
    something_now (ticks_lived past) (ticks_lived (past ++ event ∷ [])) now (Payload payload) (came_after (past ++ event ∷ []) events) shown (after_events (device_after real event) events)
    (omega (arith, grown)) rest
lives past (Ticks drawn ∷ events) now shown real is same =
    let event : DeviceEvent = Ticks drawn in
    let grown = ticks_one past event in
    let rest = lives (past ++ event ∷ []) events now (device_after shown (Ticks [])) (device_after real event) (omega (arith, is, grown)) (now_after shown real event same) in
    let later = comes_later (past ++ event ∷ []) events in
    let sum : ticks_lived (past ++ event ∷ []) + ticks_lived events ≡ now = omega (arith, is, grown) in
    let there = subst (λ (n : ℕ). ticks_lived (past ++ event ∷ []) ≤ first_ticks n (came_after (past ++ event ∷ []) events)) sum later in
    tick_now (ticks_lived past) (ticks_lived (past ++ event ∷ [])) now (came_after (past ++ event ∷ []) events) shown (after_events (device_after real event) events) (omega (arith, grown))
    (omega (arith, grown, there)) rest
lives past (Wakes ∷ events) now shown real is same =
    let grown = ticks_one past Wakes in
    let rest = lives (past ++ Wakes ∷ []) events now (device_after shown Wakes) (device_after real Wakes) (omega (arith, is, grown)) (now_after shown real Wakes same) in
    something_now (ticks_lived past) (ticks_lived (past ++ Wakes ∷ [])) now Woken (came_after (past ++ Wakes ∷ []) events) shown (after_events (device_after real Wakes) events) (omega (arith, grown)) rest
lives past (Sets value ∷ events) now shown real is same =
    let event : DeviceEvent = Sets value in
    let grown = ticks_one past event in
    let rest = lives (past ++ event ∷ []) events now (device_after shown event) (device_after real event) (omega (arith, is, grown)) (now_after shown real event same) in
    something_now (ticks_lived past) (ticks_lived (past ++ event ∷ [])) now (SetTo value) (came_after (past ++ event ∷ []) events) shown (after_events (device_after real event) events)
    (omega (arith, grown)) rest

pub lived_is_now : (ticks : ℕ) (came : List ComingAt) (old new : State) → Lived ticks came old new → IsNow (lived_through 0 ticks came old) new
lived_is_now ticks came old new lived =
    let at_first : IsNow old old = record { kind = refl; awake = refl; plain = λ none. refl } in
    let sum : ticks ≡ 0 + ticks_lived lived.events = omega (arith, lived.ticked) in
    let all = lives [] lived.events ticks old old sum at_first in
    subst (λ (d : State). IsNow (lived_through 0 ticks came old) d) (sym lived.runs) (subst (λ (l : List ComingAt). IsNow (lived_through 0 ticks l old) (after_events old lived.events)) lived.comes all)
