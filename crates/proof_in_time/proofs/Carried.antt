-- What is to come of an attempt comes nearer, or stays as near, where frames stand on the air and with the chip.
use Rattle.std.proofs.Common.{◌≡◌, ◌≤◌, ◌<◌, ℕ, zero, suc, ◌+◌, ◌==◌, nat_lt, inl, inr, Bool, true, false, if◌then◌else◌, List, ◌∷◌, map, filter, length, length-append, refl, sym, ap, ◌∙◌, subst, arith}
use Rattle.std.proofs.lemmas.Bool.{eqb-true}
use Rattle.std.proofs.lemmas.Bool.Decides.{nat_tests}
use Rattle.std.specs.Prelude.{◌⊎◌, Option}
use Rattle.std.specs.List.{range_with_len}
use Rattle.serial_frame.specs.Frame.{FrameParts}
use Rattle.route_table.specs.declared.route.Route.{Route}
use Rattle.air_frames.specs.Flown.{Flown}
use Rattle.device_sim.specs.State.{State}
use Rattle.host_node.specs.State.{needs_tick}
use Rattle.host_model.specs.Did.{after_all}
use Rattle.host_model.specs.Events.{Node_ticks}
use Rattle.host_model.specs.State.{HostState, node_of}
use Rattle.host_model.specs.Ticking.{first_ticks, tick_events, ticking_nodes}
use Rattle.outside_model.specs.Events.{Arrives}
use Rattle.world_model.specs.Events.{Outside_does, happens}
use Rattle.world_model.specs.State.{Machine}
use Rattle.proof_answered.specs.proof_calm.proof_traffic.OnAir.{on_air}
use Rattle.proof_answered.specs.proof_calm.proof_work.proof_walk.Phases.{Phase, Arriving}
use Rattle.proof_answered.specs.proof_calm.Awaited.{Awaits}
use Rattle.proof_answered.specs.proof_calm.Live.{IsLive}
use Rattle.proof_answered.specs.proof_calm.Resting.{IsGiven}
use Rattle.proof_answered.specs.proof_calm.Tied.{unheard}
use Rattle.proof_answered.proofs.proof_traffic_Parts.{Airs}
use Rattle.proof_in_time.specs.Coming.{AsksFor, Asked, At_work, Coming, Flies, Has, IsAsking, IsBusy, IsReport, IsRequest, Sent, Stands, TellsEnd, Told, brings, has_ticked, one_later, ticks_left, ticks_of}
use Rattle.proof_in_time.proofs.Busy.{StayBusy, one_most, unless_ticking}
use Rattle.proof_in_time.proofs.Grown.{Adds, Arrived, stands_next, stands_on}
use Rattle.proof_in_time.proofs.Landed.{arrives_has, report_comes}

-- ---- nothing leaves

-- no more ticks are to come than were, but for those that are to come no more; so many frames are on the air
pub record Fits (n count : ℕ) (here : Phase) (left : ℕ) (next : Phase) (then_left : ℕ) : Type 0 where
  pub joint : (place : ℕ) → place < count → ticks_left next + one_later next place + left ≤ ticks_left here + one_later here place + then_left
  pub alone : ticks_left next + left ≤ ticks_left here + then_left

-- a report that the chip has for the host
pub record IsThere (n session left : ℕ) (here : Phase) (m : Machine) : Type 0 where
  pub payload : List ℕ
  pub tells : TellsEnd session payload
  pub has : Has (brings n payload) (unheard m.outside.outer)
  pub few : ticks_left here ≤ left

-- a device at work is to tell the end within so many ticks
abbrev pub IsNearEnd : (n session left : ℕ) (here : Phase) (devices : List State) → IsBusy n session devices → Type 0
IsNearEnd n session left here devices at = ticks_left here + has_ticked here at.place + at.device.work_left ≤ left

abbrev pub many_on_air : Machine → ℕ
many_on_air m = length (on_air m.outside.outer.air.frames)

pub stands_within : (Is : Flown → Type 0) (flights : List Flown) (at : Stands Is flights) → length at.before < length flights
stands_within Is flights at =
    let all = ap (λ (fs : List Flown). length fs) at.are ∙ length-append at.before (at.frame ∷ at.behind) in
    let more : length (at.frame ∷ at.behind) ≡ length at.behind + 1 = omega arith in
    omega (arith, all, more)

nearer : (a b c left then_left : ℕ) → a + left ≤ b + then_left → b + c ≤ left → a + c ≤ then_left
nearer a b c left then_left fits few = omega (arith, fits, few)

pub near : (a b left then_left : ℕ) → a + left ≤ b + then_left → b ≤ left → a ≤ then_left
near a b left then_left fits few = omega (arith, fits, few)

busy_near : (a b old new left then_left : ℕ) → a + left ≤ b + then_left → new ≡ old → b + old ≤ left → a + new ≤ then_left
busy_near a b old new left then_left fits same few = omega (arith, fits, same, few)

-- it stays at its work
pub busy_on : (n session left then_left : ℕ) (here next : Phase) (m later : Machine) → StayBusy n session m.outside.devices later.outside.devices
    → ((place : ℕ) → ticks_left next + has_ticked next place + left ≤ ticks_left here + has_ticked here place + then_left)
    → (at : IsBusy n session m.outside.devices) → IsNearEnd n session left here m.outside.devices at → Coming n session then_left next later
busy_on n session left then_left here next m later stays fits at few =
    let on = stays at in
    At_work on.0
    (subst (λ (k : ℕ). ticks_left next + has_ticked next k + on.0.device.work_left ≤ then_left) (sym on.1.0)
    (busy_near (ticks_left next + has_ticked next at.place) (ticks_left here + has_ticked here at.place) at.device.work_left on.0.device.work_left left then_left (fits at.place) on.1.1 few))

pub carry_or : (n session left then_left : ℕ) (here next : Phase) (m later : Machine) → (IsAsking here → AsksFor n session m.host.state → 6 ≤ left → Coming n session then_left next later)
    → ((at : IsBusy n session m.outside.devices) → IsNearEnd n session left here m.outside.devices at → Coming n session then_left next later) → Adds m.outside.outer later.outside.outer
    → Fits n (many_on_air m) here left next then_left → Coming n session left here m → Coming n session then_left next later ⊎ IsThere n session left here m
carry_or n session left then_left here next m later asks works adds fits (Asked asking asked six) = inl (asks asking asked six)
carry_or n session left then_left here next m later asks works adds fits (Sent at few) =
    let on = stands_on (IsRequest n session) (on_air m.outside.outer.air.frames) (on_air later.outside.outer.air.frames) adds at in
    let same : length on.0.before ≡ length at.before = ap (λ (fs : List Flown). length fs) on.1 in
    let fit = fits.joint (length at.before) (stands_within (IsRequest n session) (on_air m.outside.outer.air.frames) at) in
    let so = nearer (ticks_left next + one_later next (length at.before)) (ticks_left here + one_later here (length at.before)) 5 left then_left fit few in
    inl (Sent on.0 (subst (λ (k : ℕ). ticks_left next + one_later next k + 5 ≤ then_left) (sym same) so))
carry_or n session left then_left here next m later asks works adds fits (Flies at few) =
    let on = stands_on (IsReport n session) (on_air m.outside.outer.air.frames) (on_air later.outside.outer.air.frames) adds at in
    let same : length on.0.before ≡ length at.before = ap (λ (fs : List Flown). length fs) on.1 in
    let fit = fits.joint (length at.before) (stands_within (IsReport n session) (on_air m.outside.outer.air.frames) at) in
    let so = near (ticks_left next + one_later next (length at.before)) (ticks_left here + one_later here (length at.before)) left then_left fit few in
    inl (Flies on.0 (subst (λ (k : ℕ). ticks_left next + one_later next k ≤ then_left) (sym same) so))
carry_or n session left then_left here next m later asks works adds fits (At_work at few) = inl (works at few)
carry_or n session left then_left here next m later asks works adds fits (Told payload tells there few) = inr (record { payload = payload; tells = tells; has = there; few = few })

pub carry : (n session left then_left : ℕ) (here next : Phase) (m later : Machine) → (IsAsking here → AsksFor n session m.host.state → 6 ≤ left → Coming n session then_left next later)
    → ((at : IsBusy n session m.outside.devices) → IsNearEnd n session left here m.outside.devices at → Coming n session then_left next later) → Adds m.outside.outer later.outside.outer
    → ((x : FrameParts) → Has x (unheard m.outside.outer) → Has x (unheard later.outside.outer)) → Fits n (many_on_air m) here left next then_left → Coming n session left here m → Coming n session then_left next later
carry n session left then_left here next m later asks works adds has fits comes = by (carry_or n session left then_left here next m later asks works adds fits comes)
  where
    by : Coming n session then_left next later ⊎ IsThere n session left here m → Coming n session then_left next later
    by (inl on) = on
    by (inr there) = Told there.payload there.tells (has (brings n there.payload) there.has) (near (ticks_left next) (ticks_left here) left then_left fits.alone there.few)

-- ---- a frame arrives

pub later_once : (place frames : ℕ) → unless_ticking (nat_lt (suc place) (suc frames)) ≡ unless_ticking (nat_lt place frames)
later_once place frames = by (nat_lt place frames) refl
  where
    by : (b : Bool) → nat_lt place frames ≡ b → unless_ticking (nat_lt (suc place) (suc frames)) ≡ unless_ticking b
    by true is = ap unless_ticking (let so : nat_lt (suc place) (suc frames) ≡ true = grind (arith, nat_tests, is) in so)
    by false is = ap unless_ticking (let so : nat_lt (suc place) (suc frames) ≡ false = grind (arith, nat_tests, is) in so)

pub nothing_more : (x left : ℕ) → x ≤ left → 0 + x ≤ left
nothing_more x left few = omega (arith, few)

nothing_then : (x left : ℕ) → x + 5 ≤ left → 0 + x + 5 ≤ left
nothing_then x left few = omega (arith, few)

module _ (airs : Airs) (m : Machine) (is : Awaits m) (drawn : List ℕ) (route : Option Route) (at : Arrived airs m is drawn route) (given : IsGiven 0 m) (later_given : IsGiven 0 (happens m (Outside_does (Arrives drawn route))))
    (room : length m.outside.outer.chip.state.port.waiting ≤ 31) (n : ℕ) (live : at.frame.node ≡ n → IsLive m.outside.outer.air.network at.frame) (session left frames ticks : ℕ) where
  abbrev then_there : Machine
  then_there = happens m (Outside_does (Arrives drawn route))

  abbrev flights_then : List Flown
  flights_then = on_air then_there.outside.outer.air.frames

  -- it comes to work
  abbrev pub ComesToWork : Type 0
  ComesToWork = (busy : IsBusy n session then_there.outside.devices) × (busy.device.work_left ≤ 5)

  module _ (hears : IsRequest n session at.frame → Stands (IsReport n session) flights_then ⊎ ComesToWork) (stays : StayBusy n session m.outside.devices then_there.outside.devices) where
    answered : (x : ℕ) → x + 5 ≤ left → Stands (IsReport n session) flights_then ⊎ ComesToWork → Coming n session left (Arriving frames ticks) then_there
    answered x few (inl answer) = let one = one_most (nat_lt (length answer.before) frames) in Flies answer (omega (arith, few, one))
    answered x few (inr (busy, five)) = At_work busy (omega (arith, few, five))

    sends : (place : ℕ) → unless_ticking (nat_lt place (suc frames)) + 5 ≤ left → IsRequest n session at.frame ⊎ ((on : Stands (IsRequest n session) at.rest) × (place ≡ suc (length on.before))) → Coming n session left (Arriving frames ticks) then_there
    sends place few (inl request) = answered (unless_ticking (nat_lt place (suc frames))) few (hears request)
    sends place few (inr (on, same)) =
        let there = stands_on (IsRequest n session) at.rest flights_then at.grows on in
        let as_far : unless_ticking (nat_lt (length on.before) frames) ≡ unless_ticking (nat_lt place (suc frames)) = sym (ap (λ (k : ℕ). unless_ticking (nat_lt k (suc frames))) same ∙ later_once (length on.before) frames) in
        Sent there.0
        (nothing_then (unless_ticking (nat_lt (length there.0.before) frames)) left
        (subst (λ (k : ℕ). unless_ticking (nat_lt k frames) + 5 ≤ left) (sym (ap (λ (fs : List Flown). length fs) there.1))
        (subst (λ (k : ℕ). k + 5 ≤ left) (sym as_far) few)))

    flies : (place : ℕ) → unless_ticking (nat_lt place (suc frames)) ≤ left → IsReport n session at.frame ⊎ ((on : Stands (IsReport n session) at.rest) × (place ≡ suc (length on.before))) → Coming n session left (Arriving frames ticks) then_there
    flies place few (inl report) =
        Told at.frame.payload report.tells
        (subst (λ (k : ℕ). Has (brings k at.frame.payload) (unheard then_there.outside.outer)) report.node (report_comes m drawn route at.frame at.next report.home (live report.node) report.tells.some report.tells.few given later_given room)) (omega (arith, few))
    flies place few (inr (on, same)) =
        let there = stands_on (IsReport n session) at.rest flights_then at.grows on in
        let as_far : unless_ticking (nat_lt (length on.before) frames) ≡ unless_ticking (nat_lt place (suc frames)) = sym (ap (λ (k : ℕ). unless_ticking (nat_lt k (suc frames))) same ∙ later_once (length on.before) frames) in
        Flies there.0
        (nothing_more (unless_ticking (nat_lt (length there.0.before) frames)) left
        (subst (λ (k : ℕ). unless_ticking (nat_lt k frames) ≤ left) (sym (ap (λ (fs : List Flown). length fs) there.1))
        (subst (λ (k : ℕ). k ≤ left) (sym as_far) few)))

    -- it stands at the same place, with the frames as they were
    stood : (Is : Flown → Type 0) (stands : Stands Is (on_air m.outside.outer.air.frames)) → Is at.frame ⊎ ((on : Stands Is at.rest) × (length stands.before ≡ suc (length on.before)))
    stood Is stands =
        stands_next Is at.frame at.rest (record { before = stands.before; frame = stands.frame; behind = stands.behind; are = sym at.were ∙ stands.are; is = stands.is })

    pub arrives_comes : Coming n session left (Arriving (suc frames) ticks) m → Coming n session left (Arriving frames ticks) then_there
    arrives_comes (Asked asking asked six) = absurd asking
    arrives_comes (Sent stands few) = sends (length stands.before) (omega (arith, few)) (stood (IsRequest n session) stands)
    arrives_comes (Flies stands few) = flies (length stands.before) (omega (arith, few)) (stood (IsReport n session) stands)
    arrives_comes (At_work busy few) = busy_on n session left left (Arriving (suc frames) ticks) (Arriving frames ticks) m then_there stays (λ place. omega arith) busy few
    arrives_comes (Told payload tells there few) = Told payload tells (arrives_has (brings n payload) m drawn route given later_given there) few

-- ---- each node ticks once

none_of : (n : ℕ) (test : ℕ → Bool) (first count : ℕ) → n < first → ticks_of n (map Node_ticks (filter test (range_with_len first count))) ≡ 0
none_of n test first zero less = refl
none_of n test first (suc count) less = by (test first) (none_of n test (first + 1) count (omega (arith, less)))
  where
    apart : (b : Bool) → (first == n) ≡ b → b ≡ false
    apart true is = absurd (let same = eqb-true first n is in omega (arith, less, same))
    apart false is = refl

    by : (b : Bool) → ticks_of n (map Node_ticks (filter test (range_with_len (first + 1) count))) ≡ 0 → ticks_of n (map Node_ticks (if b then first ∷ filter test (range_with_len (first + 1) count) else filter test (range_with_len (first + 1) count))) ≡ 0
    by true none = let no_tick : ◌≡◌ {A = ℕ} (if first == n then 1 else 0) 0 = ap (λ (c : Bool). if c then 1 else 0) (apart (first == n) refl) in omega (arith, no_tick, none)
    by false none = none

once_of : (n : ℕ) (test : ℕ → Bool) (first count : ℕ) → ticks_of n (map Node_ticks (filter test (range_with_len first count))) ≤ 1
once_of n test first zero = omega arith
once_of n test first (suc count) = by (test first) (once_of n test (first + 1) count)
  where
    rest : List ℕ
    rest = filter test (range_with_len (first + 1) count)

    here : (b : Bool) → (first == n) ≡ b → ticks_of n (map Node_ticks (filter test (range_with_len (first + 1) count))) ≤ 1 → (if b then 1 else 0) + ticks_of n (map Node_ticks (filter test (range_with_len (first + 1) count))) ≤ 1
    here true is once =
        let same = eqb-true first n is in
        let none = none_of n test (first + 1) count (omega (arith, same)) in
        omega (arith, none)
    here false is once = omega (arith, once)

    by : (b : Bool) → ticks_of n (map Node_ticks (filter test (range_with_len (first + 1) count))) ≤ 1
        → ticks_of n (map Node_ticks (if b then first ∷ filter test (range_with_len (first + 1) count) else filter test (range_with_len (first + 1) count))) ≤ 1
    by true once = here (first == n) refl once
    by false once = once

pub ticks_once : (n : ℕ) (h : HostState) → ticks_of n (tick_events h) ≤ 1
unfolding ticking_nodes
ticks_once n h = once_of n (λ k. needs_tick (node_of (after_all h first_ticks) k)) 1 232
