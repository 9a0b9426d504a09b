-- Events of a kind that come so many at a time, from a place on: more of them after some, and where it stops among them.
use Rattle.std.proofs.Common.{◌≡◌, ℕ, zero, suc, ◌+◌, ◌-◌, ◌<◌, List, [], ◌∷◌, ◌++◌, refl, ap, sym, ◌∙◌, subst, append_assoc, arith}
use Rattle.std.specs.Prelude.{None}
use Rattle.device_sim.specs.State.{State}
use Rattle.zw_text.specs.declared.entry.Entry.{Entry}
use Rattle.outside_model.specs.State.{Outside}
use Rattle.outside_model.specs.Events.{OuterEvent, Arrives, Gives, Device_ticks, AreOwn}
use Rattle.outside_model.specs.Did.{RunOf, PrefixOf, Stops}
use Rattle.outside_model.specs.Schedules.{Arrivals, Givings, DeviceTicks}
use Rattle.outside_model.proofs.EventLists.{ran_both}
use Rattle.outside_calls.proofs.Single.{stops_after}
use Rattle.outside_model.proofs.Own.{arrivals_own, givings_own, ticks_own}

-- there are such, those after others are as many together, and none is the host's
pub record Counted (Kind : ℕ → ℕ → List OuterEvent → Type 0) : Type 0 where
  pub some : (start count : ℕ) → (events : List OuterEvent) × Kind start count events
  pub both : (start n at m all : ℕ) (xs ys : List OuterEvent) → at ≡ start + n → all ≡ n + m → Kind start n xs → Kind at m ys → Kind start all (xs ++ ys)
  pub own : (start count : ℕ) (events : List OuterEvent) → Kind start count events → AreOwn events

module _ {Kind : ℕ → ℕ → List OuterEvent → Type 0} (kind : Counted Kind) where
  -- one more was done
  pub ran_more : (count : ℕ) (u v w : Outside) (before some all : List Entry) → RunOf (Kind 0 count) u v before some → RunOf (Kind count 1) v w some all → RunOf (Kind 0 (count + 1)) u w before all
  ran_more count u v w before some all (xs, are, run) (ys, one, more) = (xs ++ ys, kind.both 0 count count 1 (count + 1) xs ys (omega arith) refl are one, ran_both xs ys u v w before some all run more)

  pub ran_all : (n m : ℕ) (u v : Outside) (before all : List Entry) → n ≡ m → RunOf (Kind 0 n) u v before all → RunOf (Kind 0 m) u v before all
  ran_all n m u v before all same run = subst (λ count. RunOf (Kind 0 count) u v before all) same run

  -- some, and a prefix of one more, are a prefix of any that are more
  prefix_after : (count total : ℕ) (xs events : List OuterEvent) → count < total → Kind 0 count xs → PrefixOf (Kind count 1) events → PrefixOf (Kind 0 total) (xs ++ events)
  prefix_after count total xs events within are (rest, one) =
      let left = kind.some (count + 1) (total - (count + 1)) in
      let all : (xs ++ (events ++ rest)) ++ left.0 ≡ (xs ++ events) ++ (rest ++ left.0) =
      append_assoc xs (events ++ rest) left.0 ∙ (ap (λ (l : List OuterEvent). xs ++ l) (append_assoc events rest left.0) ∙ sym (append_assoc xs events (rest ++ left.0))) in (
        rest ++ left.0,
        subst (λ (l : List OuterEvent). Kind 0 total l) all
            (kind.both 0 (count + 1) (count + 1) (total - (count + 1)) total (xs ++ (events ++ rest)) left.0 (omega arith) (omega arith)
            (kind.both 0 count count 1 (count + 1) xs (events ++ rest) (omega arith) refl are one) left.1),
      )

  -- it stops in one more
  pub ran_stops : (count total : ℕ) (u v : Outside) (devices : List State) (before some all : List Entry) → count < total
      → RunOf (Kind 0 count) u v before some → Stops (PrefixOf (Kind count 1)) v devices some all → Stops (PrefixOf (Kind 0 total)) u devices before all
  ran_stops count total u v devices before some all within (xs, are, run) more =
      stops_after (PrefixOf (Kind count 1)) (PrefixOf (Kind 0 total)) xs u v devices before some all (λ events prefix. prefix_after count total xs events within are prefix) (kind.own 0 count xs are) run more

-- ---- frames that arrive

some_arrivals : (count : ℕ) → (events : List OuterEvent) × Arrivals count events
some_arrivals zero = ([], refl)
some_arrivals (suc count) = let rest = some_arrivals count in (Arrives [] None ∷ rest.0, ([], None, rest.0, refl, rest.1))

arrivals_both : (n m all : ℕ) (xs ys : List OuterEvent) → all ≡ n + m → Arrivals n xs → Arrivals m ys → Arrivals all (xs ++ ys)
arrivals_both zero m all xs ys sum none more =
    let same : m ≡ all = omega arith in
    subst (λ n. Arrivals n (xs ++ ys)) same (subst (λ (l : List OuterEvent). Arrivals m (l ++ ys)) (sym none) more)
arrivals_both (suc n) m zero xs ys sum are more = absurd (omega arith)
arrivals_both (suc n) m (suc all) xs ys sum (drawn, route, rest, are, others) more = (drawn, route, rest ++ ys, ap (λ (l : List OuterEvent). l ++ ys) are, arrivals_both n m all rest ys (omega arith) others more)

pub arrivals : Counted (λ start count. Arrivals count)
arrivals = record {
  some = λ start count. some_arrivals count;
  both = λ start n at m all xs ys there sum first more. arrivals_both n m all xs ys sum first more;
  own = λ start count events are. arrivals_own count events are;
}

-- ---- results that are given

some_givings : (count : ℕ) → (events : List OuterEvent) × Givings count events
some_givings zero = ([], refl)
some_givings (suc count) = let rest = some_givings count in (Gives None ∷ rest.0, (None, rest.0, refl, rest.1))

givings_both : (n m all : ℕ) (xs ys : List OuterEvent) → all ≡ n + m → Givings n xs → Givings m ys → Givings all (xs ++ ys)
givings_both zero m all xs ys sum none more =
    let same : m ≡ all = omega arith in
    subst (λ n. Givings n (xs ++ ys)) same (subst (λ (l : List OuterEvent). Givings m (l ++ ys)) (sym none) more)
givings_both (suc n) m zero xs ys sum are more = absurd (omega arith)
givings_both (suc n) m (suc all) xs ys sum (route, rest, are, others) more = (route, rest ++ ys, ap (λ (l : List OuterEvent). l ++ ys) are, givings_both n m all rest ys (omega arith) others more)

pub givings : Counted (λ start count. Givings count)
givings = record {
  some = λ start count. some_givings count;
  both = λ start n at m all xs ys there sum first more. givings_both n m all xs ys sum first more;
  own = λ start count events are. givings_own count events are;
}

-- ---- devices that tick

some_ticks : (place count : ℕ) → (events : List OuterEvent) × DeviceTicks place count events
some_ticks place zero = ([], refl)
some_ticks place (suc count) = let rest = some_ticks (place + 1) count in (Device_ticks place [] None ∷ rest.0, ([], None, rest.0, refl, rest.1))

ticks_both : (place n at m all : ℕ) (xs ys : List OuterEvent) → at ≡ place + n → all ≡ n + m → DeviceTicks place n xs → DeviceTicks at m ys → DeviceTicks place all (xs ++ ys)
ticks_both place zero at m all xs ys there sum none more =
    let here : at ≡ place = omega arith in
    let same : m ≡ all = omega arith in
    subst (λ n. DeviceTicks place n (xs ++ ys)) same
    (subst (λ (l : List OuterEvent). DeviceTicks place m (l ++ ys)) (sym none) (subst (λ p. DeviceTicks p m ys) here more))
ticks_both place (suc n) at m zero xs ys there sum are more = absurd (omega arith)
ticks_both place (suc n) at m (suc all) xs ys there sum (drawn, route, rest, are, others) more =
    (drawn, route, rest ++ ys, ap (λ (l : List OuterEvent). l ++ ys) are, ticks_both (place + 1) n at m all rest ys (omega arith) (omega arith) others more)

pub device_ticks : Counted DeviceTicks
device_ticks = record { some = some_ticks; both = ticks_both; own = ticks_own }
