-- Passes of a settling, and ticks, one after another.
use Rattle.std.proofs.Common.{◌≡◌, ℕ, suc, ◌+◌, ◌-◌, ◌≤◌, ◌<◌, Bool, true, false, List, [], ◌∷◌, ◌++◌, refl, sym, subst, append_assoc, arith, inl, inr}
use Rattle.std.proofs.lemmas.List.{append-nil}
use Rattle.world_model.specs.State.{Machine}
use Rattle.world_model.specs.Events.{Event}
use Rattle.world_model.specs.Did.{Scene, Schedule, Run, Does, Stops, happens_all}
use Rattle.world_model.specs.Settling.{IsMove, IsPump, Passes}
use Rattle.world_model.specs.Ticking.{IsTick, Ticks}
use Rattle.world_model.specs.Prefixes.{PassesPrefix, TickPrefix, TicksPrefix}
use Rattle.world_model.proofs.EventLists.{ran_nothing, ran_both, stopped_as, stopped_later, happens_all-append}
use Rattle.world_step.specs.Moving.{are_some, Pass, PassPrefix}

abbrev So : Bool → Type 0
So true = Unit {0}
So false = ⊥

-- ---- what was done so far of something that what follows completes

-- and what follows in part makes a prefix of it
pub record SoFar (Whole Rest WholePrefix RestPrefix : Schedule) (first now : Scene) : Type 0 where
  pub prefix : List Event
  pub ran : Run prefix first now
  pub completes : (rest : List Event) → Rest now.machine rest → Whole first.machine (prefix ++ rest)
  pub stops : (rest : List Event) → RestPrefix now.machine rest → WholePrefix first.machine (prefix ++ rest)

pub nothing_so_far : (Whole WholePrefix : Schedule) (s : Scene) → SoFar Whole Whole WholePrefix WholePrefix s s
nothing_so_far Whole WholePrefix s = record { prefix = []; ran = ran_nothing s; completes = λ rest are. are; stops = λ rest are. are }

-- something more that the rest begins with
pub more_so_far : (Whole Rest Later WholePrefix RestPrefix LaterPrefix : Schedule) (s t u : Scene) (events : List Event) → SoFar Whole Rest WholePrefix RestPrefix s t → Run events t u
    → ((rest : List Event) → Later (happens_all t.machine events) rest → Rest t.machine (events ++ rest))
    → ((rest : List Event) → LaterPrefix (happens_all t.machine events) rest → RestPrefix t.machine (events ++ rest)) → SoFar Whole Later WholePrefix LaterPrefix s u
more_so_far Whole Rest Later WholePrefix RestPrefix LaterPrefix s t u events so_far ran goes_on stops_on = record {
  prefix = so_far.prefix ++ events;
  ran = ran_both so_far.prefix events s t u so_far.ran ran;
  completes = λ rest are.
      subst (λ (l : List Event). Whole s.machine l) (sym (append_assoc so_far.prefix events rest))
      (so_far.completes (events ++ rest) (goes_on rest (subst (λ (m : Machine). Later m rest) ran.state are)));
  stops = λ rest are.
      subst (λ (l : List Event). WholePrefix s.machine l) (sym (append_assoc so_far.prefix events rest))
      (so_far.stops (events ++ rest) (stops_on rest (subst (λ (m : Machine). LaterPrefix m rest) ran.state are)));
}

-- the rest was done
pub all_so_far : (Whole Rest WholePrefix RestPrefix : Schedule) (s t u : Scene) → SoFar Whole Rest WholePrefix RestPrefix s t → Does Rest t u → Does Whole s u
all_so_far Whole Rest WholePrefix RestPrefix s t u so_far (events, are, ran) = (so_far.prefix ++ events, so_far.completes events are, ran_both so_far.prefix events s t u so_far.ran ran)

-- nothing is left of it
pub none_so_far : (Whole Rest WholePrefix RestPrefix : Schedule) (s t : Scene) → SoFar Whole Rest WholePrefix RestPrefix s t → Rest t.machine [] → Does Whole s t
none_so_far Whole Rest WholePrefix RestPrefix s t so_far none = all_so_far Whole Rest WholePrefix RestPrefix s t t so_far ([], none, ran_nothing t)

-- the rest was done in part
pub stopped_so_far : (Whole Rest WholePrefix RestPrefix : Schedule) (s t u : Scene) → SoFar Whole Rest WholePrefix RestPrefix s t → Stops RestPrefix t u → Stops WholePrefix s u
stopped_so_far Whole Rest WholePrefix RestPrefix s t u so_far stops = stopped_later WholePrefix RestPrefix so_far.prefix s t u so_far.stops so_far.ran stops

-- ---- passes

-- a pass in which bytes moved, and then the others
goes_on : (more : ℕ) (m : Machine) (moves pumps rest : List Event) → IsMove m moves → true ≡ are_some moves → IsPump (happens_all m moves) pumps
    → Passes more (happens_all m (moves ++ pumps)) rest → Passes (suc more) m ((moves ++ pumps) ++ rest)
goes_on more m [] pumps rest moved some pump passes = absurd (subst So some tt)
goes_on more m (e ∷ moves) pumps rest moved some pump passes = (
  e ∷ moves,
  pumps ++ rest,
  append_assoc (e ∷ moves) pumps rest,
  moved,
  (pumps, rest, refl, pump, subst (λ (x : Machine). Passes more x rest) (happens_all-append m (e ∷ moves) pumps) passes),
)

-- the same, where the others were done in part
stops_on : (more : ℕ) (m : Machine) (moves pumps rest : List Event) → IsMove m moves → true ≡ are_some moves → IsPump (happens_all m moves) pumps
    → PassesPrefix more (happens_all m (moves ++ pumps)) rest → PassesPrefix (suc more) m ((moves ++ pumps) ++ rest)
stops_on more m [] pumps rest moved some pump passes = absurd (subst So some tt)
stops_on more m (e ∷ moves) pumps rest moved some pump passes = inr (
  e ∷ moves,
  pumps ++ rest,
  append_assoc (e ∷ moves) pumps rest,
  moved,
  inr (pumps, rest, refl, pump, subst (λ (x : Machine). PassesPrefix more x rest) (happens_all-append m (e ∷ moves) pumps) passes),
)

-- a prefix of a pass is one of the passes
stops_in : (more : ℕ) (m : Machine) (events : List Event) → PassPrefix m events → PassesPrefix (suc more) m events
stops_in more m events (inl prefix) = inl prefix
stops_in more m events (inr (moves, rest, are, moved, none)) = inr (moves, rest, are, moved, inl none)

-- the last pass, in which none moved
ends : (more : ℕ) (m : Machine) (moves pumps : List Event) → IsMove m moves → false ≡ are_some moves → IsPump (happens_all m moves) pumps → Passes (suc more) m (moves ++ pumps)
ends more m [] pumps moved none pump = ([], pumps, refl, moved, (pumps, [], sym (append-nil pumps), pump, refl))
ends more m (e ∷ moves) pumps moved none pump = absurd (subst So (sym none) tt)

less_one : (k : ℕ) → (i : ℕ) → i < k → k - i ≡ suc (k - (i + 1))
less_one k i fits = omega (arith, fits)

-- so many of them were made
abbrev pub PassesSoFar : ℕ → Scene → Scene → Type 0
PassesSoFar i first now = SoFar (Passes 64) (Passes (64 - i)) (PassesPrefix 64) (PassesPrefix (64 - i)) first now

pub pass_so_far : (i : ℕ) (s t u : Scene) → i < 64 → PassesSoFar i s t → Does (Pass true) t u → PassesSoFar (i + 1) s u
pass_so_far i s t u fits so_far (events, (moves, pumps, is, moved, pump), ran) =
    let left : 64 - i ≡ suc (64 - (i + 1)) = less_one 64 i fits in
    more_so_far (Passes 64) (Passes (64 - i)) (Passes (64 - (i + 1))) (PassesPrefix 64) (PassesPrefix (64 - i)) (PassesPrefix (64 - (i + 1))) s t u events so_far ran
    (λ rest are.
    subst (λ (n : ℕ). Passes n t.machine (events ++ rest)) (sym left)
    (subst (λ (l : List Event). Passes (suc (64 - (i + 1))) t.machine (l ++ rest)) (sym is)
    (goes_on (64 - (i + 1)) t.machine moves pumps rest moved.0 moved.1 pump (subst (λ (l : List Event). Passes (64 - (i + 1)) (happens_all t.machine l) rest) is are))))
    (λ rest are.
    subst (λ (n : ℕ). PassesPrefix n t.machine (events ++ rest)) (sym left)
    (subst (λ (l : List Event). PassesPrefix (suc (64 - (i + 1))) t.machine (l ++ rest)) (sym is)
    (stops_on (64 - (i + 1)) t.machine moves pumps rest moved.0 moved.1 pump (subst (λ (l : List Event). PassesPrefix (64 - (i + 1)) (happens_all t.machine l) rest) is are))))

pub last_pass : (i : ℕ) (s t u : Scene) → i < 64 → PassesSoFar i s t → Does (Pass false) t u → Does (Passes 64) s u
last_pass i s t u fits so_far (events, (moves, pumps, is, moved, pump), ran) =
    let left : 64 - i ≡ suc (64 - (i + 1)) = less_one 64 i fits in
    all_so_far (Passes 64) (Passes (64 - i)) (PassesPrefix 64) (PassesPrefix (64 - i)) s t u so_far (
      events,
      subst (λ (n : ℕ). Passes n t.machine events) (sym left)
          (subst (λ (l : List Event). Passes (suc (64 - (i + 1))) t.machine l) (sym is) (ends (64 - (i + 1)) t.machine moves pumps moved.0 moved.1 pump)),
      ran,
    )

pub all_passes : (i : ℕ) (s t : Scene) → 64 ≤ i → PassesSoFar i s t → Does (Passes 64) s t
all_passes i s t full so_far =
    let none : 64 - i ≡ 0 = omega (arith, full) in
    none_so_far (Passes 64) (Passes (64 - i)) (PassesPrefix 64) (PassesPrefix (64 - i)) s t so_far (subst (λ (n : ℕ). Passes n t.machine []) (sym none) refl)

-- one of them was made in part
pub passes_stop : (i : ℕ) (s t u : Scene) → i < 64 → PassesSoFar i s t → Stops PassPrefix t u → Stops (PassesPrefix 64) s u
passes_stop i s t u fits so_far stops =
    let left : 64 - i ≡ suc (64 - (i + 1)) = less_one 64 i fits in
    stopped_so_far (Passes 64) (Passes (64 - i)) (PassesPrefix 64) (PassesPrefix (64 - i)) s t u so_far
    (stopped_as PassPrefix (PassesPrefix (64 - i)) t u (λ events prefix. subst (λ (n : ℕ). PassesPrefix n t.machine events) (sym left) (stops_in (64 - (i + 1)) t.machine events prefix)) stops)

-- ---- ticks

abbrev pub TicksSoFar : ℕ → ℕ → Scene → Scene → Type 0
TicksSoFar count i first now = SoFar (Ticks count) (Ticks (count - i)) (TicksPrefix count) (TicksPrefix (count - i)) first now

pub tick_so_far : (count i : ℕ) (s t u : Scene) → i < count → TicksSoFar count i s t → Does IsTick t u → TicksSoFar count (i + 1) s u
tick_so_far count i s t u fits so_far (events, tick, ran) =
    let left : count - i ≡ suc (count - (i + 1)) = less_one count i fits in
    more_so_far (Ticks count) (Ticks (count - i)) (Ticks (count - (i + 1))) (TicksPrefix count) (TicksPrefix (count - i)) (TicksPrefix (count - (i + 1))) s t u events so_far ran
    (λ rest are. subst (λ (n : ℕ). Ticks n t.machine (events ++ rest)) (sym left) (events, rest, refl, tick, are))
    (λ rest are. subst (λ (n : ℕ). TicksPrefix n t.machine (events ++ rest)) (sym left) (inr (events, rest, refl, tick, are)))

pub all_ticks : (count i : ℕ) (s t : Scene) → count ≤ i → TicksSoFar count i s t → Does (Ticks count) s t
all_ticks count i s t full so_far =
    let none : count - i ≡ 0 = omega (arith, full) in
    none_so_far (Ticks count) (Ticks (count - i)) (TicksPrefix count) (TicksPrefix (count - i)) s t so_far (subst (λ (n : ℕ). Ticks n t.machine []) (sym none) refl)

pub no_ticks : (count : ℕ) (s : Scene) → TicksSoFar count 0 s s
no_ticks count s =
    let same : count ≡ count - 0 = omega arith in
    subst (λ (n : ℕ). SoFar (Ticks count) (Ticks n) (TicksPrefix count) (TicksPrefix n) s s) same (nothing_so_far (Ticks count) (TicksPrefix count) s)

-- one of them was made in part
pub ticks_stop : (count i : ℕ) (s t u : Scene) → i < count → TicksSoFar count i s t → Stops TickPrefix t u → Stops (TicksPrefix count) s u
ticks_stop count i s t u fits so_far stops =
    let left : count - i ≡ suc (count - (i + 1)) = less_one count i fits in
    stopped_so_far (Ticks count) (Ticks (count - i)) (TicksPrefix count) (TicksPrefix (count - i)) s t u so_far
    (stopped_as TickPrefix (TicksPrefix (count - i)) t u (λ events prefix. subst (λ (n : ℕ). TicksPrefix n t.machine events) (sym left) (inl prefix)) stops)
