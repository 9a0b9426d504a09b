-- What is ordered in a stretch is in hand from then on, as is what waits for a node that counts as asleep; and as many sessions are to come up to its own as wait with it, and one that is open.
use Rattle.std.proofs.Common.{◌≡◌, ◌≤◌, ◌<◌, ℕ, zero, suc, ◌+◌, ◌-◌, ◌&&◌, inl, inr, Bool, true, false, if◌then◌else◌, List, [], ◌∷◌, ◌++◌, length, length-append, refl, sym, ap, ◌∙◌, subst, arith}
use Rattle.std.proofs.lemmas.List.{get_or-set_same, length-set}
use Rattle.std.specs.Option.{is_some}
use Rattle.std.specs.Prelude.{◌⊎◌, Option, Some, None}
use Rattle.zw_base.specs.declared.order.Order.{Order}
use Rattle.zw_text.specs.declared.entry.Entry.{Entry}
use Rattle.zw_text.specs.declared.entry.Entry.TheVariants as entry
use Rattle.supervision.specs.Host.{open_session}
use Rattle.chip_functions.specs.Field.{IsNode}
use Rattle.chip_sim.specs.Nodes.{is_marked}
use Rattle.host_keep.specs.Kept.{Taken}
use Rattle.host_orders.specs.declared.carriage.Carriage.{Carriage}
use Rattle.host_node.specs.Facts.{NodeFacts}
use Rattle.host_node.specs.State.{NodeState, is_idle, is_open, is_up, unknown}
use Rattle.host_node.specs.Steps.{after_occasion, new_series}
use Rattle.host_node.specs.Events.{after as after_node}
use Rattle.host_node.specs.Events.NodeEvent.{Puts, Accepts as node_accepts}
use Rattle.host_node.specs.declared.series.Series.{Series}
use Rattle.host_node.specs.declared.series.Series.TheVariants as series
use Rattle.host_node.specs.TableState.{node_of as node_among, with_node as with_node_among}
use Rattle.host_model.specs.After.{after}
use Rattle.host_model.specs.Events.{HostEvent, Accepts}
use Rattle.host_model.specs.Facts.{HostFacts}
use Rattle.host_model.specs.May.{May as MayHost}
use Rattle.host_model.specs.State.{Command, HostState, node_of}
use Rattle.world_model.specs.Events.{Event, happens, entries, May}
use Rattle.world_model.specs.State.{Machine}
use Rattle.proof_course_plain.specs.proof_host.Tables.{taken_at, taken_by}
use Rattle.proof_spoken.proofs.Orders.{event_kept}
use Rattle.law_time.specs.Stretches.{turns, wakes_never}
use Rattle.proof_answered.specs.proof_calm.proof_traffic.OnAir.{on_air}
use Rattle.proof_answered.specs.proof_calm.Tied.{unheard}
use Rattle.proof_answered.specs.Sleepers.{Comes_home, Flies_home, OneWakes}
use Rattle.proof_answered.specs.Workers.{KnowWorkers, Staffed}
use Rattle.proof_answered.specs.proof_calm.proof_work.Phases.{AsksNothing}
use Rattle.proof_answered.specs.proof_calm.proof_work.proof_walk.Phases.{Phase, Between, Goes}
use Rattle.proof_answered.specs.proof_calm.proof_work.proof_walk.Walk.{WalkWhere}
use Rattle.proof_answered.proofs.AttemptEnds.{LastsAt}
use Rattle.proof_answered.proofs.FirstWalk.{first_on}
use Rattle.proof_answered.proofs.TurnOrder.{turn_most}
use Rattle.proof_answered.proofs.Unmarked.{nothing_asked}
use Rattle.proof_answered.proofs.proof_traffic_Parts.{Airs}
use Rattle.proof_in_time.specs.Coming.{AreWaiting, IsKeptFor, WaitsFor}
use Rattle.proof_in_time.specs.Sleeping.{ComesUp, Flies, Told}
use Rattle.proof_in_time.specs.InHand.{StandsAt, ticks_blocked, ticks_enough, ticks_of_all}
use Rattle.proof_in_time.proofs.InHand.{Due, Ended, EndsLater, Goes_on, HasTurn, Idles, KeptLaws, Rests, Runs, Sleeps_on, event_hand, later_hand_as, later_kept, three_true}
use Rattle.proof_in_time.proofs.InTurn.{ComesTo, In_turn}
use Rattle.proof_in_time.proofs.Counting.{Ground, Lines}
use Rattle.proof_in_time.proofs.Keeping.{kept_before, none_unkept, told_kept}
use Rattle.proof_in_time.proofs.Lasting.{node_within}
use Rattle.proof_in_time.proofs.Nearing.{EndsSoon, Ends_soon, Enough, IsHeldSoon, IsOverSoon, Never, NeverRests, RunsOn, Soon, WaitsOn, Wakes_soon, idle_of}
use Rattle.proof_in_time.proofs.Rising.{HasRisen, IsServed, RestsAt, one_comes, one_flies, rests_at, risen_or, risen_served}
use Rattle.proof_in_time.proofs.Serving.{KnowServed}

-- ---- a node that is given a command

abbrev pub Any : ℕ → Type 0
Any more = Unit {0}

-- its session is to come, whatever becomes of the node
abbrev pub Pends : ℕ → NodeState → Type 0
Pends command x = EndsLater command Any Any Any NeverRests Any x

module _ (command : ℕ) where
  pub pends_kept : KeptLaws (Pends command)
  pends_kept =
      later_kept command Any Any Any (λ more any. tt) (λ more any. tt) (λ more any. tt) (λ more any. tt) (λ more any. tt) NeverRests (λ more wait w. w) (λ more wait w. absurd w) (λ more wait w. absurd w) (λ more wait w. absurd w) Any (λ more any. tt)
      (λ more any. tt)

  -- it waits where a series is due or runs, or none is open
  busy_waits : (y : NodeState) (place : ℕ) → StandsAt command place y.waiting → (session : ℕ) → open_session y.book ≡ Some session → (y.series ≡ series.Due) ⊎ (y.series ≡ series.Running) → Pends command y
  busy_waits y place at session open_is (inl due) = Goes_on (Due (suc place) session open_is due at tt (λ blocked. tt))
  busy_waits y place at session open_is (inr run) = Goes_on (Runs (suc place) session open_is run at tt (λ blocked. tt))

  -- where a session is open whose series is over, another series is due then, or the node counts as asleep
  renewed : (y : NodeState) (session place : ℕ) → open_session y.book ≡ Some session → y.series ≡ series.Idle → StandsAt command place y.waiting → Pends command (after_occasion y)
  renewed y session place opened idle at = by (is_up y) refl
    where
      by : (b : Bool) → is_up y ≡ b → Pends command (after_occasion y)
      by true up =
          let all : (is_open y && is_up y && is_idle y.series) ≡ true = three_true (is_open y) (is_up y) (is_idle y.series) (ap (λ (o : Option ℕ). is_some o) opened) up (ap is_idle idle) in
          subst (λ (b : Bool). Pends command (if b then new_series y else y)) (sym all) (Goes_on (Due (suc place) session opened refl at tt (λ blocked. tt)))
      by false down = pends_kept.occasion y (Sleeps_on place down idle at tt)

  -- one that waits
  stands_waits : (x : NodeState) (place : ℕ) → NodeFacts x → StandsAt command place x.waiting → ((session : ℕ) → open_session x.book ≡ Some session → x.series ≡ series.Idle → Pends command x) → Pends command x
  stands_waits x place facts at rests = by (open_session x.book) refl
    where
      opened : (session : ℕ) → open_session x.book ≡ Some session → (s : Series) → x.series ≡ s → Pends command x
      opened session open_is series.Idle so = rests session open_is so
      opened session open_is series.Due so = busy_waits x place at session open_is (inl so)
      opened session open_is series.Running so = busy_waits x place at session open_is (inr so)

      by : (o : Option ℕ) → open_session x.book ≡ o → Pends command x
      by None none = Goes_on (Idles place none (idle_of x facts none) at (λ free. tt) (λ blocked. tt))
      by (Some session) open_is = opened session open_is x.series refl

  accepted_waits : (x : NodeState) → NodeFacts x → Pends command (after_node (after_node x (Puts command)) node_accepts)
  accepted_waits x facts = by (open_session x.book) refl
    where
      at : StandsAt command (length x.waiting) (after_node x (Puts command)).waiting
      at = record { before = x.waiting; behind = []; are = refl; place_is = refl }

      opened : (session : ℕ) → open_session x.book ≡ Some session → (s : Series) → x.series ≡ s → Pends command (after_occasion (after_node x (Puts command)))
      opened session open_is series.Idle so = renewed (after_node x (Puts command)) session (length x.waiting) open_is so at
      opened session open_is series.Due so = pends_kept.occasion (after_node x (Puts command)) (busy_waits (after_node x (Puts command)) (length x.waiting) at session open_is (inl so))
      opened session open_is series.Running so = pends_kept.occasion (after_node x (Puts command)) (busy_waits (after_node x (Puts command)) (length x.waiting) at session open_is (inr so))

      by : (o : Option ℕ) → open_session x.book ≡ o → Pends command (after_occasion (after_node x (Puts command)))
      by None none = pends_kept.occasion (after_node x (Puts command)) (Goes_on (Idles (length x.waiting) none (idle_of x facts none) at (λ free. tt) (λ blocked. tt)))
      by (Some session) open_is = opened session open_is x.series refl

  -- or for a node that counts as asleep
  pub asleep_waits : (x : NodeState) (place : ℕ) → NodeFacts x → is_up x ≡ false → StandsAt command place x.waiting → Pends command x
  asleep_waits x place facts down at = stands_waits x place facts at (λ session open_is idle. Sleeps_on place down idle at tt)

-- ---- a host, from the first of its commands that counts on

-- each command of the node behind so many is in hand, and each that waited for it then
pub record InHandFrom (n start : ℕ) (waited : List ℕ) (h : HostState) : Type 0 where
  pub since : (command : ℕ) (taken : Taken) → taken_at h.commands command ≡ Some taken → taken.order.node ≡ n → start + 1 ≤ command → Pends command (node_of h n)
  pub before : (command place : ℕ) → StandsAt command place waited → Pends command (node_of h n)

pushed_at : (commands : List Command) (one : Command) (number : ℕ) (taken : Taken) → taken_at (commands ++ one ∷ []) number ≡ Some taken
    → (taken_at commands number ≡ Some taken) ⊎ ((number ≡ length commands + 1) × (taken_by (Some one) ≡ Some taken))
pushed_at commands one zero taken found = absurd cc
pushed_at [] one (suc zero) taken found = inr (omega arith, found)
pushed_at [] one (suc (suc place)) taken found = absurd cc
pushed_at (first ∷ commands) one (suc zero) taken found = inl found
pushed_at (first ∷ commands) one (suc (suc place)) taken found = by (pushed_at commands one (suc place) taken found)
  where
    by : (taken_at commands (suc place) ≡ Some taken) ⊎ ((suc place ≡ length commands + 1) × (taken_by (Some one) ≡ Some taken))
        → (taken_at commands (suc place) ≡ Some taken) ⊎ ((suc (suc place) ≡ length (first ∷ commands) + 1) × (taken_by (Some one) ≡ Some taken))
    by (inl was) = inl was
    by (inr (is, same)) = inr (omega (arith, is), same)

-- none is beyond the last
none_past : (commands : List Command) (number : ℕ) (taken : Taken) → taken_at commands number ≡ Some taken → length commands + 1 ≤ number → ⊥
none_past commands zero taken found later = absurd cc
none_past [] (suc place) taken found later = absurd cc
none_past (first ∷ commands) (suc zero) taken found later = absurd (omega (arith, later))
none_past (first ∷ commands) (suc (suc place)) taken found later = none_past commands (suc place) taken found (omega (arith, later))

-- at the beginning those of before alone are, if the node counts as asleep
pub none_yet : (n : ℕ) (h : HostState) (waited : List ℕ) → ((command place : ℕ) → StandsAt command place waited → Pends command (node_of h n)) → InHandFrom n (length h.commands) waited h
none_yet n h waited before = record { since = λ command taken found node later. absurd (none_past h.commands command taken found later); before = before }

module _ (facts_kept : (h : HostState) (event : HostEvent) → HostFacts h → MayHost h event → HostFacts (after h event)) (n : ℕ) (within : n < 233) (start : ℕ) (waited : List ℕ) where
  record On (h : HostState) : Type 0 where
    pub facts : HostFacts h
    pub all : InHandFrom n start waited h

  same_hand : (h : HostState) (event : HostEvent) → LastsAt h event → MayHost h event → On h → (command : ℕ) → Pends command (node_of h n) → Pends command (node_of (after h event) n)
  same_hand h event lasts may on command waits =
      let later = event_hand (Pends command) (pends_kept command) n within h event lasts may (record { places = on.facts.nodes.places; hand = waits }) in
      later.hand

  accepted_node : (h : HostState) (order : Order) (carriage : Carriage) → length h.nodes ≡ 233 → order.node < 233
      → node_of (after h (Accepts order carriage)) order.node ≡ after_node (after_node (node_of h order.node) (Puts (length h.commands + 1))) node_accepts
  accepted_node h order carriage places few =
      get_or-set_same between order.node (after_node (node_among between order.node) node_accepts) (unknown 0) (subst (λ (l : ℕ). order.node < l) (sym (length-set h.nodes order.node first ∙ places)) few)
      ∙ ap (λ (x : NodeState). after_node x node_accepts) (get_or-set_same h.nodes order.node first (unknown 0) (subst (λ (l : ℕ). order.node < l) (sym places) few))
    where
      first : NodeState
      first = after_node (node_of h order.node) (Puts (length h.commands + 1))

      between : List NodeState
      between = with_node_among h.nodes order.node (after_node (node_of h order.node) (Puts (length h.commands + 1)))

  accepted_here : (h : HostState) (order : Order) (carriage : Carriage) → On h → order.node ≡ n → Pends (length h.commands + 1) (node_of (after h (Accepts order carriage)) n)
  accepted_here h order carriage on same =
      let few : order.node < 233 = subst (λ (k : ℕ). k < 233) (sym same) within in
      subst (λ (k : ℕ). Pends (length h.commands + 1) (node_of (after h (Accepts order carriage)) k)) same
      (subst (Pends (length h.commands + 1)) (sym (accepted_node h order carriage on.facts.nodes.places few)) (accepted_waits (length h.commands + 1) (node_of h order.node) (on.facts.nodes.facts order.node)))

  since_after : (h : HostState) (event : HostEvent) → LastsAt h event → MayHost h event → On h → (command : ℕ) (taken : Taken) → taken_at (after h event).commands command ≡ Some taken → taken.order.node ≡ n → start + 1 ≤ command
      → Pends command (node_of (after h event) n)
  since_after h (Accepts order carriage) lasts may on command taken found node later = by (pushed_at h.commands _ command taken found)
    where
      by : (taken_at h.commands command ≡ Some taken) ⊎ ((command ≡ length h.commands + 1) × (Some (record { order = order; carriage = carriage }) ≡ Some taken)) → Pends command (node_of (after h (Accepts order carriage)) n)
      by (inl was) = same_hand h (Accepts order carriage) lasts may on command (on.all.since command taken was node later)
      by (inr (number, one)) =
          let it : ◌≡◌ {A = Taken} (record { order = order; carriage = carriage }) taken = cc in
          let same : order.node ≡ n = ap (λ (t : Taken). t.order.node) it ∙ node in
          subst (λ (k : ℕ). Pends k (node_of (after h (Accepts order carriage)) n)) (sym number) (accepted_here h order carriage on same)
  since_after h event lasts may on command taken found node later =
      same_hand h event lasts may on command (on.all.since command taken (sym ((event_kept h event tt).taken command) ∙ found) node later)

  on_kept : (h : HostState) (event : HostEvent) → LastsAt h event → MayHost h event → On h → On (after h event)
  on_kept h event lasts may on = record {
    facts = facts_kept h event on.facts may;
    all = record { since = since_after h event lasts may on; before = λ command place at. same_hand h event lasts may on command (on.all.before command place at) };
  }

-- ---- the walk

-- what is known beside: each command of these nodes that was accepted since is in hand, and each that waited
abbrev pub KnowAccepted : (Phase → List Entry → Machine → Type 0) → List Bool → ℕ → (ℕ → List ℕ) → Phase → List Entry → Machine → Type 0
KnowAccepted Know these start waited here past m = Know here past m × (IsKeptFor these past → (n : ℕ) → is_marked these n ≡ true → InHandFrom n start (waited n) m.host.state)

module _ (airs : Airs) (these : List Bool) (many : length these ≡ 233) (none : is_marked these 0 ≡ false) (facts_kept : (h : HostState) (event : HostEvent) → HostFacts h → MayHost h event → HostFacts (after h event)) (Up : Machine → Event → Type 0)
    (Know : Phase → List Entry → Machine → Type 0) (lines : Lines these Up Know) (start : ℕ) (waited : ℕ → List ℕ) where
  accepted_on : (here next : Phase) (past : List Entry) (m : Machine) (event : Event) → Goes here m event next → May m event → IsKeptFor these (past ++ entries m event) → KnowAccepted Know these start waited here past m
      → (n : ℕ) → is_marked these n ≡ true → InHandFrom n start (waited n) (happens m event).host.state
  accepted_on here next past m event goes may is known n marked =
      let before = kept_before these past (entries m event) is in
      let stretched = before.worked.stretched in
      let staff = lines.workers here past m before known.0 in
      let tied = (staff.0.0 stretched).0.tied stretched.quiet in
      let node = node_within these many none n marked in
      let below : n < 233 = (let few = node.1 in omega (arith, few)) in
      let later = first_on (On facts_kept n below start (waited n)) (on_kept facts_kept n below start (waited n)) airs here next m event goes may (lines.in_time here past m event before known.0) tied.0 tied.1 tied.6 (staff.0.0 stretched).1
      (λ k same on. absurd (none_unkept m event (told_kept these past (entries m event) is) k same)) (record { facts = tied.7.facts; all = known.1 before n marked }) in
      later.all

  pub accepted_walk : WalkWhere Up AsksNothing (KnowAccepted Know these start waited)
  accepted_walk = record {
    said = λ past m words line read known. (tt, ((lines.walk.said past m words line read known.0).1, λ is. known.1 (kept_before these past (entry.Said words ∷ []) is)));
    event = λ here next past m event goes may up known. (
      nothing_asked past (entries m event),
      ((lines.walk.event here next past m event goes may up known.0).1, λ is. accepted_on here next past m event goes may is known),
    );
    turn = λ here next past m turns known. (lines.walk.turn here next past m turns known.0, known.1);
  }

-- ---- from then on its ticks are counted

pub all_most : (long : ℕ) (these : List Bool) (a b : ℕ) → a ≤ b → ticks_of_all long these a ≤ ticks_of_all long these b
all_most long these zero b less = omega arith
all_most long these (suc a) zero less = absurd (omega (arith, less))
all_most long these (suc a) (suc b) less = let more = all_most long these a b (omega (arith, less)) in omega (arith, more)

pub blocked_most : (x : NodeState) → ticks_blocked x ≤ 1
blocked_most x = by x.blocked
  where
    by : (b : Bool) → (if b then 1 else 0) ≤ 1
    by true = omega arith
    by false = omega arith

-- it stands behind fewer than there are
stands_less : (command place : ℕ) (waiting : List ℕ) → StandsAt command place waiting → place + 1 ≤ length waiting
stands_less command place waiting at =
    let all : length waiting ≡ length at.before + length (command ∷ at.behind) = ap (λ (ws : List ℕ). length ws) at.are ∙ length-append at.before (command ∷ at.behind) in
    let is = at.place_is in
    omega (arith, all, is)

-- so many sessions are enough, up to its own
abbrev Upto : ℕ → ℕ → Type 0
Upto sessions more = more + 1 ≤ sessions

upto : (command sessions : ℕ) (x : NodeState) → length x.waiting + 1 ≤ sessions → Pends command x → EndsLater command (Upto sessions) (Upto sessions) (Upto sessions) NeverRests (λ (more : ℕ). more + 2 ≤ sessions) x
upto command sessions x many (Goes_on (Ended is)) = Goes_on (Ended is)
upto command sessions x many (Goes_on (Idles more none idle at d v)) =
    let less = stands_less command more x.waiting at in Goes_on (Idles more none idle at (λ free. omega (arith, less, many)) (λ blocked. omega (arith, less, many)))
upto command sessions x many (Goes_on (Due zero session opened so at d v)) = Goes_on (Due 0 session opened so at (omega (arith, many)) (λ blocked. omega (arith, many)))
upto command sessions x many (Goes_on (Due (suc place) session opened so at d v)) =
    let less = stands_less command place x.waiting at in Goes_on (Due (suc place) session opened so at (omega (arith, less, many)) (λ blocked. omega (arith, less, many)))
upto command sessions x many (Goes_on (Runs zero session opened so at r v)) = Goes_on (Runs 0 session opened so at (omega (arith, many)) (λ blocked. omega (arith, many)))
upto command sessions x many (Goes_on (Runs (suc place) session opened so at r v)) =
    let less = stands_less command place x.waiting at in Goes_on (Runs (suc place) session opened so at (omega (arith, less, many)) (λ blocked. omega (arith, less, many)))
upto command sessions x many (Rests more session wait listens opened idle again at w) = absurd w
upto command sessions x many (Sleeps_on more down idle at s) = let less = stands_less command more x.waiting at in Sleeps_on more down idle at (omega (arith, less, many))

-- a node that is served
pends_ends : (Within : ℕ → Phase → Machine → Type 0) (long : ℕ) (these : List Bool) (n command sessions ticks : ℕ) (m : Machine) → IsNode n → IsServed n m.host.state → Within long Between m → length (node_of m.host.state n).waiting + 1 ≤ sessions
    → ticks_blocked (node_of m.host.state n) + ticks_of_all long these sessions ≤ ticks → Pends command (node_of m.host.state n) → EndsSoon Within long these n command ticks Between m
pends_ends Within long these n command sessions ticks m node served all many enough waits =
    later_hand_as command (Upto sessions) (Upto sessions) (Upto sessions) (λ (more : ℕ). ComesTo long these n (ticks - ticks_of_all long these more) Between m) (λ (more : ℕ). RunsOn Within (ticks - ticks_of_all long these more) Between m)
    (λ (more : ℕ). IsHeldSoon long these n ticks more Between) NeverRests (λ (more wait : ℕ). IsOverSoon long these n ticks more wait Between) (λ (more : ℕ). more + 2 ≤ sessions) Never (node_of m.host.state n) served.up due runs held
    (λ more wait idle again w. absurd w) (upto command sessions (node_of m.host.state n) many waits)
  where
    left : (more : ℕ) → Upto sessions more → ticks_enough long these ≤ ticks - ticks_of_all long these more
    left more few = let total = all_most long these (suc more) sessions (omega (arith, few)) in omega (arith, total, enough)

    due : (more : ℕ) → HasTurn (node_of m.host.state n) → Upto sessions more → ComesTo long these n (ticks - ticks_of_all long these more) Between m
    due more has few = let most = turn_most these m.host.state.served n node.1 in let some = left more few in In_turn (omega (arith, most, some))

    runs : (more : ℕ) → (node_of m.host.state n).series ≡ series.Running → Upto sessions more → RunsOn Within (ticks - ticks_of_all long these more) Between m
    runs more so few = let some = left more few in record { most = long; waits = all; few = omega (arith, some) }

    held : (more : ℕ) → (node_of m.host.state n).blocked ≡ true → Upto sessions more → IsHeldSoon long these n ticks more Between
    held more blocked few =
        let total = all_most long these (suc more) sessions (omega (arith, few)) in
        let one : ticks_blocked (node_of m.host.state n) ≡ 1 = ap (λ (b : Bool). if b then 1 else 0) blocked in
        omega (arith, total, enough, one)

-- the host listens to the node
pub soon_of : (these : List Bool) (n long : ℕ) (Up : Machine → Event → Type 0) (Know : Phase → List Entry → Machine → Type 0) (Within : ℕ → Phase → Machine → Type 0) → Ground these n long true Up Know Within → (command sessions ticks : ℕ) (taken : Taken) (start : ℕ)
    (waited : ℕ → List ℕ) (past : List Entry) (m : Machine) → is_marked these n ≡ true → IsNode n → KnowAccepted Know these start waited Between past m → taken_at m.host.state.commands command ≡ Some taken → taken.order.node ≡ n → start + 1 ≤ command
    → length (node_of m.host.state n).waiting + 1 ≤ sessions → ticks_blocked (node_of m.host.state n) + ticks_of_all long these sessions ≤ ticks → IsKeptFor these past → Soon Within true long these n command ticks Between past m
soon_of these n long Up Know Within ground command sessions ticks taken start waited past m marked node known found for_node later many enough kept =
    Ends_soon tt
    (pends_ends Within long these n command sessions ticks m node (ground.served Between past m kept known.0 tt) (ground.within Between past m kept known.0) many enough ((known.1 kept n marked).since command taken found for_node later))

-- it sleeps, and its `wake` line was said: it has risen, or its Notification comes in the next tick
pub soon_woken : (these : List Bool) (n command sessions ticks start : ℕ) (waited : ℕ → List ℕ) (past : List Entry) (m : Machine) → is_marked these n ≡ true → IsNode n → KnowAccepted (KnowServed false these) these start waited Between past m → wakes_never (turns n past) ≡ false
    → (InHandFrom n start (waited n) m.host.state → Pends command (node_of m.host.state n)) → (length (node_of m.host.state n).waiting ≤ 16 → length (node_of m.host.state n).waiting + 1 ≤ sessions) → 2 + ticks_of_all 6 these sessions ≤ ticks → IsKeptFor these past → Soon (WaitsFor true n) false 6 these n command ticks Between past m
soon_woken these n command sessions ticks start waited past m marked node known woken counts few_wait enough kept = by (risen_or n rests.0.device Between past m rests.1 woken (λ wakes. wakes))
  where
    at : (KnowWorkers these Between past m × Staffed these Between m) × AreWaiting these Between past m
    at = known.0.0.0 kept

    rests : RestsAt n Between past m
    rests = rests_at these n Between past m marked (known.0.1 kept).serve at.1.hears

    waits : Pends command (node_of m.host.state n)
    waits = counts (known.1 kept n marked)

    many : length (node_of m.host.state n).waiting + 1 ≤ sessions
    many =
        let stretched = kept.worked.stretched in
        let tied = (at.0.0.0 stretched).0.tied stretched.quiet in
        few_wait (tied.7.facts.nodes.facts n).waiting

    few : (more : ℕ) → Upto sessions more → Enough 6 these 2 ticks more
    few more less = let all = all_most 6 these (suc more) sessions (omega (arith, less)) in omega (arith, all, enough)

    as_many : EndsLater command (Upto sessions) (Upto sessions) (Upto sessions) NeverRests (λ (more : ℕ). more + 2 ≤ sessions) (node_of m.host.state n) → WaitsOn 6 these command 2 ticks (node_of m.host.state n)
    as_many (Goes_on (Ended is)) = Goes_on (Ended is)
    as_many (Goes_on (Idles more none idle stands d v)) = Goes_on (Idles more none idle stands (λ free. few more (d free)) (λ blocked. few more (v blocked)))
    as_many (Goes_on (Due more session opened so stands d v)) = Goes_on (Due more session opened so stands (few more d) (λ blocked. few more (v blocked)))
    as_many (Goes_on (Runs more session opened so stands r v)) = Goes_on (Runs more session opened so stands (few more r) (λ blocked. few more (v blocked)))
    as_many (Rests more session wait listens opened idle again stands w) = absurd w
    as_many (Sleeps_on more down idle stands s) = Sleeps_on more down idle stands (few (suc more) (omega (arith, s)))

    comes : OneWakes n m → ComesUp n 1 Between m
    comes (Flies_home one pending) = Flies (one_flies n (on_air m.outside.outer.air.frames) one) (omega arith)
    comes (Comes_home frames one) = let from = one_comes n (unheard m.outside.outer) one in Told from.payload from.tells from.has (omega arith)

    by : OneWakes n m ⊎ HasRisen n Between past m → Soon (WaitsFor true n) false 6 these n command ticks Between past m
    by (inl one) = Wakes_soon refl 1 (comes one) (as_many (upto command sessions (node_of m.host.state n) many waits))
    by (inr risen) =
        let served : IsServed n m.host.state = risen_served n rests.0.device Between past m rests.1 risen in
        let blocked = blocked_most (node_of m.host.state n) in
        Ends_soon risen (pends_ends (WaitsFor true n) 6 these n command sessions ticks m node served (at.1.waits n marked) many (omega (arith, enough, blocked)) waits)
