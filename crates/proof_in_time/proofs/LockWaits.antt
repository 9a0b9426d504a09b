-- Over lines for one node alone that is a lock and listens, no wait of an attempt runs out.
use Rattle.std.proofs.Common.{◌≡◌, ◌≢◌, ◌≤◌, ◌<◌, ℕ, suc, inl, inr, Bool, true, List, [], ◌∷◌, length, sym, ap, ◌∙◌, subst, arith}
use Rattle.std.specs.Prelude.{◌⊎◌}
use Rattle.zw_text.specs.declared.entry.Entry.{Entry}
use Rattle.zw_text.specs.declared.line.Line.{Line}
use Rattle.supervision.specs.Host.{begun_of}
use Rattle.chip_functions.specs.Field.{IsNode}
use Rattle.host_node.specs.Facts.{NodeFacts}
use Rattle.host_node.specs.State.{NodeState}
use Rattle.host_node.specs.declared.attempt.Plan.{Plan}
use Rattle.host_node.specs.declared.series.Series.TheVariants as series
use Rattle.host_model.specs.After.{after}
use Rattle.host_model.specs.Events.{HostEvent, Interviews, Node_ticks, Line_ticks, Starts}
use Rattle.host_model.specs.Facts.{HostFacts}
use Rattle.host_model.specs.May.{May as MayHost}
use Rattle.host_model.specs.Pumping.{IsNext}
use Rattle.host_model.specs.State.{HostState, node_of}
use Rattle.host_model.specs.Taking.{is_secure}
use Rattle.host_model.proofs.Submitted.{SubmittedAre, next_is}
use Rattle.world_model.specs.Events.{Event, Host_does, May, happens}
use Rattle.world_model.specs.State.{Machine}
use Rattle.proof_answered.specs.proof_calm.proof_work.proof_walk.Phases.{Arriving, Between, Doing, Giving, Goes, Moved, Moving, Phase, Said_line, Sleeping, Submitting, Ticking_chip, Ticking_decoder, Ticking_devices, Ticking_host, To_tick, Turns}
use Rattle.proof_answered.specs.FirstAttempts.{IsInTime}
use Rattle.proof_answered.specs.Sleepers.{IsAlone}
use Rattle.proof_answered.proofs.AttemptEnds.{LastsAt}
use Rattle.proof_answered.proofs.proof_traffic_Parts.{Airs}
use Rattle.proof_in_time.specs.Coming.{IsKeptFor, most_then, own_ticks}
use Rattle.proof_in_time.specs.Exchanging.{RestsSealed, WaitsSealed}
use Rattle.proof_in_time.specs.Locked.{IsLocked, KnowLocked, LockAt, Seals, Still}
use Rattle.proof_in_time.proofs.AloneWalk.{OneAlone, alone_in_time}
use Rattle.proof_in_time.proofs.Bounded.{either_node, waits_none}
use Rattle.proof_in_time.proofs.Carried.{ticks_once}
use Rattle.proof_in_time.proofs.ExchangeKept.{HasLeft}
use Rattle.proof_in_time.proofs.ExchangeOwed.{AroundSealed}
use Rattle.proof_in_time.proofs.ExchangeRests.{rests_on, rests_said, rests_turn}
use Rattle.proof_in_time.proofs.ExchangeWalk.{SealedLaws, sealed_on, sealed_said, sealed_starts, sealed_turns, some_left}
use Rattle.proof_in_time.proofs.FarWaits.{SubmitsBeside, WaitThen, goes_far, no_more}
use Rattle.proof_in_time.proofs.NodeWaits.{IsBeside, beside_table, own_start, own_tick}
use Rattle.proof_in_time.proofs.OpenBeside.{AllTied, tied_then}
use Rattle.proof_in_time.proofs.OpenSteps.{starts_due}
use Rattle.proof_in_time.proofs.PartsBegins.{StartsIn, SubmitsAt, submits_at}
use Rattle.proof_in_time.proofs.PartsDue.{started_so}
use Rattle.proof_in_time.proofs.FarWaits.{not_last}

-- ---- a moment

-- no task waits where no attempt runs
pub lock_empty : (n most : ℕ) (here : Phase) (m : Machine) → (node_of m.host.state n).series ≢ series.Running → LockAt n most here m → m.host.state.requests.queue ≡ []
lock_empty n most here m still (Still once r) = r.no_task
lock_empty n most here m still (Seals w) = absurd (still w.running)

lock_lasts : (n most : ℕ) (here : Phase) (m : Machine) → NodeFacts (node_of m.host.state n) → LockAt n most here m → (node_of m.host.state n).attempt_wait ≢ 1
lock_lasts n most here m facts (Still once r) one = let none = waits_none (node_of m.host.state n) facts r.rests in omega (arith, none, one)
lock_lasts n most here m facts (Seals w) one = not_last (node_of m.host.state n).attempt_wait w.left (own_ticks n here) w.waits one

-- it is one that listens, and its wait is not at its last tick
pub lock_one : (these : List Bool) (here : Phase) (m : Machine) → IsLocked these here m → OneAlone these (IsLocked these) here m
lock_one these here m o = record { n = o.n; alone = o.alone; listen = o.listen; lasts = λ facts. lock_lasts o.n 6 here m facts o.at }

pub lock_in_time : (these : List Bool) (here : Phase) (past : List Entry) (m : Machine) (event : Event) → IsKeptFor these past → KnowLocked these here past m → IsInTime m event
lock_in_time these here past m event is known = alone_in_time these (IsLocked these) (lock_one these) here past m event is known

-- ---- what it lists stays

module _ (facts_kept : (h : HostState) (event : HostEvent) → HostFacts h → MayHost h event → HostFacts (after h event)) (n : ℕ) (within : n < 233) where
  pub record SecureAt (h : HostState) : Type 0 where
    pub facts : HostFacts h
    pub is : is_secure (node_of h n).classes ≡ true

  beside_secure : (h : HostState) (event : HostEvent) → IsBeside n h event → SecureAt h → is_secure (node_of (after h event) n).classes ≡ true
  beside_secure h event beside on = let table = beside_table n within h event on.facts.nodes.places beside in ap is_secure table.from.same ∙ on.is

  listed : (h : HostState) (event : HostEvent) → LastsAt h event → SecureAt h → is_secure (node_of (after h event) n).classes ≡ true
  listed h (Interviews k listens classes update) lasts on = absurd lasts
  listed h Line_ticks lasts on = beside_secure h Line_ticks lasts on
  listed h (Node_ticks k) lasts on = by (either_node n k)
    where
      own : (node_of h n).attempt_wait ≢ 1 → is_secure (node_of (after h (Node_ticks n)) n).classes ≡ true
      own wait = let t = own_tick n within h on.facts.nodes.places wait in ap is_secure t.same ∙ on.is

      by : (k ≡ n) ⊎ (k ≢ n) → is_secure (node_of (after h (Node_ticks k)) n).classes ≡ true
      by (inl same) = subst (λ (j : ℕ). is_secure (node_of (after h (Node_ticks j)) n).classes ≡ true) (sym same) (own (subst (λ (j : ℕ). (node_of h j).attempt_wait ≢ 1) same lasts))
      by (inr other) = beside_secure h (Node_ticks k) other on
  listed h (Starts k plan more payload) lasts on = by (either_node n k)
    where
      own : is_secure (node_of (after h (Starts n plan more payload)) n).classes ≡ true
      own = ap (λ (x : NodeState). is_secure x.classes) (own_start n within h plan more payload on.facts.nodes.places) ∙ (ap is_secure (started_so (node_of h n) plan).classes ∙ on.is)

      by : (k ≡ n) ⊎ (k ≢ n) → is_secure (node_of (after h (Starts k plan more payload)) n).classes ≡ true
      by (inl same) = subst (λ (j : ℕ). is_secure (node_of (after h (Starts j plan more payload)) n).classes ≡ true) (sym same) own
      by (inr other) = beside_secure h (Starts k plan more payload) other on
  listed h event lasts on = beside_secure h event tt on

  pub secure_kept : (h : HostState) (event : HostEvent) → LastsAt h event → MayHost h event → SecureAt h → SecureAt (after h event)
  secure_kept h event lasts may on = record { facts = facts_kept h event on.facts may; is = listed h event lasts on }

-- ---- its own ticks

own_fewer : (n : ℕ) (first : HostEvent) (events : List HostEvent) (ticks : ℕ) → own_ticks n (Ticking_host (first ∷ events) ticks) ≤ 1 → own_ticks n (Ticking_host events ticks) ≤ 1
own_fewer n (Node_ticks k) events ticks once = omega (arith, once)
own_fewer n first events ticks once = once

once_on : (n : ℕ) (here next : Phase) (m : Machine) (event : Event) → Goes here m event next → own_ticks n here ≤ 1 → own_ticks n next ≤ 1
once_on n (Said_line line) next m event (is, to) once = subst (λ (q : Phase). own_ticks n q ≤ 1) (sym to) (omega arith)
once_on n (Doing line (first ∷ left)) next m event (is, to) once = subst (λ (q : Phase). own_ticks n q ≤ 1) (sym to) (omega arith)
once_on n (To_tick (suc ticks)) next m event (is, to) once = subst (λ (q : Phase). own_ticks n q ≤ 1) (sym to) (omega arith)
once_on n (Arriving (suc frames) ticks) next m event (drawn, route, is, to) once = subst (λ (q : Phase). own_ticks n q ≤ 1) (sym to) (omega arith)
once_on n (Giving (suc results) ticks) next m event (route, is, to) once = subst (λ (q : Phase). own_ticks n q ≤ 1) (sym to) (omega arith)
once_on n (Ticking_devices place (suc count) ticks) next m event (drawn, route, is, to) once = subst (λ (q : Phase). own_ticks n q ≤ 1) (sym to) (omega arith)
once_on n (Ticking_chip ticks) next m event (is, to) once = subst (λ (q : Phase). own_ticks n q ≤ 1) (sym to) (omega arith)
once_on n (Ticking_decoder ticks) next m event (is, to) once = subst (λ (q : Phase). own_ticks n q ≤ 1) (sym to) (ticks_once n m.host.state)
once_on n (Ticking_host (first ∷ events) ticks) next m event (is, to) once = subst (λ (q : Phase). own_ticks n q ≤ 1) (sym to) (own_fewer n first events ticks once)
once_on n (Sleeping passes ticks) next m event (k, wants, is, to) once = subst (λ (q : Phase). own_ticks n q ≤ 1) (sym to) (omega arith)
once_on n (Submitting passes ticks) next m event (asked, next_so, is, to) once = subst (λ (q : Phase). own_ticks n q ≤ 1) (sym to) (omega arith)
once_on n (Moving passes ticks) next m event (rest, ways, is, to) once = subst (λ (q : Phase). own_ticks n q ≤ 1) (sym to) (omega arith)
once_on n (Moved b passes ticks) next m event (rest, items, done, is, to) once = subst (λ (q : Phase). own_ticks n q ≤ 1) (sym to) (omega arith)
once_on n here next m event goes once = absurd goes

-- ---- from phase to phase, with the ticks that are left

module _ (airs : Airs) (laws : SealedLaws) (these : List Bool) (many : length these ≡ 233) (n : ℕ) (alone : IsAlone these n) (is_node : IsNode n) where
  -- within so many, or an attempt that was due has started
  abbrev pub LockThen : ℕ → Phase → Machine → Event → Type 0
  LockThen most next m event = LockAt n most next (happens m event) ⊎ (((node_of m.host.state n).series ≡ series.Due) × LockAt n 6 next (happens m event))

  abbrev StartsOwn : Event → Type 0
  StartsOwn event = (plan : Plan) × ((more : Bool) × ((payload : List ℕ) × (event ≡ Host_does (Starts n plan more payload))))

  abbrev StartsNone : Event → Type 0
  StartsNone event = (plan : Plan) (more : Bool) (payload : List ℕ) → event ≡ Host_does (Starts n plan more payload) → ⊥

  which : (event : Event) → StartsOwn event ⊎ StartsNone event
  which (Host_does asked) = by asked
    where
      by : (one : HostEvent) → StartsOwn (Host_does one) ⊎ StartsNone (Host_does one)
      by (Starts k plan more payload) = of (either_node n k)
        where
          of : (k ≡ n) ⊎ (k ≢ n) → StartsOwn (Host_does (Starts k plan more payload)) ⊎ StartsNone (Host_does (Starts k plan more payload))
          of (inl same) = inl (plan, (more, (payload, ap (λ (j : ℕ). Host_does (Starts j plan more payload)) same)))
          of (inr other) = inr (λ other_plan other_more others is. absurd (other (let same : k ≡ n = cc in same)))
      by one = inr (λ plan more payload is. absurd (let wrong : Host_does one ≡ Host_does (Starts n plan more payload) = is in cc))
  which event = inr (λ plan more payload is. absurd (let wrong : event ≡ Host_does (Starts n plan more payload) = is in cc))

  -- what is submitted is beside a node that does not start
  submits_beside : (m : Machine) (asked : HostEvent) → IsNext m.host.state asked → StartsNone (Host_does asked) → IsBeside n m.host.state asked
  submits_beside m asked next_so none = next_is Is each m.host.state asked next_so none
    where
      Is : HostEvent → Type 0
      Is e = ((plan : Plan) (more : Bool) (payload : List ℕ) → Host_does e ≡ Host_does (Starts n plan more payload) → ⊥) → IsBeside n m.host.state e

      each : SubmittedAre Is
      each = record {
        abort = λ starts. tt;
        front = λ starts. tt;
        starts = λ k plan more payload starts same. starts plan more payload (ap (λ (j : ℕ). Host_does (Starts j plan more payload)) same);
        text = λ k payload starts. tt;
        segment = λ k more payload starts. tt;
        begins = λ k session command starts. tt;
        unkept = λ k starts. tt;
      }

  beside_so : (here next : Phase) (m : Machine) (event : Event) → Goes here m event next → StartsNone event → SubmitsBeside airs these n alone is_node here m event
  beside_so (Submitting passes ticks) next m event (asked, next_so, is, to) none = λ one same. let own : asked ≡ one = (let both : Host_does asked ≡ Host_does one = sym is ∙ same in cc) in
      subst (IsBeside n m.host.state) own (submits_beside m asked next_so (λ plan more payload e. none plan more payload (is ∙ e)))
  beside_so here next m event goes none = tt

  -- a node that rests
  rests_so : (most : ℕ) (here next : Phase) (m : Machine) (event : Event) → Goes here m event next → AroundSealed these n here next m event → StartsNone event → own_ticks n here ≤ 1 → RestsSealed n here m → LockAt n most next (happens m event)
  rests_so most here next m event goes a none once r =
      let wait = waits_none (node_of m.host.state n) (a.lock.peopled.facts.nodes.facts n) r.rests in
      let far : WaitThen airs these n alone is_node 1 here next m event =
      goes_far airs these n alone is_node 1 here next m event goes
      (record {
        may = a.lock.may;
        line = a.lock.line;
        awaits = a.lock.awaits;
        routed = a.lock.routed;
        tie = a.lock.tie;
        places = a.lock.peopled.facts.nodes.places;
        wants = a.wants;
        submits = beside_so here next m event goes none;
      })
      (one_left here) (omega arith) once (inl wait) in
      Still far.once (rests_on airs these many n alone is_node here next m event goes a (λ run. r.rests (far.ran run)) r)
    where
      one_left : (q : Phase) → HasLeft 1 q
      one_left (To_tick (suc ticks)) = omega arith
      one_left q = tt

  -- it starts
  starts_so : (most : ℕ) (here next : Phase) (m : Machine) (event : Event) → Goes here m event next → AroundSealed these n here next m event → RestsSealed n here m → StartsOwn event → LockThen most next m event
  starts_so most here next m event goes a r (plan, (more, (payload, is))) = by (submits_at here next m event goes a.lock.line (subst StartsIn (sym is) tt))
    where
      may : May m (Host_does (Starts n plan more payload))
      may = subst (May m) is a.lock.may

      by : SubmitsAt here next → LockThen most next m event
      by (passes, (ticks, (here_is, next_so))) =
          inr (
            starts_due m n plan more payload may,
            Seals
                (subst (λ (q : Phase). WaitsSealed n 6 q (happens m event)) (sym next_so)
                (subst (λ (e : Event). WaitsSealed n 6 (Submitting passes ticks) (happens m e)) (sym is)
                (sealed_starts airs laws these many n alone is_node passes ticks m plan more payload may a.lock.peopled.facts a.go (subst (λ (q : Phase). RestsSealed n q m) here_is r)))),
          )

  pub lock_later : (here next : Phase) (m : Machine) (event : Event) → Goes here m event next → AroundSealed these n here next m event → (most : ℕ) → LockAt n most here m → LockThen (most_then most here) next m event
  lock_later here next m event goes a most (Seals w) = by (sealed_on airs laws these many n alone is_node most here next m event goes a w)
    where
      by : WaitsSealed n (most_then most here) next (happens m event) ⊎ RestsSealed n next (happens m event) → LockThen (most_then most here) next m event
      by (inl on) = inl (Seals on)
      by (inr rests) = inl (Still (once_on n here next m event goes w.once) rests)
  lock_later here next m event goes a most (Still once r) = by (which event)
    where
      by : StartsOwn event ⊎ StartsNone event → LockThen (most_then most here) next m event
      by (inl starts) = starts_so (most_then most here) here next m event goes a r starts
      by (inr none) = inl (rests_so (most_then most here) here next m event goes a none once r)

  pub lock_turned : (here next : Phase) (m : Machine) → Turns here m next → AllTied these here m → AllTied these next m → (most : ℕ) → LockAt n most here m → LockAt n most next m
  lock_turned here next m turns tied next_tied most (Seals w) =
      Seals (sealed_turns airs laws these many n alone is_node most here next m turns tied.1 tied.0 tied.6 next_tied.0 next_tied.6 (tied_then these next m next_tied) w)
  lock_turned here next m turns tied next_tied most (Still once r) =
      let less = no_more airs these n alone is_node here next m turns in
      Still (omega (arith, less, once)) (rests_turn airs these many n alone is_node here next m turns tied.1 tied.0 r)

  pub lock_said : (line : Line) (m : Machine) (most : ℕ) → LockAt n most Between m → LockAt n most (Said_line line) m
  lock_said line m most (Seals w) = Seals (sealed_said airs laws these many n alone is_node most line m w)
  lock_said line m most (Still once r) = Still once (rests_said airs these many n alone is_node line m r)

  pub lock_some : (most ticks : ℕ) (m : Machine) → (node_of m.host.state n).series ≡ series.Running → LockAt n most (To_tick (suc ticks)) m → 1 ≤ most
  lock_some most ticks m runs (Seals w) =
      let some = some_left airs laws these many n alone is_node (begun_of (node_of m.host.state n).book) w.left (To_tick (suc ticks)) m w.exchange in
      let within = w.within in
      omega (arith, some, within)
  lock_some most ticks m runs (Still once r) = absurd (r.rests runs)

pub lock_more : (n most more : ℕ) (here : Phase) (m : Machine) → most ≤ more → LockAt n most here m → LockAt n more here m
lock_more n most more here m less (Still once r) = Still once r
lock_more n most more here m less (Seals w) =
    let within = w.within in
    Seals (record { once = w.once; running = w.running; left = w.left; few = w.few; within = omega (arith, within, less); exchange = w.exchange; waits = w.waits })
