-- What is to come of an attempt of a node in a settling: it starts, its request is taken, and the host judges its report.
use Rattle.std.proofs.Common.{◌≡◌, ◌≢◌, ◌≤◌, ◌<◌, ℕ, ◌+◌, inl, inr, Bool, true, false, List, [], ◌∷◌, ◌++◌, length, refl, sym, ap, ◌∙◌, subst, arith}
use Rattle.std.specs.Prelude.{◌⊎◌, Option, Some, None}
use Rattle.std.specs.List.{AllByRecursion}
use Rattle.supervision.specs.Host.{begun_of}
use Rattle.serial_frame.specs.Frame.{FrameParts}
use Rattle.serial_frame.specs.Stream.{Rest}
use Rattle.serial_frame.specs.declared.item.Item.{Item}
use Rattle.serial_frame.specs.declared.unit.Unit.{Unit as LineUnit}
use Rattle.serial_link.specs.declared.turn.Turn.{Turn}
use Rattle.serial_link.specs.declared.turn.Turn.TheVariants.{Idle as no_turn}
use Rattle.route_table.specs.declared.route.Route.{Route}
use Rattle.chip_functions.specs.Field.{IsNode}
use Rattle.chip_sim.specs.Nodes.{is_marked}
use Rattle.air_frames.specs.Flown.{Flown}
use Rattle.host_node.specs.Facts.{NodeFacts}
use Rattle.host_node.specs.declared.attempt.Plan.{Plan}
use Rattle.host_node.specs.declared.series.Series.TheVariants as series
use Rattle.host_model.specs.Did.{after_all}
use Rattle.host_model.specs.Events.{HostEvent, Starts}
use Rattle.host_model.specs.May.{May as MayHost}
use Rattle.host_model.specs.Pumping.{IsNext, no_more_event}
use Rattle.host_model.specs.State.{HostState, node_of}
use Rattle.host_model.proofs.Submitted.{next_is, no_more_is}
use Rattle.outside_model.specs.Events.{Chip_takes, devices_after}
use Rattle.world_model.specs.Events.{Outside_does, Host_does, Host_takes, happens, May}
use Rattle.world_model.specs.State.{Machine}
use Rattle.proof_answered.specs.proof_calm.proof_traffic.OnAir.{on_air}
use Rattle.proof_answered.specs.proof_calm.proof_work.proof_walk.Phases.{Phase, Sleeping, Submitting, Moving, Moved}
use Rattle.proof_answered.proofs.proof_traffic_Parts.{Airs}
use Rattle.proof_answered.specs.proof_calm.Awaited.{Awaits}
use Rattle.proof_answered.specs.proof_calm.Passes.{ChipMayTake, IsPlain, OnLine, chip_taken, frames_in}
use Rattle.proof_answered.specs.proof_calm.Resting.{CanMove}
use Rattle.proof_answered.specs.proof_calm.Settling.{HasMoved, IsDone}
use Rattle.proof_answered.specs.proof_calm.Tied.{HasRoom, TieOf, on_line, unheard}
use Rattle.proof_answered.proofs.Calm.{takes_calm}
use Rattle.proof_answered.proofs.Following.{kept}
use Rattle.proof_answered.proofs.HostTurns.{host_turns}
use Rattle.proof_answered.proofs.Idle.{host_idles}
use Rattle.proof_answered.proofs.Judging.{AnyFrame, TieBy}
use Rattle.proof_answered.proofs.Peopled.{judged_are}
use Rattle.proof_answered.proofs.Reading.{goods}
use Rattle.proof_answered.proofs.Requested.{moved_frames}
use Rattle.proof_answered.specs.Outward.{IsSentTo}
use Rattle.proof_answered.proofs.Walking.{takes_still}
use Rattle.proof_answered.proofs.Unheard.{chip_part_says, unheard_idle, unheard_judged}
use Rattle.proof_in_time.specs.Coming.{AsksFor, Coming, Has, IsBusy, IsKept, IsMessage, IsOnAir, IsPlainStart, IsRequest, Sent, Stands, TellsEnd, Told, WaitsFor, brings, has_ticked, one_later, own_ticks, ticks_left, is_listed}
use Rattle.proof_in_time.proofs.Bounded.{NoMore, again_far, busy_still, does_waits, either_node, host_stays, open_where, outer_waits, refuses_waits, session_of, start_waits, still_fits, waits_none}
use Rattle.proof_in_time.proofs.Carried.{Fits, IsNearEnd, IsThere, carry, carry_or, many_on_air}
use Rattle.proof_in_time.proofs.Grown.{Adds, calm_adds, takes_add}
use Rattle.proof_in_time.proofs.JudgedWaits.{Judges, Runs, units_judge}
use Rattle.proof_in_time.proofs.Landed.{has_piled}
use Rattle.proof_in_time.proofs.NodeWaits.{IsBeside}

-- the chip moves no device
pub chip_devices : (m : Machine) (count : ℕ) (rest : Rest) (ways : List (Item × Option Route)) → (happens m (Outside_does (Chip_takes count rest ways))).outside.devices ≡ m.outside.devices
unfolding happens devices_after
chip_devices m count rest ways = refl

-- ---- a pump

module _ (airs : Airs) (these : List Bool) (many : length these ≡ 233) (whole : Bool) (n most : ℕ) (marked : is_marked these n ≡ true) (node : IsNode n) (within : n < 233) where
  asks_still : (here next : Phase) (m : Machine) (event : HostEvent) → (AsksFor n (session_of n m) m.host.state → ⊥) → ((place : ℕ) → ticks_left next + one_later next place ≤ ticks_left here + one_later here place) → ticks_left next ≤ ticks_left here
      → ((place : ℕ) → ticks_left next + has_ticked next place ≤ ticks_left here + has_ticked here place) → NoMore n here next → IsBeside n m.host.state event → length m.host.state.nodes ≡ 233 → WaitsFor whole n most here m → WaitsFor whole n most next (happens m (Host_does event))
  asks_still here next m event none joint alone near less beside places w =
      does_waits whole n most within here next m event less beside places (host_stays airs n here next m event (λ asking asks. none asks) (λ left. still_fits n (many_on_air m) left here next joint alone) near) w

  pub sleeps_wait : (passes ticks : ℕ) (m : Machine) (k : ℕ) → length m.host.state.nodes ≡ 233 → WaitsFor whole n most (Sleeping passes ticks) m → WaitsFor whole n most (Sleeping passes ticks) (happens m (Host_does (no_more_event m.host.state k)))
  sleeps_wait passes ticks m k places w =
      does_waits whole n most within (Sleeping passes ticks) (Sleeping passes ticks) m (no_more_event m.host.state k) (omega arith) (no_more_is (IsBeside n m.host.state) (record { queues = λ j. tt; drops = λ j. tt }) m.host.state k) places
      (host_stays airs n (Sleeping passes ticks) (Sleeping passes ticks) m (no_more_event m.host.state k) (λ asking asks. asking)
      (λ left. still_fits n (many_on_air m) left (Sleeping passes ticks) (Sleeping passes ticks) (λ place. omega arith) (omega arith)) (λ place. omega arith)) w

  -- either another event, or an attempt of the node
  abbrev IsStartOf : HostEvent → Type 0
  IsStartOf event = (plan : Plan) × ((more : Bool) × ((payload : List ℕ) × (event ≡ Starts n plan more payload)))

  asked_is : (h : HostState) (event : HostEvent) → IsNext h event → IsBeside n h event ⊎ IsStartOf event
  asked_is h event next =
      next_is (λ e. IsBeside n h e ⊎ IsStartOf e)
      (record {
        abort = inl tt;
        front = inl tt;
        starts = λ k plan more payload. by k plan more payload (either_node n k);
        text = λ k payload. inl tt;
        segment = λ k more payload. inl tt;
        begins = λ k session command. inl tt;
        unkept = λ k. inl tt;
      })
      h event next
    where
      by : (k : ℕ) (plan : Plan) (more : Bool) (payload : List ℕ) → (k ≡ n) ⊎ (k ≢ n) → IsBeside n h (Starts k plan more payload) ⊎ IsStartOf (Starts k plan more payload)
      by k plan more payload (inl same) = inr (plan, (more, (payload, ap (λ (j : ℕ). Starts j plan more payload) same)))
      by k plan more payload (inr other) = inl other

  none_asks : (m : Machine) (event : HostEvent) → IsNext m.host.state event → AsksFor n (session_of n m) m.host.state → ⊥
  none_asks m event next asks = absurd (let wrong : Some asks.request ≡ None = sym asks.under_way ∙ next.0.none_under_way in cc)

  -- then it is as it was, or an attempt of it that was due has started
  abbrev Submitted : ℕ → ℕ → Machine → HostEvent → Type 0
  Submitted passes ticks m event = WaitsFor whole n most (Submitting passes ticks) (happens m (Host_does event)) ⊎ (((node_of m.host.state n).series ≡ series.Due) × WaitsFor whole n 6 (Submitting passes ticks) (happens m (Host_does event)))

  pub submits_wait : (passes ticks : ℕ) (m : Machine) (event : HostEvent) → IsNext m.host.state event → May m (Host_does event) → IsPlainStart these m.host.state event → length m.host.state.nodes ≡ 233 → NodeFacts (node_of m.host.state n)
      → WaitsFor whole n most (Submitting passes ticks) m → Submitted passes ticks m event
  unfolding May
  submits_wait passes ticks m event next may plainly places facts w = by (asked_is m.host.state event next)
    where
      by : IsBeside n m.host.state event ⊎ IsStartOf event → Submitted passes ticks m event
      by (inl beside) = inl (asks_still (Submitting passes ticks) (Submitting passes ticks) m event (none_asks m event next) (λ place. omega arith) (omega arith) (λ place. omega arith) (omega arith) beside places w)
      by (inr (plan, (more, (payload, is)))) =
          inr (
            due,
            subst (λ (e : HostEvent). WaitsFor whole n 6 (Submitting passes ticks) (happens m (Host_does e))) (sym is)
                (start_waits whole n most within (Submitting passes ticks) (Submitting passes ticks) m plan more payload places none (subst (IsPlainStart these m.host.state) is plainly marked) tt (omega arith) w),
          )
        where
          due : (node_of m.host.state n).series ≡ series.Due
          due = (subst (λ (e : HostEvent). MayHost m.host.state e) is may.0).2.0

          none : (node_of m.host.state n).attempt_wait ≡ 0
          none = waits_none (node_of m.host.state n) facts (λ run. let wrong : series.Due ≡ series.Running = sym due ∙ run in absurd cc)

  -- ---- the chip takes its bytes

  aired : (session : ℕ) (payload : List ℕ) (flights : List Flown) → IsMessage session payload → Stands (IsOnAir n payload) flights → Stands (IsRequest n session) flights
  aired session payload flights message at =
      record { before = at.before; frame = at.frame; behind = at.behind; are = at.are; is = record { node = at.is.node; out = at.is.out; message = subst (IsMessage session) (sym at.is.is) message } }

  pub takes_wait : (passes ticks : ℕ) (m : Machine) (rest : Rest) (ways : List (Item × Option Route)) → Awaits m → ChipMayTake m rest ways → IsDone m ⊎ CanMove passes m → HasRoom m.outside.outer.chip.state
      → TieOf true m (on_line m.host.state.side.turn) → IsDone (chip_taken m rest ways) ⊎ HasMoved true passes (chip_taken m rest ways) → IsSentTo these m (Outside_does (Chip_takes (length m.outside.outer.to_chip.bytes) rest ways))
      → ((asks : AsksFor n (session_of n m) m.host.state) → Stands (IsOnAir n asks.payload) (on_air (chip_taken m rest ways).outside.outer.air.frames)) → WaitsFor whole n most (Moving passes ticks) m → WaitsFor whole n most (Moved true passes ticks) (chip_taken m rest ways)
  takes_wait passes ticks m rest ways awaits may at room tie later sent airs_it w =
      outer_waits whole n most (Moving passes ticks) (Moved true passes ticks) (omega arith) m (Chip_takes (length m.outside.outer.to_chip.bytes) rest ways)
      (λ left comes.
      carry n (session_of n m) left left (Moving passes ticks) (Moved true passes ticks) m (chip_taken m rest ways)
      (λ asking asks six. Sent (aired (session_of n m) asks.payload (on_air (chip_taken m rest ways).outside.outer.air.frames) asks.message (airs_it asks)) (omega (arith, six)))
      (busy_still n (session_of n m) left (Moving passes ticks) (Moved true passes ticks) m (chip_taken m rest ways) (chip_devices m (length m.outside.outer.to_chip.bytes) rest ways) (λ place. omega arith))
      (takes_add airs m awaits these many (length m.outside.outer.to_chip.bytes) rest ways sent) (λ x has. chip_part_says AnyFrame (Has x) (has_piled x) tt passes m rest ways may at room tie later has)
      (still_fits n (many_on_air m) left (Moving passes ticks) (Moved true passes ticks) (λ place. omega arith) (omega arith)) comes)
      w

  -- ---- the host judges what is on its way

  -- what else is to come, and the wait
  record Elsewhere (session wait : ℕ) (next : Phase) (later : Machine) : Type 0 where
    pub left : ℕ
    pub few : left ≤ 23
    pub within_most : left ≤ most
    pub comes : Coming n session left next later
    pub far : (wait ≡ 0) ⊎ (70 + left + 0 ≤ wait)

  -- by the host, which is that of the machine
  record BoundedBy (next : Phase) (later : Machine) (h : HostState) : Type 0 where
    pub left : ℕ
    pub few : left ≤ 23
    pub within_most : left ≤ most
    pub comes : Coming n (begun_of (node_of h n).book) left next later
    pub waits : ((node_of h n).attempt_wait ≡ 0) ⊎ (70 + left + own_ticks n next ≤ (node_of h n).attempt_wait)

  waits_by : (next : Phase) (later : Machine) (h : HostState) → later.host.state ≡ h → own_ticks n next ≤ 1 → is_listed whole (node_of h n).classes ≡ false → ((node_of h n).series ≡ series.Running → BoundedBy next later h) → WaitsFor whole n most next later
  waits_by next later h same once openly bounded = record {
    once = once;
    openly = subst (λ (g : HostState). is_listed whole (node_of g n).classes ≡ false) (sym same) openly;
    bounded = λ run. let b = subst (λ (g : HostState). (node_of g n).series ≡ series.Running → BoundedBy next later g) (sym same) bounded run in record { left = b.left; few = b.few; within = b.within_most; comes = b.comes; waits = b.waits };
  }

  module _ (b : Bool) (passes ticks : ℕ) (m : Machine) (rest : Rest) (items : List Item) (events : List HostEvent) (may : May m (Host_takes (length m.outside.outer.to_host.bytes) rest items events)) where
    abbrev later : Machine
    later = happens m (Host_takes (length m.outside.outer.to_host.bytes) rest items events)

    adds : Adds m.outside.outer later.outside.outer
    adds = calm_adds m.outside.outer later.outside.outer (takes_calm airs m (length m.outside.outer.to_host.bytes) rest items events)

    fits : (left : ℕ) → Fits n (many_on_air m) (Moved b passes ticks) left (Sleeping passes ticks) left
    fits left = still_fits n (many_on_air m) left (Moved b passes ticks) (Sleeping passes ticks) (λ place. omega arith) (omega arith)

    works : (left : ℕ) (at : IsBusy n (session_of n m) m.outside.devices) → IsNearEnd n (session_of n m) left (Moved b passes ticks) m.outside.devices at → Coming n (session_of n m) left (Sleeping passes ticks) later
    works left =
        busy_still n (session_of n m) left (Moved b passes ticks) (Sleeping passes ticks) m later (takes_still airs m (length m.outside.outer.to_host.bytes) rest items events) (λ place. omega arith)

    idle_waits : (host turn : Turn) (frames : List FrameParts) → OnLine [] [] host turn frames m → WaitsFor whole n most (Moved b passes ticks) m → WaitsFor whole n most (Sleeping passes ticks) later
    idle_waits host turn frames line w =
        refuses_waits whole n most (Moved b passes ticks) (Sleeping passes ticks) (omega arith) m (Host_takes (length m.outside.outer.to_host.bytes) rest items events) (host_idles m host turn frames rest items events line may).2
        (λ left comes.
        carry n (session_of n m) left left (Moved b passes ticks) (Sleeping passes ticks) m later (λ asking asks six. absurd asking) (works left) adds
        (λ x has. subst (Has x) (sym (unheard_idle AnyFrame (Has x) (has_piled x) airs m rest items events host turn frames line may)) has) (fits left) comes)
        w

    units_wait : (unit : LineUnit) (units : List LineUnit) (host turn : Turn) (frames : List FrameParts) → OnLine [] (unit ∷ units) host turn frames m → AllByRecursion IsPlain (unit ∷ units) → length (unit ∷ units) ≤ 99
        → unheard m.outside.outer ≡ frames_in (unit ∷ units) ++ m.outside.outer.chip.state.port.waiting → TieOf true m [] → AllByRecursion IsKept events → length m.host.state.nodes ≡ 233 → NodeFacts (node_of m.host.state n)
        → WaitsFor whole n most (Moved b passes ticks) m → WaitsFor whole n most (Sleeping passes ticks) later
    units_wait unit units host turn frames line plain few frames_are tie keeps places facts w = waits_by (Sleeping passes ticks) later (after_all m.host.state events) host_is (omega arith) after_judging.openly (λ run. bounded run (after_judging.runs run))
      where
        h : HostState
        h = m.host.state

        session : ℕ
        session = session_of n m

        wait : ℕ
        wait = (node_of m.host.state n).attempt_wait

        waiting : List FrameParts
        waiting = m.outside.outer.chip.state.port.waiting

        items_are : items ≡ goods (unit ∷ units)
        items_are = (host_turns airs m unit units host turn frames rest items events plain (omega (arith, few)) line may).2

        host_is : later.host.state ≡ after_all m.host.state events
        host_is = (host_turns airs m unit units host turn frames rest items events plain (omega (arith, few)) line may).3

        comes_or : (left : ℕ) → left ≤ 23 → left ≤ most → (wait ≡ 0) ⊎ (70 + left + 0 ≤ wait) → Coming n session left (Sleeping passes ticks) later ⊎ IsThere n session left (Moved b passes ticks) m
            → Elsewhere session wait (Sleeping passes ticks) later ⊎ ((payload : List ℕ) × (TellsEnd session payload × Has (brings n payload) (frames_in (unit ∷ units) ++ waiting)))
        comes_or left six few_more far (inl comes) = inl (record { left = left; few = six; within_most = few_more; comes = comes; far = far })
        comes_or left six few_more far (inr there) = inr (there.payload, (there.tells, subst (Has (brings n there.payload)) frames_are there.has))

        bound_of : (left : ℕ) → (wait ≡ 0) ⊎ (70 + left + 0 ≤ wait) → (wait ≡ 0) ⊎ (70 ≤ wait)
        bound_of left (inl none) = inl none
        bound_of left (inr more) = inr (omega (arith, more))

        before_judging : Judges whole n session wait (Elsewhere session wait (Sleeping passes ticks) later) (frames_in (unit ∷ units) ++ waiting) h
        before_judging = record {
          places = places;
          openly = w.openly;
          runs = λ run.
              let of = w.bounded run in
              record {
                at = record { opened = open_where (node_of m.host.state n) facts run; begun = refl };
                waits = inl refl;
                bound = bound_of of.left of.waits;
                report = comes_or of.left of.few of.within of.waits
                    (carry_or n session of.left of.left (Moved b passes ticks) (Sleeping passes ticks) m later (λ asking asks six. absurd asking) (works of.left) adds (fits of.left) of.comes);
              };
        }

        after_judging : Judges whole n session wait (Elsewhere session wait (Sleeping passes ticks) later) waiting (after_all h events)
        after_judging =
            units_judge whole n within session wait (Elsewhere session wait (Sleeping passes ticks) later) m.outside.outer.chip.state h (unit ∷ units) waiting events node plain
            (judged_are m (length m.outside.outer.to_host.bytes) rest items events (unit ∷ units) may items_are) (subst (λ (fs : List FrameParts). TieBy true (kept h) m.outside.outer.chip.state fs []) frames_are tie) keeps before_judging

        bounded : (node_of (after_all h events) n).series ≡ series.Running → Runs n session wait (Elsewhere session wait (Sleeping passes ticks) later) waiting (after_all h events) → BoundedBy (Sleeping passes ticks) later (after_all h events)
        bounded run is = by is.report
          where
            in_session : (left : ℕ) → Coming n session left (Sleeping passes ticks) later → Coming n (begun_of (node_of (after_all h events) n).book) left (Sleeping passes ticks) later
            in_session left comes = subst (λ (s : ℕ). Coming n s left (Sleeping passes ticks) later) (sym is.at.begun) comes

            no_more : (wait ≡ 0) ⊎ (70 ≤ wait) → (wait ≡ 0) ⊎ (70 + 0 + 0 ≤ wait)
            no_more (inl none) = inl none
            no_more (inr more) = inr (omega (arith, more))

            by : Elsewhere session wait (Sleeping passes ticks) later ⊎ ((payload : List ℕ) × (TellsEnd session payload × Has (brings n payload) waiting)) → BoundedBy (Sleeping passes ticks) later (after_all h events)
            by (inl other) =
                record {
                  left = other.left;
                  few = other.few;
                  within_most = other.within_most;
                  comes = in_session other.left other.comes;
                  waits = again_far (node_of (after_all h events) n).attempt_wait wait other.left 0 0 other.few (omega arith) (omega arith) is.waits other.far;
                }
            by (inr (payload, (tells, has))) = record {
              left = 0;
              few = omega arith;
              within_most = omega arith;
              comes = in_session 0
                  (Told payload tells
                  (subst (Has (brings n payload)) (sym (unheard_judged AnyFrame (Has (brings n payload)) (has_piled (brings n payload)) airs m rest items events unit units host turn frames line plain few may)) has) (omega arith));
              waits = again_far (node_of (after_all h events) n).attempt_wait wait 0 0 0 (omega arith) (omega arith) (omega arith) is.waits (no_more is.bound);
            }

    pub judges_wait : IsDone m ⊎ HasMoved b passes m → TieOf true m [] → AllByRecursion IsKept events → length m.host.state.nodes ≡ 233 → NodeFacts (node_of m.host.state n) → WaitsFor whole n most (Moved b passes ticks) m → WaitsFor whole n most (Sleeping passes ticks) later
    judges_wait (inl done) tie keeps places facts w = idle_waits no_turn no_turn [] done.line w
    judges_wait (inr has) tie keeps places facts w = by has.down has.line has.plain has.few (moved_frames b passes m has)
      where
        by : (down : List LineUnit) → OnLine [] down has.host has.turn has.frames m → AllByRecursion IsPlain down → length down ≤ 99 → unheard m.outside.outer ≡ frames_in down ++ m.outside.outer.chip.state.port.waiting → WaitsFor whole n most (Sleeping passes ticks) later
        by [] line plain few frames_are = idle_waits has.host has.turn has.frames line w
        by (unit ∷ units) line plain few frames_are = units_wait unit units has.host has.turn has.frames line plain few frames_are tie keeps places facts w
