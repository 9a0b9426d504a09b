-- The wait of an attempt that runs is far from its end, with as many ticks as are left, from phase to phase, whatever is on its way to and fro.
use Rattle.std.proofs.Common.{◌≡◌, ◌≢◌, ◌≤◌, ◌<◌, ℕ, zero, suc, ◌+◌, ◌-◌, inl, inr, Bool, true, if◌then◌else◌, Some, List, [], ◌∷◌, ◌++◌, length, refl, sym, ap, ◌∙◌, subst, arith}
use Rattle.std.proofs.lemmas.Bool.{eq-eqb}
use Rattle.std.specs.Prelude.{◌⊎◌, ◌==◌}
use Rattle.std.specs.List.{AllByRecursion}
use Rattle.serial_frame.specs.Frame.{FrameParts}
use Rattle.serial_frame.specs.Stream.{Rest}
use Rattle.serial_frame.specs.declared.item.Item.{Item}
use Rattle.serial_frame.specs.declared.unit.Unit.{Unit as LineUnit}
use Rattle.serial_link.specs.declared.turn.Turn.{Turn}
use Rattle.serial_link.specs.declared.turn.Turn.TheVariants.{Idle as no_turn}
use Rattle.supervision.specs.Host.{begun_of}
use Rattle.chip_functions.specs.Field.{IsNode}
use Rattle.host_node.specs.Search.{first_wanting}
use Rattle.host_node.specs.declared.series.Series.TheVariants as series
use Rattle.host_model.specs.After.{after}
use Rattle.host_model.specs.Did.{after_all}
use Rattle.host_model.specs.Events.{HostEvent, Accepts, Line_ticks, Node_ticks, Requests_do}
use Rattle.host_model.specs.State.{HostState, node_of}
use Rattle.host_model.specs.Ticking.{tick_events}
use Rattle.outside_model.specs.Events.{Arrives, Begins_line, Begins_tick, Chip_takes, Chip_ticks, Cuts, Device_ticks, Shows, Wakes_device, OuterEvent}
use Rattle.world_model.specs.Events.{Decoder_ticks, Event, Host_does, Host_takes, May, Outside_does, Refuses, Shows_values, happens}
use Rattle.world_model.specs.State.{Machine}
use Rattle.proof_answered.specs.proof_calm.proof_work.proof_walk.Phases.{Phase, Arriving, Begun, Doing, Giving, Goes, Moved, Moving, Said_line, Sleeping, Submitting, Ticked, Ticking_chip, Ticking_decoder, Ticking_devices, Ticking_host, To_tick, Turns, after_pump}
use Rattle.proof_answered.specs.proof_calm.Awaited.{AwaitsAt}
use Rattle.proof_answered.specs.proof_calm.Passes.{IsPlain, OnLine, frames_in}
use Rattle.proof_answered.specs.proof_calm.Resting.{IsEffect, IsOfTick, LineAt}
use Rattle.proof_answered.specs.proof_calm.Routed.{IsRouted}
use Rattle.proof_answered.specs.proof_calm.Settling.{HasMoved, IsDone}
use Rattle.proof_answered.specs.proof_calm.Tied.{TieAt, TieOf, unheard}
use Rattle.proof_answered.specs.Sleepers.{IsAlone}
use Rattle.proof_answered.proofs.Following.{kept}
use Rattle.proof_answered.proofs.HostTurns.{host_turns}
use Rattle.proof_answered.proofs.Idle.{host_idles}
use Rattle.proof_answered.proofs.Judging.{TieBy}
use Rattle.proof_answered.proofs.Peopled.{judged_are}
use Rattle.proof_answered.proofs.Requested.{moved_frames}
use Rattle.proof_answered.proofs.Walking.{none_given}
use Rattle.proof_answered.proofs.proof_traffic_Parts.{Airs}
use Rattle.proof_in_time.specs.Coming.{own_ticks, ticks_of}
use Rattle.proof_in_time.specs.Open.{IsFar}
use Rattle.proof_in_time.proofs.Bounded.{either_node, fewer}
use Rattle.proof_in_time.proofs.Carried.{ticks_once}
use Rattle.proof_in_time.proofs.ExchangeKept.{HasLeft}
use Rattle.proof_in_time.proofs.JudgedWaits.{IsTold, told_beside}
use Rattle.proof_in_time.proofs.Lasting.{most_then}
use Rattle.proof_in_time.proofs.NodeWaits.{IsBeside, OnTable, TickOf, beside_table, own_tick}
use Rattle.proof_in_time.proofs.PartsArrived.{outside_host}
use Rattle.proof_in_time.proofs.PartsGoing.{refuses_host, values_host}
use Rattle.proof_in_time.proofs.PartsHosted.{host_then}
use Rattle.proof_in_time.proofs.PartsJudged.{units_told}

-- ---- the wait

-- no more is to come of both, or it begins anew
as_far : (wait old left then_left own then_own : ℕ) → then_left + then_own ≤ left + own → then_left ≤ 23 → then_own ≤ 1 → (wait ≡ old) ⊎ (wait ≡ 100) → (old ≡ 0) ⊎ (70 + left + own ≤ old) → (wait ≡ 0) ⊎ (70 + then_left + then_own ≤ wait)
as_far wait old left then_left own then_own less few once (inl same) (inl none) = inl (same ∙ none)
as_far wait old left then_left own then_own less few once (inl same) (inr more) = inr (omega (arith, same, more, less))
as_far wait old left then_left own then_own less few once (inr anew) so = inr (omega (arith, anew, few, once))

ticked_far : (wait old left own then_own : ℕ) → wait ≡ old - 1 → own ≡ 1 + then_own → (old ≡ 0) ⊎ (70 + left + own ≤ old) → (wait ≡ 0) ⊎ (70 + left + then_own ≤ wait)
ticked_far wait old left own then_own is one (inl none) = inl (omega (arith, is, none))
ticked_far wait old left own then_own is one (inr more) = inr (omega (arith, is, more, one))

pub not_last : (wait left own : ℕ) → (wait ≡ 0) ⊎ (70 + left + own ≤ wait) → wait ≢ 1
not_last wait left own (inl none) one = omega (arith, none, one)
not_last wait left own (inr more) one = omega (arith, more, one)

-- ---- what the host has of the node then

-- what it lists stays; and where its attempt runs, it did, and so do the session and, but for its own tick, the wait
pub record NodeThen (n : ℕ) (h g : HostState) : Type 0 where
  pub classes : (node_of g n).classes ≡ (node_of h n).classes
  pub running : (node_of g n).series ≡ series.Running → (node_of h n).series ≡ series.Running
  pub keeps : (node_of g n).series ≡ series.Running → (begun_of (node_of g n).book ≡ begun_of (node_of h n).book) × (((node_of g n).attempt_wait ≡ (node_of h n).attempt_wait) ⊎ ((node_of g n).attempt_wait ≡ 100))

same_node : (n : ℕ) (h g : HostState) → g ≡ h → NodeThen n h g
same_node n h g same = subst (λ (k : HostState). NodeThen n h k) (sym same) (record { classes = refl; running = λ run. run; keeps = λ run. (refl, inl refl) })

table_node : (n : ℕ) (h g : HostState) → OnTable n (node_of h n) g.nodes → NodeThen n h g
table_node n h g table = record { classes = table.from.same; running = λ run. (table.from.keeps run).running; keeps = λ run. let k = table.from.keeps run in (ap (λ (cs : List ℕ). length cs) k.commands_are, k.waits) }

beside_node : (n : ℕ) (within : n < 233) (h : HostState) (event : HostEvent) → length h.nodes ≡ 233 → IsBeside n h event → NodeThen n h (after h event)
beside_node n within h event places beside = table_node n h (after h event) (beside_table n within h event places beside)

-- what the chip tells
record NodeTold (n : ℕ) (h g : HostState) : Type 0 where
  pub places : length g.nodes ≡ 233
  pub then_is : NodeThen n h g

told_node : (n : ℕ) (within : n < 233) (h : HostState) (events : List HostEvent) → AllByRecursion IsTold events → length h.nodes ≡ 233 → NodeTold n h (after_all h events)
told_node n within h [] told places = record { places = places; then_is = same_node n h h refl }
told_node n within h (event ∷ events) told places = both n h (after h event) (after_all h (event ∷ events)) table (told_node n within (after h event) events told.1 table.places)
  where
    table : OnTable n (node_of h n) (after h event).nodes
    table = beside_table n within h event places (told_beside n h event told.0)

    waits : (a b c : ℕ) → (b ≡ a) ⊎ (b ≡ 100) → (c ≡ b) ⊎ (c ≡ 100) → (c ≡ a) ⊎ (c ≡ 100)
    waits a b c (inl first) (inl later) = inl (later ∙ first)
    waits a b c (inr first) (inl later) = inr (later ∙ first)
    waits a b c first (inr later) = inr later

    both : (k : ℕ) (a b c : HostState) → OnTable k (node_of a k) b.nodes → NodeTold k b c → NodeTold k a c
    both k a b c first rest = record {
      places = rest.places;
      then_is = record {
        classes = rest.then_is.classes ∙ first.from.same;
        running = λ run. (first.from.keeps (rest.then_is.running run)).running;
        keeps = λ run.
            let was = first.from.keeps (rest.then_is.running run) in
            let then_so = rest.then_is.keeps run in
            (then_so.0 ∙ ap (λ (cs : List ℕ). length cs) was.commands_are, waits (node_of a k).attempt_wait (node_of b k).attempt_wait (node_of c k).attempt_wait was.waits then_so.1);
      };
    }

module _ (airs : Airs) (these : List Bool) (n : ℕ) (alone : IsAlone these n) (is_node : IsNode n) where
  below : n < 233
  below = let few = is_node.1 in omega (arith, few)

  -- ---- with no event

  pub left_as : (left : ℕ) (here next : Phase) (m : Machine) → own_ticks n next ≤ own_ticks n here → left ≤ 23 → own_ticks n here ≤ 1 → IsFar n left here m → IsFar n left next m
  left_as left here next m less few once far =
      as_far (node_of m.host.state n).attempt_wait (node_of m.host.state n).attempt_wait left left (own_ticks n here) (own_ticks n next) (omega (arith, less)) few (fewer (own_ticks n next) (own_ticks n here) less once) (inl refl) far

  pub no_more : (here next : Phase) (m : Machine) → Turns here m next → own_ticks n next ≤ own_ticks n here
  no_more (Begun line) next m (inl (events, is, same)) = subst (λ (q : Phase). own_ticks n q ≤ 0) (sym same) (omega arith)
  no_more (Begun line) next m (inr (ticks, is, same)) = subst (λ (q : Phase). own_ticks n q ≤ 0) (sym same) (omega arith)
  no_more (Doing line []) next m same = subst (λ (q : Phase). own_ticks n q ≤ 0) (sym same) (omega arith)
  no_more (To_tick zero) next m same = subst (λ (q : Phase). own_ticks n q ≤ 0) (sym same) (omega arith)
  no_more (Ticked ticks) next m same = subst (λ (q : Phase). own_ticks n q ≤ 1) (sym same) (omega arith)
  no_more (Arriving zero ticks) next m same = subst (λ (q : Phase). own_ticks n q ≤ 1) (sym same) (omega arith)
  no_more (Giving zero ticks) next m same = subst (λ (q : Phase). own_ticks n q ≤ 1) (sym same) (omega arith)
  no_more (Ticking_devices place zero ticks) next m same = subst (λ (q : Phase). own_ticks n q ≤ 1) (sym same) (omega arith)
  no_more (Ticking_host [] ticks) next m same = subst (λ (q : Phase). own_ticks n q ≤ 0) (sym same) (omega arith)
  no_more (Sleeping passes ticks) next m (none, same) = subst (λ (q : Phase). own_ticks n q ≤ 0) (sym same) (omega arith)
  no_more (Submitting passes ticks) next m (pumped, same) = subst (λ (q : Phase). own_ticks n q ≤ 0) (sym same) (pump passes)
    where
      pump : (left_passes : ℕ) → own_ticks n (after_pump left_passes ticks) ≤ 0
      pump zero = omega arith
      pump (suc left_passes) = omega arith
  no_more (Moving passes ticks) next m (still, same) = subst (λ (q : Phase). own_ticks n q ≤ 0) (sym same) (omega arith)
  no_more (Moved b passes ticks) next m (still, same) = subst (λ (q : Phase). own_ticks n q ≤ 0) (sym same) (omega arith)
  no_more here next m turns = absurd turns

  -- the wait then
  pub record WaitThen (left : ℕ) (here next : Phase) (m : Machine) (event : Event) : Type 0 where
    pub classes : (node_of (happens m event).host.state n).classes ≡ (node_of m.host.state n).classes
    pub once : own_ticks n next ≤ 1
    pub ran : (node_of (happens m event).host.state n).series ≡ series.Running → (node_of m.host.state n).series ≡ series.Running
    pub keeps : (node_of (happens m event).host.state n).series ≡ series.Running → (begun_of (node_of (happens m event).host.state n).book ≡ begun_of (node_of m.host.state n).book) × IsFar n (most_then left here) next (happens m event)

  -- by what the host has then, with no more ticks of both
  by_node : (left then_left : ℕ) (here next : Phase) (m : Machine) (event : Event) → most_then left here ≡ then_left → then_left + own_ticks n next ≤ left + own_ticks n here → then_left ≤ 23 → own_ticks n next ≤ 1 → IsFar n left here m
      → NodeThen n m.host.state (happens m event).host.state → WaitThen left here next m event
  by_node left then_left here next m event is less few once far node = record {
    classes = node.classes;
    once = once;
    ran = node.running;
    keeps = λ run.
        let k = node.keeps run in (
          k.0,
          subst (λ (l : ℕ). IsFar n l next (happens m event)) (sym is)
              (as_far (node_of (happens m event).host.state n).attempt_wait (node_of m.host.state n).attempt_wait left then_left (own_ticks n here) (own_ticks n next) less few once k.1 far),
        );
  }

  outside_node : (m : Machine) (event : OuterEvent) → NodeThen n m.host.state (happens m (Outside_does event)).host.state
  outside_node m event = same_node n m.host.state (happens m (Outside_does event)).host.state (outside_host m event)

  does_node : (m : Machine) (event : HostEvent) → length m.host.state.nodes ≡ 233 → IsBeside n m.host.state event → NodeThen n m.host.state (happens m (Host_does event)).host.state
  does_node m event places beside = subst (NodeThen n m.host.state) (sym (host_then m event)) (beside_node n below m.host.state event places beside)

  decoder_node : (m : Machine) → NodeThen n m.host.state (happens m Decoder_ticks).host.state
  unfolding happens
  decoder_node m = same_node n m.host.state (happens m Decoder_ticks).host.state refl

  effect_node : (m : Machine) (event : Event) → IsEffect event → length m.host.state.nodes ≡ 233 → NodeThen n m.host.state (happens m event).host.state
  effect_node m (Outside_does (Wakes_device node route)) is places = outside_node m (Wakes_device node route)
  effect_node m (Outside_does (Shows node)) is places = outside_node m (Shows node)
  effect_node m (Outside_does (Cuts size)) is places = outside_node m (Cuts size)
  effect_node m (Host_does (Accepts order carriage)) is places = does_node m (Accepts order carriage) places tt
  effect_node m (Refuses of refusal) is places = same_node n m.host.state (happens m (Refuses of refusal)).host.state (refuses_host m of refusal)
  effect_node m (Shows_values node) is places = same_node n m.host.state (happens m (Shows_values node)).host.state (values_host m node)
  effect_node m (Outside_does event) is places = absurd is
  effect_node m (Host_does event) is places = absurd is
  effect_node m event is places = absurd is

  -- an event of its tick
  more_ticks : (x own : ℕ) → own ≤ x + own
  more_ticks x own = omega arith

  own_at : (left : ℕ) (events : List HostEvent) (ticks : ℕ) (m : Machine) → length m.host.state.nodes ≡ 233 → own_ticks n (Ticking_host (Node_ticks n ∷ events) ticks) ≤ 1 → IsFar n left (Ticking_host (Node_ticks n ∷ events) ticks) m
      → WaitThen left (Ticking_host (Node_ticks n ∷ events) ticks) (Ticking_host events ticks) m (Host_does (Node_ticks n))
  unfolding happens
  own_at left events ticks m places once far =
      let wait : (node_of m.host.state n).attempt_wait ≢ 1 = not_last (node_of m.host.state n).attempt_wait left (own_ticks n (Ticking_host (Node_ticks n ∷ events) ticks)) far in
      let t : TickOf (node_of m.host.state n) (node_of (after m.host.state (Node_ticks n)) n) = own_tick n below m.host.state places wait in
      let one : ticks_of n (Node_ticks n ∷ events) ≡ 1 + ticks_of n events = ap (λ (b : Bool). (if b then 1 else 0) + ticks_of n events) (eq-eqb n n refl) in
      record {
        classes = t.same;
        once = omega (arith, once, one);
        ran = t.running;
        keeps = λ run. (
          ap (λ (cs : List ℕ). length cs) (t.commands_are run),
          ticked_far (node_of (after m.host.state (Node_ticks n)) n).attempt_wait (node_of m.host.state n).attempt_wait left (ticks_of n (Node_ticks n ∷ events)) (ticks_of n events) t.less one far,
        );
      }

  tick_then : (left : ℕ) (first : HostEvent) (events : List HostEvent) (ticks : ℕ) (m : Machine) → IsOfTick first → m.host.state.side.turn ≡ no_turn → length m.host.state.nodes ≡ 233 → left ≤ 23 → own_ticks n (Ticking_host (first ∷ events) ticks) ≤ 1
      → IsFar n left (Ticking_host (first ∷ events) ticks) m → WaitThen left (Ticking_host (first ∷ events) ticks) (Ticking_host events ticks) m (Host_does first)
  tick_then left Line_ticks events ticks m is turn places few once far =
      by_node left left (Ticking_host (Line_ticks ∷ events) ticks) (Ticking_host events ticks) m (Host_does Line_ticks) refl (omega arith) few once far (does_node m Line_ticks places turn)
  tick_then left (Requests_do event moment) events ticks m is turn places few once far =
      by_node left left (Ticking_host (Requests_do event moment ∷ events) ticks) (Ticking_host events ticks) m (Host_does (Requests_do event moment)) refl (omega arith) few once far (does_node m (Requests_do event moment) places tt)
  tick_then left (Node_ticks k) events ticks m is turn places few once far = by (either_node n k)
    where
      by : (k ≡ n) ⊎ (k ≢ n) → WaitThen left (Ticking_host (Node_ticks k ∷ events) ticks) (Ticking_host events ticks) m (Host_does (Node_ticks k))
      by (inl same) =
          subst (λ (j : ℕ). WaitThen left (Ticking_host (Node_ticks j ∷ events) ticks) (Ticking_host events ticks) m (Host_does (Node_ticks j))) (sym same)
          (own_at left events ticks m places (subst (λ (j : ℕ). own_ticks n (Ticking_host (Node_ticks j ∷ events) ticks) ≤ 1) same once) (subst (λ (j : ℕ). IsFar n left (Ticking_host (Node_ticks j ∷ events) ticks) m) same far))
      by (inr other) =
          let less : ticks_of n events ≤ ticks_of n (Node_ticks k ∷ events) = more_ticks (if k == n then 1 else 0) (ticks_of n events) in
          by_node left left (Ticking_host (Node_ticks k ∷ events) ticks) (Ticking_host events ticks) m (Host_does (Node_ticks k)) refl (omega (arith, less)) few (omega (arith, less, once)) far (does_node m (Node_ticks k) places other)
  tick_then left event events ticks m is turn places few once far = absurd is

  -- the host judges
  judged_node : (b : Bool) (passes : ℕ) (m : Machine) (rest : Rest) (items : List Item) (events : List HostEvent) → May m (Host_takes (length m.outside.outer.to_host.bytes) rest items events) → IsDone m ⊎ HasMoved b passes m → TieOf true m [] → length m.host.state.nodes ≡ 233
      → NodeThen n m.host.state (happens m (Host_takes (length m.outside.outer.to_host.bytes) rest items events)).host.state
  judged_node b passes m rest items events may at tie places = by at
    where
      idles : (host turn : Turn) (frames : List FrameParts) → OnLine [] [] host turn frames m → NodeThen n m.host.state (happens m (Host_takes (length m.outside.outer.to_host.bytes) rest items events)).host.state
      idles host turn frames line = same_node n m.host.state (happens m (Host_takes (length m.outside.outer.to_host.bytes) rest items events)).host.state (host_idles m host turn frames rest items events line may).2

      of : (down : List LineUnit) (has : HasMoved b passes m) → OnLine [] down has.host has.turn has.frames m → AllByRecursion IsPlain down → length down ≤ 99 → unheard m.outside.outer ≡ frames_in down ++ m.outside.outer.chip.state.port.waiting
          → NodeThen n m.host.state (happens m (Host_takes (length m.outside.outer.to_host.bytes) rest items events)).host.state
      of [] has line plain few frames_are = idles has.host has.turn has.frames line
      of (unit ∷ units) has line plain few frames_are =
          let turned = host_turns airs m unit units has.host has.turn has.frames rest items events plain (omega (arith, few)) line may in
          let judged = judged_are m (length m.outside.outer.to_host.bytes) rest items events (unit ∷ units) may turned.2 in
          let tied = subst (λ (fs : List FrameParts). TieBy true (kept m.host.state) m.outside.outer.chip.state fs []) frames_are tie in
          let told = units_told these n 0 [] below alone.only m.outside.outer.chip.state m.host.state (unit ∷ units) m.outside.outer.chip.state.port.waiting events plain judged tied in
          subst (NodeThen n m.host.state) (sym turned.3) (told_node n below m.host.state events told places).then_is

      by : IsDone m ⊎ HasMoved b passes m → NodeThen n m.host.state (happens m (Host_takes (length m.outside.outer.to_host.bytes) rest items events)).host.state
      by (inl done) = idles no_turn no_turn [] done.line
      by (inr has) = of has.down has has.line has.plain has.few (moved_frames b passes m has)

  -- each
  as_wait : (left : ℕ) (here next to : Phase) (m : Machine) (event is : Event) → event ≡ is → next ≡ to → WaitThen left here to m is → WaitThen left here next m event
  as_wait left here next to m event is event_is next_is wait = subst (λ (e : Event). WaitThen left here next m e) (sym event_is) (subst (λ (q : Phase). WaitThen left here q m is) (sym next_is) wait)

  -- where the host submits, that is not beside the attempt
  abbrev pub SubmitsBeside : Phase → Machine → Event → Type 0
  SubmitsBeside (Submitting passes ticks) m event = (asked : HostEvent) → event ≡ Host_does asked → IsBeside n m.host.state asked
  SubmitsBeside here m event = Unit {0}

  -- what is known beside
  pub record FarBeside (here : Phase) (m : Machine) (event : Event) : Type 0 where
    pub may : May m event
    pub line : LineAt here m
    pub awaits : AwaitsAt here m
    pub routed : IsRouted m.outside.outer
    pub tie : TieAt here m
    pub places : length m.host.state.nodes ≡ 233
    pub wants : (k : ℕ) → first_wanting m.host.state.nodes ≡ Some k → ⊥
    pub submits : SubmitsBeside here m event

  pub goes_far : (left : ℕ) (here next : Phase) (m : Machine) (event : Event) → Goes here m event next → FarBeside here m event → HasLeft left here → left ≤ 23 → own_ticks n here ≤ 1 → IsFar n left here m → WaitThen left here next m event
  goes_far left (Said_line line) next m event (is, to) a more few once far =
      as_wait left (Said_line line) next (Begun line) m event _ is to (by_node left left (Said_line line) (Begun line) m (Outside_does Begins_line) refl (omega arith) few (omega arith) far (outside_node m Begins_line))
  goes_far left (Doing line (first ∷ es)) next m event (is, to) a more few once far =
      as_wait left (Doing line (first ∷ es)) next (Doing line es) m event first is to
      (by_node left left (Doing line (first ∷ es)) (Doing line es) m first refl (omega arith) few (omega arith) far (effect_node m first a.line.0.0 a.places))
  goes_far left (To_tick (suc ticks)) next m event (is, to) a more few once far =
      as_wait left (To_tick (suc ticks)) next (Ticked ticks) m event _ is to
      (by_node left (left - 1) (To_tick (suc ticks)) (Ticked ticks) m (Outside_does Begins_tick) refl (omega (arith, more)) (omega (arith, few)) (omega arith) far (outside_node m Begins_tick))
  goes_far left (Arriving (suc frames) ticks) next m event (drawn, route, is, to) a more few once far =
      as_wait left (Arriving (suc frames) ticks) next (Arriving frames ticks) m event _ is to
      (by_node left left (Arriving (suc frames) ticks) (Arriving frames ticks) m (Outside_does (Arrives drawn route)) refl (omega arith) few (omega arith) far (outside_node m (Arrives drawn route)))
  goes_far left (Giving (suc results) ticks) next m event (route, is, to) a more few once far = absurd (none_given m results a.routed a.awaits.many)
  goes_far left (Ticking_devices place (suc count) ticks) next m event (drawn, route, is, to) a more few once far =
      as_wait left (Ticking_devices place (suc count) ticks) next (Ticking_devices (place + 1) count ticks) m event _ is to
      (by_node left left (Ticking_devices place (suc count) ticks) (Ticking_devices (place + 1) count ticks) m (Outside_does (Device_ticks place drawn route)) refl (omega arith) few (omega arith) far (outside_node m (Device_ticks place drawn route)))
  goes_far left (Ticking_chip ticks) next m event (is, to) a more few once far =
      as_wait left (Ticking_chip ticks) next (Ticking_decoder ticks) m event _ is to
      (by_node left left (Ticking_chip ticks) (Ticking_decoder ticks) m (Outside_does Chip_ticks) refl (omega arith) few (omega arith) far (outside_node m Chip_ticks))
  goes_far left (Ticking_decoder ticks) next m event (is, to) a more few once far =
      let most : own_ticks n (Ticking_host (tick_events m.host.state) ticks) ≤ 1 = ticks_once n m.host.state in
      as_wait left (Ticking_decoder ticks) next (Ticking_host (tick_events m.host.state) ticks) m event _ is to
      (by_node left left (Ticking_decoder ticks) (Ticking_host (tick_events m.host.state) ticks) m Decoder_ticks refl (omega (arith, most)) few most far (decoder_node m))
  goes_far left (Ticking_host (first ∷ events) ticks) next m event (is, to) a more few once far =
      as_wait left (Ticking_host (first ∷ events) ticks) next (Ticking_host events ticks) m event _ is to
      (tick_then left first events ticks m a.line.0.0 a.line.1.at_host.turn_is a.places few once far)
  goes_far left (Sleeping passes ticks) next m event (k, wants, is, to) a more few once far = absurd (a.wants k wants)
  goes_far left (Submitting passes ticks) next m event (asked, next_is, is, to) a more few once far =
      as_wait left (Submitting passes ticks) next (Submitting passes ticks) m event _ is to
      (by_node left left (Submitting passes ticks) (Submitting passes ticks) m (Host_does asked) refl (omega arith) few (omega arith) far (does_node m asked a.places (a.submits asked is)))
  goes_far left (Moving passes ticks) next m event (rest, ways, is, to) a more few once far =
      let takes : OuterEvent = Chip_takes (length m.outside.outer.to_chip.bytes) rest ways in
      as_wait left (Moving passes ticks) next (Moved true passes ticks) m event _ is to
      (by_node left left (Moving passes ticks) (Moved true passes ticks) m (Outside_does takes) refl (omega arith) few (omega arith) far (outside_node m takes))
  goes_far left (Moved b passes ticks) next m event (rest, items, done, is, to) a more few once far =
      as_wait left (Moved b passes ticks) next (Sleeping passes ticks) m event _ is to
      (by_node left left (Moved b passes ticks) (Sleeping passes ticks) m (Host_takes (length m.outside.outer.to_host.bytes) rest items done) refl (omega arith) few (omega arith) far
      (judged_node b passes m rest items done (subst (May m) is a.may) a.line a.tie a.places))
  goes_far left here next m event goes a more few once far = absurd goes
