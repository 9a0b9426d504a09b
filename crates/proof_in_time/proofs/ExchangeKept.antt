-- From phase to phase, each event but where a frame arrives, where the host submits, and where it judges leaves what is on its way between the host and a lock alone.
use Rattle.std.proofs.Common.{◌≡◌, ◌≤◌, ◌<◌, ℕ, zero, suc, ◌+◌, ◌-◌, inl, inr, Bool, true, false, List, [], ◌∷◌, length, refl, sym, ap, subst, arith}
use Rattle.std.specs.Prelude.{◌⊎◌}
use Rattle.zw_text.specs.declared.line.Line.{Line}
use Rattle.serial_frame.specs.Frame.{FrameParts}
use Rattle.chip_functions.specs.Field.{IsNode}
use Rattle.mesh_sim.specs.Air.{AirState}
use Rattle.host_model.specs.Events.{HostEvent}
use Rattle.host_model.specs.Pumping.{no_more_event}
use Rattle.outside_model.specs.Events.{Begins_line, Begins_tick, Chip_takes, Chip_ticks, Device_ticks, outcome}
use Rattle.world_model.specs.Events.{Event, Outside_does, Host_does, Decoder_ticks, happens}
use Rattle.world_model.specs.State.{Machine}
use Rattle.proof_answered.specs.proof_calm.proof_traffic.OnAir.{on_air}
use Rattle.proof_answered.specs.proof_calm.proof_traffic.OutsideTraffic.{outward}
use Rattle.proof_answered.specs.proof_calm.proof_work.proof_walk.Phases.{Phase, Between, Said_line, Begun, Doing, To_tick, Ticked, Arriving, Giving, Ticking_devices, Ticking_chip, Ticking_decoder, Ticking_host, Sleeping, Submitting, Moving, Moved, Goes, Turns, passes_after}
use Rattle.proof_answered.specs.proof_calm.Awaited.{Awaits, AwaitsAt}
use Rattle.proof_answered.specs.proof_calm.Calls.{answer_taken}
use Rattle.proof_answered.specs.proof_calm.Resting.{LineAt}
use Rattle.proof_answered.specs.proof_calm.Tied.{on_line, unheard}
use Rattle.proof_answered.specs.Sleepers.{IsAlone}
use Rattle.proof_answered.proofs.proof_traffic_Parts.{Airs}
use Rattle.proof_answered.proofs.Calm.{does_calm}
use Rattle.proof_answered.proofs.Unheard.{chip_part_says, counts_says, decoder_says, device_says, does_says, effect_says, line_says, tick_says}
use Rattle.proof_answered.proofs.Walking.{none_given}
use Rattle.proof_in_time.specs.Coming.{one_later, ticks_left}
use Rattle.proof_in_time.specs.Exchange.{BringsNone, IsSilentIn}
use Rattle.proof_in_time.proofs.Bounded.{counted_air, still_fits}
use Rattle.proof_in_time.proofs.Carried.{many_on_air}
use Rattle.proof_in_time.proofs.ExchangeAlone.{LeavesAlone}
use Rattle.proof_in_time.proofs.ExchangeWaysAround.{AroundLock, effect_air, moves_air, ticks_air}
use Rattle.proof_in_time.proofs.Lasting.{most_then, never_sooner, sooner}
use Rattle.proof_in_time.proofs.PartsCarried.{Wraps, itself_wraps, wraps_pile}

-- in a tick that begins, one is to come
abbrev pub HasLeft : ℕ → Phase → Type 0
HasLeft left (To_tick (suc ticks)) = 1 ≤ left
HasLeft left here = Unit {0}

-- as the chip takes its bytes, it has none of the host, or one of the host is on the air; and the others are left out
abbrev pub LeavesWays : Phase → Machine → Type 0
LeavesWays (Arriving (suc frames) ticks) m = ⊥
LeavesWays (Submitting passes ticks) m = ⊥
LeavesWays (Moving passes ticks) m = (on_line m.host.state.side.turn ≡ []) ⊎ (1 ≤ outward (on_air m.outside.outer.air.frames))
LeavesWays (Moved has_moved passes ticks) m = ⊥
LeavesWays here m = Unit {0}

-- by the event that it is, to the phase that it leads to
pub as_it_is : (these : List Bool) (n : ℕ) (R : Phase → Event → Type 0) (here next to : Phase) (m : Machine) (event is : Event) → event ≡ is → next ≡ to → (AroundLock these n here to m is → R to is) → AroundLock these n here next m event → R next event
as_it_is these n R here next to m event is event_is next_is leads a =
    subst (λ (e : Event). R next e) (sym event_is) (subst (λ (q : Phase). R q is) (sym next_is) (leads (subst (λ (q : Phase). AroundLock these n here q m is) next_is (subst (λ (e : Event). AroundLock these n here next m e) event_is a))))

pub answer_none : (n : ℕ) → BringsNone n answer_taken
answer_none n payload e = let no = ap (λ (f : FrameParts). f.kind) e in absurd cc

module _ (airs : Airs) (these : List Bool) (many : length these ≡ 233) (n : ℕ) (alone : IsAlone these n) (is_node : IsNode n) (left : ℕ) where
  stays : (here next : Phase) (m later : Machine) → on_air later.outside.outer.air.frames ≡ on_air m.outside.outer.air.frames → Wraps (BringsNone n) (unheard m.outside.outer) (unheard later.outside.outer) → (IsSilentIn here m → IsSilentIn next later)
      → ((place : ℕ) → ticks_left next + one_later next place ≤ ticks_left here + one_later here place) → ticks_left next ≤ ticks_left here → LeavesAlone n left left here next m later
  stays here next m later air told silent joint alone_too = record { air = air; told = told; silent = silent; fits = still_fits n (many_on_air m) left here next joint alone_too }

  -- ---- at an event

  host_stays : (here next : Phase) (m : Machine) (event : HostEvent) → (IsSilentIn here m → IsSilentIn next (happens m (Host_does event))) → ((place : ℕ) → ticks_left next + one_later next place ≤ ticks_left here + one_later here place) → ticks_left next ≤ ticks_left here
      → LeavesAlone n left left here next m (happens m (Host_does event))
  host_stays here next m event silent joint alone_too =
      stays here next m (happens m (Host_does event)) (does_calm airs m event).on (does_says (BringsNone n) (Wraps (BringsNone n) (unheard m.outside.outer)) (wraps_pile (BringsNone n) (unheard m.outside.outer)) airs m event (itself_wraps (BringsNone n) (unheard m.outside.outer))) silent joint alone_too

  line_stays : (line : Line) (m : Machine) → LeavesAlone n left left (Said_line line) (Begun line) m (happens m (Outside_does Begins_line))
  unfolding happens outcome
  line_stays line m =
      stays (Said_line line) (Begun line) m (happens m (Outside_does Begins_line)) refl (line_says (BringsNone n) (Wraps (BringsNone n) (unheard m.outside.outer)) (wraps_pile (BringsNone n) (unheard m.outside.outer)) m (itself_wraps (BringsNone n) (unheard m.outside.outer))) (λ s. tt) (λ place. omega arith) (omega arith)

  begins_stay : (ticks : ℕ) (m : Machine) → 1 ≤ left → LeavesAlone n left (left - 1) (To_tick (suc ticks)) (Ticked ticks) m (happens m (Outside_does Begins_tick))
  unfolding happens outcome
  begins_stay ticks m some = record {
    air = refl;
    told = tick_says (BringsNone n) (Wraps (BringsNone n) (unheard m.outside.outer)) (wraps_pile (BringsNone n) (unheard m.outside.outer)) m (itself_wraps (BringsNone n) (unheard m.outside.outer));
    silent = λ s. tt;
    fits = record { joint = λ place within_it. omega (arith, some); alone = omega (arith, some) };
  }

  decoder_stays : (ticks : ℕ) (events : List HostEvent) (m : Machine) → LeavesAlone n left left (Ticking_decoder ticks) (Ticking_host events ticks) m (happens m Decoder_ticks)
  unfolding happens
  decoder_stays ticks events m =
      stays (Ticking_decoder ticks) (Ticking_host events ticks) m (happens m Decoder_ticks) refl (decoder_says (BringsNone n) (Wraps (BringsNone n) (unheard m.outside.outer)) (wraps_pile (BringsNone n) (unheard m.outside.outer)) m (itself_wraps (BringsNone n) (unheard m.outside.outer))) (λ s. tt) (λ place. omega arith) (omega arith)

  abbrev LeavesBy : ℕ → Phase → Machine → Phase → Event → Type 0
  LeavesBy then_left here m next event = LeavesAlone n left then_left here next m (happens m event)

  pub event_leaves : (here next : Phase) (m : Machine) (event : Event) → Goes here m event next → LeavesWays here m → HasLeft left here → AroundLock these n here next m event → LeavesAlone n left (most_then left here) here next m (happens m event)
  event_leaves (Said_line line) next m event (is, to) leaves some = as_it_is these n (LeavesBy left (Said_line line) m) (Said_line line) next (Begun line) m event _ is to (λ a. line_stays line m)
  event_leaves (Doing line (first ∷ others)) next m event (is, to) leaves some =
      as_it_is these n (LeavesBy left (Doing line (first ∷ others)) m) (Doing line (first ∷ others)) next (Doing line others) m event first is to
      (λ a.
      stays (Doing line (first ∷ others)) (Doing line others) m (happens m first) (effect_air these n alone m a.step airs first a.line.0.0 a.lines.0)
      (effect_says (BringsNone n) (Wraps (BringsNone n) (unheard m.outside.outer)) (wraps_pile (BringsNone n) (unheard m.outside.outer)) airs m first a.line.0.0 (itself_wraps (BringsNone n) (unheard m.outside.outer))) (λ s. tt) (λ place. omega arith) (omega arith))
  event_leaves (To_tick (suc ticks)) next m event (is, to) leaves some = as_it_is these n (LeavesBy (left - 1) (To_tick (suc ticks)) m) (To_tick (suc ticks)) next (Ticked ticks) m event _ is to (λ a. begins_stay ticks m some)
  event_leaves (Arriving (suc frames) ticks) next m event goes leaves some = absurd leaves
  event_leaves (Giving (suc results) ticks) next m event (route, is, to) leaves some = λ a. absurd (none_given m results a.routed a.awaits.many)
  event_leaves (Ticking_devices place (suc count) ticks) next m event (drawn, route, is, to) leaves some =
      as_it_is these n (LeavesBy left (Ticking_devices place (suc count) ticks) m) (Ticking_devices place (suc count) ticks) next (Ticking_devices (place + 1) count ticks) m event _ is to
      (λ a.
      stays (Ticking_devices place (suc count) ticks) (Ticking_devices (place + 1) count ticks) m (happens m (Outside_does (Device_ticks place drawn route))) (ticks_air these n alone m a.step a.speak place drawn route)
      (device_says (BringsNone n) (Wraps (BringsNone n) (unheard m.outside.outer)) (wraps_pile (BringsNone n) (unheard m.outside.outer)) m place drawn route (itself_wraps (BringsNone n) (unheard m.outside.outer))) (λ s. tt) (λ at. omega arith) (omega arith))
  event_leaves (Ticking_chip ticks) next m event (is, to) leaves some =
      as_it_is these n (LeavesBy left (Ticking_chip ticks) m) (Ticking_chip ticks) next (Ticking_decoder ticks) m event _ is to
      (λ a.
      stays (Ticking_chip ticks) (Ticking_decoder ticks) m (happens m (Outside_does Chip_ticks)) (ap (λ (air : AirState). on_air air.frames) (counted_air m))
      (counts_says (BringsNone n) (Wraps (BringsNone n) (unheard m.outside.outer)) (wraps_pile (BringsNone n) (unheard m.outside.outer)) m a.line a.then_line (itself_wraps (BringsNone n) (unheard m.outside.outer))) (λ s. tt) (λ place. omega arith) (omega arith))
  event_leaves (Ticking_decoder ticks) next m event (is, to) leaves some = as_it_is these n (LeavesBy left (Ticking_decoder ticks) m) (Ticking_decoder ticks) next (Ticking_host _ ticks) m event _ is to (λ a. decoder_stays ticks _ m)
  event_leaves (Ticking_host (first ∷ events) ticks) next m event (is, to) leaves some =
      as_it_is these n (LeavesBy left (Ticking_host (first ∷ events) ticks) m) (Ticking_host (first ∷ events) ticks) next (Ticking_host events ticks) m event _ is to
      (λ a. host_stays (Ticking_host (first ∷ events) ticks) (Ticking_host events ticks) m first (λ s. tt) (λ place. omega arith) (omega arith))
  event_leaves (Sleeping passes ticks) next m event (k, wants, is, to) leaves some =
      as_it_is these n (LeavesBy left (Sleeping passes ticks) m) (Sleeping passes ticks) next (Sleeping passes ticks) m event _ is to
      (λ a. host_stays (Sleeping passes ticks) (Sleeping passes ticks) m (no_more_event m.host.state k) (λ s. tt) (λ place. omega arith) (omega arith))
  event_leaves (Submitting passes ticks) next m event goes leaves some = absurd leaves
  event_leaves (Moving passes ticks) next m event (rest, ways, is, to) leaves some =
      as_it_is these n (LeavesBy left (Moving passes ticks) m) (Moving passes ticks) next (Moved true passes ticks) m event _ is to
      (λ a.
      stays (Moving passes ticks) (Moved true passes ticks) m (happens m (Outside_does (Chip_takes (length m.outside.outer.to_chip.bytes) rest ways))) (moves_air airs these many n alone is_node passes ticks m rest ways a leaves)
      (chip_part_says (BringsNone n) (Wraps (BringsNone n) (unheard m.outside.outer)) (wraps_pile (BringsNone n) (unheard m.outside.outer)) (answer_none n) passes m rest ways a.may a.line a.room a.tie a.then_line (itself_wraps (BringsNone n) (unheard m.outside.outer))) (λ s. tt) (λ place. omega arith) (omega arith))
  event_leaves (Moved b passes ticks) next m event goes leaves some = absurd leaves
  event_leaves here next m event goes leaves some = absurd goes

  -- ---- and with no event

  -- but where a settling is over
  abbrev pub GoesOn : Phase → Type 0
  GoesOn (Submitting zero ticks) = ⊥
  GoesOn here = Unit {0}

  same_stays : (here next : Phase) (m : Machine) → (IsSilentIn here m → IsSilentIn next m) → ((place : ℕ) → ticks_left next + one_later next place ≤ ticks_left here + one_later here place) → ticks_left next ≤ ticks_left here → LeavesAlone n left left here next m m
  same_stays here next m silent joint alone_too = stays here next m m refl (itself_wraps (BringsNone n) (unheard m.outside.outer)) silent joint alone_too

  to_is : (here next to : Phase) (m : Machine) → next ≡ to → LeavesAlone n left left here to m m → LeavesAlone n left left here next m m
  to_is here next to m same leaves = subst (λ (q : Phase). LeavesAlone n left left here q m m) (sym same) leaves

  arriving_stays : (ticks : ℕ) (m : Machine) → Awaits m → LeavesAlone n left left (Ticked ticks) (Arriving (m.outside.outer.air.frames.sent - m.outside.outer.air.frames.landed) ticks) m m
  arriving_stays ticks m is = record {
    air = refl;
    told = itself_wraps (BringsNone n) (unheard m.outside.outer);
    silent = λ s. tt;
    fits = record {
      joint = λ place less.
          let soon = sooner place (m.outside.outer.air.frames.sent - m.outside.outer.air.frames.landed)
          (subst (λ (k : ℕ). place < k) (airs.count is.log (on_air m.outside.outer.air.frames) m.outside.outer.air.frames is.follows.fly) less) in
          omega (arith, soon);
      alone = omega arith;
    };
  }

  giving_stays : (results ticks : ℕ) (m : Machine) → LeavesAlone n left left (Arriving zero ticks) (Giving results ticks) m m
  giving_stays results ticks m = record {
    air = refl;
    told = itself_wraps (BringsNone n) (unheard m.outside.outer);
    silent = λ s. tt;
    fits = record { joint = λ place less. let late = never_sooner place in omega (arith, late); alone = omega arith };
  }

  -- as the host is to submit, nothing of it is on its way to the chip
  rests_silent : (passes ticks : ℕ) (m : Machine) → LineAt (Sleeping passes ticks) m → on_line m.host.state.side.turn ≡ []
  rests_silent passes ticks m (inl done) = ap on_line done.line.at_host.turn_is
  rests_silent passes ticks m (inr stands) = ap on_line stands.turn

  pub turn_leaves : (here next : Phase) (m : Machine) → Turns here m next → AwaitsAt here m → LineAt here m → GoesOn here → LeavesAlone n left left here next m m
  turn_leaves (Begun line) next m (inl (events, is, same)) awaits line_at on = to_is (Begun line) next (Doing line events) m same (same_stays (Begun line) (Doing line events) m (λ s. tt) (λ place. omega arith) (omega arith))
  turn_leaves (Begun line) next m (inr (ticks, is, same)) awaits line_at on = to_is (Begun line) next (To_tick ticks) m same (same_stays (Begun line) (To_tick ticks) m (λ s. tt) (λ place. omega arith) (omega arith))
  turn_leaves (Doing line []) next m same awaits line_at on = to_is (Doing line []) next (Sleeping 64 0) m same (same_stays (Doing line []) (Sleeping 64 0) m (λ s. tt) (λ place. omega arith) (omega arith))
  turn_leaves (To_tick zero) next m same awaits line_at on = to_is (To_tick zero) next Between m same (same_stays (To_tick zero) Between m (λ s. tt) (λ place. omega arith) (omega arith))
  turn_leaves (Ticked ticks) next m same awaits line_at on = to_is (Ticked ticks) next (Arriving _ ticks) m same (arriving_stays ticks m awaits)
  turn_leaves (Arriving zero ticks) next m same awaits line_at on = to_is (Arriving zero ticks) next (Giving _ ticks) m same (giving_stays _ ticks m)
  turn_leaves (Giving zero ticks) next m same awaits line_at on =
      to_is (Giving zero ticks) next (Ticking_devices 0 (length m.outside.devices) ticks) m same (same_stays (Giving zero ticks) (Ticking_devices 0 (length m.outside.devices) ticks) m (λ s. tt) (λ place. omega arith) (omega arith))
  turn_leaves (Ticking_devices place zero ticks) next m same awaits line_at on =
      to_is (Ticking_devices place zero ticks) next (Ticking_chip ticks) m same (same_stays (Ticking_devices place zero ticks) (Ticking_chip ticks) m (λ s. tt) (λ at. omega arith) (omega arith))
  turn_leaves (Ticking_host [] ticks) next m same awaits line_at on = to_is (Ticking_host [] ticks) next (Sleeping 64 ticks) m same (same_stays (Ticking_host [] ticks) (Sleeping 64 ticks) m (λ s. tt) (λ place. omega arith) (omega arith))
  turn_leaves (Sleeping passes ticks) next m (none, same) awaits line_at on =
      to_is (Sleeping passes ticks) next (Submitting passes ticks) m same (same_stays (Sleeping passes ticks) (Submitting passes ticks) m (λ s. rests_silent passes ticks m line_at) (λ place. omega arith) (omega arith))
  turn_leaves (Submitting zero ticks) next m (pumped, same) awaits line_at on = absurd on
  turn_leaves (Submitting (suc passes) ticks) next m (pumped, same) awaits line_at on =
      to_is (Submitting (suc passes) ticks) next (Moving passes ticks) m same (same_stays (Submitting (suc passes) ticks) (Moving passes ticks) m (λ s. s) (λ place. omega arith) (omega arith))
  turn_leaves (Moving passes ticks) next m (none, same) awaits line_at on = to_is (Moving passes ticks) next (Moved false passes ticks) m same (same_stays (Moving passes ticks) (Moved false passes ticks) m (λ s. tt) (λ place. omega arith) (omega arith))
  turn_leaves (Moved b passes ticks) next m (none, same) awaits line_at on =
      to_is (Moved b passes ticks) next (Sleeping (passes_after b passes) ticks) m same (same_stays (Moved b passes ticks) (Sleeping (passes_after b passes) ticks) m (λ s. tt) (λ place. omega arith) (omega arith))
  turn_leaves here next m turns awaits line_at on = absurd turns
