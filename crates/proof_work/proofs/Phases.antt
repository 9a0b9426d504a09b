-- What is known of the host's work goes on from phase to phase of a line.
use Rattle.std.proofs.Common.{◌≡◌, ℕ, zero, suc, ◌+◌, true, false, List, [], ◌∷◌, ◌++◌, length, sym, subst, inl, inr}
use Rattle.std.specs.Prelude.{IsSome}
use Rattle.zw_text.specs.declared.entry.Entry.{Entry}
use Rattle.law_time.specs.law_transcript.Lists.{EachAfter}
use Rattle.proof_walk.specs.host_model.Events.{HostEvent}
use Rattle.proof_walk.specs.host_model.After.{is_full}
use Rattle.proof_walk.specs.host_model.Pumping.{no_more_event, IsNext}
use Rattle.proof_walk.specs.host_model.Ticking.{tick_events}
use Rattle.proof_walk.specs.outside_model.Events.{OuterEvent, Begins_line, Begins_tick, Arrives, Gives, Device_ticks, Chip_ticks, Chip_takes}
use Rattle.proof_walk.specs.world_model.State.{Machine}
use Rattle.proof_walk.specs.world_model.Events.{Event, Outside_does, Host_does, Host_takes, Decoder_ticks, Refuses, Shows_values, Restarts, happens, entries, May}
use Rattle.proof_walk.specs.Phases.{Phase, Between, Said_line, Begun, Doing, To_tick, Ticked, Arriving, Giving, Ticking_devices, Ticking_chip, Ticking_decoder, Ticking_host, Sleeping, Submitting, Moving, Moved, Turns, Goes, after_pump, passes_after}
use Rattle.proof_walk.specs.Walk.{Walk}
use Rattle.proof_walk.proofs.Stepping.{Steps, event_then}
use Rattle.proof_work.specs.Rests.{NoneWants}
use Rattle.proof_work.specs.Machines.{DoesWell}
use Rattle.proof_work.specs.Phases.{AsksNothing, InOrder, InOrderTended, KnowsWork}
use Rattle.proof_work.proofs.Doing.{tick_done}
use Rattle.proof_work.proofs.Hosts.{Keeps}
use Rattle.proof_work.proofs.Pumping.{next_done, next_leaves, no_more_done, none_wants, tended}
use Rattle.proof_work.proofs.Machines.{OpensWell, Tells, effect, machine_kept}
use Rattle.proof_world.proofs.Runs.{still_told as tells_more}

-- nothing is asked
nothing_asked : (past : List Entry) (entries : List Entry) → EachAfter AsksNothing past entries
nothing_asked past [] = tt
nothing_asked past (entry ∷ more) = (tt, nothing_asked (past ++ entry ∷ []) more)

-- ---- one event

tells_on : (m : Machine) (event : Event) → IsSome m.records → IsSome (happens m event).records
unfolding happens
tells_on m (Outside_does event) tells = tells
tells_on m (Host_does event) tells = tells_more m.records _ tells
tells_on m (Host_takes count rest items events) tells = tells_more m.records _ tells
tells_on m Decoder_ticks tells = tells
tells_on m (Refuses line refusal) tells = tells
tells_on m (Shows_values node) tells = tells
tells_on m (Restarts state) tells = tells

tells_at : (m : Machine) (event : Event) → IsSome m.records → Tells m event
tells_at m (Restarts state) tells = tells
tells_at m event tells = tt

-- what happens outside leaves the host alone
outside_tended : (m : Machine) (event : OuterEvent) → InOrderTended m → InOrderTended (happens m (Outside_does event))
unfolding happens
outside_tended m event known = (record { work = known.0.work; tells = known.0.tells }, known.1)

module _ (keeps : Keeps) (opens : OpensWell) where
  in_order : (m : Machine) (event : Event) → May m event → DoesWell m event → InOrder m → InOrder (happens m event)
  in_order m event may does known = record {
    work = machine_kept keeps opens m event known.work may does (tells_at m event known.tells);
    tells = tells_on m event known.tells;
  }

  abbrev Step : Phase → List Entry → Machine → Event → Type 0
  Step = Steps AsksNothing KnowsWork

  -- nothing is asked for, and this is known then
  leads : (next : Phase) (past : List Entry) (m : Machine) (event : Event) → KnowsWork next (past ++ entries m event) (happens m event) → Step next past m event
  leads next past m event known = (nothing_asked past (entries m event), known)

  outside_leads : (next : Phase) (past : List Entry) (m : Machine) (event : OuterEvent) → (InOrderTended (happens m (Outside_does event)) → KnowsWork next (past ++ entries m (Outside_does event)) (happens m (Outside_does event)))
      → InOrderTended m → Step next past m (Outside_does event)
  outside_leads next past m event then known = leads next past m (Outside_does event) (then (outside_tended m event known))

  -- the host submits what is next
  submits : (m : Machine) (asked : HostEvent) → May m (Host_does asked) → IsNext m.host.state asked → InOrder m → NoneWants m.host.state.nodes
      → InOrder (happens m (Host_does asked)) × NoneWants (happens m (Host_does asked)).host.state.nodes
  unfolding happens
  submits m asked may next known none = (in_order m (Host_does asked) may (next_done m.host.state asked next) known, next_leaves m.host.state asked next none)

  decoder_ticked : (m : Machine) → InOrder m → InOrder (happens m Decoder_ticks)
  unfolding happens
  decoder_ticked m known = record { work = known.work; tells = known.tells }

  -- ---- events where they may come

  as_may : (m : Machine) (event is : Event) → event ≡ is → May m event → May m is
  as_may m event is same may = subst (λ (e : Event). May m e) same may

  event_known : (here next : Phase) (past : List Entry) (m : Machine) (event : Event) → Goes here m event next → May m event → KnowsWork here past m → Step next past m event
  event_known (Said_line line) next past m event (is, to) may known =
      event_then AsksNothing KnowsWork next (Begun line) event (Outside_does Begins_line) past m is to (outside_leads (Begun line) past m Begins_line (λ k. k) known)
  event_known (Doing line (first ∷ left)) next past m event (is, to) may known =
      event_then AsksNothing KnowsWork next (Doing line left) event first past m is to
      (leads (Doing line left) past m first (in_order m first (as_may m event first is may) known.1.0 known.0, known.1.1))
  event_known (To_tick (suc ticks)) next past m event (is, to) may known =
      event_then AsksNothing KnowsWork next (Ticked ticks) event (Outside_does Begins_tick) past m is to (outside_leads (Ticked ticks) past m Begins_tick (λ k. k) known)
  event_known (Arriving (suc frames) ticks) next past m event (drawn, route, is, to) may known =
      event_then AsksNothing KnowsWork next (Arriving frames ticks) event (Outside_does (Arrives drawn route)) past m is to
      (outside_leads (Arriving frames ticks) past m (Arrives drawn route) (λ k. k) known)
  event_known (Giving (suc results) ticks) next past m event (route, is, to) may known =
      event_then AsksNothing KnowsWork next (Giving results ticks) event (Outside_does (Gives route)) past m is to (outside_leads (Giving results ticks) past m (Gives route) (λ k. k) known)
  event_known (Ticking_devices place (suc count) ticks) next past m event (drawn, route, is, to) may known =
      event_then AsksNothing KnowsWork next (Ticking_devices (place + 1) count ticks) event (Outside_does (Device_ticks place drawn route)) past m is to
      (outside_leads (Ticking_devices (place + 1) count ticks) past m (Device_ticks place drawn route) (λ k. k) known)
  event_known (Ticking_chip ticks) next past m event (is, to) may known =
      event_then AsksNothing KnowsWork next (Ticking_decoder ticks) event (Outside_does Chip_ticks) past m is to (outside_leads (Ticking_decoder ticks) past m Chip_ticks (λ k. k) known)
  event_known (Ticking_decoder ticks) next past m event (is, to) may known =
      event_then AsksNothing KnowsWork next (Ticking_host (tick_events m.host.state) ticks) event Decoder_ticks past m is to
      (leads (Ticking_host (tick_events m.host.state) ticks) past m Decoder_ticks (decoder_ticked m known.0, tick_done m.host.state))
  event_known (Ticking_host (first ∷ events) ticks) next past m event (is, to) may known =
      event_then AsksNothing KnowsWork next (Ticking_host events ticks) event (Host_does first) past m is to
      (leads (Ticking_host events ticks) past m (Host_does first) (in_order m (Host_does first) (as_may m event (Host_does first) is may) known.1.0 known.0, known.1.1))
  event_known (Sleeping passes ticks) next past m event (node, least, is, to) may known =
      let told = Host_does (no_more_event m.host.state node) in
      event_then AsksNothing KnowsWork next (Sleeping passes ticks) event told past m is to
      (leads (Sleeping passes ticks) past m told (in_order m told (as_may m event told is may) (no_more_done node (is_full m.host.state)) known))
  event_known (Submitting passes ticks) next past m event (asked, is_next, is, to) may known =
      event_then AsksNothing KnowsWork next (Submitting passes ticks) event (Host_does asked) past m is to
      (leads (Submitting passes ticks) past m (Host_does asked) (submits m asked (as_may m event (Host_does asked) is may) is_next known.0 known.1))
  event_known (Moving passes ticks) next past m event (rest, ways, is, to) may known =
      let takes = Chip_takes (length m.outside.outer.to_chip.bytes) rest ways in
      event_then AsksNothing KnowsWork next (Moved true passes ticks) event (Outside_does takes) past m is to (outside_leads (Moved true passes ticks) past m takes (λ k. k) known)
  event_known (Moved has_moved passes ticks) next past m event (rest, items, done, is, to) may known =
      let takes = Host_takes (length m.outside.outer.to_host.bytes) rest items done in
      event_then AsksNothing KnowsWork next (Sleeping passes ticks) event takes past m is to
      (leads (Sleeping passes ticks) past m takes (in_order m takes (as_may m event takes is may) tt known.0))
  event_known here next past m event goes may known = absurd goes

  -- ---- parts that begin

  to : (is next : Phase) (past : List Entry) (m : Machine) → next ≡ is → KnowsWork is past m → KnowsWork next past m
  to is next past m same known = subst (λ (q : Phase). KnowsWork q past m) (sym same) known

  pumped_known : (passes ticks : ℕ) (past : List Entry) (m : Machine) → InOrderTended m → KnowsWork (after_pump passes ticks) past m
  pumped_known zero ticks past m known = known
  pumped_known (suc passes) ticks past m known = known

  turn_known : (here next : Phase) (past : List Entry) (m : Machine) → Turns here m next → KnowsWork here past m → KnowsWork next past m
  turn_known (Begun line) next past m (inl (events, is, same)) known = to (Doing line events) next past m same (known.0, effect line m events is)
  turn_known (Begun line) next past m (inr (ticks, is, same)) known = to (To_tick ticks) next past m same known
  turn_known (Doing line []) next past m same known = to (Sleeping 64 0) next past m same known.0
  turn_known (To_tick zero) next past m same known = to Between next past m same known
  turn_known (Ticked ticks) next past m same known = to (Arriving _ ticks) next past m same known
  turn_known (Arriving zero ticks) next past m same known = to (Giving _ ticks) next past m same known
  turn_known (Giving zero ticks) next past m same known = to (Ticking_devices 0 _ ticks) next past m same known
  turn_known (Ticking_devices place zero ticks) next past m same known = to (Ticking_chip ticks) next past m same known
  turn_known (Ticking_host [] ticks) next past m same known = to (Sleeping 64 ticks) next past m same known.0
  turn_known (Sleeping passes ticks) next past m (none, same) known = to (Submitting passes ticks) next past m same (known, none_wants m.host.state.nodes none)
  turn_known (Submitting passes ticks) next past m (pumped, same) known =
      to (after_pump passes ticks) next past m same (pumped_known passes ticks past m (known.0, tended m.host.state known.0.work known.1 pumped))
  turn_known (Moving passes ticks) next past m (still, same) known = to (Moved false passes ticks) next past m same known
  turn_known (Moved has_moved passes ticks) next past m (still, same) known = to (Sleeping (passes_after has_moved passes) ticks) next past m same known.0
  turn_known here next past m turns known = absurd turns

  pub work_walk : Walk AsksNothing KnowsWork
  work_walk = record { said = λ past m words line read known. (tt, known); event = event_known; turn = turn_known }
