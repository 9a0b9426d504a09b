-- What is known of the line goes on from phase to phase of quiet lines and ticks.
use Rattle.std.proofs.Common.{◌≡◌, ◌≤◌, ℕ, zero, suc, ◌+◌, Bool, true, false, inl, inr, List, [], ◌∷◌, length, sym, ◌∙◌, subst, arith}
use Rattle.std.specs.Prelude.{◌⊎◌, Option, Some, None}
use Rattle.zw_text.specs.declared.entry.Entry.TheVariants as entry
use Rattle.serial_frame.specs.Stream.{Rest}
use Rattle.serial_frame.specs.declared.item.Item.{Item}
use Rattle.route_table.specs.declared.route.Route.{Route}
use Rattle.host_node.specs.State.{NodeState, wants_no_more}
use Rattle.host_node.specs.Search.{first_wanting}
use Rattle.host_node.specs.TableState.{node_of as node_among}
use Rattle.host_node.proofs.Searches.{what_is_least}
use Rattle.host_model.specs.State.{HostState, HostParts}
use Rattle.host_model.specs.Events.{HostEvent}
use Rattle.host_model.specs.After.{after as after_host}
use Rattle.host_model.specs.Pumping.{IsNext, IsPumped, no_more_event}
use Rattle.host_model.specs.Ticking.{tick_events}
use Rattle.outside_model.specs.State.{is_stalled}
use Rattle.outside_model.specs.Events.{Begins_line, Begins_tick, Arrives, Gives, Device_ticks, Chip_ticks, Chip_takes}
use Rattle.world_model.specs.State.{Machine}
use Rattle.world_model.specs.Events.{Event, Outside_does, Host_does, Host_takes, Decoder_ticks, happens, entries, May}
use Rattle.proof_work.specs.proof_walk.Phases.{Phase, Between, Said_line, Begun, Doing, To_tick, Ticked, Arriving, Giving, Ticking_devices, Ticking_chip, Ticking_decoder, Ticking_host, Sleeping, Submitting, Moving, Moved, Turns, Goes, IsStill, after_pump, passes_after}
use Rattle.proof_work.specs.proof_walk.Walk.{WalkWhere}
use Rattle.proof_waking.proofs.proof_traffic_Parts.{Airs}
use Rattle.proof_work.specs.Phases.{AsksNothing}
use Rattle.proof_work.specs.Rests.{NoneWants}
use Rattle.proof_calm.specs.Settling.{Line as TheLine, Free, Asks, Heard, Heard_asks, Sent, Sent_asks, IsLive, IsDone, HasMoved, passes_of, is_sending, IsServed}
use Rattle.proof_calm.specs.Resting.{Stands, CanMove, LineAt, KnowLine}
use Rattle.proof_calm.proofs.Unmarked.{nothing_asked}
use Rattle.proof_calm.proofs.Quiet.{quiet_both, said_quiet}
use Rattle.proof_calm.proofs.Submitting.{Mute}
use Rattle.proof_calm.proofs.Idle.{chip_idles, host_idles}
use Rattle.proof_calm.proofs.Parts.{chip_part, chip_still, host_part, host_still, never_still, none_next, mute_live, next_live}
use Rattle.proof_calm.proofs.Ticking.{tick_given, arrives_given, gives_given, device_given, chip_given, decoder_given, host_given, all_of_tick, no_more_mute, given_stands, rests_stand, quiet_effect, effect_rests, begins_rests}

-- what is proved of a pump: no node is left to be told that there is no more for it, nor comes to be by what is submitted
pub record Pumped : Type 0 where
  pub told : (nodes : List NodeState) → first_wanting nodes ≡ None → NoneWants nodes
  pub submits : (h : HostState) (event : HostEvent) → IsNext h event → NoneWants h.nodes → NoneWants (after_host h event).nodes

-- ---- where the host has pumped

none_to_tell : (nodes : List NodeState) (n : ℕ) → NoneWants nodes → first_wanting nodes ≡ Some n → ⊥
none_to_tell nodes n none wants =
    let first = what_is_least (λ node. wants_no_more (node_among nodes node)) 0 n wants in
    let to = first.to in
    absurd (let is : true ≡ false = sym first.is_one ∙ none n first.from (omega (arith, to)) in cc)

moves_not_stalled : (m : Machine) (bytes : List ℕ) → is_stalled m.outside.outer ≡ false → IsStill (is_stalled m.outside.outer) bytes → bytes ≡ []
moves_not_stalled m bytes moves (inl stalled) = absurd (let is : false ≡ true = sym moves ∙ stalled in cc)
moves_not_stalled m bytes moves (inr none) = none

-- what is done stays so where nothing moves
done_chip : (m : Machine) (rest : Rest) (ways : List (Item × Option Route)) → May m (Outside_does (Chip_takes (length m.outside.outer.to_chip.bytes) rest ways)) → IsDone m → IsDone (happens m (Outside_does (Chip_takes (length m.outside.outer.to_chip.bytes) rest ways)))
done_chip m rest ways may done =
    let idle = chip_idles m [] _ _ [] rest ways done.line may in
    record {
      line = idle.0;
      told = subst (λ (h : HostParts). NoneWants h.state.nodes) (sym idle.2) done.told;
      pumped = subst (λ (h : HostParts). IsPumped h.state) (sym idle.2) done.pumped;
    }

done_host : (m : Machine) (rest : Rest) (items : List Item) (events : List HostEvent) → May m (Host_takes (length m.outside.outer.to_host.bytes) rest items events) → IsDone m
    → IsDone (happens m (Host_takes (length m.outside.outer.to_host.bytes) rest items events))
done_host m rest items events may done =
    let idle = host_idles m _ _ [] rest items events done.line may in
    record {
      line = idle.0;
      told = subst (λ (h : HostState). NoneWants h.nodes) (sym idle.2) done.told;
      pumped = subst IsPumped (sym idle.2) done.pumped;
    }

-- ---- events

module _ (air : Airs) (pumps : Pumped) where
  -- the event is this one, and this is known after it
  abbrev Leads : Phase → Machine → Event → Type 0
  Leads next m event = LineAt next (happens m event)

  as_is : (next to : Phase) (m : Machine) (event is : Event) → event ≡ is → next ≡ to → Leads to m is → Leads next m event
  as_is next to m event is event_is next_is leads =
      subst (λ (e : Event). Leads next m e) (sym event_is) (subst (λ (q : Phase). Leads q m is) (sym next_is) leads)

  sleeps : (m : Machine) (node passes : ℕ) → May m (Host_does (no_more_event m.host.state node)) → first_wanting m.host.state.nodes ≡ Some node → IsDone m ⊎ Stands passes m
      → IsDone (happens m (Host_does (no_more_event m.host.state node))) ⊎ Stands passes (happens m (Host_does (no_more_event m.host.state node)))
  unfolding happens
  sleeps m node passes may wants (inl done) = absurd (none_to_tell m.host.state.nodes node done.told wants)
  sleeps m node passes may wants (inr stands) =
      let mute : Mute m.host.state (no_more_event m.host.state node) = no_more_mute air m.host.state node in
      inr (record { live = mute_live air m (no_more_event m.host.state node) passes may mute stands.live; turn = mute.side ∙ stands.turn })

  submits : (m : Machine) (event : HostEvent) (passes : ℕ) → May m (Host_does event) → IsServed m (Host_does event) → IsNext m.host.state event → (IsDone m ⊎ IsLive passes m) × NoneWants m.host.state.nodes
      → (IsDone (happens m (Host_does event)) ⊎ IsLive passes (happens m (Host_does event))) × NoneWants (happens m (Host_does event)).host.state.nodes
  unfolding happens
  submits m event passes may served next (inl done, none) = absurd (none_next m.host.state event done.pumped next)
  submits m event passes may served next (inr live, none) = (inr (next_live air m event passes may served next live), pumps.submits m.host.state event next none)

  moves : (m : Machine) (rest : Rest) (ways : List (Item × Option Route)) (passes : ℕ) → May m (Outside_does (Chip_takes (length m.outside.outer.to_chip.bytes) rest ways))
      → IsServed m (Outside_does (Chip_takes (length m.outside.outer.to_chip.bytes) rest ways)) → IsDone m ⊎ CanMove passes m
      → IsDone (happens m (Outside_does (Chip_takes (length m.outside.outer.to_chip.bytes) rest ways)))
      ⊎ HasMoved true passes (happens m (Outside_does (Chip_takes (length m.outside.outer.to_chip.bytes) rest ways)))
  moves m rest ways passes may served (inl done) = inl (done_chip m rest ways may done)
  moves m rest ways passes may served (inr can) = inr (chip_part m can.live.line rest ways passes can.moves may served can.live.enough)

  moved_on : (m : Machine) (b : Bool) (rest : Rest) (items : List Item) (events : List HostEvent) (passes : ℕ) → May m (Host_takes (length m.outside.outer.to_host.bytes) rest items events) → IsDone m ⊎ HasMoved b passes m
      → IsDone (happens m (Host_takes (length m.outside.outer.to_host.bytes) rest items events)) ⊎ Stands passes (happens m (Host_takes (length m.outside.outer.to_host.bytes) rest items events))
  moved_on m b rest items events passes may (inl done) = inl (done_host m rest items events may done)
  moved_on m b rest items events passes may (inr has) = inr (host_part air m b passes rest items events has may)

  event_leads : (here next : Phase) (m : Machine) (event : Event) → Goes here m event next → May m event → IsServed m event → LineAt here m → Leads next m event
  event_leads (Said_line line) next m event (is, to) may served known =
      as_is next (Begun line) m event (Outside_does Begins_line) is to (known.0, begins_rests m (subst (May m) is may) known.1)
  event_leads (Doing line (first ∷ left)) next m event (is, to) may served known =
      as_is next (Doing line left) m event first is to (known.0.1, effect_rests air m first known.0.0 (subst (May m) is may) known.1)
  event_leads (To_tick (suc ticks)) next m event (is, to) may served known = as_is next (Ticked ticks) m event (Outside_does Begins_tick) is to (tick_given m (subst (May m) is may) known)
  event_leads (Arriving (suc frames) ticks) next m event (drawn, route, is, to) may served known =
      as_is next (Arriving frames ticks) m event (Outside_does (Arrives drawn route)) is to (arrives_given m drawn route (subst (May m) is may) known)
  event_leads (Giving (suc results) ticks) next m event (route, is, to) may served known =
      as_is next (Giving results ticks) m event (Outside_does (Gives route)) is to (gives_given m route (subst (May m) is may) known)
  event_leads (Ticking_devices place (suc count) ticks) next m event (drawn, route, is, to) may served known =
      as_is next (Ticking_devices (place + 1) count ticks) m event (Outside_does (Device_ticks place drawn route)) is to (device_given m place drawn route (subst (May m) is may) known)
  event_leads (Ticking_chip ticks) next m event (is, to) may served known = as_is next (Ticking_decoder ticks) m event (Outside_does Chip_ticks) is to (chip_given m (subst (May m) is may) known)
  event_leads (Ticking_decoder ticks) next m event (is, to) may served known =
      as_is next (Ticking_host (tick_events m.host.state) ticks) m event Decoder_ticks is to (all_of_tick m.host.state, decoder_given m (subst (May m) is may) known)
  event_leads (Ticking_host (first ∷ events) ticks) next m event (is, to) may served known =
      as_is next (Ticking_host events ticks) m event (Host_does first) is to (known.0.1, host_given air m first known.0.0 (subst (May m) is may) known.1)
  event_leads (Sleeping passes ticks) next m event (node, wants, is, to) may served known =
      as_is next (Sleeping passes ticks) m event (Host_does (no_more_event m.host.state node)) is to (sleeps m node passes (subst (May m) is may) wants known)
  event_leads (Submitting passes ticks) next m event (asked, next_is, is, to) may served known =
      as_is next (Submitting passes ticks) m event (Host_does asked) is to (submits m asked passes (subst (May m) is may) (subst (IsServed m) is served) next_is known)
  event_leads (Moving passes ticks) next m event (rest, ways, is, to) may served known =
      as_is next (Moved true passes ticks) m event (Outside_does (Chip_takes (length m.outside.outer.to_chip.bytes) rest ways)) is to
      (moves m rest ways passes (subst (May m) is may) (subst (IsServed m) is served) known)
  event_leads (Moved b passes ticks) next m event (rest, items, done, is, to) may served known =
      as_is next (Sleeping passes ticks) m event (Host_takes (length m.outside.outer.to_host.bytes) rest items done) is to (moved_on m b rest items done passes (subst (May m) is may) known)
  event_leads here next m event goes may served known = absurd goes

  -- ---- parts that begin

  to : (is next : Phase) (m : Machine) → next ≡ is → LineAt is m → LineAt next m
  to is next m same known = subst (λ (q : Phase). LineAt q m) (sym same) known

  no_passes : (m : Machine) → IsLive 0 m → ⊥
  no_passes m live = let enough = live.enough in absurd (let none : 1 ≤ 0 = omega (arith, enough) in omega (arith, none))

  pumped_on : (passes ticks : ℕ) (m : Machine) → IsPumped m.host.state → (IsDone m ⊎ IsLive passes m) × NoneWants m.host.state.nodes → LineAt (after_pump passes ticks) m
  pumped_on zero ticks m pumped (inl done, none) = done.line
  pumped_on zero ticks m pumped (inr live, none) = absurd (no_passes m live)
  pumped_on (suc passes) ticks m pumped (inl done, none) = inl done
  pumped_on (suc passes) ticks m pumped (inr live, none) = by live.line live.enough
    where
      by : (line : TheLine m) → passes_of line (is_sending m) + 1 ≤ suc passes → IsDone m ⊎ CanMove passes m
      by (Free line) enough = inl (record { line = line; told = none; pumped = pumped })
      by (Asks asked fits line) enough = inr (record { live = record { line = Asks asked fits line; enough = enough }; moves = tt })
      by (Heard frame ticks frames line) enough = inr (record { live = record { line = Heard frame ticks frames line; enough = enough }; moves = tt })
      by (Heard_asks asked frame ticks frames fits line) enough = inr (record { live = record { line = Heard_asks asked frame ticks frames fits line; enough = enough }; moves = tt })
      by (Sent frame ticks frames line) enough = inr (record { live = record { line = Sent frame ticks frames line; enough = enough }; moves = tt })
      by (Sent_asks asked frame ticks frames fits line) enough = inr (record { live = record { line = Sent_asks asked frame ticks frames fits line; enough = enough }; moves = tt })

  asleep_on : (passes : ℕ) (m : Machine) → first_wanting m.host.state.nodes ≡ None → IsDone m ⊎ Stands passes m → (IsDone m ⊎ IsLive passes m) × NoneWants m.host.state.nodes
  asleep_on passes m none (inl done) = (inl done, done.told)
  asleep_on passes m none (inr stands) = (inr stands.live, pumps.told m.host.state.nodes none)

  unmarked_of : (m : Machine) (line : TheLine m) → is_stalled m.outside.outer ≡ false
  unmarked_of m (Free line) = line.unmarked.moves
  unmarked_of m (Asks asked fits line) = line.unmarked.moves
  unmarked_of m (Heard frame ticks frames line) = line.unmarked.moves
  unmarked_of m (Heard_asks asked frame ticks frames fits line) = line.unmarked.moves
  unmarked_of m (Sent frame ticks frames line) = line.unmarked.moves
  unmarked_of m (Sent_asks asked frame ticks frames fits line) = line.unmarked.moves

  still_chip : (passes : ℕ) (m : Machine) → IsStill (is_stalled m.outside.outer) m.outside.outer.to_chip.bytes → IsDone m ⊎ CanMove passes m → IsDone m ⊎ HasMoved false passes m
  still_chip passes m still (inl done) = inl done
  still_chip passes m still (inr can) =
      inr (chip_still m can.live.line passes can.moves (moves_not_stalled m m.outside.outer.to_chip.bytes (unmarked_of m can.live.line) still) can.live.enough)

  still_host : (b : Bool) (passes : ℕ) (m : Machine) → IsStill (is_stalled m.outside.outer) m.outside.outer.to_host.bytes → IsDone m ⊎ HasMoved b passes m → IsDone m ⊎ Stands (passes_after b passes) m
  still_host b passes m still (inl done) = inl done
  still_host true passes m still (inr has) = inr (host_still m passes has (moves_not_stalled m m.outside.outer.to_host.bytes has.line.unmarked.moves still))
  still_host false passes m still (inr has) = absurd (never_still m passes has (moves_not_stalled m m.outside.outer.to_host.bytes has.line.unmarked.moves still))

  turn_leads : (here next : Phase) (m : Machine) → Turns here m next → LineAt here m → LineAt next m
  turn_leads (Begun line) next m (inl (events, is, same)) known = to (Doing line events) next m same (quiet_effect line m events known.0 is, known.1)
  turn_leads (Begun line) next m (inr (ticks, is, same)) known = to (To_tick ticks) next m same known.1
  turn_leads (Doing line []) next m same known = to (Sleeping 64 0) next m same (inr (rests_stand m known.1))
  turn_leads (To_tick zero) next m same known = to Between next m same known
  turn_leads (Ticked ticks) next m same known = to (Arriving _ ticks) next m same known
  turn_leads (Arriving zero ticks) next m same known = to (Giving _ ticks) next m same known
  turn_leads (Giving zero ticks) next m same known = to (Ticking_devices 0 _ ticks) next m same known
  turn_leads (Ticking_devices place zero ticks) next m same known = to (Ticking_chip ticks) next m same known
  turn_leads (Ticking_host [] ticks) next m same known = to (Sleeping 64 ticks) next m same (inr (given_stands m known.1))
  turn_leads (Sleeping passes ticks) next m (none, same) known = to (Submitting passes ticks) next m same (asleep_on passes m none known)
  turn_leads (Submitting passes ticks) next m (pumped, same) known = to (after_pump passes ticks) next m same (pumped_on passes ticks m pumped known)
  turn_leads (Moving passes ticks) next m (still, same) known = to (Moved false passes ticks) next m same (still_chip passes m still known)
  turn_leads (Moved b passes ticks) next m (still, same) known = to (Sleeping (passes_after b passes) ticks) next m same (still_host b passes m still known)
  turn_leads here next m turns known = absurd turns

  -- ---- the walk

  pub line_walk : WalkWhere IsServed AsksNothing KnowLine
  line_walk = record {
    said = λ past m words line read known. (tt, λ quiet. let both = quiet_both past (entry.Said words ∷ []) quiet in (said_quiet words line read both.1, known both.0));
    event = λ here next past m event goes may served known.
        (nothing_asked past (entries m event), λ quiet. event_leads here next m event goes may served (known (quiet_both past (entries m event) quiet).0));
    turn = λ here next past m turns known quiet. turn_leads here next m turns (known quiet);
  }
