-- Segments stay on their way at each event and each turn but those at which a frame arrives, the chip takes its bytes, or the host submits or judges.
use Rattle.std.proofs.Common.{◌≡◌, ◌≤◌, ◌<◌, ℕ, zero, suc, ◌+◌, ◌-◌, inl, inr, Bool, true, false, List, [], ◌∷◌, length, refl, sym, ap, ◌∙◌, subst, arith}
use Rattle.std.specs.Prelude.{◌⊎◌, Option, Some, slice_get}
use Rattle.zw_text.specs.declared.line.Line.{Line}
use Rattle.serial_frame.specs.Frame.{FrameParts}
use Rattle.serial_link.specs.declared.turn.Turn.TheVariants.{Idle as no_turn}
use Rattle.route_table.specs.declared.route.Route.{Route}
use Rattle.chip_functions.specs.Field.{IsNode}
use Rattle.host_node.specs.declared.series.Series.TheVariants as series
use Rattle.host_model.specs.State.{node_of}
use Rattle.host_model.specs.Ticking.{tick_events}
use Rattle.device_sim.specs.Event.{Ticks}
use Rattle.device_sim.specs.State.{State}
use Rattle.outside_model.specs.Events.{Begins_line, Begins_tick, Chip_ticks, Device_ticks, outcome}
use Rattle.world_model.specs.Events.{Outside_does, Decoder_ticks, happens}
use Rattle.world_model.specs.State.{Machine}
use Rattle.proof_messages.specs.Reporting.{TellsPlainly}
use Rattle.proof_answered.specs.proof_calm.proof_traffic.OnAir.{on_air}
use Rattle.proof_answered.specs.proof_calm.Awaited.{Awaits, AwaitsNone}
use Rattle.proof_answered.specs.proof_calm.Resting.{IsGiven}
use Rattle.proof_answered.specs.proof_calm.proof_work.proof_walk.Phases.{Phase, Arriving, Begun, Between, Doing, Giving, Moved, Moving, Said_line, Sleeping, Submitting, Ticked, Ticking_chip, Ticking_decoder, Ticking_devices, Ticking_host, To_tick}
use Rattle.proof_answered.specs.proof_calm.Tied.{At_chip, Called, IsTied, Nowhere, On_way, Tied, TieOf, ends_of, on_line, unheard}
use Rattle.proof_answered.specs.Workers.{IsFromSaying}
use Rattle.proof_answered.proofs.Awaiting.{sends_nothing}
use Rattle.proof_answered.proofs.Unheard.{counts_says, decoder_says, device_says, line_says, tick_says}
use Rattle.proof_answered.proofs.proof_traffic_Parts.{Airs}
use Rattle.proof_in_time.specs.Coming.{IsAsking, one_later, ticks_left}
use Rattle.proof_in_time.specs.Owed.{IsFreeIn, IsFreeNow, IsOwed}
use Rattle.proof_in_time.specs.Parts.{Aired, Aired_told, Aired_two, Asks, Asks_told, Asks_told_two, OnWay, Parts, To_give, To_give_two, ToHear}
use Rattle.proof_in_time.proofs.Bounded.{counted_air, counted_devices, decoder_devices, line_devices, tick_devices}
use Rattle.proof_in_time.proofs.InTurn.{no_sending}
use Rattle.proof_in_time.proofs.Lasting.{never_sooner, not_both_ways, sooner}
use Rattle.proof_in_time.proofs.PartsArrived.{outside_host}
use Rattle.proof_in_time.proofs.PartsCarried.{AllHome, GivesIn, HasDue, Wraps, itself_wraps, same_for, wraps_pile}
use Rattle.proof_in_time.proofs.PartsPhases.{AnswersPlainly, FirstStays, GrowsPlain, cut_so, none_due, parts_on, parts_stay, same_first, same_plain, ticks_first, ticks_plain}

-- ---- where nothing of the host changes

module _ (these : List Bool) (n session : ℕ) where
  abbrev Comes : FrameParts → Type 0
  Comes frame = IsFromSaying these TellsPlainly frame

  -- at an event outside the host, or none
  module _ (here to : Phase) (m then_m : Machine) (host : then_m.host.state ≡ m.host.state) where
    pub same_on : (owed : IsOwed here m → HasDue n m → IsOwed to then_m) (free : IsFreeIn here m → AllHome (on_air m.outside.outer.air.frames) → IsFreeIn to then_m) (asking : IsAsking here → (frame : FrameParts) → on_line m.host.state.side.turn ≡ frame ∷ [] → IsAsking to)
        → Wraps (IsFromSaying these TellsPlainly) (unheard m.outside.outer) (unheard then_m.outside.outer) → GrowsPlain these (on_air m.outside.outer.air.frames) (on_air then_m.outside.outer.air.frames) → FirstStays n m.outside.devices then_m.outside.devices
        → ((place : ℕ) → place < length (on_air m.outside.outer.air.frames) → ticks_left to + one_later to place ≤ ticks_left here + one_later here place) → (GivesIn here m × GivesIn to then_m → (place : ℕ) → one_later here place ≡ 1 → one_later to place ≡ 1) → ((first second : ℕ) → first < second → second < length (on_air m.outside.outer.air.frames) → one_later here second ≤ one_later here first → one_later to second ≤ one_later to first) → (left : ℕ)
        → Parts these n session left here m → Parts these n session left to then_m
    same_on owed free asking told air stays joint apart level left parts =
        parts_stay these n session here to m then_m (same_for n here m.host.state then_m.host.state host) (λ message. cut_so n session message m.host.state then_m.host.state host) owed free asking told air stays left joint apart level parts

  -- another phase of the same machine
  pub turn_on : (here to : Phase) (m : Machine) (owed : IsOwed here m → HasDue n m → IsOwed to m) (free : IsFreeIn here m → AllHome (on_air m.outside.outer.air.frames) → IsFreeIn to m) (asking : IsAsking here → (frame : FrameParts) → on_line m.host.state.side.turn ≡ frame ∷ [] → IsAsking to)
      → ((place : ℕ) → place < length (on_air m.outside.outer.air.frames) → ticks_left to + one_later to place ≤ ticks_left here + one_later here place) → (GivesIn here m × GivesIn to m → (place : ℕ) → one_later here place ≡ 1 → one_later to place ≡ 1) → ((first second : ℕ) → first < second → second < length (on_air m.outside.outer.air.frames) → one_later here second ≤ one_later here first → one_later to second ≤ one_later to first) → (left : ℕ)
      → Parts these n session left here m → Parts these n session left to m
  turn_on here to m owed free asking joint apart level left parts =
      same_on here to m m refl owed free asking (itself_wraps Comes (unheard m.outside.outer)) (same_plain these m.outside.outer m.outside.outer refl) (same_first n m.outside.devices m.outside.devices refl) joint apart level left parts

  -- ---- a line begins

  pub said_parts : (line : Line) (m : Machine) (left : ℕ) → Parts these n session left Between m → Parts these n session left (Said_line line) m
  said_parts line m left parts = turn_on Between (Said_line line) m (λ owed due. absurd owed) (λ is home. tt) (λ asking frame on. absurd asking) (λ place within. omega arith) (λ gives place one. one) (λ first second before in_it level. omega arith) left parts

  pub line_parts : (line : Line) (m : Machine) (left : ℕ) → Parts these n session left (Said_line line) m → Parts these n session left (Begun line) (happens m (Outside_does Begins_line))
  unfolding happens outcome
  line_parts line m left parts =
      same_on (Said_line line) (Begun line) m (happens m (Outside_does Begins_line)) (outside_host m Begins_line) (λ owed due. absurd owed) (λ is home. tt) (λ asking frame on. absurd asking)
      (line_says Comes (Wraps Comes (unheard m.outside.outer)) (wraps_pile Comes (unheard m.outside.outer)) m (itself_wraps Comes (unheard m.outside.outer))) (same_plain these m.outside.outer (happens m (Outside_does Begins_line)).outside.outer refl)
      (same_first n m.outside.devices (happens m (Outside_does Begins_line)).outside.devices (line_devices m)) (λ place within. omega arith) (λ gives place one. one) (λ first second before in_it level. omega arith) left parts

  pub begun_parts : (line : Line) (to : Phase) (m : Machine) (left : ℕ) → ((place : ℕ) → ticks_left to + one_later to place ≤ 1) → ((place : ℕ) → one_later to place ≡ 0) → IsFreeIn to m → Parts these n session left (Begun line) m → Parts these n session left to m
  begun_parts line to m left few soon free parts = turn_on (Begun line) to m (λ owed due. absurd owed) (λ is home. free) (λ asking frame on. absurd asking) (λ place within. let one = few place in omega (arith, one)) (λ gives place one. absurd (omega (arith, one))) (λ first second before in_it level. let none = soon second in omega (arith, none)) left parts

  -- ---- a tick

  -- before it something is on the air
  some_later : (message : List ℕ) (next later ticks : ℕ) (m : Machine) (hears : ToHear) → OnWay these n session message next later (To_tick (suc ticks)) m hears → 1 ≤ later
  some_later message next later ticks m hears (To_give place is give all told some) = some
  some_later message next later ticks m hears (Aired place is other at told few) = omega (arith, few)
  some_later message next later ticks m hears (To_give_two place other is give at one told some) = some
  some_later message next later ticks m hears (Aired_two place other is else_is at told level few) = omega (arith, few)
  some_later message next later ticks m hears (Aired_told place other is else_is at asked few) = omega (arith, few)
  some_later message next later ticks m hears (Asks place is else_is is_free none at told few) = omega (arith, few)
  some_later message next later ticks m hears (Asks_told place is else_is owes all asked) = absurd owes
  some_later message next later ticks m hears (Asks_told_two place other is else_is owes asked at one some) = some

  pub some_left_parts : (ticks : ℕ) (m : Machine) (left : ℕ) → Parts these n session left (To_tick (suc ticks)) m → 1 ≤ left
  some_left_parts ticks m left parts =
      let some = some_later parts.message parts.next parts.later ticks m parts.hears parts.way in
      let few = parts.few in
      omega (arith, some, few)

  -- it begins: one fewer is to
  pub begins_parts : (ticks : ℕ) (m : Machine) (left : ℕ) → Parts these n session left (To_tick (suc ticks)) m → Parts these n session (left - 1) (Ticked ticks) (happens m (Outside_does Begins_tick))
  unfolding happens outcome
  begins_parts ticks m left parts =
      let some = some_later parts.message parts.next parts.later ticks m parts.hears parts.way in
      let all = parts.few in
      parts_on these n session (To_tick (suc ticks)) (Ticked ticks) m (happens m (Outside_does Begins_tick)) (same_for n (To_tick (suc ticks)) m.host.state (happens m (Outside_does Begins_tick)).host.state (outside_host m Begins_tick))
      (λ message. cut_so n session message m.host.state (happens m (Outside_does Begins_tick)).host.state (outside_host m Begins_tick)) (λ owed due. absurd owed) (λ is home. tt) (λ asking frame on. absurd asking)
      (tick_says Comes (Wraps Comes (unheard m.outside.outer)) (wraps_pile Comes (unheard m.outside.outer)) m (itself_wraps Comes (unheard m.outside.outer)))
      (same_plain these m.outside.outer (happens m (Outside_does Begins_tick)).outside.outer refl) (same_first n m.outside.devices (happens m (Outside_does Begins_tick)).outside.devices (tick_devices m)) left (left - 1) parts (parts.later - 1)
      (record { joint = λ place within. omega (arith, some); apart = λ gives place within one. absurd (omega (arith, one)); some = λ gives more. absurd (none gives.0); level = λ first second before in_it level. omega arith; fewer = omega arith }) (omega (arith, some, all))
    where
      none : {A : Type 0} → ⊥ ⊎ ⊥ → A
      none (inl wrong) = absurd wrong
      none (inr wrong) = absurd wrong

  pub arriving_parts : (ticks frames : ℕ) (m : Machine) (left : ℕ) → length (on_air m.outside.outer.air.frames) ≡ frames → Parts these n session left (Ticked ticks) m → Parts these n session left (Arriving frames ticks) m
  arriving_parts ticks frames m left many parts =
      turn_on (Ticked ticks) (Arriving frames ticks) m (λ owed due. tt) (λ is home. tt) (λ asking frame on. absurd asking) (λ place within. let soon = sooner place frames (subst (λ (k : ℕ). place < k) many within) in omega (arith, soon))
      (λ gives place one. absurd (omega (arith, one))) (λ first second before in_it level. let soon = sooner second frames (subst (λ (k : ℕ). second < k) many in_it) in omega (arith, soon)) left parts

  pub giving_parts : (results ticks : ℕ) (m : Machine) (left : ℕ) → Parts these n session left (Arriving zero ticks) m → Parts these n session left (Giving results ticks) m
  giving_parts results ticks m left parts =
      turn_on (Arriving zero ticks) (Giving results ticks) m (λ owed due. tt) (λ is home. tt) (λ asking frame on. absurd asking) (λ place within. let late = never_sooner place in omega (arith, late)) (λ gives place one. refl) (λ first second before in_it level. omega arith) left parts

  -- the phases of a tick after that
  pub devices_parts : (ticks : ℕ) (m : Machine) (left : ℕ) → Parts these n session left (Giving zero ticks) m → Parts these n session left (Ticking_devices 0 (length m.outside.devices) ticks) m
  devices_parts ticks m left parts = turn_on (Giving zero ticks) (Ticking_devices 0 (length m.outside.devices) ticks) m (λ owed due. tt) (λ is home. tt) (λ asking frame on. absurd asking) (λ place within. omega arith) (λ gives place one. refl) (λ first second before in_it level. omega arith) left parts

  pub ticks_parts : (airs : Airs) (place count ticks : ℕ) (m : Machine) (is : Awaits m) (drawn : List ℕ) (route : Option Route) (left : ℕ) → ((device : State) → slice_get m.outside.devices place ≡ Some device → AnswersPlainly these device (Ticks drawn))
      → Parts these n session left (Ticking_devices place (suc count) ticks) m → Parts these n session left (Ticking_devices (place + 1) count ticks) (happens m (Outside_does (Device_ticks place drawn route)))
  ticks_parts airs place count ticks m is drawn route left says parts =
      same_on (Ticking_devices place (suc count) ticks) (Ticking_devices (place + 1) count ticks) m (happens m (Outside_does (Device_ticks place drawn route))) (outside_host m (Device_ticks place drawn route)) (λ owed due. tt) (λ is home. tt) (λ asking frame on. absurd asking)
      (device_says Comes (Wraps Comes (unheard m.outside.outer)) (wraps_pile Comes (unheard m.outside.outer)) m place drawn route (itself_wraps Comes (unheard m.outside.outer))) (ticks_plain airs these m is place drawn route says)
      (ticks_first n m place drawn route) (λ at within. omega arith) (λ gives at one. refl) (λ first second before in_it level. omega arith) left parts

  pub chip_turn_parts : (place ticks : ℕ) (m : Machine) (left : ℕ) → Parts these n session left (Ticking_devices place zero ticks) m → Parts these n session left (Ticking_chip ticks) m
  chip_turn_parts place ticks m left parts = turn_on (Ticking_devices place zero ticks) (Ticking_chip ticks) m (λ owed due. tt) (λ is home. tt) (λ asking frame on. absurd asking) (λ at within. omega arith) (λ gives at one. refl) (λ first second before in_it level. omega arith) left parts

  pub chip_parts : (ticks : ℕ) (m : Machine) (left : ℕ) → IsGiven 0 m → IsGiven 1 (happens m (Outside_does Chip_ticks)) → Parts these n session left (Ticking_chip ticks) m → Parts these n session left (Ticking_decoder ticks) (happens m (Outside_does Chip_ticks))
  chip_parts ticks m left given later parts =
      same_on (Ticking_chip ticks) (Ticking_decoder ticks) m (happens m (Outside_does Chip_ticks)) (outside_host m Chip_ticks) (λ owed due. tt) (λ is home. tt) (λ asking frame on. absurd asking)
      (counts_says Comes (Wraps Comes (unheard m.outside.outer)) (wraps_pile Comes (unheard m.outside.outer)) m given later (itself_wraps Comes (unheard m.outside.outer)))
      (same_plain these m.outside.outer (happens m (Outside_does Chip_ticks)).outside.outer (counted_air m)) (same_first n m.outside.devices (happens m (Outside_does Chip_ticks)).outside.devices (counted_devices m)) (λ place within. omega arith) (λ gives place one. refl) (λ first second before in_it level. omega arith) left parts

  pub decoder_parts : (ticks : ℕ) (m : Machine) (left : ℕ) → Parts these n session left (Ticking_decoder ticks) m → Parts these n session left (Ticking_host (tick_events m.host.state) ticks) (happens m Decoder_ticks)
  unfolding happens
  decoder_parts ticks m left parts =
      same_on (Ticking_decoder ticks) (Ticking_host (tick_events m.host.state) ticks) m (happens m Decoder_ticks) refl (λ owed due. tt) (λ is home. tt) (λ asking frame on. absurd asking)
      (decoder_says Comes (Wraps Comes (unheard m.outside.outer)) (wraps_pile Comes (unheard m.outside.outer)) m (itself_wraps Comes (unheard m.outside.outer)))
      (same_plain these m.outside.outer m.outside.outer refl) (same_first n m.outside.devices (happens m Decoder_ticks).outside.devices (decoder_devices m)) (λ place within. omega arith) (λ gives place one. refl) (λ first second before in_it level. omega arith) left parts

  -- the host has ticked: what is owed is to be submitted in the settling
  pub settling_parts : (ticks : ℕ) (m : Machine) (left : ℕ) → m.host.state.side.turn ≡ no_turn → AwaitsNone m → Parts these n session left (Ticking_host [] ticks) m → Parts these n session left (Sleeping 64 ticks) m
  settling_parts ticks m left turn awaits parts =
      turn_on (Ticking_host [] ticks) (Sleeping 64 ticks) m (λ owed due. record { quiet = no_sending m.outside.outer.chip.state.sending (sends_nothing m awaits); silent = ap on_line turn }) (λ is home. record { quiet = no_sending m.outside.outer.chip.state.sending (sends_nothing m awaits); silent = ap on_line turn }) (λ asking frame on. absurd asking)
      (λ place within. omega arith) (λ gives place one. refl) (λ first second before in_it level. omega arith) left parts

  pub done_parts : (line : Line) (m : Machine) (left : ℕ) → (AllHome (on_air m.outside.outer.air.frames) → IsFreeNow m) → Parts these n session left (Doing line []) m → Parts these n session left (Sleeping 64 0) m
  done_parts line m left free parts = turn_on (Doing line []) (Sleeping 64 0) m (λ owed due. absurd owed) (λ is home. free home) (λ asking frame on. absurd asking) (λ place within. omega arith) (λ gives place one. absurd (omega (arith, one))) (λ first second before in_it level. omega arith) left parts

  pub between_parts : (m : Machine) (left : ℕ) → Parts these n session left (To_tick zero) m → Parts these n session left Between m
  between_parts m left parts = turn_on (To_tick zero) Between m (λ owed due. absurd owed) (λ is home. tt) (λ asking frame on. absurd asking) (λ place within. omega arith) (λ gives place one. absurd (omega (arith, one))) (λ first second before in_it level. omega arith) left parts

  -- ---- a settling

  pub submitting_parts : (passes ticks : ℕ) (m : Machine) (left : ℕ) → Parts these n session left (Sleeping passes ticks) m → Parts these n session left (Submitting passes ticks) m
  submitting_parts passes ticks m left parts = turn_on (Sleeping passes ticks) (Submitting passes ticks) m (λ owed due. owed) (λ is home. is) (λ asking frame on. absurd asking) (λ place within. omega arith) (λ gives place one. refl) (λ first second before in_it level. omega arith) left parts

  pub moving_parts : (passes ticks : ℕ) (m : Machine) (left : ℕ) → Parts these n session left (Submitting (suc passes) ticks) m → Parts these n session left (Moving passes ticks) m
  moving_parts passes ticks m left parts = turn_on (Submitting (suc passes) ticks) (Moving passes ticks) m (λ owed due. owed) (λ is home. is) (λ asking frame on. tt) (λ place within. omega arith) (λ gives place one. refl) (λ first second before in_it level. omega arith) left parts

  pub sleeping_parts : (b : Bool) (passes left_passes ticks : ℕ) (m : Machine) (left : ℕ) → Parts these n session left (Moved b passes ticks) m → Parts these n session left (Sleeping left_passes ticks) m
  sleeping_parts b passes left_passes ticks m left parts = turn_on (Moved b passes ticks) (Sleeping left_passes ticks) m (λ owed due. owed) (λ is home. is) (λ asking frame on. absurd asking) (λ place within. omega arith) (λ gives place one. refl) (λ first second before in_it level. omega arith) left parts

  -- nothing moves: so no request is on its way to the chip
  no_request : (m : Machine) (frame : FrameParts) → on_line m.host.state.side.turn ≡ frame ∷ [] → TieOf true m (on_line m.host.state.side.turn) → TieOf true m [] → ⊥
  no_request m frame on tie later = by (subst (λ (frames : List FrameParts). TieOf true m frames) on tie).tied
    where
      by : Tied true (ends_of m.host.state m.outside.outer.chip.state) (unheard m.outside.outer) (frame ∷ []) → ⊥
      by (Nowhere is) = absurd (let wrong = is.nothing in cc)
      by (At_chip u of fresh is) = absurd (let wrong = is.nothing in cc)
      by (Called u of fresh is) = absurd (let wrong = is.nothing in cc)
      by (On_way u of fresh is) = not_both_ways m u frame of is later.tied

  pub still_parts : (passes ticks : ℕ) (m : Machine) (left : ℕ) → TieOf true m (on_line m.host.state.side.turn) → TieOf true m [] → Parts these n session left (Moving passes ticks) m → Parts these n session left (Moved false passes ticks) m
  still_parts passes ticks m left tie later parts =
      turn_on (Moving passes ticks) (Moved false passes ticks) m (λ owed due. owed) (λ is home. is) (λ asking frame on. absurd (no_request m frame on tie later)) (λ place within. omega arith) (λ gives place one. refl) (λ first second before in_it level. omega arith) left parts

  -- it is over: what is to come is on the air
  pub pumped_parts : (ticks : ℕ) (m : Machine) (left : ℕ) → IsTied these m → IsNode n → (node_of m.host.state n).series ≡ series.Running → Parts these n session left (Submitting zero ticks) m → Parts these n session left (To_tick ticks) m
  pumped_parts ticks m left tied node running parts =
      turn_on (Submitting zero ticks) (To_tick ticks) m (λ owed due. none_due these n m tied node running due owed) (λ is home. tt) (λ asking frame on. absurd (let wrong : [] ≡ frame ∷ [] = sym (ap on_line tied.rests.at_host.turn_is) ∙ on in cc))
      (λ place within. omega arith) (λ gives place one. none gives.1) (λ first second before in_it level. omega arith) left parts
    where
      none : {A : Type 0} → ⊥ ⊎ ⊥ → A
      none (inl wrong) = absurd wrong
      none (inr wrong) = absurd wrong
