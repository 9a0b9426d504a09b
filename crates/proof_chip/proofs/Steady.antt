-- Events outside the host at which no frame arrives or is heard again, no result comes and the chip takes nothing: what they tell tells nothing of the chip, and what is outside looks as before.
use Rattle.std.proofs.Common.{◌≡◌, ℕ, ◌+◌, ◌&&◌, not, nat_le, Bool, true, false, List, ◌++◌, length, refl, sym, ap, ap₂, ◌∙◌, append-nil}
use Rattle.std.specs.Prelude.{Option, Some, None, option_map, slice_get}
use Rattle.std.specs.Option.{is_some}
use Rattle.zw_base.proofs.Each.{all-append}
use Rattle.serial_frame.specs.Stream.{after_tick}
use Rattle.serial_link.specs.State.{copy_due}
use Rattle.route_table.specs.declared.route.Route.{Route}
use Rattle.device_sim.specs.State.{State}
use Rattle.device_sim.specs.Event.{DeviceEvent, Ticks, Wakes, Sets, device_replies}
use Rattle.air_frames.specs.Flown.{Flown}
use Rattle.air_frames.specs.Frames.{peer_of}
use Rattle.chip_sim.specs.State.{ChipState}
use Rattle.chip_sim.specs.Waiting.{next_at, ticked}
use Rattle.chip_sim.specs.Events.{Ticked, after, outs}
use Rattle.mesh_sim.specs.Air.{AirState, is_joined}
use Rattle.mesh_sim.specs.Fates.{place_of}
use Rattle.mesh_sim.specs.Routes.{backwards}
use Rattle.mesh_sim.specs.Steps.{answered_if}
use Rattle.zw_words.specs.declared.side.Side.TheVariants.{Host as by_host, Chip as by_chip}
use Rattle.zw_text.specs.declared.entry.Entry.{Entry}
use Rattle.outside_model.specs.State.{OuterState, Outside, each, with_chip}
use Rattle.outside_model.specs.Chip.{chip_does, put_out}
use Rattle.outside_model.specs.Devices.{acts_at, acts_by_hand}
use Rattle.outside_model.specs.Nodes.{all_pairs}
use Rattle.outside_model.specs.Events.{OuterEvent, Begins_line, Begins_tick, Host_writes, Host_takes, Host_notes, Host_begins, Chip_takes, Arrives, Gives, Device_ticks, Chip_ticks, Repeats, Wakes_device, Sets_device, Marks_loss, Marks_change, Clears_pipe, begins, outcome}
use Rattle.proof_air.specs.proof_walk.Outside.{awaits_number, nothing}
use Rattle.proof_air.specs.Logs.{Tie}
use Rattle.proof_air.proofs.Fateless.{answered_if_landed}
use Rattle.proof_air.proofs.Times.{IsWithin, outcome_time}
use Rattle.proof_line.specs.proof_traffic.OnAir.{on_air}
use Rattle.proof_line.specs.proof_traffic.OutsideTraffic.{outward}
use Rattle.proof_line.proofs.Arrivals.{Homes, NoNexting}
use Rattle.proof_line.proofs.Flights.{flights_are}
use Rattle.proof_line.proofs.Parts.{Laws}
use Rattle.proof_chip.specs.Sending.{IsMild}
use Rattle.proof_chip.specs.Tally.{numbers_from, outlook}
use Rattle.proof_chip.proofs.Asides.{IsHosts, IsSteady}
use Rattle.proof_chip.proofs.Calling.{homes}
use Rattle.proof_chip.proofs.Resting.{LeavesAll, Stays, each_rests, rests_stay, stays_looks, written_leaves}
use Rattle.proof_chip.proofs.Mild.{outcome_sending}
use Rattle.proof_chip.proofs.Numbering.{numbers_both, numbers_home}

-- ---- how it looks

-- frames of devices are on the air behind the others
pub homes_numbers : (landed : ℕ) (flights home : List Flown) → outward home ≡ 0 → numbers_from landed (flights ++ home) ≡ numbers_from landed flights
homes_numbers landed flights home none =
    numbers_both landed flights home ∙ (ap (λ (l : List ℕ). numbers_from landed flights ++ l) (numbers_home (landed + length flights) home none) ∙ append-nil (numbers_from landed flights))

begins_numbers : (air : AirState) (node sessions : ℕ)
    → numbers_from ((begins air node sessions).frames.landed + 1) (on_air (begins air node sessions).frames) ≡ numbers_from (air.frames.landed + 1) (on_air air.frames)
unfolding on_air
begins_numbers air node sessions = by (nat_le (peer_of air.frames node).begun sessions) refl
  where
    by : (b : Bool) → nat_le (peer_of air.frames node).begun sessions ≡ b
        → numbers_from ((begins air node sessions).frames.landed + 1) (on_air (begins air node sessions).frames) ≡ numbers_from (air.frames.landed + 1) (on_air air.frames)
    by true e = rw e refl
    by false e = rw e refl

chip_ticks_stay : (o : OuterState) → Stays o (chip_does (record o { chip = record { decoder = after_tick o.chip.decoder; state = o.chip.state } }) Ticked).outer
unfolding chip_does
chip_ticks_stay o =
    let s : ChipState = o.chip.state in
    let from : OuterState = with_chip (record o { chip = record { decoder = after_tick o.chip.decoder; state = s } }) (after s Ticked) in
    let got = each_rests (outs s Ticked) from
    (all-append LeavesAll _ _ (written_leaves (copy_due s.port.side.turn)) (written_leaves (next_at (ticked s.port).side.turn s.port.waiting))) in
    rests_stay o (each put_out from (outs s Ticked)).outer (record { calls = got.calls; due = got.due; air = got.air })

-- ---- of the host

pub hosts_chip : (w : Outside) (event : OuterEvent) → IsHosts event → (outcome w event).outer.chip.state ≡ w.outer.chip.state
unfolding outcome
hosts_chip w (Host_writes unit) is = refl
hosts_chip w (Host_takes count) is = refl
hosts_chip w (Host_notes note) is = refl
hosts_chip w (Host_begins node sessions) is = refl
hosts_chip w event is = absurd is

pub hosts_stay : (w : Outside) (event : OuterEvent) → IsHosts event → Stays w.outer (outcome w event).outer
unfolding outcome
hosts_stay w (Host_writes unit) is = record { calls = refl; due = refl; numbers = refl }
hosts_stay w (Host_takes count) is = record { calls = refl; due = refl; numbers = refl }
hosts_stay w (Host_notes note) is = record { calls = refl; due = refl; numbers = refl }
hosts_stay w (Host_begins node sessions) is = record { calls = refl; due = refl; numbers = begins_numbers w.outer.air node sessions }
hosts_stay w event is = absurd is

pub hosts_within : (event : OuterEvent) → IsHosts event → IsWithin event
hosts_within (Host_writes unit) is = tt
hosts_within (Host_takes count) is = tt
hosts_within (Host_notes note) is = tt
hosts_within (Host_begins node sessions) is = tt
hosts_within event is = absurd is

pub hosts_look : (w : Outside) (event : OuterEvent) → IsHosts event → outlook (outcome w event).outer ≡ outlook w.outer
hosts_look w event is =
    stays_looks w.outer (outcome w event).outer (hosts_stay w event is) (ap (λ (s : ChipState). is_some s.sending) (hosts_chip w event is))
    (ap (λ (t : Bool × Bool × ℕ). t.2) (outcome_time w event (hosts_within event is)))

pub hosts_await : (w : Outside) (event : OuterEvent) → IsHosts event → awaits_number (outcome w event).outer ≡ awaits_number w.outer
hosts_await w event is = ap (λ (t : Bool × Bool × ℕ). t.0 && not t.1) (outcome_time w event (hosts_within event is))

-- ---- all others

module _ (laws : Laws) (none : NoNexting) (past : List Entry) (w : Outside) (tie : Tie nothing past w) where
  homes_stay : (air : AirState) → air.frames.landed ≡ w.outer.air.frames.landed → Homes tie.log (on_air w.outer.air.frames) air.frames → Stays w.outer (record w.outer { air = air })
  homes_stay air landed home = record {
    calls = refl;
    due = refl;
    numbers =
        ap₂ (λ (n : ℕ) (l : List Flown). numbers_from (n + 1) l) landed (sym (flights_are (tie.log ++ home.more) (on_air w.outer.air.frames ++ home.home) air.frames home.fly))
        ∙ homes_numbers (w.outer.air.frames.landed + 1) (on_air w.outer.air.frames) home.home home.none_outward;
  }

  pub answers_stay : (node : ℕ) (way : Option Route) (replies : List (List ℕ))
      → Stays w.outer (record w.outer { air = answered_if (is_joined w.outer.air node) w.outer.air node way replies })
  answers_stay node way replies =
      homes_stay (answered_if (is_joined w.outer.air node) w.outer.air node way replies) (answered_if_landed (is_joined w.outer.air node) w.outer.air node way replies) (homes laws none past w tie node way replies)

  at_stays : (found : Option State) (event : DeviceEvent) (route : Option Route) → Stays w.outer (acts_at w.outer found event route).outer
  at_stays None event route = record { calls = refl; due = refl; numbers = refl }
  at_stays (Some device) event route =
      let got = answers_stay device.node (option_map backwards route) (device_replies device event) in record { calls = refl; due = refl; numbers = got.numbers }

  hand_stays : (place : Option ℕ) (event : DeviceEvent) (route : Option Route) → Stays w.outer (acts_by_hand w.outer w.devices place event route).outer
  hand_stays None event route = record { calls = refl; due = refl; numbers = refl }
  hand_stays (Some place) event route = at_stays (slice_get w.devices place) event route

  pub steady_stays : (event : OuterEvent) → IsSteady event → Stays w.outer (outcome w event).outer
  unfolding outcome all_pairs
  steady_stays (Device_ticks place drawn route) steady = at_stays (slice_get w.devices place) (Ticks drawn) route
  steady_stays Chip_ticks steady = chip_ticks_stay w.outer
  steady_stays (Wakes_device node route) steady = hand_stays (place_of node w.devices) Wakes route
  steady_stays (Sets_device node value route) steady = hand_stays (place_of node w.devices) (Sets value) route
  steady_stays (Marks_loss by_host) steady = record { calls = refl; due = refl; numbers = refl }
  steady_stays (Marks_loss by_chip) steady = record { calls = refl; due = refl; numbers = refl }
  steady_stays (Marks_change by_host garble) steady = record { calls = refl; due = refl; numbers = refl }
  steady_stays (Marks_change by_chip garble) steady = record { calls = refl; due = refl; numbers = refl }
  steady_stays (Clears_pipe by_host) steady = record { calls = refl; due = refl; numbers = refl }
  steady_stays (Clears_pipe by_chip) steady = record { calls = refl; due = refl; numbers = refl }
  steady_stays Begins_line steady = absurd steady
  steady_stays (Host_writes unit) steady = absurd steady
  steady_stays (Host_takes count) steady = absurd steady
  steady_stays (Host_notes note) steady = absurd steady
  steady_stays (Host_begins node sessions) steady = absurd steady
  steady_stays Begins_tick steady = absurd steady
  steady_stays (Chip_takes count rest ways) steady = absurd steady
  steady_stays (Arrives drawn route) steady = absurd steady
  steady_stays (Gives route) steady = absurd steady
  steady_stays (Repeats number drawn route) steady = absurd steady
  steady_stays event steady = record { calls = refl; due = refl; numbers = refl }

  pub steady_mild : (event : OuterEvent) → IsSteady event → IsMild event
  steady_mild Begins_tick steady = absurd steady
  steady_mild (Chip_takes count rest ways) steady = absurd steady
  steady_mild (Arrives drawn route) steady = absurd steady
  steady_mild (Gives route) steady = absurd steady
  steady_mild event steady = tt

  pub steady_within : (event : OuterEvent) → IsSteady event → IsWithin event
  steady_within Begins_line steady = absurd steady
  steady_within Begins_tick steady = absurd steady
  steady_within event steady = tt

  pub steady_looks : (event : OuterEvent) → IsSteady event → outlook (outcome w event).outer ≡ outlook w.outer
  steady_looks event steady =
      stays_looks w.outer (outcome w event).outer (steady_stays event steady) (ap is_some (outcome_sending w event (steady_mild event steady)))
      (ap (λ (t : Bool × Bool × ℕ). t.2) (outcome_time w event (steady_within event steady)))

  pub steady_awaits : (event : OuterEvent) → IsSteady event → awaits_number (outcome w event).outer ≡ awaits_number w.outer
  steady_awaits event steady = ap (λ (t : Bool × Bool × ℕ). t.0 && not t.1) (outcome_time w event (steady_within event steady))
