-- The course of the host's requests that lines make, where the air is empty.
use Rattle.std.proofs.Common.{◌≡◌, ◌+◌, ◌-◌, ◌≤◌, Bool, true, false, List, [], ◌∷◌, length, refl, sym, ap, subst, ◌∙◌, length-drop, arith}
use Rattle.std.specs.Prelude.{Some, None, Option, is_some}
use Rattle.s0_crypto.specs.declared.key_pair.Keys.{Keys}
use Rattle.air_frames.proofs.Logs.{length-stamped}
use Rattle.air_frames.specs.Flown.{Flown}
use Rattle.air_frames.specs.Frames.{FramesState, kept}
use Rattle.proof_rests.specs.proof_attempts.proof_host.device_sim.State.{State}
use Rattle.proof_chip.specs.proof_line.outside_model.declared.waits.Call.{Call}
use Rattle.proof_chip.specs.proof_line.outside_model.declared.waits.Call.TheVariants.{NoRoute, OfFrame}
use Rattle.proof_chip.specs.proof_line.outside_model.State.{OuterState}
use Rattle.proof_chip.specs.proof_line.proof_traffic.Facts.{flying_in, one_if}
use Rattle.proof_chip.specs.proof_line.proof_traffic.Flights.{Fly, flown_in}
use Rattle.proof_chip.specs.proof_line.proof_traffic.OutsideTraffic.{AreNodes, flags, no_routes_due, outward, without_frame}
use Rattle.proof_chip.specs.proof_line.world_model.State.{Machine, first_machine}
use Rattle.proof_chip.specs.proof_world.world_lines.Spoken.{Spoken, after_all}
use Rattle.proof_chip.specs.proof_world.world_lines.Done.{AreDone, events_of}
use Rattle.proof_chip.proofs.SpokenLines.{all_after, all_lines, all_may, lines_of}
use Rattle.proof_in_time.specs.proof_answered.proof_calm.Awaited.{Awaits}
use Rattle.proof_in_time.specs.proof_answered.proof_calm.proof_traffic.OnAir.{on_air}
use Rattle.proof_ready.specs.Ease.{AwaitsNothing}
use Rattle.proof_ready.proofs.calls.lines_await_calls.Goals as goal

module _ (c : goal.After-lines_make_requests) (keys : Keys) (devices : List State) (lines : List Spoken) (are : AreDone (first_machine keys (Some []) devices) lines) (nodes : AreNodes devices) where
  abbrev start : Machine
  start = first_machine keys (Some []) devices

  awaits : Awaits (after_all start lines)
  awaits =
      let events = events_of lines in
      let these = all_lines start lines are in
      let may = all_may start lines are in
      let asks = c.lines_keep_and_ask_well.ensures keys devices (lines_of lines) events these may in
      let goes = c.lines_make_requests.ensures.lines keys (Some []) devices (lines_of lines) events nodes these may asks.1 in
      subst Awaits (sym (all_after start lines))
      (record { course = _; log = _; follows = goes.follows.outside; each_call = goes.follows.facts.each_call; nodes = goes.follows.nodes })

-- no more are kept than were sent
few_kept : (m : Machine) → Awaits m → length m.outside.outer.air.frames.frames ≤ m.outside.outer.air.frames.sent
few_kept m awaits = by m.outside.outer.air.frames awaits.follows.fly
  where
    by : (frames : FramesState) → Fly awaits.log (on_air m.outside.outer.air.frames) frames → length frames.frames ≤ frames.sent
    by frames fly =
        let long = length-stamped [] awaits.log ∙ sym fly.history.sent in
        let some = ap (λ (fs : List Flown). length fs) fly.history.frames ∙ length-drop (frames.sent - kept frames.sent frames.landed) (flown_in awaits.log) in
        omega (arith, long, some)

-- a call that waits for no frame has a result that is due
no_calls : (calls : List Call) → flying_in (flags calls) ≡ 0 → without_frame (flags calls) ≡ 0 → calls ≡ []
no_calls [] flies left = refl
no_calls (OfFrame ∷ calls) flies left = absurd (let wrong = flies in omega (arith, wrong))
no_calls (NoRoute ∷ calls) flies left = absurd (let wrong = left in omega (arith, wrong))

none_awaited : (m : Machine) → Awaits m → on_air m.outside.outer.air.frames ≡ [] → m.outside.outer.due ≡ [] → AwaitsNothing m.outside.outer
none_awaited m awaits none due =
    let o : OuterState = m.outside.outer in
    let flies : flying_in (flags o.calls) ≡ 0 = sym awaits.follows.await.frames ∙ ap outward none in
    let left : without_frame (flags o.calls) ≡ 0 = sym awaits.follows.await.results ∙ ap no_routes_due due in
    let calls : o.calls ≡ [] = no_calls o.calls flies left in
    let many : 0 ≡ awaits.course.aborted + one_if awaits.course.sending =
    sym (ap (λ (cs : List Call). length (flags cs)) calls) ∙ (sym (ap (λ (bs : List Bool). length bs) awaits.follows.knows.calls) ∙ awaits.each_call) in
    record {
      sending = idle o.chip.state.sending awaits.course.sending awaits.follows.knows.sending (let some = many in omega (arith, some));
      aborted = sym awaits.follows.knows.aborted ∙ (let some = many in omega (arith, some));
      calls = calls;
    }
  where
    idle : {A : Type 0} (o : Option A) (b : Bool) → b ≡ is_some o → one_if b ≡ 0 → o ≡ None
    idle None b same zero_is = refl
    idle (Some a) true same zero_is = absurd (let wrong : 1 ≡ 0 = zero_is in omega (arith, wrong))
    idle (Some a) false same zero_is = absurd (let wrong : false ≡ true = same in cc)

pub returns-clause-awaits : goal.returns-clause-awaits
returns-clause-awaits c = λ keys devices lines are whole nodes. awaits c keys devices lines are nodes

pub returns-clause-sized : goal.returns-clause-sized
returns-clause-sized c = λ keys devices lines are whole nodes. few_kept (after_all (first_machine keys (Some []) devices) lines) (awaits c keys devices lines are nodes)

pub returns-clause-none : goal.returns-clause-none
returns-clause-none c = λ keys devices lines are whole nodes is due.
    none_awaited (after_all (first_machine keys (Some []) devices) lines) (awaits c keys devices lines are nodes) (c.calm_air_is_empty.ensures keys devices lines are whole is).none_flies due
