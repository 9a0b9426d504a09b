-- Between quiet lines a course of the host's requests is where the machine is, and so the chip sends one payload at most.
use Rattle.std.proofs.Common.{◌≡◌, ◌+◌, Bool, true, false, inl, inr, List, [], ◌∷◌, ◌++◌, length, refl, sym, ap, ◌∙◌, arith}
use Rattle.std.specs.Prelude.{◌⊎◌}
use Rattle.std.specs.Option.{is_some}
use Rattle.serial_frame.specs.declared.item.Item.{Item}
use Rattle.air_frames.specs.History.{Mark}
use Rattle.zw_text.specs.declared.line.Line.{Line}
use Rattle.outside_model.specs.declared.waits.Call.{Call}
use Rattle.outside_model.specs.State.{OuterState}
use Rattle.world_model.specs.State.{Machine}
use Rattle.world_model.specs.Events.{Event, Outside_does, Host_does, Host_takes, Decoder_ticks, Refuses, Shows_values, Restarts, happens}
use Rattle.world_model.specs.Did.{happens_all, MayAll, AllAlong}
use Rattle.world_model.specs.Prefixes.{LinePart}
use Rattle.world_lines.specs.Spoken.{Spoken, after, after_all}
use Rattle.world_lines.specs.Done.{AreDone, events_of}
use Rattle.world_lines.specs.Whole.{AreWhole}
use Rattle.proof_work.proofs.Where.{along_parts}
use Rattle.proof_serial.specs.Host.{AllAskWell}
use Rattle.proof_serial.specs.Line.{WritesWell, AllWriteWell}
use Rattle.proof_waking.specs.proof_traffic.Requests.{Traffic}
use Rattle.proof_waking.specs.proof_traffic.Facts.{one_if, flying_in}
use Rattle.proof_waking.specs.proof_traffic.OutsideTraffic.{flags, no_routes_due, without_frame}
use Rattle.proof_waking.specs.proof_traffic.OnAir.{hosts_on_air}
use Rattle.proof_waking.specs.proof_traffic.Course.{Follows, Goes}
use Rattle.proof_calm.specs.Settling.{IsServed}
use Rattle.proof_calm.specs.Awaited.{Awaits}
use Rattle.proof_calm.specs.Resting.{LineRests}
use Rattle.proof_calm.specs.Sending.{SendsNothing, SendsOne, SendsFew, IsFollowed}

-- ---- where the line rests

module _ (o : OuterState) (sends : Bool) (is : is_some o.chip.state.sending ≡ sends) where
  pub by_calls : (calls : List Call) → o.calls ≡ calls → length (flags calls) ≡ one_if sends → hosts_on_air o ≡ flying_in (flags calls) → no_routes_due o.due ≡ without_frame (flags calls)
      → SendsNothing o ⊎ SendsOne o
  by_calls = by sends is
    where
      by : (b : Bool) → is_some o.chip.state.sending ≡ b → (calls : List Call) → o.calls ≡ calls → length (flags calls) ≡ one_if b → hosts_on_air o ≡ flying_in (flags calls)
          → no_routes_due o.due ≡ without_frame (flags calls) → SendsNothing o ⊎ SendsOne o
      by false none [] are many flies due = inl (record { not_sending = none; no_call = are; none_flies = flies; none_due = due })
      by false none (call ∷ calls) are many flies due = absurd (let no : length (flags calls) + 1 ≡ 0 = omega (arith, many) in omega (arith, no))
      by true one [] are many flies due = absurd (let no : 0 ≡ 1 = many in omega (arith, no))
      by true one (call ∷ []) are many flies due =
          inr (record { sending = one; call = call; one_call = are; flies = omega (arith, flies); due = omega (arith, due) })
      by true one (call ∷ (next ∷ calls)) are many flies due = absurd (let no : length (flags calls) + 2 ≡ 1 = omega (arith, many) in omega (arith, no))

-- by what is outside the host
pub awaits_few : (m : Machine) → Awaits m → LineRests m → SendsFew m
awaits_few m is line =
    let o : OuterState = m.outside.outer in
    let knows = is.follows.knows in
    let none : is.course.aborted ≡ 0 = knows.aborted ∙ line.at_chip.none_given_up in
    let many : length (flags o.calls) ≡ is.course.aborted + one_if is.course.sending = ap (λ (l : List Bool). length l) (sym knows.calls) ∙ is.each_call in
    let same : one_if is.course.sending ≡ one_if (is_some o.chip.state.sending) = ap one_if knows.sending in
    let each : length (flags o.calls) ≡ one_if (is_some o.chip.state.sending) = omega (arith, many, same, none) in
    by_calls o (is_some o.chip.state.sending) refl o.calls refl each is.follows.await.frames is.follows.await.results

pub rests_few : (t : Traffic) (log : List Mark) (up down : List Item) (m : Machine) → Follows t log up down m → LineRests m → SendsFew m
rests_few t log up down m follows line =
    awaits_few m (record { course = t; log = log; follows = follows.outside; each_call = follows.facts.each_call; nodes = follows.nodes }) line

-- ---- over lines

writes_well : (m : Machine) (event : Event) → IsServed m event → WritesWell m event
writes_well m (Outside_does event) served = tt
writes_well m (Host_does event) served = served
writes_well m (Host_takes count rest items events) served = served
writes_well m Decoder_ticks served = served
writes_well m (Refuses line refusal) served = served
writes_well m (Shows_values node) served = served
writes_well m (Restarts state) served = served

all_well : (m : Machine) (events : List Event) → AllAlong IsServed m events → AllWriteWell m events
all_well m [] served = tt
all_well m (event ∷ events) served = (writes_well m event served.0, all_well (happens m event) events served.1)

ask_parts : (m : Machine) (a b : List Event) → AllAskWell m (a ++ b) → AllAskWell m a × AllAskWell (happens_all m a) b
ask_parts m [] b asks = (tt, asks)
ask_parts m (event ∷ a) b asks = let more = ask_parts (happens m event) a b asks.1 in ((asks.0, more.0), more.1)

module _ (line_goes : (line : Line) (t : Traffic) (log : List Mark) (up down : List Item) (m : Machine) (events : List Event) → Follows t log up down m → LinePart line m events → MayAll m events
    → AllWriteWell m events → AllAskWell m events → Goes t log m events) where
  pub lines_follow : (m : Machine) (lines : List Spoken) → AreDone m lines → AreWhole m lines → AllAlong IsServed m (events_of lines) → AllAskWell m (events_of lines) → IsFollowed m
      → IsFollowed (after_all m lines)
  lines_follow m [] are whole served asks followed = followed
  lines_follow m (line ∷ more) are whole served asks followed =
      let serves = along_parts IsServed m line.events (events_of more) served in
      let ask = ask_parts m line.events (events_of more) asks in
      let goes : Goes followed.course followed.log m line.events =
      line_goes line.line followed.course followed.log followed.up followed.down m line.events followed.follows (inl whole.0) are.0.may (all_well m line.events serves.0) ask.0 in
      lines_follow (after m line) more are.1 whole.1 serves.1 ask.1 (record { course = _; log = _; up = goes.up; down = goes.down; follows = goes.follows })
