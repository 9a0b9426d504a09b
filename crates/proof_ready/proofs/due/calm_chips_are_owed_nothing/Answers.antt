-- No result is due to the chip where it tells of none by the transcript, and none of its frames waits.
use Rattle.std.proofs.Common.{◌≡◌, true, List, [], sym, subst, arith}
use Rattle.std.specs.Prelude.{Some}
use Rattle.s0_crypto.specs.declared.key_pair.Keys.{Keys}
use Rattle.serial_link.specs.declared.turn.Turn.{Turn}
use Rattle.zw_text.specs.declared.entry.Entry.{Entry}
use Rattle.law_wire.specs.Arriving.{MayLand}
use Rattle.law_wire.specs.law_transcript.Lists.{EachAfter}
use Rattle.law_time.specs.Calm.{owes_no_call}
use Rattle.proof_rests.specs.proof_attempts.proof_host.device_sim.State.{State}
use Rattle.proof_chip.specs.proof_world.world_lines.chip_sim.Rules.{WaitsWhileBusy}
use Rattle.proof_chip.specs.proof_line.world_model.State.{Machine, first_machine}
use Rattle.proof_chip.specs.proof_world.world_lines.Spoken.{Spoken, after_all, transcript_of}
use Rattle.proof_chip.specs.proof_world.world_lines.Done.{AreDone}
use Rattle.proof_chip.specs.proof_world.world_lines.Whole.{AreWhole}
use Rattle.proof_chip.specs.proof_line.proof_walk.Phases.{Phase}
use Rattle.proof_chip.specs.proof_line.proof_walk.Time.{KnowTime, MayCount}
use Rattle.proof_chip.specs.proof_line.proof_walk.Walk.{Walk, WalkOver, both_know}
use Rattle.proof_chip.proofs.Lines.{lines_lead}
use Rattle.proof_chip.proofs.Over.{over}
use Rattle.proof_devices.specs.proof_air.Hearing.{KnowAir, MayHear}
use Rattle.proof_devices.specs.proof_air.Landing.{KnowLanding}
use Rattle.proof_chip.specs.Calling.{KnowCalls}
use Rattle.proof_chip.specs.Knowing.{AnyEntry}
use Rattle.proof_chip.specs.Told.{KnowResults, KnowTold, ToldBefore}
use Rattle.proof_ready.specs.Ease.{clock_of}
use Rattle.proof_ready.proofs.Grounds.{KnowBase, KnowLanded, landed_walk}
use Rattle.proof_ready.proofs.Owed.{all_before}
use Rattle.proof_ready.proofs.due.calm_chips_are_owed_nothing.Goals as goal

abbrev KnowCalled : Phase → List Entry → Machine → Type 0
KnowCalled = both_know KnowLanded KnowCalls

abbrev KnowOwed : Phase → List Entry → Machine → Type 0
KnowOwed = both_know KnowCalled KnowTold

-- one walk over another
module _ (history : Walk MayHear KnowAir) (time : Walk MayCount KnowTime) (landing : WalkOver KnowBase MayLand KnowLanding) (calls : WalkOver KnowAir AnyEntry KnowCalls)
    (told : WalkOver KnowResults AnyEntry KnowTold) where
  called_walk : Walk AnyEntry KnowCalled
  called_walk =
      over MayLand AnyEntry KnowLanded KnowCalls (landed_walk history time landing) (record {
        said = λ past m words line read ground known. calls.said past m words line read ground.0.0 known;
        event = λ here next past m event goes may ground known. calls.event here next past m event goes may ground.0.0 known;
        turn = λ here next past m turns ground known. calls.turn here next past m turns ground.0.0 known;
      })

  owed_walk : Walk AnyEntry KnowOwed
  owed_walk =
      over AnyEntry AnyEntry KnowCalled KnowTold called_walk (record {
        said = λ past m words line read ground known. told.said past m words line read (ground.0.1, ground.1) known;
        event = λ here next past m event goes may ground known. told.event here next past m event goes may (ground.0.1, ground.1) known;
        turn = λ here next past m turns ground known. told.turn here next past m turns (ground.0.1, ground.1) known;
      })

module _ (c : goal.After-results_are_told) (keys : Keys) (devices : List State) (lines : List Spoken) (are : AreDone (first_machine keys (Some []) devices) lines)
    (whole : AreWhole (first_machine keys (Some []) devices) lines) where
  abbrev start : Machine
  start = first_machine keys (Some []) devices

  none_due : owes_no_call (transcript_of start lines) (clock_of (transcript_of start lines)) ≡ true → (after_all start lines).outside.outer.chip.state.port.waiting ≡ []
      → (after_all start lines).outside.outer.due ≡ []
  none_due owes waits =
      let past : List Entry = transcript_of start lines in
      let m : Machine = after_all start lines in
      let known =
      (lines_lead AnyEntry KnowOwed
      (owed_walk c.history_goes_on.ensures.walk c.time_goes_on.ensures.walk c.landings_go_on.ensures.walk c.calls_go_on.ensures.walk c.results_are_told.ensures.walk) [] start lines are whole (
        (
          ((c.history_goes_on.ensures.first keys (Some []) devices, c.time_goes_on.ensures.first keys (Some []) devices), c.landings_go_on.ensures.first keys (Some []) devices),
          c.calls_go_on.ensures.first keys (Some []) devices,
        ),
        c.results_are_told.ensures.first keys (Some []) devices,
      )).1 in
      let time = known.0.0.0.1.0.0.clock in
      let now : m.outside.outer.clock ≡ clock_of past = omega (arith, time) in
      c.results_are_told.ensures.none past m known.1 (subst (λ (n : _). EachAfter (ToldBefore n) [] past) (sym now) (all_before (clock_of past) [] past owes)) waits

pub returns-clause-none : goal.returns-clause-none
returns-clause-none c = λ keys devices lines are whole owes waits. none_due c keys devices lines are whole owes waits

pub returns-clause-idle : goal.returns-clause-idle
returns-clause-idle c = λ keys devices lines are whole owes moves idle.
    let m : Machine = after_all (first_machine keys (Some []) devices) lines in
    let waits = (c.calm_hosts_have_heard_all.ensures.host keys devices lines are whole moves).waits.busy in
    none_due c keys devices lines are whole owes (subst (λ (turn : Turn). WaitsWhileBusy turn m.outside.outer.chip.state.port.waiting) idle waits)
