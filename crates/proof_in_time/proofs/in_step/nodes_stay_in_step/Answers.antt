-- The course of a node goes with the machine from event to event, and its device with the course.
use Rattle.std.proofs.Common.{◌≡◌, ◌<◌, ℕ, false, List, [], refl, Some, subst}
use Rattle.std.specs.List.{AllByRecursion}
use Rattle.zw_base.proofs.Each.{all-weaker}
use Rattle.zw_text.specs.declared.line.Line.{Line}
use Rattle.s0_crypto.specs.declared.key_pair.Keys.{Keys}
use Rattle.device_kinds.specs.Kind.{lists}
use Rattle.device_kinds.specs.declared.kind.Kind.{Kind}
use Rattle.device_sim.specs.State.{State}
use Rattle.world_model.specs.Did.{AllAlong}
use Rattle.world_model.specs.Events.{Event}
use Rattle.world_model.specs.State.{Machine, first_machine}
use Rattle.world_lines.specs.Done.{AreDone, IsRead, events_of}
use Rattle.world_lines.specs.Spoken.{Spoken}
use Rattle.proof_course.specs.Sessions.{first_course}
use Rattle.proof_course_plain.specs.Mesh.{HasDevice}
use Rattle.proof_course_plain.specs.World.{NamesEnd, OrdersPlain}
use Rattle.proof_course_plain.proofs.Runs.{nodes_of}
use Rattle.proof_spoken.proofs.DevicePlaces.{go_none}
use Rattle.proof_spoken.proofs.SpokenLines.{all_lines, all_may, all_read, lines_of}
use Rattle.proof_in_time.specs.InStep.{GoesInStep, HasInStep, IsNearAt, StaysInStep}
use Rattle.proof_in_time.proofs.Stepping.{Laws, along}
use Rattle.proof_in_time.proofs.in_step.nodes_stay_in_step.Goals as goal

module _ (c : goal.After-worlds_follow_the_course) where
  laws : Laws
  laws = record {
    event = c.worlds_follow_the_course.ensures.event;
    held = c.restarts_go_on.ensures.each;
    go = c.devices_go_on.ensures.each;
    same = c.devices_stay_the_same.ensures.all;
  }

  module _ (n : ℕ) (keys : Keys) (devices : List State) (lines : List Spoken) (within : n < 233) (has : HasDevice n first_course devices) (orders : AllByRecursion (OrdersPlain n) (events_of lines))
      (are : AreDone (first_machine keys (Some []) devices) lines) where
    run : (Stays : Machine → Event → Type 0) → ((m : Machine) (event : Event) (is : HasInStep n m) → has.device.kind ≡ is.device.kind → IsNearAt n event → Stays m event)
        → AllAlong Stays (first_machine keys (Some []) devices) (events_of lines)
    run Stays stays =
        let m : Machine = first_machine keys (Some []) devices in
        let events : List Event = events_of lines in
        let said : List Line = lines_of lines in
        let whole = all_lines m lines are in
        let may = all_may m lines are in
        let names = all-weaker IsRead NamesEnd (λ line read. c.lines_ask_plainly.ensures.text read.0 line read.1) said (all_read m lines are) in
        let well = c.lines_keep_and_ask_well.ensures keys devices said events whole may in
        let writes = c.hosts_write_well.ensures.run keys (Some []) devices events may well.1 in
        let rests = c.units_are_judged_whole.ensures.lines keys (Some []) devices said events whole may writes in
        let few = c.at_most_two_are_on_the_air.ensures.always keys (Some []) devices said events (nodes_of devices has.nodes) whole may well.1 in
        let asks = c.lines_ask_plainly.ensures.plain n said m events names whole orders in
        let ends = c.lines_ask_plainly.ensures.ends n said m events whole in
        along laws n within devices has Stays stays [] first_course [] [] m events (c.lines_have_a_course.ensures.first n keys (Some []) devices within has)
        (c.restarts_go_on.ensures.first keys (Some []) refl) may rests.at_rest writes few well.0 asks ends (go_none devices)

pub returns-clause-along : goal.returns-clause-along
returns-clause-along c = λ n keys devices lines within plain are.
    run c n keys devices lines within plain.at_first plain.orders are (GoesInStep n)
    (λ m event is kind near. record { step = is; whole = subst (λ (k : Kind). lists k 0x55 ≡ false) kind plain.whole; near = near })

pub returns-clause-openly : goal.returns-clause-openly
returns-clause-openly c = λ n keys devices lines bare are.
    run c n keys devices lines bare.within bare.at_first bare.orders are (StaysInStep n) (λ m event is kind near. record { step = is; near = near })
