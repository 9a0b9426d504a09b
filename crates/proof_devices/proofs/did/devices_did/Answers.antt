-- What is proved of each device, as one.
use Rattle.std.proofs.Common.{◌≡◌, ◌≢◌, ℕ, List, [], ◌∷◌, subst, ◌∙◌, arith}
use Rattle.std.specs.Prelude.{Some}
use Rattle.std.specs.List.{AllByRecursion}
use Rattle.zw_base.proofs.Each.{all-weaker}
use Rattle.device_sim.specs.State.{State}
use Rattle.zw_text.specs.declared.entry.Entry.{Entry}
use Rattle.zw_text.specs.declared.entry.Entry.TheVariants.{Said}
use Rattle.law_transcript.specs.Devices.{ChangedAsShown, RanAsShown}
use Rattle.law_transcript.specs.Headline.{IsAsMade}
use Rattle.law_transcript.specs.Nodes.{controller, device_of}
use Rattle.law_wire.specs.Doings.{DidSoFar}
use Rattle.world_lines.specs.Spoken.{after_all, transcript_of}
use Rattle.world_model.specs.State.{Machine, first_machine}
use Rattle.proof_host.proofs.Lists.{each-append}
use Rattle.proof_devices.proofs.AtOnce.{AreOfNodes, of_node}
use Rattle.proof_devices.proofs.Had.{Asks}
use Rattle.proof_devices.proofs.LastLine.{found_there, lines_go}
use Rattle.proof_devices.proofs.Whole.{stands_at}
use Rattle.proof_devices.proofs.did.devices_did.Goals as goal

-- no device as its maker left it is of the controller
made_apart : (key : List ℕ) (devices : List State) → AllByRecursion (IsAsMade key) devices → AreOfNodes devices
made_apart key devices made =
    all-weaker (IsAsMade key) (λ (device : State). device.node ≢ controller)
    (λ device is at.
    let many = is.from_two in
    let one : device.node ≡ 1 = at in
    absurd (omega (arith, many, one))) devices made

node_apart : (devices : List State) → AreOfNodes devices → (node : ℕ) (old : State) → device_of node devices ≡ Some old → node ≢ controller
node_apart devices others node old found =
    let was = stands_at node devices old found in λ is. of_node devices was.place old others was.stood (was.own ∙ is)

-- at the end of lines that were all run whole
did_in_the_end : (node : ℕ) (old new : State) (transcript : List Entry) → RanAsShown node transcript old new → DidSoFar node old transcript (Said [])
did_in_the_end node old new transcript ran = record {
  events = ran.events;
  came = ran.comes.came;
  lived = ran.comes.ticked;
  shows = subst (ChangedAsShown node transcript old) ran.runs ran.shows;
  answered = ran.answered;
}

pub returns-clause-whole : goal.returns-clause-whole
returns-clause-whole c = λ keys key texts devices lines are whole made apart.
    let m : Machine = first_machine keys (Some texts) devices in
    let others = made_apart key devices made in
    record {
      each = λ node old new before after. c.lines_run_as_shown.ensures keys texts devices lines are whole apart node old new (node_apart devices others node old before) before after;
      at_once = λ node old before.
          let other = node_apart devices others node old before in
          let new = found_there devices (after_all m lines).outside.devices node old (lines_go m lines) before in
          each-append (Asks node old) [] (transcript_of m lines) (Said [] ∷ []) (c.devices_do_at_once.ensures keys texts devices lines are apart others node old other before)
          (did_in_the_end node old new.0 (transcript_of m lines) (c.lines_run_as_shown.ensures keys texts devices lines are whole apart node old new.0 other before new.1), tt);
      alone = c.lines_are_done_by_devices.ensures keys (Some texts) devices lines are;
    }

pub returns-clause-cut : goal.returns-clause-cut
returns-clause-cut c = λ keys key texts devices lines more are are_more few made apart.
    let others = made_apart key devices made in
    record {
      each = λ node old new before after. c.lines_run_as_far.ensures keys texts devices lines more are are_more few apart node old new (node_apart devices others node old before) before after;
      at_once = λ node old before. c.devices_do_at_once.ensures keys texts devices lines are apart others node old (node_apart devices others node old before) before;
      alone = c.lines_are_done_by_devices.ensures keys (Some texts) devices lines are;
    }
