-- Where a line or tick begins: if the chip was given no fewer frames than it has for the host by the transcript, at most 32 of these wait, and none where its link is idle.
use Rattle.std.proofs.Common.{◌≡◌, ◌≤◌, ℕ, List, [], length, sym, ap, ◌∙◌, subst, append-nil, arith}
use Rattle.serial_frame.specs.Frame.{FrameParts}
use Rattle.serial_link.specs.Rules.{Step}
use Rattle.serial_link.specs.declared.turn.Turn.{Turn}
use Rattle.chip_sim.specs.Rules.{WaitsWhileBusy}
use Rattle.chip_sim.specs.Waiting.{PortState}
use Rattle.zw_text.specs.declared.entry.Entry.{Entry}
use Rattle.law_wire.specs.Asked.{Course, course_of}
use Rattle.law_wire.specs.Given.{given}
use Rattle.law_wire.specs.Answering.{IsIdleAfter, begun, most_waiting, waiting}
use Rattle.outside_model.specs.Devices.{State}
use Rattle.proof_chip.specs.Serving.{GoesOn, Serves, submitted_in}
use Rattle.proof_chip.proofs.Growing.{many_frames}
use Rattle.proof_chip.proofs.Picking.{begun_later}
use Rattle.proof_chip.proofs.Submitting.{as_many}
use Rattle.proof_chip.proofs.Turning.{idle_alike}

pub goes_none : (course : Course) → GoesOn course course
goes_none course = record { frames = []; flags = []; passed = sym (append-nil course.passed); firsts = sym (append-nil course.firsts) }

module _ (devices : List State) (steps : List Step) (frames : List FrameParts) (past : List Entry) (port : PortState) (serves : Serves steps frames past port)
    (later : Course) (goes : GoesOn (course_of steps) later) (given_few : length (given devices later past) ≤ length frames) where
  started : length (begun later past) ≡ length (submitted_in steps)
  started =
      ap (λ (l : List (List ℕ)). length l)
      (begun_later (course_of steps) later goes.flags goes.firsts past (let same = ap (λ (l : List (List ℕ)). length l) serves.units ∙ sym (as_many steps) in omega (arith, same)) ∙ serves.starts)
      ∙ many_frames (submitted_in steps)

  pub few_stand : waiting devices later past ≤ most_waiting
  few_stand = let count = serves.count in let few = serves.waits.few in let begun_so = started in omega (arith, count, few, begun_so, given_few)

  -- a link that is idle by any account has none that wait
  none_wait : IsIdleAfter steps → port.waiting ≡ []
  none_wait (side, obeys, idle) = subst (λ (turn : Turn). WaitsWhileBusy turn port.waiting) (idle_alike steps side port.side obeys serves.obeys idle) serves.waits.busy

  pub none_stand : IsIdleAfter steps → waiting devices later past ≡ 0
  none_stand idle =
      let count = serves.count in
      let none = ap (λ (l : List FrameParts). length l) (none_wait idle) in
      let begun_so = started in
      omega (arith, count, none, begun_so, given_few)
