-- What the chip waits for, and which nodes it counts as failed, by the events at which no frame arrives or is heard again, no result comes and the chip takes nothing: it stays.
use Rattle.std.proofs.Common.{ℕ, Bool, List, refl, ap}
use Rattle.chip_sim.specs.State.{ChipState}
use Rattle.zw_text.specs.declared.entry.Entry.{Entry}
use Rattle.outside_model.specs.State.{Outside}
use Rattle.outside_model.specs.Events.{OuterEvent, outcome}
use Rattle.proof_devices.specs.proof_air.proof_walk.Outside.{nothing}
use Rattle.proof_devices.specs.proof_air.Logs.{Tie}
use Rattle.proof_devices.proofs.Times.{outcome_time}
use Rattle.proof_chip.proofs.Arrivals.{NoNexting}
use Rattle.proof_chip.proofs.Parts.{Laws}
use Rattle.proof_chip.proofs.Asides.{IsHosts, IsSteady}
use Rattle.proof_chip.proofs.Mild.{outcome_keeps, outcome_sending}
use Rattle.proof_chip.proofs.Steady.{hosts_chip, hosts_stay, hosts_within, steady_mild, steady_stays, steady_within}
use Rattle.proof_answers.proofs.Standing.{SameOwing}

pub steady_owing : (laws : Laws) (none : NoNexting) (past : List Entry) (w : Outside) → Tie nothing past w → (event : OuterEvent) → IsSteady event → SameOwing w.outer (outcome w event).outer
steady_owing laws none past w tie event steady =
    let stays = steady_stays laws none past w tie event steady in
    let mild = steady_mild laws none past w tie event steady in
    record {
      clock = ap (λ (t : Bool × Bool × ℕ). t.2) (outcome_time w event (steady_within laws none past w tie event steady));
      sending = outcome_sending w event mild;
      failing = outcome_keeps (λ (s : ChipState). s.failing)
          (record { joined = λ s node listening. refl; linked = λ s a b live. refl; ticked = λ s. refl; heard = λ s node payload. refl; collides = λ s. refl }) w event mild;
      calls = stays.calls;
      due = stays.due;
    }

pub hosts_owing : (w : Outside) (event : OuterEvent) → IsHosts event → SameOwing w.outer (outcome w event).outer
hosts_owing w event is =
    let stays = hosts_stay w event is in
    record {
      clock = ap (λ (t : Bool × Bool × ℕ). t.2) (outcome_time w event (hosts_within event is));
      sending = ap (λ (s : ChipState). s.sending) (hosts_chip w event is);
      failing = ap (λ (s : ChipState). s.failing) (hosts_chip w event is);
      calls = stays.calls;
      due = stays.due;
    }
