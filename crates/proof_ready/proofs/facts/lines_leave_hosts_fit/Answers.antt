-- Each event keeps the facts of the host, and what it has to write short.
use Rattle.std.proofs.Common.{List, [], ◌∷◌, sym, subst}
use Rattle.std.specs.Prelude.{Some}
use Rattle.proof_chip.specs.proof_world.proof_serial.Host.{AllAskWell}
use Rattle.proof_chip.specs.proof_line.world_model.Did.{MayAll, happens_all}
use Rattle.proof_chip.specs.proof_line.world_model.Events.{Event, happens}
use Rattle.proof_chip.specs.proof_line.world_model.State.{Machine, first_machine}
use Rattle.proof_chip.specs.proof_world.world_lines.Spoken.{after_all}
use Rattle.proof_chip.specs.proof_world.world_lines.Done.{events_of}
use Rattle.proof_chip.proofs.SpokenLines.{all_after, all_lines, all_may, lines_of}
use Rattle.proof_in_time.proofs.HostRuns.{FactsKept, IsFit, OpenedFacts, event_writes, first_fits}
use Rattle.proof_in_time.proofs.HostFits.{SegmentsShort, StartsShort}
use Rattle.proof_ready.proofs.facts.lines_leave_hosts_fit.Goals as goal

module _ (starts : StartsShort) (segments : SegmentsShort) (kept : FactsKept) (opened : OpenedFacts) where
  all_fit : (m : Machine) (events : List Event) → IsFit m.host.state → MayAll m events → AllAskWell m events → IsFit (happens_all m events).host.state
  all_fit m [] fit may asks = fit
  all_fit m (event ∷ events) fit may asks = all_fit (happens m event) events (event_writes starts segments kept opened m event fit may.0 asks.0).1 may.1 asks.1

pub returns : goal.returns
returns c = λ keys devices lines are whole.
    let m = first_machine keys (Some []) devices in
    let events = events_of lines in
    let may = all_may m lines are in
    let asks = c.lines_keep_and_ask_well.ensures keys devices (lines_of lines) events (all_lines m lines are) may in
    let fit : IsFit (happens_all m events).host.state =
    all_fit c.attempts_have_what_they_give.ensures.first_payload c.attempts_have_what_they_give.ensures.segment_payload c.facts_are_kept.ensures.each c.a_restart_keeps_what_is_held.ensures.opened_facts m events
    (record { facts = c.facts_are_kept.ensures.first keys; fits = first_fits keys }) may asks.1 in
    let after : IsFit (after_all m lines).host.state = subst (λ (n : Machine). IsFit n.host.state) (sym (all_after m lines)) fit in
    (after.facts, after.fits)
