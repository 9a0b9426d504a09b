-- Each node that may be asked is such, so each supervised device is tied and each success of its node is true.
use Rattle.std.proofs.Common.{List, [], Some, inr, ap, sym, subst, ◌∙◌}
use Rattle.device_kinds.specs.Kind.{lists}
use Rattle.device_kinds.specs.declared.kind.Kind.{Kind}
use Rattle.device_sim.specs.State.{State}
use Rattle.proof_spoken.specs.proof_device.GoingOn.{GoOn}
use Rattle.host_model.specs.State.{HostState}
use Rattle.world_model.specs.State.{Machine, first_machine}
use Rattle.proof_spoken.specs.proof_once.Tied.{AreTied}
use Rattle.world_lines.specs.Spoken.{after_all}
use Rattle.world_lines.specs.Done.{events_of}
use Rattle.proof_spoken.proofs.SpokenLines.{all_after}
use Rattle.proof_headline.proofs.PlainTying.{was_there}
use Rattle.proof_headline.proofs.nodes.askable_nodes_have_the_headline.Goals as goal

pub returns : goal.returns
returns c = λ keys devices lines further is is_further unchanged done on same.
    let m = first_machine keys (Some []) devices in
    let end : List State = (after_all m further).outside.devices in
    let goes : GoOn devices end = subst (λ (x : Machine). GoOn devices x.outside.devices) (sym (all_after m further)) (c.devices_go_on.ensures.all m (events_of further)) in
    c.lines_have_the_headline.ensures.whole keys devices lines further unchanged done
    (λ node askable. c.nodes_are_tied.ensures.truth keys devices lines node (is node askable) done)
    (λ node device found knows.
    let was = was_there node devices end device (c.devices_stay_the_same.ensures.all devices end goes) found in
    subst (λ (h : HostState). AreTied h node device) same (c.nodes_are_tied.ensures.tied keys devices further node device
    (is_further node (inr (was.before, was.found, ap (λ (k : Kind). lists k 0x6C) (sym was.kind) ∙ knows))) on found))
