use Rattle.std.proofs.Common.{List, [], Some, refl, sym, ap, subst, ◌∙◌}
use Rattle.s0_crypto.specs.declared.key_pair.Keys.{Keys}
use Rattle.device_kinds.specs.Kind.{lists}
use Rattle.s0_crypto.specs.Sealing.{keys_of}
use Rattle.device_kinds.specs.declared.kind.Kind.{Kind}
use Rattle.proof_headline.specs.proof_device.GoingOn.{AreSame, GoOn}
use Rattle.proof_headline.proofs.ShownChanges.{adds_by, stays_apart}
use Rattle.law_transcript.specs.Nodes.{listing_of}
use Rattle.world_model.specs.State.{Machine, first_machine}
use Rattle.world_lines.specs.Spoken.{Spoken, after_all}
use Rattle.world_lines.specs.Done.{events_of}
use Rattle.proof_transcript.proofs.SpokenLines.{all_after, all_lines, all_may, lines_of}
use Rattle.proof_headline.specs.Supervised.{IsSupervisedNode}
use Rattle.proof_headline.proofs.PlainTying.{was_there}
use Rattle.proof_audit.proofs.BegunChanges.{all-begun}
use Rattle.proof_audit.proofs.ChangesWalk.{lines-so}
use Rattle.proof_audit.proofs.UnsupervisedDevices.{set-by-supervised}
use Rattle.proof_audit.proofs.WholeChanges.{no-pieces}
use Rattle.proof_audit.proofs.books.sessions_begin_before_changes.Goals as goal

-- ---- the headline of each lines

pub returns : goal.returns
returns c = λ key devices lines made apart done.
    let keys : Keys = keys_of key in
    let first : Machine = first_machine keys (Some []) devices in
    let adds = adds_by c.when_changes_come.ensures.heard c.when_changes_come.ensures.ticked c.when_changes_come.ensures.woken c.when_changes_come.ensures.by_hand in
    let same : ((said : List Spoken) → AreSame devices (after_all first said).outside.devices) =
    λ said. subst (λ (m : Machine). AreSame devices m.outside.devices) (sym (all_after first said)) (c.runs_take_once.ensures.same keys (Some []) devices (events_of said)) in
    all-begun first (listing_of devices)
    (λ said node device are found knows.
    let was = was_there node devices (after_all first said).outside.devices device (same said) found in
    let node_is : IsSupervisedNode devices node = record { device = was.before; first = was.found; supervised = ap (λ (k : Kind). lists k 0x6C) (sym was.kind) ∙ knows } in
    c.nodes_have_the_headline.ensures keys devices said said node device
    (c.supervised_nodes_are_plain_or_locks.ensures key devices (lines_of said) (events_of said) node made (all_lines first said are) (all_may first said are) node_is)
    (c.devices_as_made_begin_courses.ensures.unchanged key devices made) are are refl found knows)
    (λ said are. lines-so adds [] first said are (no-pieces devices))
    (λ said are. stays_apart devices (after_all first said).outside.devices (same said) apart)
    (λ said are. set-by-supervised key devices (after_all first said).outside.devices made
    (subst (λ (m : Machine). GoOn devices m.outside.devices) (sym (all_after first said)) (c.devices_go_on.ensures.all first (events_of said))))
    lines done
