-- The sealed text, or the next segment.
use Rattle.std.proofs.Common.{rules, ◌≡◌, ℕ, List, ap, subst}
use Rattle.std.specs.Prelude.{Option, None}
use Rattle.host_model.specs.State.{HostParts, node_of}
use Rattle.host_step_bytes.specs.Calls.{DoesAlone, One}
use Rattle.host_model.specs.Pumping.{GivesNext}
use Rattle.host_core.proofs.Served.{text_given}
use Rattle.host_core.proofs.pumping.go_on.Goals as goal

pub returns-in_ok-give_text-in-Some-clause-ok : goal.returns-in_ok-give_text-in-Some-clause-ok
returns-in_ok-give_text-in-Some-clause-ok c =
    text_given c.args.core.now.state c.args.node (node_of c.args.core.now.state c.args.node).text c.unwrap-payload.result c.give_text.new.self.state c.args.out.now.items c.give_text.new.out.items
    (search rules) (search rules)
    (ap (λ (p : HostParts). p.state) c.in_ok-give_text-in-Some.ensures.state) c.in_ok-give_text-in-Some.ensures.outs

pub returns-in_ok-give_segment-in-None-clause-ok : goal.returns-in_ok-give_segment-in-None-clause-ok
returns-in_ok-give_segment-in-None-clause-ok c =
    let none : ◌≡◌ {A = Option (List ℕ)} None (node_of c.args.core.now.state c.args.node).text = search rules in
    subst (λ (o : Option (List ℕ)). DoesAlone (One (GivesNext c.args.core.now.state c.args.node o)) c.args.core.now.state c.args.out.now.items c.give_segment.new.core.state c.give_segment.new.out.items)
    none c.in_ok-give_segment-in-None.ensures.ok
