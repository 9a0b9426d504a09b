-- The facts of the host go with the lines: so the table has each command as it was carried, and the entries tell which are not over.
use Rattle.std.proofs.Common.{List, [], Some, refl, sym, subst, ◌∙◌, ap}
use Rattle.zw_base.proofs.Each.{all-weaker}
use Rattle.chip_sim.specs.Nodes.{is_marked}
use Rattle.zw_text.specs.declared.entry.Entry.{Entry}
use Rattle.zw_text.specs.declared.line.Line.{Line}
use Rattle.law_transcript.specs.Nodes.{always, listing_of}
use Rattle.world_model.specs.Events.{Event}
use Rattle.world_model.specs.State.{Machine, first_machine}
use Rattle.world_lines.specs.Spoken.{after_all, transcript_of}
use Rattle.world_lines.specs.Done.{IsRead, events_of}
use Rattle.proof_course_plain.specs.World.{ComesOfLine, NamesEnd as LineNamesEnd}
use Rattle.proof_course_plain.proofs.HeardPayloads.{lines_end}
use Rattle.proof_host.specs.Facts.{Facts}
use Rattle.proof_spoken.proofs.SpokenLines.{all_after, all_lines, all_may, all_read, lines_of}
use Rattle.proof_in_time.proofs.Commands.{AllGo, AreNearAt}
use Rattle.proof_in_time.proofs.Endings.{lines_keep_facts}
use Rattle.proof_in_time.proofs.GoingWhole.{IsAnything, comes_near, none_go}
use Rattle.proof_in_time.proofs.SealedOrders.{NamesEnd, all_near, go_sealed}
use Rattle.proof_in_time.proofs.orders.commands_go_sealed.Goals as goal

pub returns : goal.returns
returns c = λ these n keys devices lines marked within are secure knew.
    let m : Machine = first_machine keys (Some []) devices in
    let past : List Entry = transcript_of m lines in
    let events : List Event = events_of lines in
    let said : List Line = lines_of lines in
    let whole = all_lines m lines are in
    let may = all_may m lines are in
    let well = c.lines_keep_and_ask_well.ensures keys devices said events whole may in
    let starts =
    (c.restarts_go_on.ensures.all [] m events (c.the_machine_keeps_facts.ensures.first keys (Some []) devices) (c.restarts_go_on.ensures.first keys (Some []) refl) may well.0).0 in
    let names = all-weaker IsRead LineNamesEnd (λ line read. c.lines_ask_plainly.ensures.text read.0 line read.1) said (all_read m lines are) in
    let comes = lines_end (Unit {0}) IsAnything (λ classes word. tt) (λ classes end near. tt) 0 said (λ near. names) m events whole in
    let near = all-weaker (ComesOfLine (Unit {0}) IsAnything 0) (AreNearAt these) (comes_near these) events comes in
    let ends : AllGo NamesEnd these (after_all m lines).host.state.commands =
    subst (λ (k : Machine). AllGo NamesEnd these k.host.state.commands) (sym (all_after m lines)) (all_near these m events may starts near (none_go NamesEnd these)) in
    let spoken = c.lines_tell_what_nodes_list.ensures.spoken keys devices lines are in
    let tells = c.lines_tell_what_nodes_list.ensures.tell keys devices lines are in
    let knows = c.interviews_give_what_is_known.ensures.lines (listing_of devices) [] m lines spoken tells (c.interviews_give_what_is_known.ensures.first (listing_of devices) keys) in
    let are_said = (c.answers_stand_after_their_lines.ensures.lines (listing_of devices) [] m lines (c.the_machine_keeps_facts.ensures.first keys (Some []) devices) tt knows spoken).1 in
    let facts : Facts past (after_all m lines).host.state =
    lines_keep_facts c.asides_keep_facts.ensures c.the_machine_keeps_facts.ensures.all [] m lines spoken (c.the_machine_keeps_facts.ensures.first keys (Some []) devices) in
    let laws_are = c.laws_follow.ensures.laws past (after_all m lines).host.state facts in
    go_sealed n within (listing_of devices) past (after_all m lines).host.state facts (laws_are.accepted n)
    (λ number taken has is. (c.orders_are_carried_as_said.ensures (always (listing_of devices)) past (after_all m lines).host.state n number taken facts are_said has is).1)
    (λ number command found own. ends number command found (ap (is_marked these) own ∙ marked)) secure knew
