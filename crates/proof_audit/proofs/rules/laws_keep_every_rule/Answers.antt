-- Each rule by the laws that it needs, and the lines of the table.
use Rattle.law_transcript.specs.Nodes.{listing_of, always}
use Rattle.law_transcript.specs.Table.{table_of}
use Rattle.proof_audit.proofs.rules.laws_keep_every_rule.Goals as goal

pub returns : goal.returns
returns c = λ before after ticks transcript laws.
    let listing = listing_of before in
    let table = table_of (always listing) ticks transcript after in
    let are = c.a_table_is_its_lines.ensures listing ticks transcript after in
    record {
      sessions = c.sessions_are_in_order.ensures listing transcript table laws.host laws.asked are;
      once =
          c.changes_are_made_once.ensures before after transcript table laws.host laws.asked laws.headline laws.changes laws.groups laws.apart
          laws.kinds laws.whole laws.begun are;
      air =
          c.frames_keep_the_rule_of_the_air.ensures.table transcript table are
          (c.frames_keep_the_rule_of_the_air.ensures.run transcript laws.lines laws.numbers laws.fates laws.ticks);
      payload =
          c.carried_payloads_keep_their_rule.ensures.table transcript table are (c.carried_payloads_keep_their_rule.ensures.run transcript laws.carries);
      store = c.values_stand_after_success.ensures listing transcript table laws.host laws.asked laws.stores are;
      table = c.tables_are_as_due.ensures before after ticks transcript laws.host laws.asked laws.changes laws.shows;
    }
