-- Its entries are read back, and it keeps the laws by which each rule is kept.
use Rattle.std.proofs.Common.{false, subst}
use Rattle.run_lines.specs.declared.status.Status.{Status}
use Rattle.proof_commands.specs.Sim.{Tells}
use Rattle.proof_commands.proofs.KeptRules.{Keeping, answers}
use Rattle.proof_commands.proofs.ReadBack.{ReadingBack}
use Rattle.proof_commands.proofs.sim.runs_are_in_order.Goals as goal

pub returns : goal.returns
returns c = λ ended key old new is story unentered tells good.
    let back : ReadingBack = record {
      again = c.lines_are_read_as_said.ensures;
      entries = c.said_lines_are_entries.ensures;
      tables = c.tables_are_what_is_shown.ensures;
      texts = c.lines_show_texts.ensures;
      legible = c.entries_are_legible.ensures.entries;
      table = c.entries_are_legible.ensures.table;
      judged = c.kept_rules_answer_yes.ensures.parts;
    } in
    let laws : Keeping = record {
      back = back;
      stories = c.every_story_keeps_laws.ensures;
      asked = c.accepted_orders_were_asked.ensures;
      answered = c.lines_are_answered.ensures.whole;
      shown = λ keys devices lines are apart. c.lines_show_what_is_kept.ensures.devices keys devices lines false are (λ whole. absurd cc) apart;
      whole = c.changes_are_entered_whole.ensures;
      begun = c.sessions_begin_before_changes.ensures;
      lines = c.frames_keep_the_rule_of_the_air.ensures.legible;
      carries = c.lines_carry_units.ensures;
      stores = c.values_are_stored_directly.ensures;
      rules = c.laws_keep_every_rule.ensures;
    } in
    answers laws key old new story unentered (subst (λ (status : Status). Tells status false key old new story unentered) is tells) good
