use Rattle.std.proofs.Common.{◌≡◌, ◌∙◌, rules, ap, ap₂, codes}
use Rattle.clap.specs.Walk.{rule_of}
use Rattle.clap.specs.Simple.{app_of, new_app, with_rule}
use Rattle.run_words.specs.Asked.{has_text}
use Rattle.run_words.specs.Commands.{quiet_flag}
use Rattle.run_words.specs.declared.asked.Asked.TheVariants.{Sim}
use Rattle.run_words.proofs.commands.read_sim.Goals as goal

pub returns : goal.returns
returns c =
    let flag_is : rule_of c.action-quiet.result ≡ quiet_flag = search rules in
    let line_is : app_of c.in_ok-arg.field-0 ≡ with_rule (new_app (codes "sim")) quiet_flag =
    c.in_ok-arg.ensures.shape (search rules) ∙ ap₂ with_rule c.new-2.ensures.app flag_is in
    let parses = c.in_ok-matches.ensures.parses in
    record {
      line = app_of c.in_ok-arg.field-0;
      is_line = line_is;
      answers = (parses.0, ap Sim (c.has_text-quiet.ensures ∙ ap (has_text (codes "quiet") (codes "true")) parses.1));
    }
