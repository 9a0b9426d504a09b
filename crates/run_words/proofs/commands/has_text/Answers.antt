use Rattle.std.proofs.Common.{Some, None, ◌∙◌}
use Rattle.clap.specs.Matches.{found_of}
use Rattle.run_words.proofs.Lines.{has_text-is}
use Rattle.run_words.proofs.commands.has_text.Goals as goal

pub returns-in-Some : goal.returns-in-Some
returns-in-Some c =
    c.eq.ensures ∙ has_text-is (found_of c.args.matches.now) c.args.argument.now c.args.text.now (Some c.in-Some.found.now) (rw c.in-Some.is at c.get_str.ensures)

pub returns-in-None : goal.returns-in-None
returns-in-None c = has_text-is (found_of c.args.matches.now) c.args.argument.now c.args.text.now None (rw c.in-None.is at c.get_str.ensures)
