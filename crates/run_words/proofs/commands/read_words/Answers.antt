use Rattle.run_words.specs.Parsing.{texts_of}
use Rattle.run_words.proofs.ValidWords.{of_first, valid_words}
use Rattle.run_words.proofs.commands.read_words.Goals as goal

pub returns-clause-valid : goal.returns-clause-valid
returns-clause-valid c =
    λ asked are. valid_words asked (texts_of c.args.words.now) c.read_command.result
    (of_first c.args.words.now c.word-item.result c.as_str.result.now c.read_command.result c.in-len1-up.len_at_least c.word-item.is c.as_str.ensures.value c.read_command.ensures) are
