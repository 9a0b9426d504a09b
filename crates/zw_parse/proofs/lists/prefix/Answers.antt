-- The words but the last.
use Rattle.zw_parse.proofs.Pieces.{prefix-over}
use Rattle.zw_parse.proofs.lists.prefix.Goals as goal

pub returns-in-len1-up : goal.returns-in-len1-up
returns-in-len1-up c = prefix-over c.args.words.now
