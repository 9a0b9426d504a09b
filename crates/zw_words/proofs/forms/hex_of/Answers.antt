-- Hex digits in pairs always stand for bytes.
use Rattle.std.proofs.Common.{◌∙◌, sym}
use Rattle.zw_words.proofs.FormLaws.{hex_good}
use Rattle.zw_words.proofs.forms.hex_of.Goals as goal

pub returns-in-Err-clause-err : goal.returns-in-Err-clause-err
returns-in-Err-clause-err c = hex_good c.args.least c.args.most c.args.word.now (sym c.is_hex.ensures ∙ c.if-not-is_hex.false)
