-- A word that is no hex, and a word after one that is.
use Rattle.std.proofs.Common.{◌∙◌, sym}
use Rattle.zw_words.specs.Forms.{hex_in}
use Rattle.zw_words.specs.Words.{words}
use Rattle.zw_words.proofs.FormLaws.{hex_bad, hex_some}
use Rattle.zw_words.proofs.FieldLaws.{last_bad, last_extra}
use Rattle.zw_words.proofs.fields.last_hex.Goals as goal

pub returns-then-not-is_hex : goal.returns-then-not-is_hex
returns-then-not-is_hex c =
    last_bad (hex_in c.args.least c.args.most) (words c.args.text.now) c.in_ok-word.word.now (words c.in_ok-word.rest.now) c.in_ok-word.ensures.ok (hex_bad c.args.least c.args.most c.in_ok-word.word.now (sym c.is_hex.ensures ∙ c.if-not-is_hex.true))

pub returns-in-Err : goal.returns-in-Err
returns-in-Err c =
    let found = hex_some c.args.least c.args.most c.in_ok-word.word.now (sym c.is_hex.ensures ∙ c.if-not-is_hex.false) in
    last_extra (hex_in c.args.least c.args.most) (words c.args.text.now) c.in_ok-word.word.now (words c.in_ok-word.rest.now) found.0 c.in-Err.fault c.in_ok-word.ensures.ok found.1 c.in-Err.ensures
