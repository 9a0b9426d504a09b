use Rattle.std.proofs.Common.{◌∙◌, ap}
use Rattle.serde_json.specs.Written.{compact_text, has_float}
use Rattle.host_keep.specs.RecordText.{row_text}
use Rattle.host_keep.proofs.RowTexts.{no_float}
use Rattle.host_keep.proofs.writing.write_row.Goals as goal

-- no number is a float, so the text is the compact one
pub returns : goal.returns
unfolding row_text
returns c =
    let plain = ap has_float c.in_ok-row_value.ensures ∙ no_float c.args.numbers.now in
    let text = c.in_ok-text.ensures.text plain in
    c.of.ensures ∙ text ∙ ap compact_text c.in_ok-row_value.ensures
