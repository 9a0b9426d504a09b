use Rattle.std.proofs.Common.{◌∙◌, ap}
use Rattle.std.proofs.lemmas.Result.{IfOk-weaker}
use Rattle.serde_json.specs.Written.{compact_text, has_float}
use Rattle.value_store.proofs.Floats.{no_float}
use Rattle.value_store.proofs.json.print.Goals as goal

-- no number is a float, so the text is the compact one
pub returns : goal.returns
returns c =
    let plain = ap has_float c.in_ok-node_value.ensures ∙ no_float c.args.node c.args.held.now in
    let text = c.in_ok-text.ensures.text plain in
    IfOk-weaker c.from_slice.result _ _ (λ v h. h ∙ c.as_bytes.ensures.value ∙ text ∙ ap compact_text c.in_ok-node_value.ensures) c.from_slice.ensures
