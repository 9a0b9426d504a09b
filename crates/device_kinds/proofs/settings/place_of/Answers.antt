use Rattle.std.proofs.Common.{◌≡◌, get_or, sym, ◌∙◌, ap, below_more}
use Rattle.std.proofs.lemmas.Option.{get_or_from_slice_get}
use Rattle.zw_base.specs.declared.property.Setting.{Setting}
use Rattle.device_kinds.specs.Settings.{property_cmp}
use Rattle.device_kinds.specs.Places.{IsAfter}
use Rattle.device_kinds.proofs.settings.place_of.Goals as goal

pub loop-i-preserved : goal.loop-i-preserved
loop-i-preserved c =
    below_more (λ k. IsAfter c.args.settings.now c.args.property.now k) c.loop-i.i c.loop-i.invariant
    (λ setting e.
    let same : get_or c.args.settings.now c.loop-i.i c.index-settings-i.result ≡ setting =
    get_or_from_slice_get c.args.settings.now c.loop-i.i setting c.index-settings-i.result e in
    ap (λ (x : Setting). property_cmp c.args.property.now x.property) (sym same) ∙ sym c.in-Greater.ensures)
