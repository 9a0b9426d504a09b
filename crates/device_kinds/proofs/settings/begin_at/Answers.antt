-- What comes after the setting that was put in last comes after all before it.
use Rattle.std.proofs.Common.{◌≡◌, get_or, sym, ◌∙◌, ap, below_more}
use Rattle.std.proofs.lemmas.Option.{get_or_from_slice_get}
use Rattle.zw_base.specs.declared.property.Setting.{Setting}
use Rattle.device_kinds.specs.Settings.{property_cmp}
use Rattle.device_kinds.specs.Places.{IsAfter}
use Rattle.device_kinds.proofs.settings.begin_at.Goals as goal

pub returns-in-Greater-clause-before : goal.returns-in-Greater-clause-before
returns-in-Greater-clause-before c =
    let here : IsAfter c.args.settings.now c.args.property.now c.args.last =
    λ setting e.
    let same : get_or c.args.settings.now c.args.last c.index-settings-last.result ≡ setting =
    get_or_from_slice_get c.args.settings.now c.args.last setting c.index-settings-last.result e in
    ap (λ (x : Setting). property_cmp c.args.property.now x.property) (sym same) ∙ sym c.in-Greater.ensures in
    below_more (λ k. IsAfter c.args.settings.now c.args.property.now k) c.args.last (c.requires c.args.property.now here) here
