-- Commands that are judged one after another.
use Rattle.std.proofs.Common.{◌≡◌, ℕ, List, ◌∷◌, refl}
use Rattle.zw_base.specs.declared.property.Property.{Property}
use Rattle.zw_base.specs.declared.property.Setting.{Setting}
use Rattle.class_info.specs.InfoReading.{info_at}
use Rattle.device_kinds.specs.declared.kind.Kind.{Kind}
use Rattle.device_kinds.specs.declared.verdict.Verdict.TheVariants.{Makes}
use Rattle.device_kinds.specs.Values.{value_by}
use Rattle.device_kinds.specs.Settings.{merged}
use Rattle.device_kinds.specs.Judging.{judged, judged_all}

-- one that makes settings is followed by the others, with these made
pub judged_step : (kind : Kind) (values : Property → ℕ) (last end : ℕ) (made made' settings : List Setting) (command : List ℕ) (commands rest : List (List ℕ))
    → judged kind (λ property. value_by made property (values property)) last end (info_at command) ≡ Makes settings
    → made' ≡ merged made settings → commands ≡ command ∷ rest
    → judged_all kind values last end made' rest ≡ judged_all kind values last end made commands
judged_step kind values last end made made' settings command commands rest v m d = rw (m, d, v) refl
