use Rattle.std.proofs.Common.{◌≡◌, ◌≤◌, ◌<◌, ℕ, List, length, false, Some, sym, ◌∙◌, ap, subst, arith}
use Rattle.std.specs.Prelude.{slice_get}
use Rattle.std.proofs.lemmas.Option.{get_or_from_slice_get, slice_get_within}
use Rattle.zw_base.specs.PropertyOrder.{same_property}
use Rattle.zw_base.specs.declared.property.Setting.{Setting}
use Rattle.device_kinds.specs.Places.{IsAfter, IsLed, IsNotAfter}
use Rattle.device_kinds.proofs.PlaceLemmas.{led_new, led_over, put_new, put_over}
use Rattle.device_kinds.proofs.settings.place.Goals as goal
use Rattle.device_kinds.proofs.settings.place.Goals.{else-at-len-via-then-at-len+else-is_same, else-at-len-via-else-at-len}

pub returns-then-is_same-clause-placed : goal.returns-then-is_same-clause-placed
returns-then-is_same-clause-placed c =
    let s : c.as_slice-2.result.now ≡ c.args.settings.now.items = c.as_slice-2.ensures.value in
    let len : length c.as_slice-2.result.now ≡ length c.args.settings.now.items = ap length s in
    let within : c.place_of-at.result < length c.args.settings.now.items = omega arith in
    put_over c.args.settings.now.items c.args.setting c.place_of-at.result within
    (subst (λ (xs : List Setting). (k : ℕ) → k < c.place_of-at.result → IsAfter xs c.args.setting.property k) s c.place_of-at.ensures.before)
    (λ x e.
    let same : c.index.result.now ≡ x = c.index.ensures ∙ get_or_from_slice_get c.args.settings.now.items c.place_of-at.result x c.index.result.now e in
    ap (λ (y : Setting). same_property c.args.setting.property y.property) (sym same) ∙ sym c.if-is_same.ensures)

pub returns-in_ok-insert-clause-placed : goal.returns-in_ok-insert-clause-placed
returns-in_ok-insert-clause-placed c =
    let s : c.as_slice-2.result.now ≡ c.args.settings.now.items = c.as_slice-2.ensures.value in
    let len : length c.as_slice-2.result.now ≡ length c.args.settings.now.items = ap length s in
    let within : c.place_of-at.result ≤ length c.args.settings.now.items = omega arith in
    let other : (x : Setting) → slice_get c.args.settings.now.items c.place_of-at.result ≡ Some x → same_property c.args.setting.property x.property ≡ false =
    elim c.else-at-len.branch [
      | else-at-len-via-then-at-len+else-is_same w ↦
          λ x e.
          let same : w.index.result.now ≡ x = w.index.ensures ∙ get_or_from_slice_get c.args.settings.now.items c.place_of-at.result x w.index.result.now e in
          ap (λ (y : Setting). same_property c.args.setting.property y.property) (sym same) ∙ sym w.if-is_same.ensures
      | else-at-len-via-else-at-len w ↦
          λ x e. absurd (omega (arith, slice_get_within c.args.settings.now.items c.place_of-at.result x e))
    ] in
    c.in_ok-insert.ensures.items
    ∙ put_new c.args.settings.now.items c.args.setting c.place_of-at.result within
    (subst (λ (xs : List Setting). (k : ℕ) → k < c.place_of-at.result → IsAfter xs c.args.setting.property k) s c.place_of-at.ensures.before)
    (subst (λ (xs : List Setting). c.place_of-at.result < length xs → IsNotAfter xs c.args.setting.property c.place_of-at.result) s c.place_of-at.ensures.here)
    other

-- what comes after the setting that was put in comes after all before it
pub returns-then-is_same-clause-led : goal.returns-then-is_same-clause-led
returns-then-is_same-clause-led c =
    let s : c.as_slice-2.result.now ≡ c.args.settings.now.items = c.as_slice-2.ensures.value in
    let len : length c.as_slice-2.result.now ≡ length c.args.settings.now.items = ap length s in
    let within : c.place_of-at.result < length c.args.settings.now.items = omega arith in
    led_over c.args.settings.now.items c.args.setting c.place_of-at.result within
    (subst (λ (xs : List Setting). (k : ℕ) → k < c.place_of-at.result → IsAfter xs c.args.setting.property k) s c.place_of-at.ensures.before)

pub returns-in_ok-insert-clause-led : goal.returns-in_ok-insert-clause-led
returns-in_ok-insert-clause-led c =
    let s : c.as_slice-2.result.now ≡ c.args.settings.now.items = c.as_slice-2.ensures.value in
    let len : length c.as_slice-2.result.now ≡ length c.args.settings.now.items = ap length s in
    let within : c.place_of-at.result ≤ length c.args.settings.now.items = omega arith in
    subst (λ (xs : List Setting). IsLed xs c.place_of-at.result) (sym c.in_ok-insert.ensures.items)
    (led_new c.args.settings.now.items c.args.setting c.place_of-at.result within
    (subst (λ (xs : List Setting). (k : ℕ) → k < c.place_of-at.result → IsAfter xs c.args.setting.property k) s c.place_of-at.ensures.before))
