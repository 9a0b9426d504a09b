-- A setting at its place.
use Rattle.std.proofs.Common.{◌≡◌, ◌≢◌, ℕ, zero, suc, ◌<◌, ◌≤◌, List, [], ◌∷◌, length, true, false, Some, refl, sym, ap, ◌∙◌, arith}
use Rattle.std.specs.Prelude.{slice_get, slice_set, insert}
use Rattle.std.specs.Ordering.{is_eq, ordering_reverse}
use Rattle.std.specs.declared.cmp.Ordering.{Ordering}
use Rattle.std.specs.declared.cmp.Ordering.TheVariants.{Less, Equal, Greater}
use Rattle.std.specs.Cmp.{IsTotalOrder}
use Rattle.std.proofs.lemmas.Cmp.{nat_list_cmp_total, on_total}
use Rattle.zw_base.specs.PropertyOrder.{same_property, rank_of}
use Rattle.zw_base.specs.declared.property.Property.{Property}
use Rattle.zw_base.specs.declared.property.Setting.{Setting}
use Rattle.device_kinds.specs.Settings.{property_cmp, by_order, with_setting}
use Rattle.device_kinds.specs.Places.{IsAfter, IsLed, IsNotAfter}

-- the settings before the place come before
below : (first : Setting) (settings : List Setting) (property : Property) (at : ℕ) → ((k : ℕ) → k < suc at → IsAfter (first ∷ settings) property k)
    → (k : ℕ) → k < at → IsAfter settings property k
below first settings property at before k less = before (suc k) (omega arith)

not_greater : (o : Ordering) (s x : Setting) (xs more : List Setting) → o ≢ Greater → is_eq o ≡ false → by_order o (s ∷ x ∷ xs) (s ∷ xs) more ≡ s ∷ x ∷ xs
not_greater Less s x xs more g e = refl
not_greater Equal s x xs more g e = let bad : true ≡ false = e in absurd (cc)
not_greater Greater s x xs more g e = absurd (g refl)

is_equal : (o : Ordering) (s x : Setting) (xs more : List Setting) → is_eq o ≡ true → by_order o (s ∷ x ∷ xs) (s ∷ xs) more ≡ s ∷ xs
is_equal Less s x xs more e = let bad : false ≡ true = e in absurd (cc)
is_equal Equal s x xs more e = refl
is_equal Greater s x xs more e = let bad : false ≡ true = e in absurd (cc)

pub put_new : (settings : List Setting) (setting : Setting) (at : ℕ) → at ≤ length settings
    → ((k : ℕ) → k < at → IsAfter settings setting.property k)
    → (at < length settings → IsNotAfter settings setting.property at)
    → ((x : Setting) → slice_get settings at ≡ Some x → same_property setting.property x.property ≡ false)
    → insert settings at setting ≡ with_setting settings setting
put_new [] setting zero within before here other = refl
put_new [] setting (suc at) within before here other = absurd (omega arith)
put_new (first ∷ settings) setting zero within before here other =
    sym (not_greater (property_cmp setting.property first.property) setting first settings (first ∷ with_setting settings setting)
    (here (omega arith) first refl) (other first refl))
put_new (first ∷ settings) setting (suc at) within before here other =
    let after : property_cmp setting.property first.property ≡ Greater = before zero (omega arith) first refl in
    let rest = put_new settings setting at (omega arith) (below first settings setting.property at before) (λ less. here (omega arith)) other in
    rw (after) (ap (λ (x : List Setting). first ∷ x) rest)

pub put_over : (settings : List Setting) (setting : Setting) (at : ℕ) → at < length settings
    → ((k : ℕ) → k < at → IsAfter settings setting.property k)
    → ((x : Setting) → slice_get settings at ≡ Some x → same_property setting.property x.property ≡ true)
    → slice_set settings at setting ≡ with_setting settings setting
put_over [] setting at within before same = absurd (omega arith)
put_over (first ∷ settings) setting zero within before same =
    sym (is_equal (property_cmp setting.property first.property) setting first settings (first ∷ with_setting settings setting) (same first refl))
put_over (first ∷ settings) setting (suc at) within before same =
    let after : property_cmp setting.property first.property ≡ Greater = before zero (omega arith) first refl in
    let rest = put_over settings setting at (omega arith) (below first settings setting.property at before) same in
    rw (after) (ap (λ (x : List Setting). first ∷ x) rest)

-- ---- the setting that was put in last

laws : IsTotalOrder property_cmp
laws = on_total rank_of nat_list_cmp_total

after-trans : (first second third : Property) → property_cmp first second ≡ Greater → property_cmp second third ≡ Greater → property_cmp first third ≡ Greater
after-trans first second third one two =
    laws.antisymm first third
    ∙ ap ordering_reverse (laws.trans third second first (laws.antisymm third second ∙ ap ordering_reverse two) (laws.antisymm second first ∙ ap ordering_reverse one))

at-insert : (settings : List Setting) (setting : Setting) (at : ℕ) → at ≤ length settings → slice_get (insert settings at setting) at ≡ Some setting
at-insert [] setting zero within = refl
at-insert [] setting (suc at) within = absurd (omega arith)
at-insert (first ∷ settings) setting zero within = refl
at-insert (first ∷ settings) setting (suc at) within = at-insert settings setting at (omega arith)

under-insert : (settings : List Setting) (setting x : Setting) (at k : ℕ) → at ≤ length settings → k < at
    → slice_get (insert settings at setting) k ≡ Some x → slice_get settings k ≡ Some x
under-insert [] setting x at k within less e = absurd (omega arith)
under-insert (first ∷ settings) setting x zero k within less e = absurd (omega arith)
under-insert (first ∷ settings) setting x (suc at) zero within less e = e
under-insert (first ∷ settings) setting x (suc at) (suc k) within less e = under-insert settings setting x at k (omega arith) (omega arith) e

at-over : (settings : List Setting) (setting : Setting) (at : ℕ) → at < length settings → slice_get (slice_set settings at setting) at ≡ Some setting
at-over [] setting at within = absurd (omega arith)
at-over (first ∷ settings) setting zero within = refl
at-over (first ∷ settings) setting (suc at) within = at-over settings setting at (omega arith)

under-over : (settings : List Setting) (setting x : Setting) (at k : ℕ) → at < length settings → k < at
    → slice_get (slice_set settings at setting) k ≡ Some x → slice_get settings k ≡ Some x
under-over [] setting x at k within less e = absurd (omega arith)
under-over (first ∷ settings) setting x zero k within less e = absurd (omega arith)
under-over (first ∷ settings) setting x (suc at) zero within less e = e
under-over (first ∷ settings) setting x (suc at) (suc k) within less e = under-over settings setting x at k (omega arith) (omega arith) e

-- what comes after a setting that was put in comes after all before it
pub led_new : (settings : List Setting) (setting : Setting) (at : ℕ) → at ≤ length settings
    → ((k : ℕ) → k < at → IsAfter settings setting.property k) → IsLed (insert settings at setting) at
led_new settings setting at within before property after k less x e =
    after-trans property setting.property x.property (after setting (at-insert settings setting at within))
    (before k less x (under-insert settings setting x at k within less e))

pub led_over : (settings : List Setting) (setting : Setting) (at : ℕ) → at < length settings
    → ((k : ℕ) → k < at → IsAfter settings setting.property k) → IsLed (slice_set settings at setting) at
led_over settings setting at within before property after k less x e =
    after-trans property setting.property x.property (after setting (at-over settings setting at within))
    (before k less x (under-over settings setting x at k within less e))

-- nothing comes before the first
pub led_start : (settings : List Setting) → IsLed settings 0
led_start settings property after k less = absurd (omega (arith, less))
