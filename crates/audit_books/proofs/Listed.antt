-- Settings at their places.
use Rattle.std.proofs.Common.{◌≡◌, ℕ, zero, suc, ◌<◌, ◌≤◌, ◌+◌, eqb, Bool, true, false, List, [], ◌∷◌, length, drop, get_or, Option, Some, None, arith, ap, refl, sym, subst, ◌∙◌}
use Rattle.std.specs.Prelude.{◌&&◌, slice_get}
use Rattle.std.specs.Cmp.Lexicographic.{slice_cmp}
use Rattle.std.proofs.lemmas.Bool.{false≢true}
use Rattle.std.proofs.lemmas.Bool.Decides.{leb_tells}
use Rattle.std.specs.FinMap.{nat_cmp-IsAntisymmetric, slice_cmp-IsAntisymmetric}
use Rattle.std.specs.Ordering.{is_eq, nat_cmp}
use Rattle.std.specs.declared.cmp.Ordering.{Ordering}
use Rattle.std.specs.declared.cmp.Ordering.TheVariants.{Less, Equal, Greater}
use Rattle.std.proofs.lemmas.Option.{none-some as none-is-some}
use Rattle.zw_base.specs.PropertyOrder.{name_rank_of, rank_of}
use Rattle.zw_base.specs.declared.property.Name.{Name}
use Rattle.zw_base.specs.declared.property.Name.TheVariants as names
use Rattle.zw_base.specs.declared.property.Property.{Property}
use Rattle.zw_base.specs.declared.property.Setting.{Setting}
use Rattle.zw_text.specs.Fits.{NameFits, PropertyFits, SettingFits}
use Rattle.host_orders.specs.Settings.{config_settings, setting}
use Rattle.audit_books.specs.Asking.{IsNoneThere, is_named, is_there, same_setting, same_settings}

-- the setting of a parameter at its place
pub config-within : (end offset : ℕ) (values : List ℕ) (at : ℕ) → at < length values →
    slice_get (config_settings end offset values) at ≡ Some (setting end (names.Config (offset + at)) (get_or values at 0))
config-within end offset [] at within = absurd (omega (arith, within))
config-within end offset (first ∷ values) zero within =
    let e : offset ≡ offset + 0 = omega arith in
    ap (λ p. Some (setting end (names.Config p) first)) e
config-within end offset (first ∷ values) (suc at) within =
    let e : suc offset + at ≡ offset + suc at = omega arith in
    config-within end (suc offset) values at (omega (arith, within)) ∙ ap (λ p. Some (setting end (names.Config p) (get_or values at 0))) e

pub config-past : (end offset : ℕ) (values : List ℕ) (at : ℕ) → length values ≤ at → slice_get (config_settings end offset values) at ≡ None
config-past end offset [] at past = refl
config-past end offset (first ∷ values) zero past = absurd (omega (arith, past))
config-past end offset (first ∷ values) (suc at) past = config-past end (suc offset) values at (omega (arith, past))

pub none-there : (there : Option Setting) → there ≡ None → IsNoneThere there
none-there there e = subst IsNoneThere (sym e) tt

pub config-count : (end offset : ℕ) (values : List ℕ) → length (config_settings end offset values) ≡ length values
config-count end offset [] = refl
config-count end offset (value ∷ values) = ap suc (config-count end (suc offset) values)

-- ---- parameters that there are not

abbrev tail_from : List ℕ → List ℕ
tail_from [] = []
tail_from (x ∷ xs) = xs

name-below : (name : Name) (p : ℕ) → NameFits name → 256 ≤ p → 5 ∷ p ∷ [] ≡ name_rank_of name → ⊥
name-below names.Switch p fits high e = absurd (omega (arith, ap (λ l. get_or l 0 0) e))
name-below names.Level p fits high e = absurd (omega (arith, ap (λ l. get_or l 0 0) e))
name-below names.Lock p fits high e = absurd (omega (arith, ap (λ l. get_or l 0 0) e))
name-below names.Mode p fits high e = absurd (omega (arith, ap (λ l. get_or l 0 0) e))
name-below (names.Setpoint kind) p fits high e = absurd (omega (arith, ap (λ l. get_or l 0 0) e))
name-below (names.Config q) p fits high e = absurd (omega (arith, fits, high, ap (λ l. get_or l 1 0) e))
name-below (names.Member group node) p fits high e = absurd (omega (arith, ap (λ l. get_or l 0 0) e))
name-below names.Interval p fits high e = absurd (omega (arith, ap (λ l. get_or l 0 0) e))
name-below names.Sensor p fits high e = absurd (omega (arith, ap (λ l. get_or l 0 0) e))
name-below names.Battery p fits high e = absurd (omega (arith, ap (λ l. get_or l 0 0) e))

not-same : (end p : ℕ) (other : Property) → PropertyFits other → 256 ≤ p → (o : Ordering) →
    slice_cmp nat_cmp (end ∷ 5 ∷ p ∷ []) (rank_of other) ≡ o → is_eq o ≡ false
not-same end p other fits high Less e = refl
not-same end p other fits high Greater e = refl
not-same end p other fits high Equal e =
    absurd (name-below other.name p fits.1 high (ap tail_from (slice_cmp-IsAntisymmetric nat_cmp-IsAntisymmetric (end ∷ 5 ∷ p ∷ []) (rank_of other) e)))

none-beyond : (end p value : ℕ) → 256 ≤ p → (other : Setting) → SettingFits other → is_there (Some (setting end (names.Config p) value)) other ≡ false
none-beyond end p value high other fits =
    ap (λ b. b && eqb value other.value) (not-same end p other.property fits.0 high (slice_cmp nat_cmp (end ∷ 5 ∷ p ∷ []) (rank_of other.property)) refl)

none-named : (made : Setting) (name : Name) → made.property.name ≡ name → is_named name ≡ false →
    (other : Setting) → SettingFits other → same_setting made other ≡ false
none-named made (names.Config p) is none other fits =
    ap (λ (n : Name). is_eq (slice_cmp nat_cmp (made.property.end ∷ name_rank_of n) (rank_of other.property)) && eqb made.value other.value) is
    ∙ none-beyond made.property.end p made.value (grind (arith, none, leb_tells (suc p) 256)) other fits
none-named made name is none other fits = absurd (false≢true (sym none))

-- a setting in range is not there
pub none-fits : (there : Option Setting) → IsNoneThere there → (other : Setting) → SettingFits other → is_there there other ≡ false
none-fits None none other fits = refl
none-fits (Some made) none other fits = none-named made made.property.name refl none other fits

-- ---- lists of settings, one by one

abbrev some_or : {A : Type 0} → A → Option A → A
some_or d None = d
some_or d (Some x) = x

drop-nil : {A : Type 0} (n : ℕ) → drop {A = A} n [] ≡ []
drop-nil zero = refl
drop-nil (suc n) = refl

pub same-step : (xs ys : List Setting) (at : ℕ) (y : Setting) → slice_get ys at ≡ Some y →
    same_settings (drop at xs) (drop at ys) ≡ (is_there (slice_get xs at) y && same_settings (drop (suc at) xs) (drop (suc at) ys))
same-step [] [] at y e = absurd (none-is-some y e)
same-step (x ∷ xs) [] at y e = absurd (none-is-some y e)
same-step [] (z ∷ ys) zero y e = refl
same-step [] (z ∷ ys) (suc at) y e = sym (ap (λ l. same_settings l (drop at ys)) (drop-nil at)) ∙ same-step [] ys at y e
same-step (x ∷ xs) (z ∷ ys) zero y e = ap (λ s. same_setting x s && same_settings xs ys) (ap (some_or z) e)
same-step (x ∷ xs) (z ∷ ys) (suc at) y e = same-step xs ys at y e

and-false : (b : Bool) → (b && false) ≡ false
and-false true = refl
and-false false = refl

pub same-length : (xs ys : List Setting) → (length ys ≡ length xs → ⊥) → same_settings xs ys ≡ false
same-length [] [] ne = absurd (ne refl)
same-length [] (y ∷ ys) ne = refl
same-length (x ∷ xs) [] ne = refl
same-length (x ∷ xs) (y ∷ ys) ne = ap (λ b. same_setting x y && b) (same-length xs ys (λ e. ne (omega (arith, e)))) ∙ and-false (same_setting x y)

got : (ys : List Setting) (at : ℕ) (y : Setting) → at < length ys → y ≡ get_or ys at y → slice_get ys at ≡ Some y
got [] at y within is = absurd (omega (arith, within))
got (x ∷ ys) zero y within is = ap Some (sym is)
got (x ∷ ys) (suc at) y within is = got ys at y (omega (arith, within)) is

pub same-more : (xs ys : List Setting) (at n : ℕ) (y : Setting) → at < length ys → y ≡ get_or ys at y → true ≡ is_there (slice_get xs at) y → n ≡ at + 1 →
    same_settings (drop at xs) (drop at ys) ≡ same_settings (drop n xs) (drop n ys)
same-more xs ys at n y within is there next =
    let e : suc at ≡ n = omega (arith, next) in
    same-step xs ys at y (got ys at y within is)
    ∙ ap (λ b. b && same_settings (drop (suc at) xs) (drop (suc at) ys)) (sym there)
    ∙ ap (λ k. same_settings (drop k xs) (drop k ys)) e

pub same-none : (xs ys : List Setting) (at : ℕ) (y : Setting) → at < length ys → y ≡ get_or ys at y → false ≡ is_there (slice_get xs at) y →
    same_settings (drop at xs) (drop at ys) ≡ false
same-none xs ys at y within is there =
    same-step xs ys at y (got ys at y within is) ∙ ap (λ b. b && same_settings (drop (suc at) xs) (drop (suc at) ys)) (sym there)

-- ---- each of the first ones
