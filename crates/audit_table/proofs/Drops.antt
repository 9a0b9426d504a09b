-- Settings and commands from a place on.
use Rattle.std.proofs.Common.{◌≡◌, ℕ, zero, suc, ◌<◌, ◌+◌, cond, Bool, true, false, List, [], ◌∷◌, length, drop, get_or, Option, Some, None, arith, ap, add-one, drop-cons, refl, sym, subst, ◌∙◌}
use Rattle.std.specs.Prelude.{filter, slice_get}
use Rattle.zw_base.specs.declared.property.Setting.{Setting}
use Rattle.audit_books.specs.Asking.{IsNoneThere, is_setting}
use Rattle.audit_table.specs.Knowing.{Knowns, with_commands, with_settings}

none-some : {A : Type 0} {x : A} → None ≡ Some x → ⊥
none-some {A} {x} e = subst G e tt
  where
    G : Option A → Type 0
    G None = Unit {0}
    G (Some y) = ⊥

abbrev or_some : {A : Type 0} → A → Option A → A
or_some d None = d
or_some d (Some z) = z

drop-next : {A : Type 0} (items : List A) (at : ℕ) (x : A) → slice_get items at ≡ Some x → drop at items ≡ x ∷ drop (suc at) items
drop-next [] at x is = absurd (none-some is)
drop-next (y ∷ items) zero x is = ap (λ z. z ∷ items) (ap (or_some y) is)
drop-next (y ∷ items) (suc at) x is = drop-next items at x is

drop-there : {A : Type 0} (items : List A) (at : ℕ) (x : A) → slice_get items at ≡ Some x → drop at items ≡ x ∷ drop (at + 1) items
drop-there items at x is = drop-next items at x is ∙ ap (λ (n : ℕ). x ∷ drop n items) (sym (add-one at))

settings-cond : (knowns : Knowns) (one : Setting) (rest : List Setting) (b : Bool) → is_setting one ≡ b →
    with_settings knowns (filter is_setting (one ∷ rest)) ≡ with_settings knowns (cond b (one ∷ filter is_setting rest) (filter is_setting rest))
settings-cond knowns one rest b is = ap (λ c. with_settings knowns (cond c (one ∷ filter is_setting rest) (filter is_setting rest))) is

-- one that there is
pub settings-one : (knowns : Knowns) (settings : List Setting) (at : ℕ) (one : Setting) → slice_get settings at ≡ Some one → is_setting one ≡ true →
    with_settings knowns (filter is_setting (drop at settings)) ≡ with_settings knowns (one ∷ filter is_setting (drop (at + 1) settings))
settings-one knowns settings at one there is =
    ap (λ l. with_settings knowns (filter is_setting l)) (drop-there settings at one there) ∙ settings-cond knowns one (drop (at + 1) settings) true is

-- one that no device may have
pub settings-none : (knowns : Knowns) (settings : List Setting) (at : ℕ) → at < length settings → IsNoneThere (slice_get settings at) →
    with_settings knowns (filter is_setting (drop at settings)) ≡ with_settings knowns (filter is_setting (drop (at + 1) settings))
settings-none knowns settings at within none = by (slice_get settings at) refl none
  where
    past : {A : Type 0} (l : List A) (k : ℕ) → k < length l → slice_get l k ≡ None → ⊥
    past [] k low e = omega (arith, low)
    past (x ∷ l) zero low e = some-none e
      where
        some-none : {A : Type 0} {x : A} → Some x ≡ None → ⊥
        some-none {A} {x} e = subst G e tt
          where
            G : Option A → Type 0
            G None = ⊥
            G (Some y) = Unit {0}
    past (x ∷ l) (suc k) low e = past l k (omega (arith, low)) e

    by : (there : Option Setting) → slice_get settings at ≡ there → IsNoneThere there →
        with_settings knowns (filter is_setting (drop at settings)) ≡ with_settings knowns (filter is_setting (drop (at + 1) settings))
    by None is unnamed = absurd (past settings at within is)
    by (Some one) is unnamed =
        ap (λ l. with_settings knowns (filter is_setting l)) (drop-there settings at one is) ∙ settings-cond knowns one (drop (at + 1) settings) false unnamed

pub commands-at : (knowns : Knowns) (f : ℕ → List Setting) (commands : List ℕ) (at : ℕ) → at < length commands →
    with_commands knowns f (drop at commands) ≡ with_commands (with_settings knowns (f (get_or commands at 0))) f (drop (at + 1) commands)
commands-at knowns f commands at within =
    ap (with_commands knowns f) (drop-cons commands at 0 within)
    ∙ ap (λ (n : ℕ). with_commands (with_settings knowns (f (get_or commands at 0))) f (drop n commands)) (sym (add-one at))
